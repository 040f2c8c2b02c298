-- Pieces that are appended one after another.
use Rattle.std.proofs.Common.{◌≡◌, ◌∙◌, ap, ℕ, List, ◌++◌, append_assoc, Result}
use Rattle.std.specs.Result.{OnOk}
use Rattle.std.proofs.lemmas.Result.{on_ok_weaker}

-- a piece, and what is appended after it
pub piece_and_more : {T E : Type 0} (r : Result T E) (before mid now piece more : List ℕ) → mid ≡ before ++ piece → OnOk r (now ≡ mid ++ more) → OnOk r (now ≡ before ++ (piece ++ more))
piece_and_more r before mid now piece more e h = on_ok_weaker r (λ f. f ∙ ap (λ l. l ++ more) e ∙ append_assoc before piece more) h
