-- Tables of texts.
use Rattle.std.specs.Prelude.{◌≡◌, ℕ, List, Option, Some, None, map, option_copied, slice_get}
use Rattle.std.specs.Slice.{IsItemAt}
use Rattle.std.proofs.Common.{ap, sym, ◌∙◌, Bor}
use Rattle.std.proofs.lemmas.Option.{slice_get_past, slice_get-get_or, slice_get-map}

-- what a reference to an item of the list points to
item_of : {X : Type 0} (xs : List X) (k : ℕ) (r : Option (Bor X)) → IsItemAt xs k r → option_copied r ≡ slice_get xs k
item_of xs k None item = sym (slice_get_past xs k item.3)
item_of xs k (Some x) item = sym (slice_get-get_or xs k x.now item.3.0 ∙ ap Some (sym item.1))

-- the text that a table of texts has there
pub text_of : (table : List (Bor (List ℕ))) (k : ℕ) (found : Option (Bor (Bor (List ℕ)))) (r : Option (Bor (List ℕ)))
    → r ≡ option_copied found → IsItemAt table k found → option_copied r ≡ slice_get (map (λ x. x.now) table) k
text_of table k found r same item = ap option_copied (same ∙ item_of table k found item) ∙ sym (slice_get-map (λ (x : Bor (List ℕ)). x.now) table k)
