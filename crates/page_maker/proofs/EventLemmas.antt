-- One more event, with its comma.
use Rattle.std.proofs.Common.{◌≡◌, ◌∙◌, ap, ℕ, suc, ◌+◌, List, ◌++◌, append_assoc}
use Rattle.std.specs.Prelude.{codes}
use Rattle.page_maker.specs.Generator.{drawn}
use Rattle.page_maker.specs.Events.{event, events}

pub one_more : (parts made chosen : ℕ) (before now with_event with_comma : List ℕ) → chosen ≡ drawn (parts + suc made) → now ≡ before ++ events parts made → with_event ≡ now ++ event parts chosen
    → with_comma ≡ with_event ++ codes "," → with_comma ≡ before ++ events parts (suc made)
one_more parts made chosen before now with_event with_comma a b c d =
    let y = drawn (parts + suc made) in
    d ∙ ap (λ (l : List ℕ). l ++ codes ",") (c ∙ ap (λ (l : List ℕ). l ++ event parts chosen) b ∙ ap (λ (k : ℕ). before ++ events parts made ++ event parts k) a)
    ∙ append_assoc (before ++ events parts made) (event parts y) (codes ",")
    ∙ append_assoc before (events parts made) (event parts y ++ codes ",")
