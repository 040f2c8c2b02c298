-- What is asked of trees is asked for a larger naming, too.
use Rattle.std.proofs.Common.{◌≡◌, sym, ap, ◌∙◌, ℕ, Bool, List}
use Rattle.js_core.specs.Tree as tree
use Rattle.heap_relations.specs.Naming.{Frame, Larger, World}
use Rattle.agreement.specs.Opened.{HasTrees}
use Rattle.agreement.specs.Trees.{HasEqualTrees}

module _ {V W : World} (l : Larger V W) where
  pub opened_up : {d : tree.Code} (n : ℕ) (fs : List Frame) (c : tree.Code) → V.opened n fs c ≡ d → W.opened n fs c ≡ d
  opened_up n fs c e = ap (λ f. f n fs c) (sym l.opened) ∙ e

  pub fits_up : {b : Bool} (n : ℕ) (fs : List Frame) (c : tree.Code) → V.fits n fs c ≡ b → W.fits n fs c ≡ b
  fits_up n fs c e = ap (λ f. f n fs c) (sym l.fits) ∙ e

  -- these unfold, so that what is asked is seen to be the same
  abbrev pub equal_up : HasEqualTrees V → HasEqualTrees W
  equal_up h = record {
    opens = sym l.opens ∙ h.opens;
    opened = λ n fs c. opened_up n fs c (h.opened n fs c);
    fits = λ n fs c. fits_up n fs c (h.fits n fs c);
  }

  abbrev pub trees_up : HasTrees V → HasTrees W
  trees_up h = record {
    demand = h.demand;
    opens = sym l.opens ∙ h.opens;
    opened = λ n fs c. opened_up n fs c (h.opened n fs c);
    fits = λ n fs c. fits_up n fs c (h.fits n fs c);
    bases = λ e. sym l.bases ∙ h.bases e;
    opening = h.opening;
  }
