-- The test of the built-in global names.
use Rattle.std.proofs.Common.{◌≡◌, ◌↔◌, ℕ, List, Bool, IsTrue, sym, ◌∙◌}
use Rattle.std.proofs.lemmas.Cmp.{nat_list_eq_equiv}
use Rattle.std.proofs.lemmas.Map.Views.{list_any-from_Contains, Contains-from_any}
use Rattle.std.proofs.lemmas.Slice.Eq.{bytes_eq-Decides}
use Rattle.global_names.specs.Names.{global_names, names_global, IsGlobalName}

-- a test that gives what `names_global` gives decides membership
pub names_global-member : (name : List ℕ) (test : Bool) → test ≡ names_global name → IsTrue test ↔ IsGlobalName name
names_global-member name test same = (
  λ holds. Contains-from_any (λ x y. (bytes_eq-Decides x y).0) name global_names (sym same ∙ holds),
  λ member. same ∙ list_any-from_Contains nat_list_eq_equiv name global_names member,
)
