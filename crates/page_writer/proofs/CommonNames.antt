-- The names by which saved pages reach built-in objects are neither `eval` nor `arguments`, and do not begin with `$$`.
use Rattle.std.proofs.Common.{◌≡◌, refl, subst, ℕ, Bool, true, false, not, ◌&&◌, List, [], ◌∷◌, Some, codes}
use Rattle.std.specs.Prelude.{slice_index_or}
use Rattle.std.specs.List.{list_all}
use Rattle.std.proofs.lemmas.Bool.{and_parts, not-true}
use Rattle.std.proofs.lemmas.List.Sums.{AllPass-from_list_all}
use Rattle.std.proofs.lemmas.Option.{get_or_from_slice_get, slice_get_within}
use Rattle.built_in_paths.specs.Paths.{names_of, path_of, paths}
use Rattle.js_values.specs.Throw.{kind_name}
use Rattle.js_values.specs.declared.throw.ErrorKind.{ErrorKind}
use Rattle.js_values.specs.declared.throw.ErrorKind.TheVariants as fault
use Rattle.scope_analysis.specs.Identifiers.{is_reserved, is_restricted}

-- a name that the rules of names let pass
unfoldable pub is_common : List ℕ → Bool
is_common x = not (is_restricted x) && not (is_reserved x)

pub common_is_unrestricted : (x : List ℕ) → is_common x ≡ true → is_restricted x ≡ false
unfolding is_common
common_is_unrestricted x e = not-true (is_restricted x) (and_parts (not (is_restricted x)) (not (is_reserved x)) e).0

pub common_is_unreserved : (x : List ℕ) → is_common x ≡ true → is_reserved x ≡ false
unfolding is_common
common_is_unreserved x e = not-true (is_reserved x) (and_parts (not (is_restricted x)) (not (is_reserved x)) e).1

-- ---- the names of the statements

pub nan_is_common : is_common (codes "NaN") ≡ true
unfolding is_common
nan_is_common = refl

pub object_is_common : is_common (codes "Object") ≡ true
unfolding is_common
object_is_common = refl

pub document_is_common : is_common (codes "document") ≡ true
unfolding is_common
document_is_common = refl

pub set_timeout_is_common : is_common (codes "setTimeout") ≡ true
unfolding is_common
set_timeout_is_common = refl

pub clear_timeout_is_common : is_common (codes "clearTimeout") ≡ true
unfolding is_common
clear_timeout_is_common = refl

pub set_interval_is_common : is_common (codes "setIntervalFrom") ≡ true
unfolding is_common
set_interval_is_common = refl

pub kind_is_common : (k : ErrorKind) → is_common (kind_name k) ≡ true
unfolding is_common
kind_is_common fault.Plain = refl
kind_is_common fault.Type = refl
kind_is_common fault.Range = refl
kind_is_common fault.Reference = refl

-- ---- the names of paths

-- the first of these names is such a one
unfoldable pub begins_common : List (List ℕ) → Bool
begins_common [] = false
begins_common (x ∷ xs) = is_common x

pub begin_is_common : (x : List ℕ) (xs : List (List ℕ)) → begins_common (x ∷ xs) ≡ true → is_common x ≡ true
unfolding begins_common
begin_is_common x xs e = e

pub none_begin : begins_common [] ≡ false
unfolding begins_common
none_begin = refl

all_begin : list_all (λ path. begins_common (names_of path)) paths ≡ true
unfolding paths is_common begins_common
all_begin = refl

pub path_begins : (k : ℕ) (path : List ℕ) → path_of k ≡ Some path → begins_common (names_of path) ≡ true
path_begins k path there =
    let item : slice_index_or paths k path ≡ path = get_or_from_slice_get paths k path path there in
    subst (λ p. begins_common (names_of p) ≡ true) item
    (AllPass-from_list_all (λ p. begins_common (names_of p)) paths all_begin k path (slice_get_within paths k path there))
