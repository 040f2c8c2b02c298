-- Each path leads to its object: all at once by evaluating, and then at each place.
use Rattle.std.specs.Prelude.{◌≡◌, refl, ℕ, zero, suc, ◌+◌, ◌<◌, nat_le, Bool, true, List, [], ◌∷◌, Option, Some, None, IsSome, is_some, length, map, slice_get, slice_index_or}
use Rattle.std.specs.List.{list_all}
use Rattle.std.specs.Option.{option_map}
use Rattle.std.proofs.Common.{ap, subst, sym, ◌∙◌, arith}
use Rattle.std.proofs.lemmas.Bool.{leb-true}
use Rattle.std.proofs.lemmas.List.Sums.{AllPass-from_list_all}
use Rattle.std.proofs.lemmas.Option.{get_or_from_slice_get, slice_get-get_or, slice_get-map, slice_get_within}
use Rattle.page_meaning.specs.Places.{node_prototype_place, event_prototype_place, array_prototype_place, boolean_prototype_place, console_place, error_prototype_place, function_place, math_place, number_prototype_place, range_error_prototype_place, reference_error_prototype_place, string_prototype_place, type_error_prototype_place}
use Rattle.page_meaning.specs.Pristine.{built_ins}
use Rattle.built_in_paths.specs.Laws.{EachHasPath, PathsAreShort, PathsLead, longest}
use Rattle.built_in_paths.specs.Paths.{leads, path_of, paths}

pub path_count : length paths ≡ 122
unfolding paths
path_count = refl

pub object_count : length built_ins ≡ 122
object_count = refl

-- so many places, from one on
places_from : ℕ → ℕ → List (Option ℕ)
places_from k zero = []
places_from k (suc n) = Some k ∷ places_from (suc k) n

place_at : (k n i : ℕ) (found : Option ℕ) → slice_get (places_from k n) i ≡ Some found → found ≡ Some (k + i)
unfolding places_from
place_at k zero i found there = cc there
place_at k (suc n) zero found there =
    let same : k ≡ k + 0 = omega arith in
    cc (there, ap Some same)
place_at k (suc n) (suc i) found there =
    let same : suc k + i ≡ k + suc i = omega arith in
    place_at (suc k) n i found there ∙ ap Some same

-- where the paths lead, in their order
all_lead : map (leads built_ins) paths ≡ places_from 0 122
unfolding paths places_from node_prototype_place event_prototype_place array_prototype_place boolean_prototype_place console_place error_prototype_place function_place math_place number_prototype_place range_error_prototype_place reference_error_prototype_place string_prototype_place type_error_prototype_place
all_lead = refl

pub paths_lead : PathsLead
paths_lead k path there =
    let lead : List ℕ → Option ℕ = leads built_ins in
    let found : slice_get (places_from 0 122) k ≡ Some (lead path) =
    ap (λ xs. slice_get xs k) (sym all_lead) ∙ (slice_get-map lead paths k ∙ ap (option_map lead) there) in
    let same : 0 + k ≡ k = omega arith in
    place_at 0 122 k (lead path) found ∙ ap Some same

some_within : (k : ℕ) (found : Option (List ℕ)) → path_of k ≡ found → IsSome found → k < 122
unfolding paths
some_within k None there some = cc some
some_within k (Some path) there some = slice_get_within paths k path there

within_some : (k : ℕ) → k < 122 → IsSome (path_of k)
unfolding paths
within_some k within = ap is_some (slice_get-get_or paths k [] within)

pub each_has_path : EachHasPath
each_has_path k = (some_within k (path_of k) refl, within_some k)

is_short : List ℕ → Bool
is_short path = nat_le (length path) longest

all_short : list_all is_short paths ≡ true
unfolding paths is_short
all_short = refl

pub paths_are_short : PathsAreShort
unfolding is_short
paths_are_short k path there =
    let item : slice_index_or paths k path ≡ path = get_or_from_slice_get paths k path path there in
    let short : is_short path ≡ true =
    subst (λ p. is_short p ≡ true) item (AllPass-from_list_all is_short paths all_short k path (slice_get_within paths k path there)) in
    leb-true (length path) longest short
