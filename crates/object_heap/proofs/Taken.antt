-- An element at the top that is taken by its name goes without a look at the others.
use Rattle.std.proofs.Common.{◌≡◌, refl, sym, ap, subst, ◌∙◌, ℕ, ◌+◌, ◌<◌, ◌≤◌, Bool, true, false, List, [], ◌∷◌, Option, Some, None, bytes_eq, arith}
use Rattle.std.specs.Fmt.{decimal}
use Rattle.std.specs.Map.{lookup, remove_entry}
use Rattle.object_heap.specs.declared.property.Prop.{Prop}
use Rattle.object_heap.specs.Counted.{AreBelow, IsTaken, shrunk_props}
use Rattle.object_heap.specs.Define.{elements_below, end_kept, is_below}
use Rattle.object_heap.specs.Index.{index_end, index_of}
use Rattle.object_heap.specs.Property.{HasDistinctNames, Props, own_property}
use Rattle.object_heap.proofs.Counting.{Leaves, all_lower, filter_whole, kept_from, kept_within, one_gone}

-- an entry that is not there is not taken out
absent_stays : (test : List ℕ → Bool) (props : Props) → lookup test props ≡ None → remove_entry test props ≡ props
absent_stays test [] none = refl
absent_stays test (e ∷ es) none = by_case (test e.0) refl (absent_stays test es)
  where
    by_case : (b : Bool) → test e.0 ≡ b → (lookup test es ≡ None → remove_entry test es ≡ es) → remove_entry test (e ∷ es) ≡ e ∷ es
    by_case true h more = cc (rw h at none)
    by_case false h more = rw h (ap (λ r. e ∷ r) (more (rw h at none)))

pub taken : (end i : ℕ) (old new : Props) → end ≤ i → i < index_end → HasDistinctNames old → AreBelow (i + 1) old → IsTaken i old new → Leaves end i old new
taken end i old new low small distinct all take = by_case (own_property old (decimal i)) refl
  where
    by_case : (own : Option Prop) → own_property old (decimal i) ≡ own → Leaves end i old new
    by_case None none =
        let stays : old ≡ new = sym (take.gone ∙ absent_stays (bytes_eq (decimal i)) old none) in
        record { same = ap (shrunk_props end) (sym stays); below = subst (AreBelow i) stays (all_lower i old small none all) }
    by_case (Some p) found =
        subst (Leaves end i old) (sym take.gone) (one_gone end i p old low small distinct all found (take.free p found))

-- where all are below, nothing goes
pub none_left : (end : ℕ) (props : Props) → AreBelow end props → shrunk_props end props ≡ (props, end)
none_left end props below =
    let kept : end_kept end props ≡ end = omega (arith, kept_within end end props (omega arith) below, kept_from end props) in
    let stays : elements_below (end_kept end props) props ≡ props = filter_whole (λ x. is_below (end_kept end props) (index_of x.0)) props (subst (λ m. AreBelow m props) (sym kept) below) in
    (λ j. (stays j, kept j))
