-- The standard's count leaves what the definition of a shrink says.
use Rattle.std.proofs.Common.{◌≡◌, ◌⊎◌, inl, inr, refl, sym, ap, subst, ◌∙◌, ℕ, zero, suc, ◌+◌, ◌<◌, ◌≤◌, Bool, true, false, filter, List, [], ◌∷◌, Option, Some, None, max, bytes_eq, arith}
use Rattle.std.proofs.lemmas.Bool.{and_from, and_parts, cases_eq, le-ltb, lt-ltb, ltb-true}
use Rattle.std.proofs.lemmas.Cmp.{nat_list_eq_equiv}
use Rattle.std.proofs.lemmas.Map.{lookup-remove_entry}
use Rattle.std.proofs.lemmas.Slice.Eq.{bytes_eq-Decides}
use Rattle.std.specs.Fmt.{decimal}
use Rattle.std.specs.List.{list_all}
use Rattle.std.specs.Map.{lookup, remove_entry}
use Rattle.object_heap.specs.declared.property.Prop.{Prop}
use Rattle.object_heap.specs.Counted.{ShrinksAsCounted, counted_down, one_deleted, shrunk_props}
use Rattle.object_heap.specs.Define.{elements_below, end_kept, end_with, is_below}
use Rattle.object_heap.specs.Index.{index_end, index_of}
use Rattle.object_heap.specs.Property.{HasDistinctNames, Props, own_property, without_property}
use Rattle.object_heap.proofs.Distinct.{distinct_removed}
use Rattle.object_heap.proofs.Decimals.{indices_are_decimal}
use Rattle.object_heap.proofs.Lists.{all_remove, same_key}

-- all elements are below n
abbrev AllBelow : ℕ → Props → Type 0
AllBelow n props = list_all (λ e. is_below n (index_of e.0)) props ≡ true

pub filter_whole : (p : List ℕ × Prop → Bool) (props : Props) → list_all p props ≡ true → filter p props ≡ props
filter_whole p [] h = refl
filter_whole p (e ∷ es) h = rw (and_parts (p e) (list_all p es) h).0 (ap (λ r. e ∷ r) (filter_whole p es (and_parts (p e) (list_all p es) h).1))

end_with_within : (m end : ℕ) (index : Option ℕ) (c : Bool) → end ≤ m → is_below m index ≡ true → end_with end index c ≤ m
end_with_within m end None c h below = h
end_with_within m end (Some i) true h below = h
end_with_within m end (Some i) false h below = omega (arith, h, ltb-true i m below)

-- no element is kept past the bound of all
pub kept_within : (m end : ℕ) (props : Props) → end ≤ m → AllBelow m props → end_kept end props ≤ m
kept_within m end [] h all = h
kept_within m end (e ∷ es) h all =
    let first = (and_parts (is_below m (index_of e.0)) (list_all (λ x. is_below m (index_of x.0)) es) all).0 in
    let rest = (and_parts (is_below m (index_of e.0)) (list_all (λ x. is_below m (index_of x.0)) es) all).1 in
    kept_within m (end_with end (index_of e.0) e.1.configurable) es (end_with_within m end (index_of e.0) e.1.configurable h first) rest

end_with_from : (end : ℕ) (index : Option ℕ) (c : Bool) → end ≤ end_with end index c
end_with_from end None c = omega arith
end_with_from end (Some i) true = omega arith
end_with_from end (Some i) false = omega arith

pub kept_from : (end : ℕ) (props : Props) → end ≤ end_kept end props
kept_from end [] = omega arith
kept_from end (e ∷ es) = omega (arith, end_with_from end (index_of e.0) e.1.configurable, kept_from (end_with end (index_of e.0) e.1.configurable) es)

-- an element that is not configurable is kept
kept_past : (end i : ℕ) (p : Prop) (props : Props) → i < index_end → lookup (bytes_eq (decimal i)) props ≡ Some p → p.configurable ≡ false → i + 1 ≤ end_kept end props
kept_past end i p [] small found fixed = cc found
kept_past end i p (e ∷ es) small found fixed = by_case (bytes_eq (decimal i) e.0) refl (λ g. kept_past (end_with end (index_of e.0) e.1.configurable) i p es small g fixed)
  where
    by_case : (b : Bool) → bytes_eq (decimal i) e.0 ≡ b → (lookup (bytes_eq (decimal i)) es ≡ Some p → i + 1 ≤ end_kept (end_with end (index_of e.0) e.1.configurable) es) → i + 1 ≤ end_kept end (e ∷ es)
    by_case true h more =
        let one : e.1 ≡ p = cc (rw h at found) in
        let index : index_of e.0 ≡ Some i = (indices_are_decimal e.0 i).1 (sym ((bytes_eq-Decides (decimal i) e.0).0 h), small) in
        let here : end_with end (index_of e.0) e.1.configurable ≡ max end (i + 1) =
        ap (λ x. end_with end x e.1.configurable) index ∙ ap (λ c. end_with end (Some i) c) (ap (λ (x : Prop). x.configurable) one ∙ fixed)
        in
        omega (arith, here, kept_from (end_with end (index_of e.0) e.1.configurable) es)
    by_case false h more = more (rw h at found)

pub end_with_configurable : (end : ℕ) (index : Option ℕ) → end_with end index true ≡ end
end_with_configurable end None = refl
end_with_configurable end (Some i) = refl

-- a configurable element that goes changes nothing of that
kept_removed : (end i : ℕ) (p : Prop) (props : Props) → lookup (bytes_eq (decimal i)) props ≡ Some p → p.configurable ≡ true → end_kept end (remove_entry (bytes_eq (decimal i)) props) ≡ end_kept end props
kept_removed end i p [] found free = refl
kept_removed end i p (e ∷ es) found free = by_case (bytes_eq (decimal i) e.0) refl (λ g. kept_removed (end_with end (index_of e.0) e.1.configurable) i p es g free)
  where
    by_case : (b : Bool) → bytes_eq (decimal i) e.0 ≡ b → (lookup (bytes_eq (decimal i)) es ≡ Some p → end_kept (end_with end (index_of e.0) e.1.configurable) (remove_entry (bytes_eq (decimal i)) es) ≡ end_kept (end_with end (index_of e.0) e.1.configurable) es) → end_kept end (remove_entry (bytes_eq (decimal i)) (e ∷ es)) ≡ end_kept end (e ∷ es)
    by_case true h more =
        let one : e.1 ≡ p = cc (rw h at found) in
        let here : end_with end (index_of e.0) e.1.configurable ≡ end =
        ap (end_with end (index_of e.0)) (ap (λ (x : Prop). x.configurable) one ∙ free) ∙ end_with_configurable end (index_of e.0)
        in
        rw h (ap (λ x. end_kept x es) (sym here))
    by_case false h more = rw h (more (rw h at found))

below_removed : (kept i : ℕ) (props : Props) → is_below kept (index_of (decimal i)) ≡ false → elements_below kept (remove_entry (bytes_eq (decimal i)) props) ≡ elements_below kept props
below_removed kept i [] gone = refl
below_removed kept i (e ∷ es) gone = by_case (bytes_eq (decimal i) e.0) refl (is_below kept (index_of e.0)) refl (below_removed kept i es gone)
  where
    by_case : (b : Bool) → bytes_eq (decimal i) e.0 ≡ b → (c : Bool) → is_below kept (index_of e.0) ≡ c → elements_below kept (remove_entry (bytes_eq (decimal i)) es) ≡ elements_below kept es → elements_below kept (remove_entry (bytes_eq (decimal i)) (e ∷ es)) ≡ elements_below kept (e ∷ es)
    by_case true h c g more =
        let out : is_below kept (index_of e.0) ≡ false = ap (λ x. is_below kept (index_of x)) (sym ((bytes_eq-Decides (decimal i) e.0).0 h)) ∙ gone in
        rw h (rw out refl)
    by_case false h true g more = rw h (rw g (ap (λ r. e ∷ r) more))
    by_case false h false g more = rw h (rw g more)

pub lower : (i : ℕ) (name : List ℕ) (index : Option ℕ) → i < index_end → index_of name ≡ index → bytes_eq (decimal i) name ≡ false → is_below (i + 1) index ≡ true → is_below i index ≡ true
lower i name None small e other below = refl
lower i name (Some j) small e other below = by (cases_eq j i)
  where
    by : (j ≡ i) ⊎ (j ≡ i → ⊥) → is_below i (Some j) ≡ true
    by (inl same) =
        let written : name ≡ decimal i = ((indices_are_decimal name i).0 (e ∙ ap Some same)).0 in
        cc (other, (bytes_eq-Decides (decimal i) name).1 (sym written))
    by (inr far) = lt-ltb j i (omega (arith, ltb-true j (i + 1) below, far))

-- where there is no element at i, all that are below i + 1 are below i
pub all_lower : (i : ℕ) (props : Props) → i < index_end → lookup (bytes_eq (decimal i)) props ≡ None → AllBelow (i + 1) props → AllBelow i props
all_lower i [] small none all = refl
all_lower i (e ∷ es) small none all = by_case (bytes_eq (decimal i) e.0) refl (λ g. all_lower i es small g (and_parts (is_below (i + 1) (index_of e.0)) (list_all (λ x. is_below (i + 1) (index_of x.0)) es) all).1)
  where
    by_case : (b : Bool) → bytes_eq (decimal i) e.0 ≡ b → (lookup (bytes_eq (decimal i)) es ≡ None → AllBelow i es) → AllBelow i (e ∷ es)
    by_case true h more = cc (rw h at none)
    by_case false h more =
        and_from (is_below i (index_of e.0)) (list_all (λ x. is_below i (index_of x.0)) es)
        (lower i e.0 (index_of e.0) small refl h (and_parts (is_below (i + 1) (index_of e.0)) (list_all (λ x. is_below (i + 1) (index_of x.0)) es) all).0)
        (more (rw h at none))

same_name : (name x y : List ℕ) → bytes_eq name x ≡ true → bytes_eq name y ≡ bytes_eq x y
same_name name x y h = ap (λ z. bytes_eq z y) ((bytes_eq-Decides name x).0 h)

gone : (i : ℕ) (props : Props) → HasDistinctNames props → lookup (bytes_eq (decimal i)) (remove_entry (bytes_eq (decimal i)) props) ≡ None
gone i props distinct =
    lookup-remove_entry nat_list_eq_equiv (bytes_eq (decimal i)) (same_name (decimal i)) (decimal i) props distinct ∙ rw (same_key (decimal i)) refl

-- what is left of the others is what is left of all
pub record Leaves (end i : ℕ) (old new : Props) : Type 0 where
  pub same : shrunk_props end new ≡ shrunk_props end old
  pub below : AllBelow i new

-- an element at the top that may be deleted and is
pub one_gone : (end i : ℕ) (p : Prop) (props : Props) → end ≤ i → i < index_end → HasDistinctNames props → AllBelow (i + 1) props → own_property props (decimal i) ≡ Some p → p.configurable ≡ true
    → Leaves end i props (without_property props (decimal i))
one_gone end i p props from small distinct all found free =
    let rest = without_property props (decimal i) in
    let below : AllBelow i rest = all_lower i rest small (gone i props distinct) (all_remove (λ k. is_below (i + 1) (index_of k)) (bytes_eq (decimal i)) props all) in
    let same : end_kept end rest ≡ end_kept end props = kept_removed end i p props found free in
    let least : end_kept end rest ≤ i = kept_within i end rest from below in
    let out : is_below (end_kept end rest) (index_of (decimal i)) ≡ false =
    ap (is_below (end_kept end rest)) ((indices_are_decimal (decimal i) i).1 (refl, small)) ∙ le-ltb i (end_kept end rest) least
    in
    let left : elements_below (end_kept end rest) rest ≡ elements_below (end_kept end props) props =
    below_removed (end_kept end rest) i props out ∙ ap (λ k. elements_below k props) same
    in
    record { same = (λ j. (left j, same j)); below = below }

counts_one : (end n : ℕ) (props : Props) (own : Option Prop) → end + suc n ≤ index_end → HasDistinctNames props → AllBelow (end + suc n) props → own_property props (decimal (end + n)) ≡ own
    → ((rest : Props) → HasDistinctNames rest → AllBelow (end + n) rest → counted_down end n rest ≡ (elements_below (end_kept end rest) rest, end_kept end rest))
    → one_deleted (end + n) props own (λ rest. counted_down end n rest) ≡ (elements_below (end_kept end props) props, end_kept end props)
counts_one end n props None small distinct all e more =
    let top : end + suc n ≡ (end + n) + 1 = omega arith in
    more props distinct (all_lower (end + n) props (omega (arith, small)) e (subst (λ m. AllBelow m props) top all))
counts_one end n props (Some p) small distinct all e more = by_case p.configurable refl
  where
    i : ℕ
    i = end + n

    low : i < index_end
    low = omega (arith, small)

    whole : AllBelow (i + 1) props
    whole =
        let top : end + suc n ≡ (end + n) + 1 = omega arith in
        subst (λ m. AllBelow m props) top all

    by_case : (b : Bool) → p.configurable ≡ b → one_deleted (end + n) props (Some p) (λ rest. counted_down end n rest) ≡ (elements_below (end_kept end props) props, end_kept end props)
    by_case true free =
        let leaves = one_gone end i p props (omega arith) low distinct whole e free in
        rw free (more (without_property props (decimal i)) (distinct_removed (bytes_eq (decimal i)) props distinct) leaves.below ∙ leaves.same)
    by_case false fixed =
        let kept : i + 1 ≡ end_kept end props =
        omega (arith, kept_within (i + 1) end props (omega arith) whole, kept_past end i p props low e fixed)
        in
        let stays : elements_below (end_kept end props) props ≡ props =
        filter_whole (λ x. is_below (end_kept end props) (index_of x.0)) props (subst (λ m. AllBelow m props) kept whole)
        in
        rw fixed (λ j. (sym stays j, kept j))

pub shrinks_as_counted : ShrinksAsCounted
shrinks_as_counted end zero props small distinct all =
    let at : end + 0 ≡ end = omega arith in
    let below : AllBelow end props = subst (λ m. AllBelow m props) at all in
    let kept : end ≡ end_kept end props = omega (arith, kept_within end end props (omega arith) below, kept_from end props) in
    let stays : elements_below (end_kept end props) props ≡ props =
    filter_whole (λ x. is_below (end_kept end props) (index_of x.0)) props (subst (λ m. AllBelow m props) kept below)
    in
    (λ j. (sym stays j, kept j))
shrinks_as_counted end (suc n) props small distinct all =
    counts_one end n props (own_property props (decimal (end + n))) small distinct all refl
    (λ rest d below. shrinks_as_counted end n rest (omega (arith, small)) d below)
