-- Attributes that are set again.
use Rattle.std.proofs.Common.{◌≡◌, refl, ap, ◌∙◌, ℕ, Bool, true, false, not, cond, map, bytes_eq, is_none, List, [], ◌∷◌, ◌++◌, append_assoc, arith, Option, Some, None}
use Rattle.std.proofs.lemmas.Bool.{and_parts}
use Rattle.std.proofs.lemmas.Bool.Decides.{nat_tests}
use Rattle.std.specs.Char.{is_ascii_uppercase, to_ascii_lowercase}
use Rattle.std.specs.List.{list_all}
use Rattle.js_core.specs.Text.{Text}
use Rattle.dom_tree.specs.Attributes.{Pairs, has_distinct_names, value_of, with_value_of}
use Rattle.dom_tree.specs.Name.{folded, is_folded_name, is_name}
use Rattle.host_relations.proofs.Texts.{text_sym}
use Rattle.host_relations.specs.Attributed.{AttributesAreRebuilt, set_all}

lower_stays : (u : ℕ) → not (is_ascii_uppercase u) ≡ true → to_ascii_lowercase u ≡ u
lower_stays u h = grind (arith, nat_tests)

all_stay : (us : List ℕ) → list_all (λ u. not (is_ascii_uppercase u)) us ≡ true → map to_ascii_lowercase us ≡ us
all_stay [] h = refl
all_stay (u ∷ us) h =
    let parts = and_parts (not (is_ascii_uppercase u)) (list_all (λ v. not (is_ascii_uppercase v)) us) h in
    let first = lower_stays u parts.0 in
    let rest = all_stay us parts.1 in
    λ i. first i ∷ rest i

pub folded_is : (name : Text) → is_folded_name name ≡ true → folded name ≡ name
folded_is name h = all_stay name (and_parts (is_name name) (list_all (λ u. not (is_ascii_uppercase u)) name) h).1

last : (name v : Text) (acc : Pairs) → value_of name acc ≡ None → with_value_of name v acc ≡ acc ++ (name, v) ∷ []
last name v [] h = refl
last name v (a ∷ acc) h = by (bytes_eq a.0 name) refl h (last name v acc)
  where
    by : (b : Bool) → bytes_eq a.0 name ≡ b → cond b (Some a.1) (value_of name acc) ≡ None → (value_of name acc ≡ None → with_value_of name v acc ≡ acc ++ (name, v) ∷ [])
        → cond b ((a.0, v) ∷ acc) (a ∷ with_value_of name v acc) ≡ a ∷ (acc ++ (name, v) ∷ [])
    by true e f later = absurd (cc f)
    by false e f later = ap (λ l. a ∷ l) (later f)

-- ---- names that are not among those that were set

-- each of the others is not among the first ones
abbrev NoneAmong : Pairs → Pairs → Type 0
NoneAmong acc [] = Unit {0}
NoneAmong acc (a ∷ as') = (value_of a.0 acc ≡ None) × NoneAmong acc as'

none_at_first : (attributes : Pairs) → NoneAmong [] attributes
none_at_first [] = tt
none_at_first (a ∷ as') = (refl, none_at_first as')

is_nothing : (o : Option Text) → is_none o ≡ true → o ≡ None
is_nothing None h = refl
is_nothing (Some x) h = absurd (cc h)

none_last : (name : Text) (acc : Pairs) (a : Text × Text) → value_of name acc ≡ None → bytes_eq a.0 name ≡ false → value_of name (acc ++ a ∷ []) ≡ None
none_last name [] a h e = rw e refl
none_last name (x ∷ acc) a h e = by (bytes_eq x.0 name) h (λ f. none_last name acc a f e)
  where
    by : (b : Bool) → cond b (Some x.1) (value_of name acc) ≡ None → (value_of name acc ≡ None → value_of name (acc ++ a ∷ []) ≡ None) → cond b (Some x.1) (value_of name (acc ++ a ∷ [])) ≡ None
    by true f later = absurd (cc f)
    by false f later = later f

-- one more is among the first ones, which is none of the others
one_more : (acc : Pairs) (a : Text × Text) (as' : Pairs) → NoneAmong acc as' → value_of a.0 as' ≡ None → NoneAmong (acc ++ a ∷ []) as'
one_more acc a [] n h = tt
one_more acc a (b ∷ bs) n h = by (bytes_eq b.0 a.0) refl h (λ f. one_more acc a bs n.1 f)
  where
    by : (c : Bool) → bytes_eq b.0 a.0 ≡ c → cond c (Some b.1) (value_of a.0 bs) ≡ None → (value_of a.0 bs ≡ None → NoneAmong (acc ++ a ∷ []) bs) → NoneAmong (acc ++ a ∷ []) (b ∷ bs)
    by true e f later = absurd (cc f)
    by false e f later = (none_last b.0 acc a n.0 (text_sym a.0 b.0 ∙ e), later f)

-- ---- all

all_set : (attributes acc : Pairs) → list_all (λ a. is_folded_name a.0) attributes ≡ true → has_distinct_names attributes ≡ true → NoneAmong acc attributes
    → set_all attributes acc ≡ acc ++ attributes
all_set [] acc h d n = end acc
  where
    end : (l : Pairs) → l ≡ l ++ []
    end [] = refl
    end (x ∷ l) = ap (λ m. x ∷ m) (end l)
all_set (a ∷ attributes) acc h d n =
    let fold = and_parts (is_folded_name a.0) (list_all (λ b. is_folded_name b.0) attributes) h in
    let apart = and_parts (is_none (value_of a.0 attributes)) (has_distinct_names attributes) d in
    ap (λ x. set_all attributes (with_value_of x a.1 acc)) (folded_is a.0 fold.0)
    ∙ ap (set_all attributes) (last a.0 a.1 acc n.0)
    ∙ all_set attributes (acc ++ a ∷ []) fold.1 apart.1 (one_more acc a attributes n.1 (is_nothing (value_of a.0 attributes) apart.0))
    ∙ append_assoc acc (a ∷ []) attributes

pub attributes_are_rebuilt : AttributesAreRebuilt
attributes_are_rebuilt attributes h d = all_set attributes [] h d (none_at_first attributes)
