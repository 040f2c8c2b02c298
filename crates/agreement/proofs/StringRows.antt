-- The constructor `String` and what its prototype has, on related values (section 15.5).
use Rattle.std.proofs.Common.{◌≡◌, refl, subst, ℕ, ℤ, pos, Bool, true, false, List, [], ◌∷◌, ◌++◌, length, Option, Ok, Err, if◌then◌else◌}
use Rattle.std.specs.Prelude.{map, nat_le, option_to_list, slice_range, take}
use Rattle.std.specs.Char.{to_ascii_lowercase, to_ascii_uppercase}
use Rattle.std.specs.List.{list_all}
use Rattle.std.specs.Option.{option_map}
use Rattle.js_values.specs.declared.throw.Throw.TheVariants.{TextTooLong, WrongArgument}
use Rattle.js_values.specs.declared.value.Value.{Value}
use Rattle.js_values.specs.declared.value.Value.TheVariants as value
use Rattle.whole_ops.specs.WhiteSpace.{trimmed}
use Rattle.page_meaning.specs.Act.{Act, Calls, give}
use Rattle.page_host.specs.HostNames.{text_limit, text_or_long}
use Rattle.page_meaning.specs.StringRows.{between, char_at, char_code_at, end_of, first_place, from_either_end, from_units, give_text, index_of, join, joined_to, last_index_of, last_place, last_start, list_of_parts, lower_case, on_text, part_limit, parts_of, place_number, slice, sliced, split, split_by, substring, substring_of, text_from, to_integer, to_uint16, trim, unit_of, upper_case, within}
use Rattle.heap_relations.specs.Naming.{named, World}
use Rattle.heap_relations.specs.Related.{Each, ValueRel, undefined, null, truth, num, text, object, each, no_more}
use Rattle.agreement.specs.Acts.{Agrees}
use Rattle.agreement.proofs.Acts.{also_rel, choose_rel}
use Rattle.agreement.proofs.Heap.{value_up, values_up}
use Rattle.agreement.proofs.NumberRows.{number_and_text, number_then, on_text_in, text_and_number, text_then, two_numbers}
use Rattle.agreement.proofs.ObjectRows.{new_texts_rel}
use Rattle.agreement.proofs.Values.{SettledRel, settled, refused, give_rel, raise_rel, settle_rel, to_text_rel}

pub on_text_rel : {V : World} {this that : Value} → ValueRel (named V) this that → (f g : List ℕ → Act) → ((t : List ℕ) → Agrees V (f t) (g t))
    → Agrees V (on_text this f) (on_text that g)
on_text_rel undefined f g k = raise_rel WrongArgument
on_text_rel null f g k = raise_rel WrongArgument
on_text_rel truth f g k = raise_rel WrongArgument
on_text_rel num f g k = raise_rel WrongArgument
on_text_rel {this = value.Text t} text f g k = k t
on_text_rel (object n) f g k = raise_rel WrongArgument

if_long : {V : World} (b : Bool) (t : List ℕ) → SettledRel V (if b then Ok (value.Text t) else Err TextTooLong) (if b then Ok (value.Text t) else Err TextTooLong)
if_long true t = settled text
if_long false t = refused TextTooLong

pub text_or_long_rel : {V : World} (t : List ℕ) → SettledRel V (text_or_long t) (text_or_long t)
text_or_long_rel t = if_long (nat_le (length t) text_limit) t

pub give_text_rel : {V : World} (t : List ℕ) → Agrees V (give_text t) (give_text t)
give_text_rel t = settle_rel (text_or_long_rel t)

pub text_from_rel : {V : World} {vs ws : List Value} (c d : Calls) (construct : Bool) → Each (ValueRel (named V)) vs ws
    → Agrees V (text_from c construct vs) (text_from d construct ws)
text_from_rel c d true h = raise_rel WrongArgument
text_from_rel c d false no_more = give_rel text
text_from_rel c d false (each h hs) = to_text_rel c d h

pub from_units_rel : {V : World} {vs ws : List Value} (c d : Calls) → Each (ValueRel (named V)) vs ws → (t : List ℕ) → Agrees V (from_units c vs t) (from_units d ws t)
from_units_rel c d no_more t = give_text_rel t
from_units_rel {vs = v ∷ vs} {ws = w ∷ ws} c d (each h hs) t =
    number_then c d h (λ n. from_units c vs (t ++ to_uint16 n ∷ [])) (λ n. from_units d ws (t ++ to_uint16 n ∷ []))
    (λ W l n. from_units_rel c d (values_up l hs) (t ++ to_uint16 n ∷ []))

-- ---- units and joined texts

module _ {V : World} {v w : Value} (c d : Calls) (h : ValueRel (named V) v w) (t : List ℕ) where
  pub char_at_rel : Agrees V (char_at c v t) (char_at d w t)
  char_at_rel = number_then c d h (λ n. give (value.Text (option_to_list (unit_of t (to_integer n))))) (λ n. give (value.Text (option_to_list (unit_of t (to_integer n))))) (λ W l n. give_rel text)

  pub char_code_at_rel : Agrees V (char_code_at c v t) (char_code_at d w t)
  char_code_at_rel =
      number_then c d h (λ n. give (value.Num (option_map (λ u. pos u) (unit_of t (to_integer n))))) (λ n. give (value.Num (option_map (λ u. pos u) (unit_of t (to_integer n)))))
      (λ W l n. give_rel num)

  join_rel : Agrees V (join c v t) (join d w t)
  join_rel = text_then c d h (λ x. give_text (t ++ x)) (λ x. give_text (t ++ x)) (λ W l x. give_text_rel (t ++ x))

pub joined_to_rel : {V : World} {vs ws : List Value} (c d : Calls) → Each (ValueRel (named V)) vs ws → (t : List ℕ) → Agrees V (joined_to c vs t) (joined_to d ws t)
joined_to_rel c d no_more t = give_rel text
joined_to_rel {vs = v ∷ vs} {ws = w ∷ ws} c d (each h hs) t =
    also_rel (join_rel c d h t) (λ W l a b r. on_text_in r (joined_to c vs) (joined_to d ws) (λ x. joined_to_rel c d (values_up l hs) x))

-- ---- positions and parts

end_of_same : {V : World} {v w : Value} → ValueRel (named V) v w → (n k : ℕ) → end_of n v k ≡ end_of n w k
end_of_same undefined n k = refl
end_of_same null n k = refl
end_of_same truth n k = refl
end_of_same num n k = refl
end_of_same text n k = refl
end_of_same (object h) n k = refl

part_limit_same : {V : World} {v w : Value} → ValueRel (named V) v w → (n : Option ℤ) → part_limit v n ≡ part_limit w n
part_limit_same undefined n = refl
part_limit_same null n = refl
part_limit_same truth n = refl
part_limit_same num n = refl
part_limit_same text n = refl
part_limit_same (object h) n = refl

-- a text that is made of where a part ends
from_end : {V : World} {v w : Value} → ValueRel (named V) v w → (f : ℕ → List ℕ) (n k : ℕ) → Agrees V (give_text (f (end_of n v k))) (give_text (f (end_of n w k)))
from_end {V = V} {v = v} h f n k = subst (λ e. Agrees V (give_text (f (end_of n v k))) (give_text (f e))) (end_of_same h n k) (give_text_rel (f (end_of n v k)))

pub list_of_parts_rel : {V : World} (xs : List (List ℕ)) → Agrees V (list_of_parts xs) (list_of_parts xs)
list_of_parts_rel xs = choose_rel (list_all (λ x. nat_le (length x) text_limit) xs) _ refl (new_texts_rel xs) (raise_rel TextTooLong)

split_by_rel : {V : World} {v w : Value} → ValueRel (named V) v w → (x : List ℕ) (n : ℕ) (t : List ℕ) → Agrees V (split_by v x n t) (split_by w x n t)
split_by_rel undefined x n t = new_texts_rel (take n (t ∷ []))
split_by_rel null x n t = list_of_parts_rel (take n (parts_of x t))
split_by_rel truth x n t = list_of_parts_rel (take n (parts_of x t))
split_by_rel num x n t = list_of_parts_rel (take n (parts_of x t))
split_by_rel text x n t = list_of_parts_rel (take n (parts_of x t))
split_by_rel (object h) x n t = list_of_parts_rel (take n (parts_of x t))

parts_rel : {V : World} {v w p q : Value} → ValueRel (named V) v w → ValueRel (named V) p q → (n : Option ℤ) (x t : List ℕ)
    → Agrees V (split_by v x (part_limit p n) t) (split_by w x (part_limit q n) t)
parts_rel {V = V} {v = v} {w = w} {p = p} h k n x t = subst (λ m. Agrees V (split_by v x (part_limit p n) t) (split_by w x m t)) (part_limit_same k n) (split_by_rel h x (part_limit p n) t)

module _ {V : World} {v w p q : Value} (c d : Calls) (h : ValueRel (named V) v w) (k : ValueRel (named V) p q) (t : List ℕ) where
  pub index_of_rel : Agrees V (index_of c v p t) (index_of d w q t)
  index_of_rel =
      text_and_number c d h k (λ x n. give (value.Num (place_number (first_place t x (within (length t) (to_integer n))))))
      (λ x n. give (value.Num (place_number (first_place t x (within (length t) (to_integer n)))))) (λ W l x n. give_rel num)

  pub last_index_of_rel : Agrees V (last_index_of c v p t) (last_index_of d w q t)
  last_index_of_rel =
      text_and_number c d h k (λ x n. give (value.Num (place_number (last_place t x (last_start (length t) n)))))
      (λ x n. give (value.Num (place_number (last_place t x (last_start (length t) n))))) (λ W l x n. give_rel num)

  pub slice_rel : Agrees V (slice c v p t) (slice d w q t)
  slice_rel =
      two_numbers c d h k (λ a b. give_text (sliced t p a b)) (λ a b. give_text (sliced t q a b))
      (λ W l a b. from_end (value_up l k) (λ e. slice_range t (from_either_end (length t) (to_integer a)) e) (length t) (from_either_end (length t) (to_integer b)))

  pub substring_rel : Agrees V (substring c v p t) (substring d w q t)
  substring_rel =
      two_numbers c d h k (λ a b. give_text (substring_of t p a b)) (λ a b. give_text (substring_of t q a b))
      (λ W l a b. from_end (value_up l k) (λ e. between t (within (length t) (to_integer a)) e) (length t) (within (length t) (to_integer b)))

  pub split_rel : Agrees V (split c v p t) (split d w q t)
  split_rel =
      number_and_text c d k h (λ n x. split_by v x (part_limit p n) t) (λ n x. split_by w x (part_limit q n) t)
      (λ W l n x. parts_rel (value_up l h) (value_up l k) n x t)

pub lower_case_rel : {V : World} (t : List ℕ) → Agrees V (lower_case t) (lower_case t)
lower_case_rel t = give_text_rel (map to_ascii_lowercase t)

pub upper_case_rel : {V : World} (t : List ℕ) → Agrees V (upper_case t) (upper_case t)
upper_case_rel t = give_text_rel (map to_ascii_uppercase t)

pub trim_rel : {V : World} (t : List ℕ) → Agrees V (trim t) (trim t)
trim_rel t = give_text_rel (trimmed t)
