-- Lengths of arrays that are made.
use Rattle.std.proofs.Common.{◌≡◌, refl, ap, ℤ, pos, negsuc, true, false, List, [], ◌∷◌, Option, Some, None}
use Rattle.js_values.specs.declared.throw.Throw.TheVariants.{InvalidLength}
use Rattle.js_values.specs.declared.value.Value.{Value}
use Rattle.js_values.specs.declared.value.Value.TheVariants.{Undefined, Null, Bool as Truth, Num, Text, Object}
use Rattle.object_heap.specs.Define.{length_name, valid_length}
use Rattle.page_meaning.specs.Act.{also, bind, give}
use Rattle.page_meaning.specs.Errors.{raise}
use Rattle.page_meaning.specs.Expressions.{new_list}
use Rattle.page_meaning.specs.Properties.{put_in}
use Rattle.page_meaning.specs.ValueRows.{list_from, list_of_length, list_values}
use Rattle.new_lists.specs.Lists.{is_a_length, lone_number}

-- a number that may be a length
pub long : (n : Option ℤ) → is_a_length n ≡ true → list_of_length (valid_length (Num n)) ≡ bind new_list (λ a. also (put_in a length_name (Num n)) (λ _. give (Object a)))
long (Some (pos n)) h = rw h refl
long (Some (negsuc n)) h = cc h
long None h = cc h

pub short : (n : Option ℤ) → is_a_length n ≡ false → list_of_length (valid_length (Num n)) ≡ raise InvalidLength
short (Some (pos n)) h = rw h refl
short (Some (negsuc n)) h = refl
short None h = refl

-- a number that is the only value
pub lone_is : (vs : List Value) (n : Option ℤ) → lone_number vs ≡ Some n → list_from vs ≡ list_of_length (valid_length (Num n))
lone_is [] n h = cc h
lone_is (Num m ∷ []) n h = let e : m ≡ n = cc h in ap (λ k. list_of_length (valid_length (Num k))) e
lone_is (Num m ∷ w ∷ vs) n h = cc h
lone_is (Undefined ∷ vs) n h = cc h
lone_is (Null ∷ vs) n h = cc h
lone_is (Truth b ∷ vs) n h = cc h
lone_is (Text t ∷ vs) n h = cc h
lone_is (Object o ∷ vs) n h = cc h

pub many : (vs : List Value) → lone_number vs ≡ None → list_from vs ≡ bind new_list (λ a. list_values a 0 vs)
many [] h = refl
many (Num n ∷ []) h = cc h
many (Num n ∷ w ∷ vs) h = refl
many (Undefined ∷ vs) h = refl
many (Null ∷ vs) h = refl
many (Truth b ∷ vs) h = refl
many (Text t ∷ vs) h = refl
many (Object o ∷ vs) h = refl
