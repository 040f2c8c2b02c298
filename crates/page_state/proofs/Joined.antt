-- Texts that are joined, and their lengths.
use Rattle.std.proofs.Common.{◌≡◌, refl, ℕ, ◌+◌, ◌-◌, ◌≤◌, ◌||◌, nat_le, List, ◌++◌, length, length-append, arith, if◌then◌else◌}
use Rattle.std.proofs.lemmas.Bool.Decides.{nat_tests}
use Rattle.js_values.specs.declared.value.Value.{Value}
use Rattle.js_values.specs.declared.value.Value.TheVariants.{Text}
use Rattle.whole_ops.specs.Arithmetic.{whole_add}
use Rattle.page_meaning.specs.Convert.{as_number, text_of}
use Rattle.page_meaning.specs.Errors.{settle}
use Rattle.page_meaning.specs.Operators.{as_numbers, sum_of}
use Rattle.page_host.specs.HostNames.{text_or_long}
use Rattle.page_state.specs.Operating.{is_text}

test_both : (a b n : ℕ) → a ≤ n → nat_le b (n - a) ≡ nat_le (a + b) n
test_both a b n h = grind (arith, nat_tests)

pub both_short : (a b : List ℕ) (n : ℕ) → length a ≤ n → nat_le (length b) (n - length a) ≡ nat_le (length (a ++ b)) n
both_short a b n h = rw (length-append a b) (test_both (length a) (length b) n h)

-- what a sum is, by whether one of the two is a text
pub sum_is : (p q : Value) → sum_of p q ≡ (if is_text p || is_text q then settle (text_or_long (text_of p ++ text_of q)) else as_numbers (λ a b. as_number (whole_add a b)) p q)
sum_is (Text t) q = refl
sum_is p (Text u) = refl
sum_is p q = refl
