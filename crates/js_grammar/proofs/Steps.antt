-- What the steps of a reader give.
use Rattle.std.proofs.Common.{◌≡◌, ℕ, zero, suc, ◌≤◌, Bool, true, false, List, Some, refl, arith}
use Rattle.std.specs.Prelude.{nat_le}
use Rattle.std.proofs.lemmas.Bool.Decides.{nat_tests}
use Rattle.js_grammar.specs.Symbols.{Lexeme}
use Rattle.js_grammar.specs.Parser.{Parser, Outcome, and_then, within_limit, repeat}

pub then_reads : {A B : Type 0} {r : Outcome A} {a : A} {y : List Lexeme} {q : Outcome B} (f : A → Parser B) → r ≡ Some (a, y) → f a y ≡ q → and_then r f ≡ q
then_reads f e k = rw e k

pub le_true : (h limit : ℕ) → h ≤ limit → nat_le h limit ≡ true
le_true h limit le = grind (arith, nat_tests)

pub true_le : (h limit : ℕ) → nat_le h limit ≡ true → h ≤ limit
true_le h limit e = grind (arith, nat_tests)

pub kept : {A : Type 0} (limit height : ℕ) (a : A) (z : List Lexeme) → height ≤ limit → within_limit limit height a z ≡ Some (a, z)
unfolding within_limit
kept limit height a z le = rw (le_true height limit le) refl

-- a repetition that doesn't go on
pub stays : {A : Type 0} (g : List Lexeme → Bool) (step : A → Parser A) (n : ℕ) (a : A) (z : List Lexeme) → g z ≡ false → repeat g step n a z ≡ Some (a, z)
stays g step zero a z e = refl
stays g step (suc n) a z e = rw e refl
