-- A loop is a turn, and the loop again.
use Rattle.std.proofs.Common.{◌≡◌, ℕ, zero, suc, ◌<◌, ◌≤◌, Bool, true, false, refl, arith}
use Rattle.page_meaning.specs.declared.signal.Signal.{Signal}
use Rattle.page_meaning.specs.declared.signal.Signal.TheVariants.{Value as Val, Thrown, Return, Break, Continue}
use Rattle.page_meaning.specs.Act.{Act, Outcome, Ended, Stopped, LeadsTo, then_on, on_value, also, choose, done}
use Rattle.page_meaning.specs.Loops.{turned, turn, turn_if, turns, loop}
use Rattle.page_meaning.specs.Store.{Store}
use Rattle.whole_ops.specs.Conversions.{is_true}

-- no more steps are left
abbrev Within : ℕ → Outcome Signal → Type 0
Within n (Ended a w m) = m ≤ n
Within n (Stopped w) = Unit {0}

within : (s : Store) (n : ℕ) (o : Outcome Signal) → LeadsTo s n o → Within n o
within s n (Ended a w m) l = l.0
within s n (Stopped w) l = tt

shrinks : (act : Act) (s : Store) (n : ℕ) → Within n (act.run s n)
shrinks act s n = within s n (act.run s n) (act.leads s n)

-- the same from every store, with at most so many steps
abbrev Same : ℕ → Act → Act → Type 0
Same m f g = (w : Store) (j : ℕ) → j ≤ m → f.run w j ≡ g.run w j

last_same : (o : Outcome Signal) (f g : Act) (m : ℕ) → Within m o → Same m f g → then_on o (on_value (λ _. f)) ≡ then_on o (on_value (λ _. g))
last_same (Ended (Val v) w j) f g m h same = same w j h
last_same (Ended (Thrown v) w j) f g m h same = refl
last_same (Ended (Return v) w j) f g m h same = refl
last_same (Ended Break w j) f g m h same = refl
last_same (Ended Continue w j) f g m h same = refl
last_same (Stopped w) f g m h same = refl

body_same : (o : Outcome Signal) (f g : Act) (m : ℕ) → Within m o → Same m f g → then_on o (turned f) ≡ then_on o (turned g)
body_same (Ended (Val v) w j) f g m h same = same w j h
body_same (Ended Continue w j) f g m h same = same w j h
body_same (Ended (Thrown v) w j) f g m h same = refl
body_same (Ended (Return v) w j) f g m h same = refl
body_same (Ended Break w j) f g m h same = refl
body_same (Stopped w) f g m h same = refl

turn_same : (b : Bool) (body f g : Act) (w : Store) (m n : ℕ) → m ≤ n → ((w' : Store) (j : ℕ) → j < n → f.run w' j ≡ g.run w' j) → (choose b (turn body f) done).run w m ≡ (choose b (turn body g) done).run w m
turn_same false body f g w m n h same = refl
turn_same true body f g w zero n h same = refl
turn_same true body f g w (suc m) n h same = body_same (body.run w m) f g m (shrinks body w m) (λ w' j le. same w' j (omega arith))

test_same : (o : Outcome Signal) (body f g : Act) (n : ℕ) → Within n o → ((w : Store) (j : ℕ) → j < n → f.run w j ≡ g.run w j) → then_on o (on_value (turn_if body f)) ≡ then_on o (on_value (turn_if body g))
test_same (Ended (Val v) w m) body f g n h same = turn_same (is_true v) body f g w m n h same
test_same (Ended (Thrown v) w m) body f g n h same = refl
test_same (Ended (Return v) w m) body f g n h same = refl
test_same (Ended Break w m) body f g n h same = refl
test_same (Ended Continue w m) body f g n h same = refl
test_same (Stopped w) body f g n h same = refl

-- a larger bound changes nothing
enough : (test body last : Act) (i j : ℕ) (w : Store) (n : ℕ) → n < i → n < j → (turns i test body last).run w n ≡ (turns j test body last).run w n
enough test body last zero j w n h g = absurd (omega arith)
enough test body last (suc i) zero w n h g = absurd (omega arith)
enough test body last (suc i) (suc j) w n h g =
    test_same (test.run w n) body (also last (λ _. turns i test body last)) (also last (λ _. turns j test body last)) n (shrinks test w n) (λ w' k lt. last_same (last.run w' k) (turns i test body last) (turns j test body last) k (shrinks last w' k) (λ w'' q le. enough test body last i j w'' q (omega arith) (omega arith)))

-- the loop is its test, and then a turn and the loop again
pub loop_turns : (test body last : Act) (w : Store) (n : ℕ) → (loop test body last).run w n ≡ (also test (turn_if body (also last (λ _. loop test body last)))).run w n
loop_turns test body last w n =
    test_same (test.run w n) body (also last (λ _. turns n test body last)) (also last (λ _. loop test body last)) n (shrinks test w n) (λ w' k lt. last_same (last.run w' k) (turns n test body last) (loop test body last) k (shrinks last w' k) (λ w'' q le. enough test body last n (suc q) w'' q (omega arith) (omega arith)))
