-- The generator of numbers: a linear congruential one, of whose states the high bits are drawn.
use Rattle.std.specs.Prelude.{ℕ, zero, suc, ◌+◌, ◌*◌, ◌/◌, ◌%◌}

abbrev pub next_state : ℕ → ℕ
next_state x = (1103515245 * x + 12345) % 2147483648

-- the state after so many draws
abbrev pub state : ℕ → ℕ
state zero = 1
state (suc i) = next_state (state i)

abbrev pub high_bits : ℕ → ℕ
high_bits x = x / 65536

-- the number of this draw, the first of which is 1
abbrev pub drawn : ℕ → ℕ
drawn i = high_bits (state i)
