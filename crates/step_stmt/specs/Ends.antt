-- Ends of loops, and of the parts that statements wait for.
use Rattle.std.specs.Prelude.{◌≡◌, ℕ, suc, ◌+◌, ◌≤◌, Bool, true, false, Option, Some, None, is_some}
use Rattle.code_table.specs.Node.{Node, and_child}
use Rattle.code_table.specs.declared.kind.Kind.{Kind}
use Rattle.code_table.specs.declared.kind.Kind.TheVariants as kind
use Rattle.page_meaning.specs.declared.signal.Signal.{Signal}
use Rattle.page_meaning.specs.Act.{Act, Calls, ret}
use Rattle.page_meaning.specs.Names.{Here}
use Rattle.page_frames.specs.Start.{first_of, start_of}
use Rattle.page_frames.specs.Weight.{cost, weigh_signal}

-- what ends a loop, or what comes next
abbrev pub ended_or : Option Signal → Act → Act
ended_or None next = next
ended_or (Some s) next = ret s

-- whether a statement hands every end on but a value
abbrev pub takes_values : Kind → Bool
takes_values kind.While = false
takes_values kind.Do = false
takes_values kind.For = false
takes_values (kind.Try x) = false
takes_values q = true

-- a statement of this kind begins with its kth part, and can pay for it
pub record StartsWith (q : Kind) (k : ℕ) : Type 0 where
  pub starts : (calls : Calls) (here : Here) (at : Option Node) → start_of calls here at q ≡ first_of calls here at q k
  pub pays : (at : Option Node) → is_some at ≡ true → suc (weigh_signal at q k) + suc (cost (and_child at k)) ≤ cost at
