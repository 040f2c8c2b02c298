-- Where the arguments of a call stand among its parts.
use Rattle.std.specs.Prelude.{ℕ, Bool, true, false, List, [], ◌∷◌, length}
use Rattle.code_table.specs.declared.kind.Kind.{Kind}
use Rattle.code_table.specs.declared.kind.Kind.TheVariants as kind
use Rattle.js_values.specs.declared.value.Value.{Value}

-- the part that is the next argument, with `this`, the callee and the arguments that there are so far: the callee is one part, or two where it is
-- a property in brackets
abbrev pub arg_part : Kind → List Value → ℕ
arg_part kind.CallIndex got = length got
arg_part q [] = 0
arg_part q (this ∷ got) = length got

-- whether it is a construction
abbrev pub is_new : Kind → Bool
is_new kind.New = true
is_new q = false
