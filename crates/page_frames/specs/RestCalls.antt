-- What a call that waits for a part has yet to do, and what a called function's end becomes (sections 11.2.2, 11.2.3, 13.2.1 and 13.2.2).
-- Once the callee is read, a frame holds `this`, the callee and the arguments that it has got.
use Rattle.std.specs.Prelude.{ℕ, Bool, true, false, List, [], ◌∷◌, ◌++◌, length, Option, Some, None}
use Rattle.code_table.specs.Node.{Node, expr_node}
use Rattle.js_core.specs.Tree.{call, construct}
use Rattle.js_values.specs.declared.value.Value.{Value}
use Rattle.js_values.specs.declared.value.Value.TheVariants.{Undefined, Object}
use Rattle.page_meaning.specs.declared.signal.Signal.{Signal}
use Rattle.page_meaning.specs.declared.signal.Signal.TheVariants.{Value as Val}
use Rattle.page_meaning.specs.Act.{Act, Calls, done, also}
use Rattle.page_meaning.specs.Calls.{built}
use Rattle.page_meaning.specs.Expressions.{eval_args}
use Rattle.page_meaning.specs.Functions.{call_end}
use Rattle.page_meaning.specs.Names.{Here}
use Rattle.page_meaning.specs.Properties.{get_member, get_index}
use Rattle.page_frames.specs.Parts.{part, drop_exprs}

-- the arguments from the next one on, and the call
abbrev pub args_from : Calls → Here → Option Node → List Value → Act
args_from calls here (Some (expr_node (call f es))) (this ∷ callee ∷ args) =
    eval_args calls here (drop_exprs es (length args)) args (calls.call callee this)
args_from calls here (Some (expr_node (construct f es))) (this ∷ callee ∷ args) =
    eval_args calls here (drop_exprs es (length args)) args (calls.construct callee)
args_from calls here at got = done

-- one more argument
abbrev pub one_more_arg : Calls → Here → Option Node → List Value → Value → Act
one_more_arg calls here at got v = args_from calls here at (got ++ v ∷ [])

abbrev pub rest_call_member : Calls → Here → Option Node → List ℕ → List Value → Value → Act
rest_call_member calls here at x [] base = also (get_member base x) (λ f. args_from calls here at (base ∷ f ∷ []))
rest_call_member calls here at x (t ∷ got) v = one_more_arg calls here at (t ∷ got) v

abbrev pub call_index : Calls → Here → Option Node → Value → Value → Act
call_index calls here at base key = also (get_index calls base key) (λ f. args_from calls here at (base ∷ f ∷ []))

abbrev pub rest_call_index : Calls → Here → Option Node → List Value → Value → Act
rest_call_index calls here at [] base = also (part calls here at 1) (call_index calls here at base)
rest_call_index calls here at (base ∷ []) key = call_index calls here at base key
rest_call_index calls here at (t ∷ f ∷ args) v = one_more_arg calls here at (t ∷ f ∷ args) v

-- of no property, or a construction
abbrev pub rest_call : Calls → Here → Option Node → List Value → Value → Act
rest_call calls here at [] f = args_from calls here at (Undefined ∷ f ∷ [])
rest_call calls here at (t ∷ got) v = one_more_arg calls here at (t ∷ got) v

-- a call or a construction begins
abbrev pub mean_call : Calls → Bool → Value → Value → List Value → Act
mean_call calls false f this args = calls.call f this args
mean_call calls true f this args = calls.construct f args

-- an object that the body gives takes the place of the fresh one
abbrev pub or_fresh : Option Value → Value → Value
or_fresh None v = v
or_fresh (Some (Object o)) v = built o v
or_fresh (Some made) v = v

abbrev pub with_fresh : Option Value → Signal → Signal
with_fresh fresh (Val v) = Val (or_fresh fresh v)
with_fresh fresh s = s

-- what a call gives, from the end of its body, or of another call
abbrev pub ended : Bool → Option Value → Signal → Signal
ended true fresh s = with_fresh fresh (call_end s)
ended false fresh s = s
