-- What a frame has yet to do, from the end of what it waits for; and what a thing that begins has to do.
use Rattle.std.specs.Prelude.{ℕ, suc, List, Option, Some, None}
use Rattle.code_table.specs.Kind.{kind_of}
use Rattle.code_table.specs.Node.{Node}
use Rattle.code_table.specs.declared.kind.Kind.{Kind}
use Rattle.code_table.specs.declared.kind.Kind.TheVariants as kind
use Rattle.js_values.specs.declared.value.Value.{Value}
use Rattle.page_meaning.specs.declared.reference.Reference.{Reference}
use Rattle.page_meaning.specs.declared.signal.Signal.{Signal}
use Rattle.page_meaning.specs.declared.signal.Signal.TheVariants.{Thrown, Return}
use Rattle.page_meaning.specs.Act.{Act, Calls, ret, give, done, on_value, also}
use Rattle.page_meaning.specs.Dispatch.{deliver}
use Rattle.page_meaning.specs.Expressions.{assigned}
use Rattle.page_meaning.specs.Names.{Here, write}
use Rattle.page_meaning.specs.Operators.{operate, operate_one}
use Rattle.page_meaning.specs.Properties.{get_member}
use Rattle.page_frames.specs.declared.frame.Begin.{Begin}
use Rattle.page_frames.specs.declared.frame.Begin.TheVariants as begin
use Rattle.page_frames.specs.declared.frame.Frame.{Frame}
use Rattle.page_frames.specs.declared.frame.Frame.TheVariants as frame
use Rattle.page_frames.specs.Parts.{mean_node, mean_target}
use Rattle.page_frames.specs.RestCalls.{rest_call, rest_call_member, rest_call_index, mean_call, ended}
use Rattle.page_frames.specs.RestDeliver.{rest_deliver}
use Rattle.page_frames.specs.RestExpressions.{rest_binary, rest_and, rest_or, rest_conditional, rest_comma}
use Rattle.page_frames.specs.RestLiterals.{rest_list, rest_literal}
use Rattle.page_frames.specs.RestLoops.{rest_while, rest_do, rest_for, rest_for_in, rest_each, rest_switch, rest_case}
use Rattle.page_frames.specs.RestProperties.{rest_index, rest_delete_member, rest_delete_index, rest_update_member, rest_update_index, rest_assign_member, rest_assign_index, rest_target_member, rest_target_index}
use Rattle.page_frames.specs.RestStatements.{declarators_from, stmts_from, rest_if, rest_try}
use Rattle.page_frames.specs.RestVisits.{rest_visit}
use Rattle.page_frames.specs.Where.{here_of, spot_node}

-- an expression, by its kind, from the value of the part that it waits for
abbrev pub rest_value : Calls → Here → Option Node → Kind → ℕ → List Value → Value → Act
rest_value calls here at kind.List turn got v = rest_list calls here at turn got v
rest_value calls here at (kind.Literal xs) turn got v = rest_literal calls here at xs turn got v
rest_value calls here at (kind.Member x) turn got v = get_member v x
rest_value calls here at kind.Index turn got v = rest_index calls here at got v
rest_value calls here at (kind.CallMember x) turn got v = rest_call_member calls here at x got v
rest_value calls here at kind.CallIndex turn got v = rest_call_index calls here at got v
rest_value calls here at kind.Call turn got v = rest_call calls here at got v
rest_value calls here at kind.New turn got v = rest_call calls here at got v
rest_value calls here at (kind.DeleteMember x) turn got v = rest_delete_member x v
rest_value calls here at kind.DeleteIndex turn got v = rest_delete_index calls here at got v
rest_value calls here at (kind.Unary op) turn got v = operate_one calls op v
rest_value calls here at (kind.UpdateMember up prefix x) turn got v = rest_update_member calls up prefix x v
rest_value calls here at (kind.UpdateIndex up prefix) turn got v = rest_update_index calls here at up prefix got v
rest_value calls here at (kind.Binary op) turn got v = rest_binary calls here at op got v
rest_value calls here at kind.And turn got v = rest_and calls here at v
rest_value calls here at kind.Or turn got v = rest_or calls here at v
rest_value calls here at kind.Cond turn got v = rest_conditional calls here at v
rest_value calls here at (kind.AssignMember op x) turn got v = rest_assign_member calls here at op x got v
rest_value calls here at (kind.AssignIndex op) turn got v = rest_assign_index calls here at op got v
rest_value calls here at kind.Comma turn got v = rest_comma calls here at turn v
rest_value calls here at q turn got v = give v

-- a name, from the value of its right side
abbrev pub rest_name : Calls → Kind → Reference → Option Value → Value → Act
rest_name calls (kind.AssignName None x) r old v = assigned (write x r) v
rest_name calls (kind.AssignName (Some op) x) r (Some old) w = also (operate calls op old w) (assigned (write x r))
rest_name calls (kind.Declarator x) r old v = write x r v
rest_name calls q r old v = give v

-- the target of a for-in, from the value of its base or its key
abbrev pub rest_target : Calls → Here → Option Node → Kind → Value → Option Value → Value → Act
rest_target calls here at (kind.Member x) value base v = rest_target_member calls x value v
rest_target calls here at kind.Index value base v = rest_target_index calls here at value base v
rest_target calls here at q value base v = give v

-- a statement, from the end of the part that it waits for
abbrev pub rest_signal : Calls → Here → Option Node → Kind → ℕ → Option Signal → Signal → Act
rest_signal calls here at kind.Var turn kept s = on_value (λ _. declarators_from calls here at (suc turn)) s
rest_signal calls here at kind.Discard turn kept s = on_value (λ _. done) s
rest_signal calls here at kind.Block turn kept s = on_value (λ _. stmts_from calls here at (suc turn)) s
rest_signal calls here at kind.If turn kept s = on_value (rest_if calls here at) s
rest_signal calls here at kind.While turn kept s = rest_while calls here at turn s
rest_signal calls here at kind.Do turn kept s = rest_do calls here at turn s
rest_signal calls here at kind.For turn kept s = rest_for calls here at turn s
rest_signal calls here at kind.ForIn turn kept s = on_value (rest_for_in calls here at) s
rest_signal calls here at kind.Return turn kept s = on_value (λ v. ret (Return v)) s
rest_signal calls here at kind.Throw turn kept s = on_value (λ v. ret (Thrown v)) s
rest_signal calls here at (kind.Try x) turn kept s = rest_try calls here at x turn kept s
rest_signal calls here at kind.Switch turn kept s = on_value (rest_switch calls here at) s
rest_signal calls here at q turn kept s = ret s

-- what a frame has yet to do, with the calls that can be made once it goes on
abbrev pub rest_of : Calls → Frame → Signal → Act
rest_of calls (frame.Expr f) s = on_value (rest_value calls (here_of f.spot) (spot_node f.spot) (kind_of (spot_node f.spot)) f.turn f.got) s
rest_of calls (frame.Name f) s = on_value (rest_name calls (kind_of (spot_node f.spot)) f.reference f.old) s
rest_of calls (frame.Target f) s = on_value (rest_target calls (here_of f.spot) (spot_node f.spot) (kind_of (spot_node f.spot)) f.value f.base) s
rest_of calls (frame.Stmt f) s = rest_signal calls (here_of f.spot) (spot_node f.spot) (kind_of (spot_node f.spot)) f.turn f.kept s
rest_of calls (frame.Each f) s = rest_each calls (here_of f.spot) (spot_node f.spot) f.names f.index f.assigning s
rest_of calls (frame.Case f) s = rest_case calls (here_of f.spot) (spot_node f.spot) f.value f.index f.testing s
rest_of calls (frame.Called f) s = ret (ended f.body f.fresh s)
rest_of calls (frame.Visit f) s = on_value (rest_visit calls f) s
rest_of calls (frame.Deliver f) s = rest_deliver calls f s

-- what begins
abbrev pub mean_of : Calls → Begin → Act
mean_of calls (begin.Node f) = mean_node calls (here_of f) (spot_node f)
mean_of calls (begin.Target f v) = mean_target calls (here_of f) (spot_node f) v
mean_of calls (begin.Call f) = mean_call calls f.construct f.callee f.this f.args
mean_of calls (begin.Deliver e k) = deliver calls e k
