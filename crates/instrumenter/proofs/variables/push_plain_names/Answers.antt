use Rattle.std.proofs.Common.{◌≡◌, ◌∙◌, ◌<◌, [], length, map, sym, ap, arith}
use Rattle.std.proofs.lemmas.Grind.{common_steps}
use Rattle.std.specs.Rc.{rc_value}
use Rattle.js_core.specs.Tree.{no_stmts, stmts_of}
use Rattle.js_core.specs.Views.{declarators_of}
use Rattle.instrumenter.specs.Around.{append, var_where_any}
use Rattle.instrumenter.specs.Levels.{around_of}
use Rattle.instrumenter.proofs.Appended.{any_names, append_nothing}
use Rattle.instrumenter.proofs.Heights.{plain_is_low}
use Rattle.instrumenter.proofs.Turns.{on_ok}
use Rattle.instrumenter.proofs.variables.push_plain_names.Goals as goal

pub returns-then-is_empty : goal.returns-then-is_empty
returns-then-is_empty c =
    let none : c.in_ok-names.names.items ≡ [] = grind (arith, common_steps) in
    sym (append_nothing (stmts_of c.args.out.now.items))
    ∙ ap (λ z. append (stmts_of c.args.out.now.items) (var_where_any (declarators_of z) no_stmts)) (sym none)
    ∙ ap (λ z. append (stmts_of c.args.out.now.items) (var_where_any z no_stmts)) c.in_ok-names.ensures

pub push_node-requires : goal.push_node-requires
push_node-requires c =
    let a = around_of (map rc_value c.args.levels.now) in
    rw (c.in_ok-names.ensures) (omega (arith, plain_is_low a (declarators_of c.args.declarators.now)))

pub returns : goal.returns
returns c =
    let some : 0 < length c.in_ok-names.names.items = grind (arith, common_steps) in
    on_ok c.push_node.result _
    (ap (append (stmts_of c.args.out.now.items)) (sym (any_names c.in_ok-names.names.items some) ∙ ap (λ z. var_where_any z no_stmts) c.in_ok-names.ensures))
    c.push_node.ensures
