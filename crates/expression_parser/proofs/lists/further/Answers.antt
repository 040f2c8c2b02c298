use Rattle.std.proofs.Common.{rules, arith}
use Rattle.std.proofs.lemmas.Grind.{common_steps}
use Rattle.js_grammar.specs.Parser.{repeat, sees_comma, added_behind_comma}
use Rattle.expression_parser.proofs.Turns.{one_more, no_more}
use Rattle.expression_parser.proofs.lists.further.Goals as goal

pub loop-turn-init : goal.loop-turn-init
loop-turn-init g c = λ reader reads. first_of (search rules, grind (arith, common_steps))

pub returns-then-not-sees : goal.returns-then-not-sees
returns-then-not-sees g c = λ reader reads.
    let e = one_more (λ n. repeat sees_comma (added_behind_comma reader) n c.loop-turn.found.items c.loop-turn.tokens) _ c.loop-turn._turn c.loop-turn-test.true (c.loop-turn.invariant reader reads) in
    first_of (search rules, grind (arith, common_steps))

pub returns-in_err-item : goal.returns-in_err-item
returns-in_err-item g c = λ reader reads.
    let e = one_more (λ n. repeat sees_comma (added_behind_comma reader) n c.loop-turn.found.items c.loop-turn.tokens) _ c.loop-turn._turn c.loop-turn-test.true (c.loop-turn.invariant reader reads) in
    let r = reads _ _ _ c.item.ensures in
    first_of (search rules, grind (arith, common_steps))

pub loop-turn-preserved : goal.loop-turn-preserved
loop-turn-preserved g c = λ reader reads.
    let e = one_more (λ n. repeat sees_comma (added_behind_comma reader) n c.loop-turn.found.items c.loop-turn.tokens) _ c.loop-turn._turn c.loop-turn-test.true (c.loop-turn.invariant reader reads) in
    let r = reads _ _ _ c.item.ensures in
    first_of (search rules, grind (arith, common_steps))

pub returns : goal.returns
returns g c = λ reader reads.
    let e = no_more (λ n. repeat sees_comma (added_behind_comma reader) n c.loop-turn.found.items c.loop-turn.tokens) _ c.loop-turn._turn c.loop-turn-test.false (c.loop-turn.invariant reader reads) in
    first_of (search rules, grind (arith, common_steps))
