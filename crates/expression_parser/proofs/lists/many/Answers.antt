use Rattle.std.proofs.Common.{rules, arith}
use Rattle.std.proofs.lemmas.Grind.{common_steps}
use Rattle.js_grammar.specs.Parser.{repeat, added, many}
use Rattle.expression_parser.proofs.Turns.{one_more, no_more}
use Rattle.expression_parser.proofs.lists.many.Goals as goal

pub loop-turn-init : goal.loop-turn-init
unfolding many
loop-turn-init g c = λ asks reader tests reads. first_of (search rules, grind (arith, common_steps))

pub returns-then-not-goes_on : goal.returns-then-not-goes_on
returns-then-not-goes_on g c = λ asks reader tests reads.
    let e = one_more (λ n. repeat asks (added reader) n c.loop-turn.found.items c.loop-turn.tokens) _ c.loop-turn._turn c.loop-turn-test.true (c.loop-turn.invariant asks reader tests reads) in
    let t = tests _ _ c.goes_on.ensures in
    first_of (search rules, grind (arith, common_steps))

pub returns-in_err-item : goal.returns-in_err-item
returns-in_err-item g c = λ asks reader tests reads.
    let e = one_more (λ n. repeat asks (added reader) n c.loop-turn.found.items c.loop-turn.tokens) _ c.loop-turn._turn c.loop-turn-test.true (c.loop-turn.invariant asks reader tests reads) in
    let t = tests _ _ c.goes_on.ensures in
    let r = reads _ _ _ c.item.ensures in
    first_of (search rules, grind (arith, common_steps))

pub loop-turn-preserved : goal.loop-turn-preserved
loop-turn-preserved g c = λ asks reader tests reads.
    let e = one_more (λ n. repeat asks (added reader) n c.loop-turn.found.items c.loop-turn.tokens) _ c.loop-turn._turn c.loop-turn-test.true (c.loop-turn.invariant asks reader tests reads) in
    let t = tests _ _ c.goes_on.ensures in
    let r = reads _ _ _ c.item.ensures in
    first_of (search rules, grind (arith, common_steps))

pub returns : goal.returns
returns g c = λ asks reader tests reads.
    let e = no_more (λ n. repeat asks (added reader) n c.loop-turn.found.items c.loop-turn.tokens) _ c.loop-turn._turn c.loop-turn-test.false (c.loop-turn.invariant asks reader tests reads) in
    first_of (search rules, grind (arith, common_steps))
