use Rattle.std.proofs.Common.{rules, arith}
use Rattle.std.proofs.lemmas.Grind.{common_steps}
use Rattle.js_grammar.specs.ExpressionReader.{suffixes, has_suffix, suffix}
use Rattle.js_grammar.specs.Parser.{repeat}
use Rattle.expression_parser.specs.Inside.{limit, expression_in, body_in}
use Rattle.expression_parser.proofs.Turns.{one_more, no_more}
use Rattle.expression_parser.proofs.grammar.Grammar.suffixes.Goals as goal

pub loop-turn-init : goal.loop-turn-init
unfolding suffixes
loop-turn-init g c = first_of (search rules, grind (arith, common_steps))

pub returns-then-not-is_suffix : goal.returns-then-not-is_suffix
returns-then-not-is_suffix g c =
    let e = one_more (λ n. repeat (has_suffix c.args.calls) (suffix limit (expression_in c.args.self.now.depth) (body_in c.args.self.now.depth)) n c.loop-turn.left c.loop-turn.tokens) _ c.loop-turn._turn c.loop-turn-test.true c.loop-turn.invariant in
    first_of (search rules, grind (arith, common_steps))

pub returns-in_err-left : goal.returns-in_err-left
returns-in_err-left g c =
    let e = one_more (λ n. repeat (has_suffix c.args.calls) (suffix limit (expression_in c.args.self.now.depth) (body_in c.args.self.now.depth)) n c.loop-turn.left c.loop-turn.tokens) _ c.loop-turn._turn c.loop-turn-test.true c.loop-turn.invariant in
    first_of (search rules, grind (arith, common_steps))

pub loop-turn-preserved : goal.loop-turn-preserved
loop-turn-preserved g c =
    let e = one_more (λ n. repeat (has_suffix c.args.calls) (suffix limit (expression_in c.args.self.now.depth) (body_in c.args.self.now.depth)) n c.loop-turn.left c.loop-turn.tokens) _ c.loop-turn._turn c.loop-turn-test.true c.loop-turn.invariant in
    first_of (search rules, grind (arith, common_steps))

pub returns : goal.returns
returns g c =
    let e = no_more (λ n. repeat (has_suffix c.args.calls) (suffix limit (expression_in c.args.self.now.depth) (body_in c.args.self.now.depth)) n c.loop-turn.left c.loop-turn.tokens) _ c.loop-turn._turn c.loop-turn-test.false c.loop-turn.invariant in
    first_of (search rules, grind (arith, common_steps))
