use Rattle.std.proofs.Common.{◌≡◌, ℕ, rules, arith}
use Rattle.std.proofs.lemmas.Grind.{common_steps}
use Rattle.js_grammar.specs.Parser.{repeat, added, many}
use Rattle.js_grammar.specs.StatementReader.{has_more, clause}
use Rattle.expression_parser.specs.Inside.{limit, expression_in, body_in, statement_in}
use Rattle.script_parser.specs.Clauses.{clauses_of}
use Rattle.script_parser.proofs.Clauses.{clauses_pushed}
use Rattle.script_parser.proofs.Turns.{one_more, no_more}
use Rattle.script_parser.proofs.inner.Statements.clauses.Goals as goal

pub loop-turn-init : goal.loop-turn-init
unfolding many
loop-turn-init g c = first_of (search rules, grind (arith, common_steps))

pub returns-then-not-has_more : goal.returns-then-not-has_more
returns-then-not-has_more g c =
    let depth = c.args.self.now.grammar.depth in
    let e = one_more (λ n. repeat has_more (added (clause limit (expression_in depth) (body_in depth) (statement_in depth))) n (clauses_of c.loop-turn.found.items) c.loop-turn.tokens) _ c.loop-turn._turn c.loop-turn-test.true c.loop-turn.invariant in
    first_of (search rules, grind (arith, common_steps))

pub returns-in_err-clause : goal.returns-in_err-clause
returns-in_err-clause g c =
    let depth = c.args.self.now.grammar.depth in
    let e = one_more (λ n. repeat has_more (added (clause limit (expression_in depth) (body_in depth) (statement_in depth))) n (clauses_of c.loop-turn.found.items) c.loop-turn.tokens) _ c.loop-turn._turn c.loop-turn-test.true c.loop-turn.invariant in
    first_of (search rules, grind (arith, common_steps))

pub loop-turn-preserved : goal.loop-turn-preserved
loop-turn-preserved g c =
    let depth = c.args.self.now.grammar.depth in
    let e = one_more (λ n. repeat has_more (added (clause limit (expression_in depth) (body_in depth) (statement_in depth))) n (clauses_of c.loop-turn.found.items) c.loop-turn.tokens) _ c.loop-turn._turn c.loop-turn-test.true c.loop-turn.invariant in
    first_of (search (rules, clauses_pushed), grind (arith, common_steps, clauses_pushed))

pub returns : goal.returns
returns g c =
    let depth = c.args.self.now.grammar.depth in
    let e = no_more (λ n. repeat has_more (added (clause limit (expression_in depth) (body_in depth) (statement_in depth))) n (clauses_of c.loop-turn.found.items) c.loop-turn.tokens) _ c.loop-turn._turn c.loop-turn-test.false c.loop-turn.invariant in
    first_of (search rules, grind (arith, common_steps))
