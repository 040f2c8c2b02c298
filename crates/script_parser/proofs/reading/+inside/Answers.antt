use Rattle.std.proofs.Common.{◌≡◌, suc, ◌+◌, ◌-◌, ◌<◌, true, false, Some, sym, ap, ◌∙◌, arith, rules}
use Rattle.std.proofs.lemmas.Grind.{common_steps}
use Rattle.js_grammar.specs.declared.operators.Level.TheVariants.{Sequence}
use Rattle.expression_parser.specs.Inside.{expression_in, body_in, statement_in}
use Rattle.expression_parser.specs.Groups.{closing}
use Rattle.expression_parser.specs.Nestings.{inside_of, in_groups}
use Rattle.script_parser.specs.Groups.{has_room}
use Rattle.script_parser.proofs.Groups.{no_expression, other_expression, no_body, no_statement, deeper_body, deeper_statement, plain_expression, closed_more, none_inside, none_deeper, none_behind}
use Rattle.script_parser.proofs.reading.+inside.Goals as goal

pub expression_inside-returns-then-not-has_room : goal.expression_inside-returns-then-not-has_room
expression_inside-returns-then-not-has_room t c _ = no_expression c.args.depth c.args.inn c.args.level c.args.tokens.now (sym c.has_room.ensures ∙ c.if-not-has_room.true)

pub expression_inside-returns : goal.expression_inside-returns
expression_inside-returns t c =
    rw (other_expression c.args.depth c.args.inn c.args.level c.args.tokens.now (sym c.has_room.ensures ∙ c.if-not-has_room.false) (sym c.may_open.ensures ∙ c.if-may_open.false), sym c.inside.ensures) c.expression_at_level.ensures

pub body_inside-returns-then-not-has_room : goal.body_inside-returns-then-not-has_room
body_inside-returns-then-not-has_room t c _ = no_body c.args.depth c.args.tokens.now (sym c.has_room.ensures ∙ c.if-not-has_room.true)

pub body_inside-returns : goal.body_inside-returns
body_inside-returns t c =
    rw (deeper_body c.args.depth c.args.tokens.now (sym c.has_room.ensures ∙ c.if-not-has_room.false), sym c.inside.ensures) c.elements.ensures

pub statement_inside-returns-then-not-has_room : goal.statement_inside-returns-then-not-has_room
statement_inside-returns-then-not-has_room t c _ = no_statement c.args.depth c.args.tokens.now (sym c.has_room.ensures ∙ c.if-not-has_room.true)

pub statement_inside-returns : goal.statement_inside-returns
statement_inside-returns t c =
    rw (deeper_statement c.args.depth c.args.tokens.now (sym c.has_room.ensures ∙ c.if-not-has_room.false), sym c.inside.ensures) c.any_statement.ensures

pub innermost_inside-returns : goal.innermost_inside-returns
innermost_inside-returns t c =
    rw (plain_expression c.args.depth true Sequence c.args.tokens.now c.requires.room c.requires.all c.requires.begun, sym c.inside.ensures) c.sequence.ensures

pub sequence_inside-returns-then-opened-depth : goal.sequence_inside-returns-then-opened-depth
sequence_inside-returns-then-opened-depth t c _ =
    none_deeper c.args.depth c.open_groups-opened.result c.open_groups-opened.new.tokens _ c.open_groups-opened.ensures.inside (omega arith)

pub sequence_inside-returns-in_err-inner : goal.sequence_inside-returns-in_err-inner
sequence_inside-returns-in_err-inner t c =
    let refused = none_inside c.args.depth c.open_groups-opened.result (expression_in (in_groups c.args.depth c.open_groups-opened.result) true Sequence c.open_groups-opened.new.tokens) _ c.open_groups-opened.ensures.inside in
    first_of (search rules, grind (arith, common_steps))

pub sequence_inside-returns-in_err-inner-2 : goal.sequence_inside-returns-in_err-inner-2
sequence_inside-returns-in_err-inner-2 t c =
    let one : c.open_groups-opened.result - c.loop-closed.closed ≡ suc (c.open_groups-opened.result - c.loop-closed.closed - 1) = omega arith in
    let refused = none_behind c.args.depth (c.open_groups-opened.result - c.loop-closed.closed) (c.open_groups-opened.result - c.loop-closed.closed - 1) c.loop-closed.inner c.loop-closed.tokens _ c.loop-closed.invariant one in
    first_of (search rules, grind (arith, common_steps))

pub sequence_inside-loop-closed-preserved : goal.sequence_inside-loop-closed-preserved
sequence_inside-loop-closed-preserved t c =
    let one : c.open_groups-opened.result - c.loop-closed.closed ≡ suc (c.open_groups-opened.result - (c.loop-closed.closed + 1)) = omega arith in
    let same : c.open_groups-opened.result - c.loop-closed.closed - 1 ≡ c.open_groups-opened.result - (c.loop-closed.closed + 1) = omega arith in
    let deeper = c.inside.ensures ∙ ap inside_of (c.in_groups-in-loop-closed.ensures ∙ ap (in_groups c.args.depth) same) in
    c.loop-closed.invariant
    ∙ closed_more c.args.depth (c.open_groups-opened.result - c.loop-closed.closed) (c.open_groups-opened.result - (c.loop-closed.closed + 1)) c.loop-closed.inner c.loop-closed.tokens (Some (c.in_ok-inner-2.inner, c.closed_group.new.tokens)) one
    (ap (λ d. closing d c.loop-closed.inner c.loop-closed.tokens) (sym deeper) ∙ c.in_ok-inner-2.ensures)
