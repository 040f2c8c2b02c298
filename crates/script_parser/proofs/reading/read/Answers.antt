use Rattle.std.proofs.Common.{◌∙◌, rules, arith}
use Rattle.std.proofs.lemmas.Grind.{common_steps}
use Rattle.script_parser.proofs.Whole.{read_all, left_over, not_read}
use Rattle.script_parser.proofs.reading.read.Goals as goal

pub returns-in_err-body : goal.returns-in_err-body
returns-in_err-body c =
    let many = c.len.ensures ∙ c.args.tokens.ok.0 in
    let refused = not_read c.args.tokens.items c.len.result c.new-cursor.result many c.new-cursor.ensures in
    first_of (search (rules, refused), grind (arith, common_steps, refused))

pub returns-then-left-gt0 : goal.returns-then-left-gt0
returns-then-left-gt0 c _ =
    let many = c.len.ensures ∙ c.args.tokens.ok.0 in
    left_over c.args.tokens.items c.len.result c.new-cursor.result many c.new-cursor.ensures c.in_ok-body.body.items c.body_inside.new.tokens c.in_ok-body.ensures (omega arith)

pub returns : goal.returns
returns c =
    let many = c.len.ensures ∙ c.args.tokens.ok.0 in
    read_all c.args.tokens.items c.len.result c.new-cursor.result many c.new-cursor.ensures c.in_ok-body.body.items c.body_inside.new.tokens c.in_ok-body.ensures (omega arith)
