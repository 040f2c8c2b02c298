use Rattle.std.proofs.Common.{◌≡◌, ◌∙◌, ◌+◌, length, sym, ap, arith}
use Rattle.js_grammar.specs.Symbols.{lexemes}
use Rattle.expression_parser.specs.Upcoming.{upcoming}
use Rattle.expression_parser.proofs.Upcoming.{upcoming_length}
use Rattle.expression_parser.proofs.cursor.Cursor.left.Goals as goal

pub returns-in-Some : goal.returns-in-Some
returns-in-Some c =
    let behind = c.self.inside.behind in
    let whole : length c.args.self.now ≡ length behind.items + 1 =
    sym (ap length c.self.view_is) ∙ ap (λ next. length (lexemes (upcoming next behind.items))) c.in-Some.is ∙ upcoming_length c.in-Some.field-0 behind.items in
    omega (arith, behind.ok.0)
