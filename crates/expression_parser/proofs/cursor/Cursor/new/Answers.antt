use Rattle.std.proofs.Common.{ap}
use Rattle.js_grammar.specs.Symbols.{lexemes}
use Rattle.expression_parser.proofs.Upcoming.{upcoming_all}
use Rattle.expression_parser.proofs.cursor.Cursor.new.Goals as goal

pub returns : goal.returns
returns c =
    ap lexemes
    (upcoming_all c.args.tokens.items c.reverse.new.self.items c.pop-next.new.self.items c.pop-next.result c.reverse.new.self.len c.reverse.ensures.items c.pop-next.ensures.items
    c.reverse.new.self.ok.0 c.pop-next.ensures.variant.1)
