use Rattle.std.proofs.Common.{◌≡◌, Bool, List, ◌-◌}
use Rattle.js_grammar.specs.Parser.{Parser, repeat, added, many}
use Rattle.js_grammar.specs.Symbols.{Lexeme}
use Rattle.expression_parser.specs.Reads.{ReadsItems, Tests}
use Rattle.expression_parser.proofs.lists.many.Given as goal

abbrev pub invariant-loop-turn : goal.invariant-loop-turn
invariant-loop-turn g l =
    (asks : List Lexeme → Bool) → (reader : Parser _) → Tests asks (goal.G-post g l.fn.goes_on) → ReadsItems reader (goal.F-post g l.fn.item)
    → many asks reader l.fn.tokens ≡ repeat asks (added reader) (l._turn-end - l._turn) l.found.items l.tokens
