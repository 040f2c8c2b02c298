use Rattle.std.proofs.Common.{◌≡◌, length, ◌-◌}
use Rattle.js_grammar.specs.Parser.{Parser, repeat, sees_comma, added_behind_comma}
use Rattle.expression_parser.specs.Reads.{ReadsItems}
use Rattle.expression_parser.proofs.lists.further.Given as goal

abbrev pub invariant-loop-turn : goal.invariant-loop-turn
invariant-loop-turn g l =
    (reader : Parser _) → ReadsItems reader (goal.F-post g l.fn.item)
    → repeat sees_comma (added_behind_comma reader) (length l.fn.tokens) l.fn.found.items l.fn.tokens
    ≡ repeat sees_comma (added_behind_comma reader) (l._turn-end - l._turn) l.found.items l.tokens
