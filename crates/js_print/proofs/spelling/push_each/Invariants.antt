use Rattle.std.proofs.Common.{◌≡◌, ◌++◌, take, length}
use Rattle.js_print.specs.Spelling.{text_after, text_of}
use Rattle.js_print.proofs.spelling.push_each.Given as goal

abbrev pub invariant-loop-rest : goal.invariant-loop-rest
invariant-loop-rest l = record {
  printed : l.out.items ++ text_after l.after_word l.rest ≡ l.initial.out.items ++ text_of l.lexemes;
  kept : take (length l.initial.out.items) l.out.items ≡ l.initial.out.items;
}

abbrev pub decreases-loop-rest : goal.decreases-loop-rest
decreases-loop-rest l = length l.rest
