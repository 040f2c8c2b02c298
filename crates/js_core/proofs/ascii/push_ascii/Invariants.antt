use Rattle.std.proofs.Common.{◌≡◌, ◌++◌, take, length}
use Rattle.js_core.proofs.ascii.push_ascii.Given as goal

abbrev pub invariant-loop-code : goal.invariant-loop-code
invariant-loop-code l = record {
  pushed : l.out.items ≡ l.initial.out.items ++ take l.code-index l.text;
  kept : take (length l.initial.out.items) l.out.items ≡ l.initial.out.items;
}
