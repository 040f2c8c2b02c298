use Rattle.std.proofs.Common.{◌≡◌, ◌++◌}
use Rattle.page_maker.specs.Generator.{state}
use Rattle.page_maker.specs.Page.{calls}
use Rattle.page_maker.proofs.made_page.push_calls.Given as goal

abbrev pub invariant-loop-made : goal.invariant-loop-made
invariant-loop-made l = record {
  drawn : l.generator.state ≡ state l.made;
  pushed : l.out.items ≡ l.initial.out.items ++ calls l.made;
}
