use Rattle.std.proofs.Common.{◌≡◌, ◌+◌, ◌++◌}
use Rattle.page_maker.specs.Generator.{state}
use Rattle.page_maker.specs.Events.{events}
use Rattle.page_maker.proofs.made_events.push_events.Given as goal

abbrev pub invariant-loop-made : goal.invariant-loop-made
invariant-loop-made l = record {
  drawn : l.generator.state ≡ state (l.parts + l._made);
  pushed : l.out.items ≡ l.initial.out.items ++ events l.parts l._made;
}
