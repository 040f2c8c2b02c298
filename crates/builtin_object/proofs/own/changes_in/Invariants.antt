use Rattle.std.proofs.Common.{◌≡◌, drop}
use Rattle.page_meaning.specs.ObjectRows as spec
use Rattle.builtin_object.specs.Own.{prefixed}
use Rattle.builtin_object.proofs.own.changes_in.Given as goal

abbrev pub invariant-loop-name : goal.invariant-loop-name
invariant-loop-name l = prefixed l.changes.items (spec.changes_in l.state l.from (drop l.name-index l.names)) ≡ spec.changes_in l.state l.from l.names
