use Rattle.std.proofs.Common.{refl}
use Rattle.builtin_object.proofs.descriptors.change_of.Goals as goal

pub returns : goal.returns
returns c = rw (c.in_ok-writable.ensures, c.in_ok-enumerable.ensures, c.in_ok-configurable.ensures) refl
