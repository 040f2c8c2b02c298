-- The errors of properties that may not be put, defined or deleted.
use Rattle.js_values.specs.declared.throw.Throw.{Throw}
use Rattle.js_values.specs.declared.throw.Throw.TheVariants.{CannotDefine, CannotDelete, CannotSet}
use Rattle.object_heap.specs.declared.fault.Refused.{Refused}
use Rattle.object_heap.specs.declared.fault.Refused.TheVariants.{Put, Define, Delete}

abbrev pub throw_of : Refused → Throw
throw_of Put = CannotSet
throw_of Define = CannotDefine
throw_of Delete = CannotDelete
