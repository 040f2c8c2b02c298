use Rattle.std.proofs.Common.{◌++◌}
use Rattle.js_values.specs.declared.built_in.BuiltIn.TheVariants as built_in
use Rattle.js_values.specs.declared.throw.ErrorKind.TheVariants as kind
use Rattle.page_meaning.specs.Places.{error_prototype}
use Rattle.page_meaning.specs.Pristine.{error_pair}
use Rattle.page_start.proofs.Youngest.{then_beside}
use Rattle.page_start.proofs.objects.push_native_errors.Goals as goal

pub returns : goal.returns
returns c =
    then_beside c.push_error-3.result c.args.heap.now c.push_error.new.heap c.push_error-3.new.heap (error_pair built_in.TypeError kind.Type (error_prototype kind.Plain))
    (error_pair built_in.RangeError kind.Range (error_prototype kind.Plain) ++ error_pair built_in.ReferenceError kind.Reference (error_prototype kind.Plain))
    (rw c.error_prototype-above.ensures at c.in_ok-push_error.ensures)
    (then_beside c.push_error-3.result c.push_error.new.heap c.push_error-2.new.heap c.push_error-3.new.heap (error_pair built_in.RangeError kind.Range (error_prototype kind.Plain))
    (error_pair built_in.ReferenceError kind.Reference (error_prototype kind.Plain)) (rw c.error_prototype-above.ensures at c.in_ok-push_error-2.ensures)
    (rw c.error_prototype-above.ensures at c.push_error-3.ensures))
