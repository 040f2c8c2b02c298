use Rattle.object_shapes.proofs.Callers.{function_shaped, plain_stays, pristine_shaped, step_shaped}
use Rattle.object_shapes.proofs.laws.law_shapes_stay.Goals as goal

pub returns : goal.returns
returns c = record { begin = pristine_shaped; steps = step_shaped; functions = function_shaped; plain = plain_stays }
