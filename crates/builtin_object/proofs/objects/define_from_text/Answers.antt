use Rattle.builtin_object.proofs.ValueKinds as kinds
use Rattle.builtin_object.proofs.objects.define_from_text.Goals as goal

pub returns-in-len1-up : goal.returns-in-len1-up
returns-in-len1-up c = kinds.text_descriptors c.args.text.now c.args.at c.args.state.now c.raise.new.self c.raise.result (rw c.as_slice.ensures.value at c.in-len1-up.len_at_least) c.raise.ensures
