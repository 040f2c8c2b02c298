use Rattle.std.proofs.Common.{ap, refl, ◌∙◌}
use Rattle.js_core.specs.declared.memory.Failure.TheVariants.{Cause}
use Rattle.migrate.proofs.Judgement.{answer_fault, answer_memory, answer_put, not_long, not_many}
use Rattle.migrate.proofs.saving.put_walked.Goals as goal

pub returns-in-Ok-clause-answer : goal.returns-in-Ok-clause-answer
returns-in-Ok-clause-answer g c =
    answer_put c.args.state.now c.args.walked.now.things.keys (g.O.Sink.seen c.args.out.now) (g.O.Sink.seen c.write_walked.new.out) _ c.requires.walked refl
    c.in-Ok.ensures.judged c.in-Ok.ensures.written

pub returns-in-Err-Cause-TooMany : goal.returns-in-Err-Cause-TooMany
returns-in-Err-Cause-TooMany g c =
    not_many c.args.state.now c.args.walked.now.things.keys (g.O.Sink.seen c.args.out.now) (g.O.Sink.seen c.write_walked.new.out) _ c.in-Err-Cause-TooMany.weight _
    (c.in-Err-Cause-TooMany.field-0-is ∙ ap Cause c.in-Err-Cause-TooMany.field-0-0-is) c.requires.little c.in-Err-Cause-TooMany.ensures.judged

pub returns-in-Err-Cause-TooLong : goal.returns-in-Err-Cause-TooLong
returns-in-Err-Cause-TooLong g c =
    not_long c.args.state.now c.args.walked.now.things.keys (g.O.Sink.seen c.args.out.now) (g.O.Sink.seen c.write_walked.new.out) _ c.in-Err-Cause-TooLong.weight _
    (c.in-Err-Cause-TooLong.field-0-is ∙ ap Cause c.in-Err-Cause-TooLong.field-0-0-is) c.requires.little c.in-Err-Cause-TooLong.ensures.judged

pub returns-in-Err-Cause-WriteFault-clause-answer : goal.returns-in-Err-Cause-WriteFault-clause-answer
returns-in-Err-Cause-WriteFault-clause-answer g c =
    answer_fault c.args.state.now c.args.walked.now.things.keys (g.O.Sink.seen c.args.out.now) (g.O.Sink.seen c.write_walked.new.out) _
    c.requires.walked (c.in-Err-Cause-WriteFault.field-0-is ∙ ap Cause c.in-Err-Cause-WriteFault.field-0-0-is) c.in-Err-Cause-WriteFault.ensures.judged c.in-Err-Cause-WriteFault.ensures.begun

pub returns-in-Err-OutOfMemory-clause-answer : goal.returns-in-Err-OutOfMemory-clause-answer
returns-in-Err-OutOfMemory-clause-answer g c =
    answer_memory c.args.state.now c.args.walked.now.things.keys (g.O.Sink.seen c.args.out.now) (g.O.Sink.seen c.write_walked.new.out) _
    c.requires.walked c.in-Err-OutOfMemory.field-0-is c.in-Err-OutOfMemory.ensures.judged
