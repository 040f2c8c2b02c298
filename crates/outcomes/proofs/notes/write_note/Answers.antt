use Rattle.outcomes.proofs.Pieces.{noted, nothing_noted}
use Rattle.outcomes.proofs.notes.write_note.Goals as goal

pub returns-in-Ok-clause-note : goal.returns-in-Ok-clause-note
returns-in-Ok-clause-note g c = rw c.in-Ok.is (nothing_noted (g.N.Sink.seen c.args.notes.now))

pub returns-in_default : goal.returns-in_default
returns-in_default g c = record {
  note = noted _ _ _ _ c.put_note.ensures.ok c.put_note.ensures.fault c.put_note.ensures.counts;
  silent = λ e. absurd (c.in_default.not-Ok e);
}
