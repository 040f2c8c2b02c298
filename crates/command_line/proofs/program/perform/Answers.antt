use Rattle.std.proofs.Common.{subst, sym}
use Rattle.command_line.specs.declared.command.Command.{Command as Asked}
use Rattle.command_line.specs.Command.{view}
use Rattle.command_line.specs.Works.{work_of}
use Rattle.outcomes.specs.Seen.{seen_between}
use Rattle.outcomes.specs.Work.{Answers}
use Rattle.read_files.specs.Works.{checking, instrumenting, replaying}
use Rattle.parking.specs.Works.{dropping, fetching, listing, parking}
use Rattle.stress.specs.Works.{stressing}
use Rattle.command_line.proofs.Performed.{alone_answers, both_answer, files_answer, rows_answer}
use Rattle.command_line.proofs.program.perform.Goals as goal

pub returns-in-Check-clause-answers : goal.returns-in-Check-clause-answers
returns-in-Check-clause-answers g c =
    let files = g.F.Files.seen c.args.files.now in
    let files_now = g.F.Files.seen c.check.new.files in
    let keeper = g.K.Keeper.seen c.args.keeper.now in
    let keeper_now = g.K.Keeper.seen c.args.keeper.now in
    let out = g.O.Sink.seen c.args.out.now in
    let out_now = g.O.Sink.seen c.put_text.new.out in
    subst (λ (asked : Asked). Answers (work_of (view asked)) c.put_text.result (seen_between files files_now keeper keeper_now) out out_now) (sym c.in-Check.is)
    (files_answer (checking c.in-Check.page.now) c.check.result c.put_text.result files files_now keeper keeper_now out out_now c.put_text.ensures.put c.put_text.ensures.later
    c.check.ensures.gives c.check.ensures.lasts)

pub returns-in-Instrument-clause-answers : goal.returns-in-Instrument-clause-answers
returns-in-Instrument-clause-answers g c =
    let files = g.F.Files.seen c.args.files.now in
    let files_now = g.F.Files.seen c.instrument.new.files in
    let keeper = g.K.Keeper.seen c.args.keeper.now in
    let keeper_now = g.K.Keeper.seen c.args.keeper.now in
    let out = g.O.Sink.seen c.args.out.now in
    let out_now = g.O.Sink.seen c.put_text-in-Instrument.new.out in
    subst (λ (asked : Asked). Answers (work_of (view asked)) c.put_text-in-Instrument.result (seen_between files files_now keeper keeper_now) out out_now) (sym c.in-Instrument.is)
    (files_answer (instrumenting c.in-Instrument.page.now) c.instrument.result c.put_text-in-Instrument.result files files_now keeper keeper_now out out_now c.put_text-in-Instrument.ensures.put c.put_text-in-Instrument.ensures.later
    c.instrument.ensures.gives c.instrument.ensures.lasts)

pub returns-in-Replay-clause-answers : goal.returns-in-Replay-clause-answers
returns-in-Replay-clause-answers g c =
    let files = g.F.Files.seen c.args.files.now in
    let files_now = g.F.Files.seen c.replay.new.files in
    let keeper = g.K.Keeper.seen c.args.keeper.now in
    let keeper_now = g.K.Keeper.seen c.args.keeper.now in
    let out = g.O.Sink.seen c.args.out.now in
    let out_now = g.O.Sink.seen c.put_text-in-Replay.new.out in
    subst (λ (asked : Asked). Answers (work_of (view asked)) c.put_text-in-Replay.result (seen_between files files_now keeper keeper_now) out out_now) (sym c.in-Replay.is)
    (files_answer (replaying c.in-Replay.page.now c.in-Replay.events.now) c.replay.result c.put_text-in-Replay.result files files_now keeper keeper_now out out_now c.put_text-in-Replay.ensures.put c.put_text-in-Replay.ensures.later
    c.replay.ensures.gives c.replay.ensures.lasts)

pub returns-in-Save-clause-answers : goal.returns-in-Save-clause-answers
returns-in-Save-clause-answers g c =
    let seen = seen_between (g.F.Files.seen c.args.files.now) (g.F.Files.seen c.save.new.files) (g.K.Keeper.seen c.args.keeper.now) (g.K.Keeper.seen c.args.keeper.now) in
    subst (λ (asked : Asked). Answers (work_of (view asked)) c.save.result seen (g.O.Sink.seen c.args.out.now) (g.O.Sink.seen c.save.new.out)) (sym c.in-Save.is)
    (c.save.ensures.answers (g.K.Keeper.seen c.args.keeper.now))

pub returns-in-Park-clause-answers : goal.returns-in-Park-clause-answers
returns-in-Park-clause-answers g c =
    let files = g.F.Files.seen c.args.files.now in
    let files_now = g.F.Files.seen c.park.new.files in
    let keeper = g.K.Keeper.seen c.args.keeper.now in
    let keeper_now = g.K.Keeper.seen c.park.new.keeper in
    let out = g.O.Sink.seen c.args.out.now in
    let out_now = g.O.Sink.seen c.put_text-in-Park.new.out in
    subst (λ (asked : Asked). Answers (work_of (view asked)) c.put_text-in-Park.result (seen_between files files_now keeper keeper_now) out out_now) (sym c.in-Park.is)
    (both_answer (parking c.in-Park.page.now c.in-Park.events.now c.in-Park.name.now) c.park.result c.put_text-in-Park.result files files_now keeper keeper_now out out_now c.put_text-in-Park.ensures.put c.put_text-in-Park.ensures.later
    c.park.ensures.gives c.park.ensures.lasts c.park.ensures.calls)

pub returns-in-Fetch-clause-answers : goal.returns-in-Fetch-clause-answers
returns-in-Fetch-clause-answers g c =
    let files = g.F.Files.seen c.args.files.now in
    let files_now = g.F.Files.seen c.args.files.now in
    let keeper = g.K.Keeper.seen c.args.keeper.now in
    let keeper_now = g.K.Keeper.seen c.fetch.new.keeper in
    let out = g.O.Sink.seen c.args.out.now in
    let out_now = g.O.Sink.seen c.put_text-in-Fetch.new.out in
    subst (λ (asked : Asked). Answers (work_of (view asked)) c.put_text-in-Fetch.result (seen_between files files_now keeper keeper_now) out out_now) (sym c.in-Fetch.is)
    (rows_answer (fetching c.in-Fetch.name.now c.in-Fetch.version) c.fetch.result c.put_text-in-Fetch.result files files_now keeper keeper_now out out_now c.put_text-in-Fetch.ensures.put c.put_text-in-Fetch.ensures.later
    c.fetch.ensures.gives c.fetch.ensures.calls)

pub returns-in-Parked-clause-answers : goal.returns-in-Parked-clause-answers
returns-in-Parked-clause-answers g c =
    let files = g.F.Files.seen c.args.files.now in
    let files_now = g.F.Files.seen c.args.files.now in
    let keeper = g.K.Keeper.seen c.args.keeper.now in
    let keeper_now = g.K.Keeper.seen c.parked.new.keeper in
    let out = g.O.Sink.seen c.args.out.now in
    let out_now = g.O.Sink.seen c.put_text-in-Parked.new.out in
    subst (λ (asked : Asked). Answers (work_of (view asked)) c.put_text-in-Parked.result (seen_between files files_now keeper keeper_now) out out_now) (sym c.in-Parked.is)
    (rows_answer listing c.parked.result c.put_text-in-Parked.result files files_now keeper keeper_now out out_now c.put_text-in-Parked.ensures.put c.put_text-in-Parked.ensures.later
    c.parked.ensures.gives c.parked.ensures.calls)

pub returns-in-Drop-clause-answers : goal.returns-in-Drop-clause-answers
returns-in-Drop-clause-answers g c =
    let files = g.F.Files.seen c.args.files.now in
    let files_now = g.F.Files.seen c.args.files.now in
    let keeper = g.K.Keeper.seen c.args.keeper.now in
    let keeper_now = g.K.Keeper.seen c.drop_row.new.keeper in
    let out = g.O.Sink.seen c.args.out.now in
    let out_now = g.O.Sink.seen c.put_text-in-Drop.new.out in
    subst (λ (asked : Asked). Answers (work_of (view asked)) c.put_text-in-Drop.result (seen_between files files_now keeper keeper_now) out out_now) (sym c.in-Drop.is)
    (rows_answer (dropping c.in-Drop.name.now c.in-Drop.version) c.drop_row.result c.put_text-in-Drop.result files files_now keeper keeper_now out out_now c.put_text-in-Drop.ensures.put c.put_text-in-Drop.ensures.later
    c.drop_row.ensures.gives c.drop_row.ensures.calls)

pub returns-in-Stress-clause-answers : goal.returns-in-Stress-clause-answers
returns-in-Stress-clause-answers g c =
    let files = g.F.Files.seen c.args.files.now in
    let files_now = g.F.Files.seen c.args.files.now in
    let keeper = g.K.Keeper.seen c.args.keeper.now in
    let keeper_now = g.K.Keeper.seen c.args.keeper.now in
    let out = g.O.Sink.seen c.args.out.now in
    let out_now = g.O.Sink.seen c.put_text-in-Stress.new.out in
    subst (λ (asked : Asked). Answers (work_of (view asked)) c.put_text-in-Stress.result (seen_between files files_now keeper keeper_now) out out_now) (sym c.in-Stress.is)
    (alone_answers (stressing c.in-Stress.parts) c.stress.result c.put_text-in-Stress.result files files_now keeper keeper_now out out_now c.put_text-in-Stress.ensures.put c.put_text-in-Stress.ensures.later
    c.stress.ensures.gives)
