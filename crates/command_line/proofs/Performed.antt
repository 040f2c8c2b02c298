-- That a command answers as its text and what became of it say, whatever it was not handed.
use Rattle.std.proofs.Common.{ℕ, ◌≤◌, Result, Vec, Global, refl, arith}
use Rattle.page_io.specs.Seen.{FilesSeen, KeeperSeen, SinkSeen}
use Rattle.outcomes.specs.declared.status.Status.{Status}
use Rattle.outcomes.specs.Seen.{seen_between, FilesLast}
use Rattle.outcomes.specs.Work.{Work, Answers, Gives, GivesAlone, GivesOfFiles, GivesOfRows, IsPut}
use Rattle.outcomes.proofs.Callers.{answered}

module _ (work : Work) (r : Result (Vec ℕ Global) Status) (status : Status) (files files_now : FilesSeen) (keeper keeper_now : KeeperSeen) (out out_now : SinkSeen)
    (put : IsPut r status out out_now) (later : out.faults ≤ out_now.faults) where
  pub both_answer : Gives work r (seen_between files files_now keeper keeper_now) → FilesLast files files_now → keeper.faults ≤ keeper_now.faults
      → Answers work status (seen_between files files_now keeper keeper_now) out out_now
  both_answer g lasts calls =
      answered work r status (seen_between files files_now keeper keeper_now) out out_now g
      (record { content = lasts.content; reads = lasts.reads; calls = calls; puts = later }) put

  pub files_answer : GivesOfFiles work r files files_now → FilesLast files files_now → Answers work status (seen_between files files_now keeper keeper) out out_now
  files_answer g lasts =
      answered work r status (seen_between files files_now keeper keeper) out out_now (g keeper)
      (record { content = lasts.content; reads = lasts.reads; calls = omega arith; puts = later }) put

  pub rows_answer : GivesOfRows work r keeper keeper_now → keeper.faults ≤ keeper_now.faults → Answers work status (seen_between files files keeper keeper_now) out out_now
  rows_answer g calls =
      answered work r status (seen_between files files keeper keeper_now) out out_now (g files)
      (record { content = λ name. refl; reads = omega arith; calls = calls; puts = later }) put

  pub alone_answers : GivesAlone work r → Answers work status (seen_between files files keeper keeper) out out_now
  alone_answers g =
      answered work r status (seen_between files files keeper keeper) out out_now (g files keeper)
      (record { content = λ name. refl; reads = omega arith; calls = omega arith; puts = later }) put
