-- That what the words ask for is done as the work of their command says.
use Rattle.std.proofs.Common.{◌≡◌, Option, Some, None, refl, subst}
use Rattle.page_io.specs.Seen.{SinkSeen}
use Rattle.outcomes.specs.Seen.{Seen, KeepsRows}
use Rattle.outcomes.specs.Stages.{EndsBy, Keeps, Spares}
use Rattle.outcomes.specs.Work.{Leaves, PutsText}
use Rattle.outcomes.specs.declared.status.Status.{Status}
use Rattle.outcomes.specs.declared.status.Status.TheVariants.{Usage}
use Rattle.outcomes.proofs.Callers.{not_usage}
use Rattle.command_line.specs.Command.{Command}
use Rattle.command_line.specs.Endings.{Ends, Puts, Rows, stages_of}
use Rattle.command_line.specs.Works.{work_of}

pub obeyed : (asked : Option Command) (command : Command) (status : Status) (seen : Seen) (out out_now : SinkSeen) → Some command ≡ asked
    → EndsBy (work_of command).stages status seen out out_now → Ends asked status seen out out_now
obeyed asked command status seen out out_now e h = subst (λ (a : Option Command). Ends a status seen out out_now) e h

pub puts_obeyed : (asked : Option Command) (command : Command) (status : Status) (seen : Seen) (out out_now : SinkSeen) → Some command ≡ asked
    → PutsText (work_of command) status seen out out_now → Puts asked status seen out out_now
puts_obeyed asked command status seen out out_now e h = subst (λ (a : Option Command). Puts a status seen out out_now) e h

pub rows_obeyed : (asked : Option Command) (command : Command) (status : Status) (seen : Seen) → Some command ≡ asked → Leaves (work_of command) status seen
    → Rows asked status seen
rows_obeyed asked command status seen e h = subst (λ (a : Option Command). Rows a status seen) e h

pub keeps_obeyed : {K : Type 0} (asked : Option Command) (command : Command) (keeper keeper_now : K) → Some command ≡ asked
    → Keeps (work_of command).stages keeper keeper_now → Keeps (stages_of asked) keeper keeper_now
keeps_obeyed asked command keeper keeper_now e h = subst (λ (a : Option Command). Keeps (stages_of a) keeper keeper_now) e h

pub spares_obeyed : {F : Type 0} (asked : Option Command) (command : Command) (files files_now : F) → Some command ≡ asked
    → Spares (work_of command).stages files files_now → Spares (stages_of asked) files files_now
spares_obeyed asked command files files_now e h = subst (λ (a : Option Command). Spares (stages_of a) files files_now) e h

pub no_words : (asked : Option Command) (seen : Seen) (out out_now : SinkSeen) → None ≡ asked → Ends asked Usage seen out out_now
no_words asked seen out out_now e = subst (λ (a : Option Command). Ends a Usage seen out out_now) e refl

pub puts_none : (asked : Option Command) (seen : Seen) (out : SinkSeen) → None ≡ asked → Puts asked Usage seen out out
puts_none asked seen out e = subst (λ (a : Option Command). Puts a Usage seen out out) e refl

pub rows_none : (asked : Option Command) (seen : Seen) → None ≡ asked → KeepsRows seen → Rows asked Usage seen
rows_none asked seen e h = subst (λ (a : Option Command). Rows a Usage seen) e h

pub never_usage : (command : Command) (seen : Seen) (out out_now : SinkSeen) → ¬ EndsBy (work_of command).stages Usage seen out out_now
never_usage command seen out out_now h = not_usage (work_of command).stages seen out out_now h
