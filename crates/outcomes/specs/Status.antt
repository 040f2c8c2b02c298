-- The exit statuses of the program.
use Rattle.std.specs.Prelude.{ℕ}
use Rattle.outcomes.specs.declared.status.Status.{Status}
use Rattle.outcomes.specs.declared.status.Status.TheVariants.{Ok, PageRefused, Usage, EventsRefused, ReadFault, WriteFault, TooLarge, OutOfMemory, KeeperFault, NoSession, VersionsUsed}

abbrev pub exit_status_of : Status → ℕ
exit_status_of Ok = 0
exit_status_of (PageRefused r) = 1
exit_status_of Usage = 2
exit_status_of (EventsRefused i) = 3
exit_status_of ReadFault = 4
exit_status_of WriteFault = 5
exit_status_of (TooLarge w) = 6
exit_status_of OutOfMemory = 7
exit_status_of KeeperFault = 8
exit_status_of NoSession = 9
exit_status_of VersionsUsed = 11
