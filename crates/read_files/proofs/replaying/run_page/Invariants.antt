use Rattle.std.proofs.Common.{◌≡◌, drop}
use Rattle.page_meaning.specs.Pages.{run_all, run_of}
use Rattle.read_files.specs.Page.{running}
use Rattle.read_files.proofs.replaying.run_page.Given as goal

abbrev pub invariant-loop-event : goal.invariant-loop-event
invariant-loop-event l = run_all l.session.page (drop l.event-index l.list) ≡ run_of (running l.fn.page) l.list
