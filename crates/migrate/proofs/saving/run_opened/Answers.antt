use Rattle.std.proofs.Common.{◌≡◌, IfOk, ap, subst}
use Rattle.page_meaning.specs.Pages.{Page as RunningPage, run_of}
use Rattle.read_files.specs.Page.{running}
use Rattle.migrate.proofs.saving.run_opened.Goals as goal

pub returns-in-Ok-clause-state : goal.returns-in-Ok-clause-state
returns-in-Ok-clause-state c =
    subst (λ (page : RunningPage). IfOk c.run_page.result (λ s. s.page ≡ run_of page c.args.list.now)) (ap running c.in-Ok.ensures.opened) c.run_page.ensures
