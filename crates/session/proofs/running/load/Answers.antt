use Rattle.std.proofs.Common.{◌∙◌}
use Rattle.page_meaning.specs.Pages.{load_of}
use Rattle.session.proofs.running.load.Goals as goal

pub returns-clause-page : goal.returns-clause-page
returns-clause-page c =
    let parts = c.into_parts-dom.ensures in
    c.in_ok-state.ensures ∙ (λ i. load_of (record { nodes = parts.0 i; scripts = parts.1 i }))
