-- An opened script of a plain page is a script of a form page.
use Rattle.script_rules.specs.FormScripts.{IsFormScript}
use Rattle.instrumenter.specs.Opened.{OpenedScriptsAreForm}
use Rattle.instrumenter.specs.Opening.{open_script}
use Rattle.instrumenter.proofs.Heights.{opened_scripts_are_low}
use Rattle.instrumenter.proofs.OpenedForm.{opened_is_formed, opened_is_orderly}
use Rattle.instrumenter.proofs.OpenedSyntax.{opened_is_syntax}

pub opened_scripts_are_form : OpenedScriptsAreForm
opened_scripts_are_form n script h =
    let heights = opened_scripts_are_low n script h.low in
    let form : IsFormScript (open_script n script) =
    record {
      formed = opened_is_formed n script h.syntax h.orderly h.plain;
      orderly = opened_is_orderly n script h.syntax h.orderly h.plain;
      low = heights.0;
    } in
    (opened_is_syntax n script h.syntax, record { form = form; functions = heights.1 })
