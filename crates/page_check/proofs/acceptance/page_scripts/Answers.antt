use Rattle.std.proofs.Common.{◌≡◌, ◌∷◌, ap, rules, arith}
use Rattle.std.specs.Vec.Iter.{into_iter_items}
use Rattle.page_check.specs.Accept.{texts_of}
use Rattle.page_check.proofs.Scripts.{none_read, one_read}
use Rattle.page_check.proofs.acceptance.page_scripts.Goals as goal

pub returns-in_err-page_script-clause-refused : goal.returns-in_err-page_script-clause-refused
returns-in_err-page_script-clause-refused c =
    let first : into_iter_items c.loop-script.script-iterator ≡ c.in-Some.script ∷ into_iter_items c.next.new.self = c.in-Some.ensures.steps.0 in
    search (rules, none_read c.args.kind (texts_of c.args.found.items) _ _ c.loop-script.scripts.items c.in-Some.script.text _ c.in_err-page_script.field-0.0 c.loop-script.invariant (ap texts_of first) (omega (arith, c.len.ensures)) c.in_err-page_script.ensures.refused)

pub loop-script-preserved : goal.loop-script-preserved
loop-script-preserved c =
    let first : into_iter_items c.loop-script.script-iterator ≡ c.in-Some.script ∷ into_iter_items c.next.new.self = c.in-Some.ensures.steps.0 in
    let more = one_read c.args.kind (texts_of c.args.found.items) _ _ c.loop-script.scripts.items c.in-Some.script.text c.in_ok-page_script.field-0 c.loop-script.invariant (ap texts_of first) c.in_ok-page_script.ensures.ok c.in_ok-page_script.ensures.rules in
    rw c.in_ok-push.ensures.items more
