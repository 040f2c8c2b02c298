use Rattle.js_core.proofs.Callers.{handed}
use Rattle.page_reader.proofs.Steps.{ends_html, open_in_html, refused_at_end, refused_by, stays_in_html}
use Rattle.page_reader.proofs.tree.content.Goals as goal

pub returns-then-branch-clause-read : goal.returns-then-branch-clause-read
returns-then-branch-clause-read c =
    ends_html _ _ c.step.new.below.items c.step.new.top c.in_ok-step.field-0 _ _ _ _ _ _ _ _ _ _ c.if-branch.true c.loop-token.invariant.0 c.in-Some.ensures.cases.0 c.in_ok-step.ensures.read

pub loop-token-preserved : goal.loop-token-preserved
loop-token-preserved c = (
  stays_in_html _ _ c.step.new.below.items c.step.new.top c.in_ok-step.field-0 _ _ _ _ _ _ _ _ _ _ c.if-branch.false c.loop-token.invariant.0 c.in-Some.ensures.cases.0 c.in_ok-step.ensures.read,
  open_in_html c.step.new.below.items c.step.new.top c.in_ok-step.field-0 _ c.if-branch.false c.in_ok-step.ensures.open,
)

pub returns-clause-refused : goal.returns-clause-refused
returns-clause-refused c nodes all = refused_at_end _ _ _ _ _ _ _ nodes _ _ all c.loop-token.invariant.0 c.in_default.ensures.cases

pub returns-in_err-step-clause-refused : goal.returns-in_err-step-clause-refused
returns-in_err-step-clause-refused c =
    handed c.step.result _ _ c.step.ensures.refused c.in_err-step.was c.from_residual.ensures (λ _ refused nodes all. refused_by _ _ _ _ _ _ _ _ nodes _ _ all c.loop-token.invariant.0 c.in-Some.ensures.cases.0 refused)
