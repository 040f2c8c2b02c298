use Rattle.std.proofs.Common.{arith, subst, sym}
use Rattle.js_core.proofs.Callers.{handed}
use Rattle.page_tokens.proofs.Listing.{GoesOn, listing_begins, listing_ends, listing_goes_on, listing_refused}
use Rattle.page_tokens.proofs.attributes.attributes.Goals as goal

pub loop-name-init : goal.loop-name-init
loop-name-init c = (subst (GoesOn c.args.text.now c.args.text.now) (sym c.new-all.ensures) (listing_begins c.args.text.now), omega arith)

pub loop-name-preserved : goal.loop-name-preserved
loop-name-preserved c = (
  listing_goes_on _ _ _ _ _ _ _ _ c.loop-name.invariant.0 c.in-Some.ensures.read c.in_ok-value.ensures.read (rw c.in_ok-folded.ensures at c.in_ok-push.ensures.ok),
  omega (arith, c.loop-name.invariant.1, c.in-Some.ensures.shorter),
)

pub returns-clause-read : goal.returns-clause-read
returns-clause-read c = listing_ends _ _ _ c.loop-name.invariant.0 c.in_default.ensures.read

pub returns-in_err-value-clause-refused : goal.returns-in_err-value-clause-refused
returns-in_err-value-clause-refused c =
    handed c.decoded.result _ _ c.decoded.ensures.refused c.in_err-value.was c.from_residual.ensures (λ _ refused. listing_refused _ _ _ _ _ _ c.loop-name.invariant.0 c.in-Some.ensures.read refused)
