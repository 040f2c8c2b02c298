use Rattle.std.proofs.Common.{◌∙◌, arith, subst, sym}
use Rattle.std.proofs.lemmas.Bool.Decides.{nat_tests}
use Rattle.page_tokens.proofs.Decoding.{GoesOn, decoding_begins, decoding_ends, decoding_goes_on}
use Rattle.page_tokens.proofs.references.decoded.Goals as goal

pub loop-rest-init : goal.loop-rest-init
loop-rest-init c = subst (GoesOn c.args.text.now c.args.text.now) (sym c.new-units.ensures.items) (decoding_begins c.args.text.now)

pub loop-rest-preserved : goal.loop-rest-preserved
loop-rest-preserved c = decoding_goes_on _ _ _ _ _ _ c.loop-rest.invariant c.in_ok-rest.ensures.read.1 c.in_ok-rest.ensures.read.2

pub returns-clause-read : goal.returns-clause-read
returns-clause-read c = decoding_ends _ _ _ _ c.loop-rest.invariant (grind (arith, nat_tests)) (c.in_ok-of.ensures ∙ c.as_slice.ensures.value)
