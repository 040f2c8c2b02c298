use Rattle.js_core.proofs.Callers.{handed}
use Rattle.page_reader.proofs.Steps.{closes, no_closes, no_place, places, stays_open}
use Rattle.page_reader.proofs.tree.step.Goals as goal

pub returns-in-Some-clause-read : goal.returns-in-Some-clause-read
returns-in-Some-clause-read c ts = closes _ c.args.top.now _ _ _ _ ts _ _ c.in-EndTag.is c.in-Some.ensures.0 c.in-Some.ensures.1

pub returns-in-None-clause-refused : goal.returns-in-None-clause-refused
returns-in-None-clause-refused c ts nodes all = no_closes _ _ _ _ ts _ nodes _ all c.in-EndTag.is c.in-None.ensures

pub returns-clause-read : goal.returns-clause-read
returns-clause-read c ts = places _ _ _ _ ts _ _ _ _ _ c.in_ok-opened.ensures.placed c.in_ok-open.ensures

pub returns-clause-open : goal.returns-clause-open
returns-clause-open c = stays_open _ _ _ _ _ c.in_ok-open.ensures c.in_ok-opened.ensures.kept c.requires c.in_ok-opened.ensures.open

pub returns-in_err-opened-clause-refused : goal.returns-in_err-opened-clause-refused
returns-in_err-opened-clause-refused c =
    handed c.place.result _ _ c.place.ensures.refused c.in_err-opened.was c.from_residual.ensures (λ _ misplaced ts nodes all. no_place _ _ _ _ _ nodes _ all misplaced c.in_default.not-EndTag)
