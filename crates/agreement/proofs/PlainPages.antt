-- Pages of plain scripts put out the same lines with their scopes opened.
use Rattle.std.proofs.Common.{◌≡◌, refl, sym, ℕ, ◌+◌, ◌<◌, ◌^◌, true, List, [], ◌∷◌, arith}
use Rattle.std.specs.List.{All}
use Rattle.std.proofs.lemmas.Bool.{and_from}
use Rattle.std.proofs.lemmas.List.Elements.{All-head, All-tail}
use Rattle.js_core.specs.Tree as tree
use Rattle.instrumenter.specs.Counting.{scripts_scopes, stmts_scopes}
use Rattle.instrumenter.specs.Opened.{IsPlainScript}
use Rattle.page_meaning.specs.Laws.{LoadsSound}
use Rattle.agreement.specs.Laws.{PlainPagesAgree}
use Rattle.agreement.specs.Opened.{opening, Demand, scripts_stand, stmts_stand}
use Rattle.agreement.proofs.OpenedStands.{plain_scripts_stand}
use Rattle.agreement.proofs.Pages.{opened_pages_agree}

abbrev demand : Demand
demand = opening

plain_scripts_all_stand : (n : ℕ) (scripts : List tree.Stmts) → All IsPlainScript scripts → n + scripts_scopes scripts < 2 ^ 64
    → scripts_stand demand n scripts ≡ true
plain_scripts_all_stand n [] all few = refl
plain_scripts_all_stand n (body ∷ bodies) all few =
    let one : n + stmts_scopes body < 2 ^ 64 = omega (arith, few) in
    let more : n + stmts_scopes body + scripts_scopes bodies < 2 ^ 64 = omega (arith, few) in
    and_from (stmts_stand demand n [] body) (scripts_stand demand (n + stmts_scopes body) bodies)
    (plain_scripts_stand n body (All-head IsPlainScript body bodies all) one)
    (plain_scripts_all_stand (n + stmts_scopes body) bodies (All-tail IsPlainScript body bodies all) more)

pub plain_pages_agree : LoadsSound → PlainPagesAgree
plain_pages_agree sound page es good all few =
    sym (opened_pages_agree sound page es good (plain_scripts_all_stand 1 page.scripts all few))
