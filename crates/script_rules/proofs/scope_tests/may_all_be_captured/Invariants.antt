use Rattle.std.proofs.Common.{◌≡◌, length}
use Rattle.std.specs.List.{list_all}
use Rattle.script_rules.specs.Form.{may_be_captured}
use Rattle.scope_analysis.specs.Names as names
use Rattle.scope_analysis.specs.Uses.{stmts_uses}
use Rattle.script_rules.proofs.scope_tests.may_all_be_captured.Given as goal

abbrev pub invariant-loop-rest : goal.invariant-loop-rest
invariant-loop-rest l =
    list_all (may_be_captured (names.code_formals l.code) l.declared (names.code_body l.code) (stmts_uses (names.code_body l.code))) l.rest
    ≡ list_all (may_be_captured (names.code_formals l.code) l.declared (names.code_body l.code) (stmts_uses (names.code_body l.code))) l.candidates

abbrev pub decreases-loop-rest : goal.decreases-loop-rest
decreases-loop-rest l = length l.rest
