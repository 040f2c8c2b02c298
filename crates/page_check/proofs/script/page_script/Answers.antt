use Rattle.std.proofs.Common.{rules}
use Rattle.page_check.proofs.script.page_script.Goals as goal

pub returns-in_err-script-clause-refused : goal.returns-in_err-script-clause-refused
returns-in_err-script-clause-refused c = search (rules, c.in_err-script.ensures.refused c.args.kind)
