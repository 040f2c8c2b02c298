use Rattle.std.proofs.Common.{rules}
use Rattle.page_check.proofs.script.strict_script.Goals as goal

pub returns-clause-syntax : goal.returns-clause-syntax
returns-clause-syntax c =
    let written = c.law_tokens_can_be_written.ensures c.args.text _ (search rules) c.in-Ok.ensures.read in
    c.law_derived_trees_are_syntax.ensures _ _ written c.in-Ok-script.ensures.sound.0
