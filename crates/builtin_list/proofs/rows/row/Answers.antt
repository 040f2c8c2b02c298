use Rattle.std.proofs.Common.{sym, ◌∙◌}
use Rattle.page_meaning.specs.Act.{asking}
use Rattle.page_meaning.specs.Elements.{length_of}
use Rattle.page_meaning.specs.Rows.{list_row_on}
use Rattle.builtin_list.proofs.Refused.{no_list}
use Rattle.builtin_list.proofs.rows.row.Goals as goal

pub returns-in-None : goal.returns-in-None
returns-in-None c =
    no_list c.args.this.now (λ calls at. asking (length_of at) (list_row_on calls c.args.which c.args.args.now at)) c.args.state.now c.raise.new.self c.args.steps.now c.raise.result
    (sym c.as_list.ensures ∙ c.in-None.is) c.raise.ensures
