use Rattle.std.proofs.Common.{true, ◌++◌, ◌∙◌, ap}
use Rattle.scope_analysis.specs.Names.{bound_names, is_among, maybe_name}
use Rattle.scope_analysis.specs.UseTables.{Noted, joined, left_by}
use Rattle.scope_analysis.proofs.UseTables.{left_by_function}
use Rattle.scope_analysis.proofs.use_table.note_leaving_function.Goals as goal

pub returns : goal.returns
returns c us e =
    let bound = maybe_name c.args.own.now ++ bound_names c.args.code.now in
    c.in_ok-note_left.ensures (λ x. is_among x bound) c.in_ok-bound.ensures
    ∙ ap (λ (t : Noted). joined c.args.out.now (left_by true (λ x. is_among x bound) t)) e ∙ left_by_function bound c.args.out.now us
