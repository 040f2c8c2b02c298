use Rattle.std.proofs.Common.{false, [], ◌∷◌, ◌∙◌, ap}
use Rattle.scope_analysis.specs.Names.{is_among}
use Rattle.scope_analysis.specs.UseTables.{Noted, joined, left_by}
use Rattle.scope_analysis.proofs.UseTables.{left_by_clause}
use Rattle.scope_analysis.proofs.use_table.note_leaving_clause.Goals as goal

pub returns : goal.returns
returns c us e =
    let x = c.args.parameter.now in
    c.in_ok-note_left.ensures (λ y. is_among y (x ∷ [])) c.in_ok-bound.ensures
    ∙ ap (λ (t : Noted). joined c.args.out.now (left_by false (λ y. is_among y (x ∷ [])) t)) e ∙ left_by_clause x c.args.out.now us
