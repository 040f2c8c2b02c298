use Rattle.std.proofs.Common.{refl, map}
use Rattle.std.specs.Rc.{rc_value}
use Rattle.instrumenter.proofs.Rounds.{round_clause}
use Rattle.instrumenter.proofs.levels.in_clause.Goals as goal

pub returns : goal.returns
returns c =
    round_clause (λ inner. map rc_value inner.items) _ _ _ c.args.number c.args.fields.now c.args.parameter.now refl refl
    c.in_ok-name_table.ensures c.in_ok-parameter_table.ensures c.inside.ensures
