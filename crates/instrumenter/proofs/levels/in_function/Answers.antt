use Rattle.std.proofs.Common.{refl, map}
use Rattle.std.specs.Rc.{rc_value}
use Rattle.instrumenter.proofs.Rounds.{round_function}
use Rattle.instrumenter.proofs.levels.in_function.Goals as goal

pub returns : goal.returns
returns c =
    round_function (λ inner. map rc_value inner.items) _ _ _ c.args.number c.args.fields.now c.args.own.now c.args.code.now refl refl
    c.in_ok-name_table.ensures c.in_ok-bound_table.ensures c.inside.ensures
