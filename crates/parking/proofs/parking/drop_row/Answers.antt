use Rattle.std.proofs.Common.{◌≡◌, Bool, IfSome, subst}
use Rattle.std.specs.FinMap.{contains_key}
use Rattle.parking.proofs.Drops.{drop_refuses}
use Rattle.parking.proofs.parking.drop_row.Goals as goal

pub returns-in-Ok-false-clause-gives : goal.returns-in-Ok-false-clause-gives
returns-in-Ok-false-clause-gives g c =
    drop_refuses c.args.name.now c.args.version (g.K.Keeper.seen c.args.keeper.now) (g.K.Keeper.seen c.remove.new.self) c.in-Ok-false.ensures.removed
    (subst (λ (b : Bool). IfSome (g.K.Keeper.seen c.args.keeper.now).table (λ t. b ≡ contains_key t (c.args.name.now, c.args.version)))
    c.in-Ok-false.field-0-test c.in-Ok-false.ensures.ok)
