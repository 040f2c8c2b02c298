use Rattle.std.proofs.Common.{◌≡◌, ◌++◌, [], ◌∷◌, refl, arith}
use Rattle.std.proofs.lemmas.Grind.{common_steps}
use Rattle.scope_analysis.proofs.Repeats.{is_free, stays_apart}
use Rattle.scope_analysis.proofs.names.has_repeat.Goals as goal

pub loop-rest-preserved : goal.loop-rest-preserved
loop-rest-preserved c =
    let free = is_free c.loop-rest.seen.keys c.in_ok-clone.field-0 c.in_ok-insert.field-0 c.in_ok-insert.ensures.added c.if-not-branch.false in
    let keys : c.insert.new.self.keys ≡ c.loop-rest.seen.keys ++ c.in_ok-clone.field-0 ∷ [] = rw (c.in_ok-insert.ensures.keys, free) refl in
    record {
      whole = grind (arith, common_steps, keys);
      apart = rw (keys) (stays_apart c.loop-rest.seen.keys c.in_ok-clone.field-0 c.loop-rest.invariant.apart free);
    }
