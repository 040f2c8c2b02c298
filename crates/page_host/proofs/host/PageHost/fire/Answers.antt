use Rattle.std.proofs.Common.{ℕ, ◌<◌, ◌^◌, sym, subst}
use Rattle.page_host.proofs.Times.{early_after}
use Rattle.page_host.proofs.host.PageHost.fire.Goals as goal

pub invariant_of-self : goal.invariant_of-self
invariant_of-self c =
    let P : ℕ → Type 0 = λ n. n < 2 ^ 60 in
    record {
      objects = c.self.invariant.objects;
      early = subst P (sym c.fire.ensures.clock) (early_after c.self.inside.queue c.args.moment c.self.inside.clock c.requires c.self.invariant.early);
    }
