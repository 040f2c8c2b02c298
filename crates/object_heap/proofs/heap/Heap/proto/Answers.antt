use Rattle.std.proofs.Common.{◌≡◌, ◌<◌, ◌∙◌, ap, subst, sym}
use Rattle.std.specs.Option.{ForSome}
use Rattle.object_heap.specs.Chain.{object_at}
use Rattle.object_heap.specs.Object.{Object}
use Rattle.object_heap.proofs.Sound.{if_some}
use Rattle.object_heap.proofs.heap.Heap.proto.Goals as goal

pub returns-in-Some-clause-older : goal.returns-in-Some-clause-older
returns-in-Some-clause-older c =
    let same : (object_at c.args.self.now.objects c.args.at.0).proto ≡ c.proto.result = sym (c.proto.ensures ∙ ap (λ (x : Object). x.proto) c.in-Some.ensures.there) in
    if_some (λ p. p.0 < c.args.at.0) c.proto.result (subst (λ x. ForSome x (λ p. p.0 < c.args.at.0)) same (c.sound.ensures.prototypes c.args.at.0))
