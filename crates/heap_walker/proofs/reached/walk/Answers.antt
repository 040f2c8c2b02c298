use Rattle.std.proofs.Common.{◌∙◌, sym, ap, subst}
use Rattle.heap_walker.specs.Things.{roots}
use Rattle.heap_walker.specs.Walking.{IsPart, joined}
use Rattle.heap_walker.proofs.Walks.{part_begins, walk_of}
use Rattle.heap_walker.proofs.reached.walk.Goals as goal

pub see_rest-requires-clause-part : goal.see_rest-requires-clause-part
see_rest-requires-clause-part c =
    let s = c.args.state.now in
    subst (IsPart s 0) (sym (c.in_ok-see_roots.ensures ∙ ap (λ ks. joined s ks (roots s)) c.new-seen.ensures.empty)) (part_begins s)

pub returns : goal.returns
returns c =
    walk_of c.args.state.now c.see_rest.new.seen.keys c.sort_unstable.new.self.keys c.in_ok-see_rest.ensures c.in_ok-sort_unstable.ensures.sorted c.sort_unstable.ensures.unique c.sort_unstable.ensures.reordered.2
