use Rattle.std.proofs.Common.{◌∙◌, ◌∷◌, [], ◌++◌, ap, slice_set}
use Rattle.heap_walker.specs.Heard.{group_at}
use Rattle.heap_walker.proofs.Groups.{group_heard}
use Rattle.heap_walker.proofs.Places.{same_place}
use Rattle.heap_walker.proofs.heard.Heard.push.Goals as goal

pub returns : goal.returns
returns c k =
    let gs = c.reach.new.groups.items in
    let l = c.args.listener.now in
    let p = l.node.0 in
    let there = c.in_ok-reach.ensures.there in
    ap (λ g. group_at (slice_set gs p g) k)
    (c.in_ok-push.ensures ∙ ap (λ x. c.index_mut.result.now ++ x ∷ []) c.in_ok-clone.ensures
    ∙ ap (λ g. g ++ l ∷ []) (c.index_mut.ensures.value ∙ same_place gs p _ [] there))
    ∙ group_heard c.args.self.now gs l k (λ j. c.in_ok-reach.ensures.same j ∙ ap (λ g. group_at g j) c.self.view_is) there
