use Rattle.std.proofs.Common.{◌≡◌, ◌∙◌, ◌<◌, ap, sym, true, length, slice_index_or, bytes_eq, arith}
use Rattle.std.proofs.lemmas.List.{get_or_default}
use Rattle.dom_tree.specs.Name.{folded}
use Rattle.dom_tree.proofs.Named.{set_here}
use Rattle.dom_tree.proofs.attributes.Attributes.set.Goals as goal

pub returns-then-is_folded_to-clause-ok : goal.returns-then-is_folded_to-clause-ok
returns-then-is_folded_to-clause-ok c =
    let items = c.loop-place.self-inside.items.items in
    let place = c.loop-place.place in
    let same = c.loop-place.invariant.same in
    let x = c.index_mut.result.now in
    let there : place < length c.args.self.now = omega (arith, ap length same, ap length c.self.view_is) in
    let is : x ≡ slice_index_or c.args.self.now place x = c.index_mut.ensures.value ∙ ap (λ xs. slice_index_or xs place x) same in
    let read : c.index.result.now ≡ x =
    c.index.ensures ∙ ap (λ xs. slice_index_or xs place c.index.result.now) same ∙ get_or_default c.args.self.now place c.index.result.now x there ∙ sym is
    in
    let equal : bytes_eq x.0 (folded c.args.name.now) ≡ true = ap (λ y. bytes_eq y.0 (folded c.args.name.now)) (sym read) ∙ sym c.is_folded_to.ensures ∙ c.if-is_folded_to.true in
    rw same (set_here c.args.self.now place x (folded c.args.name.now) c.args.value there is equal c.loop-place.invariant.past)
