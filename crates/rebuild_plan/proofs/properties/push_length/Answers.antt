use Rattle.std.proofs.Common.{◌≡◌, ◌∙◌, ◌++◌, true, sym, ap}
use Rattle.std.specs.Option.{option_map}
use Rattle.object_heap.specs.Chain.{object_at}
use Rattle.object_heap.specs.Define.{length_name}
use Rattle.object_heap.specs.Object.{Object, is_list}
use Rattle.object_heap.specs.Property.{own_property}
use Rattle.rebuild_plan.specs.Compact.{moved_prop, moved_props}
use Rattle.rebuild_plan.specs.Plan.{define_length}
use Rattle.rebuild_plan.specs.declared.statement.Maker.TheVariants.{List as Array}
use Rattle.rebuild_plan.proofs.Moving.{list_length, own_moved}
use Rattle.rebuild_plan.proofs.properties.push_length.Goals as goal

pub returns : goal.returns
returns c =
    let s = c.args.state.now in
    let ks = c.args.walked.now.things.keys in
    let o : Object = object_at s.heap.objects c.args.at.0 in
    let before = c.args.plan.now.items in
    let list : is_list o.class ≡ true = ap is_list (sym c.class.ensures) ∙ sym c.is_list.ensures ∙ c.if-not-is_list.false in
    c.in_ok-push_own_length.ensures
    ∙ ap (λ p. before ++ define_length Array c.args.place (option_map (moved_prop ks) p)) (c.own.ensures ∙ ap (own_property o.props) c.in_ok-name.ensures)
    ∙ ap (λ p. before ++ define_length Array c.args.place p) (sym (own_moved ks o.props length_name))
    ∙ ap (λ l. before ++ l) (sym (list_length s ks o.proto o.class c.args.place (own_property (moved_props ks o.props) length_name) list))
