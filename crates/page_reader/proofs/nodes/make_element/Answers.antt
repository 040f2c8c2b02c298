use Rattle.std.proofs.Common.{arith}
use Rattle.dom_tree.specs.Name.{folded}
use Rattle.page_reader.proofs.Inserting.{element_in, made_all, made_more, youngest_in}
use Rattle.std.proofs.Common.{take}
use Rattle.page_reader.proofs.nodes.make_element.Goals as goal

pub set_first-requires-clause-youngest : goal.set_first-requires-clause-youngest
set_first-requires-clause-youngest c = youngest_in _ _ _ _ c.loop-name.invariant.0 c.loop-name.invariant.1

pub set_first-requires-clause-element : goal.set_first-requires-clause-element
set_first-requires-clause-element c =
    element_in _ _ (folded c.args.tag.now.name) (take c.loop-name.name-index c.as_slice-name-items.result.now) _ c.loop-name.invariant.0 c.loop-name.invariant.1

pub loop-name-preserved : goal.loop-name-preserved
loop-name-preserved c = (
  made_more _ _ _ _ _ _ c.loop-name-test.true c.loop-name-item.is (c.in_ok-set_first.ensures.ok _ _ c.loop-name.invariant.0),
  c.loop-name.invariant.1,
)

pub returns-clause-ok : goal.returns-clause-ok
returns-clause-ok c = made_all _ _ _ c.as_slice-name-items.result.now c.args.tag.now.attributes c.loop-name.name-index c.loop-name.invariant.0 (omega (arith, c.loop-name.auto.name-index-end)) c.as_slice-name-items.ensures
