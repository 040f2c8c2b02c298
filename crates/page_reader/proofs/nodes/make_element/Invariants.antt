use Rattle.std.proofs.Common.{◌≡◌, length, take}
use Rattle.dom_tree.specs.declared.content.Kind.TheVariants.{Element}
use Rattle.dom_tree.specs.Content.{new_content}
use Rattle.dom_tree.specs.Name.{folded}
use Rattle.dom_tree.specs.Node.{with_new}
use Rattle.page_reader.specs.Forest.{with_all}
use Rattle.page_reader.proofs.nodes.make_element.Given as goal

abbrev pub invariant-loop-name : goal.invariant-loop-name
invariant-loop-name l =
    (l.dom ≡ with_new l.fn.dom (with_all (new_content (Element (folded l.tag.name))) (take l.name-index l.name-items)))
    × (l.node.0 ≡ length l.fn.dom)
