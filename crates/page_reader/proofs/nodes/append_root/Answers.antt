use Rattle.std.proofs.Common.{◌∙◌, ap, length, refl}
use Rattle.dom_tree.specs.Node.{with_new}
use Rattle.page_reader.specs.Forest.{element_content}
use Rattle.page_reader.proofs.Inserting.{free_under_document, is_element_content, new_element}
use Rattle.page_reader.proofs.nodes.append_root.Goals as goal

pub append-requires-clause-free : goal.append-requires-clause-free
append-requires-clause-free c =
    free_under_document _ (element_content c.args.tag.now) _ _ c.count-count.ensures.sound (c.in_ok-node.ensures.ok ∙ ap (λ x. with_new x (element_content c.args.tag.now)) c.requires.alone) (c.in_ok-node.ensures.id ∙ ap length c.requires.alone) refl (is_element_content c.args.tag.now)

pub returns-clause-element : goal.returns-clause-element
returns-clause-element c =
    c.append.ensures.kept _ (new_element _ _ _ _ c.in_ok-node.ensures.ok c.in_ok-node.ensures.id (is_element_content c.args.tag.now))
