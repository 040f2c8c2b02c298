use Rattle.page_reader.proofs.Inserting.{free_under_element, is_element_content, new_element, no_document}
use Rattle.page_reader.proofs.nodes.append_element.Goals as goal

pub append-requires-clause-free : goal.append-requires-clause-free
append-requires-clause-free c =
    free_under_element _ _ _ _ _ c.count-count.ensures.sound c.in_ok-node.ensures.ok c.in_ok-node.ensures.id (no_document _ (is_element_content c.args.tag.now)) c.requires.parent

pub returns-clause-element : goal.returns-clause-element
returns-clause-element c =
    c.append.ensures.kept _ (new_element _ _ _ _ c.in_ok-node.ensures.ok c.in_ok-node.ensures.id (is_element_content c.args.tag.now))
