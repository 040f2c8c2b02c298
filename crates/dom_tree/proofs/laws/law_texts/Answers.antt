use Rattle.dom_tree.proofs.Upheld.{text_is_escaped, texts_of_children}
use Rattle.dom_tree.proofs.laws.law_texts.Goals as goal

pub returns : goal.returns
returns c = record { texts_of_children = texts_of_children; text_is_escaped = text_is_escaped }
