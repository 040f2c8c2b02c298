use Rattle.std.proofs.Common.{◌∙◌, List, subst, sym}
use Rattle.dom_tree.specs.Node.{Nodes}
use Rattle.page_tokens.specs.declared.token.RawText.{RawText}
use Rattle.page_reader.specs.Bytes.{IsTextPage}
use Rattle.page_reader.specs.Pages.{PageOf}
use Rattle.js_core.proofs.Callers.{shown}
use Rattle.page_reader.proofs.reader.page_of_text.Goals as goal

pub returns-in-Ok-clause-refused : goal.returns-in-Ok-clause-refused
returns-in-Ok-clause-refused c =
    shown {Q = λ _. (nodes : Nodes) (raws : List RawText) → IsTextPage c.args.text.now nodes raws → ⊥} _ c.page_of_tokens.ensures.refused (λ _ refused nodes raws p.
    let same = c.law_one_reading.ensures _ _ _ p.reads c.in-Ok.ensures.read in
    refused nodes raws (subst (λ x. PageOf x nodes raws) (same ∙ sym c.as_slice.ensures.value) p.is_page))
