use Rattle.std.proofs.Common.{◌∙◌, sym}
use Rattle.js_core.proofs.Callers.{handed}
use Rattle.page_reader.proofs.Whole.{Begun, page_read, page_refused, page_unfinished}
use Rattle.page_reader.proofs.tree.page_of_tokens.Goals as goal

pub returns-then-are_outside-clause-read : goal.returns-then-are_outside-clause-read
returns-then-are_outside-clause-read c =
    let b : Begun c.args.tokens.now c.in-Some.rest.now c.in-Some.token.now c.in-Some-html_tag.tag.now (record { name = c.in_ok-name.name; node = c.in_ok-node.node }) c.append_root.new.dom = record {
      begins = sym c.behind_prolog.ensures ∙ c.in-Some.ensures.cases.0;
      is_tag = c.in-Some-html_tag.ensures;
      named = c.in_ok-name.ensures;
      placed = c.in_ok-node.ensures.id;
      nodes = c.in_ok-node.ensures.ok;
    } in
    page_read _ _ _ _ _ _ _ _ _ _ b c.new-scripts.ensures.items c.in_ok-behind.ensures.read (sym c.if-are_outside.ensures)

pub returns-in_err-behind-clause-refused : goal.returns-in_err-behind-clause-refused
returns-in_err-behind-clause-refused c =
    let b : Begun c.args.tokens.now c.in-Some.rest.now c.in-Some.token.now c.in-Some-html_tag.tag.now (record { name = c.in_ok-name.name; node = c.in_ok-node.node }) c.append_root.new.dom = record {
      begins = sym c.behind_prolog.ensures ∙ c.in-Some.ensures.cases.0;
      is_tag = c.in-Some-html_tag.ensures;
      named = c.in_ok-name.ensures;
      placed = c.in_ok-node.ensures.id;
      nodes = c.in_ok-node.ensures.ok;
    } in
    handed c.content.result _ _ c.content.ensures.refused c.in_err-behind.was c.from_residual-in_err-behind.ensures (λ _ refused. page_refused _ _ _ _ _ _ _ b c.new-scripts.ensures.items refused)

pub returns-else-are_outside-clause-refused : goal.returns-else-are_outside-clause-refused
returns-else-are_outside-clause-refused c =
    let b : Begun c.args.tokens.now c.in-Some.rest.now c.in-Some.token.now c.in-Some-html_tag.tag.now (record { name = c.in_ok-name.name; node = c.in_ok-node.node }) c.append_root.new.dom = record {
      begins = sym c.behind_prolog.ensures ∙ c.in-Some.ensures.cases.0;
      is_tag = c.in-Some-html_tag.ensures;
      named = c.in_ok-name.ensures;
      placed = c.in_ok-node.ensures.id;
      nodes = c.in_ok-node.ensures.ok;
    } in
    page_unfinished _ _ _ _ _ _ _ _ _ _ b c.new-scripts.ensures.items c.in_ok-behind.ensures.read (sym c.if-are_outside.ensures)
