use Rattle.js_values.specs.declared.line.LineKind.TheVariants.{Dom}
use Rattle.dom_tree.specs.DomText.{dom_text}
use Rattle.page_meaning.specs.Pages.{document_node}
use Rattle.session.proofs.Hosts.{line_told}
use Rattle.session.proofs.running.put_dom.Goals as goal

pub returns : goal.returns
returns c =
    line_told Dom c.in_ok-text.text (dom_text c.args.state.now.host.nodes document_node) c.args.state.now c.put_line.new.self c.put_line.result c.in_ok-text.ensures c.put_line.ensures
