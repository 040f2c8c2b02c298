use Rattle.dom_host.proofs.Asked.{texts_same}
use Rattle.dom_host.proofs.judged.text_argument.Goals as goal

pub returns-clause-text : goal.returns-clause-text
returns-clause-text c = rw (c.in_ok-value.ensures) at c.to_text.ensures

pub returns-clause-same : goal.returns-clause-same
returns-clause-same c = texts_same c.in_ok-value.value c.args.state.now c.to_text.new.self c.to_text.result c.to_text.ensures
