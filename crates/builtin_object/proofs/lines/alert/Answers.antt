use Rattle.js_values.specs.declared.line.LineKind.TheVariants.{Alert}
use Rattle.page_meaning.specs.Lines.{log_text}
use Rattle.builtin_object.proofs.Told.{line_put}
use Rattle.builtin_object.proofs.lines.alert.Goals as goal

pub returns : goal.returns
returns c = line_put Alert (λ s. log_text s c.args.value.now) c.in_ok-text.text c.args.state.now c.put_line.new.self c.in_ok-text.ensures c.in_ok-put_line.ensures
