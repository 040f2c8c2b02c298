use Rattle.builtin_text.specs.Methods.{method_of}
use Rattle.builtin_text.proofs.ThisKinds.{no_text}
use Rattle.builtin_text.proofs.methods.on_text.Goals as goal

pub returns-in-Text : goal.returns-in-Text
returns-in-Text c = rw c.in-Text.is c.with_text.ensures

pub returns-in_default : goal.returns-in_default
returns-in_default c = no_text c.args.this.now (λ calls. method_of calls c.args.method c.args.args.now) c.args.state.now c.raise.new.self c.raise.result c.in_default.not-Text c.raise.ensures
