use Rattle.std.proofs.Common.{Result}
use Rattle.js_values.specs.declared.value.Value.{Value}
use Rattle.js_values.specs.declared.value.Value.TheVariants.{Text}
use Rattle.page_meaning.specs.Operators.{as_numbers, less_of}
use Rattle.page_meaning.specs.Store.{Store}
use Rattle.js_core.specs.declared.memory.Failure.{Failure}
use Rattle.page_state.specs.declared.numbers.NumberOp.TheVariants.{Less}
use Rattle.page_state.specs.declared.numbers.Sense.{Sense}
use Rattle.page_state.specs.Does.{Gives, itself}
use Rattle.page_state.specs.Operating.{numeric, sense_of}
use Rattle.page_state.proofs.OtherKinds.{no_text}
use Rattle.page_state.proofs.state.State.less.Goals as goal

-- two values that are compared as numbers
abbrev AsNumbers : Sense → Store → Store → Result Value (Failure Value) → Value → Value → Type 0
AsNumbers sense s t r p q = Gives itself (λ _. as_numbers (numeric (Less sense)) p q) s t r → Gives itself (λ _. less_of (sense_of sense) p q) s t r

pub returns-in-Undefined-q : goal.returns-in-Undefined-q
returns-in-Undefined-q c =
    rw c.in-Text.is
    (no_text (λ q. AsNumbers c.args.sense c.args.self.now c.as_numbers.new.self c.as_numbers.result (Text c.in-Text.first) q) c.args.q.now c.in-Undefined-q.is
    (λ h. h) (λ h. h) (λ _ h. h) (λ _ h. h) (λ _ h. h) (rw c.in-Text.is at c.as_numbers.ensures))

pub returns-in-Undefined : goal.returns-in-Undefined
returns-in-Undefined c =
    no_text (λ p. AsNumbers c.args.sense c.args.self.now c.as_numbers-in-Undefined.new.self c.as_numbers-in-Undefined.result p c.args.q.now) c.args.p.now c.in-Undefined.is
    (λ h. h) (λ h. h) (λ _ h. h) (λ _ h. h) (λ _ h. h) c.as_numbers-in-Undefined.ensures
