-- The parts of an update, from its end.
use Rattle.std.specs.Prelude.{Bool}
use Rattle.js_values.specs.declared.value.Value.{Value}
use Rattle.page_meaning.specs.Act.{Act, also, give}
use Rattle.page_meaning.specs.Operators.{one_more, updated_value}

-- the new value is written, and one of the two given
abbrev pub put_back : Bool → (Value → Act) → Value → Value → Act
put_back prefix write old new = also (write new) (λ _. give (updated_value prefix old new))

-- the value is changed before
abbrev pub changed : Bool → Bool → (Value → Act) → Value → Act
changed up prefix write old = also (one_more up old) (put_back prefix write old)
