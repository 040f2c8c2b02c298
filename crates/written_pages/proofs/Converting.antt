-- Conversions of values.
use Rattle.js_values.specs.declared.throw.Throw.TheVariants.{NoPrimitive}
use Rattle.js_values.specs.declared.value.Value.{Value}
use Rattle.js_values.specs.declared.value.Value.TheVariants.{Undefined, Null, Bool as Truth, Num, Text, Object}
use Rattle.page_meaning.specs.Act.{Calls}
use Rattle.page_meaning.specs.Convert.{Need, a_number, a_text, number_of, operand_number, operand_primitive, operand_text, text_of, to_number, to_primitive, to_text}
use Rattle.literal_values.proofs.Callers.{number_of_literal, text_of_units}
use Rattle.literal_values.specs.Values.{IsBounded}
use Rattle.written_pages.proofs.Acts.{also_is, give_is}
use Rattle.written_pages.proofs.Primitives.{raise_is, settle_is}
use Rattle.written_pages.specs.Acts.{CallsAre, Writes}

pub to_primitive_is : {calls : Calls} → CallsAre calls → (need : Need) (v : Value) → IsBounded v → Writes (to_primitive calls need v)
to_primitive_is c need Undefined h = give_is Undefined h
to_primitive_is c need Null h = give_is Null h
to_primitive_is c need (Truth b) h = give_is (Truth b) h
to_primitive_is c need (Num n) h = give_is (Num n) h
to_primitive_is c need (Text t) h = give_is (Text t) h
to_primitive_is c need (Object at) h = raise_is NoPrimitive tt

pub to_number_is : {calls : Calls} → CallsAre calls → (v : Value) → IsBounded v → Writes (to_number calls v)
to_number_is c v h = also_is (to_primitive_is c a_number v h) (λ p k. settle_is (number_of p) (number_of_literal p k))

pub to_text_is : {calls : Calls} → CallsAre calls → (v : Value) → IsBounded v → Writes (to_text calls v)
to_text_is c v h = also_is (to_primitive_is c a_text v h) (λ p k. give_is (Text (text_of p)) (text_of_units p k))

pub operand_primitive_is : {calls : Calls} → CallsAre calls → (need : Need) (v : Value) → IsBounded v → Writes (operand_primitive calls need v)
operand_primitive_is c need v h = to_primitive_is c need v h

pub operand_number_is : {calls : Calls} → CallsAre calls → (v : Value) → IsBounded v → Writes (operand_number calls v)
operand_number_is c v h = to_number_is c v h

pub operand_text_is : {calls : Calls} → CallsAre calls → (v : Value) → IsBounded v → Writes (operand_text calls v)
operand_text_is c v h = to_text_is c v h
