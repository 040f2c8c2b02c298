-- What `typeof` gives, whose texts are a few words.
use Rattle.std.proofs.Common.{Bool, true, false}
use Rattle.std.specs.Prelude.{codes, refl}
use Rattle.js_values.specs.declared.value.Value.{Value}
use Rattle.js_values.specs.declared.value.Value.TheVariants.{Undefined, Null, Bool as Truth, Num, Text, Object}
use Rattle.page_meaning.specs.Classes.{class_of, is_function}
use Rattle.page_meaning.specs.Operators.{give_type, type_of, type_of_object}
use Rattle.page_meaning.specs.Store.{Store}
use Rattle.literal_values.proofs.Callers.{text_seen}
use Rattle.literal_values.specs.Values.{IsText}
use Rattle.written_pages.proofs.Acts.{asking_is, give_is}
use Rattle.written_pages.specs.Acts.{Writes}

object_type : (b : Bool) → IsText (type_of_object b)
object_type true = text_seen (codes "function") refl
object_type false = text_seen (codes "object") refl

type_units : (s : Store) (v : Value) → IsText (type_of s v)
type_units s Undefined = text_seen (codes "undefined") refl
type_units s Null = text_seen (codes "object") refl
type_units s (Truth b) = text_seen (codes "boolean") refl
type_units s (Num n) = text_seen (codes "number") refl
type_units s (Text t) = text_seen (codes "string") refl
type_units s (Object at) = object_type (is_function (class_of s (Object at)))

pub give_type_is : (v : Value) → Writes (give_type v)
give_type_is v = asking_is IsText (λ s l. type_units s v) (λ t h. give_is (Text t) h)
