-- Meaning: texts of values in lines, where nothing is converted.
use Rattle.std.specs.Prelude.{ℕ, List, [], ◌∷◌, ◌++◌, codes}
use Rattle.js_values.specs.declared.value.Value.{Value}
use Rattle.js_values.specs.declared.value.Value.TheVariants.{Object}
use Rattle.object_heap.specs.declared.object.Class.{Class}
use Rattle.object_heap.specs.declared.object.Class.TheVariants.{Plain, List as Array, Page, Native, Bound, Fault, Math, Window, Node, Event}
use Rattle.page_meaning.specs.Convert.{text_of}
use Rattle.js_values.specs.declared.line.LineKind.TheVariants.{Uncaught}
use Rattle.page_meaning.specs.declared.signal.Signal.{Signal}
use Rattle.page_meaning.specs.declared.signal.Signal.TheVariants.{Thrown}
use Rattle.page_meaning.specs.Act.{ActOf, ret}
use Rattle.page_meaning.specs.Primitives.{put_line}
use Rattle.page_meaning.specs.Properties.{class_at, get_at}
use Rattle.page_meaning.specs.Store.{Store}

abbrev pub class_name : Class → List ℕ
class_name Plain = codes "Object"
class_name Array = codes "Array"
class_name (Page c env) = codes "Function"
class_name (Native which) = codes "Function"
class_name (Bound target this args) = codes "Function"
class_name Fault = codes "Error"
class_name Math = codes "Math"
class_name Window = codes "Window"
class_name (Node n) = codes "Node"
class_name (Event parts) = codes "Event"

-- the text of a value in a line: an object tells its class, and nothing is converted
abbrev pub log_text : Store → Value → List ℕ
log_text s (Object at) = codes "[object " ++ class_name (class_at s at) ++ codes "]"
log_text s v = text_of v

-- joined by spaces
abbrev pub log_texts : List Value → Store → List ℕ
log_texts [] s = []
log_texts (v ∷ []) s = log_text s v
log_texts (v ∷ w ∷ vs) s = log_text s v ++ codes " " ++ log_texts (w ∷ vs) s

-- the text of an uncaught value: of an error its name and message, which are read and not converted
abbrev pub error_text : Store → Value → List ℕ
error_text s (Object at) = log_text s (get_at s at (codes "name")) ++ codes ": " ++ log_text s (get_at s at (codes "message"))
error_text s v = log_text s v

abbrev pub text_by_class : Class → Store → Value → List ℕ
text_by_class Fault s v = error_text s v
text_by_class c s v = log_text s v

abbrev pub uncaught_text : Store → Value → List ℕ
uncaught_text s (Object at) = text_by_class (class_at s at) s (Object at)
uncaught_text s v = log_text s v

-- what a listener or a timer's function threw is put out
abbrev pub put_uncaught : Signal → ActOf (Unit {0})
put_uncaught (Thrown v) = put_line Uncaught (λ s. uncaught_text s v)
put_uncaught given = ret tt
