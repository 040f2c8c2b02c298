-- Meaning: how an error is thrown, as a new object (section 15.11).
use Rattle.std.specs.Prelude.{refl, ℕ, pos, [], ◌∷◌, Option, Some, None, Result, Ok, Err, codes}
use Rattle.js_values.specs.declared.throw.Throw.{Throw}
use Rattle.js_values.specs.declared.value.Value.{Value}
use Rattle.js_values.specs.declared.value.Value.TheVariants as value
use Rattle.js_values.specs.Throw.{message_of, kind_of, code_of}
use Rattle.object_heap.specs.declared.object.Class.TheVariants.{Fault}
use Rattle.object_heap.specs.Heap.{IsFit}
use Rattle.object_heap.specs.Object.{Object, whole_object}
use Rattle.object_heap.specs.Property.{Props, hidden}
use Rattle.page_meaning.specs.declared.signal.Signal.TheVariants.{Thrown}
use Rattle.page_meaning.specs.Act.{Act, ActOf, ret, bind, give}
use Rattle.object_heap.proofs.Callers.{ordinary_fit, one_name, two_names}
use Rattle.page_meaning.specs.Places.{error_prototype}
use Rattle.page_meaning.specs.Primitives.{make}

abbrev pub code_props : Option ℕ → Props
code_props None = []
code_props (Some n) = (codes "code", hidden (value.Num (Some (pos n)))) ∷ []

-- an error with its own message and, where the host throws it, its code
abbrev pub error_object : Throw → Object
error_object t =
    whole_object Fault (Some (error_prototype (kind_of t))) ((codes "message", hidden (value.Text (message_of t))) ∷ code_props (code_of t))

abbrev code_fit : (t : Throw) (c : Option ℕ) → IsFit (whole_object Fault (Some (error_prototype (kind_of t))) ((codes "message", hidden (value.Text (message_of t))) ∷ code_props c))
code_fit t None =
    ordinary_fit Fault (Some (error_prototype (kind_of t))) ((codes "message", hidden (value.Text (message_of t))) ∷ []) refl
    (one_name (codes "message") (hidden (value.Text (message_of t))))
code_fit t (Some n) =
    ordinary_fit Fault (Some (error_prototype (kind_of t))) ((codes "message", hidden (value.Text (message_of t))) ∷ code_props (Some n)) refl
    (two_names (codes "message") (hidden (value.Text (message_of t))) (codes "code") (hidden (value.Num (Some (pos n)))) refl)

pub error_fit : (t : Throw) → IsFit (error_object t)
error_fit t = code_fit t (code_of t)

abbrev pub raise : Throw → Act
raise t = bind (make (error_object t) (error_fit t) refl) (λ k. ret (Thrown (value.Object k)))

-- the value, or the error
abbrev pub settle : Result Value Throw → Act
settle (Ok v) = give v
settle (Err t) = raise t

-- throws what was refused, and else goes on
abbrev pub on_refusal : Act → Option Throw → Act
on_refusal next None = next
on_refusal next (Some t) = raise t

abbrev pub unless : ActOf (Option Throw) → Act → Act
unless m next = bind m (on_refusal next)
