-- How a function expression is closed over, by its name, and what a construction begins with.
use Rattle.std.specs.Prelude.{ℕ, List, [], ◌∷◌, Option, Some, None, codes, refl}
use Rattle.js_core.specs.Tree as tree
use Rattle.js_values.specs.declared.ids.EnvId.{EnvId}
use Rattle.js_values.specs.declared.ids.ObjId.{ObjId}
use Rattle.js_values.specs.declared.value.Value.TheVariants.{Undefined, Object}
use Rattle.object_heap.specs.declared.object.Class.TheVariants.{Plain}
use Rattle.object_heap.specs.Heap.{new_object}
use Rattle.page_meaning.specs.Act.{Act, ActOf, asking, bind, give}
use Rattle.page_meaning.specs.Calls.{object_or}
use Rattle.page_meaning.specs.Functions.{make_function, object_of}
use Rattle.page_meaning.specs.Places.{object_prototype}
use Rattle.page_meaning.specs.Primitives.{bind_name, make, make_environment}
use Rattle.page_meaning.specs.Reading.{get_at}
use Rattle.object_heap.proofs.Callers.{new_fit}

-- the code's own name, if it has one, is bound in an environment round the function
abbrev pub closed_over : Option (List ℕ) → tree.Code → Option EnvId → Act
closed_over None c env = bind (make_function c env) object_of
closed_over (Some x) c env =
    bind (make_environment env ((x, Undefined) ∷ []))
    (λ e. bind (make_function c (Some e)) (λ k. bind (bind_name e x (Object k)) (λ _. give (Object k))))

-- a fresh object of a function's `prototype`, which is no host name, or of that of objects (13.2.2)
abbrev pub fresh_for : ObjId → ActOf ObjId
fresh_for f =
    asking (λ s. object_or object_prototype (get_at s f (codes "prototype"))) (λ p. make (new_object Plain (Some p)) (new_fit Plain (Some p)) refl)
