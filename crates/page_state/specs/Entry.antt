-- How a function is entered, up to its body.
use Rattle.std.specs.Prelude.{◌≡◌, ℕ, List, [], ◌∷◌, Option, Some, None, bytes_eq, is_some}
use Rattle.std.specs.List.{list_any}
use Rattle.code_table.specs.Declarations.{formals_of, functions_of}
use Rattle.code_table.specs.Node.{body_of}
use Rattle.js_core.specs.Tree as tree
use Rattle.js_values.specs.declared.ids.EnvId.{EnvId}
use Rattle.js_values.specs.declared.value.Value.{Value}
use Rattle.js_values.specs.declared.value.Value.TheVariants.{Undefined, Object}
use Rattle.object_heap.specs.Environment.{Bound, value_of}
use Rattle.page_meaning.specs.Act.{Act, ActOf, bind, ret}
use Rattle.page_meaning.specs.Functions.{declare_functions, entry_names, make_function}
use Rattle.page_meaning.specs.Primitives.{bind_name, make_environment}

-- the environment of a call is made, and the declared functions in it
abbrev pub entered : tree.Code → Option EnvId → List Value → ActOf EnvId
entered c env vs =
    bind (make_environment env (entry_names (formals_of c) (body_of c) vs)) (λ e. bind (declare_functions e (functions_of (body_of c))) (λ _. ret e))

-- a declared function is made and bound to its name, before the next act
abbrev pub declared_in : EnvId → Option (List ℕ) × tree.Code → Act → Act
declared_in e (None, c) next = next
declared_in e (Some x, c) next = bind (make_function c (Some e)) (λ k. bind (bind_name e x (Object k)) (λ _. next))

abbrev pub first_or_undefined : List Value → Value
first_or_undefined [] = Undefined
first_or_undefined (v ∷ vs) = v

abbrev pub but_first : List Value → List Value
but_first [] = []
but_first (v ∷ vs) = vs

-- these are exactly the names that are bound
pub record AreSeen (seen : List (List ℕ)) (names : Bound) : Type 0 where
  pub is : (x : List ℕ) → list_any (bytes_eq x) seen ≡ is_some (value_of names x)
