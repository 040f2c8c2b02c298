-- Meaning: references to names (sections 8.7 and 10.2.2.1). A reference stays what it was when the name was resolved.
use Rattle.std.specs.Prelude.{ℕ, Bool, true, false, List, Option, Some, None}
use Rattle.js_values.specs.declared.ids.EnvId.{EnvId}
use Rattle.js_values.specs.declared.throw.Throw.TheVariants.{NotDefined}
use Rattle.js_values.specs.declared.value.Value.{Value}
use Rattle.js_values.specs.declared.value.Value.TheVariants.{Undefined}
use Rattle.object_heap.specs.Chain.{get}
use Rattle.page_meaning.specs.declared.reference.Reference.{Reference}
use Rattle.page_meaning.specs.declared.reference.Reference.TheVariants.{Environment, Global, Nowhere}
use Rattle.page_meaning.specs.Act.{Act, ActOf, bind, ret, give, also, asking}
use Rattle.page_meaning.specs.Errors.{raise}
use Rattle.page_meaning.specs.Operators.{give_type}
use Rattle.page_meaning.specs.Places.{window}
use Rattle.page_meaning.specs.Primitives.{bind_name, find_name, tells}
use Rattle.page_meaning.specs.Properties.{has_property, put_in}

-- where a part of a script stands: the innermost environment, none at the top of a script, and `this`
pub record Here : Type 0 where
  pub env : Option EnvId
  pub this : Value

abbrev pub in_scope : Here → EnvId → Here
in_scope here e = record { env = Some e; this = here.this }

abbrev pub global_or_not : Bool → Reference
global_or_not true = Global
global_or_not false = Nowhere

abbrev pub resolved : List ℕ → Option (EnvId × Value) → ActOf Reference
resolved x (Some p) = ret (Environment p.0)
resolved x None = tells (λ s. global_or_not (has_property s window x))

abbrev pub resolve : Here → List ℕ → ActOf Reference
resolve here x = bind (find_name here.env x) (resolved x)

abbrev pub held : Option (EnvId × Value) → Value
held None = Undefined
held (Some p) = p.1

abbrev pub found_or_raise : List ℕ → Option Value → Act
found_or_raise x None = raise (NotDefined x)
found_or_raise x (Some v) = give v

-- the value (8.7.1, 10.2.1.1.4, 10.2.1.2.4)
abbrev pub read : List ℕ → Reference → Act
read x (Environment e) = bind (find_name (Some e) x) (λ o. give (held o))
read x Global = asking (λ s. get s.heap.objects window.0 x) (found_or_raise x)
read x Nowhere = raise (NotDefined x)

abbrev pub read_name : Here → List ℕ → Act
read_name here x = bind (resolve here x) (read x)

-- the name takes the value (8.7.2, 10.2.1.1.3, 10.2.1.2.3). A global is put, also where the property has gone meanwhile
abbrev pub write : List ℕ → Reference → Value → Act
write x (Environment e) v = bind (bind_name e x v) (λ _. give v)
write x Global v = put_in window x v
write x Nowhere v = raise (NotDefined x)

-- a name is resolved and takes the value at once
abbrev pub assign_name : Here → List ℕ → Value → Act
assign_name here x v = bind (resolve here x) (λ r. write x r v)

-- `typeof` of a name, which may not be resolved (11.4.3)
abbrev pub type_of_reference : List ℕ → Reference → Act
type_of_reference x Nowhere = give_type Undefined
type_of_reference x r = also (read x r) give_type

abbrev pub type_of_name : Here → List ℕ → Act
type_of_name here x = bind (resolve here x) (type_of_reference x)
