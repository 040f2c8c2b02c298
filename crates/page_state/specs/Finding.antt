-- What a row asks of `this` and of arguments: that they are of a kind.
use Rattle.std.specs.Prelude.{◌≡◌, Bool, true, false, Option, Some, None, Result, Ok, Err, is_some, if◌then◌else◌}
use Rattle.js_core.specs.declared.memory.Failure.{Failure}
use Rattle.js_values.specs.declared.ids.NodeId.{NodeId}
use Rattle.js_values.specs.declared.ids.ObjId.{ObjId}
use Rattle.js_values.specs.declared.throw.Throw.TheVariants.{WrongArgument}
use Rattle.js_values.specs.declared.value.Value.{Value}
use Rattle.dom_tree.specs.declared.content.Kind.{Kind}
use Rattle.dom_tree.specs.Node.{kind_at}
use Rattle.page_meaning.specs.Classes.{class_of, is_function}
use Rattle.page_meaning.specs.Errors.{raise}
use Rattle.page_meaning.specs.NodeRows.{node_in, object_in, parts_in}
use Rattle.page_meaning.specs.Store.{Store}
use Rattle.page_state.specs.Does.{Raises}

-- it is found, and nothing changes; or there is none, which is a wrong argument
pub record IsFound {A : Type 0} (o : Option A) (s : Store) (a : A) (t : Store) : Type 0 where
  pub found : o ≡ Some a
  pub same : t ≡ s

pub record IsWrong {A : Type 0} (o : Option A) (s : Store) (e : Failure Value) (t : Store) : Type 0 where
  pub none : o ≡ None
  pub raised : Raises (λ _. raise WrongArgument) s t e

abbrev pub Finds : {A : Type 0} → Option A → Store → Store → Result A (Failure Value) → Type 0
Finds o s t (Ok a) = IsFound o s a t
Finds o s t (Err e) = IsWrong o s e t

-- the node that a value is
abbrev pub node_of : Store → Value → Option NodeId
node_of s v = node_in s.host.nodes (class_of s v)

abbrev pub if_kind : (Kind → Bool) → Store → Option NodeId → Option NodeId
if_kind test s None = None
if_kind test s (Some k) = if test (kind_at s.host.nodes k.0) then Some k else None

-- the same where it is of the kind
abbrev pub node_of_kind : (Kind → Bool) → Store → Value → Option NodeId
node_of_kind test s v = if_kind test s (node_of s v)

abbrev pub object_if : Bool → Value → Option ObjId
object_if true v = object_in v
object_if false v = None

-- the event, or the function, that a value is
abbrev pub event_of : Store → Value → Option ObjId
event_of s v = object_if (is_some (parts_in (class_of s v))) v

abbrev pub function_of : Store → Value → Option ObjId
function_of s v = object_if (is_function (class_of s v)) v
