-- What is put and defined at an object that the language makes by itself: nothing is kept from it.
use Rattle.std.proofs.Common.{◌≡◌, ap, ℕ, List, if◌then◌else◌}
use Rattle.js_values.specs.declared.ids.ObjId.{ObjId}
use Rattle.js_values.specs.declared.throw.Throw.TheVariants.{CannotDefine, CannotSet}
use Rattle.js_values.specs.declared.value.Value.{Value}
use Rattle.object_heap.specs.Attempt.{throws}
use Rattle.object_heap.specs.Heap.{define_own, put}
use Rattle.object_heap.specs.declared.object.Class.TheVariants as class
use Rattle.object_heap.specs.declared.property.Change.{Change}
use Rattle.page_meaning.specs.Classes.{class_at}
use Rattle.page_meaning.specs.HostNames.{is_kept}
use Rattle.page_meaning.specs.Steps.{define_tried, put_tried}
use Rattle.page_meaning.specs.Store.{Store}

module _ (s : Store) (at : ObjId) (x : List ℕ) (plain : class_at s at ≡ class.Plain) where
  pub put_plain : (v : Value) → put_tried s at x v ≡ put s.heap at.0 x v
  put_plain v = ap (λ c. if is_kept s.host.nodes c x then throws s.heap CannotSet else put s.heap at.0 x v) plain

  pub define_plain : (change : Change) → define_tried s at x change ≡ define_own s.heap at.0 x change
  define_plain change = ap (λ c. if is_kept s.host.nodes c x then throws s.heap CannotDefine else define_own s.heap at.0 x change) plain
