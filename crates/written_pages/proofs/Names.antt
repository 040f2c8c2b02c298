-- References to names.
use Rattle.std.proofs.Common.{ℕ, List}
use Rattle.std.specs.Prelude.{Option, Some, None}
use Rattle.js_values.specs.declared.ids.EnvId.{EnvId}
use Rattle.js_values.specs.declared.throw.Throw.TheVariants.{NotDefined}
use Rattle.js_values.specs.declared.value.Value.{Value}
use Rattle.js_values.specs.declared.value.Value.TheVariants.{Undefined}
use Rattle.page_meaning.specs.Names.{Here, assign_name, found_or_raise, held, read, read_name, resolve, resolved, type_of_name, type_of_reference, write}
use Rattle.page_meaning.specs.Places.{window}
use Rattle.page_meaning.specs.declared.reference.Reference.{Reference}
use Rattle.page_meaning.specs.declared.reference.Reference.TheVariants.{Environment, Global, Nowhere}
use Rattle.literal_values.proofs.Callers.{get_bounded, name_text}
use Rattle.literal_values.specs.Objects.{MaybeFound}
use Rattle.literal_values.specs.Values.{IsBounded, IsName, MaybeBounded}
use Rattle.written_pages.proofs.Acts.{also_is, asking_is, bind_is, give_is, ret_is}
use Rattle.written_pages.proofs.Primitives.{bind_name_is, find_name_is, raise_is}
use Rattle.written_pages.proofs.Properties.{put_in_is}
use Rattle.written_pages.proofs.Types.{give_type_is}
use Rattle.written_pages.specs.Acts.{ActIs, Any, Writes}

resolved_is : (x : List ℕ) (o : Option (EnvId × Value)) → ActIs Any (resolved x o)
resolved_is x None = record { run = λ s n l. (tt, l) }
resolved_is x (Some p) = ret_is (Environment p.0) tt

pub resolve_is : (here : Here) (x : List ℕ) → ActIs Any (resolve here x)
resolve_is here x = bind_is (find_name_is here.env x) (λ o p. resolved_is x o)

held_bounded : (o : Option (EnvId × Value)) → MaybeFound o → IsBounded (held o)
held_bounded None h = tt
held_bounded (Some p) h = h

found_is : (x : List ℕ) (o : Option Value) → IsName x → MaybeBounded o → Writes (found_or_raise x o)
found_is x None h k = raise_is (NotDefined x) h
found_is x (Some v) h k = give_is v k

pub read_is : (x : List ℕ) (r : Reference) → IsName x → Writes (read x r)
read_is x (Environment e) h = bind_is (find_name_is (Some e) x) (λ o p. give_is (held o) (held_bounded o p))
read_is x Global h = asking_is MaybeBounded (λ s l. get_bounded s.heap.objects window.0 x l.heap.objects) (λ o p. found_is x o h p)
read_is x Nowhere h = raise_is (NotDefined x) h

pub read_name_is : (here : Here) (x : List ℕ) → IsName x → Writes (read_name here x)
read_name_is here x h = bind_is (resolve_is here x) (λ r p. read_is x r h)

pub write_is : (x : List ℕ) (r : Reference) (v : Value) → IsName x → IsBounded v → Writes (write x r v)
write_is x (Environment e) v h k = bind_is (bind_name_is e x v k) (λ u p. give_is v k)
write_is x Global v h k = put_in_is window x v (name_text x h) k
write_is x Nowhere v h k = raise_is (NotDefined x) h

pub assign_name_is : (here : Here) (x : List ℕ) (v : Value) → IsName x → IsBounded v → Writes (assign_name here x v)
assign_name_is here x v h k = bind_is (resolve_is here x) (λ r p. write_is x r v h k)

type_is : (x : List ℕ) (r : Reference) → IsName x → Writes (type_of_reference x r)
type_is x (Environment e) h = also_is (read_is x (Environment e) h) (λ v k. give_type_is v)
type_is x Global h = also_is (read_is x Global h) (λ v k. give_type_is v)
type_is x Nowhere h = give_type_is Undefined

pub type_of_name_is : (here : Here) (x : List ℕ) → IsName x → Writes (type_of_name here x)
type_of_name_is here x h = bind_is (resolve_is here x) (λ r p. type_is x r h)
