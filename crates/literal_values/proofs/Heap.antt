-- What is read of a literal heap is bounded, and what is done to it leaves one.
use Rattle.std.proofs.Common.{◌≡◌, ℕ, zero, suc, Bool, true, false, List, [], ◌∷◌, Option, Some, None, IfSome, length, option_map, unwrap_or, nat_lt, bytes_eq, if◌then◌else◌, IsSome, arith}
use Rattle.std.specs.List.{All}
use Rattle.std.specs.Map.{keys_of}
use Rattle.std.proofs.lemmas.List.Elements.{All-push, All-set}
use Rattle.js_values.specs.declared.ids.EnvId.{EnvId}
use Rattle.js_values.specs.declared.ids.ObjId.{ObjId}
use Rattle.js_values.specs.declared.value.Value.{Value}
use Rattle.js_values.specs.declared.value.Value.TheVariants.{Undefined}
use Rattle.object_heap.specs.declared.object.Class.{Class}
use Rattle.object_heap.specs.declared.object.Class.TheVariants.{Bound as Bind, Event, Fault, List as Array, Math, Native, Node, Page, Plain, Window}
use Rattle.object_heap.specs.declared.object.EventParts.{EventParts}
use Rattle.object_heap.specs.declared.property.Change.{Change}
use Rattle.object_heap.specs.declared.property.Prop.{Prop}
use Rattle.object_heap.specs.Chain.{can_put, first_found, found, found_within, get, get_property, object_at}
use Rattle.object_heap.specs.Define.{length_name, number, valid_length}
use Rattle.object_heap.specs.Environment.{Bound, Environment, environment_at, no_environment, value_of}
use Rattle.object_heap.specs.Heap.{add_property, bound_within, close, Contents, define_own, delete, first_bound, look_in, lookup, made, new_object, opened, prevent_extensions, put, set, with_object}
use Rattle.object_heap.specs.Laws.{after_step, after_steps, Step, puts, defines, deletes, prevents, adds, closes, gives_parts, makes, opens, binds}
use Rattle.object_heap.specs.Object.{changed_event, class_at, is_list, no_object, Object, settled, whole_object}
use Rattle.object_heap.specs.Property.{own_property, Props}
use Rattle.literal_values.proofs.Define.{added_in, define_own_in, delete_own_in, length_text, own_in, prevented_in, put_length_in, put_own_in}
use Rattle.literal_values.proofs.Entries.{all_at, names_found, names_set}
use Rattle.literal_values.specs.Objects.{LiteralChange, LiteralClass, LiteralHeap, LiteralHeapStep, LiteralHeapSteps, LiteralNames, LiteralObject, LiteralParts, LiteralProps, MaybeFound, MaybeProp}
use Rattle.literal_values.specs.Values.{AreTexts, IsBounded, IsText, MaybeBounded}

-- ---- what is read

no_object_in : LiteralObject no_object
no_object_in = record { class = tt; props = tt }

pub object_in : (objects : List Object) (k : ℕ) → All LiteralObject objects → LiteralObject (object_at objects k)
object_in objects k h = all_at LiteralObject no_object objects k no_object_in h

first_in : {A : Type 0} (P : A → Type 0) (o : Option A) (proto : Option ObjId) (up : ℕ → Option A) → IfSome o P → ((q : ℕ) → IfSome (up q) P) → IfSome (first_found o proto up) P
first_in P (Some a) proto up h k = h
first_in P None None up h k = tt
first_in P None (Some q) up h k = k q.0

within_in : {A : Type 0} (P : A → Type 0) (see : Object → Option A) (objects : List Object) (n k : ℕ) → ((o : Object) → LiteralObject o → IfSome (see o) P) → All LiteralObject objects
    → IfSome (found_within see objects n k) P
within_in P see objects zero k f h = tt
within_in P see objects (suc n) k f h =
    first_in P (see (object_at objects k)) (object_at objects k).proto (λ q. found_within see objects n q) (f (object_at objects k) (object_in objects k h)) (λ q. within_in P see objects n q f h)

-- what is seen in literal objects is found up the chains
pub found_in : {A : Type 0} (P : A → Type 0) (see : Object → Option A) (objects : List Object) (k : ℕ) → ((o : Object) → LiteralObject o → IfSome (see o) P) → All LiteralObject objects
    → IfSome (found see objects k) P
found_in P see objects k f h = within_in P see objects (suc k) k f h

seen_prop : (o : Option Prop) → MaybeProp o → IfSome o (λ p. IsBounded p.value)
seen_prop None h = tt
seen_prop (Some p) h = h

prop_seen : (o : Option Prop) → IfSome o (λ p. IsBounded p.value) → MaybeProp o
prop_seen None h = tt
prop_seen (Some p) h = h

pub property_in : (objects : List Object) (k : ℕ) (name : List ℕ) → All LiteralObject objects → MaybeProp (get_property objects k name)
unfolding get_property
property_in objects k name h =
    prop_seen _ (found_in (λ p. IsBounded p.value) (λ o. own_property o.props name) objects k (λ o i. seen_prop _ (own_in o.props name i.props)) h)

pub get_in : (objects : List Object) (k : ℕ) (name : List ℕ) → All LiteralObject objects → MaybeBounded (get objects k name)
get_in objects k name h = by_case (get_property objects k name) (property_in objects k name h)
  where
    by_case : (o : Option Prop) → MaybeProp o → MaybeBounded (option_map (λ p. p.value) o)
    by_case None i = tt
    by_case (Some p) i = i

-- a property, or undefined
pub get_or_in : (objects : List Object) (k : ℕ) (name : List ℕ) → All LiteralObject objects → IsBounded (unwrap_or (get objects k name) Undefined)
get_or_in objects k name h = by_case (get objects k name) (get_in objects k name h)
  where
    by_case : (o : Option Value) → MaybeBounded o → IsBounded (unwrap_or o Undefined)
    by_case None i = tt
    by_case (Some v) i = i

-- the names of an object are texts
pub keys_in : (props : Props) → LiteralProps props → AreTexts (keys_of props)
keys_in [] h = tt
keys_in (e ∷ es) h = (h.0, keys_in es h.2)

-- ---- environments

pub environment_in : (es : List Environment) (k : ℕ) → All (λ e. LiteralNames e.names) es → LiteralNames (environment_at es k).names
environment_in es k h = all_at (λ e. LiteralNames e.names) no_environment es k tt h

bound_first_in : (k : ℕ) (o : Option Value) (outer : Option EnvId) (up : ℕ → Option (EnvId × Value)) → MaybeBounded o → ((q : ℕ) → MaybeFound (up q))
    → MaybeFound (first_bound k o outer up)
bound_first_in k (Some v) outer up h f = h
bound_first_in k None None up h f = tt
bound_first_in k None (Some e) up h f = f e.0

bound_in : (es : List Environment) (n k : ℕ) (name : List ℕ) → All (λ e. LiteralNames e.names) es → MaybeFound (bound_within es n k name)
bound_in es zero k name h = tt
bound_in es (suc n) k name h =
    bound_first_in k (value_of (environment_at es k).names name) (environment_at es k).outer (λ e. bound_within es n e name)
    (names_found (bytes_eq name) (environment_at es k).names (environment_in es k h)) (λ q. bound_in es n q name h)

lookup_in : (es : List Environment) (k : ℕ) (name : List ℕ) → All (λ e. LiteralNames e.names) es → MaybeFound (lookup es k name)
unfolding lookup
lookup_in es k name h = bound_in es (suc k) k name h

pub look_in_in : (es : List Environment) (env : Option EnvId) (name : List ℕ) → All (λ e. LiteralNames e.names) es → MaybeFound (look_in es env name)
look_in_in es None name h = tt
look_in_in es (Some e) name h = lookup_in es e.0 name h

-- ---- what is done to an object

module _ {h : Contents} (r : LiteralHeap h) where
  at : (k : ℕ) → LiteralObject (object_at h.objects k)
  at k = object_in h.objects k r.objects

  with_object_in : (k : ℕ) (o : Object) → LiteralObject o → LiteralHeap (with_object h k o)
  with_object_in k o i = record { objects = All-set LiteralObject h.objects k o i r.objects; environments = r.environments }

  pub put_in : (k : ℕ) (name : List ℕ) (v : Value) → IsText name → IsBounded v → LiteralHeap (put h k name v).after
  unfolding put
  put_in k name v n i = with_object_in k _ (put_own_in (can_put h.objects k name) (object_at h.objects k) name v (at k) n i).after

  -- the length of an array may be put as any value
  pub put_length : (k : ℕ) (v : Value) → is_list (object_at h.objects k).class ≡ true → LiteralHeap (put h k length_name v).after × ((put h k length_name v).thrown ≡ None → IsSome (valid_length v))
  unfolding put
  put_length k v list =
      let done = put_length_in (can_put h.objects k length_name) (object_at h.objects k) v list (at k) in
      (with_object_in k _ done.after, done.valid)

  pub define_in : (k : ℕ) (name : List ℕ) (change : Change) → IsText name → LiteralChange change → LiteralHeap (define_own h k name change).after
  unfolding define_own
  define_in k name change n i = with_object_in k _ (define_own_in (object_at h.objects k) name change (at k) n i).after

  pub delete_in : (k : ℕ) (name : List ℕ) → LiteralHeap (delete h k name).after
  unfolding delete
  delete_in k name = with_object_in k _ (delete_own_in (object_at h.objects k) name (at k)).after

  pub prevent_in : (k : ℕ) → LiteralHeap (prevent_extensions h k).after
  unfolding prevent_extensions
  prevent_in k = with_object_in k _ (prevented_in (object_at h.objects k) (at k)).after

  pub add_in : (k : ℕ) (name : List ℕ) (p : Prop) → IsText name → IsBounded p.value → LiteralHeap (add_property h k name p)
  unfolding add_property
  add_in k name p n i = with_object_in k _ (added_in (object_at h.objects k) name p (at k) n i)

  pub close_in : (k : ℕ) → LiteralHeap (close h k)
  close_in k = with_object_in k _ (record { class = (at k).class; props = (at k).props })

  -- the parts of an event
  pub parts_in : (k : ℕ) (f : EventParts → EventParts) → ((parts : EventParts) → LiteralParts parts → LiteralParts (f parts)) → LiteralHeap (after_step h (gives_parts k f))
  parts_in k f m = with_object_in k _ (record { class = by_class (object_at h.objects k).class (at k).class; props = (at k).props })
    where
      by_class : (c : Class) → LiteralClass c → LiteralClass (changed_event f c)
      by_class (Event parts) i = m parts i
      by_class Plain i = i
      by_class Array i = i
      by_class (Page c env) i = i
      by_class (Native which) i = i
      by_class (Bind target this args) i = i
      by_class Fault i = i
      by_class Math i = i
      by_class Window i = i
      by_class (Node n) i = i

  -- ---- what is made

  settled_in : (k : ℕ) (o : Object) → LiteralObject o → LiteralObject (settled k o)
  settled_in k o i = record { class = by_class o.class i.class; props = i.props }
    where
      by_class : (c : Class) → LiteralClass c → LiteralClass (class_at k c)
      by_class (Bind target this args) i = by_case (nat_lt target.0 k)
        where
          by_case : (b : Bool) → LiteralClass (if b then Bind target this args else Plain)
          by_case true = i
          by_case false = tt
      by_class (Event parts) i = i
      by_class Plain i = i
      by_class Array i = i
      by_class (Page c env) i = i
      by_class (Native which) i = i
      by_class Fault i = i
      by_class Math i = i
      by_class Window i = i
      by_class (Node n) i = i

  pub make_in : (o : Object) → LiteralObject o → LiteralHeap (made h o)
  make_in o i = record { objects = All-push LiteralObject h.objects _ r.objects (settled_in (length h.objects) o i); environments = r.environments }

  pub open_in : (outer : Option EnvId) (names : Bound) → LiteralNames names → LiteralHeap (opened h outer names)
  open_in outer names i = record { objects = r.objects; environments = All-push (λ e. LiteralNames e.names) h.environments _ r.environments i }

  pub set_in : (k : ℕ) (name : List ℕ) (v : Value) → IsBounded v → LiteralHeap (set h k name v)
  unfolding set
  set_in k name v i = record {
    objects = r.objects;
    environments = All-set (λ e. LiteralNames e.names) h.environments k _ (names_set (bytes_eq name) (environment_at h.environments k).names v i (environment_in h.environments k r.environments)) r.environments;
  }

  -- ---- whatever is done

  pub heap_step_in : (g : Step) → LiteralHeapStep g → LiteralHeap (after_step h g)
  heap_step_in (puts k x v) i = put_in k x v i.0 i.1
  heap_step_in (defines k x change) i = define_in k x change i.0 i.1
  heap_step_in (deletes k x) i = delete_in k x
  heap_step_in (prevents k) i = prevent_in k
  heap_step_in (adds k x p) i = add_in k x p i.0 i.1
  heap_step_in (closes k) i = close_in k
  heap_step_in (gives_parts k f) i = parts_in k f i
  heap_step_in (makes o fit) i = make_in o i
  heap_step_in (opens outer names) i = open_in outer names i
  heap_step_in (binds k x v) i = set_in k x v i

pub heap_steps_in : (h : Contents) (gs : List Step) → LiteralHeapSteps gs → LiteralHeap h → LiteralHeap (after_steps h gs)
heap_steps_in h [] i r = r
heap_steps_in h (g ∷ gs) i r = heap_steps_in (after_step h g) gs i.1 (heap_step_in r g i.0)

-- ---- objects that are made

pub new_in : (class : Class) (proto : Option ObjId) → LiteralClass class → LiteralObject (new_object class proto)
new_in class proto h = record { class = h; props = by_case (is_list class) }
  where
    by_case : (b : Bool) → LiteralProps (if b then (length_name, record { value = number 0; writable = true; enumerable = false; configurable = false }) ∷ [] else [])
    by_case true = (length_text, omega arith, tt)
    by_case false = tt

pub whole_in : (class : Class) (proto : Option ObjId) (props : Props) → LiteralClass class → LiteralProps props → LiteralObject (whole_object class proto props)
whole_in class proto props h k = record { class = h; props = k }
