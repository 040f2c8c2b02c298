-- Pages whose objects refer to places below a bound, with their shapes; and functions, whose lengths stay.
use Rattle.std.proofs.Common.{◌≡◌, ◌⊎◌, inl, inr, refl, sym, ap, subst, ◌∙◌, ℕ, zero, suc, ◌-◌, ◌<◌, ◌≤◌, pos, Bool, true, false, ◌&&◌, not, IsTrue, nat_lt, List, [], ◌∷◌, Option, Some, None, length, bytes_eq, if◌then◌else◌, arith}
use Rattle.std.proofs.lemmas.Bool.{and_from, and_parts, cases_lt, cases_order, lt-ltb, ltb-true, not-true}
use Rattle.std.proofs.lemmas.Slice.Eq.{bytes_eq-Decides}
use Rattle.code_table.specs.Declarations.{formals_of}
use Rattle.js_values.specs.declared.ids.NodeId.{NodeId}
use Rattle.js_values.specs.declared.ids.ObjId.{ObjId}
use Rattle.js_values.specs.declared.value.Value.{Value}
use Rattle.js_values.specs.declared.value.Value.TheVariants.{Num}
use Rattle.object_heap.proofs.Callers.{object_absent}
use Rattle.object_heap.specs.Chain.{get_property, object_at}
use Rattle.object_heap.specs.Define.{length_name, number, number_in}
use Rattle.object_heap.specs.Environment.{environment_at}
use Rattle.object_heap.specs.Function.{prototype_name}
use Rattle.object_heap.specs.Heap.{Contents}
use Rattle.object_heap.specs.Object.{is_list, Object}
use Rattle.object_heap.specs.Property.{Props, fixed}
use Rattle.object_heap.specs.declared.object.Class.{Class}
use Rattle.object_heap.specs.declared.object.Class.TheVariants as class
use Rattle.object_heap.specs.declared.object.EventParts.{EventParts}
use Rattle.object_heap.specs.declared.property.Prop.{Prop}
use Rattle.page_meaning.specs.Elements.{length_of}
use Rattle.page_meaning.specs.Classes.{class_at, is_function, is_node_class}
use Rattle.page_meaning.specs.Places.{built_in_count, window}
use Rattle.page_meaning.specs.Pristine.{built_ins}
use Rattle.page_meaning.specs.Store.{Store, with_heap}
use Rattle.object_shapes.specs.Hosted.{HasParts, IsHosted, has_no_kept, is_node_at, is_node_if}
use Rattle.object_shapes.specs.Links.{all_below, bound_links, is_thing, made_links, object_links}
use Rattle.object_shapes.specs.Shapes.{HasFunctionProps, HasLength, HasShape, IsShaped, IsWindow, built_in_at, made_property}
use Rattle.object_shapes.proofs.Edits.{HasFixedLength}
use Rattle.object_shapes.proofs.Lists.{all_more}

-- as IsShaped, but what is referred to is below n
pub record IsHeld (n : ℕ) (s : Store) : Type 0 where
  pub built_ins : (k : ℕ) → 0 < k → k < built_in_count → object_at s.heap.objects k ≡ built_in_at k
  pub window : IsWindow (object_at s.heap.objects window.0)
  pub all_there : built_in_count < length s.heap.objects
  pub there : (k : ℕ) → IsTrue (all_below n (object_links (object_at s.heap.objects k)))
  pub bound_there : (e : ℕ) → IsTrue (all_below n (bound_links (environment_at s.heap.environments e).names))
  pub older : (k : ℕ) → IsTrue (is_thing s k) → IsTrue (all_below k (made_links (object_at s.heap.objects k)))
  pub made : (k : ℕ) → IsTrue (is_thing s k) → HasShape s (object_at s.heap.objects k) (object_at s.heap.objects k).class
  pub not_closed : (k : ℕ) → IsTrue (is_thing s k) → (object_at s.heap.objects k).closed ≡ false
  pub document : HasShape s (object_at s.heap.objects built_in_count) (object_at s.heap.objects built_in_count).class
  pub document_open : (object_at s.heap.objects built_in_count).closed ≡ false
  pub host : IsHosted s

pub held_of : (s : Store) → IsShaped s → IsHeld (length s.heap.objects) s
held_of s h = record {
  built_ins = h.built_ins;
  window = h.window;
  all_there = h.all_there;
  there = h.there;
  bound_there = h.bound_there;
  older = h.older;
  made = h.made;
  not_closed = h.not_closed;
  document = h.document;
  document_open = h.document_open;
  host = h.host;
}

pub shaped_of : (n : ℕ) (s : Store) → IsHeld n s → n ≡ length s.heap.objects → IsShaped s
shaped_of n s h e = record {
  built_ins = h.built_ins;
  window = h.window;
  all_there = h.all_there;
  there = λ k. subst (λ m. IsTrue (all_below m (object_links (object_at s.heap.objects k)))) e (h.there k);
  bound_there = λ k. subst (λ m. IsTrue (all_below m (bound_links (environment_at s.heap.environments k).names))) e (h.bound_there k);
  older = h.older;
  made = h.made;
  not_closed = h.not_closed;
  document = h.document;
  document_open = h.document_open;
  host = h.host;
}

pub held_more : (m n : ℕ) (s : Store) → m ≤ n → IsHeld m s → IsHeld n s
held_more m n s more h = record {
  built_ins = h.built_ins;
  window = h.window;
  all_there = h.all_there;
  there = λ k. all_more m n (object_links (object_at s.heap.objects k)) more (h.there k);
  bound_there = λ k. all_more m n (bound_links (environment_at s.heap.environments k).names) more (h.bound_there k);
  older = h.older;
  made = h.made;
  not_closed = h.not_closed;
  document = h.document;
  document_open = h.document_open;
  host = h.host;
}

-- ---- things

pub record IsThing (s : Store) (k : ℕ) : Type 0 where
  pub young : built_in_count < k
  pub there : k < length s.heap.objects

pub thing_is : (s : Store) (k : ℕ) → is_thing s k ≡ true → IsThing s k
thing_is s k h =
    let both = and_parts (nat_lt built_in_count k) (nat_lt k (length s.heap.objects)) h in
    record { young = ltb-true built_in_count k both.0; there = ltb-true k (length s.heap.objects) both.1 }

pub is_thing_from : (s : Store) (k : ℕ) → IsThing s k → is_thing s k ≡ true
is_thing_from s k h = and_from (nat_lt built_in_count k) (nat_lt k (length s.heap.objects)) (lt-ltb built_in_count k h.young)
    (lt-ltb k (length s.heap.objects) h.there)

-- what is not built in has its shape, and is not closed
pub record IsOpen (s : Store) (k : ℕ) : Type 0 where
  pub shape : HasShape s (object_at s.heap.objects k) (object_at s.heap.objects k).class
  pub not_closed : (object_at s.heap.objects k).closed ≡ false

pub shape_at : (n : ℕ) (s : Store) → IsHeld n s → (k : ℕ) → built_in_count ≤ k → k < length s.heap.objects → IsOpen s k
shape_at n s held k young there = by_case (cases_order k built_in_count)
  where
    by_case : (k ≡ built_in_count) ⊎ ((k < built_in_count) ⊎ (built_in_count < k)) → IsOpen s k
    by_case (inl here) = subst (IsOpen s) (sym here) (record { shape = held.document; not_closed = held.document_open })
    by_case (inr (inl old)) = absurd (omega (arith, old, young))
    by_case (inr (inr past)) =
        let thing = is_thing_from s k (record { young = past; there = there }) in
        record { shape = held.made k thing; not_closed = held.not_closed k thing }

-- ---- the lengths of functions

pub record SomeLength (props : Props) : Type 0 where
  pub count : ℕ
  pub is : HasFixedLength count props

pub length_read : (s : Store) (at : ObjId) (m : ℕ) → HasFixedLength m (object_at s.heap.objects at.0).props → length_of at s ≡ m
unfolding get_property
length_read s at m h = rw h.are refl

-- of built-in objects
abbrev is_count : Value → Bool
is_count (Num (Some (pos m))) = true
is_count v = false

abbrev is_fixed_count : Prop → Bool
is_fixed_count p = is_count p.value && (not p.writable && (not p.enumerable && not p.configurable))

abbrev begins_fixed : Props → Bool
begins_fixed [] = false
begins_fixed (e ∷ es) = bytes_eq e.0 length_name && is_fixed_count e.1

abbrev is_plain_or_fixed : Object → Bool
is_plain_or_fixed o = if is_function (Some o.class) then begins_fixed o.props else true

abbrev are_fixed : List Object → Bool
are_fixed [] = true
are_fixed (o ∷ os) = is_plain_or_fixed o && are_fixed os

fixed_at : (os : List Object) (k : ℕ) → are_fixed os ≡ true → is_plain_or_fixed (object_at os k) ≡ true
fixed_at [] k h = refl
fixed_at (o ∷ os) zero h = (and_parts (is_plain_or_fixed o) (are_fixed os) h).0
fixed_at (o ∷ os) (suc k) h = fixed_at os k (and_parts (is_plain_or_fixed o) (are_fixed os) h).1

count_of : (v : Value) → is_count v ≡ true → v ≡ number (number_in v)
count_of (Num (Some (pos m))) h = refl
count_of v h = cc h

fixed_prop : (p : Prop) → is_fixed_count p ≡ true → p ≡ fixed (number (number_in p.value))
fixed_prop p h =
    let one = and_parts (is_count p.value) (not p.writable && (not p.enumerable && not p.configurable)) h in
    let two = and_parts (not p.writable) (not p.enumerable && not p.configurable) one.1 in
    let three = and_parts (not p.enumerable) (not p.configurable) two.1 in
    let value : p.value ≡ number (number_in p.value) = count_of p.value one.0 in
    let writable : p.writable ≡ false = not-true p.writable two.0 in
    let enumerable : p.enumerable ≡ false = not-true p.enumerable three.0 in
    let configurable : p.configurable ≡ false = not-true p.configurable three.1 in
    (λ j. record { value = value j; writable = writable j; enumerable = enumerable j; configurable = configurable j })

begins_length : (props : Props) → begins_fixed props ≡ true → SomeLength props
begins_length [] h = absurd (cc h)
begins_length (e ∷ es) h =
    let both = and_parts (bytes_eq e.0 length_name) (is_fixed_count e.1) h in
    let name : e.0 ≡ length_name = (bytes_eq-Decides e.0 length_name).0 both.0 in
    let prop = fixed_prop e.1 both.1 in
    record { count = number_in e.1.value; is = record { others = es; are = (λ j. (name j, prop j) ∷ es) } }

all_fixed : are_fixed built_ins ≡ true
all_fixed = refl

pub built_in_length : (k : ℕ) → is_function (Some (built_in_at k).class) ≡ true → SomeLength (built_in_at k).props
built_in_length k h = from_test (built_in_at k) h (fixed_at built_ins k all_fixed)
  where
    from_test : (o : Object) → is_function (Some o.class) ≡ true → is_plain_or_fixed o ≡ true → SomeLength o.props
    from_test o f t = begins_length o.props (rw f at t)

-- of those that scripts made
shape_length : (s : Store) (o : Object) (c : Class) → HasShape s o c → is_function (Some c) ≡ true → SomeLength o.props
shape_length s o (class.Page c env) h f =
    record {
      count = length (formals_of c);
      is =
          record { others = (prototype_name, made_property h.1.prototype h.1.writable) ∷ h.1.others; are = h.1.are };
    }
shape_length s o (class.Bound target this args) h f =
    record { count = length_of target s - length args; is = record { others = h.1.others; are = h.1.are } }
shape_length s o (class.Native which) h f = absurd h
shape_length s o c h f = absurd (cc f)

module _ (n : ℕ) (s : Store) (held : IsHeld n s) where
  some_length : (k : ℕ) → is_function (Some (object_at s.heap.objects k).class) ≡ true → SomeLength (object_at s.heap.objects k).props
  some_length zero f = absurd (cc (sym f ∙ ap (λ c. is_function (Some c)) held.window.class))
  some_length (suc j) f = by_case (cases_lt (suc j) built_in_count) (cases_lt (suc j) (length s.heap.objects))
    where
      old : (o : Object) → o ≡ built_in_at (suc j) → is_function (Some o.class) ≡ true → SomeLength o.props
      old o e g = subst (λ (x : Object). SomeLength x.props) (sym e)
          (built_in_length (suc j) (sym (ap (λ (x : Object). is_function (Some x.class)) e) ∙ g))

      by_case : (suc j < built_in_count) ⊎ (built_in_count ≤ suc j) → (suc j < length s.heap.objects) ⊎ (length s.heap.objects ≤ suc j)
          → SomeLength (object_at s.heap.objects (suc j)).props
      by_case (inl small) which = old (object_at s.heap.objects (suc j)) (held.built_ins (suc j) (omega arith) small) f
      by_case (inr young) (inl there) =
          shape_length s (object_at s.heap.objects (suc j)) (object_at s.heap.objects (suc j)).class (shape_at n s held (suc j) young there).shape f
      by_case (inr young) (inr past) = absurd
          (cc (sym f ∙ ap (λ (x : Object). is_function (Some x.class)) (object_absent s.heap.objects (suc j) past)))

  pub function_length : (at : ObjId) → is_function (Some (class_at s at)) ≡ true
      → HasFixedLength (length_of at s) (object_at s.heap.objects at.0).props
  function_length at f =
      let some = some_length at.0 f in
      subst (λ m. HasFixedLength m (object_at s.heap.objects at.0).props) (sym (length_read s at some.count some.is)) some.is

  pub function_there : (k : ℕ) → is_function (Some (object_at s.heap.objects k).class) ≡ true → k < length s.heap.objects
  function_there k f = by_case (cases_lt k (length s.heap.objects))
    where
      by_case : (k < length s.heap.objects) ⊎ (length s.heap.objects ≤ k) → k < length s.heap.objects
      by_case (inl there) = there
      by_case (inr past) = absurd (cc (sym f ∙ ap (λ (x : Object). is_function (Some x.class)) (object_absent s.heap.objects k past)))

pub node_there : (s : Store) (at : ObjId) (k : NodeId) → class_at s at ≡ class.Node k → at.0 < length s.heap.objects
node_there s at k e = by_case (cases_lt at.0 (length s.heap.objects))
  where
    by_case : (at.0 < length s.heap.objects) ⊎ (length s.heap.objects ≤ at.0) → at.0 < length s.heap.objects
    by_case (inl there) = there
    by_case (inr past) = absurd (cc (sym e ∙ ap (λ (x : Object). x.class) (object_absent s.heap.objects at.0 past)))

-- ---- shapes in another page

-- functions are functions in the other one too, of the same length, and objects of nodes are theirs
pub record SameKinds (s t : Store) : Type 0 where
  pub functions : (at : ObjId) → is_function (Some (class_at s at)) ≡ true
      → (length_of at t ≡ length_of at s) × (is_function (Some (class_at t at)) ≡ true)
  pub nodes : (at : ObjId) (k : NodeId) → class_at s at ≡ class.Node k → class_at t at ≡ class.Node k
  pub longer : length s.host.nodes ≤ length t.host.nodes

pub record FunctionKept (o p : Object) : Type 0 where
  pub class : p.class ≡ o.class
  pub fixed : (m : ℕ) → HasFixedLength m o.props → HasFixedLength m p.props

pub same_kinds : (n : ℕ) (s t : Store) → IsHeld n s
    → ((k : ℕ) → is_function (Some (object_at s.heap.objects k).class) ≡ true → FunctionKept (object_at s.heap.objects k)
    (object_at t.heap.objects k))
    → ((at : ObjId) (k : NodeId) → class_at s at ≡ class.Node k → class_at t at ≡ class.Node k)
    → length s.host.nodes ≤ length t.host.nodes → SameKinds s t
same_kinds n s t held kept nodes longer = record {
  functions = λ at f.
      let h = kept at.0 f in
      (length_read t at (length_of at s) (h.fixed (length_of at s) (function_length n s held at f)), ap (λ c. is_function (Some c)) h.class ∙ f);
  nodes = nodes;
  longer = longer;
}

module _ (s t : Store) (f : SameKinds s t) where
  pub node_kept : (at : ObjId) → is_node_at s at ≡ true → is_node_at t at ≡ true
  node_kept at h = by_class (class_at s at) refl h
    where
      by_class : (c : Class) → class_at s at ≡ c → is_node_class s.host.nodes c ≡ true → is_node_at t at ≡ true
      by_class (class.Node k) e there =
          let less = ltb-true k.0 (length s.host.nodes) there in
          let more = f.longer in
          ap (is_node_class t.host.nodes) (f.nodes at k e) ∙ lt-ltb k.0 (length t.host.nodes) (omega (arith, less, more))
      by_class c e there = cc there

  node_if_kept : (o : Option ObjId) → is_node_if s o ≡ true → is_node_if t o ≡ true
  node_if_kept None h = refl
  node_if_kept (Some at) h = node_kept at h

  pub parts_kept : (e : EventParts) → HasParts s e → HasParts t e
  parts_kept e h = record {
    fresh = h.fresh;
    sent = h.sent;
    begun = h.begun;
    target = node_if_kept e.target h.target;
    current = node_if_kept e.current h.current;
    phase = h.phase;
  }

-- what an object of a class keeps of its properties
pub record PropsKept (c : Class) (ps qs : Props) : Type 0 where
  pub list : is_list c ≡ true → HasLength ps → HasLength qs
  pub function : (m : ℕ) → is_list c ≡ false → HasFunctionProps m ps → HasFunctionProps m qs
  pub fixed : (m : ℕ) → is_list c ≡ false → HasFixedLength m ps → HasFixedLength m qs

pub props_same : (c : Class) (ps : Props) → PropsKept c ps ps
props_same c ps = record { list = λ e h. h; function = λ m e h. h; fixed = λ m e h. h }

pub shape_kept : (s t : Store) (o p : Object) (c : Class) → SameKinds s t → p.proto ≡ o.proto → PropsKept c o.props p.props
    → (has_no_kept s o ≡ true → has_no_kept t p ≡ true) → HasShape s o c → HasShape t p c
shape_kept s t o p class.Plain f e k free h = tt
shape_kept s t o p class.List f e k free h = (e ∙ h.0, k.list refl h.1)
shape_kept s t o p class.Fault f e k free h = record { kind = h.kind; is = e ∙ h.is }
shape_kept s t o p (class.Page c env) f e k free h = (e ∙ h.0, k.function (length (formals_of c)) refl h.1)
shape_kept s t o p (class.Bound target this args) f e k free h =
    let same = f.functions target h.2 in
    let now = k.fixed (length_of target s - length args) refl (record { others = h.1.others; are = h.1.are }) in (
      e ∙ h.0,
      record {
        others = now.others;
        are = now.are ∙ ap (λ m. (length_name, fixed (number (m - length args))) ∷ now.others)
            (sym same.0);
      },
      same.1,
    )
shape_kept s t o p (class.Node j) f e k free h = (e ∙ h.0, free h.1)
shape_kept s t o p (class.Event parts) f e k free h = (e ∙ h.0, free h.1, parts_kept s t f parts h.2)
shape_kept s t o p c f e k free h = h

-- ---- the host of a page whose heap changes

pub hosted_kept : (s : Store) (g : Contents) → SameKinds s (with_heap s g)
    → ((at : ObjId) (k : NodeId) → class_at (with_heap s g) at ≡ class.Node k → class_at s at ≡ class.Node k) → IsHosted s → IsHosted (with_heap s g)
hosted_kept s g f back h = record {
  sound = h.sound;
  object_of = λ k there. f.nodes _ _ (h.object_of k there);
  node_of = λ j k e. h.node_of j k (back (record { 0 = j }) (record { 0 = k }) e);
  document = h.document;
  heard = λ k d i. (f.functions _ (h.heard k d i)).1;
  calls = λ t i. (f.functions t.call (h.calls t i)).1;
}
