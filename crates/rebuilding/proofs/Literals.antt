-- A descriptor as an object literal: a fresh object, and what it asks for.
use Rattle.std.proofs.Common.{◌≡◌, refl, ap, ◌∙◌, ℕ, ◌+◌, ◌<◌, Bool, true, List, [], ◌∷◌, ◌++◌, Option, Some, None, Ok, option_map, length, codes, arith}
use Rattle.std.proofs.Math.Seq.{set-append_seam}
use Rattle.std.specs.Option.{option_map}
use Rattle.built_in_paths.specs.Laws.{EachHasPath, PathsLead}
use Rattle.js_core.specs.Tree as tree
use Rattle.js_core.specs.Tree.{bool, no_fields, then_field}
use Rattle.js_values.specs.declared.ids.ObjId.{ObjId}
use Rattle.js_values.specs.declared.value.Value.{Value}
use Rattle.js_values.specs.declared.value.Value.TheVariants as value
use Rattle.js_values.specs.declared.value.Value.TheVariants.{Object as Reference}
use Rattle.object_heap.proofs.Callers.{found_on, define_new_at, names_last, new_fit, no_names, object_last, ordinary_fit, property_on, two_names}
use Rattle.object_heap.specs.Attempt.{Attempt, done}
use Rattle.object_heap.specs.Chain.{first_found, found, get_property, object_at}
use Rattle.object_heap.specs.Define.{is_closed_at, whole_property}
use Rattle.object_heap.specs.Heap.{Contents, define_own, new_object, with_new_object, with_object, with_objects}
use Rattle.object_heap.specs.Object.{Object, is_list, whole_object, with_props}
use Rattle.object_heap.specs.Property.{HasDistinctNames, Props, own_property}
use Rattle.object_heap.specs.declared.object.Class.TheVariants as class
use Rattle.object_heap.specs.declared.property.Prop.{Prop}
use Rattle.page_meaning.specs.Act.{Calls, Ended, Outcome, also, bind, give, then_on}
use Rattle.page_meaning.specs.Descriptors.{change_in, data_props, descriptor_props, enumerable_field, open_property}
use Rattle.page_meaning.specs.Errors.{on_refusal}
use Rattle.page_meaning.specs.Expressions.{eval, eval_fields, new_plain}
use Rattle.page_meaning.specs.Places.{object_prototype}
use Rattle.page_meaning.specs.Primitives.{next_place}
use Rattle.page_meaning.specs.Properties.{define_member}
use Rattle.page_host.specs.declared.host_name.HostName.TheVariants.{Value as HasValue}
use Rattle.page_meaning.specs.HostNames.{Seen, held, see}
use Rattle.page_meaning.specs.Reading.{seen_at}
use Rattle.page_meaning.specs.Store.{Store, with_heap}
use Rattle.rebuilding.proofs.Ordinary.{is_ordinary}
use Rattle.rebuilding.proofs.Ordinary.{define_free}
use Rattle.page_meaning.specs.declared.signal.Signal.TheVariants.{Value as Val}
use Rattle.page_writer.specs.Literals.{IsLiteral}
use Rattle.page_writer.specs.Statements.{short_descriptor, value_and_writable, value_expr, whole_descriptor}
use Rattle.whole_ops.specs.Conversions.{is_true}
use Rattle.rebuilding.specs.Running.{short_change, whole_change}
use Rattle.rebuilding.specs.Scene.{IsRunning, Scene, inside}
use Rattle.rebuilding.specs.Sites.{sited_prop, sited_value}
use Rattle.rebuilding.proofs.Calling.{also_on}
use Rattle.rebuilding.proofs.Reading.{value_read}
use Rattle.rebuilding.proofs.Staying.{low_there, make_run, none_below, running_made, some_below}
use Rattle.object_shapes.specs.Shapes.{built_in_at}
use Rattle.page_meaning.specs.Places.{built_in_count}
use Rattle.object_shapes.specs.Links.{value_links, all_below}
use Rattle.rebuild_plan.specs.Moved.{first_thing}

-- ---- an object literal in the heap

abbrev pub literal_object : Props → Object
literal_object props = whole_object class.Plain (Some object_prototype) props

-- the youngest object is a literal with these properties
abbrev pub with_literal : Contents → Props → Contents
with_literal h props = with_new_object h (literal_object props)

-- the fields of a descriptor of a value and whether it is writable
abbrev pub short_fields : Value → Bool → Props
short_fields v writable = (codes "value", open_property v) ∷ (codes "writable", open_property (value.Bool writable)) ∷ []

prototype_low : (0 < object_prototype.0) × (object_prototype.0 < built_in_count)
unfolding built_in_count
prototype_low = (omega arith, omega arith)

-- one field more
field_defined : (h : Contents) (props : Props) (x : List ℕ) (v : Value) → own_property props x ≡ None
    → define_own (with_literal h props) (length h.objects) x (whole_property v) ≡ done (with_literal h (props ++ (x, open_property v) ∷ []))
field_defined h props x v fresh =
    let k = length h.objects in
    let same : object_at (with_literal h props).objects k ≡ literal_object props = object_last h.objects (literal_object props) in
    define_new_at (with_literal h props) k x (whole_property v) (ap (λ (o : Object). is_closed_at o x) same)
    (ap (λ (o : Object). is_list o.class) same)
    (ap (λ (o : Object). own_property o.props x) same ∙ fresh) (ap (λ (o : Object). o.extensible) same)
    ∙ ap (λ (o : Object). done (with_object (with_literal h props) k (with_props o (o.props ++ (x, open_property v) ∷ [])))) same
    ∙ ap (λ (os : List Object). done (with_objects h os))
    (set-append_seam h.objects (literal_object props) [] (literal_object (props ++ (x, open_property v) ∷ [])))

module _ (c : Scene) (h : Contents) (sites : List ℕ) (r : IsRunning c h sites) where
  pub literal_running : (props : Props) → HasDistinctNames props → IsRunning c (with_literal h props) sites
  literal_running props names =
      running_made c h sites (literal_object props) r (ordinary_fit class.Plain (Some object_prototype) props refl names)
      (some_below object_prototype (length h.objects) (low_there c h sites r object_prototype.0 prototype_low.1)) (none_below (length h.objects))

-- ---- how it is evaluated

member_defined : (s : Store) (h : Contents) (n : ℕ) (props : Props) (x : List ℕ) (v : Value) → own_property props x ≡ None
    → (define_member (next_place h) x v).run (with_heap s (with_literal h props)) n
    ≡ Ended (Val v) (with_heap s (with_literal h (props ++ (x, open_property v) ∷ []))) n
member_defined s h n props x v fresh =
    let t : Store = with_heap s (with_literal h props) in
    ap (λ (a : Attempt Contents). (on_refusal (give v) a.thrown).run (with_heap s a.after) n)
    (define_free t (next_place h) x (whole_property v) (ap (λ (o : Object). is_ordinary o.class) (object_last h.objects (literal_object props)))
    ∙ field_defined h props x v fresh)

module _ (c : Scene) (s : Store) (h : Contents) (calls : Calls) (n : ℕ) where
  field_run : (x : List ℕ) (e : tree.Expr) (fs : tree.Fields) (v : Value) (props : Props) → own_property props x ≡ None
      → (eval calls (inside c) e).run (with_heap s (with_literal h props)) n ≡ Ended (Val v) (with_heap s (with_literal h props)) n
      → (eval_fields calls (inside c) (then_field x e fs) (next_place h)).run (with_heap s (with_literal h props)) n
      ≡ (eval_fields calls (inside c) fs (next_place h)).run (with_heap s (with_literal h (props ++ (x, open_property v) ∷ []))) n
  field_run x e fs v props fresh read =
      also_on (λ w. also (define_member (next_place h) x w) (λ _. eval_fields calls (inside c) fs (next_place h))) read
      ∙ also_on (λ _. eval_fields calls (inside c) fs (next_place h)) (member_defined s h n props x v fresh)

module _ (c : Scene) (s : Store) (sites : List ℕ) (r : IsRunning c s.heap sites) (calls : Calls) (n : ℕ) (lead : PathsLead)
    (each : EachHasPath) where
  fresh_run : (fs : tree.Fields)
      → (bind new_plain (λ o. eval_fields calls (inside c) fs o)).run s n
      ≡ (eval_fields calls (inside c) fs (next_place s.heap)).run (with_heap s (with_literal s.heap [])) n
  fresh_run fs =
      ap (λ (o : Outcome ObjId). then_on o (λ p. eval_fields calls (inside c) fs p))
      (make_run (new_object class.Plain (Some object_prototype)) (new_fit class.Plain (Some object_prototype)) refl s n
      (some_below object_prototype (length s.heap.objects) (low_there c s.heap sites r object_prototype.0 prototype_low.1))
      (none_below (length s.heap.objects)))

  -- the two fields that each descriptor has
  data_run : (v : Value) (writable : Bool) (fs : tree.Fields) → IsLiteral v → all_below (first_thing + length sites) (value_links v) ≡ true
      → (bind new_plain (λ o. eval_fields calls (inside c) (value_and_writable (value_expr v) writable fs) o)).run s n
      ≡ (eval_fields calls (inside c) fs (next_place s.heap)).run
      (with_heap s (with_literal s.heap (short_fields (sited_value sites v) writable))) n
  data_run v writable fs range there =
      let t = with_heap s (with_literal s.heap []) in
      let first = (codes "value", open_property (sited_value sites v)) ∷ [] in
      fresh_run (value_and_writable (value_expr v) writable fs)
      ∙ field_run c s s.heap calls n (codes "value") (value_expr v) (then_field (codes "writable") (bool writable) fs) (sited_value sites v) [] refl
      (value_read c t sites (literal_running c s.heap sites r [] no_names) calls n lead each v range there)
      ∙ field_run c s s.heap calls n (codes "writable") (bool writable) fs (value.Bool writable) first refl refl

  pub short_read : (v : Value) (writable : Bool) → IsLiteral v → all_below (first_thing + length sites) (value_links v) ≡ true
      → (eval calls (inside c) (short_descriptor v writable)).run s n
      ≡ Ended (Val (Reference (next_place s.heap)))
      (with_heap s (with_literal s.heap (short_fields (sited_value sites v) writable))) n
  short_read v writable range there = data_run v writable no_fields range there

  pub whole_read : (p : Prop) → IsLiteral p.value → all_below (first_thing + length sites) (value_links p.value) ≡ true
      → (eval calls (inside c) (whole_descriptor p)).run s n
      ≡ Ended (Val (Reference (next_place s.heap))) (with_heap s (with_literal s.heap (descriptor_props (sited_prop sites p)))) n
  whole_read p range there =
      let last = then_field (codes "configurable") (bool p.configurable) no_fields in
      let two = data_props (sited_prop sites p) in
      data_run p.value p.writable (then_field (codes "enumerable") (bool p.enumerable) last) range there
      ∙ field_run c s s.heap calls n (codes "enumerable") (bool p.enumerable) last (value.Bool p.enumerable) two refl refl
      ∙ field_run c s s.heap calls n (codes "configurable") (bool p.configurable) no_fields (value.Bool p.configurable)
      (two ++ enumerable_field p ∷ []) refl refl

-- ---- their names

pub short_names : (v : Value) (writable : Bool) → HasDistinctNames (short_fields v writable)
short_names v writable = two_names (codes "value") (open_property v) (codes "writable") (open_property (value.Bool writable)) refl

pub whole_names : (p : Prop) → HasDistinctNames (descriptor_props p)
whole_names p =
    names_last (data_props p ++ enumerable_field p ∷ []) (codes "configurable") (open_property (value.Bool p.configurable)) refl
    (names_last (data_props p) (codes "enumerable") (open_property (value.Bool p.enumerable)) refl (short_names p.value p.writable))

-- ---- what they ask for

asked : (s : Store) (at : ObjId) (v : Prop) (w e f : Option Prop) → seen_at s at (codes "value") HasValue ≡ Some (held v)
    → get_property s.heap.objects at.0 (codes "writable") ≡ w
    → get_property s.heap.objects at.0 (codes "enumerable") ≡ e → get_property s.heap.objects at.0 (codes "configurable") ≡ f
    → get_property s.heap.objects at.0 (codes "get") ≡ None → get_property s.heap.objects at.0 (codes "set") ≡ None
    → change_in s (Reference at) ≡ Ok (record {
      value = Some v.value;
      writable = option_map is_true (option_map (λ p. p.value) w);
      enumerable = option_map is_true (option_map (λ p. p.value) e);
      configurable = option_map is_true (option_map (λ p. p.value) f);
    })
asked s at v w e f hv hw he hf hg hs = rw (hv, hg, hs, hw, he, hf) refl

module _ (c : Scene) (h : Contents) (sites : List ℕ) (r : IsRunning c h sites) (props : Props) (names : HasDistinctNames props) where
  literal_has : (x : List ℕ) → get_property (with_literal h props).objects (length h.objects) x
      ≡ first_found (own_property props x) (Some object_prototype) (λ q. get_property (with_literal h props).objects q x)
  literal_has x =
      property_on (with_literal h props).objects (length h.objects) x (literal_running c h sites r props names).place.sound.prototypes
      ∙ ap (λ (o : Object). first_found (own_property o.props x) o.proto (λ q. get_property (with_literal h props).objects q x))
      (object_last h.objects (literal_object props))

  -- the prototype has no such field
  literal_lacks : (x : List ℕ) → own_property props x ≡ None → own_property (built_in_at object_prototype.0).props x ≡ None
      → get_property (with_literal h props).objects (length h.objects) x ≡ None
  literal_lacks x own none =
      let t = literal_running c h sites r props names in
      let up : ℕ → Option Prop = λ q. get_property (with_literal h props).objects q x in
      literal_has x ∙ ap (λ (o : Option Prop). first_found o (Some object_prototype) up) own
      ∙ property_on (with_literal h props).objects object_prototype.0 x t.place.sound.prototypes
      ∙ ap (λ (o : Object). first_found (own_property o.props x) o.proto up) (t.own.objects object_prototype.0 prototype_low.0 prototype_low.1)
      ∙ ap (λ (o : Option Prop). first_found o None up) none

module _ (c : Scene) (s : Store) (sites : List ℕ) (r : IsRunning c s.heap sites) where
  -- the field `value` is seen as a property, since the literal is no node
  value_seen : (props : Props) (names : HasDistinctNames props) (v : Prop) → own_property props (codes "value") ≡ Some v
      → seen_at (with_heap s (with_literal s.heap props)) (next_place s.heap) (codes "value") HasValue ≡ Some (held v)
  value_seen props names v own =
      let g : Contents = with_literal s.heap props in
      let look : Object → Option Seen = see s.host.nodes (codes "value") HasValue in
      let up : ℕ → Option Seen = λ q. found look g.objects q in
      found_on look g.objects (length s.heap.objects) (literal_running c s.heap sites r props names).place.sound.prototypes
      ∙ ap (λ (o : Object). first_found (look o) o.proto up) (object_last s.heap.objects (literal_object props))
      ∙ ap (λ (o : Option Prop). first_found (option_map held o) (Some object_prototype) up) own

  pub short_asks : (v : Value) (writable : Bool) → let props = short_fields (sited_value sites v) writable in
      change_in (with_heap s (with_literal s.heap props)) (Reference (next_place s.heap)) ≡ Ok (short_change sites v writable)
  short_asks v writable =
      let props = short_fields (sited_value sites v) writable in
      let has = literal_has c s.heap sites r props (short_names (sited_value sites v) writable) in
      let lacks = literal_lacks c s.heap sites r props (short_names (sited_value sites v) writable) in
      asked (with_heap s (with_literal s.heap props)) (next_place s.heap) (open_property (sited_value sites v))
      (Some (open_property (value.Bool writable))) None None
      (value_seen props (short_names (sited_value sites v) writable) (open_property (sited_value sites v)) refl) (has (codes "writable")) (lacks (codes "enumerable") refl refl) (lacks (codes "configurable") refl refl)
      (lacks (codes "get") refl refl) (lacks (codes "set") refl refl)

  pub whole_asks : (p : Prop)
      → change_in (with_heap s (with_literal s.heap (descriptor_props (sited_prop sites p)))) (Reference (next_place s.heap))
      ≡ Ok (whole_change sites p)
  whole_asks p =
      let props = descriptor_props (sited_prop sites p) in
      let has = literal_has c s.heap sites r props (whole_names (sited_prop sites p)) in
      let lacks = literal_lacks c s.heap sites r props (whole_names (sited_prop sites p)) in
      asked (with_heap s (with_literal s.heap props)) (next_place s.heap) (open_property (sited_value sites p.value))
      (Some (open_property (value.Bool p.writable)))
      (Some (open_property (value.Bool p.enumerable))) (Some (open_property (value.Bool p.configurable)))
      (value_seen props (whole_names (sited_prop sites p)) (open_property (sited_value sites p.value)) refl) (has (codes "writable")) (has (codes "enumerable")) (has (codes "configurable"))
      (lacks (codes "get") refl refl) (lacks (codes "set") refl refl)
