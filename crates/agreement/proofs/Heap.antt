-- What is read of two pages that agree, and what is done to both.
use Rattle.std.proofs.Common.{◌≡◌, inl, refl, sym, ap, ◌∙◌, ℕ, zero, suc, Bool, true, false, List, [], ◌∷◌, ◌++◌, length, Option, append_assoc, arith, if◌then◌else◌}
use Rattle.js_values.specs.declared.ids.ObjId.{ObjId}
use Rattle.js_values.specs.declared.line.Line.{Line}
use Rattle.js_values.specs.declared.line.LineKind.{LineKind}
use Rattle.js_values.specs.declared.throw.Throw.{Throw}
use Rattle.js_values.specs.declared.value.Value.{Value}
use Rattle.js_values.specs.declared.throw.Throw.TheVariants.{CannotDefine, CannotSet}
use Rattle.object_heap.specs.Attempt.{Attempt, throws}
use Rattle.object_heap.specs.Chain.{get, get_property, object_at}
use Rattle.object_heap.specs.Heap as heaps
use Rattle.object_heap.specs.Heap.{Contents, IsFit}
use Rattle.object_heap.proofs.Callers.{kinds_steps}
use Rattle.object_heap.specs.Laws.{IsSameKind, Step, after_step, defines, deletes, makes, prevents, puts}
use Rattle.object_heap.specs.Object.{Object, target_of}
use Rattle.object_heap.specs.Property.{own_property}
use Rattle.object_heap.specs.declared.object.Class.{Class}
use Rattle.object_heap.specs.declared.property.Change.{Change}
use Rattle.object_heap.specs.declared.property.Prop.{Prop}
use Rattle.page_meaning.specs.Act.{Outcome}
use Rattle.page_meaning.specs.Classes.{class_at, is_made}
use Rattle.page_meaning.specs.HostNames.{is_kept}
use Rattle.page_meaning.specs.Primitives.{define_at, delete_at, make, one_less, prevent_at, put_at, put_line, stop, take_step, tells}
use Rattle.page_meaning.specs.Steps as page
use Rattle.page_meaning.specs.Store.{Store, with_heap}
use Rattle.heap_relations.proofs.Callers as heap
use Rattle.heap_relations.specs.Naming.{Agree, Before, Larger, Named, named, with_object, World}
use Rattle.heap_relations.specs.Related.{AttemptRel, ChangeRel, ClassRel, Each, Maybe, ObjectIds, ObjectRel, PropRel, ValueRel, array, bound, event, fault, math, native, node, none, page, plain, some, window}
use Rattle.object_shapes.proofs.Callers as shapes
use Rattle.object_shapes.specs.Shapes.{HasShape, IsShaped}
use Rattle.agreement.proofs.Constants.{define_rest, delete_rest, is_page, kept_other, kept_same, prevent_rest, put_rest}
use Rattle.agreement.proofs.HostReads.{is_kept_same}
use Rattle.agreement.proofs.HostsUp.{host_up}
use Rattle.agreement.proofs.Linked.{object_new, some_below, value_below}
use Rattle.agreement.specs.Acts.{ActRel, AddedRel, AreKept, Equal, Ids, OutcomeRel, Relation, StoreRel, ended, stopped}

-- ---- larger namings

pub value_up : {V W : World} {v w : Value} → Larger V W → ValueRel (named V) v w → ValueRel (named W) v w
value_up l h = heap.value_up l h

pub values_up : {V W : World} {vs ws : List Value} → Larger V W → Each (ValueRel (named V)) vs ws → Each (ValueRel (named W)) vs ws
values_up l h = heap.values_up l h

pub prop_up : {V W : World} {p q : Prop} → Larger V W → PropRel (named V) p q → PropRel (named W) p q
prop_up l h = heap.prop_up l h

pub change_up : {V W : World} {c d : Change} → Larger V W → ChangeRel (named V) c d → ChangeRel (named W) c d
change_up l h = heap.change_up l h

pub named_up : {V W : World} {a b : ℕ} → Larger V W → Named V a b → Named W a b
named_up l h = heap.named_up l h

-- ---- what is read of objects that are named

module _ {W : World} {s t : Store} (g : StoreRel W s t) (a b : ℕ) (n : Named W a b) where
  pub object_rel : ObjectRel (named W) (object_at s.heap.objects a) (object_at t.heap.objects b)
  object_rel = heap.object_read g.heap n

  pub class_rel : ClassRel (named W) (object_at s.heap.objects a).class (object_at t.heap.objects b).class
  class_rel = object_rel.class

  pub get_rel : (x : List ℕ) → Maybe (ValueRel (named W)) (get s.heap.objects a x) (get t.heap.objects b x)
  get_rel x = heap.get_read g.heap n x

  pub get_property_rel : (x : List ℕ) → Maybe (PropRel (named W)) (get_property s.heap.objects a x) (get_property t.heap.objects b x)
  get_property_rel x = heap.property_read g.heap n x

  pub own_rel : (x : List ℕ) → Maybe (PropRel (named W)) (own_property (object_at s.heap.objects a).props x) (own_property (object_at t.heap.objects b).props x)
  own_rel x = heap.own_read g.heap n x

-- ---- what is done

pub tells_rel : {A : Type 0} {R : Relation A} {V : World} {f g : Store → A} → ((W : World) → Larger V W → (s t : Store) → StoreRel W s t → R W (f s) (g t)) → ActRel R V (tells f) (tells g)
tells_rel h = record { run = λ W l s t n g. ended W heap.larger_same (h W l s t g) g }

one_step : {W : World} {s t : Store} (n : ℕ) → StoreRel W s t → OutcomeRel (Equal {A = Unit {0}}) W (one_less s n) (one_less t n)
one_step zero g = stopped _ heap.larger_same g
one_step (suc n) g = ended _ heap.larger_same refl g

pub take_step_rel : {V : World} → ActRel (Equal {A = Unit {0}}) V take_step take_step
take_step_rel = record { run = λ W l s t n g. one_step n g }

pub stop_rel : {A : Type 0} {R : Relation A} {V : World} → ActRel R V stop stop
stop_rel = record { run = λ W l s t n g. stopped W heap.larger_same g }

-- one line more on both sides
pub line_added : (b : Before) (xs ys : List Line) (kind : LineKind) (x y : List ℕ) → AddedRel b xs ys → x ≡ y
    → AddedRel b (xs ++ record { kind = kind; text = x } ∷ []) (ys ++ record { kind = kind; text = y } ∷ [])
line_added b xs ys kind x y h e = record {
  more = h.more ++ record { kind = kind; text = x } ∷ [];
  one = ap (λ zs. zs ++ record { kind = kind; text = x } ∷ []) h.one ∙ append_assoc b.one h.more (record { kind = kind; text = x } ∷ []);
  two = ap (λ zs. zs ++ record { kind = kind; text = y } ∷ []) h.two ∙ append_assoc b.two h.more (record { kind = kind; text = y } ∷ [])
      ∙ ap (λ z. b.two ++ (h.more ++ record { kind = kind; text = z } ∷ [])) (sym e);
}

pub put_line_rel : {V : World} (kind : LineKind) {f g : Store → List ℕ} → ((W : World) → Larger V W → (s t : Store) → StoreRel W s t → f s ≡ g t) → ActRel (Equal {A = Unit {0}}) V (put_line kind f) (put_line kind g)
put_line_rel kind {f = f} {g = g} h = record {
  run = λ W l s t n r.
      ended W heap.larger_same refl (record { heap = r.heap; lines = line_added W.before s.lines t.lines kind (f s) (g t) r.lines (h W l s t r); host = r.host; built_ins = r.built_ins; shaped = shapes.lines_shaped s _ r.shaped; kept = kept_same r.kept refl (omega arith) (λ j m n. inl refl) });
}

-- a step of the left keeps the kinds of objects
kinds_kept : {W : World} {s t : Store} → StoreRel W s t → (step : Step) (j m : ℕ) → Named W j m → IsSameKind (object_at (after_step s.heap step).objects j).class (object_at s.heap.objects j).class
kinds_kept {s = s} g step j m n = (kinds_steps s.heap (step ∷ []) j (heap.there g.heap n).0).0

-- what is tried on both heaps leaves them in agreement, and throws the same
tried : {W : World} {s t : Store} {n : ℕ} {x y : Attempt Contents} → StoreRel W s t → AttemptRel (Agree W) x y → IsShaped (with_heap s x.after) → AreKept W (with_heap s x.after)
    → OutcomeRel (Equal {A = Option Throw}) W (Outcome.Ended x.thrown (with_heap s x.after) n) (Outcome.Ended y.thrown (with_heap t y.after) n)
tried g h shaped kept = ended _ heap.larger_same h.thrown (record { heap = h.after; lines = g.lines; host = g.host; built_ins = g.built_ins; shaped = shaped; kept = kept })

-- where something is kept on both sides, the same is thrown, and else both try
module _ {W : World} {s t : Store} (g : StoreRel W s t) where
  kept_or_tried : (e : Throw) (b c : Bool) {x y : Attempt Contents} → b ≡ c → AttemptRel (Agree W) x y
      → AttemptRel (Agree W) (if b then throws s.heap e else x) (if c then throws t.heap e else y)
  kept_or_tried e true true same h = record { after = g.heap; thrown = refl }
  kept_or_tried e false false same h = h
  kept_or_tried e true false same h = absurd (cc same)
  kept_or_tried e false true same h = absurd (cc same)

  rest_kept : (e : Throw) (b : Bool) (x : Attempt Contents) → AreKept W (with_heap s x.after) → AreKept W (with_heap s (if b then throws s.heap e else x).after)
  rest_kept e true x h = kept_same g.kept refl (omega arith) (λ j m n. inl refl)
  rest_kept e false x h = h

pub put_at_rel : {V : World} (a b : ObjId) (x : List ℕ) (v w : Value) → Named V a.0 b.0 → ValueRel (named V) v w → ActRel (Equal {A = Option Throw}) V (put_at a x v) (put_at b x w)
put_at_rel a b x v w n r = record {
  run = λ W l s t m g.
      let there = heap.named_up l n in
      tried g (kept_or_tried g CannotSet _ _ (is_kept_same g x (heap.class_read g.heap there)) (heap.put_tried g.heap there x (heap.value_up l r)))
      (shapes.step_shaped s (page.puts a x v) g.heap.left g.shaped (value_below g (heap.value_up l r)))
      (let rest = put_rest s.heap a.0 x v in rest_kept g CannotSet (is_kept s.host.nodes (class_at s a) x) (heaps.put s.heap a.0 x v) (kept_same g.kept rest.0 rest.1 (kinds_kept g (puts a.0 x v))));
}

pub define_at_rel : {V : World} (a b : ObjId) (x : List ℕ) (c d : Change) → Named V a.0 b.0 → ChangeRel (named V) c d → ActRel (Equal {A = Option Throw}) V (define_at a x c) (define_at b x d)
define_at_rel a b x c d n r = record {
  run = λ W l s t m g.
      let there = heap.named_up l n in
      tried g (kept_or_tried g CannotDefine _ _ (is_kept_same g x (heap.class_read g.heap there)) (heap.define_tried g.heap there x (heap.change_up l r)))
      (shapes.step_shaped s (page.defines a x c) g.heap.left g.shaped (some_below g (heap.change_up l r).value))
      (let rest = define_rest s.heap a.0 x c in rest_kept g CannotDefine (is_kept s.host.nodes (class_at s a) x) (heaps.define_own s.heap a.0 x c) (kept_same g.kept rest.0 rest.1 (kinds_kept g (defines a.0 x c))));
}

pub delete_at_rel : {V : World} (a b : ObjId) (x : List ℕ) → Named V a.0 b.0 → ActRel (Equal {A = Option Throw}) V (delete_at a x) (delete_at b x)
delete_at_rel a b x n = record {
  run = λ W l s t m g. tried g (heap.delete_tried g.heap (heap.named_up l n) x) (shapes.step_shaped s (page.in_heap (deletes a.0 x) refl) g.heap.left g.shaped tt)
      (let rest = delete_rest s.heap a.0 x in kept_same g.kept rest.0 rest.1 (kinds_kept g (deletes a.0 x)));
}

pub prevent_at_rel : {V : World} (a b : ObjId) → Named V a.0 b.0 → ActRel (Equal {A = Option Throw}) V (prevent_at a) (prevent_at b)
prevent_at_rel a b n = record {
  run = λ W l s t m g. tried g (heap.prevent_tried g.heap (heap.named_up l n)) (shapes.step_shaped s (page.in_heap (prevents a.0) refl) g.heap.left g.shaped tt)
      (let rest = prevent_rest s.heap a.0 in kept_same g.kept rest.0 rest.1 (kinds_kept g (prevents a.0)));
}

-- new objects
target_rel : {V : World} {c d : Class} → ClassRel (named V) c d → Maybe (ObjectIds (named V)) (target_of c) (target_of d)
target_rel (bound h v vs) = some (record { linked = h })
target_rel plain = none
target_rel array = none
target_rel (page h) = none
target_rel native = none
target_rel fault = none
target_rel math = none
target_rel window = none
target_rel (node h) = none
target_rel (event h) = none

-- in two pages that agree
pub made_now : {W : World} {s t : Store} (n : ℕ) → StoreRel W s t → (o p : Object) (f : IsFit o) (g : IsFit p) (i : is_made o.class ≡ true) (j : is_made p.class ≡ true) → ObjectRel (named W) o p
    → o.closed ≡ false → is_page o.class ≡ false → HasShape s o o.class → OutcomeRel Ids W ((make o f i).run s n) ((make p g j).run t n)
made_now {W = W} {s = s} {t = t} n h o p f g made _ r not_closed other shape =
    let i = length s.heap.objects in
    let j = length t.heap.objects in
    let up = heap.larger_object {W = W} i j in
    ended (with_object W i j) up (heap.named_object i j) (record {
      heap = heap.objects_made W s.heap t.heap o p h.heap f g (heap.object_up up r) r.proto (target_rel r.class);
      lines = h.lines;
      host = host_up up refl h.host;
      built_ins = λ k small. heap.named_up up (h.built_ins k small);
      shaped = shapes.step_shaped s (page.in_heap (makes o f) made) h.heap.left h.shaped (object_new h o p r not_closed shape);
      kept = kept_other h.kept j o other (λ c d n. (h.heap.objects.inside c d n).0);
    })

-- an object that has its shape in whichever page it is made
pub make_rel : {V : World} (o p : Object) (f : IsFit o) (g : IsFit p) (i : is_made o.class ≡ true) (j : is_made p.class ≡ true) → ObjectRel (named V) o p → o.closed ≡ false → is_page o.class ≡ false
    → ((W : World) → Larger V W → (s t : Store) → StoreRel W s t → HasShape s o o.class) → ActRel Ids V (make o f i) (make p g j)
make_rel o p f g i j r not_closed other shape = record { run = λ W l s t m h. made_now m h o p f g i j (heap.object_up l r) not_closed other (shape W l s t h) }
