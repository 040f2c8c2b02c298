-- The laws.
use Rattle.object_heap.proofs.Callers.{sound_empty}
use Rattle.std.proofs.Common.{◌≡◌, ap, false, refl, subst, sym, ℕ, List, [], Option}
use Rattle.js_values.specs.declared.value.Value.{Value}
use Rattle.object_heap.specs.declared.property.Prop.{Prop}
use Rattle.object_heap.specs.Chain.{object_at}
use Rattle.object_heap.specs.Environment.{value_of, environment_at}
use Rattle.object_heap.specs.Heap.{Contents, empty}
use Rattle.object_heap.specs.Property.{own_property}
use Rattle.heap_relations.specs.Laws.{MadeAgree, OthersDoNotCount, JoinsAgree, EnvironmentsAgree, NewObjectsAgree, ObjectsAgree, RelatedStay, SameAgree}
use Rattle.heap_relations.specs.Naming as naming
use Rattle.heap_relations.specs.Naming.{CapturedRel, here, there, constant, copied, inside, absent, Agree, captured, Captured, free, In, is_reserved, Kept, named, NameRel, Slot, World, BothRel, Constant, Free, Larger, Pair, Sealed, with_done}
use Rattle.heap_relations.proofs.Captured.{get_own, set_captured_agrees}
use Rattle.heap_relations.proofs.Chains.{can_put_same, get_property_rel, get_rel}
use Rattle.heap_relations.proofs.Define.{own_rel, same_value_same}
use Rattle.heap_relations.proofs.Entry.{longer_slots}
use Rattle.heap_relations.proofs.Lists.{keys_same}
use Rattle.heap_relations.proofs.Map.{objects_join, objects_turn, object_up, value_up}
use Rattle.heap_relations.proofs.Names.{found_rel}
use Rattle.heap_relations.proofs.Objects.{add_agrees, dispatch_agrees, made_agrees, longer_objects, longer_scopes, close_agrees, define_own_agrees, delete_agrees, event_agrees, new_object_agrees, prevent_agrees, put_agrees}
use Rattle.heap_relations.proofs.Scopes.{is_set, set_agrees}
use Rattle.heap_relations.proofs.Worlds.{base_up, grows, slot_up}

pub objects : ObjectsAgree
objects W h g k l r i = (
  record {
    object = r.objects.at k l i;
    get_property = λ name. get_property_rel r.objects r.left.prototypes r.right.prototypes k l name i;
    get = λ name. get_rel r.objects r.left.prototypes r.right.prototypes k l name i;
    own = λ name. own_rel name (r.objects.at k l i).props;
    keys = keys_same (r.objects.at k l i).props;
    can_put = λ name. can_put_same r.objects r.left.prototypes r.right.prototypes k l name i;
  },
  record {
    put = λ name v w q. put_agrees r i name q;
    define_own = λ name c d q. define_own_agrees r i name q;
    delete = λ name. delete_agrees r i name;
    prevent = prevent_agrees r i;
    add = λ name p q m. add_agrees r i name m;
    close = close_agrees r i;
    event = λ p q e. event_agrees r i e;
    dispatch = λ sent t u c d phase x y. dispatch_agrees r i sent phase x y;
  },
)

pub same : SameAgree
same W h g v w x y r a b = same_value_same r.objects.one_to_one a b

pub new_objects : NewObjectsAgree
new_objects W h g c d p q r a b = new_object_agrees r a b

pub made_kept : MadeAgree
made_kept W h g o p r fit fit' m a b = made_agrees r fit fit' m a b

pub stay : RelatedStay
stay V W l = (λ v w h. value_up (grows l) v w h, λ o p h. object_up (grows l) o p h)

pub others : OthersDoNotCount
others W h g i j r a b c d left right = record {
  objects = longer_objects a b r.objects;
  slots = longer_scopes b (longer_slots c d r.left.environments r.right.environments r.slots);
  left = left;
  right = right;
}

pub joins : JoinsAgree
joins V W os ps qs h k = (objects_join h k, objects_turn h)

pub read : {W : World} {h g : Contents} (s : Slot) (x : List ℕ) → In s W.slots → is_reserved W.opens x ≡ false → Agree W h g → s.frame.keeps x ≡ Captured → CapturedRel W h g s x
read {W = W} {h = h} {g = g} s x i own r kept = by_case kept refl refl ((r.slots.at s i).names x own)
  where
    by_case : {c : Kept} {a b : Option Value} {o : Option Prop} → c ≡ Captured → value_of (environment_at h.environments s.one).names x ≡ a → own_property (object_at g.objects s.place).props x ≡ o
        → NameRel (named W) s.frame.scoped (s.known x) c a b o → CapturedRel W h g s x
    by_case c d held absent = absurd (cc)
    by_case c d held (free m) = absurd (cc)
    by_case c d held (constant m) = absurd (cc)
    by_case c d held (naming.held m) = absurd (cc)
    by_case c d held (copied q m) = absurd (cc)
    by_case c d held (captured {v = v} {p = p} scoped m may shown fixed) =
        record { left = v; prop = p; one = d; own = held; two = get_own g.objects s.place x p held; same = m; plain = ((r.slots.at s i).plain scoped).1 }

pub both : {W : World} {h g : Contents} (s : Slot) (x : List ℕ) → In s W.slots → is_reserved W.opens x ≡ false → Agree W h g → s.frame.keeps x ≡ Free → BothRel W h g s x
both {W = W} {h = h} {g = g} s x i own r keeps = by_case keeps refl refl ((r.slots.at s i).names x own)
  where
    by_case : {c : Kept} {a b : Option Value} {o : Option Prop} → c ≡ Free → value_of (environment_at h.environments s.one).names x ≡ a → value_of (environment_at g.environments s.two).names x ≡ b
        → NameRel (named W) s.frame.scoped (s.known x) c a b o → BothRel W h g s x
    by_case c d e absent = absurd (cc)
    by_case c d e (free m) = record { left = _; right = _; one = d; two = e; same = m }
    by_case c d e (constant m) = absurd (cc)
    by_case c d e (naming.held m) = absurd (cc)
    by_case c d e (copied q m) = absurd (cc)
    by_case c d e (captured q m n o p) = absurd (cc)

pub sealed_both : {W : World} {h g : Contents} (s : Slot) (x : List ℕ) → In s W.slots → is_reserved W.opens x ≡ false → Agree W h g → s.frame.keeps x ≡ Sealed
    → (b : BothRel W h g s x) × (b.left ≡ s.known x)
sealed_both {W = W} {h = h} {g = g} s x i own r keeps = by_case keeps refl refl ((r.slots.at s i).names x own)
  where
    by_case : {c : Kept} {a b : Option Value} {o : Option Prop} → c ≡ Sealed → value_of (environment_at h.environments s.one).names x ≡ a → value_of (environment_at g.environments s.two).names x ≡ b
        → NameRel (named W) s.frame.scoped (s.known x) c a b o → (b : BothRel W h g s x) × (b.left ≡ s.known x)
    by_case c d e absent = absurd (cc)
    by_case c d e (free m) = absurd (cc)
    by_case c d e (naming.held m) = absurd (cc)
    by_case c d e (constant m) = (record { left = _; right = _; one = d; two = e; same = m }, refl)
    by_case c d e (copied q m) = absurd (cc)
    by_case c d e (captured q m n o p) = absurd (cc)

pub constant_both : {W : World} {h g : Contents} (s : Slot) (x : List ℕ) → In s W.slots → is_reserved W.opens x ≡ false → Agree W h g → s.frame.keeps x ≡ Constant → BothRel W h g s x
constant_both {W = W} {h = h} {g = g} s x i own r keeps = by_case keeps refl refl ((r.slots.at s i).names x own)
  where
    by_case : {c : Kept} {a b : Option Value} {o : Option Prop} → c ≡ Constant → value_of (environment_at h.environments s.one).names x ≡ a → value_of (environment_at g.environments s.two).names x ≡ b
        → NameRel (named W) s.frame.scoped (s.known x) c a b o → BothRel W h g s x
    by_case c d e absent = absurd (cc)
    by_case c d e (free m) = absurd (cc)
    by_case c d e (naming.held m) = record { left = _; right = _; one = d; two = e; same = m }
    by_case c d e (constant m) = absurd (cc)
    by_case c d e (copied q m) = absurd (cc)
    by_case c d e (captured q m n o p) = absurd (cc)

-- ---- what is said of the left alone

pub done_more : {W : World} (k : ℕ) → Larger W (with_done W k)
done_more k = record { opens = refl; objects = λ p h. h; nodes = λ p h. h; opened = refl; fits = refl; before = refl; slots = λ t h. h; done = λ j h. there h; bases = refl }

-- what is named does not depend on it
pub with_same : {V W : World} {h g : Contents} → Larger V W → V.objects ≡ W.objects → V.slots ≡ W.slots → Agree V h g → Agree W h g
with_same {V = V} {W = W} l objects slots r =
    let named_in : (p : Pair) → In p W.objects → In p V.objects = λ p i. subst (In p) (sym objects) i in
    let slot_in : (s : Slot) → In s W.slots → In s V.slots = λ s i. subst (In s) (sym slots) i in
    let n = r.objects in
    let k = r.slots in
    record {
      objects = record {
        at = λ a b i. object_up (grows l) _ _ (n.at a b (record { named = named_in _ i.named }));
        inside = λ a b i. n.inside a b (record { named = named_in _ i.named });
        one_to_one = record { same = λ a b c d i j. n.one_to_one.same a b c d (record { named = named_in _ i.named }) (record { named = named_in _ j.named }) };
      };
      slots = record {
        at = λ s i. slot_up l (k.at s (slot_in s i));
        inside = λ s i. k.inside s (slot_in s i);
        scope_inside = λ s i. k.scope_inside s (slot_in s i);
        one_to_one = λ s t i j. k.one_to_one s t (slot_in s i) (slot_in t j);
        one_slot = λ s t i j. k.one_slot s t (slot_in s i) (slot_in t j);
        one_scope = λ s t i j. k.one_scope s t (slot_in s i) (slot_in t j);
        apart = λ s i e p j. k.apart s (slot_in s i) e p (named_in p j);
        bases = λ b i.
            let z = k.bases b (subst (In b) (sym l.bases) i) in
            base_up l (λ s j. z.one_apart s (slot_in s j)) (λ s j. z.two_apart s (slot_in s j)) z;
      };
      left = r.left;
      right = r.right;
    }

pub names : EnvironmentsAgree
names W h g s x r i own = record {
  found = found_rel r.slots r.left.environments r.right.environments x (inside s i) own;
  read = λ kept. read s x i own r kept;
  assign = λ kept v w q. set_agrees s x i (ap is_set kept) own q r;
  set_constant = λ kept v w q. set_agrees s x i (ap is_set kept) own q r;
  assign_captured = λ kept v w q. set_captured_agrees s x i kept own q r;
}

no_one : {A : Type 0} {x : A} {l : List A} → l ≡ [] → In x l → ⊥
no_one e here = cc e
no_one e (there i) = cc e

-- two heaps in which nothing is named yet
pub nothing_named : (W : World) → W.objects ≡ [] → W.slots ≡ [] → W.bases ≡ [] → Agree W empty empty
nothing_named W objects slots bases = record {
  objects = record {
    at = λ a b i. absurd (no_one objects i.named);
    inside = λ a b i. absurd (no_one objects i.named);
    one_to_one = record { same = λ a b c d i j. absurd (no_one objects i.named) };
  };
  slots = record {
    at = λ s i. absurd (no_one slots i);
    inside = λ s i. absurd (no_one slots i);
    scope_inside = λ s i e. absurd (no_one slots i);
    one_to_one = λ s t i j. absurd (no_one slots i);
    one_slot = λ s t i j e. absurd (no_one slots i);
    one_scope = λ s t i j e f d. absurd (no_one slots i);
    apart = λ s i e p j. absurd (no_one slots i);
    bases = λ b i. absurd (no_one bases i);
  };
  left = sound_empty;
  right = sound_empty;
}
