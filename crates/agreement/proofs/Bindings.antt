-- What a name stands for round a page's function is named as the function is, where no function was rebuilt (section 10.2.2.1).
use Rattle.std.proofs.Common.{◌≡◌, refl, ap, subst, ℕ, false, List, [], ◌∷◌, drop, Option, Some}
use Rattle.std.specs.Prelude.{unwrap_or}
use Rattle.js_core.specs.Tree as tree
use Rattle.js_values.specs.declared.ids.EnvId.{EnvId}
use Rattle.js_values.specs.declared.value.Value.{Value}
use Rattle.object_heap.specs.Chain.{object_at}
use Rattle.object_heap.specs.Heap.{Contents, look_in}
use Rattle.object_heap.specs.Object.{Object}
use Rattle.object_heap.specs.declared.object.Class.{Class}
use Rattle.object_heap.specs.declared.object.Class.TheVariants as class
use Rattle.object_heap.specs.declared.property.Prop.{Prop}
use Rattle.object_shapes.specs.Links.{value_links}
use Rattle.page_meaning.specs.Store.{Store}
use Rattle.heap_relations.proofs.Callers as heap
use Rattle.heap_relations.specs.Naming as naming
use Rattle.heap_relations.specs.Naming.{Agree, Base, FoundRel, Frame, In, Kept, NameRel, Named, Nowhere, Place, Round, Slot, World, absent, based, captured, constant, copied, free, inside, is_captured, is_copied, is_free, is_reserved, is_sealed, is_unused, named, nowhere as unbound, outermost, resolve}
use Rattle.heap_relations.specs.Related.{ClassRel, ValueRel, array, bound, event, fault, math, native, node, page, plain, window}
use Rattle.agreement.specs.Acts.{StoreRel}
use Rattle.agreement.proofs.Reading.{each_with_itself, value_links_rel}

-- ---- frames

module _ {W : World} {h g : Contents} (r : Agree W h g) (none_rebuilt : W.bases ≡ []) (opens : W.opens ≡ false) where
  none_in : {b : Base} → In b [] → ⊥
  none_in i = elim i [ ]

  no_base : (b : Base) → In b W.bases → ⊥
  no_base b i = none_in (subst (In b) none_rebuilt i)

  own : (x : List ℕ) → is_reserved W.opens x ≡ false
  own x = ap (λ o. is_reserved o x) opens

  -- where no function was rebuilt, code has each name
  never_nowhere : (fs frames : List Frame) {e f : Option EnvId} (x : List ℕ) → frames ≡ fs → Round W frames e f → resolve frames x ≡ Nowhere → ⊥
  never_nowhere fs _ x is outermost none = absurd (cc none)
  never_nowhere fs _ x is (based b i) none = no_base b i
  never_nowhere [] _ x is (inside s i) none = absurd (cc is)
  never_nowhere (f ∷ fs) _ x is (inside s i) none =
      by ((r.slots.at s i).names x (own x)) (never_nowhere fs s.round x (ap (drop 1) is) (r.slots.at s i).outer) none
    where
      by : {k : Kept} {a b : Option Value} {p : Option Prop} → NameRel (named W) s.frame.scoped (s.known x) k a b p → (resolve s.round x ≡ Nowhere → ⊥)
          → naming.resolved k s.frame.number (resolve s.round x) ≡ Nowhere → ⊥
      by absent later e = later e
      by (free v) later e = absurd (cc e)
      by (captured scoped v may shown fixed) later e = absurd (cc e)
      by (constant v) later e = absurd (cc e)
      by (naming.held v) later e = absurd (cc e)
      by (copied scoped v) later e = absurd (cc e)

  -- ---- values

  same_value : (f : EnvId × Value) (d e : EnvId) (v w : Value) → ValueRel (named W) v w → Some (d, v) ≡ Some f → Some (e, w) ≡ Some f
      → ValueRel (named W) f.1 f.1
  same_value f d e v w m a b =
      let one : v ≡ f.1 = ap (λ o. (unwrap_or o f).1) a in
      let two : w ≡ f.1 = ap (λ o. (unwrap_or o f).1) b in
      subst (λ z. ValueRel (named W) z f.1) one (subst (ValueRel (named W) v) two m)

  found_value : {ps : List Object} {look : List ℕ → Option (EnvId × Value)} {x : List ℕ} {q : Place} {o p : Option (EnvId × Value)} (f : EnvId × Value)
      → FoundRel W ps look x q o p → (q ≡ Nowhere → ⊥) → o ≡ Some f → p ≡ Some f → ValueRel (named W) f.1 f.1
  found_value f unbound never a b = absurd (cc a)
  found_value f (is_free {v = v} {w = w} s i kept m) never a b = same_value f _ _ v w m a b
  found_value f (is_captured s i kept some _ look held m) never a b = absurd (cc (opens, some))
  found_value f (is_copied s some _ look held m) never a b = absurd (cc (opens, some))
  found_value f (is_sealed {v = v} {w = w} m) never a b = same_value f _ _ v w m a b
  found_value f is_unused never a b = absurd (never refl)

-- ---- functions

-- a function stands in the same environments on both sides
record Standing (W : World) (env : Option EnvId) : Type 0 where
  frames : List Frame
  round : Round W frames env env

standing : {W : World} {d e : Class} {c : tree.Code} {env : Option EnvId} → ClassRel (named W) d e → d ≡ class.Page c env → e ≡ class.Page c env
    → Standing W env
standing plain is same = absurd (cc is)
standing array is same = absurd (cc is)
standing {W = W} {env = env} (page {e = e} {f = f} h) is same =
    let one : e ≡ env = cc is in
    let two : f ≡ env = cc same in
    record { frames = h.frames; round = subst (λ x. Round W h.frames x env) one (subst (Round W h.frames e) two h.round) }
standing native is same = absurd (cc is)
standing (bound n v vs) is same = absurd (cc is)
standing fault is same = absurd (cc is)
standing math is same = absurd (cc is)
standing window is same = absurd (cc is)
standing (node n) is same = absurd (cc is)
standing (event p) is same = absurd (cc is)

-- what a name stands for round a function that names itself names itself
pub bound_read : {W : World} {s : Store} {k : ℕ} {c : tree.Code} {env : Option EnvId} → StoreRel W s s → W.opens ≡ false → W.bases ≡ [] → Named W k k
    → (object_at s.heap.objects k).class ≡ class.Page c env → (x : List ℕ) (found : EnvId × Value) → look_in s.heap.environments env x ≡ Some found
    → (j : ℕ) → In j (value_links found.1) → Named W j j
bound_read {W = W} {s = s} g closed none_rebuilt n is x found at j i =
    let h = standing (heap.class_read g.heap n) is is in
    let own : is_reserved W.opens x ≡ false = ap (λ o. is_reserved o x) closed in
    let never = never_nowhere g.heap none_rebuilt closed h.frames h.frames x refl h.round in
    let value = found_value g.heap none_rebuilt closed found (heap.name_found g.heap x h.round own) never at at in
    each_with_itself (value_links found.1) j (value_links_rel value) i
