-- What a naming tells of an object: a page's function fits its frames, and what an object refers to is named as the object is.
use Rattle.std.proofs.Common.{◌≡◌, subst, ℕ, true, List, [], ◌∷◌, Option}
use Rattle.js_core.specs.Tree as tree
use Rattle.js_values.specs.declared.ids.EnvId.{EnvId}
use Rattle.js_values.specs.declared.ids.ObjId.{ObjId}
use Rattle.js_values.specs.declared.value.Value.{Value}
use Rattle.object_heap.specs.Chain.{object_at}
use Rattle.object_heap.specs.Object.{Object}
use Rattle.object_heap.specs.Property.{Props}
use Rattle.object_heap.specs.declared.object.Class.{Class}
use Rattle.object_heap.specs.declared.object.Class.TheVariants as class
use Rattle.object_shapes.specs.Links.{event_links, object_links, parts_links, props_links, proto_links, value_links, values_links}
use Rattle.page_meaning.specs.Store.{Store}
use Rattle.heap_relations.proofs.Callers as heap
use Rattle.heap_relations.specs.Naming.{Frame, In, Named, named, Round, World, here, there}
use Rattle.heap_relations.specs.Related.{ClassRel, Each, Entries, Maybe, ObjectIds, ObjectRel, PropRel, ValueRel, array, bound, each, entry, event, fault, math, native, no_entries, no_more, node, none, null, num, object, page, plain, some, text, truth, undefined, window}
use Rattle.agreement.specs.Acts.{StoreRel}

-- ---- functions

-- a function fits its frames, and stands in them
pub record Fitting (W : World) (c : tree.Code) (env : Option EnvId) : Type 0 where
  pub frames : List Frame
  pub number : ℕ
  pub fits : W.fits number frames c ≡ true
  pub others : Option EnvId
  pub round : Round W frames env others

function_fits : {W : World} {d e : Class} {c : tree.Code} {env : Option EnvId} → ClassRel (named W) d e → d ≡ class.Page c env → Fitting W c env
function_fits plain is = absurd (cc is)
function_fits array is = absurd (cc is)
function_fits {W = W} {c = c} {env = env} (page {c = k} {e = e} {f = f} h) is =
    let same : k ≡ c = cc is in
    let there : e ≡ env = cc is in
    record {
      frames = h.frames;
      number = h.number;
      fits = subst (λ x. W.fits h.number h.frames x ≡ true) same h.fits;
      others = f;
      round = subst (λ x. Round W h.frames x f) there h.round;
    }
function_fits native is = absurd (cc is)
function_fits (bound n v vs) is = absurd (cc is)
function_fits fault is = absurd (cc is)
function_fits math is = absurd (cc is)
function_fits window is = absurd (cc is)
function_fits (node n) is = absurd (cc is)
function_fits (event p) is = absurd (cc is)

-- so does a page's function that is named
pub function_read : {W : World} {s t : Store} {k l : ℕ} {c : tree.Code} {env : Option EnvId} → StoreRel W s t → Named W k l
    → (object_at s.heap.objects k).class ≡ class.Page c env → Fitting W c env
function_read g n is = function_fits (heap.class_read g.heap n) is

-- ---- links

module _ {W : World} where
  pub value_links_rel : {v w : Value} → ValueRel (named W) v w → Each (Named W) (value_links v) (value_links w)
  value_links_rel undefined = no_more
  value_links_rel null = no_more
  value_links_rel truth = no_more
  value_links_rel num = no_more
  value_links_rel text = no_more
  value_links_rel (object n) = each n no_more

  values_links_rel : {vs ws : List Value} → Each (ValueRel (named W)) vs ws → Each (Named W) (values_links vs) (values_links ws)
  values_links_rel no_more = no_more
  values_links_rel (each h r) = heap.each_append (value_links_rel h) (values_links_rel r)

  props_links_rel : {ps qs : Props} → Entries (PropRel (named W)) ps qs → Each (Named W) (props_links ps) (props_links qs)
  props_links_rel no_entries = no_more
  props_links_rel (entry h r) = heap.each_append (value_links_rel h.value) (props_links_rel r)

  proto_links_rel : {o p : Option ObjId} → Maybe (ObjectIds (named W)) o p → Each (Named W) (proto_links o) (proto_links p)
  proto_links_rel none = no_more
  proto_links_rel (some h) = each h.linked no_more

  parts_links_rel : {c d : Class} → ClassRel (named W) c d → Each (Named W) (parts_links c) (parts_links d)
  parts_links_rel plain = no_more
  parts_links_rel array = no_more
  parts_links_rel (page h) = no_more
  parts_links_rel native = no_more
  parts_links_rel (bound n h hs) = each n (heap.each_append (value_links_rel h) (values_links_rel hs))
  parts_links_rel fault = no_more
  parts_links_rel math = no_more
  parts_links_rel window = no_more
  parts_links_rel (node n) = no_more
  parts_links_rel (event p) = no_more

  event_links_rel : {c d : Class} → ClassRel (named W) c d → Each (Named W) (event_links c) (event_links d)
  event_links_rel plain = no_more
  event_links_rel array = no_more
  event_links_rel (page h) = no_more
  event_links_rel native = no_more
  event_links_rel (bound n h hs) = no_more
  event_links_rel fault = no_more
  event_links_rel math = no_more
  event_links_rel window = no_more
  event_links_rel (node n) = no_more
  event_links_rel (event p) = heap.each_append (proto_links_rel p.target) (proto_links_rel p.current)

  -- what two objects refer to is named place by place
  pub object_links_rel : {o p : Object} → ObjectRel (named W) o p → Each (Named W) (object_links o) (object_links p)
  object_links_rel h = heap.each_append (heap.each_append (proto_links_rel h.proto) (parts_links_rel h.class)) (heap.each_append (event_links_rel h.class) (props_links_rel h.props))

-- each that stands on both sides is related to itself
each_head : {R : ℕ → ℕ → Type 0} {a b : ℕ} {xs ys : List ℕ} → Each R (a ∷ xs) (b ∷ ys) → R a b
each_head (each h hs) = h

each_tail : {R : ℕ → ℕ → Type 0} {a b : ℕ} {xs ys : List ℕ} → Each R (a ∷ xs) (b ∷ ys) → Each R xs ys
each_tail (each h hs) = hs

pub each_with_itself : {R : ℕ → ℕ → Type 0} (ks : List ℕ) (j : ℕ) → Each R ks ks → In j ks → R j j
each_with_itself [] j r i = elim i [ ]
each_with_itself (k ∷ ks) _ r here = each_head r
each_with_itself (k ∷ ks) j r (there i) = each_with_itself ks j (each_tail r) i

-- what an object that names itself refers to names itself
pub linked_read : {W : World} {s : Store} {k : ℕ} → StoreRel W s s → Named W k k → (j : ℕ) → In j (object_links (object_at s.heap.objects k))
    → Named W j j
linked_read {s = s} {k = k} g n j i =
    each_with_itself (object_links (object_at s.heap.objects k)) j (object_links_rel (heap.object_read g.heap n)) i
