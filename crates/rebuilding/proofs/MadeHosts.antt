-- What a maker does to the host: nothing, or it adds one node, which is alone, with the object that is made.
use Rattle.std.proofs.Common.{◌≡◌, refl, sym, ap, subst, ◌∙◌, ℕ, ◌<◌, Bool, true, false, not, List, [], ◌∷◌, Option, None, length, length-append, arith, if◌then◌else◌}
use Rattle.std.proofs.lemmas.Bool.{and_from}
use Rattle.std.proofs.lemmas.List.{get_or_append_left, get_or_push}
use Rattle.dom_tree.specs.Content.{new_content}
use Rattle.dom_tree.specs.Node.{is_document, kind_at, no_node, node_at, with_new}
use Rattle.dom_tree.specs.Sound.{has_folded_name}
use Rattle.dom_tree.specs.declared.content.Kind.{Kind}
use Rattle.dom_tree.specs.declared.content.Kind.TheVariants as content
use Rattle.js_values.specs.declared.ids.ObjId.{ObjId}
use Rattle.object_heap.specs.Environment.{Environment}
use Rattle.object_heap.specs.Heap.{Contents}
use Rattle.object_heap.specs.Object.{Object}
use Rattle.object_heap.specs.declared.object.Class.{Class}
use Rattle.object_heap.specs.declared.object.Class.TheVariants as class
use Rattle.page_host.specs.Host.{Host, no_object, with_node}
use Rattle.page_host.specs.Steps.{may_be_made, with_new_node}
use Rattle.page_meaning.specs.Places.{at_place}
use Rattle.page_meaning.specs.Store.{Store}
use Rattle.page_writer.specs.Frame.{bare_node, nth_node}
use Rattle.rebuild_plan.specs.Compact.{maker_as}
use Rattle.rebuild_plan.specs.Nodes.{node_maker}
use Rattle.rebuild_plan.specs.declared.statement.Maker.{Maker}
use Rattle.rebuild_plan.specs.declared.statement.Maker.TheVariants as made
use Rattle.rebuilding.specs.Rebuilt.{ClassIsRebuilt, bound, event, fault, list, node, page, plain}
use Rattle.rebuilding.specs.Running.{IsMade, made_host, next_node, node_of_class}
use Rattle.rebuilding.specs.Scene.{IsCleared, IsHosting, Scene}
use Rattle.rebuilding.proofs.Fresh.{IsNamed}
use Rattle.rebuilding.proofs.OwnObjects.{HasOwn, node_same}
use Rattle.rebuilding.proofs.Stages.{MadeHost}

-- ---- a host and one that may have a node more

pub data Joined (g w : Host) (place : ℕ) : Type 0 where
  same : w ≡ g → Joined g w place
  more : (k : Kind) → w ≡ with_node g (with_new g.nodes (new_content k)) (at_place place) → Joined g w place

maybe_joined : (g : Host) (k : Kind) (place : ℕ) → Joined g (with_new_node g k (at_place place)) place
maybe_joined g k place = by (may_be_made k)
  where
    by : (b : Bool) → Joined g (if b then with_node g (with_new g.nodes (new_content k)) (at_place place) else g) place
    by true = more k refl
    by false = same refl

pub made_joined : (g : Host) (m : Maker) (place : ℕ) → Joined g (made_host g m place) place
made_joined g (made.Plain proto) place = same refl
made_joined g made.List place = same refl
made_joined g (made.Fault kind) place = same refl
made_joined g (made.Func body needs) place = same refl
made_joined g (made.Bind target this args) place = same refl
made_joined g (made.Element x) place = maybe_joined g (content.Element x) place
made_joined g (made.Text x) place = maybe_joined g (content.Text x) place
made_joined g (made.Comment x) place = maybe_joined g (content.Comment x) place
made_joined g made.Event place = same refl

module _ (g w : Host) (place : ℕ) where
  node_stays : Joined g w place → (k : ℕ) → k < length g.nodes → node_at w.nodes k ≡ node_at g.nodes k
  node_stays (same e) k low = ap (λ (v : Host). node_at v.nodes k) e
  node_stays (more kind e) k low = ap (λ (v : Host). node_at v.nodes k) e ∙ get_or_append_left g.nodes _ no_node k low

  pub own_joined : Joined g w place → (k at : ℕ) → length g.objects ≡ length g.nodes → HasOwn g k at → HasOwn w k at
  own_joined (same e) k at long has = subst (λ v. HasOwn v k at) (sym e) has
  own_joined (more kind e) k at long has =
      subst (λ v. HasOwn v k at) (sym e) (
        omega (arith, has.0, length-append g.nodes (bare_node kind None [] ∷ [])),
        get_or_append_left g.objects (at_place place ∷ []) no_object k (omega (arith, has.0, long)) ∙ has.1,
      )

  listeners_same : Joined g w place → w.listeners ≡ g.listeners
  listeners_same (same e) = ap (λ (v : Host). v.listeners) e
  listeners_same (more kind e) = ap (λ (v : Host). v.listeners) e

  timers_same : Joined g w place → w.timers ≡ g.timers
  timers_same (same e) = ap (λ (v : Host). v.timers) e
  timers_same (more kind e) = ap (λ (v : Host). v.timers) e

pub joined_cleared : (h i : Contents) (g w : Host) (place : ℕ) → Joined g w place → IsHosting i w → 0 < length g.nodes → IsCleared h g → IsCleared i w
joined_cleared h i g w place joined hosting there cleared = record {
  hosting = hosting;
  alone = node_stays g w place joined 0 there ∙ cleared.alone;
  listeners = listeners_same g w place joined ∙ cleared.listeners;
  timers = timers_same g w place joined ∙ cleared.timers;
}

-- what was made before is as it was
pub host_stays : {c : Scene} {es : List Environment} {things sites : List ℕ} {j : ℕ} (s : Store) (g w : Host) (place : ℕ) → Joined g w place → (a d : Class)
    → ClassIsRebuilt c es s things sites j a d → ((k : ℕ) → d ≡ class.Node (nth_node k) → k < length g.nodes) → MadeHost s g a d → MadeHost s w a d
host_stays s g w place joined _ _ (node {b = b}) low was = node_stays g w place joined b.0 (low b.0 refl) ∙ was
host_stays s g w place joined _ _ event low was = was
host_stays s g w place joined _ _ plain low was = was
host_stays s g w place joined _ _ list low was = was
host_stays s g w place joined _ _ fault low was = was
host_stays s g w place joined _ _ (page round) low was = was
host_stays s g w place joined _ _ bound low was = was

-- ---- the new node

module _ (g : Host) (k : Kind) (place : ℕ) (other : is_document k ≡ false) (named : has_folded_name k ≡ true) where
  new_host : with_new_node g k (at_place place) ≡ with_node g (with_new g.nodes (new_content k)) (at_place place)
  new_host =
      ap (λ b. if b then with_node g (with_new g.nodes (new_content k)) (at_place place) else g)
      (and_from (has_folded_name k) (not (is_document k)) named (ap not other))

  last_node : (o : Object) → o ≡ next_node g → node_at (with_new_node g k (at_place place)).nodes (node_of_class o.class).0 ≡ bare_node k None []
  last_node o is =
      ap (λ (v : Host). node_at v.nodes (node_of_class o.class).0) new_host
      ∙ ap (λ (p : Object). node_at (with_new g.nodes (new_content k)) (node_of_class p.class).0) is
      ∙ get_or_push g.nodes (bare_node k None []) no_node (length g.nodes) refl

  last_own : (o : Object) (j : ℕ) → length g.objects ≡ length g.nodes → o ≡ next_node g → o.class ≡ class.Node (nth_node j)
      → HasOwn (with_new_node g k (at_place place)) j place
  last_own o j long is on =
      let last : length g.nodes ≡ j = node_same (sym (ap (λ (p : Object). p.class) is) ∙ on) in
      subst (λ v. HasOwn v j place) (sym new_host) (
        omega (arith, last, length-append g.nodes (bare_node k None [] ∷ [])),
        get_or_push g.objects (at_place place) no_object j (omega (arith, last, long)),
      )

module _ (c : Scene) (s : Store) (things : List ℕ) (g : Host) (h i : Contents) (sites : List ℕ) (place : ℕ) (proto : Option ObjId) where
  node_host : (k : Kind) (o : Object) → is_document k ≡ false → has_folded_name k ≡ true → IsMade c h g i sites place (node_maker things proto k) o
      → node_at (made_host g (node_maker things proto k) place).nodes (node_of_class o.class).0 ≡ bare_node k None []
  node_host content.Document o other named is = cc other
  node_host (content.Element x) o other named is = last_node g (content.Element x) place other named o is
  node_host (content.Text x) o other named is = last_node g (content.Text x) place other named o is
  node_host (content.Comment x) o other named is = last_node g (content.Comment x) place other named o is

  node_own : (k : Kind) (o : Object) (j : ℕ) → length g.objects ≡ length g.nodes → is_document k ≡ false → has_folded_name k ≡ true
      → IsMade c h g i sites place (node_maker things proto k) o → o.class ≡ class.Node (nth_node j) → HasOwn (made_host g (node_maker things proto k) place) j place
  node_own content.Document o j long other named is on = cc other
  node_own (content.Element x) o j long other named is on = last_own g (content.Element x) place other named o j long is on
  node_own (content.Text x) o j long other named is on = last_own g (content.Text x) place other named o j long is on
  node_own (content.Comment x) o j long other named is on = last_own g (content.Comment x) place other named o j long is on

  pub host_made : (a : Class) (o : Object) → IsNamed s a → IsMade c h g i sites place (maker_as s things proto a) o
      → MadeHost s (made_host g (maker_as s things proto a) place) a o.class
  host_made (class.Node m) o named is = node_host (kind_at s.host.nodes m.0) o named.0 named.1 is
  host_made (class.Event parts) o named is = ap (λ (p : Object). p.class) is
  host_made class.Plain o named is = tt
  host_made class.List o named is = tt
  host_made class.Fault o named is = tt
  host_made (class.Page body env) o named is = tt
  host_made (class.Bound target this args) o named is = tt
  host_made (class.Native which) o named is = tt
  host_made class.Math o named is = tt
  host_made class.Window o named is = tt

  pub own_made : (a : Class) (o : Object) (j : ℕ) → length g.objects ≡ length g.nodes → IsNamed s a
      → IsMade c h g i sites place (maker_as s things proto a) o → o.class ≡ class.Node (nth_node j) → HasOwn (made_host g (maker_as s things proto a) place) j place
  own_made (class.Node m) o j long named is on = node_own (kind_at s.host.nodes m.0) o j long named.0 named.1 is on
  own_made (class.Event parts) o j long named is on = cc (sym (ap (λ (p : Object). p.class) is) ∙ on)
  own_made class.Plain o j long named is on = cc (sym (ap (λ (p : Object). p.class) is) ∙ on)
  own_made class.List o j long named is on = cc (sym (ap (λ (p : Object). p.class) is) ∙ on)
  own_made class.Fault o j long named is on = cc (sym (ap (λ (p : Object). p.class) is) ∙ on)
  own_made (class.Page body env) o j long named is on = cc (sym (ap (λ (p : Object). p.class) is.object) ∙ on)
  own_made (class.Bound target this args) o j long named is on = cc (sym (ap (λ (p : Object). p.class) is) ∙ on)
  own_made (class.Native which) o j long named is on = cc (sym (ap (λ (p : Object). p.class) is) ∙ on)
  own_made class.Math o j long named is on = cc (sym (ap (λ (p : Object). p.class) is) ∙ on)
  own_made class.Window o j long named is on = cc (sym (ap (λ (p : Object). p.class) is) ∙ on)
