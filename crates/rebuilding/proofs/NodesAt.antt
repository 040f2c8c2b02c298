-- Things that are nodes, once they are made: what is asked of them before a statement, and that other things have nothing of a node.
use Rattle.std.proofs.Common.{◌≡◌, ◌⊎◌, inl, inr, refl, sym, ap, subst, ◌∙◌, ℕ, ◌+◌, ◌<◌, true, List, Some, length, ◌∷◌, [], arith}
use Rattle.std.proofs.lemmas.Bool.{and_from, lt-ltb}
use Rattle.dom_tree.specs.Steps.{is_there}
use Rattle.js_values.specs.declared.ids.ObjId.{ObjId}
use Rattle.object_heap.specs.Chain.{object_at}
use Rattle.object_heap.specs.Environment.{Environment}
use Rattle.object_heap.specs.Heap.{Contents}
use Rattle.object_heap.specs.Object.{Object}
use Rattle.object_heap.specs.declared.object.Class.{Class}
use Rattle.object_heap.specs.declared.object.Class.TheVariants as class
use Rattle.page_host.specs.Host.{Host, object_of_node}
use Rattle.page_meaning.specs.Places.{at_place, document, node_prototype}
use Rattle.page_meaning.specs.Store.{Store}
use Rattle.page_writer.specs.Frame.{nth_node}
use Rattle.rebuild_plan.specs.Moved.{first_thing}
use Rattle.rebuild_plan.specs.Nodes.{no_node, node_as}
use Rattle.rebuild_plan.specs.Plan as plan
use Rattle.rebuilding.specs.Rebuilt.{ClassIsRebuilt, bound, event, fault, list, node, nth, page, plain}
use Rattle.rebuilding.specs.Running.{IsNodeHere, Stand, node_here, node_of_class, object_here}
use Rattle.rebuilding.specs.Scene.{IsRunning, Scene}
use Rattle.rebuilding.specs.Sites.{sited}
use Rattle.rebuilding.proofs.OwnObjects.{IsNodeOn, OwnObjects}
use Rattle.rebuilding.proofs.Placed.{site_low, site_thing}

-- it is the class of a node, or the other is not and so has nothing of a node
abbrev pub NodeOrOther : Class → Class → Type 0
NodeOrOther C D =
    ((a : ℕ) × (D ≡ class.Node (nth_node a))) ⊎ (((a : ℕ) → D ≡ class.Node (nth_node a) → ⊥) × ((g : Host) (ts : List ℕ) → node_as g ts C ≡ no_node))

-- a thing is a node on both sides, or on neither
pub node_or_other : {c : Scene} {es : List Environment} {s : Store} {things sites : List ℕ} {k : ℕ} {C D : Class} → ClassIsRebuilt c es s things sites k C D
    → NodeOrOther C D
node_or_other plain = inr ((λ a e. absurd (cc)), (λ g ts. refl))
node_or_other list = inr ((λ a e. absurd (cc)), (λ g ts. refl))
node_or_other fault = inr ((λ a e. absurd (cc)), (λ g ts. refl))
node_or_other (page round) = inr ((λ a e. absurd (cc)), (λ g ts. refl))
node_or_other bound = inr ((λ a e. absurd (cc)), (λ g ts. refl))
node_or_other (node {b = b}) = inl (b.0, refl)
node_or_other event = inr ((λ a e. absurd (cc)), (λ g ts. refl))

-- ---- nodes and the document without own properties

pub record NodesStand (h : Contents) (sites : List ℕ) : Type 0 where
  pub proto : (n k : ℕ) → n < length sites → IsNodeOn h (nth sites n) k → (object_at h.objects (nth sites n)).proto ≡ Some node_prototype
  pub props : (n k : ℕ) → n < length sites → IsNodeOn h (nth sites n) k → (object_at h.objects (nth sites n)).props ≡ []
  pub document_props : (object_at h.objects document.0).props ≡ []

abbrev at_thing : ℕ → ObjId
at_thing n = plan.thing_place n

pub thing_stands : (sites : List ℕ) (n : ℕ) → n < length sites → Stand sites ((at_thing n).0 ∷ [])
thing_stands sites n inside = and_from _ _ (lt-ltb (first_thing + n) (first_thing + length sites) (omega (arith, inside))) refl

pub document_stands : (sites : List ℕ) → Stand sites (document.0 ∷ [])
document_stands sites = and_from _ _ (lt-ltb document.0 (first_thing + length sites) (omega arith)) refl

pub thing_here : (h : Contents) (sites : List ℕ) (n : ℕ) → object_here h sites (at_thing n) ≡ object_at h.objects (nth sites n)
thing_here h sites n = ap (object_at h.objects) (site_thing sites n)

pub document_here : (h : Contents) (sites : List ℕ) → object_here h sites document ≡ object_at h.objects document.0
document_here h sites = ap (object_at h.objects) (site_low sites document.0 (omega arith))

module _ (c : Scene) (h : Contents) (g : Host) (sites : List ℕ) (running : IsRunning c h sites) (own : OwnObjects h g sites) where
  there : (k : ℕ) → k < length g.nodes → is_there g.nodes (nth_node k) ≡ true
  there k low = lt-ltb k (length g.nodes) low

  here : (at : ObjId) (o : Object) (k : ℕ) → Stand sites (at.0 ∷ []) → object_here h sites at ≡ o → o.proto ≡ Some node_prototype → o.class ≡ class.Node (nth_node k)
      → (k < length g.nodes) × (object_of_node g.objects (nth_node k) ≡ sited sites at) → (node_here h sites at ≡ nth_node k) × IsNodeHere h g sites at
  here at o k stands is proto kind has =
      let same : (object_here h sites at).class ≡ class.Node (nth_node k) = ap (λ (q : Object). q.class) is ∙ kind in
      let number : node_here h sites at ≡ nth_node k = ap node_of_class same in (
        number,
        record {
          stands = stands;
          proto = ap (λ (q : Object). q.proto) is ∙ proto;
          class = same ∙ ap class.Node (sym number);
          there = subst (λ m. is_there g.nodes m ≡ true) (sym number) (there k has.0);
          own = ap (object_of_node g.objects) number ∙ has.1;
        },
      )

  pub thing_node : (nodes : NodesStand h sites) (n k : ℕ) → n < length sites → IsNodeOn h (nth sites n) k
      → (node_here h sites (at_thing n) ≡ nth_node k) × IsNodeHere h g sites (at_thing n)
  thing_node nodes n k inside on =
      here (at_thing n) (object_at h.objects (nth sites n)) k (thing_stands sites n inside) (thing_here h sites n) (nodes.proto n k inside on) on
      ((own.things n k inside on).0, (own.things n k inside on).1 ∙ sym (ap at_place (site_thing sites n)))

  pub document_node : (node_here h sites document ≡ nth_node 0) × IsNodeHere h g sites document
  document_node =
      here document (object_at h.objects document.0) 0 (document_stands sites) (document_here h sites) running.own.document.proto running.own.document.class
      (own.document.0, own.document.1 ∙ sym (ap at_place (site_low sites document.0 (omega arith))))
