-- Nodes and the objects that they have: those of the sites and of the document, each its own.
use Rattle.std.proofs.Common.{◌≡◌, sym, ap, subst, ◌∙◌, ℕ, ◌<◌, List, [], length, arith}
use Rattle.js_values.specs.declared.ids.ObjId.{ObjId}
use Rattle.object_heap.specs.Chain.{object_at}
use Rattle.object_heap.specs.Heap.{Contents}
use Rattle.object_heap.specs.declared.object.Class.{Class}
use Rattle.object_heap.specs.declared.object.Class.TheVariants as class
use Rattle.page_host.specs.Host.{Host, object_of_node}
use Rattle.page_meaning.specs.Places.{at_place, document}
use Rattle.page_writer.specs.Frame.{nth_node}
use Rattle.rebuilding.specs.Rebuilt.{IsFresh, IsOwned, nth}
use Rattle.rebuilding.specs.Scene.{IsRunning, Scene}
use Rattle.rebuilding.proofs.SitesApart.{site_there, sites_differ}

-- the object at the place is that of the node
abbrev pub IsNodeOn : Contents → ℕ → ℕ → Type 0
IsNodeOn h place k = (object_at h.objects place).class ≡ class.Node (nth_node k)

-- the node is there, and the object at the place is its own
abbrev pub HasOwn : Host → ℕ → ℕ → Type 0
HasOwn g k place = (k < length g.nodes) × (object_of_node g.objects (nth_node k) ≡ at_place place)

pub record OwnObjects (h : Contents) (g : Host) (sites : List ℕ) : Type 0 where
  pub things : (n k : ℕ) → n < length sites → IsNodeOn h (nth sites n) k → HasOwn g k (nth sites n)
  pub document : HasOwn g 0 document.0

own_moved : (first g : Host) (k place : ℕ) → g.objects ≡ first.objects → length g.nodes ≡ length first.nodes → HasOwn first k place → HasOwn g k place
own_moved first g k place objects long has =
    (subst (λ n. k < n) (sym long) has.0, ap (λ (os : List ObjId). object_of_node os (nth_node k)) objects ∙ has.1)

pub own_kept : (h : Contents) (first g : Host) (sites : List ℕ) → g.objects ≡ first.objects → length g.nodes ≡ length first.nodes
    → OwnObjects h first sites → OwnObjects h g sites
own_kept h first g sites objects long own = record {
  things = λ n k inside on. own_moved first g k (nth sites n) objects long (own.things n k inside on);
  document = own_moved first g 0 document.0 objects long own.document;
}

node_number : Class → ℕ
node_number (class.Node k) = k.0
node_number o = 0

pub node_same : {a b : ℕ} → class.Node (nth_node a) ≡ class.Node (nth_node b) → a ≡ b
unfolding node_number
node_same e = ap node_number e

-- nodes of two sites are two
pub nodes_apart : (c : Scene) (h : Contents) (g : Host) (sites : List ℕ) (m n a b : ℕ) → IsRunning c h sites → OwnObjects h g sites → m < length sites
    → n < length sites → (m ≡ n → ⊥) → IsNodeOn h (nth sites m) a → IsNodeOn h (nth sites n) b → a ≡ b → ⊥
nodes_apart c h g sites m n a b running own left right other first second same =
    sites_differ sites m n running.place.rising left right other
    (ap (λ o. o.0) (sym (own.things m a left first).1 ∙ ap (λ k. object_of_node g.objects (nth_node k)) same ∙ (own.things n b right second).1))

-- and none is the document
pub no_document : (c : Scene) (h : Contents) (g : Host) (sites : List ℕ) (n a : ℕ) → IsRunning c h sites → OwnObjects h g sites → n < length sites
    → IsNodeOn h (nth sites n) a → a ≡ 0 → ⊥
no_document c h g sites n a running own inside is same =
    let equal : nth sites n ≡ document.0 =
    ap (λ o. o.0) (sym (own.things n a inside is).1 ∙ ap (λ k. object_of_node g.objects (nth_node k)) same ∙ own.document.1)
    in
    omega (arith, equal, (site_there c h sites n running inside).0)

-- before the first statement, where nothing stands
pub fresh_owns : (c : Scene) (h : Contents) (g : Host) → IsFresh c h g → OwnObjects h g []
fresh_owns c h g fresh = record {
  things = λ n k inside on. absurd (omega (arith, inside));
  document = subst (IsOwned g document.0) fresh.running.own.document.class fresh.own;
}
