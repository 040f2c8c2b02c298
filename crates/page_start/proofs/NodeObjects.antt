-- The objects of nodes, which are made one after another.
use Rattle.std.proofs.Common.{◌≡◌, refl, sym, ap, ◌∙◌, ℕ, suc, ◌+◌, ◌<◌, ◌≤◌, List, [], ◌∷◌, ◌++◌, Some, length, drop, add-one, append_assoc, arith}
use Rattle.std.proofs.Math.Seq.{drop-cons}
use Rattle.std.proofs.lemmas.List.{append-nil, drop_all, length_push}
use Rattle.js_values.specs.declared.ids.ObjId.{ObjId}
use Rattle.dom_tree.specs.Node.{Nodes, no_node}
use Rattle.object_heap.specs.declared.object.Class.TheVariants.{Node}
use Rattle.object_heap.specs.Heap.{Contents, empty, first_props, made, new_object, with_new_object, with_objects}
use Rattle.object_heap.specs.Object.{Object}
use Rattle.page_host.specs.Host.{Host, new_host}
use Rattle.page_meaning.specs.Places.{at_place, built_in_count, node_prototype, node_prototype_place}
use Rattle.page_meaning.specs.Pristine.{built_ins, node_objects, places_from, pristine}
use Rattle.page_meaning.specs.Store.{Store, silent}
use Rattle.page_start.specs.BuiltIns.{beside}
use Rattle.page_start.proofs.Youngest.{made_whole}

abbrev pub object_of : ℕ → Object
object_of k = new_object (Node (record { 0 = k })) (Some node_prototype)

-- those that were made, with those that are to come, are all
pub record Making (h0 h : Contents) (places : List ObjId) (t : Nodes) (k : ℕ) : Type 0 where
  pub room : node_prototype_place < length h.objects
  pub objects : beside h (node_objects k (drop k t)) ≡ beside h0 (node_objects 0 t)
  pub ids : places ++ places_from (length h.objects) (drop k t) ≡ places_from (length h0.objects) t

pub making_begins : (h : Contents) (places : List ObjId) (t : Nodes) → node_prototype_place < length h.objects → places ≡ [] → Making h h places t 0
making_begins h places t room none = record { room = room; objects = refl; ids = ap (λ ps. ps ++ places_from (length h.objects) t) none }

made_node : (h h1 : Contents) (k : ℕ) (p : ObjId) → node_prototype_place < length h.objects → p ≡ node_prototype
    → h1 ≡ made h (new_object (Node (record { 0 = k })) (Some p)) → h1 ≡ with_new_object h (object_of k)
made_node h h1 k p room is m =
    made_whole h h1 (Node (record { 0 = k })) node_prototype (first_props (Node (record { 0 = k }))) refl room
    (m ∙ ap (λ q. made h (new_object (Node (record { 0 = k })) (Some q))) is)

pub making_on : (h0 h h1 : Contents) (ps ps1 : List ObjId) (t : Nodes) (k : ℕ) (at p : ObjId) → k < length t → p ≡ node_prototype → at.0 ≡ length h.objects
    → h1 ≡ made h (new_object (Node (record { 0 = k })) (Some p)) → ps1 ≡ ps ++ at ∷ [] → Making h0 h ps t k → Making h0 h1 ps1 t (k + 1)
making_on h0 h h1 ps ps1 t k at p there is id m pushed g =
    let new : h1 ≡ with_new_object h (object_of k) = made_node h h1 k p g.room is m in
    let more : length h1.objects ≡ suc (length h.objects) = ap (λ (c : Contents). length c.objects) new ∙ length_push h.objects (object_of k) ∙ add-one (length h.objects) in
    let rest = drop (suc k) t in
    let next = drop-cons t k no_node there in
    record {
      room = rw more (let r = g.room in omega arith);
      objects =
          rw add-one (ap (λ c. beside c (node_objects (suc k) rest)) new ∙ ap (with_objects h) (append_assoc h.objects (object_of k ∷ []) (node_objects (suc k) rest))
          ∙ ap (λ l. beside h (node_objects k l)) (sym next) ∙ g.objects);
      ids =
          rw add-one (ap (λ l. l ++ places_from (length h1.objects) rest) pushed ∙ ap (λ n. (ps ++ at ∷ []) ++ places_from n rest) more
          ∙ append_assoc ps (at ∷ []) (places_from (suc (length h.objects)) rest)
          ∙ ap (λ n. ps ++ at_place n ∷ places_from (suc (length h.objects)) rest) id
          ∙ ap (λ l. ps ++ places_from (length h.objects) l) (sym next) ∙ g.ids);
    }

pub all_made : (h0 h : Contents) (ps : List ObjId) (t : Nodes) (k : ℕ) → length t ≤ k → Making h0 h ps t k → h ≡ beside h0 (node_objects 0 t)
all_made h0 h ps t k end g =
    ap (with_objects h) (sym (append-nil h.objects)) ∙ ap (λ l. beside h (node_objects k l)) (sym (drop_all k t end)) ∙ g.objects

pub all_placed : (h0 h : Contents) (ps : List ObjId) (t : Nodes) (k : ℕ) → length t ≤ k → Making h0 h ps t k → ps ≡ places_from (length h0.objects) t
all_placed h0 h ps t k end g = sym (append-nil ps) ∙ ap (λ l. ps ++ places_from (length h.objects) l) (sym (drop_all k t end)) ∙ g.ids

-- as many places as nodes
pub many_places : (k : ℕ) (t : Nodes) → length (places_from k t) ≡ length t
many_places k [] = refl
many_places k (n ∷ ns) = ap suc (many_places (suc k) ns)

-- ---- the page

all_built : length built_ins ≡ built_in_count
unfolding built_in_count
all_built = refl

below_all : node_prototype_place < built_in_count
unfolding node_prototype_place built_in_count
below_all = omega arith

pub room_for_nodes : (h : Contents) → h ≡ beside empty built_ins → node_prototype_place < length h.objects
room_for_nodes h e = rw (e, all_built) below_all

pub pristine_is : (h h1 : Contents) (places : List ObjId) (host : Host) (t : Nodes) (s : Store) → h ≡ beside empty built_ins → h1 ≡ beside h (node_objects 0 t)
    → places ≡ places_from (length h.objects) t → host ≡ new_host t places → s ≡ silent h1 host → s ≡ pristine t
pristine_is h h1 places host t s first then ids is made =
    made ∙ ap (λ c. silent c host) (then ∙ ap (λ c. beside c (node_objects 0 t)) first)
    ∙ ap (λ g. silent (beside (beside empty built_ins) (node_objects 0 t)) g)
    (is ∙ ap (new_host t) (ids ∙ ap (λ (c : Contents). places_from (length c.objects) t) first ∙ ap (λ n. places_from n t) all_built))
