-- The page that was saved and the one that was rebuilt agree.
use Rattle.std.proofs.Common.{◌≡◌, ◌⊎◌, inl, inr, refl, sym, ap, subst, ◌∙◌, ℕ, zero, suc, ◌<◌, ◌≤◌, true, List, [], ◌∷◌, Option, Some, length, arith}
use Rattle.std.proofs.lemmas.List.{append-nil}
use Rattle.std.proofs.lemmas.Bool.{cases_lt}
use Rattle.code_table.specs.Declarations.{name_of}
use Rattle.js_core.specs.Tree.{Code}
use Rattle.js_values.specs.declared.ids.EnvId.{EnvId}
use Rattle.js_values.specs.declared.ids.NodeId.{NodeId}
use Rattle.object_heap.specs.Chain.{object_at}
use Rattle.object_heap.specs.Environment.{Bound}
use Rattle.object_heap.specs.Heap.{Contents}
use Rattle.object_heap.specs.Object.{Object}
use Rattle.object_heap.specs.declared.object.Class.{Class}
use Rattle.object_heap.specs.declared.object.Class.TheVariants as class
use Rattle.page_host.specs.Host.{Host}
use Rattle.page_meaning.specs.Store.{Store}
use Rattle.heap_relations.specs.Naming.{Base, BaseRel, Frame, In, Named, named, Round, Slot, SlotsRel, World, based, outermost}
use Rattle.heap_relations.specs.Naming as naming
use Rattle.heap_relations.specs.Related.{ClassRel, Entries, Maybe, ObjectIds, ObjectRel, ObjectsRel, PropRel, array, bound, event, fault, math, native, node, page, plain, some, window}
use Rattle.agreement.specs.Acts.{HasBuiltIns, IsOlder, IsPlaced, StoreRel, outermost_older, rebuilt_older}
use Rattle.agreement.specs.Trees.{code_fits}
use Rattle.agreement.proofs.Callers.{built_in_itself}
use Rattle.heap_walker.specs.Still.{Still}
use Rattle.heap_walker.proofs.Callers.{document_among, global_among, props_among, roots_in_walk}
use Rattle.heap_walker.specs.Things.{bound_value, globals_of, is_in, IsWalk, needs_of}
use Rattle.rebuild_plan.specs.Compact.{moved_needs, place_of}
use Rattle.rebuilding.specs.Frames.{round_frame}
use Rattle.rebuilding.specs.Laws.{Agrees}
use Rattle.rebuilding.specs.Rebuilt as rebuilt
use Rattle.rebuilding.specs.Rebuilt.{ClassIsRebuilt, IsRebuilt, nth}
use Rattle.rebuilding.specs.Scene.{IsRoundOf, Scene, page_with}
use Rattle.page_writer.specs.Frame.{nth_node}
use Rattle.rebuild_plan.proofs.Callers.{document_class}
use Rattle.rebuild_plan.specs.Moved.{first_thing}
use Rattle.rebuilding.proofs.BuiltIns.{as_made, built_in_alike, changes_same, windows_alike}
use Rattle.rebuilding.proofs.Globals.{globals_same}
use Rattle.rebuilding.proofs.Hosts.{document_linked, hosts_rel}
use Rattle.rebuilding.proofs.Known.{IsKnown}
use Rattle.rebuilding.proofs.OneToOne.{same_places, site_parts, young_sites}
use Rattle.rebuilding.proofs.Placed.{node_low, number_at, site_thing}
use Rattle.rebuilding.specs.Sites.{site, sited_needs}
use Rattle.rebuilding.proofs.Counterparts.{named_site, need_known, props_rel, rest_at, there_at, thing_rel, value_rel}
use Rattle.rebuilding.proofs.Frames.{fits_at_rest}
use Rattle.rebuilding.proofs.Naming.{base_at, built_in, built_in_paired, IsPair, pair_is, rebuilt_trees, rebuilt_world, site_of_built_in, thing, thing_paired}
use Rattle.rebuilding.proofs.Rounds.{base_rel}
use Rattle.object_shapes.specs.Links.{props_links}
use Rattle.object_shapes.specs.Shapes.{HasShape}
use Rattle.page_meaning.specs.Places.{built_in_count, document, node_prototype}

-- ---- places

round_of : (c : Scene) (h : Contents) (s : Store) (things sites : List ℕ) (k : ℕ) (a b : Class)
    → ClassIsRebuilt c h.environments s things sites k a b
    → (source other : Code) (env round : Option EnvId) → a ≡ class.Page source env → b ≡ class.Page other round
    → IsRoundOf c h.environments k (sited_needs sites (moved_needs things (needs_of s env source))) (name_of source) round
round_of c h s things sites k a b rebuilt.plain source other env round one two = absurd (cc one)
round_of c h s things sites k a b rebuilt.list source other env round one two = absurd (cc one)
round_of c h s things sites k a b rebuilt.fault source other env round one two = absurd (cc one)
round_of c h s things sites k a b rebuilt.bound source other env round one two = absurd (cc one)
round_of c h s things sites k a b rebuilt.node source other env round one two = absurd (cc one)
round_of c h s things sites k a b rebuilt.event source other env round one two = absurd (cc one)
round_of c h s things sites k a b (rebuilt.page {code = own} {env = from} {round = around} r) source other env round one two =
    let same : own ≡ source = cc one in
    let same_env : from ≡ env = cc one in
    let where_same : around ≡ round = cc two in
    let needs : Code → Option EnvId → Bound = λ d e. sited_needs sites (moved_needs things (needs_of s e d)) in
    subst (λ d. IsRoundOf c h.environments k (needs d env) (name_of d) round) same
    (subst (λ e. IsRoundOf c h.environments k (needs own e) (name_of own) round) same_env
    (subst (λ e. IsRoundOf c h.environments k (needs own from) (name_of own) e) where_same r))

-- where there are no scopes, a function stands outermost, or was rebuilt
pub placed_round : {W : World} {d e : Class} → ((z : Slot) → In z W.slots → ⊥) → (k : ℕ) → ClassRel (named W) d e → IsPlaced W k d
placed_round {W = W} none k (page h) = by h.round
  where
    by : {fs : List Frame} {e f : Option EnvId} {name : Option (List ℕ)} → Round W fs e f → IsOlder W k name e
    by outermost = outermost_older
    by (naming.inside z i) = absurd (none z i)
    by (based b i) = rebuilt_older b i
placed_round none k plain = tt
placed_round none k array = tt
placed_round none k native = tt
placed_round none k (bound n v vs) = tt
placed_round none k fault = tt
placed_round none k math = tt
placed_round none k window = tt
placed_round none k (node n) = tt
placed_round none k (event p) = tt

-- what has the shape of a node inherits from the nodes' prototype
pub shape_proto : (s : Store) (o : Object) (d : Class) (k : NodeId) → d ≡ class.Node k → HasShape s o d → o.proto ≡ Some node_prototype
shape_proto s o (class.Node j) k e h = h.0
shape_proto s o class.Plain k e h = absurd (cc e)
shape_proto s o class.List k e h = absurd (cc e)
shape_proto s o class.Fault k e h = absurd (cc e)
shape_proto s o class.Math k e h = absurd (cc e)
shape_proto s o class.Window k e h = absurd (cc e)
shape_proto s o (class.Native which) k e h = absurd (cc e)
shape_proto s o (class.Page source env) k e h = absurd (cc e)
shape_proto s o (class.Bound target this args) k e h = absurd (cc e)
shape_proto s o (class.Event parts) k e h = absurd (cc e)

module _ (c : Scene) (s : Store) (things : List ℕ) (h : Contents) (g : Host) (sites : List ℕ) (still : Still s) (walk : IsWalk s things)
    (is : IsRebuilt c s things h g sites) where
  abbrev W : World
  W = rebuilt_world s h things sites

  -- ---- what is built in

  built_ins_named : HasBuiltIns (rebuilt_world s h things sites)
  built_ins_named k low = record { named = built_in_paired things sites k (omega (arith, low)) }

  -- what has the same place in both pages is named
  place_back : (b : ℕ) → IsKnown sites b → site sites (place_of sites b) ≡ b
  place_back b (inl low) = site_of_built_in sites sites b low (young_sites c s things h g sites walk is)
  place_back b (inr found) = let n = number_at sites b found in ap (site sites) n.1 ∙ site_thing sites n.0 ∙ n.3

  place_named : (a b : ℕ) → IsKnown things a → IsKnown sites b → place_of things a ≡ place_of sites b → Named W a b
  place_named a b one two e = subst (λ j. Named W a j) (ap (site sites) e ∙ place_back b two) (named_site s h things sites walk is.count a one)

  globals_rel : Entries (PropRel (named W)) (globals_of s) (globals_of (page_with h g))
  globals_rel =
      subst (λ qs. Entries (PropRel (named W)) (globals_of s) qs) (sym (globals_same c s things h g sites is))
      (props_rel s h things sites walk is.count (globals_of s) (λ j i. roots_in_walk s things still walk j (global_among s j i)))

  built_in_rel : (k : ℕ) → k < built_in_count → ObjectRel (named W) (object_at s.heap.objects k) (object_at h.objects k)
  built_in_rel zero low =
      windows_alike (named W) s (page_with h g) still.shaped.window is.running.own.window (built_in_itself built_ins_named 0).props globals_rel
  built_in_rel (suc k) low =
      let past : 0 < suc k = omega arith in
      built_in_alike (named W) things sites place_named s (page_with h g) (suc k) past low (built_in_itself built_ins_named (suc k))
      (as_made things (suc k) (object_at s.heap.objects (suc k)) past (still.shaped.built_ins (suc k) past low))
      (as_made sites (suc k) (object_at h.objects (suc k)) past (is.running.own.objects (suc k) past low))
      (sym (changes_same c s things h g sites still is.running (suc k)))

  -- the document's object
  document_rel : ObjectRel (named W) (object_at s.heap.objects document.0) (object_at h.objects document.0)
  document_rel =
      let o : Object = object_at s.heap.objects document.0 in
      let p : Object = object_at h.objects document.0 in
      let left : o.class ≡ class.Node (nth_node 0) = document_class s still in
      let right : p.class ≡ class.Node (nth_node 0) = is.running.own.document.class in
      let kind : ClassRel (named W) (class.Node (nth_node 0)) (class.Node (nth_node 0)) = node (document_linked c s things h g sites still walk is) in
      let above : Maybe (ObjectIds (named W)) (Some node_prototype) (Some node_prototype) =
      some (record { linked = built_ins_named node_prototype.0 (omega (arith, node_low)) })
      in
      let inherited : o.proto ≡ Some node_prototype = shape_proto s o o.class (nth_node 0) left still.shaped.document in
      let held : (j : ℕ) → is_in j (props_links o.props) ≡ true → IsKnown things j =
      λ j i. roots_in_walk s things still walk j (document_among s j (props_among s document.0 j i))
      in
      record {
        class = subst (λ d. ClassRel (named W) d p.class) (sym left) (subst (λ d. ClassRel (named W) (class.Node (nth_node 0)) d) (sym right) kind);
        proto = subst (λ q. Maybe (ObjectIds (named W)) q p.proto) (sym inherited) (subst (λ q. Maybe (ObjectIds (named W)) (Some node_prototype) q) (sym is.running.own.document.proto) above);
        extensible = sym is.document.extensible;
        closed = still.shaped.document_open ∙ sym is.document.closed;
        props = subst (λ qs. Entries (PropRel (named W)) o.props qs) (sym is.document.props) (props_rel s h things sites walk is.count o.props held);
      }

  begun_rel : (k : ℕ) → k < first_thing → ObjectRel (named W) (object_at s.heap.objects k) (object_at h.objects k)
  begun_rel k low = by (cases_lt k built_in_count)
    where
      by : (k < built_in_count) ⊎ (built_in_count ≤ k) → ObjectRel (named W) (object_at s.heap.objects k) (object_at h.objects k)
      by (inl first) = built_in_rel k first
      by (inr past) =
          let same : document.0 ≡ k = omega (arith, low, past) in
          subst (λ j. ObjectRel (named W) (object_at s.heap.objects j) (object_at h.objects j)) same document_rel

  -- ---- all objects

  inside : (a b : ℕ) → IsPair things sites a b → (a < length s.heap.objects) × (b < length h.objects)
  inside a b (built_in same low) = (
    let all = still.shaped.all_there in omega (arith, all, low),
    omega (arith, low, same, is.running.place.list_young, is.running.place.list_there),
  )
  inside a b (thing p) =
      (omega (arith, p.one, there_at s things walk p.place p.below), omega (arith, p.two, (site_parts c s things h g sites walk is p.place p.below).1))

  code_fits_at : (n : ℕ) → n < length things → (source : Code) (env : Option EnvId)
      → (object_at s.heap.objects (nth things n)).class ≡ class.Page source env → code_fits (round_frame source ∷ []) source ≡ true
  code_fits_at n below source env e =
      fits_at_rest source (rest_at s things still walk n below source env e)

  object_rel : (a b : ℕ) → IsPair things sites a b → ObjectRel (named W) (object_at s.heap.objects a) (object_at h.objects b)
  object_rel a b (built_in same low) =
      subst (λ k. ObjectRel (named W) (object_at s.heap.objects a) (object_at h.objects k)) same (begun_rel a low)
  object_rel a b (thing p) =
      subst (λ k. ObjectRel (named W) (object_at s.heap.objects k) (object_at h.objects b)) (sym p.one)
      (subst (λ k. ObjectRel (named W) (object_at s.heap.objects (nth things p.place)) (object_at h.objects k)) (sym p.two)
      (thing_rel s h things sites walk is.count c g p.place p.below still (code_fits_at p.place p.below) (is.each p.place p.below) (is.hosted p.place p.below)))

  objects_rel : ObjectsRel (named W) s.heap.objects h.objects
  objects_rel = record {
    at = λ a b i. object_rel a b (pair_is things sites a b i.named);
    inside = λ a b i. inside a b (pair_is things sites a b i.named);
    one_to_one = record { same = λ a b d e i j. same_places c s things h g sites walk is a b d e (pair_is things sites a b i.named) (pair_is things sites d e j.named) };
  }

  -- ---- environments

  based_rel : (b : Base) → In b W.bases → BaseRel W b s.heap.environments h.environments
  based_rel b i =
      let at = base_at s.heap.objects h.objects things sites b i in
      let n : ℕ = at.place in
      let f = at.is in
      let round =
      round_of c h s things sites (nth sites n) (object_at s.heap.objects (nth things n)).class (object_at h.objects (nth sites n)).class
      (is.each n at.below).class f.source f.other f.env f.round f.one f.two
      in
      let pair : Named W (nth things n) (nth sites n) = record { named = thing_paired things sites is.count n at.below } in
      subst (λ d. BaseRel W d s.heap.environments h.environments) (sym f.is)
      (base_rel c s h things sites sites still.sound.environments is.running (nth things n) (nth sites n) pair f.source f.env f.round
      (rest_at s things still walk n at.below f.source f.env f.one) round
      (λ x among. value_rel s h things sites walk is.count (bound_value s f.env x)
      (need_known s things still walk n at.below f.source f.env f.one x among)))

  slots_rel : SlotsRel W s.heap.environments h.environments h.objects
  slots_rel = record {
    at = λ t i. elim i [ ];
    inside = λ t i. elim i [ ];
    scope_inside = λ t i e. elim i [ ];
    one_to_one = λ t u i j. elim i [ ];
    one_slot = λ t u i j e. elim i [ ];
    one_scope = λ t u i j e f g. elim i [ ];
    apart = λ t i e p j. elim i [ ];
    bases = λ b i. based_rel b i;
  }

  pub stores_rel : StoreRel (rebuilt_world s h things sites) s (page_with h g)
  stores_rel = record {
    heap = record { objects = objects_rel; slots = slots_rel; left = still.sound; right = is.running.place.sound };
    lines = record { more = []; one = sym (append-nil s.lines); two = refl };
    host = hosts_rel c s things h g sites still walk is;
    built_ins = built_ins_named;
    shaped = still.shaped;
    kept = record {
      scopes = λ t i. elim i [ ];
      functions = λ a b i. placed_round (λ t j. elim j [ ]) a (object_rel a b (pair_is things sites a b i.named)).class;
      done = λ j i. elim i [ ];
    };
  }

-- ---- the two pages

pub rebuilt_agrees : (c : Scene) (s : Store) (things : List ℕ) (h : Contents) (g : Host) (sites : List ℕ) → Still s → IsWalk s things
    → IsRebuilt c s things h g sites → Agrees s (page_with h g)
rebuilt_agrees c s things h g sites still walk is = record {
  world = rebuilt_world s h things sites;
  trees = rebuilt_trees s h things sites;
  stores = stores_rel c s things h g sites still walk is;
}
