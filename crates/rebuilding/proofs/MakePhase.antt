-- The phase of makes: the things are made one after another, and each is as its maker left it.
use Rattle.std.proofs.Common.{◌≡◌, ◌⊎◌, inl, inr, refl, sym, ap, subst, ◌∙◌, ℕ, zero, suc, ◌+◌, ◌<◌, ◌≤◌, Bool, true, false, nat_eq, List, [], ◌∷◌, ◌++◌, length, length-append, arith}
use Rattle.std.proofs.lemmas.Bool.{and_parts, cases_lt, eqb-true, ltb-true, not-true, or_right, ne_eqb}
use Rattle.std.proofs.lemmas.List.Elements.{All-head, All-tail}
use Rattle.std.proofs.lemmas.List.Folds.{list_any-append}
use Rattle.std.specs.List.{All}
use Rattle.heap_walker.proofs.Callers.{links_in_walk, made_among}
use Rattle.heap_walker.specs.Still.{Still}
use Rattle.heap_walker.specs.Things.{IsWalk, class_links, is_in}
use Rattle.object_heap.specs.Chain.{object_at}
use Rattle.object_heap.specs.Heap.{Contents}
use Rattle.object_heap.specs.Object.{Object}
use Rattle.page_meaning.specs.Places.{window, at_place, document}
use Rattle.page_meaning.specs.Store.{Store}
use Rattle.page_writer.specs.Literals.{HaveLiterals, IsLiteral, maker_values, values_of}
use Rattle.rebuild_plan.proofs.Callers.{plans_stand}
use Rattle.rebuild_plan.specs.Compact.{compact, maker_at, things_at, Compact}
use Rattle.rebuild_plan.specs.Plan.{defines, makes, plan, timers, whole}
use Rattle.rebuild_plan.specs.declared.phase.Phase.TheVariants as phase
use Rattle.rebuild_plan.specs.Stands.{maker_names, standing}
use Rattle.rebuild_plan.specs.declared.statement.Rebuild.{Rebuild}
use Rattle.rebuilding.specs.Rebuilt.{Succeeds, nth}
use Rattle.rebuilding.specs.Running.{CanBeMade, HasMade, IsMade, Stays, made_host}
use Rattle.rebuilding.specs.Scene.{IsRunning, Scene, is_site, IsCleared, IsHosting}
use Rattle.rebuilding.proofs.Fresh.{AreKept, can_make, made_fresh, IsNamed}
use Rattle.rebuilding.proofs.Placed.{is_thing_at, nth_last, nth_more, place_in, some_built_in}
use Rattle.rebuilding.proofs.Stages.{IsFresh, Made, MadeHost}
use Rattle.rebuilding.proofs.Lasting.{fresh_stays}
use Rattle.rebuilding.proofs.Targets.{target_kept}
use Rattle.object_shapes.specs.Shapes.{HasShape, built_in_at}
use Rattle.rebuilding.proofs.Basics.{all_at, one_on}
use Rattle.page_meaning.specs.Places.{built_in_count}
use Rattle.object_shapes.specs.Links.{proto_links, all_below, is_thing}
use Rattle.rebuild_plan.specs.Moved.{first_thing}
use Rattle.dom_tree.proofs.Callers.{proper_parts}
use Rattle.dom_tree.specs.Node.{node_at}
use Rattle.js_values.specs.declared.ids.ObjId.{ObjId}
use Rattle.object_heap.specs.declared.object.Class.{Class}
use Rattle.object_heap.specs.declared.object.Class.TheVariants as class
use Rattle.page_host.specs.Host.{Host, object_of_node}
use Rattle.page_writer.specs.Frame.{nth_node}
use Rattle.rebuild_plan.specs.declared.statement.Maker.{Maker}
use Rattle.rebuilding.proofs.OwnObjects.{HasOwn, IsNodeOn, OwnObjects}
use Rattle.rebuilding.specs.Rebuilt.{IsFresh as IsFirst}
use Rattle.rebuilding.proofs.MadeHosts.{Joined, host_made, host_stays, joined_cleared, made_joined, own_joined, own_made}
use Rattle.object_shapes.proofs.Callers.{below_more}

-- ---- what holds of each maker

pub one_more : (n : ℕ) (rs : List Rebuild) → standing (1 + n) rs ≡ true → standing (suc n) rs ≡ true
one_more n rs h =
    let same : 1 + n ≡ suc n = omega arith in
    subst (λ m. standing m rs ≡ true) same h

-- what it names stands
names_stand : (s : Store) (things ks : List ℕ) (n i : ℕ) (rest : List Rebuild) → standing n (makes n (things_at s things ks) ++ rest) ≡ true
    → i < length ks
    → all_below (first_thing + (n + i)) (maker_names (maker_at s things (nth ks i))) ≡ true
names_stand s things [] n i rest h inside = absurd (omega (arith, inside))
names_stand s things (k ∷ ks) n zero rest h inside =
    let none : n ≡ n + 0 = omega arith in
    subst (λ m. all_below (first_thing + m) (maker_names (maker_at s things k)) ≡ true) none (and_parts _ _ (and_parts _ _ h).0).1
names_stand s things (k ∷ ks) n (suc i) rest h inside =
    let on : suc n + i ≡ n + suc i = omega arith in
    subst (λ m. all_below (first_thing + m) (maker_names (maker_at s things (nth ks i))) ≡ true) on
    (names_stand s things ks (suc n) i rest (one_more n (makes (suc n) (things_at s things ks) ++ rest) (and_parts _ _ h).1) (omega (arith, inside)))

-- each number that it writes is one of the language
abbrev AreSmall : List Rebuild → Type 0
AreSmall rs = All (λ r. All IsLiteral (values_of r)) rs

values_small : (s : Store) (things ks : List ℕ) (n i : ℕ) (rest : List Rebuild) → AreSmall (makes n (things_at s things ks) ++ rest) → i < length ks
    → All IsLiteral (maker_values (maker_at s things (nth ks i)))
values_small s things [] n i rest h inside = absurd (omega (arith, inside))
values_small s things (k ∷ ks) n zero rest h inside = All-head (λ r. All IsLiteral (values_of r)) _ _ h
values_small s things (k ∷ ks) n (suc i) rest h inside =
    values_small s things ks (suc n) i rest (All-tail (λ r. All IsLiteral (values_of r)) _ _ h) (omega (arith, inside))

-- ---- the things so far

-- the first things stand at these sites
record Front (c : Scene) (s : Store) (things : List ℕ) (h : Contents) (g : Host) (sites : List ℕ) : Type 0 where
  running : IsRunning c h sites
  cleared : IsCleared h g
  each : (n : ℕ) → n < length sites
      → IsFresh c h.environments s things sites (nth sites n) (object_at s.heap.objects (nth things n)) (object_at h.objects (nth sites n))
  hosted : (n : ℕ) → n < length sites → MadeHost s g (object_at s.heap.objects (nth things n)).class (object_at h.objects (nth sites n)).class
  own : OwnObjects h g sites
  globals : (object_at h.objects window.0).props ≡ (built_in_at window.0).props
  document_props : (object_at h.objects document.0).props ≡ []
  document_extensible : (object_at h.objects document.0).extensible ≡ true
  document_open : (object_at h.objects document.0).closed ≡ false

-- what is known of the page that was saved
record IsSaved (s : Store) (things : List ℕ) : Type 0 where
  still : Still s
  walk : IsWalk s things
  stand : (i : ℕ) → i < length things → all_below (first_thing + i) (maker_names (maker_at s things (nth things i))) ≡ true
  small : (i : ℕ) → i < length things → All IsLiteral (maker_values (maker_at s things (nth things i)))
  few : length things < 4294967295

-- the statements after the makers
abbrev pub behind : Compact → List Rebuild
behind p =
    whole phase.Children p
    ++ (whole phase.Contents p
    ++ (whole phase.Events p
    ++ (whole phase.Listeners p
    ++ (defines false false window p.globals
    ++ (whole phase.Properties p
    ++ (timers p.timers
    ++ whole phase.Ends p))))))

saved : (s : Store) (things : List ℕ) → Still s → IsWalk s things → HaveLiterals (plan (compact s things))
    → length things < 4294967295 → IsSaved s things
saved s things still walk range few =
    let p = compact s things in
    let rest : List Rebuild = behind p in
    record {
      still = still;
      walk = walk;
      stand = λ i inside. from i (names_stand s things things 0 i rest (plans_stand s things still walk) inside);
      small = λ i inside. values_small s things things 0 i rest range inside;
      few = few;
    }
  where
    from : (i : ℕ) → all_below (first_thing + (0 + i)) (maker_names (maker_at s things (nth things i))) ≡ true
        → all_below (first_thing + i) (maker_names (maker_at s things (nth things i))) ≡ true
    from i h =
        let none : 0 + i ≡ i = omega arith in
        subst (λ m. all_below (first_thing + m) (maker_names (maker_at s things (nth things i))) ≡ true) none h

-- what a class refers to is among the links of its object
class_among : (s : Store) (k j : ℕ) → is_in j (class_links s (object_at s.heap.objects k).class) ≡ true
    → is_in j (proto_links (object_at s.heap.objects k).proto ++ class_links s (object_at s.heap.objects k).class) ≡ true
class_among s k j h =
    let o : Object = object_at s.heap.objects k in
    list_any-append (nat_eq j) (proto_links o.proto) (class_links s o.class)
    ∙ or_right (is_in j (proto_links o.proto)) (is_in j (class_links s o.class)) h

-- ---- one more thing

module _ (c : Scene) (s : Store) (things : List ℕ) (known : IsSaved s things) where
  abbrev thing : ℕ → Object
  thing n = object_at s.heap.objects (nth things n)

  was_made : (n : ℕ) → n < length things → HasShape s (thing n) (thing n).class
  was_made n inside = known.still.shaped.made (nth things n) (is_thing_at s things n known.walk inside)

  kept : (h : Contents) (g : Host) (sites : List ℕ) (n : ℕ) → n < length things → Front c s things h g sites → AreKept s things h g sites (thing n).class
  kept h g sites n inside front target found is stands =
      target_kept c s things h g sites known.still known.walk front.running front.each target
      (links_in_walk s things known.still known.walk (nth things n) (place_in things n inside) target.0
      (made_among s (nth things n) target.0 (class_among s (nth things n) target.0 found)))
      is stands

  named : (n : ℕ) → n < length things → IsNamed s (thing n).class
  named n inside = by (thing n).class refl
    where
      k : ℕ
      k = nth things n

      is_thing_there : is_thing s k ≡ true
      is_thing_there = is_thing_at s things n known.walk inside

      not_first : (m : ℕ) → built_in_count < k → object_of_node s.host.objects (nth_node m) ≡ at_place k → nat_eq m 0 ≡ false
      not_first m young own = ne_eqb m 0 (λ zero_is. other m young own zero_is)
        where
          other : (m : ℕ) → built_in_count < k → object_of_node s.host.objects (nth_node m) ≡ at_place k → m ≡ 0 → ⊥
          other m young own zero_is =
              let same : k ≡ built_in_count =
              ap (λ (o : ObjId). o.0) (sym own ∙ ap (λ q. object_of_node s.host.objects (nth_node q)) zero_is ∙ known.still.shaped.host.document)
              in
              omega (arith, same, young)

      by : (a : Class) → (thing n).class ≡ a → IsNamed s a
      by (class.Node m) e =
          let own = known.still.shaped.host.node_of k m.0 e in
          let young : built_in_count < k = ltb-true built_in_count k (and_parts _ _ is_thing_there).0 in (
            known.still.shaped.host.sound.nodes.document m.0 ∙ not_first m.0 young own.1,
            (proper_parts (node_at s.host.nodes m.0).content (known.still.shaped.host.sound.nodes.proper m.0)).named,
          )
      by class.Plain e = tt
      by class.List e = tt
      by class.Fault e = tt
      by (class.Page body env) e = tt
      by (class.Bound target this args) e = tt
      by (class.Native which) e = tt
      by class.Math e = tt
      by class.Window e = tt
      by (class.Event parts) e = tt

  can : (h : Contents) (g : Host) (sites : List ℕ) (n : ℕ) → n ≡ length sites → n < length things → Front c s things h g sites
      → CanBeMade h sites n (maker_at s things (nth things n))
  can h g sites n next inside front =
      let stands : all_below (first_thing + length sites) (maker_names (maker_at s things (nth things n))) ≡ true =
      subst (λ m. all_below (first_thing + m) (maker_names (maker_at s things (nth things n))) ≡ true) next (known.stand n inside)
      in
      record {
        next = next;
        index = omega (arith, inside, known.few);
        stands = stands;
        able = can_make s things h g sites (thing n) (thing n).class (was_made n inside) stands
            (kept h g sites n inside front) front.document_props (named n inside);
        in_range = known.small n inside;
      }

  -- the thing with the next number is made
  module _ (h : Contents) (g : Host) (i : Contents) (w : Host) (sites : List ℕ) (place : ℕ) (front : Front c s things h g sites) (running : IsRunning c i (sites ++ place ∷ []))
      (few : length sites < length things)
      (hosting : IsHosting i w) (stays : Stays h i (c.list ∷ []))
      (host_is : w ≡ made_host g (maker_at s things (nth things (length sites))) place)
      (made : IsMade c h g i sites place (maker_at s things (nth things (length sites))) (object_at i.objects place)) where
    abbrev after : List ℕ
    after = sites ++ place ∷ []

    -- at this site, the thing with this number
    abbrev Stands : ℕ → ℕ → Type 0
    Stands k j = IsFresh c i.environments s things after k (thing j) (object_at i.objects k)

    not_list : (k : ℕ) → nat_eq k c.list ≡ false → is_in k (c.list ∷ []) ≡ false
    not_list k other = rw other refl

    site_same : (j : ℕ) → j < length sites → object_at i.objects (nth sites j) ≡ object_at h.objects (nth sites j)
    site_same j inside =
        let rest = (and_parts _ _ (all_at (is_site c h) sites j front.running.place.stand inside)).1 in
        stays.objects (nth sites j) (ltb-true (nth sites j) (length h.objects) (and_parts _ _ rest).0)
        (not_list (nth sites j) (not-true (nat_eq (nth sites j) c.list) (and_parts _ _ rest).1))

    far : (k : ℕ) → 0 < k → nat_eq 0 k ≡ false
    far k young = by (nat_eq 0 k) refl
      where
        by : (b : Bool) → nat_eq 0 k ≡ b → nat_eq 0 k ≡ false
        by true same = absurd (omega (arith, young, eqb-true 0 k same))
        by false other = other

    window_same : object_at i.objects window.0 ≡ object_at h.objects window.0
    window_same =
        stays.objects 0 (omega (arith, front.running.place.list_there))
        (not_list 0 (far c.list (omega (arith, some_built_in, front.running.place.list_young))))

    old : (j : ℕ) → j < length sites → Stands (nth after j) j
    old j inside =
        let stands : all_below (first_thing + length sites) (maker_names (maker_at s things (nth things j))) ≡ true =
        below_more (first_thing + j) (first_thing + length sites) (maker_names (maker_at s things (nth things j))) (omega (arith, inside))
        (known.stand j (omega (arith, inside, few)))
        in
        let f : IsFresh c i.environments s things after (nth sites j) (thing j) (object_at h.objects (nth sites j)) =
        fresh_stays c h.environments i.environments stays.more_environments stays.environments s things sites place (nth sites j)
        (thing j) (object_at h.objects (nth sites j)) known.walk
        (was_made j (omega (arith, inside, few))) stands (front.each j inside)
        in
        subst (λ k. Stands k j) (sym (nth_more sites place j inside))
        (subst (λ o. IsFresh c i.environments s things after (nth sites j) (thing j) o) (sym (site_same j inside)) f)

    new : Stands (nth after (length sites)) (length sites)
    new =
        subst (λ k. Stands k (length sites)) (sym (nth_last sites place))
        (made_fresh c s things h g i sites place known.walk (thing (length sites)) (object_at i.objects place)
        (named (length sites) few)
        (was_made (length sites) few)
        (known.stand (length sites) few) (kept h g sites (length sites) few front) made)

    document_same : object_at i.objects document.0 ≡ object_at h.objects document.0
    document_same =
        stays.objects document.0 (omega (arith, front.running.place.list_there, front.running.place.list_young))
        (not_list document.0 (ne_eqb document.0 c.list (λ e. omega (arith, e, front.running.place.list_young))))

    abbrev maker : Maker
    maker = maker_at s things (nth things (length sites))

    joined : Joined g w place
    joined = subst (λ v. Joined g v place) (sym host_is) (made_joined g maker place)

    grown : Front c s things i w after
    grown = record {
      running = running;
      cleared = joined_cleared h i g w place joined hosting front.own.document.0 front.cleared;
      each = all;
      hosted = λ j inside. hosts j inside (cases_lt j (length sites));
      own = owns;
      globals = ap (λ (o : Object). o.props) window_same ∙ front.globals;
      document_props = ap (λ (o : Object). o.props) document_same ∙ front.document_props;
      document_extensible = ap (λ (o : Object). o.extensible) document_same ∙ front.document_extensible;
      document_open = ap (λ (o : Object). o.closed) document_same ∙ front.document_open;
    }
      where
        same_site : (j : ℕ) → j < length sites → object_at i.objects (nth after j) ≡ object_at h.objects (nth sites j)
        same_site j inside = ap (object_at i.objects) (nth_more sites place j inside) ∙ site_same j inside

        hosts : (j : ℕ) → j < length after → (j < length sites) ⊎ (length sites ≤ j) → MadeHost s w (thing j).class (object_at i.objects (nth after j)).class
        hosts j inside (inl before) =
            subst (λ (o : Object). MadeHost s w (thing j).class o.class) (sym (same_site j before))
            (host_stays s g w place joined (thing j).class (object_at h.objects (nth sites j)).class (front.each j before).class
            (λ k on. (front.own.things j k before on).0) (front.hosted j before))
        hosts j inside (inr past) =
            let last : length sites ≡ j = omega (arith, past, inside, length-append sites (place ∷ [])) in
            subst (λ n. MadeHost s w (thing n).class (object_at i.objects (nth after n)).class) last
            (subst (λ k. MadeHost s w (thing (length sites)).class (object_at i.objects k).class) (sym (nth_last sites place))
            (subst (λ v. MadeHost s v (thing (length sites)).class (object_at i.objects place).class) (sym host_is)
            (host_made c s things g h i sites place (thing (length sites)).proto (thing (length sites)).class (object_at i.objects place)
            (named (length sites) few) made)))

        owns : OwnObjects i w after
        owns = record {
          things = λ j k inside on. by j k inside on (cases_lt j (length sites));
          document = own_joined g w place joined 0 document.0 front.cleared.hosting.sound.objects front.own.document;
        }
          where
            by : (j k : ℕ) → j < length after → IsNodeOn i (nth after j) k → (j < length sites) ⊎ (length sites ≤ j) → HasOwn w k (nth after j)
            by j k inside on (inl before) =
                subst (HasOwn w k) (sym (nth_more sites place j before))
                (own_joined g w place joined k (nth sites j) front.cleared.hosting.sound.objects
                (front.own.things j k before (ap (λ (o : Object). o.class) (sym (same_site j before)) ∙ on)))
            by j k inside on (inr past) =
                let last : j ≡ length sites = omega (arith, past, inside, length-append sites (place ∷ [])) in
                let here : nth after j ≡ place = ap (nth after) last ∙ nth_last sites place in
                subst (HasOwn w k) (sym here)
                (subst (λ v. HasOwn v k place) (sym host_is)
                (own_made c s things g h i sites place (thing (length sites)).proto (thing (length sites)).class (object_at i.objects place) k
                front.cleared.hosting.sound.objects (named (length sites) few) made (ap (λ q. (object_at i.objects q).class) (sym here) ∙ on)))

        all : (j : ℕ) → j < length (sites ++ place ∷ []) → Stands (nth after j) j
        all j inside = by (cases_lt j (length sites))
          where
            by : (j < length sites) ⊎ (length sites ≤ j) → Stands (nth after j) j
            by (inl before) = old j before
            by (inr past) =
                let last : length sites ≡ j = omega (arith, past, inside, length-append sites (place ∷ [])) in
                subst (λ n. Stands (nth after n) n) last new

  front_grows : (h : Contents) (g : Host) (i : Contents) (w : Host) (sites after : List ℕ) (n : ℕ) → n ≡ length sites → Front c s things h g sites
      → IsRunning c i after → IsHosting i w → n < length things
      → HasMade c h g i w sites after (maker_at s things (nth things n)) → (length after ≡ suc n) × Front c s things i w after
  front_grows h g i w sites after n next front running hosting few run =
      let at : after ≡ sites ++ run.place ∷ [] = run.joins in
      let made : IsMade c h g i sites run.place (maker_at s things (nth things (length sites))) (object_at i.objects run.place) =
      subst (λ m. IsMade c h g i sites run.place (maker_at s things (nth things m)) (object_at i.objects run.place)) next run.object
      in (
        ap length at ∙ longer run.place,
        subst (Front c s things i w) (sym at)
            (grown h g i w sites run.place front (subst (IsRunning c i) at running) (omega (arith, next, few)) hosting run.stays
            (subst (λ m. w ≡ made_host g (maker_at s things (nth things m)) run.place) next run.host) made),
      )
    where
      longer : (place : ℕ) → length (sites ++ place ∷ []) ≡ suc n
      longer place = omega (arith, length-append sites (place ∷ []), next)

  -- ---- one after another

  module _ (End : Contents → Host → List ℕ → Type 0) (rest : List Rebuild)
      (finish : (i : Contents) (w : Host) (sites : List ℕ) → Made c s things i w sites → Succeeds c End i w sites rest) where
    from : (ks : List ℕ) (n : ℕ) (h : Contents) (g : Host) (sites : List ℕ) → n ≡ length sites → n + length ks ≡ length things
        → ((i : ℕ) → i < length ks → nth ks i ≡ nth things (n + i))
        → Front c s things h g sites → Succeeds c End h g sites (makes n (things_at s things ks) ++ rest)
    from [] n h g sites next count same front = finish h g sites (record {
      running = front.running;
      cleared = front.cleared;
      count = omega (arith, next, count);
      each = λ m inside. front.each m (omega (arith, inside, next, count));
      hosted = λ m inside. front.hosted m (omega (arith, inside, next, count));
      own = front.own;
      globals = front.globals;
      document_props = front.document_props;
      document_extensible = front.document_extensible;
      document_open = front.document_open;
    })
    from (k ∷ ks) n h g sites next count same front = (
      subst (λ m. CanBeMade h sites n (maker_at s things m)) here (can h g sites n next few front),
      λ i w after running hosting run. later i w after
          (λ long front_after. from ks (suc n) i w after long (omega (arith, count))
          (λ j inside. same (suc j) (omega (arith, inside)) ∙ ap (nth things) (one_on n j)) front_after)
          (front_grows h g i w sites after n next front running hosting few (subst (λ m. HasMade c h g i w sites after (maker_at s things m)) (sym here) run)),
    )
      where
        few : n < length things
        few = omega (arith, count)

        here : nth things n ≡ k
        here = let none : n + 0 ≡ n = omega arith in sym (same 0 (omega arith) ∙ ap (nth things) none)

        later : (i : Contents) (w : Host) (after : List ℕ)
            → (suc n ≡ length after → Front c s things i w after → Succeeds c End i w after (makes (suc n) (things_at s things ks) ++ rest))
            → (length after ≡ suc n) × Front c s things i w after → Succeeds c End i w after (makes (suc n) (things_at s things ks) ++ rest)
        later i w after go (long, front_after) = go (sym long) front_after

-- ---- the whole phase

pub makes_succeed : (c : Scene) (s : Store) (things : List ℕ) (h : Contents) (g : Host) → Still s → IsWalk s things → HaveLiterals (plan (compact s things))
    → length things < 4294967295 → IsFirst c h g → OwnObjects h g []
    → (End : Contents → Host → List ℕ → Type 0) (rest : List Rebuild)
    → ((i : Contents) (w : Host) (sites : List ℕ) → Made c s things i w sites → Succeeds c End i w sites rest)
    → Succeeds c End h g [] (makes 0 (compact s things).things ++ rest)
makes_succeed c s things h g still walk range few first own End rest finish =
    from c s things (saved s things still walk range few) End rest finish things 0 h g [] refl (omega arith)
    (λ i inside. ap (nth things) (begin i))
    (record {
      running = first.running;
      cleared = first.cleared;
      each = λ n inside. absurd (omega (arith, inside));
      hosted = λ n inside. absurd (omega (arith, inside));
      own = own;
      globals = first.globals;
      document_props = first.document_props;
      document_extensible = first.document_extensible;
      document_open = first.document_open;
    })
  where
    begin : (i : ℕ) → i ≡ 0 + i
    begin i = omega arith
