-- Two pages in which the same was changed of a built-in object have related objects there, and so have two whose globals are related.
use Rattle.std.proofs.Common.{◌≡◌, refl, sym, ap, subst, ◌∙◌, ℕ, ◌<◌, Bool, true, false, not, ◌&&◌, List, ◌++◌, Some, None}
use Rattle.std.proofs.lemmas.Bool.{and_from, lt-ltb}
use Rattle.heap_relations.proofs.Callers.{entries_append}
use Rattle.heap_relations.specs.Related.{ClassRel, Entries, Links, Maybe, ObjectIds, ObjectRel, PropRel, none, window}
use Rattle.heap_walker.specs.Still.{Still}
use Rattle.heap_walker.specs.Things.{globals_of}
use Rattle.object_heap.specs.Chain.{object_at}
use Rattle.object_heap.specs.Heap.{Contents}
use Rattle.object_heap.specs.Object.{Object}
use Rattle.object_heap.specs.Property.{Props, own_property}
use Rattle.object_heap.specs.declared.property.Prop.{Prop}
use Rattle.object_heap.specs.declared.object.Class.TheVariants as class
use Rattle.object_shapes.proofs.Callers.{built_in_closed}
use Rattle.object_shapes.specs.Links.{props_links}
use Rattle.object_shapes.specs.Shapes.{IsWindow, built_in_at}
use Rattle.page_host.specs.Host.{Host}
use Rattle.page_meaning.specs.Places as places
use Rattle.page_meaning.specs.Places.{built_in_count}
use Rattle.page_meaning.specs.Store.{Store}
use Rattle.rebuild_plan.proofs.Callers.{none_changed}
use Rattle.rebuild_plan.specs.Changes.{Changed, changed_as, changes_of, is_built_in_place}
use Rattle.rebuild_plan.specs.Compact.{moved_props, place_of}
use Rattle.rebuilding.proofs.ByPlaces.{props_rel}
use Rattle.rebuilding.proofs.Globals.{window_props}
use Rattle.rebuilding.proofs.Known.{AreKnown, IsKnown}
use Rattle.rebuilding.specs.Scene.{IsRunning, Scene, page_with}

-- ---- what is built in

-- it can neither be written nor configured
abbrev pub is_fixed : Prop → Bool
is_fixed p = not p.writable && not p.configurable

-- the object at the place keeps the class, the prototype and the fixed properties that it was made with. Where it is closed it is as it was
-- made; else what its properties hold is known
pub record IsBuiltAt (things : List ℕ) (k : ℕ) (o : Object) : Type 0 where
  pub class : o.class ≡ (built_in_at k).class
  pub proto : o.proto ≡ (built_in_at k).proto
  pub fixed : (x : List ℕ) (p : Prop) → own_property (built_in_at k).props x ≡ Some p → is_fixed p ≡ true → own_property o.props x ≡ Some p
  pub whole : o.closed ≡ true → o ≡ built_in_at k
  pub known : o.closed ≡ false → AreKnown things (props_links o.props)

-- one that is as it was made is closed
pub as_made : (things : List ℕ) (k : ℕ) (o : Object) → 0 < k → o ≡ built_in_at k → IsBuiltAt things k o
as_made things k o past is = record {
  class = ap (λ (p : Object). p.class) is;
  proto = ap (λ (p : Object). p.proto) is;
  fixed = λ x p e kept. ap (λ (q : Object). own_property q.props x) is ∙ e;
  whole = λ shut. is;
  known = λ free. absurd (both o.closed free (ap (λ (p : Object). p.closed) is ∙ built_in_closed k past));
}
  where
    both : (b : Bool) → b ≡ false → b ≡ true → ⊥
    both b no_more so = cc (no_more, so)

-- ---- what was changed of it

abbrev now : List ℕ → Object → Changed
now things o = record { props = moved_props things o.props; extensible = o.extensible }

closed_told : (things : List ℕ) (o : Object) → o.closed ≡ true → changed_as things o ≡ None
closed_told things o shut = rw shut refl

free_told : (things : List ℕ) (o : Object) → o.closed ≡ false → changed_as things o ≡ Some (now things o)
free_told things o free = rw free refl

some_same : (c d : Changed) → Some c ≡ Some d → c ≡ d
some_same c d e = cc e

-- its change is told where it is built in
change_told : (s : Store) (things : List ℕ) (k : ℕ) → 0 < k → k < built_in_count → changes_of s things k ≡ changed_as things (object_at s.heap.objects k)
change_told s things k past low =
    let here : is_built_in_place k ≡ true = and_from _ _ (lt-ltb 0 k past) (lt-ltb k built_in_count low) in
    rw here refl

-- nothing was changed of what is built in, in the page that was rebuilt as in the one that was saved
pub changes_same : (c : Scene) (s : Store) (things : List ℕ) (h : Contents) (g : Host) (sites : List ℕ) → Still s → IsRunning c h sites → (k : ℕ)
    → changes_of (page_with h g) sites k ≡ changes_of s things k
changes_same c s things h g sites still running k =
    none_changed (page_with h g) sites running.own.objects k ∙ sym (none_changed s things still.shaped.built_ins k)

-- ---- two pages

module _ (L : Links) (ks js : List ℕ) (same_place : (a b : ℕ) → IsKnown ks a → IsKnown js b → place_of ks a ≡ place_of js b → L.object a b) where
  objects_alike : (k : ℕ) (o p : Object) → ObjectRel L (built_in_at k) (built_in_at k) → IsBuiltAt ks k o → IsBuiltAt js k p
      → changed_as ks o ≡ changed_as js p → ObjectRel L o p
  objects_alike k o p itself one two same = by o.closed refl p.closed refl
    where
      by : (a : Bool) → o.closed ≡ a → (b : Bool) → p.closed ≡ b → ObjectRel L o p
      by true shut true closed =
          subst (λ x. ObjectRel L x p) (sym (one.whole shut)) (subst (λ y. ObjectRel L (built_in_at k) y) (sym (two.whole closed)) itself)
      by true shut false free = cc (sym (closed_told ks o shut) ∙ same ∙ free_told js p free)
      by false free true shut = cc (sym (free_told ks o free) ∙ same ∙ closed_told js p shut)
      by false left false right =
          let told : now ks o ≡ now js p = some_same (now ks o) (now js p) (sym (free_told ks o left) ∙ same ∙ free_told js p right) in
          let kind : ClassRel L o.class p.class =
          subst (λ d. ClassRel L d p.class) (sym one.class) (subst (λ d. ClassRel L (built_in_at k).class d) (sym two.class) itself.class)
          in
          let above : Maybe (ObjectIds L) o.proto p.proto =
          subst (λ q. Maybe (ObjectIds L) q p.proto) (sym one.proto) (subst (λ q. Maybe (ObjectIds L) (built_in_at k).proto q) (sym two.proto) itself.proto)
          in
          record {
            class = kind;
            proto = above;
            extensible = ap (λ (c : Changed). c.extensible) told;
            closed = left ∙ sym right;
            props = props_rel L ks js same_place o.props p.props (ap (λ (c : Changed). c.props) told) (one.known left) (two.known right);
          }

  -- the built-in object at the place, of which the compact pages tell the same change
  pub built_in_alike : (s t : Store) (k : ℕ) → 0 < k → k < built_in_count → ObjectRel L (built_in_at k) (built_in_at k)
      → IsBuiltAt ks k (object_at s.heap.objects k) → IsBuiltAt js k (object_at t.heap.objects k) → changes_of s ks k ≡ changes_of t js k
      → ObjectRel L (object_at s.heap.objects k) (object_at t.heap.objects k)
  built_in_alike s t k past low itself one two same =
      objects_alike k (object_at s.heap.objects k) (object_at t.heap.objects k) itself one two
      (sym (change_told s ks k past low) ∙ same ∙ change_told t js k past low)

-- the global objects, where their built-in properties are related to themselves, and the globals that scripts made are
pub windows_alike : (L : Links) (s t : Store) → IsWindow (object_at s.heap.objects places.window.0) → IsWindow (object_at t.heap.objects places.window.0)
    → Entries (PropRel L) (built_in_at places.window.0).props (built_in_at places.window.0).props → Entries (PropRel L) (globals_of s) (globals_of t)
    → ObjectRel L (object_at s.heap.objects places.window.0) (object_at t.heap.objects places.window.0)
windows_alike L s t l r built others =
    let o : Object = object_at s.heap.objects places.window.0 in
    let p : Object = object_at t.heap.objects places.window.0 in
    let first : Props = (built_in_at places.window.0).props in
    let whole : Entries (PropRel L) o.props p.props =
    subst (λ ps. Entries (PropRel L) ps p.props) (sym (window_props s l))
    (subst (λ qs. Entries (PropRel L) (first ++ globals_of s) qs) (sym (window_props t r)) (entries_append built others))
    in
    let kind : ClassRel L o.class p.class =
    subst (λ d. ClassRel L d p.class) (sym l.class) (subst (λ d. ClassRel L class.Window d) (sym r.class) window)
    in
    let above : Maybe (ObjectIds L) o.proto p.proto =
    subst (λ q. Maybe (ObjectIds L) q p.proto) (sym l.proto) (subst (λ q. Maybe (ObjectIds L) None q) (sym r.proto) none)
    in
    record { class = kind; proto = above; extensible = l.extensible ∙ sym r.extensible; closed = l.closed ∙ sym r.closed; props = whole }
