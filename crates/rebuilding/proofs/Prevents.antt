-- Things that get no new properties are prevented from them, and then all are as they were saved.
use Rattle.std.proofs.Common.{◌≡◌, refl, sym, ap, subst, ℕ, ◌<◌, ◌≤◌, Bool, true, false, ◌||◌, List, [], ◌∷◌, ◌++◌, length, if◌then◌else◌}
use Rattle.std.proofs.lemmas.Bool.{cond-false, or_from}
use Rattle.js_values.specs.declared.throw.Throw.TheVariants.{CannotDefine}
use Rattle.object_heap.specs.Attempt.{done, throws}
use Rattle.object_heap.specs.Chain.{object_at}
use Rattle.object_heap.specs.Define.{prevented}
use Rattle.object_heap.specs.Environment.{Environment, environment_at}
use Rattle.object_heap.specs.Heap.{Contents}
use Rattle.object_heap.specs.Object.{Object, is_window, not_extensible, with_extensible}
use Rattle.object_heap.specs.declared.object.Class.{Class}
use Rattle.page_meaning.specs.Store.{Store}
use Rattle.rebuild_plan.specs.Compact.{Thing}
use Rattle.rebuild_plan.specs.Plan.{prevent, thing_place}
use Rattle.rebuild_plan.specs.declared.statement.Rebuild.{Rebuild}
use Rattle.rebuild_plan.specs.declared.statement.Rebuild.TheVariants.{Prevent}
use Rattle.rebuilding.specs.Rebuilt.{ClassIsRebuilt, IsRebuiltAs, Succeeds, bound, fault, list, nth, page, plain, event, node}
use Rattle.rebuilding.specs.Scene.{Scene}
use Rattle.rebuilding.proofs.FillSteps.{class_window, filled}
use Rattle.rebuilding.proofs.Going.{Allowed, Going, going_begins, prevent_next}
use Rattle.rebuilding.proofs.Lasting.{round_stays}
use Rattle.rebuilding.proofs.Stages.{IsFresh}
use Rattle.rebuilding.proofs.Placed.{site_thing}
use Rattle.rebuilding.proofs.EachThing.{StepSucceeds}
use Rattle.page_host.specs.Host.{Host}

-- a thing as it was saved
abbrev pub finished : Contents → Store → List ℕ → List ℕ → ℕ → Object
finished g s things sites n = with_extensible (filled g s things sites n) (object_at s.heap.objects (nth things n)).extensible

abbrev pub prevent_thing : ℕ → Thing → List Rebuild
prevent_thing n t = prevent (thing_place n) t

pub prevents : (o : Object) → o.closed ≡ false → is_window o.class ≡ false → prevented o ≡ done (not_extensible o)
prevents o closed window =
    cond-false (o.closed || is_window o.class) (throws o CannotDefine) (done (not_extensible o)) (or_from o.closed (is_window o.class) closed window)

module _ (c : Scene) (End : Contents → Host → List ℕ → Type 0) (sites : List ℕ) (h : Contents) (w : Host) (n : ℕ) (o : Object) (rs : List Rebuild)
    (closed : o.closed ≡ false) (window : is_window o.class ≡ false) (extensible : o.extensible ≡ true)
    (going : Going c h h w sites (nth sites n) o) where
  one_prevented : (b : Bool) → Allowed (length sites) ((if b then [] else Prevent (thing_place n) ∷ []) ++ rs)
      → ((i : Contents) → Going c h i w sites (nth sites n) (with_extensible o b) → Allowed (length sites) rs → Succeeds c End i w sites rs)
      → Succeeds c End h w sites ((if b then [] else Prevent (thing_place n) ∷ []) ++ rs)
  one_prevented true allowed later = later h (subst (Going c h h w sites (nth sites n)) (ap (with_extensible o) extensible) going) allowed
  one_prevented false allowed later =
      prevent_next c End sites h w h (thing_place n) rs o (not_extensible o)
      (subst (λ k. Going c h h w sites k o) (sym (site_thing sites n)) going) allowed (prevents o closed window)
      (λ i now more. later i (subst (λ k. Going c h i w sites k (not_extensible o)) (site_thing sites n) now) more)

pub prevent_step : (c : Scene) (End : Contents → Host → List ℕ → Type 0) (s : Store) (things sites : List ℕ) (g : Contents) (w : Host)
    → ((n : ℕ) → n < length things
    → IsFresh c g.environments s things sites (nth sites n) (object_at s.heap.objects (nth things n)) (object_at g.objects (nth sites n)))
    → StepSucceeds c End s things sites w (filled g s things sites) (finished g s things sites) prevent_thing
prevent_step c End s things sites g w fresh n h rs inside running hosting is allowed later =
    let young = fresh n inside in
    let o : Object = filled g s things sites n in
    one_prevented c End sites h w n o rs young.closed (class_window young.class) young.extensible (going_begins c h w sites (nth sites n) o running hosting is)
    (object_at s.heap.objects (nth things n)).extensible allowed later

-- ---- where environments stay, classes are rebuilt still

module _ (c : Scene) (es fs : List Environment) (more : length es ≤ length fs)
    (same : (k : ℕ) → k < length es → environment_at fs k ≡ environment_at es k) where
  pub class_stays : {s : Store} {things sites : List ℕ} {k : ℕ} {C D : Class} → ClassIsRebuilt c es s things sites k C D → ClassIsRebuilt c fs s things sites k C D
  class_stays plain = plain
  class_stays list = list
  class_stays fault = fault
  class_stays (page {env = env} round) = page {env = env} (round_stays c es fs more same round)
  class_stays bound = bound
  class_stays node = node
  class_stays event = event

-- a finished thing is the one that was saved
pub finished_rebuilt : (c : Scene) (s : Store) (things sites : List ℕ) (g h : Contents) (n : ℕ) → length g.environments ≤ length h.environments
    → ((k : ℕ) → k < length g.environments → environment_at h.environments k ≡ environment_at g.environments k)
    → IsFresh c g.environments s things sites (nth sites n) (object_at s.heap.objects (nth things n)) (object_at g.objects (nth sites n))
    → IsRebuiltAs c h.environments s things sites (nth sites n) (object_at s.heap.objects (nth things n)) (finished g s things sites n)
finished_rebuilt c s things sites g h n more same fresh = record {
  class = class_stays c g.environments h.environments more same fresh.class;
  proto = fresh.proto;
  extensible = refl;
  closed = fresh.closed;
  props = refl;
}
