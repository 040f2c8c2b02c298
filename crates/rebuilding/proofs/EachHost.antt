-- A phase goes through all things where the host alone changes and its statements succeed for each.
use Rattle.std.proofs.Common.{◌≡◌, sym, ap, subst, ◌∙◌, ℕ, suc, ◌+◌, ◌<◌, List, [], ◌∷◌, ◌++◌, append_assoc, length, arith}
use Rattle.object_heap.specs.Heap.{Contents}
use Rattle.page_host.specs.Host.{Host}
use Rattle.page_meaning.specs.Store.{Store}
use Rattle.rebuild_plan.specs.Compact.{thing_at, things_at}
use Rattle.rebuild_plan.specs.Plan as plan
use Rattle.rebuild_plan.specs.declared.phase.Phase.{Phase}
use Rattle.rebuild_plan.specs.declared.statement.Rebuild.{Rebuild}
use Rattle.rebuilding.specs.Rebuilt.{Succeeds, nth}
use Rattle.rebuilding.specs.Scene.{IsHosting, Scene}
use Rattle.rebuilding.proofs.Basics.{one_on}

-- the statements for the thing with this number lead from its state to the next one's
abbrev pub HostStepSucceeds : Scene → (Contents → Host → List ℕ → Type 0) → Contents → Store → List ℕ → List ℕ → Phase → (ℕ → Host → Type 0) → Type 0
HostStepSucceeds c End h s things sites p State =
    (n : ℕ) (g : Host) (rs : List Rebuild) → n < length things → IsHosting h g → State n g
    → ((j : Host) → IsHosting h j → State (suc n) j → Succeeds c End h j sites rs)
    → Succeeds c End h g sites (plan.statements_of p (plan.thing_place n) (thing_at s things (nth things n)) ++ rs)

module _ (c : Scene) (End : Contents → Host → List ℕ → Type 0) (h : Contents) (s : Store) (things sites : List ℕ) (p : Phase) (State : ℕ → Host → Type 0)
    (step : HostStepSucceeds c End h s things sites p State) where
  from : (ks : List ℕ) (n : ℕ) (g : Host) (rs : List Rebuild) → n + length ks ≡ length things
      → ((j : ℕ) → j < length ks → nth ks j ≡ nth things (n + j)) → IsHosting h g → State n g
      → ((j : Host) → IsHosting h j → State (length things) j → Succeeds c End h j sites rs)
      → Succeeds c End h g sites (plan.each p n (things_at s things ks) ++ rs)
  from [] n g rs count same hosting is later =
      let all : n ≡ length things = omega (arith, count) in later g hosting (subst (λ m. State m g) all is)
  from (k ∷ ks) n g rs count same hosting is later =
      let none : n + 0 ≡ n = omega arith in
      let here : k ≡ nth things n = same 0 (omega arith) ∙ ap (nth things) none in
      let others : List Rebuild = plan.each p (suc n) (things_at s things ks) in
      let are : plan.statements_of p (plan.thing_place n) (thing_at s things (nth things n)) ++ (others ++ rs) ≡ plan.each p n (things_at s things (k ∷ ks)) ++ rs =
      ap (λ m. plan.statements_of p (plan.thing_place n) (thing_at s things m) ++ (others ++ rs)) (sym here)
      ∙ sym (append_assoc (plan.statements_of p (plan.thing_place n) (thing_at s things k)) others rs)
      in
      subst (Succeeds c End h g sites) are
      (step n g (others ++ rs) (omega (arith, count)) hosting is
      (λ j now next. from ks (suc n) j rs (omega (arith, count)) (λ i there. same (suc i) (omega (arith, there)) ∙ ap (nth things) (one_on n i)) now next later))

  pub each_host : (g : Host) (rs : List Rebuild) → IsHosting h g → State 0 g
      → ((j : Host) → IsHosting h j → State (length things) j → Succeeds c End h j sites rs)
      → Succeeds c End h g sites (plan.each p 0 (things_at s things things) ++ rs)
  each_host g rs hosting is later = from things 0 g rs (plain (length things)) (λ j there. ap (nth things) (sym (plain j))) hosting is later
    where
      plain : (m : ℕ) → 0 + m ≡ m
      plain m = omega arith
