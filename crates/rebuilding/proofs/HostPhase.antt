-- A statement that is a step of the host leaves the objects, and what comes after it begins with the host after that step.
use Rattle.std.proofs.Common.{◌≡◌, sym, subst, ◌∙◌, ℕ, List, ◌∷◌}
use Rattle.object_heap.specs.Heap.{Contents}
use Rattle.page_host.specs.Host.{Host}
use Rattle.page_host.specs.Steps.{HostStep, after_host}
use Rattle.rebuild_plan.specs.declared.statement.Rebuild.{Rebuild}
use Rattle.rebuilding.specs.Rebuilt.{Succeeds}
use Rattle.rebuilding.specs.Running.{CanRun, HasHosted, HasRun}
use Rattle.rebuilding.specs.Scene.{IsHosting, Scene}

module _ (c : Scene) (End : Contents → Host → List ℕ → Type 0) (h : Contents) (sites : List ℕ) where
  -- the host afterwards in other words
  pub hosted_next : (g next : Host) (r : Rebuild) (rs : List Rebuild) (step : HostStep) → CanRun h g sites r
      → ((i : Contents) (j : Host) (after : List ℕ) → HasRun c h g i j sites after r → HasHosted h g i j sites after step)
      → after_host g step ≡ next → (IsHosting h next → Succeeds c End h next sites rs) → Succeeds c End h g sites (r ∷ rs)
  hosted_next g next r rs step can is leads later = (can, λ i j after running hosting ran. arrive i j after (is i j after ran) hosting)
    where
      arrive : (i : Contents) (j : Host) (after : List ℕ) → HasHosted h g i j sites after step → IsHosting i j → Succeeds c End i j after rs
      arrive i j after d hosting =
          let here : j ≡ next = d.host ∙ leads in
          subst (λ a. Succeeds c End i j a rs) (sym d.same)
          (subst (λ b. Succeeds c End b j sites rs) (sym d.heap)
          (subst (λ v. Succeeds c End h v sites rs) (sym here)
          (later (subst (λ v. IsHosting h v) here (subst (λ b. IsHosting b j) d.heap hosting)))))
