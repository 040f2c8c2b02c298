-- What the statements of a phase did to each thing, one thing after another.
use Rattle.std.proofs.Common.{◌≡◌, ◌⊎◌, inl, inr, sym, ap, ◌∙◌, ℕ, ◌<◌, ◌≤◌, List, length, arith}
use Rattle.std.proofs.lemmas.Bool.{cases_eq}
use Rattle.object_heap.specs.Chain.{object_at}
use Rattle.object_heap.specs.Environment.{environment_at}
use Rattle.object_heap.specs.Heap.{Contents}
use Rattle.object_heap.specs.Object.{Object}
use Rattle.object_heap.specs.Property.{Props}
use Rattle.page_meaning.specs.Places.{document, window}
use Rattle.rebuilding.specs.Rebuilt.{nth}
use Rattle.rebuilding.specs.Scene.{IsRunning, Scene, IsHosting}
use Rattle.rebuilding.proofs.Going.{Going}
use Rattle.rebuilding.proofs.Basics.{not_in}
use Rattle.rebuilding.proofs.Placed.{some_built_in}
use Rattle.rebuilding.proofs.SitesApart.{site_there, sites_differ}
use Rattle.page_host.specs.Host.{Host}
use Rattle.rebuilding.proofs.Staying.{document_there}

-- ---- the state of a phase

-- since the page was g, each thing became its state, and the document's object this one; the global object has these properties
pub record Phase (c : Scene) (g h : Contents) (w : Host) (sites : List ℕ) (own : Props) (root : Object) (state : ℕ → Object) : Type 0 where
  pub running : IsRunning c h sites
  pub hosting : IsHosting h w
  pub more_environments : length g.environments ≤ length h.environments
  pub environments : (k : ℕ) → k < length g.environments → environment_at h.environments k ≡ environment_at g.environments k
  pub things : (n : ℕ) → n < length sites → object_at h.objects (nth sites n) ≡ state n
  pub document : object_at h.objects document.0 ≡ root
  pub globals : (object_at h.objects window.0).props ≡ own

-- once the globals are defined
pub phase_begins : (c : Scene) (g h : Contents) (w : Host) (sites : List ℕ) (o : Object) → IsRunning c g sites → Going c g h w sites window.0 o
    → Phase c g h w sites o.props (object_at g.objects document.0) (λ n. object_at g.objects (nth sites n))
phase_begins c g h w sites o running going = record {
  running = going.running;
  hosting = going.hosting;
  more_environments = going.stays.more_environments;
  environments = going.stays.environments;
  things =
      λ n inside. let there = site_there c g sites n running inside in going.stays.objects (nth sites n) there.1
      (not_in (nth sites n) 0 (λ same. omega (arith, there.0, some_built_in, same)));
  document = going.stays.objects document.0 (document_there c g sites running) (not_in document.0 window.0 (λ same. omega (arith, same, some_built_in)));
  globals = ap (λ (q : Object). q.props) going.object;
}

-- one thing changes
pub phase_next : (c : Scene) (g h i : Contents) (w : Host) (sites : List ℕ) (own : Props) (root : Object) (state next : ℕ → Object) (n : ℕ) (o : Object)
    → Phase c g h w sites own root state → n < length sites
    → Going c h i w sites (nth sites n) o → next n ≡ o → ((m : ℕ) → (m ≡ n → ⊥) → next m ≡ state m) → Phase c g i w sites own root next
phase_next c g h i w sites own root state next n o phase inside going is kept = record {
  running = going.running;
  hosting = going.hosting;
  more_environments = omega (arith, phase.more_environments, going.stays.more_environments);
  environments = λ k there. going.stays.environments k (omega (arith, there, phase.more_environments)) ∙ phase.environments k there;
  things = λ m within. by m within (cases_eq m n);
  document =
      going.stays.objects document.0 (document_there c h sites phase.running)
      (not_in document.0 (nth sites n) (λ same. omega (arith, (site_there c h sites n phase.running inside).0, same)))
      ∙ phase.document;
  globals =
      ap (λ (q : Object). q.props)
      (going.stays.objects window.0 low
      (not_in 0 (nth sites n) (λ same. omega (arith, (site_there c h sites n phase.running inside).0, some_built_in, same)))) ∙ phase.globals;
}
  where
    low : 0 < length h.objects
    low = omega (arith, (site_there c h sites n phase.running inside).1)

    by : (m : ℕ) → m < length sites → (m ≡ n) ⊎ (m ≡ n → ⊥) → object_at i.objects (nth sites m) ≡ next m
    by m within (inl same) = ap (λ q. object_at i.objects (nth sites q)) same ∙ going.object ∙ sym is ∙ ap next (sym same)
    by m within (inr other) =
        going.stays.objects (nth sites m) (site_there c h sites m phase.running within).1
        (not_in (nth sites m) (nth sites n) (sites_differ sites m n phase.running.place.rising within inside other))
        ∙ phase.things m within ∙ sym (kept m other)

-- the same states in other words
pub phase_same : (c : Scene) (g h : Contents) (w : Host) (sites : List ℕ) (own : Props) (root : Object) (state next : ℕ → Object)
    → Phase c g h w sites own root state → ((n : ℕ) → n < length sites → next n ≡ state n) → Phase c g h w sites own root next
phase_same c g h w sites own root state next phase same = record {
  running = phase.running;
  hosting = phase.hosting;
  more_environments = phase.more_environments;
  environments = phase.environments;
  things = λ n inside. phase.things n inside ∙ sym (same n inside);
  document = phase.document;
  globals = phase.globals;
}

-- the document's object changes
pub phase_document : (c : Scene) (g h i : Contents) (w : Host) (sites : List ℕ) (own : Props) (root next : Object) (state : ℕ → Object)
    → Phase c g h w sites own root state → Going c h i w sites document.0 next → Phase c g i w sites own next state
phase_document c g h i w sites own root next state phase going = record {
  running = going.running;
  hosting = going.hosting;
  more_environments = omega (arith, phase.more_environments, going.stays.more_environments);
  environments = λ k there. going.stays.environments k (omega (arith, there, phase.more_environments)) ∙ phase.environments k there;
  things =
      λ n inside. let there = site_there c h sites n phase.running inside in
      going.stays.objects (nth sites n) there.1 (not_in (nth sites n) document.0 (λ same. omega (arith, there.0, same))) ∙ phase.things n inside;
  document = going.object;
  globals =
      ap (λ (q : Object). q.props)
      (going.stays.objects window.0 (omega (arith, document_there c h sites phase.running))
      (not_in window.0 document.0 (λ same. omega (arith, same, some_built_in)))) ∙ phase.globals;
}

-- the host changes
pub phase_hosted : (c : Scene) (g h : Contents) (w v : Host) (sites : List ℕ) (own : Props) (root : Object) (state : ℕ → Object)
    → Phase c g h w sites own root state → IsHosting h v → Phase c g h v sites own root state
phase_hosted c g h w v sites own root state phase hosting = record {
  running = phase.running;
  hosting = hosting;
  more_environments = phase.more_environments;
  environments = phase.environments;
  things = phase.things;
  document = phase.document;
  globals = phase.globals;
}
