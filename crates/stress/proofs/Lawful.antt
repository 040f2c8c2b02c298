-- The stage of `stress` has one cause at most, and one or it is passed.
use Rattle.std.proofs.Common.{◌≡◌, ℕ, List, [], ◌∷◌, refl, sym, ap, subst, ◌∙◌}
use Rattle.heap_walker.specs.declared.weight.Weight.{Weight}
use Rattle.js_values.specs.declared.event.Event.{Event}
use Rattle.outcomes.specs.declared.status.Status.{Status}
use Rattle.outcomes.specs.declared.status.Status.TheVariants as status
use Rattle.outcomes.specs.Lawful.{AreDecided, AreExclusive, IsDecided, IsExclusive, nothing_before}
use Rattle.outcomes.specs.Seen.{Seen}
use Rattle.outcomes.specs.Stages.{StopsAt}
use Rattle.read_files.specs.Page.{Page}
use Rattle.migrate.specs.Saving.{IsTooLarge}
use Rattle.migrate.proofs.Callers.{large_or_little, one_weight, some_outcome}
use Rattle.stress.specs.Stress.{earlier, IsMade, IsPartCount, IsTooLargeHalfway}
use Rattle.stress.specs.Works.{halfway}
use Rattle.stress.proofs.Faring.{IsMadeOnce, MadePages, OneAcceptance, same_list, same_page}

module _ (n : ℕ) where
  stops_halfway : (seen : Seen) (s : Status) → ¬ (s ≡ status.OutOfMemory) → StopsAt (halfway n) s seen → (w : Weight) × (s ≡ status.TooLarge w) × IsTooLargeHalfway n w
  stops_halfway seen (status.TooLarge w) m h = (w, refl, h)
  stops_halfway seen status.OutOfMemory m h = absurd (m refl)
  stops_halfway seen s m h = absurd h

  module _ (one : OneAcceptance) where
    -- what holds of one generated page holds of the other
    carried : (P : Page → List Event → Type 0) (page other : Page) (es ds : List Event) → IsMade n page es → IsMade n other ds → P page (earlier es) → P other (earlier ds)
    carried P page other es ds a b h =
        subst (λ (events : List Event). P other (earlier events)) (same_list n page other es ds a b)
        (subst (λ (p : Page). P p (earlier es)) (same_page n one page other es ds a b) h)

    halfway_exclusive : IsExclusive (halfway n)
    halfway_exclusive = record {
      one = λ seen s t q m k h g.
          let a = stops_halfway seen s m h in
          let b = stops_halfway seen t k g in
          let other = carried (λ page events. IsTooLarge page events a.0) a.2.page b.2.page a.2.events b.2.events a.2.made b.2.made a.2.large in
          a.1 ∙ ap status.TooLarge (one_weight b.2.page (earlier b.2.events) a.0 b.0 other b.2.large) ∙ sym b.1;
      apart = λ seen s q m h pass.
          let a = stops_halfway seen s m h in
          let other = carried (λ page events. IsTooLarge page events a.0) a.2.page pass.page a.2.events pass.events a.2.made pass.made a.2.large in
          large_or_little pass.page (earlier pass.events) a.0 other pass.movable;
    }

    pub stress_exclusive : AreExclusive (halfway n ∷ [])
    stress_exclusive = (halfway_exclusive, tt)

  halfway_decided : IsMadeOnce n → IsDecided nothing_before (halfway n)
  halfway_decided made seen before asked behind never = some_outcome made.0 (earlier made.1)
      (λ w is. never (status.TooLarge w) (λ e. cc) (record { page = made.0; events = made.1; made = made.2; large = is }))
      (λ is. behind (record { passes = record { page = made.0; events = made.1; made = made.2; movable = is }; none = never }))

  pub stress_decided : MadePages → IsPartCount n → AreDecided nothing_before (halfway n ∷ [])
  stress_decided made parts = (halfway_decided (made n parts), tt)
