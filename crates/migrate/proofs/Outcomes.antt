-- What is found of a page after events: it is too large, or it can be saved; it is one of these, in one way.
use Rattle.std.proofs.Common.{◌≡◌, ℕ, List, refl, sym, ◌∙◌, subst}
use Rattle.js_values.specs.declared.event.Event.{Event}
use Rattle.page_meaning.specs.Pages.{run_of}
use Rattle.page_meaning.specs.Store.{Store}
use Rattle.heap_walker.specs.Things.{IsWalk}
use Rattle.heap_walker.specs.Weight.{load_of, told}
use Rattle.heap_walker.specs.declared.weight.Weight.{Weight}
use Rattle.heap_walker.proofs.Callers.{walks_are_same}
use Rattle.read_files.specs.Page.{Page, opened}
use Rattle.migrate.specs.Saving.{IsAfter, IsTooMuch, IsTooLarge, IsMovable}
use Rattle.migrate.proofs.Walking.{some_walk}

-- ---- there is one state and one walk

module _ (page : Page) (events : List Event) where
  -- so what holds of the one holds of the other
  carried : (P : Store → List ℕ → Type 0) (s t : Store) (ks js : List ℕ) → IsAfter page events s ks → IsAfter page events t js → P s ks → P t js
  carried P s t ks js a b h =
      let state : s ≡ t = a.state ∙ sym b.state in
      let walk = walks_are_same t ks js (subst (λ u. IsWalk u ks) state a.walked) b.walked in
      subst (P t) walk (subst (λ u. P u ks) state h)

  -- ---- no two are found, and one in one way

  pub one_weight : (v w : Weight) → IsTooLarge page events v → IsTooLarge page events w → v ≡ w
  one_weight v w l m =
      carried (λ s ks. v ≡ told (load_of s ks)) l.state m.state l.things m.things l.after m.after l.weighed ∙ sym m.weighed

  pub large_or_little : (w : Weight) → IsTooLarge page events w → IsMovable page events → ⊥
  large_or_little w l m =
      let more : IsTooMuch (told (load_of l.state l.things)) = subst IsTooMuch l.weighed l.more in
      m.little (carried (λ s ks. IsTooMuch (told (load_of s ks))) l.state m.state l.things m.things l.after m.after more)

  -- ---- one is found

  pub some_outcome : ((w : Weight) → IsTooLarge page events w → ⊥) → (IsMovable page events → ⊥) → ⊥
  some_outcome large movable = some_walk s (λ things walked. at_walk things (after things walked))
    where
      s : Store
      s = run_of (opened page) events

      after : (things : List ℕ) → IsWalk s things → IsAfter page events s things
      after things walked = record { state = refl; walked = walked }

      little : (things : List ℕ) → IsAfter page events s things → ¬ IsTooMuch (told (load_of s things))
      little things a much =
          large (told (load_of s things)) (record { state = s; things = things; after = a; weighed = refl; more = much })

      at_walk : (things : List ℕ) → IsAfter page events s things → ⊥
      at_walk things a = movable (record { state = s; things = things; after = a; little = little things a })
