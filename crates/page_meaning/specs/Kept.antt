-- Meaning: what no part of a script undoes.
use Rattle.std.specs.Prelude.{◌≡◌, refl, true, List, [], ◌∷◌, ◌++◌}
use Rattle.std.proofs.Common.{sym, ap, ◌∙◌}
use Rattle.object_heap.specs.Laws as heap
use Rattle.page_meaning.specs.Steps.{Step, adds_no_name, in_heap, after_step, after_steps}
use Rattle.page_meaning.specs.Store.{Store, with_heap}

-- the page changes by these steps alone: so lines stay, the heap stays sound, old objects keep their prototypes and classes, and nothing
-- is lost
pub record Keeps (s t : Store) : Type 0 where
  pub steps : List Step
  pub is : t ≡ after_steps s steps

pub after_both : (s : Store) (gs fs : List Step) → after_steps s (gs ++ fs) ≡ after_steps (after_steps s gs) fs
after_both s [] fs = refl
after_both s (g ∷ gs) fs = after_both (after_step s g) gs fs

-- nothing was done
pub keeps_all : (s : Store) → Keeps s s
keeps_all s = record { steps = []; is = refl }

-- one act after another
pub keeps_on : (s t u : Store) → Keeps s t → Keeps t u → Keeps s u
keeps_on s t u f g = record {
  steps = f.steps ++ g.steps;
  is = g.is ∙ ap (λ v. after_steps v g.steps) f.is ∙ sym (after_both s f.steps g.steps);
}

-- none of them adds a name
abbrev pub AddNone : List heap.Step → Type 0
AddNone [] = Unit {0}
AddNone (g ∷ gs) = (adds_no_name g ≡ true) × AddNone gs

abbrev pub in_heap_each : (gs : List heap.Step) → AddNone gs → List Step
in_heap_each [] h = []
in_heap_each (g ∷ gs) h = in_heap g h.0 ∷ in_heap_each gs h.1

pub in_heap_alone : (s : Store) (gs : List heap.Step) (h : AddNone gs) → with_heap s (heap.after_steps s.heap gs) ≡ after_steps s (in_heap_each gs h)
in_heap_alone s [] h = refl
in_heap_alone s (g ∷ gs) h = in_heap_alone (with_heap s (heap.after_step s.heap g)) gs h.1

-- the heap changed by these calls
pub heap_changed : (s : Store) (gs : List heap.Step) → AddNone gs → Keeps s (with_heap s (heap.after_steps s.heap gs))
heap_changed s gs h = record { steps = in_heap_each gs h; is = in_heap_alone s gs h }

-- one thing was done
pub one_step : (s : Store) (g : Step) → Keeps s (after_step s g)
one_step s g = record { steps = g ∷ []; is = refl }
