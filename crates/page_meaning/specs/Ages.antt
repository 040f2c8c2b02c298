-- Meaning: the ages of the built-in objects. `window` comes first, then `Object.prototype`, then `Function.prototype`; the others get their
-- ages by a walk that begins at `window`: it goes through the own properties of an object in order, and at once into each object that one
-- of them holds, unless it was walked before.
use Rattle.std.specs.Prelude.{◌≡◌, ℕ, zero, suc, ◌+◌, Bool, not, List, [], ◌∷◌, ◌++◌, filter, length, nat_eq, nat_lt, if◌then◌else◌}
use Rattle.std.specs.List.{list_any}
use Rattle.js_values.specs.declared.built_in.BuiltIn.{BuiltIn}
use Rattle.js_values.specs.declared.value.Value.{Value}
use Rattle.js_values.specs.declared.value.Value.TheVariants.{Object}
use Rattle.object_heap.specs.declared.object.Class.TheVariants.{Native}
use Rattle.object_heap.specs.Chain.{object_at}
use Rattle.object_heap.specs.Object as heap
use Rattle.object_heap.specs.Property.{Props}
use Rattle.page_meaning.specs.Places.{built_in_count, function_place}
use Rattle.page_meaning.specs.Pristine.{built_ins}

-- the object that a value is, if it is one of the list: so the document's is not walked
abbrev pub place_in : List heap.Object → Value → List ℕ
place_in objects (Object at) = if nat_lt at.0 (length objects) then at.0 ∷ [] else []
place_in objects v = []

-- what the properties hold, in order
abbrev pub held_by : List heap.Object → Props → List ℕ
held_by objects [] = []
held_by objects (p ∷ ps) = place_in objects p.1.value ++ held_by objects ps

abbrev pub has_place : ℕ → List ℕ → Bool
has_place k ks = list_any (nat_eq k) ks

-- so many turns of the walk, with what was walked, and what is to be walked next
abbrev pub walked : ℕ → List heap.Object → List ℕ → List ℕ → List ℕ
walked zero objects met next = met
walked (suc n) objects met [] = met
walked (suc n) objects met (k ∷ next) =
    if has_place k met then walked n objects met next
    else walked n objects (met ++ k ∷ []) (held_by objects (object_at objects k).props ++ next)

-- how many properties hold an object
abbrev pub links_in : List heap.Object → List heap.Object → ℕ
links_in objects [] = 0
links_in objects (o ∷ os) = length (held_by objects o.props) + links_in objects os

-- the objects by age
abbrev pub first_three : List ℕ
first_three = 0 ∷ 1 ∷ 2 ∷ []

abbrev pub by_age : List heap.Object → List ℕ
by_age objects = first_three ++ filter (λ k. not (has_place k first_three)) (walked (suc (links_in objects objects)) objects [] (0 ∷ []))

abbrev pub count_from : ℕ → ℕ → List ℕ
count_from k zero = []
count_from k (suc n) = k ∷ count_from (suc k) n

-- the list of built-in objects is in this order, and all of it is met
abbrev pub AreByAge : Type 0
AreByAge = by_age built_ins ≡ count_from 0 (length built_ins)

-- the place of a built-in function has it
abbrev pub IsPlaced : BuiltIn → Type 0
IsPlaced which = (object_at built_ins (function_place which)).class ≡ Native which

abbrev pub AreCounted : Type 0
AreCounted = length built_ins ≡ built_in_count
