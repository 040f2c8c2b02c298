-- Meaning: loops (section 12.6). A turn takes a step, so a loop has no more turns than steps are left at its start.
use Rattle.std.specs.Prelude.{ℕ, zero, suc, Bool, true, not, ◌&&◌, List, [], ◌∷◌, ◌++◌, Option, Some, None, is_some, map, bytes_eq, if◌then◌else◌}
use Rattle.std.specs.Fmt.{decimal}
use Rattle.std.specs.List.{list_any}
use Rattle.std.specs.Map.{keys_of}
use Rattle.js_values.specs.declared.ids.ObjId.{ObjId}
use Rattle.js_values.specs.declared.value.Value.{Value}
use Rattle.js_values.specs.declared.value.Value.TheVariants.{Undefined, Null, Bool as Truth, Num, Text, Object}
use Rattle.object_heap.specs.Chain.{object_at}
use Rattle.object_heap.specs.Define.{length_name}
use Rattle.object_heap.specs.Object as heap
use Rattle.object_heap.specs.Property.{own_property, Props}
use Rattle.page_meaning.specs.declared.signal.Signal.{Signal}
use Rattle.page_meaning.specs.declared.signal.Signal.TheVariants.{Value as Val, Thrown, Return, Break, Continue}
use Rattle.page_meaning.specs.Act.{Act, ret, bind, done, also, asking, choose}
use Rattle.whole_ops.specs.Conversions.{is_true}
use Rattle.page_meaning.specs.Places.{string_prototype, number_prototype, boolean_prototype}
use Rattle.page_meaning.specs.Primitives.{stop, take_step}
use Rattle.page_meaning.specs.Store.{Store}

-- what a loop makes of the end of its body
abbrev pub turned : Act → Signal → Act
turned next (Val v) = next
turned next Continue = next
turned next Break = done
turned next (Thrown v) = ret (Thrown v)
turned next (Return v) = ret (Return v)

-- a turn: its step, its body, and then what comes next
abbrev pub turn : Act → Act → Act
turn body next = bind take_step (λ _. bind body (turned next))

abbrev pub turn_if : Act → Act → Value → Act
turn_if body next v = choose (is_true v) (turn body next) done

-- so many turns at most: the test, the body, and what stands last in the header
abbrev pub turns : ℕ → Act → Act → Act → Act
turns zero test body last = stop
turns (suc k) test body last = also test (turn_if body (also last (λ _. turns k test body last)))

abbrev pub loop : Act → Act → Act → Act
loop test body last = record {
  run = λ s n. (turns (suc n) test body last).run s n;
  leads = λ s n. (turns (suc n) test body last).leads s n;
}

-- names with the object that has them; no object for a unit of a text
abbrev pub Listed : Type 0
Listed = List (Option ObjId × List ℕ)

abbrev pub unit_names : ℕ → List ℕ → Listed
unit_names k [] = []
unit_names k (u ∷ us) = (None, decimal k) ∷ unit_names (suc k) us

-- an object's enumerable names that no object before it has; a name hides whether it is enumerable or not
abbrev pub listed_own : ObjId → List (List ℕ) → Props → Listed
listed_own at seen [] = []
listed_own at seen (e ∷ es) =
    if e.1.enumerable && not (list_any (bytes_eq e.0) seen) then (Some at, e.0) ∷ listed_own at seen es
    else listed_own at seen es

-- those of the first so many objects of the chain from here up
abbrev pub listed_from : List heap.Object → ℕ → List (List ℕ) → Option ObjId → Listed
listed_from objects zero seen at = []
listed_from objects (suc n) seen None = []
listed_from objects (suc n) seen (Some at) =
    listed_own at seen (object_at objects at.0).props
    ++ listed_from objects n (seen ++ keys_of (object_at objects at.0).props) (object_at objects at.0).proto

abbrev pub listed_up : Store → List (List ℕ) → Option ObjId → Listed
listed_up s seen None = []
listed_up s seen (Some at) = listed_from s.heap.objects (suc at.0) seen (Some at)

-- what for-in visits, fixed at its start (12.6.4). A text's own `length`, which is not listed, hides others (15.5.5.1)
abbrev pub listed_of : Store → Value → Listed
listed_of s Undefined = []
listed_of s Null = []
listed_of s (Truth b) = listed_up s [] boolean_prototype
listed_of s (Num n) = listed_up s [] number_prototype
listed_of s (Text t) = unit_names 0 t ++ listed_up s (length_name ∷ map (λ p. p.1) (unit_names 0 t)) string_prototype
listed_of s (Object at) = listed_up s [] (Some at)

-- the holder still has the name
abbrev pub is_held : Option ObjId → List ℕ → Store → Bool
is_held None x s = true
is_held (Some at) x s = is_some (own_property (object_at s.heap.objects at.0).props x)

-- a turn for each name: its step comes before the test that it is still there
abbrev pub each_name : (Value → Act) → Act → Listed → Act
each_name target body [] = done
each_name target body (p ∷ ps) =
    bind take_step (λ _. asking (is_held p.0 p.1) (λ there. choose there (also (target (Text p.1)) (λ _. bind body (turned (each_name target body ps)))) (each_name target body ps)))
