-- Events that are found are events.
use Rattle.std.proofs.Common.{◌≡◌, zero, suc, List, [], ◌∷◌, ◌++◌, Option, Some, subst, arith}
use Rattle.std.proofs.lemmas.List.Elements.{All-append}
use Rattle.std.specs.List.{All}
use Rattle.std.specs.Prelude.{IfSome}
use Rattle.js_values.specs.Event.{IsEvent}
use Rattle.js_values.specs.declared.event.Event.{Event}

one_event : (e : Event) → IsEvent e → All IsEvent (e ∷ [])
one_event e is zero d within = is
one_event e is (suc k) d within = absurd (omega arith)

pub one_more : (front : List Event) (e : Event) (o : Option Event) → All IsEvent front → IfSome o IsEvent → o ≡ Some e → All IsEvent (front ++ e ∷ [])
one_more front e o all is at = All-append IsEvent front (e ∷ []) all (one_event e (subst (λ x. IfSome x IsEvent) at is))
