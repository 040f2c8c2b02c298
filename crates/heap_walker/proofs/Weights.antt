-- Weights that are joined.
use Rattle.std.proofs.Common.{◌≡◌, sym, ap, subst, ◌∙◌, ℕ, ◌+◌, ◌<◌, List, drop, get_or, length, arith}
use Rattle.object_heap.specs.Chain.{object_at}
use Rattle.page_meaning.specs.Store.{Store}
use Rattle.heap_walker.specs.Weight.{Adds, Load, load, thing_load, things_load, together, told}
use Rattle.heap_walker.specs.declared.weight.Weight.{Weight}
use Rattle.heap_walker.proofs.Places.{place_of_equal}

together_again : (a b c : Load) → together (together a b) c ≡ together a (together b c)
together_again a b c =
    let things : (a.things + b.things) + c.things ≡ a.things + (b.things + c.things) = omega arith in
    let text : (a.text + b.text) + c.text ≡ a.text + (b.text + c.text) = omega arith in
    (λ j. load (things j) (text j))

together_none : (a : Load) → a ≡ together a (load 0 0)
together_none a =
    let things : a.things ≡ a.things + 0 = omega arith in
    let text : a.text ≡ a.text + 0 = omega arith in
    (λ j. load (things j) (text j))

pub adds_none : (w : Weight) → Adds w w (load 0 0)
adds_none w l is = is ∙ ap told (together_none l)

pub adds_both : (u v w : Weight) (a b : Load) → Adds u v a → Adds v w b → Adds u w (together a b)
adds_both u v w a b first next l is = next (together l a) (first l is) ∙ ap told (together_again l a b)

pub none_together : (a : Load) → together (load 0 0) a ≡ a
none_together a =
    let things : 0 + a.things ≡ a.things = omega arith in
    let text : 0 + a.text ≡ a.text = omega arith in
    (λ j. load (things j) (text j))

-- one of the things, and then those after it
pub adds_next : (s : Store) (ks xs : List ℕ) (i d : ℕ) (u v w : Weight) → xs ≡ ks → i < length ks → Adds u v (thing_load s (object_at s.heap.objects (get_or xs i d))) → Adds v w (things_load s (drop (i + 1) ks)) → Adds u w (things_load s (drop i ks))
adds_next s ks xs i d u v w same inside one others =
    subst (λ r. Adds u w (things_load s r)) (sym (place_of_equal ks xs i d same inside)) (adds_both u v w (thing_load s (object_at s.heap.objects (get_or xs i d))) (things_load s (drop (i + 1) ks)) one others)
