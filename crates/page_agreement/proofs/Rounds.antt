-- What two functions at rest that correspond find round them: their own names, what they need, and nothing else of the page.
use Rattle.std.proofs.Common.{◌≡◌, refl, sym, subst, ℕ, Bool, true, false, List, [], ◌∷◌, Option, bytes_eq}
use Rattle.std.proofs.lemmas.Slice.Eq.{bytes_eq-Decides}
use Rattle.code_table.specs.Declarations.{name_of}
use Rattle.heap_relations.specs.Naming.{Absent, BaseRel, Named, Sealed, SealedRel, World, named, sealed, unbound}
use Rattle.heap_relations.specs.Related.{Entries, Links, ValueRel, entry, object}
use Rattle.heap_walker.specs.Still.{IsFunctionAtRest, other_names}
use Rattle.heap_walker.specs.Things.{bound_value, bound_values}
use Rattle.js_core.specs.Tree.{Code}
use Rattle.js_values.specs.declared.ids.EnvId.{EnvId}
use Rattle.object_heap.specs.Environment.{AreInside}
use Rattle.object_heap.specs.Heap.{look_in}
use Rattle.page_meaning.specs.Store.{Store}
use Rattle.rebuilding.proofs.Callers.{need_at_rest, other_at_rest, own_at_rest, round_names}
use Rattle.rebuilding.specs.Frames.{is_own, round_frame}
use Rattle.scope_analysis.specs.Names.{is_among}
use Rattle.scope_analysis.specs.Needs.{needed_variables}
use Rattle.heap_relations.specs.Naming.{Pair}
use Rattle.page_agreement.proofs.World.{pair_world}

-- ---- values of needed variables

needs_rel : {L : Links} (s t : Store) (env round : Option EnvId) (xs ys : List (List ℕ)) (x : List ℕ)
    → Entries (ValueRel L) (bound_values s env xs) (bound_values t round ys) → is_among x xs ≡ true → ValueRel L (bound_value s env x) (bound_value t round x)
needs_rel s t env round [] ys x all among = cc among
needs_rel s t env round (y ∷ xs) [] x all among = elim all [ ]
needs_rel {L = L} s t env round (y ∷ xs) (z ∷ ys) x (entry {name = name} h hs) among = by (bytes_eq x name) refl (λ more. needs_rel s t env round xs ys x hs more)
  where
    by : (b : Bool) → bytes_eq x name ≡ b → (is_among x xs ≡ true → ValueRel L (bound_value s env x) (bound_value t round x))
        → ValueRel L (bound_value s env x) (bound_value t round x)
    by true e later = subst (λ z. ValueRel L (bound_value s env z) (bound_value t round z)) (sym ((bytes_eq-Decides x name).0 e)) h
    by false e later = later (rw e at among)

pub need_rel : {L : Links} (s t : Store) (env round : Option EnvId) (xs : List (List ℕ)) (x : List ℕ)
    → Entries (ValueRel L) (bound_values s env xs) (bound_values t round xs) → is_among x xs ≡ true → ValueRel L (bound_value s env x) (bound_value t round x)
need_rel s t env round xs x all among = needs_rel s t env round xs xs x all among

-- ---- both sides

module _ (m : List Pair) (s t : Store) (ages : AreInside s.heap.environments) (years : AreInside t.heap.environments) (k j : ℕ)
    (both : Named (pair_world s t m) k j) (source : Code) (env round : Option EnvId) (left : IsFunctionAtRest s k source env)
    (right : IsFunctionAtRest t j source round)
    (values : (x : List ℕ) → is_among x (needed_variables source) ≡ true
    → ValueRel (named (pair_world s t m)) (bound_value s env x) (bound_value t round x)) where
  abbrev W : World
  W = pair_world s t m

  own_sealed : (x : List ℕ) → is_own (name_of source) x ≡ true
      → SealedRel (named W) Sealed (look_in s.heap.environments env x) (look_in t.heap.environments round x)
  own_sealed x own =
      let one = own_at_rest s ages k env (name_of source) left.own_name x own in
      let two = own_at_rest t years j round (name_of source) right.own_name x own in
      rw (one.is, two.is) (sealed (object both))

  need_sealed : (x : List ℕ) → is_among x (needed_variables source) ≡ true
      → SealedRel (named W) Sealed (look_in s.heap.environments env x) (look_in t.heap.environments round x)
  need_sealed x among =
      let one = need_at_rest s k source env left x among in
      let two = need_at_rest t j source round right x among in
      rw (one.is, two.is) (sealed (values x among))

  other_absent : (x : List ℕ) → is_among x (other_names source) ≡ true
      → SealedRel (named W) Absent (look_in s.heap.environments env x) (look_in t.heap.environments round x)
  other_absent x among =
      let one = other_at_rest s k source env left x among in
      let two = other_at_rest t j source round right x among in
      rw (one, two) unbound

  pub base_rel : BaseRel (pair_world s t m) (record { one = env; two = round; frame = round_frame source }) s.heap.environments t.heap.environments
  base_rel = record {
    names = λ x free.
        round_names W source (look_in s.heap.environments env) (look_in t.heap.environments round) own_sealed need_sealed (λ y own need among. other_absent y among) x;
    one_inside = left.there;
    two_inside = right.there;
    one_apart = λ u i o. elim i [ ];
    two_apart = λ u i o. elim i [ ];
  }
