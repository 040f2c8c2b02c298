-- What a function that was rebuilt finds round it: its own name as it was, what it needs, and nothing else of the page.
use Rattle.std.proofs.Common.{◌≡◌, refl, sym, subst, ℕ, ◌<◌, Bool, true, false, not, List, [], ◌∷◌, Option, Some, None, length, filter, map}
use Rattle.std.proofs.lemmas.Slice.Eq.{bytes_eq-Decides}
use Rattle.std.specs.List.{list_all}
use Rattle.std.specs.Option.{ForSome}
use Rattle.std.proofs.lemmas.Bool.{not-true}
use Rattle.code_table.specs.Declarations.{name_of}
use Rattle.js_core.specs.Tree.{Code, func}
use Rattle.js_values.specs.declared.ids.EnvId.{EnvId}
use Rattle.js_values.specs.declared.value.Value.TheVariants.{Object as Reference}
use Rattle.object_heap.specs.Environment.{AreInside, Bound}
use Rattle.object_heap.specs.Heap.{Contents, look_in, lookup}
use Rattle.page_meaning.specs.Places.{at_place}
use Rattle.page_meaning.specs.Store.{Store}
use Rattle.scope_analysis.specs.Needs.{needed_variables}
use Rattle.scope_analysis.specs.Identifiers.{is_reserved}
use Rattle.scope_analysis.specs.Names.{is_among}
use Rattle.scope_analysis.specs.Uses.{expr_uses}
use Rattle.heap_relations.specs.Naming.{Absent, BaseRel, Named, named, Sealed, sealed, SealedRel, unbound, World}
use Rattle.heap_relations.specs.Related.{object, ValueRel}
use Rattle.heap_walker.specs.Still.{IsFunctionAtRest, other_names}
use Rattle.heap_walker.specs.Things.{bound_value, needs_of}
use Rattle.rebuild_plan.specs.Compact.{moved_needs, moved_value}
use Rattle.rebuilding.specs.Frames.{is_own, round_frame}
use Rattle.rebuilding.specs.Scene.{bare, env_at, IsRoundOf, IsRunning, named as with_name, Scene, page_with}
use Rattle.rebuilding.specs.Sites.{sited_needs, sited_value}
use Rattle.rebuilding.proofs.Closures.{binding_there}
use Rattle.rebuilding.proofs.FoundRound.{need_at_rest, other_at_rest, own_at_rest, round_names}
use Rattle.rebuilding.proofs.Held.{IsFound, needed_found, not_held, own_found, round_unbound}
use Rattle.rebuilding.proofs.Naming.{rebuilt_world}
use Rattle.agreement.proofs.Callers.{all_names}

-- ---- names

-- names that were kept pass the test
kept_names : (p : List ℕ → Bool) (xs : List (List ℕ)) → list_all p (filter p xs) ≡ true
kept_names p [] = refl
kept_names p (y ∷ ys) = by (p y) refl (kept_names p ys)
  where
    by : (b : Bool) → p y ≡ b → list_all p (filter p ys) ≡ true → list_all p (filter p (y ∷ ys)) ≡ true
    by true holds more = rw holds (rw holds more)
    by false fails more = rw fails more

-- an other name does not begin with `$$`
other_free : (c : Code) (x : List ℕ) → is_among x (other_names c) ≡ true → is_reserved x ≡ false
other_free c x h =
    let names : List (List ℕ) = map (λ u. u.name) (expr_uses (func c)) in
    not-true (is_reserved x) (all_names (λ y. not (is_reserved y)) (other_names c) x (kept_names (λ y. not (is_reserved y)) names) h)

-- ---- environments

some_holds : {A : Type 0} (P : A → Type 0) (a : A) → P a → ForSome (Some a) P
some_holds P a p x e = let same : a ≡ x = cc e in subst P same p

round_inside : (c : Scene) (h : Contents) (sites : List ℕ) → IsRunning c h sites → (k : ℕ) (needs : Bound) (name : Option (List ℕ))
    (round : Option EnvId) → IsRoundOf c h.environments k needs name round
    → ForSome round (λ e. e.0 < length h.environments)
round_inside c h sites running k needs name round (bare {b = b} binds) =
    some_holds (λ (e : EnvId). e.0 < length h.environments) (env_at b) (binding_there c h sites needs b running binds)
round_inside c h sites running k needs name round (with_name e binds inside is) =
    some_holds (λ (d : EnvId). d.0 < length h.environments) (env_at e) inside

-- ---- both

module _ (c : Scene) (s : Store) (h : Contents) (things sites others : List ℕ) (ages : AreInside s.heap.environments)
    (running : IsRunning c h others) (k j : ℕ) (pair : Named (rebuilt_world s h things sites) k j) (source : Code) (env round : Option EnvId)
    (rest : IsFunctionAtRest s k source env)
    (is : IsRoundOf c h.environments j (sited_needs sites (moved_needs things (needs_of s env source))) (name_of source) round)
    (values : (x : List ℕ) → is_among x (needed_variables source) ≡ true
    → ValueRel (named (rebuilt_world s h things sites)) (bound_value s env x) (sited_value sites (moved_value things (bound_value s env x)))) where
  abbrev W : World
  W = rebuilt_world s h things sites

  abbrev t : Store
  t = page_with h s.host

  abbrev needs : Bound
  needs = sited_needs sites (moved_needs things (needs_of s env source))

  own_rebuilt : (name : Option (List ℕ)) (to : Option EnvId) → IsRoundOf c h.environments j needs name to → (x : List ℕ) → is_own name x ≡ true
      → IsFound (Reference (at_place j)) (look_in h.environments to x)
  own_rebuilt name to (bare binds) x g = absurd (cc g)
  own_rebuilt name to (with_name {x = y} {b = b} e binds inside at) x g =
      let same : y ≡ x = sym ((bytes_eq-Decides x y).0 g) in
      let found : lookup h.environments e y ≡ Some (env_at e, Reference (at_place j)) =
      own_found h.environments running.place.sound.environments e (Some (env_at b)) y (Reference (at_place j)) at
      in
      subst (λ z. IsFound (Reference (at_place j)) (lookup h.environments e z)) same (record { env = env_at e; is = found })

  own_sealed : (x : List ℕ) → is_own (name_of source) x ≡ true → SealedRel (named W) Sealed (look_in s.heap.environments env x) (look_in h.environments round x)
  own_sealed x own =
      let was = own_at_rest s ages k env (name_of source) rest.own_name x own in
      let found = own_rebuilt (name_of source) round is x own in
      rw (was.is, found.is) (sealed (object pair))

  -- what it needs is bound on both sides, and the right holds the counterpart
  needed_sealed : (x : List ℕ) → is_among x (needed_variables source) ≡ true
      → SealedRel (named W) Sealed (look_in s.heap.environments env x) (look_in h.environments round x)
  needed_sealed x among =
      let was = need_at_rest s k source env rest x among in
      let found = needed_found c s t things sites running.place.sound.environments j source env round is x among in
      rw (was.is, found.is) (sealed (values x among))

  other_absent : (x : List ℕ) → is_own (name_of source) x ≡ false → is_among x (needed_variables source) ≡ false
      → is_among x (other_names source) ≡ true
      → SealedRel (named W) Absent (look_in s.heap.environments env x) (look_in h.environments round x)
  other_absent x own none among =
      let left : look_in s.heap.environments env x ≡ None = other_at_rest s k source env rest x among in
      let right : look_in h.environments round x ≡ None =
      round_unbound h.environments running.place.sound.environments c running.place.scope needs j (name_of source) round is x own (other_free source x among)
      (not_held s things sites env (needed_variables source) x none)
      in
      rw (left, right) unbound

  -- no environment is that of a slot
  pub base_rel : BaseRel (rebuilt_world s h things sites) (record { one = env; two = round; frame = round_frame source }) s.heap.environments
      h.environments
  base_rel = record {
    names = λ x free. round_names W source (look_in s.heap.environments env) (look_in h.environments round) own_sealed needed_sealed other_absent x;
    one_inside = rest.there;
    two_inside = round_inside c h others running j needs (name_of source) round is;
    one_apart = λ u i o. elim i [ ];
    two_apart = λ u i o. elim i [ ];
  }
