-- A name is found in the environment of the innermost scope that declares it.
use Rattle.std.proofs.Common.{◌≡◌, refl, sym, ap, ◌∙◌, ℕ, Bool, true, false, List, [], ◌∷◌, ◌++◌, Option, Some, None, bytes_eq, is_some, map}
use Rattle.std.specs.Option.{option_map}
use Rattle.js_values.specs.declared.ids.EnvId.{EnvId}
use Rattle.js_values.specs.declared.value.Value.{Value}
use Rattle.object_heap.specs.Environment.{AreInside, Environment, environment_at, value_of}
use Rattle.object_heap.specs.Heap.{first_bound, look_in, lookup}
use Rattle.object_heap.proofs.Callers.{lookup_on}
use Rattle.scope_analysis.specs.Names.{is_among}
use Rattle.scope_analysis.specs.Scopes.{Place, find, here_or_outwards, place_among}
use Rattle.scope_chains.specs.Laws.{NamesAreFound}
use Rattle.scope_chains.specs.Levels.{Binds, BindsOwn, Level, OwnName, environment_of, innermost, names_at, round_it}
use Rattle.scope_chains.proofs.Among.{is_own, level_names, place_none, place_some}

abbrev Looked : Type 0
Looked = Option (EnvId × Value)

abbrev place_of : Looked → Option EnvId
place_of o = option_map (λ p. p.0) o

module _ (es : List Environment) (inside : AreInside es) (x : List ℕ) where
  -- what the environment binds
  there : (e : EnvId) (outer : Option EnvId) (xs : List (List ℕ)) → Binds es e outer xs → is_among x xs ≡ true → place_of (lookup es e.0 x) ≡ Some e
  there e outer xs b h = ap place_of (lookup_on es e.0 x inside) ∙ by_case (value_of (environment_at es e.0).names x) (b.names x ∙ h)
    where
      by_case : (o : Option Value) → is_some o ≡ true → place_of (first_bound e.0 o (environment_at es e.0).outer (λ q. lookup es q x)) ≡ Some e
      by_case (Some v) i = refl
      by_case None i = cc

  -- what it does not bind is found outwards
  missing : (e : EnvId) (outer : Option EnvId) (xs : List (List ℕ)) → Binds es e outer xs → is_among x xs ≡ false → lookup es e.0 x ≡ look_in es outer x
  missing e outer xs b h = lookup_on es e.0 x inside ∙ (by_case (value_of (environment_at es e.0).names x) (b.names x ∙ h) ∙ (ap (λ o. first_bound e.0 None o (λ q. lookup es q x)) b.stands ∙ outwards outer))
    where
      by_case : (o : Option Value) → is_some o ≡ false → first_bound e.0 o (environment_at es e.0).outer (λ q. lookup es q x) ≡ first_bound e.0 None (environment_at es e.0).outer (λ q. lookup es q x)
      by_case (Some v) i = cc
      by_case None i = refl

      outwards : (o : Option EnvId) → first_bound e.0 None o (λ q. lookup es q x) ≡ look_in es o x
      outwards None = refl
      outwards (Some q) = refl

further : (l : Level) (ls : List Level) (x : List ℕ) (p : Option Place) → environment_of (l ∷ ls) x (here_or_outwards None p) ≡ environment_of ls x p
further l ls x None = refl
further l ls x (Some p) = refl

-- the scope declares the name, or does not
declared_here : (l : Level) (ls : List Level) (x : List ℕ) (outer : Option Place) → is_among x (names_at l) ≡ true → environment_of (l ∷ ls) x (here_or_outwards (place_among x (names_at l)) outer) ≡ environment_of (l ∷ ls) x (Some (record { hops = 0; slot = 0 }))
declared_here l ls x outer h = rw ((place_some x (names_at l) h).1) refl

declared_outwards : (l : Level) (ls : List Level) (x : List ℕ) (outer : Option Place) → is_among x (names_at l) ≡ false → environment_of (l ∷ ls) x (here_or_outwards (place_among x (names_at l)) outer) ≡ environment_of ls x outer
declared_outwards l ls x outer h = rw (place_none x (names_at l) h) (further l ls x outer)

module _ (es : List Environment) (inside : AreInside es) (ls : List Level) (x : List ℕ) (formals declared : List (List ℕ)) (env : EnvId) where
  abbrev level : Option OwnName → Level
  level own = record { own = own; formals = formals; declared = declared; env = env }

  abbrev Goes : Option OwnName → Type 0
  Goes own = place_of (lookup es env.0 x) ≡ environment_of (level own ∷ ls) x (here_or_outwards (place_among x (names_at (level own))) (find (map names_at ls) x))

  abbrev Outer : Type 0
  Outer = place_of (look_in es (innermost ls) x) ≡ environment_of ls x (find (map names_at ls) x)

  bound_here : (own : Option OwnName) → Binds es env (round_it own (innermost ls)) (formals ++ declared) → is_among x (formals ++ declared) ≡ true → Goes own
  bound_here own b h =
      let known : is_among x (names_at (level own)) ≡ true = rw (level_names x own formals declared env, h) refl in
      there es inside x env (round_it own (innermost ls)) (formals ++ declared) b h
      ∙ sym (declared_here (level own) ls x (find (map names_at ls) x) known ∙ rw (h) refl)

  bound_own : (p : OwnName) → Binds es env (Some p.1) (formals ++ declared) → Binds es p.1 (innermost ls) (p.0 ∷ []) → is_among x (formals ++ declared) ≡ false → bytes_eq x p.0 ≡ true → Goes (Some p)
  bound_own p b o h e =
      let known : is_among x (names_at (level (Some p))) ≡ true = rw (level_names x (Some p) formals declared env, h) e in
      let one : is_among x (p.0 ∷ []) ≡ true = rw (e) refl in
      ap place_of (missing es inside x env (Some p.1) (formals ++ declared) b h)
      ∙ (there es inside x p.1 (innermost ls) (p.0 ∷ []) o one ∙ sym (declared_here (level (Some p)) ls x (find (map names_at ls) x) known ∙ rw (h) refl))

  elsewhere : (own : Option OwnName) → lookup es env.0 x ≡ look_in es (innermost ls) x → is_among x (formals ++ declared) ≡ false → is_own x own ≡ false → Outer → Goes own
  elsewhere own e h o outer =
      let unknown : is_among x (names_at (level own)) ≡ false = rw (level_names x own formals declared env, h) o in
      ap place_of e ∙ (outer ∙ sym (declared_outwards (level own) ls x (find (map names_at ls) x) unknown))

  found_on : (own : Option OwnName) → Binds es env (round_it own (innermost ls)) (formals ++ declared) → BindsOwn es own (innermost ls) → Outer → (b : Bool) → is_among x (formals ++ declared) ≡ b → Goes own
  found_on own b o outer true h = bound_here own b h
  found_on None b o outer false h = elsewhere None (missing es inside x env (innermost ls) (formals ++ declared) b h) h refl outer
  found_on (Some p) b o outer false h = by_name (bytes_eq x p.0) refl
    where
      by_name : (t : Bool) → bytes_eq x p.0 ≡ t → Goes (Some p)
      by_name true e = bound_own p b o h e
      by_name false e =
          let one : is_among x (p.0 ∷ []) ≡ false = rw (e) refl in
          elsewhere (Some p) (missing es inside x env (Some p.1) (formals ++ declared) b h ∙ missing es inside x p.1 (innermost ls) (p.0 ∷ []) o one) h e outer

pub names_are_found : NamesAreFound
names_are_found es [] x inside levels = refl
names_are_found es (l ∷ ls) x inside levels =
    found_on es inside ls x l.formals l.declared l.env l.own levels.0 levels.1 (names_are_found es ls x inside levels.2) (is_among x (l.formals ++ l.declared)) refl
