-- What a function that was rebuilt finds for its own name, for what it needs and for other names.
use Rattle.std.proofs.Common.{◌≡◌, refl, sym, ap, ◌∙◌, ℕ, Bool, true, false, cond, codes, List, [], ◌∷◌, Option, Some, None, is_some, bytes_eq, unwrap_or}
use Rattle.std.proofs.lemmas.Bool.{or_left, or_right}
use Rattle.std.proofs.lemmas.Slice.Eq.{bytes_eq-Decides}
use Rattle.std.specs.Option.{option_map}
use Rattle.code_table.specs.Declarations.{name_of}
use Rattle.heap_walker.specs.Things.{bound_value, bound_values, needs_of}
use Rattle.js_core.specs.Tree.{Code}
use Rattle.js_values.specs.declared.ids.EnvId.{EnvId}
use Rattle.js_values.specs.declared.value.Value.{Value}
use Rattle.js_values.specs.declared.value.Value.TheVariants.{Object as Reference, Undefined}
use Rattle.object_heap.proofs.Callers.{lookup_on}
use Rattle.object_heap.specs.Environment.{AreInside, Bound, Environment, environment_at, new_environment, value_of}
use Rattle.object_heap.specs.Heap.{first_bound, look_in, lookup}
use Rattle.page_meaning.specs.Places.{at_place}
use Rattle.page_meaning.specs.Store.{Store}
use Rattle.rebuild_plan.specs.Compact.{moved_needs, moved_value}
use Rattle.scope_analysis.specs.Needs.{needed_variables}
use Rattle.scope_analysis.specs.Identifiers.{is_reserved}
use Rattle.scope_analysis.specs.Names.{is_among}
use Rattle.rebuilding.specs.Frames.{is_own}
use Rattle.rebuilding.specs.Scene.{IsBinding, IsRoundOf, Scene, bare, env_at, named, needed, none_needed}
use Rattle.rebuilding.specs.Sites.{sited_needs, sited_value}
use Rattle.agreement.proofs.Callers.{same_name}
use Rattle.rebuilding.proofs.Wrapped.{needed_not_own}

-- where the name is found, with this value
pub record IsFound (v : Value) (found : Option (EnvId × Value)) : Type 0 where
  pub env : EnvId
  pub is : found ≡ Some (env, v)

pub some_found : (found : Option (EnvId × Value)) → is_some found ≡ true → IsFound (unwrap_or (option_map (λ f. f.1) found) Undefined) found
some_found None h = cc h
some_found (Some (e, v)) h = record { env = e; is = refl }

-- ---- environments

module _ (fs : List Environment) (ages : AreInside fs) where
  -- what an environment that binds these names shows
  found_in : (k : ℕ) (outer : Option EnvId) (names : Bound) → environment_at fs k ≡ new_environment outer names → (x : List ℕ)
      → lookup fs k x ≡ first_bound k (value_of names x) outer (λ q. lookup fs q x)
  found_in k outer names is x =
      lookup_on fs k x ages ∙ ap (λ (e : Environment). first_bound k (value_of e.names x) e.outer (λ q. lookup fs q x)) is

  pub own_found : (k : ℕ) (outer : Option EnvId) (y : List ℕ) (v : Value) → environment_at fs k ≡ new_environment outer ((y, v) ∷ [])
      → lookup fs k y ≡ Some (env_at k, v)
  own_found k outer y v is =
      found_in k outer ((y, v) ∷ []) is y ∙ ap (λ b. first_bound k (cond b (Some v) None) outer (λ q. lookup fs q y)) (same_name y)

  -- one that binds another name is passed
  passed : (k b : ℕ) (y : List ℕ) (v : Value) → environment_at fs k ≡ new_environment (Some (env_at b)) ((y, v) ∷ [])
      → (x : List ℕ) → bytes_eq x y ≡ false → lookup fs k x ≡ lookup fs b x
  passed k b y v is x other =
      found_in k (Some (env_at b)) ((y, v) ∷ []) is x
      ∙ ap (λ t. first_bound k (cond t (Some v) None) (Some (env_at b)) (λ q. lookup fs q x)) other

  module _ (c : Scene) where
    -- ---- what is needed

    binding_found : (needs : Bound) (b : ℕ) → IsBinding c fs needs b → (x : List ℕ) (v : Value) → value_of needs x ≡ Some v → IsFound v (lookup fs b x)
    binding_found needs b none_needed x v held = cc held
    binding_found needs b (needed e there is) x v held = record {
      env = env_at e;
      is = found_in e (Some (env_at c.env)) needs is x ∙ ap (λ o. first_bound e o (Some (env_at c.env)) (λ q. lookup fs q x)) held;
    }

    pub round_found : (needs : Bound) (k : ℕ) (name : Option (List ℕ)) (round : Option EnvId) → IsRoundOf c fs k needs name round → (x : List ℕ)
        → is_own name x ≡ false → (v : Value) → value_of needs x ≡ Some v → IsFound v (look_in fs round x)
    round_found needs k name round (bare {b = b} binds) x own v held = binding_found needs b binds x v held
    round_found needs k name round (named {x = y} {b = b} e binds inside is) x own v held =
        let at = binding_found needs b binds x v held in
        record { env = at.env; is = passed e b y (Reference (at_place k)) is x own ∙ at.is }

    -- ---- other names

    module _ (scope : environment_at fs c.env ≡ new_environment None ((codes "$$", Reference (at_place c.list)) ∷ [])) where
      scope_unbound : (x : List ℕ) → is_reserved x ≡ false → lookup fs c.env x ≡ None
      scope_unbound x free = by (bytes_eq x (codes "$$")) refl
        where
          by : (b : Bool) → bytes_eq x (codes "$$") ≡ b → lookup fs c.env x ≡ None
          by true same = absurd (cc (free, ap is_reserved ((bytes_eq-Decides x (codes "$$")).0 same)))
          by false other =
              found_in c.env None ((codes "$$", Reference (at_place c.list)) ∷ []) scope x
              ∙ ap (λ b. first_bound c.env (cond b (Some (Reference (at_place c.list))) None) None (λ q. lookup fs q x)) other

      binding_unbound : (needs : Bound) (b : ℕ) → IsBinding c fs needs b → (x : List ℕ) → is_reserved x ≡ false → value_of needs x ≡ None → lookup fs b x ≡ None
      binding_unbound needs b none_needed x free missing = scope_unbound x free
      binding_unbound needs b (needed e there is) x free missing =
          found_in e (Some (env_at c.env)) needs is x
          ∙ ap (λ o. first_bound e o (Some (env_at c.env)) (λ q. lookup fs q x)) missing ∙ scope_unbound x free

      pub round_unbound : (needs : Bound) (k : ℕ) (name : Option (List ℕ)) (round : Option EnvId) → IsRoundOf c fs k needs name round → (x : List ℕ)
          → is_own name x ≡ false → is_reserved x ≡ false → value_of needs x ≡ None → look_in fs round x ≡ None
      round_unbound needs k name round (bare {b = b} binds) x own free missing = binding_unbound needs b binds x free missing
      round_unbound needs k name round (named {x = y} {b = b} e binds inside is) x own free missing =
          passed e b y (Reference (at_place k)) is x own ∙ binding_unbound needs b binds x free missing

-- ---- what a function of the page that was saved needs

module _ (s : Store) (things sites : List ℕ) (env : Option EnvId) where
  -- what stands for what the name holds
  abbrev pub counterpart : List ℕ → Value
  counterpart x = sited_value sites (moved_value things (bound_value s env x))

  abbrev pub counterparts : List (List ℕ) → Bound
  counterparts xs = sited_needs sites (moved_needs things (bound_values s env xs))

  pub held : (xs : List (List ℕ)) (x : List ℕ) → is_among x xs ≡ true → value_of (counterparts xs) x ≡ Some (counterpart x)
  held [] x h = cc h
  held (y ∷ ys) x h = by (bytes_eq x y) refl (λ g. held ys x g)
    where
      by : (b : Bool) → bytes_eq x y ≡ b → (is_among x ys ≡ true → value_of (counterparts ys) x ≡ Some (counterpart x))
          → value_of (counterparts (y ∷ ys)) x ≡ Some (counterpart x)
      by true same later = rw same (ap (λ z. Some (counterpart z)) (sym ((bytes_eq-Decides x y).0 same)))
      by false other later = rw other (later (rw other at h))

  pub not_held : (xs : List (List ℕ)) (x : List ℕ) → is_among x xs ≡ false → value_of (counterparts xs) x ≡ None
  not_held [] x h = refl
  not_held (y ∷ ys) x h = by (bytes_eq x y) refl (λ g. not_held ys x g)
    where
      by : (b : Bool) → bytes_eq x y ≡ b → (is_among x ys ≡ false → value_of (counterparts ys) x ≡ None)
          → value_of (counterparts (y ∷ ys)) x ≡ None
      by true same later = cc (rw same at h)
      by false other later = rw other (later (rw other at h))

-- ---- what it needs where it was rebuilt

module _ (c : Scene) (s t : Store) (things sites : List ℕ) (ages : AreInside t.heap.environments) (k : ℕ) (source : Code) (env round : Option EnvId)
    (is : IsRoundOf c t.heap.environments k (sited_needs sites (moved_needs things (needs_of s env source))) (name_of source) round) where
  pub needed_found : (x : List ℕ) → is_among x (needed_variables source) ≡ true
      → IsFound (sited_value sites (moved_value things (bound_value s env x))) (look_in t.heap.environments round x)
  needed_found x h =
      round_found t.heap.environments ages c (sited_needs sites (moved_needs things (needs_of s env source))) k (name_of source) round is x
      (needed_not_own source x h) (counterpart s things sites env x) (held s things sites env (needed_variables source) x h)

  each_same : (xs : List (List ℕ)) → ((x : List ℕ) → is_among x xs ≡ true → is_among x (needed_variables source) ≡ true)
      → bound_values t round xs ≡ sited_needs sites (moved_needs things (bound_values s env xs))
  each_same [] h = refl
  each_same (x ∷ xs) h =
      let found = needed_found x (h x (or_left _ _ (same_name x))) in
      let one : bound_value t round x ≡ counterpart s things sites env x = ap (λ o. unwrap_or (option_map (λ f. f.1) o) Undefined) found.is in
      let others = each_same xs (λ y g. h y (or_right _ _ g)) in
      (λ i. (x, one i) ∷ others i)

  -- the counterparts of what it needed
  pub needs_same : needs_of t round source ≡ sited_needs sites (moved_needs things (needs_of s env source))
  needs_same = each_same (needed_variables source) (λ x h. h)
