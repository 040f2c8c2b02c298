-- A function that stands in the frames of scripts in form can be made again: the scopes round it hold what it needs as constants, which are older.
use Rattle.std.proofs.Common.{◌≡◌, refl, sym, ap, subst, ◌∙◌, ℕ, zero, suc, ◌+◌, ◌<◌, ◌≤◌, Bool, true, false, not, ◌&&◌, if◌then◌else◌, List, [], ◌∷◌, Option, Some, None, filter, is_some, map, arith}
use Rattle.std.proofs.lemmas.Bool.{and_from, and_parts}
use Rattle.std.specs.List.{list_all}
use Rattle.std.specs.Option.{option_map}
use Rattle.std.specs.Prelude.{unwrap_or}
use Rattle.agreement.specs.Acts.{IsOlder, IsOwn, IsSet, StoreRel, outermost_older, rebuilt_older, scope_older}
use Rattle.agreement.specs.Formed.{absent_kept, finds_needs, held_kept, is_found_so, is_held, is_unbound, seals_name}
use Rattle.agreement.specs.Opened.{is_sealed}
use Rattle.code_table.specs.Declarations.{name_of}
use Rattle.heap_relations.proofs.Callers as heap
use Rattle.heap_relations.specs.Naming as naming
use Rattle.heap_relations.specs.Naming.{Base, Frame, In, Kept, NameRel, Round, Sealed, Slot, SlotRel, World, absent, based, captured, constant, copied, env_id, free, held, inside, named, outermost}
use Rattle.heap_walker.specs.Remade.{CanBeRemade}
use Rattle.heap_walker.specs.Still.{OwnName, has_name}
use Rattle.heap_walker.specs.Things.{bound_value, bound_values, needs_links}
use Rattle.js_core.specs.Height.{code_height}
use Rattle.js_core.specs.Tree as tree
use Rattle.js_core.specs.Tree.{func}
use Rattle.js_values.specs.declared.ids.EnvId.{EnvId}
use Rattle.js_values.specs.declared.value.Value.{Value}
use Rattle.js_values.specs.declared.value.Value.TheVariants.{Undefined}
use Rattle.object_heap.proofs.Callers.{lookup_on}
use Rattle.object_heap.specs.Chain.{object_at}
use Rattle.object_heap.specs.Environment.{environment_at, value_of}
use Rattle.object_heap.specs.Heap.{first_bound, look_in, lookup}
use Rattle.object_heap.specs.declared.property.Prop.{Prop}
use Rattle.object_shapes.proofs.Callers.{below_join, below_more}
use Rattle.object_shapes.specs.Links.{all_below, value_links}
use Rattle.page_meaning.specs.Store.{Store}
use Rattle.scope_analysis.specs.Needs.{needed_variables}
use Rattle.scope_analysis.specs.Identifiers.{is_reserved}
use Rattle.early_rules.specs.Limits.{function_height_limit}
use Rattle.scope_analysis.specs.Uses.{Use, expr_uses}
use Rattle.page_rest.proofs.NeededNames.{all_pass}

-- ---- what is round a function

-- the scope is set, and what its constant names hold is older than the place
record Older (W : World) (k : ℕ) (z : Slot) : Type 0 where
  set : IsSet W z
  born : z.born ≤ k

-- a name that is found, and what it stands for is older than the place
record Found (k : ℕ) (o : Option (EnvId × Value)) : Type 0 where
  found : EnvId × Value
  at : o ≡ Some found
  below : all_below k (value_links found.1) ≡ true

sealed_of : (m : Kept) → is_sealed m ≡ true → m ≡ Sealed
sealed_of Sealed e = refl
sealed_of m e = absurd (cc e)

same_place : (a b : ℕ) → Some (env_id a) ≡ Some (env_id b) → a ≡ b
same_place a b e = ap (λ o. (unwrap_or o (env_id 0)).0) e

module _ {W : World} {s : Store} (g : StoreRel W s s) (none_rebuilt : W.bases ≡ []) (closed : W.opens ≡ false) where
  none_in : {b : Base} → In b [] → ⊥
  none_in i = elim i [ ]

  no_base : (b : Base) → In b W.bases → ⊥
  no_base b i = none_in (subst (In b) none_rebuilt i)

  own : (x : List ℕ) → naming.is_reserved W.opens x ≡ false
  own x = ap (λ o. naming.is_reserved o x) closed

  slot_at : (z : Slot) → In z W.slots
      → SlotRel W z (environment_at s.heap.environments z.one) (environment_at s.heap.environments z.two) (object_at s.heap.objects z.place)
  slot_at z i = g.heap.slots.at z i

  -- a slot is known by its environment on the left
  older : {k : ℕ} {name : Option (List ℕ)} {env : Option EnvId} (z : Slot) → In z W.slots → env ≡ Some (env_id z.one) → IsOlder W k name env → Older W k z
  older z i is outermost_older = absurd (cc is)
  older {k = k} z i is (scope_older t j set born own) =
      let same : t ≡ z = g.heap.slots.one_slot t z j i (same_place t.one z.one is) in
      subst (Older W k) same (record { set = set; born = born })
  older z i is (rebuilt_older b j) = absurd (no_base b j)

  owned : {k : ℕ} {name : Option (List ℕ)} {env : Option EnvId} (z : Slot) → In z W.slots → env ≡ Some (env_id z.one) → IsOlder W k name env → IsOwn k name z
  owned z i is outermost_older = absurd (cc is)
  owned {k = k} {name = name} z i is (scope_older t j set born own) =
      let same : t ≡ z = g.heap.slots.one_slot t z j i (same_place t.one z.one is) in
      subst (IsOwn k name) same own
  owned z i is (rebuilt_older b j) = absurd (no_base b j)

  -- so is the scope round it
  round_older : (k : ℕ) (z t : Slot) → In z W.slots → In t W.slots → (environment_at s.heap.environments z.one).outer ≡ Some (env_id t.one) → Older W k z → Older W k t
  round_older k z t i j there o =
      let r = older t j there (g.kept.scopes z i).round in
      record { set = r.set; born = omega (arith, r.born, o.born) }

  -- ---- where names are found

  -- the same, for the scope that is next round it
  abbrev HeldOutwards : ℕ → Slot → List ℕ → Type 0
  HeldOutwards k z x =
      (t : Slot) → In t W.slots → (environment_at s.heap.environments z.one).outer ≡ Some (env_id t.one) → is_held (t.frame ∷ t.round) x ≡ true
      → Found k (lookup s.heap.environments t.one x)

  abbrev UnboundOutwards : Slot → List ℕ → Type 0
  UnboundOutwards z x =
      (t : Slot) → In t W.slots → (environment_at s.heap.environments z.one).outer ≡ Some (env_id t.one) → is_unbound (t.frame ∷ t.round) x ≡ true
      → lookup s.heap.environments t.one x ≡ None

  held_in : (n : ℕ) (k : ℕ) (z : Slot) (x : List ℕ) → In z W.slots → z.one < n → Older W k z → is_held (z.frame ∷ z.round) x ≡ true
      → Found k (lookup s.heap.environments z.one x)
  held_in zero k z x i h o finds = absurd (omega (arith, h))
  held_in (suc n) k z x i h o finds =
      subst (Found k) (sym (lookup_on s.heap.environments z.one x g.heap.left.environments))
      (near refl refl ((slot_at z i).names x (own x)) finds (λ t j c. held_in n k t x j (omega (arith, g.heap.left.environments z.one _ c, h)) (round_older k z t i j c o)))
    where
      out : {fs : List Frame} {e f : Option EnvId} → (environment_at s.heap.environments z.one).outer ≡ e → Round W fs e f → is_held fs x ≡ true → HeldOutwards k z x
          → Found k (first_bound z.one None e (λ q. lookup s.heap.environments q x))
      out c outermost finds up = absurd (cc finds)
      out c (based b j) finds up = absurd (no_base b j)
      out c (inside t j) finds up = up t j c finds

      near : {m : Kept} {v w : Option Value} {p : Option Prop} → z.frame.keeps x ≡ m → value_of (environment_at s.heap.environments z.one).names x ≡ v
          → NameRel (named W) z.frame.scoped (z.known x) m v w p → held_kept m (is_held z.round x) ≡ true → HeldOutwards k z x
          → Found k (first_bound z.one v (environment_at s.heap.environments z.one).outer (λ q. lookup s.heap.environments q x))
      near keeps is absent finds up = out refl (slot_at z i).outer finds up
      near keeps is (free m) finds up = absurd (cc finds)
      near keeps is (captured scoped m may shown fixed) finds up = absurd (cc finds)
      near keeps is (constant m) finds up = absurd (cc finds)
      near keeps is (copied scoped m) finds up = absurd (cc finds)
      near keeps is (held {v = v} m) finds up =
          let kept = g.kept.scopes z i in
          let known : z.known x ≡ v = ap (λ o. unwrap_or o Undefined) (sym (kept.held x (o.set x) keeps) ∙ is) in
          record {
            found = (env_id z.one, v);
            at = refl;
            below = subst (λ u. all_below k (value_links u) ≡ true) known (below_more z.born k (value_links (z.known x)) o.born (kept.older x keeps));
          }

  unbound_in : (n : ℕ) (z : Slot) (x : List ℕ) → In z W.slots → z.one < n → is_unbound (z.frame ∷ z.round) x ≡ true → lookup s.heap.environments z.one x ≡ None
  unbound_in zero z x i h finds = absurd (omega (arith, h))
  unbound_in (suc n) z x i h finds =
      lookup_on s.heap.environments z.one x g.heap.left.environments
      ∙ near ((slot_at z i).names x (own x)) finds (λ t j c. unbound_in n t x j (omega (arith, g.heap.left.environments z.one _ c, h)))
    where
      out : {fs : List Frame} {e f : Option EnvId} → (environment_at s.heap.environments z.one).outer ≡ e → Round W fs e f → is_unbound fs x ≡ true → UnboundOutwards z x
          → first_bound z.one None e (λ q. lookup s.heap.environments q x) ≡ None
      out c outermost finds up = refl
      out c (based b j) finds up = absurd (no_base b j)
      out c (inside t j) finds up = up t j c finds

      near : {m : Kept} {v w : Option Value} {p : Option Prop} → NameRel (named W) z.frame.scoped (z.known x) m v w p
          → absent_kept m (is_unbound z.round x) ≡ true → UnboundOutwards z x
          → first_bound z.one v (environment_at s.heap.environments z.one).outer (λ q. lookup s.heap.environments q x) ≡ None
      near absent finds up = out refl (slot_at z i).outer finds up
      near (free m) finds up = absurd (cc finds)
      near (captured scoped m may shown fixed) finds up = absurd (cc finds)
      near (constant m) finds up = absurd (cc finds)
      near (copied scoped m) finds up = absurd (cc finds)
      near (held m) finds up = absurd (cc finds)

  -- ---- round a function

  held_round : {fs : List Frame} {env others : Option EnvId} (k : ℕ) (name : Option (List ℕ)) (x : List ℕ) → Round W fs env others → IsOlder W k name env → is_held fs x ≡ true
      → Found k (look_in s.heap.environments env x)
  held_round k name x outermost o finds = absurd (cc finds)
  held_round k name x (inside z i) o finds = held_in (suc z.one) k z x i (omega arith) (older z i refl o) finds
  held_round k name x (based b i) o finds = absurd (no_base b i)

  unbound_round : {fs : List Frame} {env others : Option EnvId} (x : List ℕ) → Round W fs env others → is_unbound fs x ≡ true
      → look_in s.heap.environments env x ≡ None
  unbound_round x outermost finds = refl
  unbound_round x (inside z i) finds = unbound_in (suc z.one) z x i (omega arith) finds
  unbound_round x (based b i) finds = absurd (no_base b i)

  own_round : {fs : List Frame} {env others : Option EnvId} (k : ℕ) (name : Option (List ℕ)) → Round W fs env others → IsOlder W k name env → seals_name fs name ≡ true
      → OwnName s k env name
  own_round k None r o seals = tt
  own_round k (Some x) outermost o seals = absurd (cc seals)
  own_round k (Some x) (inside z i) o seals =
      let keeps : z.frame.keeps x ≡ Sealed = sealed_of (z.frame.keeps x) seals in
      let read = heap.sealed_read g.heap z x i (own x) keeps in
      read.0.one ∙ ap Some (read.1 ∙ owned z i refl o x refl keeps)
  own_round k (Some x) (based b i) o seals = absurd (no_base b i)

-- ---- the names that a function leaves

-- the name is bound, and to nothing younger than the place
abbrev is_older : Store → ℕ → Option EnvId → List ℕ → Bool
is_older s k env x = has_name s env x && all_below k (value_links (bound_value s env x))

module _ (s : Store) (k : ℕ) (env : Option EnvId) where
  -- where each of these is so, all are bound, and what they hold is older
  older_parts : (xs : List (List ℕ)) → list_all (is_older s k env) xs ≡ true
      → (list_all (has_name s env) xs ≡ true) × (all_below k (needs_links (bound_values s env xs)) ≡ true)
  older_parts [] h = (refl, refl)
  older_parts (x ∷ xs) h =
      let both = and_parts (is_older s k env x) (list_all (is_older s k env) xs) h in
      let one = and_parts (has_name s env x) (all_below k (value_links (bound_value s env x))) both.0 in
      let more = older_parts xs both.1 in (
        and_from (has_name s env x) (list_all (has_name s env) xs) one.0 more.0,
        below_join k (value_links (bound_value s env x)) (needs_links (bound_values s env xs)) one.1 more.1,
      )

  found_held : (x : List ℕ) → Found k (look_in s.heap.environments env x) → is_older s k env x ≡ true
  found_held x h =
      and_from (has_name s env x) (all_below k (value_links (bound_value s env x)))
      (ap is_some h.at)
      (ap (λ o. all_below k (value_links (unwrap_or (option_map (λ found. found.1) o) Undefined))) h.at ∙ h.below)

  none_bound : (x : List ℕ) → look_in s.heap.environments env x ≡ None → not (has_name s env x) ≡ true
  none_bound x h = ap (λ o. not (is_some o)) h

  module _ (fs : List Frame) (holds : (x : List ℕ) → is_held fs x ≡ true → is_older s k env x ≡ true)
      (bare : (x : List ℕ) → is_unbound fs x ≡ true → not (has_name s env x) ≡ true) where
    needs_held : (us : List Use) → list_all (λ u. is_found_so fs u.name) us ≡ true
        → list_all (is_older s k env) (filter is_reserved (map (λ (u : Use). u.name) us)) ≡ true
    needs_held [] h = refl
    needs_held (u ∷ us) h =
        let parts = and_parts (is_found_so fs u.name) (list_all (λ u. is_found_so fs u.name) us) h in
        by (is_reserved u.name) parts.0 (needs_held us parts.1)
      where
        by : (b : Bool) → (if b then is_held fs u.name else is_unbound fs u.name) ≡ true
            → list_all (is_older s k env) (filter is_reserved (map (λ (u : Use). u.name) us)) ≡ true
            → list_all (is_older s k env)
            (if b then (u.name ∷ filter is_reserved (map (λ (u : Use). u.name) us)) else filter is_reserved (map (λ (u : Use). u.name) us)) ≡ true
        by true one more = and_from _ _ (holds u.name one) more
        by false one more = more

    others_bare : (us : List Use) → list_all (λ u. is_found_so fs u.name) us ≡ true
        → list_all (λ x. not (has_name s env x)) (filter (λ x. not (is_reserved x)) (map (λ (u : Use). u.name) us)) ≡ true
    others_bare [] h = refl
    others_bare (u ∷ us) h =
        let parts = and_parts (is_found_so fs u.name) (list_all (λ u. is_found_so fs u.name) us) h in
        by (is_reserved u.name) parts.0 (others_bare us parts.1)
      where
        by : (b : Bool) → (if b then is_held fs u.name else is_unbound fs u.name) ≡ true
            → list_all (λ x. not (has_name s env x)) (filter (λ x. not (is_reserved x)) (map (λ (u : Use). u.name) us)) ≡ true
            → list_all (λ x. not (has_name s env x))
            (if not b then (u.name ∷ filter (λ x. not (is_reserved x)) (map (λ (u : Use). u.name) us)) else filter (λ x. not (is_reserved x)) (map (λ (u : Use). u.name) us))
            ≡ true
        by true one more = more
        by false one more = and_from _ _ (bare u.name one) more

-- ---- a function

-- a function that is low and whose names are found so in its frames
pub remade_in : {W : World} {s : Store} {fs : List Frame} {env others : Option EnvId} (g : StoreRel W s s) → W.bases ≡ [] → W.opens ≡ false → (k : ℕ) (c : tree.Code)
    → Round W fs env others → IsOlder W k (name_of c) env → seals_name fs (name_of c) ≡ true → finds_needs fs c ≡ true → code_height c + 1 ≤ function_height_limit
    → CanBeRemade s k c env
remade_in {s = s} {fs = fs} {env = env} g none_rebuilt closed k c round o seals finds low =
    let holds = λ (x : List ℕ) (h : is_held fs x ≡ true). found_held s k env x (held_round g none_rebuilt closed k (name_of c) x round o h) in
    let bare = λ (x : List ℕ) (h : is_unbound fs x ≡ true). none_bound s k env x (unbound_round g none_rebuilt closed x round h) in
    let needs = all_pass (is_older s k env) [] (filter is_reserved (map (λ (u : Use). u.name) (expr_uses (func c)))) refl (needs_held s k env fs holds bare (expr_uses (func c)) finds) in
    let parts = older_parts s k env (needed_variables c) needs in
    record {
      bound = parts.0;
      older = parts.1;
      unbound = others_bare s k env fs holds bare (expr_uses (func c)) finds;
      own_name = own_round g none_rebuilt closed k (name_of c) round o seals;
      low = low;
    }
