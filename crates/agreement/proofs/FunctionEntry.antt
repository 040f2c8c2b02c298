-- A function of the page is entered on both sides (sections 10.4.3 and 10.5), where the right has it opened.
use Rattle.std.proofs.Common.{◌≡◌, refl, sym, ap, subst, ◌∙◌, ℕ, ◌<◌, Bool, true, false, ◌||◌, ◌&&◌, List, [], ◌∷◌, ◌++◌, length, Option, Some, None, is_some, bytes_eq, if◌then◌else◌}
use Rattle.agreement.proofs.Entries.{entry_names_same}
use Rattle.agreement.specs.Acts.{StoreRel}
use Rattle.page_meaning.specs.Act.{Calls}
use Rattle.instrumenter.specs.Around.{literal_fields, next_number}
use Rattle.std.proofs.lemmas.List.Folds.{list_any-append}
use Rattle.std.proofs.lemmas.Bool.{and_parts, both_ways, false_from_ne_true, lt-ltb}
use Rattle.code_table.specs.Declarations.{functions_of, variables_of}
use Rattle.js_core.specs.Tree as tree
use Rattle.js_core.specs.Tree.{code}
use Rattle.js_values.specs.declared.ids.EnvId.{EnvId}
use Rattle.js_values.specs.declared.value.Value.{Value}
use Rattle.js_values.specs.declared.value.Value.TheVariants.{Undefined}
use Rattle.object_heap.proofs.Callers.{environment_last, lookup_on, sound_opened, environment_before}
use Rattle.object_heap.specs.Environment.{Bound, Environment, environment_at, inside as inside_older, new_environment, value_of}
use Rattle.object_heap.specs.Heap.{Contents, IsSound, first_bound, look_in, lookup, opened}
use Rattle.page_meaning.specs.Functions.{entry_names, function_names, with_arguments}
use Rattle.page_meaning.specs.Names.{held}
use Rattle.page_meaning.specs.Store.{Store}
use Rattle.scope_analysis.specs.Names.{bound_names, declared_names, is_among, maybe_name, own_name}
use Rattle.heap_relations.proofs.Callers as heap
use Rattle.heap_relations.specs.Naming.{Copied, Frame, In, Kept, OwnName, Round, Sealed, World, based, env_id, here, inside, is_reserved, is_scope_name, named, outermost, there}
use Rattle.heap_relations.specs.Related.{Each, Maybe, ValueRel, none, some, undefined}
use Rattle.heap_relations.specs.Scope as scope
use Rattle.heap_relations.specs.Scope.{EntryRel, scoped_slot}
use Rattle.agreement.proofs.Entering.{Asked, both_bind, inner_among, others_value, own_apart, whole_body, inner_body, inside_of}
use Rattle.agreement.proofs.EntryNames.{argument_rel, arguments_bind, bound_declared, entry_value, first_some, formal_bound}
use Rattle.agreement.proofs.Declared.{left_among, right_among, either_among, functions_declared, stmts_declared}
use Rattle.agreement.proofs.ScopeValues.{Found, OwnSlot, known_of, literal_has, value_in, values_fresh, values_in, values_value}
use Rattle.agreement.proofs.Scoped.{Filling, found_new}
use Rattle.agreement.proofs.Undeclared.{body_avoid}
use Rattle.agreement.specs.Trees.{bound_where}
use Rattle.agreement.specs.Opened.{is_bound, is_round, is_sealed, kept_in}

-- ---- the own name

sealed_is : (k : Kept) → is_sealed k ≡ true → k ≡ Sealed
sealed_is Sealed e = refl
sealed_is Kept.Absent e = absurd (cc e)
sealed_is Kept.Free e = absurd (cc e)
sealed_is Kept.Captured e = absurd (cc e)
sealed_is Kept.Copied e = absurd (cc e)
sealed_is Kept.Constant e = absurd (cc e)
sealed_is Kept.Unused e = absurd (cc e)

no_one : {A : Type 0} {x : A} {l : List A} → l ≡ [] → In x l → ⊥
no_one e here = cc e
no_one e (there i) = cc e

pub own_slot_of : {W : World} {gs : List Frame} {e f : Option EnvId} (z : List ℕ) → (r : Round W gs e f) → W.bases ≡ [] → is_round gs z ≡ true → OwnSlot W e f z (known_of r)
own_slot_of z outermost bases h = absurd (cc h)
own_slot_of z (inside s i) bases h = record { slot = s; there = i; kept = sealed_is (s.frame.keeps z) h; one = refl; two = refl; same = refl }
own_slot_of z (based b i) bases h = absurd (no_one bases i)

-- a name that the environment round a new one binds
found_outer : (h : Contents) → IsSound h → (j : ℕ) (others : Bound) (z : List ℕ) (w : Value) → j < length h.environments → value_of others z ≡ None → value_of (environment_at h.environments j).names z ≡ Some w
    → look_in (opened h (Some (env_id j)) others).environments (Some (env_id (length h.environments))) z ≡ Some (env_id j, w)
found_outer h sound j others z w less unbound is =
    let k = length h.environments in
    let new = new_environment (inside_older k (Some (env_id j))) others in
    let es = (opened h (Some (env_id j)) others).environments in
    let ages = (sound_opened h sound (Some (env_id j)) others).environments in
    let outer : inside_older k (Some (env_id j)) ≡ Some (env_id j) = ap (λ (b : Bool). if b then Some (env_id j) else None) (lt-ltb j k less) in
    lookup_on es k z ages
    ∙ ap (λ (i : Environment). first_bound k (value_of i.names z) i.outer (λ q. lookup es q z)) (environment_last h.environments new)
    ∙ (λ i. first_bound k (unbound i) (outer i) (λ q. lookup es q z))
    ∙ lookup_on es j z ages
    ∙ ap (λ (i : Environment). first_bound j (value_of i.names z) i.outer (λ q. lookup es q z)) (environment_before h.environments new j less)
    ∙ ap (λ o. first_bound j o (environment_at h.environments j).outer (λ q. lookup es q z)) is

-- ---- which names the function has

none_of : {A : Type 0} (o : Option A) → is_some o ≡ false → o ≡ None
none_of None e = refl
none_of (Some a) e = absurd (cc e)

module _ (n : ℕ) (gs : List Frame) (y : List ℕ) (ys : List (List ℕ)) (x : Option (List ℕ)) (formals : List (List ℕ)) (body : tree.Stmts) (a : Asked n gs (own_name (code x formals body)) (y ∷ ys) formals body) where
  abbrev own_names : List (List ℕ)
  own_names = maybe_name (own_name (code x formals body))

  abbrev valued : List (List ℕ)
  valued = formals ++ own_names

  abbrev whole : tree.Stmts
  whole = whole_body n gs (y ∷ ys) x formals body

  not_formal : (z : List ℕ) → is_bound formals body z ≡ false → is_among z formals ≡ false
  not_formal z h = false_from_ne_true (is_among z formals) (λ e. absurd (both_ways (is_bound formals body z) h (formal_bound formals body z e)))

  not_declared : (z : List ℕ) → is_bound formals body z ≡ false → is_among z (declared_names body) ≡ false
  not_declared z h = false_from_ne_true (is_among z (declared_names body)) (λ e. absurd (both_ways (is_bound formals body z) h (a.declared z e)))

  not_own : (z : List ℕ) → is_bound formals body z ≡ true → is_among z own_names ≡ false
  not_own z h =
      false_from_ne_true (is_among z own_names)
      (λ e. absurd (both_ways (is_among z (bound_names (code x formals body))) (own_apart x (bound_names (code x formals body)) z e)
      (list_any-append (bytes_eq z) formals (declared_names body) ∙ bound_declared formals body z h)))

  argument_none : (ws : List Value) (z : List ℕ) → is_among z formals ≡ false → value_of (with_arguments formals ws) z ≡ None
  argument_none ws z h = none_of (value_of (with_arguments formals ws) z) (arguments_bind formals ws z ∙ h)

  -- a copied name is not bound on the right
  own_unbound : (ws : List Value) (z : List ℕ) → is_scope_name z ≡ false → is_bound formals body z ≡ false → value_of (entry_names formals whole ws) z ≡ None
  own_unbound ws z plain h =
      let declared = not_declared z h in
      let fns = false_from_ne_true (is_among z (function_names (functions_of body))) (λ e. absurd (both_ways (is_among z (declared_names body)) declared (functions_declared z body e))) in
      let vars = false_from_ne_true (is_among z (variables_of body)) (λ e. absurd (both_ways (is_among z (declared_names body)) declared (stmts_declared z body e))) in
      let inner = body_avoid z (inside_of n gs (y ∷ ys) (code x formals body)) (next_number (y ∷ ys) n) body fns vars in
      others_value n gs (y ∷ ys) x formals body ws z
      ∙ (λ i. first_some (argument_none ws z (not_formal z h) i) (heap.not_scope_name z n plain i || inner i))

  own_held : (z : List ℕ) → is_among z (y ∷ ys) ≡ true → is_bound formals body z ≡ false → (is_among z own_names ≡ true) × (is_round gs z ≡ true)
  own_held z i h = and_parts (is_among z own_names) (is_round gs z) (sym (ap (λ b. b || (is_among z own_names && is_round gs z)) h) ∙ a.field z i)

  field_plain : (z : List ℕ) → is_among z (y ∷ ys) ≡ true → is_scope_name z ≡ false
  field_plain z i = a.plain z (left_among z (y ∷ ys) (formals ++ declared_names body) i)

  -- ---- in two pages that agree

  module _ {W : World} {vs ws : List Value} (e f : Option EnvId) (r : Round W gs e f) (bases : W.bases ≡ []) (opens : W.opens ≡ true) (s t : Store) (g : StoreRel W s t) (h : Each (ValueRel (named W)) vs ws) where
    abbrev names : Bound
    names = entry_names formals body vs

    abbrev others : Bound
    others = entry_names formals whole ws

    abbrev es : List Environment
    es = (opened t.heap f others).environments

    abbrev k : EnvId
    k = env_id (length t.heap.environments)

    argument_found : (z : List ℕ) (w : Value) → value_of (with_arguments formals ws) z ≡ Some w → look_in es (Some k) z ≡ Some (k, w)
    argument_found z w is = found_new t.heap g.heap.right f others z w (others_value n gs (y ∷ ys) x formals body ws z ∙ ap (λ o. first_some o (is_among z (variables_of whole))) is)

    own_found : (z : List ℕ) → is_among z (y ∷ ys) ≡ true → is_bound formals body z ≡ false → (w : Value) × ((j : EnvId) × ((look_in es (Some k) z ≡ Some (j, w)) × ValueRel (named W) (known_of r z) w))
    own_found z i b =
        let plain = field_plain z i in
        let o = own_slot_of z r bases (own_held z i b).1 in
        let reserved : is_reserved W.opens z ≡ false = ap (λ q. is_reserved q z) opens ∙ plain in
        let m = heap.sealed_read g.heap o.slot z o.there reserved o.kept in
        let inside = g.heap.slots.inside o.slot o.there in
        let found = found_outer t.heap g.heap.right o.slot.two others z m.0.right inside.1 (own_unbound ws z plain b) m.0.two in (
          m.0.right,
          (
            env_id o.slot.two,
            (
              ap (λ q. look_in (opened t.heap q others).environments (Some k) z) o.two ∙ found,
              subst (λ v. ValueRel (named W) v m.0.right) (m.1 ∙ o.same) m.0.same,
            ),
          ),
        )

    names_found : (z : List ℕ) → is_among z (y ∷ ys) ≡ true → is_among z valued ≡ true → Found es k z
    names_found z i v = by_case (is_bound formals body z) refl
      where
        by_case : (b : Bool) → is_bound formals body z ≡ b → Found es k z
        by_case false b = let o = own_found z i b in record { env = o.1.0; value = o.0; is = o.1.1.0 }
        by_case true b =
            let formal : is_among z formals ≡ true = either_among z formals own_names v (λ q. q) (λ q. absurd (both_ways (is_among z own_names) (not_own z b) q)) in
            let w = some_of (value_of (with_arguments formals ws) z) (arguments_bind formals ws z ∙ formal) in
            record { env = k; value = w.0; is = argument_found z w.0 w.1 }
          where
            some_of : (o : Option Value) → is_some o ≡ true → (w : Value) × (o ≡ Some w)
            some_of (Some w) q = (w, refl)
            some_of None q = absurd (cc q)

    bound_is : (z : List ℕ) → is_some (value_of names z) ≡ is_bound formals body z
    bound_is z = entry_names_same formals body vs z

    -- a variable
    captured_entry : (z : List ℕ) (any : Option Value) → is_bound formals body z ≡ true → EntryRel (named W) (known_of r z) Kept.Captured (value_of names z) any (Some (value_in es k valued z))
    captured_entry z any b = by_case (is_among z formals) refl
      where
        with_argument : {o p : Option Value} → Maybe (ValueRel (named W)) o p → value_of (with_arguments formals vs) z ≡ o → value_of (with_arguments formals ws) z ≡ p → is_among z formals ≡ true
            → EntryRel (named W) (known_of r z) Kept.Captured (value_of names z) any (Some (value_in es k valued z))
        with_argument none one two formal = absurd (both_ways (is_some (value_of (with_arguments formals vs) z)) (ap is_some one) (arguments_bind formals vs z ∙ formal))
        with_argument (some {a = v} {b = w} q) one two formal =
            let left : value_of names z ≡ Some v = entry_value formals body vs z ∙ ap (λ o. first_some o (is_among z (function_names (functions_of body)) || is_among z (variables_of body))) one in
            let right : value_in es k valued z ≡ w =
            ap (λ c. if c then held (look_in es (Some k) z) else Undefined) (left_among z formals own_names formal) ∙ ap held (argument_found z w two)
            in
            rw (left, right) (scope.captured q)

        undefined_left : (o : Bool) → is_some (first_some None o) ≡ true → first_some None o ≡ Some Undefined
        undefined_left true q = refl
        undefined_left false q = absurd (cc q)

        by_case : (c : Bool) → is_among z formals ≡ c → EntryRel (named W) (known_of r z) Kept.Captured (value_of names z) any (Some (value_in es k valued z))
        by_case true formal = with_argument (argument_rel formals vs ws z h) refl refl formal
        by_case false formal =
            let declared = is_among z (function_names (functions_of body)) || is_among z (variables_of body) in
            let value : value_of names z ≡ first_some None declared = entry_value formals body vs z ∙ ap (λ o. first_some o declared) (argument_none vs z formal) in
            let left : value_of names z ≡ Some Undefined = value ∙ undefined_left declared (ap is_some (sym value) ∙ bound_is z ∙ b) in
            let out : is_among z valued ≡ false = list_any-append (bytes_eq z) formals own_names ∙ (λ i. formal i || not_own z b i) in
            let right : value_in es k valued z ≡ Undefined = ap (λ c. if c then held (look_in es (Some k) z) else Undefined) out in
            rw (left, right) (scope.captured undefined)

    -- the own name
    copied_entry : (z : List ℕ) (any : Option Value) → is_among z (y ∷ ys) ≡ true → is_bound formals body z ≡ false
        → EntryRel (named W) (known_of r z) Copied (value_of names z) any (Some (value_in es k valued z))
    copied_entry z any i b =
        let o = own_found z i b in
        let left : value_of names z ≡ None = none_of (value_of names z) (bound_is z ∙ b) in
        let right : value_in es k valued z ≡ o.0 =
        ap (λ c. if c then held (look_in es (Some k) z) else Undefined) (right_among z formals own_names (own_held z i b).0) ∙ ap held o.1.1.0
        in
        rw (left, right) (scope.copied o.1.1.1)

    plain_entry : {p q : Option Value} (z : List ℕ) (u : Option Value) (b : Bool) → Maybe (ValueRel (named W)) p q → is_some p ≡ b → EntryRel (named W) (known_of r z) (bound_where b false) p q u
    plain_entry z u true (some m) e = scope.free m
    plain_entry z u false none e = scope.absent
    plain_entry z u true none e = absurd (cc e)
    plain_entry z u false (some m) e = absurd (cc e)

    entry_rel : (z : List ℕ) → is_scope_name z ≡ false
        → EntryRel (named W) (known_of r z) (kept_in (is_among z (y ∷ ys)) (is_bound formals body z) false) (value_of names z) (value_of others z) (value_of (values_in es k valued (y ∷ ys)) z)
    entry_rel z plain = by_case (is_among z (y ∷ ys)) refl (is_bound formals body z) refl
      where
        by_case : (c : Bool) → is_among z (y ∷ ys) ≡ c → (b : Bool) → is_bound formals body z ≡ b
            → EntryRel (named W) (known_of r z) (kept_in c b false) (value_of names z) (value_of others z) (value_of (values_in es k valued (y ∷ ys)) z)
        by_case true i true b = rw (values_value es k valued (y ∷ ys) z i) (captured_entry z (value_of others z) b)
        by_case true i false b = rw (values_value es k valued (y ∷ ys) z i) (copied_entry z (value_of others z) i b)
        by_case false i b q =
            plain_entry z (value_of (values_in es k valued (y ∷ ys)) z) b
            (both_bind n gs (y ∷ ys) x formals body vs ws z h
            (ap (λ c. c || is_among z (variables_of (inner_body n gs (y ∷ ys) x formals body))) (heap.not_scope_name z n plain) ∙ inner_among n gs (y ∷ ys) x formals body z i)) (bound_is z ∙ q)

    own_name_there : (z : List ℕ) → kept_in (is_among z (y ∷ ys)) (is_bound formals body z) false ≡ Copied
        → OwnName W (scoped_slot s.heap t.heap (λ u. kept_in (is_among u (y ∷ ys)) (is_bound formals body u) false) n gs (known_of r)) z e
    own_name_there z copied = by_case (is_among z (y ∷ ys)) refl (is_bound formals body z) refl copied
      where
        by_case : (c : Bool) → is_among z (y ∷ ys) ≡ c → (b : Bool) → is_bound formals body z ≡ b → kept_in c b false ≡ Copied
            → OwnName W (scoped_slot s.heap t.heap (λ u. kept_in (is_among u (y ∷ ys)) (is_bound formals body u) false) n gs (known_of r)) z e
        by_case true i true b m = absurd (cc m)
        by_case true i false b m =
            let o = own_slot_of z r bases (own_held z i b).1 in
            record { slot = o.slot; named = o.there; there = o.one; kept = o.kept; same = o.same }
        by_case false i true b m = absurd (cc m)
        by_case false i false b m = absurd (cc m)

    pub function_filling : (d : Calls) (that : Value) → Filling W s t d that (y ∷ ys) n (is_bound formals body) gs e f names others (literal_fields valued (y ∷ ys))
    function_filling d that = record {
      values = values_in es k valued (y ∷ ys);
      known = known_of r;
      have = literal_has d that es k valued (y ∷ ys) (sound_opened t.heap g.heap.right f others).environments names_found;
      fresh = values_fresh es k valued (y ∷ ys) [] (λ z i. refl) a.distinct;
      same = entry_rel;
      own = own_name_there;
    }
