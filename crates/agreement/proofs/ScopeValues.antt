-- What a new scope object has (section 10.5): the formals and the function's own name with their values, the other variables without.
use Rattle.std.proofs.Common.{◌≡◌, refl, sym, ap, subst, ◌∙◌, ℕ, Bool, true, false, ◌||◌, cond, List, [], ◌∷◌, ◌++◌, Option, Some, None, bytes_eq, if◌then◌else◌}
use Rattle.std.proofs.lemmas.Bool.{or_parts, or_right}
use Rattle.std.proofs.lemmas.Slice.Eq.{bytes_eq-Decides}
use Rattle.js_core.specs.Tree.{name}
use Rattle.js_values.specs.declared.ids.EnvId.{EnvId}
use Rattle.js_values.specs.declared.value.Value.{Value}
use Rattle.js_values.specs.declared.value.Value.TheVariants.{Undefined}
use Rattle.object_heap.specs.Environment.{AreInside, Bound, Environment, value_of}
use Rattle.object_heap.specs.Heap.{look_in}
use Rattle.object_heap.specs.Property.{Props, own_property}
use Rattle.page_meaning.specs.Act.{Calls, Ended}
use Rattle.page_meaning.specs.Expressions.{eval}
use Rattle.page_meaning.specs.Names.{held}
use Rattle.page_meaning.specs.Store.{Store}
use Rattle.page_meaning.specs.declared.signal.Signal.TheVariants as signal
use Rattle.scope_analysis.specs.Names.{has_repeat, is_among}
use Rattle.heap_relations.specs.Naming.{Frame, In, Round, Sealed, Slot, World, based, env_id, inside, outermost}
use Rattle.heap_relations.specs.Scope.{AreFresh, plain_prop}
use Rattle.instrumenter.specs.Around.{literal_fields, void_zero}
use Rattle.agreement.proofs.ScopeObjects.{name_run}
use Rattle.agreement.proofs.Scoped.{FieldsHave, field, no_more_fields}

-- ---- the literal's values

-- a name that is found
pub record Found (es : List Environment) (k : EnvId) (z : List ℕ) : Type 0 where
  pub env : EnvId
  pub value : Value
  pub is : look_in es (Some k) z ≡ Some (env, value)

abbrev pub value_in : List Environment → EnvId → List (List ℕ) → List ℕ → Value
value_in es k valued z = if is_among z valued then held (look_in es (Some k) z) else Undefined

abbrev pub values_in : List Environment → EnvId → List (List ℕ) → List (List ℕ) → Bound
values_in es k valued [] = []
values_in es k valued (z ∷ zs) = (z, value_in es k valued z) ∷ values_in es k valued zs

-- the literal gives them
pub literal_has : (d : Calls) (this : Value) (es : List Environment) (k : EnvId) (valued zs : List (List ℕ)) → AreInside es
    → ((z : List ℕ) → is_among z zs ≡ true → is_among z valued ≡ true → Found es k z)
    → FieldsHave d (record { env = Some k; this = this }) es (literal_fields valued zs) (values_in es k valued zs)
literal_has d this es k valued [] ages found = no_more_fields
literal_has d this es k valued (z ∷ zs) ages found =
    field (by_case (is_among z valued) refl) (literal_has d this es k valued zs ages (λ y i v. found y (later y i) v))
  where
    later : (y : List ℕ) → is_among y zs ≡ true → is_among y (z ∷ zs) ≡ true
    later y i = or_right (bytes_eq y z) (is_among y zs) i

    by_case : (b : Bool) → is_among z valued ≡ b → (t : Store) (n : ℕ) → t.heap.environments ≡ es
        → (eval d (record { env = Some k; this = this }) (if b then name z else void_zero)).run t n ≡ Ended (signal.Value (if b then held (look_in es (Some k) z) else Undefined)) t n
    by_case false e t n same = refl
    by_case true e t n same =
        let f = found z (ap (λ b. b || is_among z zs) ((bytes_eq-Decides z z).1 refl)) e in
        let is : look_in es (Some k) z ≡ Some (f.env, held (look_in es (Some k) z)) = f.is ∙ ap (λ v. Some (f.env, v)) (sym (ap held f.is)) in
        name_run d (record { env = Some k; this = this }) t n z f.env (held (look_in es (Some k) z)) (subst AreInside (sym same) ages) (ap (λ l. look_in l (Some k) z) same ∙ is)

-- each name of the fields has one
pub values_value : (es : List Environment) (k : EnvId) (valued zs : List (List ℕ)) (y : List ℕ) → is_among y zs ≡ true → value_of (values_in es k valued zs) y ≡ Some (value_in es k valued y)
values_value es k valued [] y h = absurd (cc h)
values_value es k valued (z ∷ zs) y h = by_case (bytes_eq y z) refl h (values_value es k valued zs y)
  where
    by_case : (b : Bool) → bytes_eq y z ≡ b → (b || is_among y zs) ≡ true → (is_among y zs ≡ true → value_of (values_in es k valued zs) y ≡ Some (value_in es k valued y))
        → cond b (Some (value_in es k valued z)) (value_of (values_in es k valued zs) y) ≡ Some (value_in es k valued y)
    by_case true e i rest = ap (λ w. Some (value_in es k valued w)) (sym ((bytes_eq-Decides y z).0 e))
    by_case false e i rest = rest i

-- ---- no name comes twice

own_last : (props : Props) (z y : List ℕ) (v : Value) → own_property props y ≡ None → bytes_eq y z ≡ false → own_property (props ++ (z, plain_prop v) ∷ []) y ≡ None
own_last [] z y v h far = rw far refl
own_last (p ∷ ps) z y v h far = by_case (bytes_eq y p.0) refl h (own_last ps z y v)
  where
    by_case : (b : Bool) → bytes_eq y p.0 ≡ b → cond b (Some p.1) (own_property ps y) ≡ None → (own_property ps y ≡ None → bytes_eq y z ≡ false → own_property (ps ++ (z, plain_prop v) ∷ []) y ≡ None)
        → cond b (Some p.1) (own_property (ps ++ (z, plain_prop v) ∷ []) y) ≡ None
    by_case true e k rest = absurd (cc k)
    by_case false e k rest = rest k far

pub values_fresh : (es : List Environment) (k : EnvId) (valued zs : List (List ℕ)) (props : Props) → ((y : List ℕ) → is_among y zs ≡ true → own_property props y ≡ None) → has_repeat zs ≡ false
    → AreFresh props (values_in es k valued zs)
values_fresh es k valued [] props none once = tt
values_fresh es k valued (z ∷ zs) props none once =
    let parts = or_parts (is_among z zs) (has_repeat zs) once in (
      none z (ap (λ b. b || is_among z zs) ((bytes_eq-Decides z z).1 refl)),
      values_fresh es k valued zs (props ++ (z, plain_prop (value_in es k valued z)) ∷ [])
          (λ y i. own_last props z y (value_in es k valued z) (none y (later y i)) (apart y i parts.0)) parts.1,
    )
  where
    later : (y : List ℕ) → is_among y zs ≡ true → is_among y (z ∷ zs) ≡ true
    later y i = or_right (bytes_eq y z) (is_among y zs) i

    apart : (y : List ℕ) → is_among y zs ≡ true → is_among z zs ≡ false → bytes_eq y z ≡ false
    apart y i out = by_case (bytes_eq y z) refl
      where
        by_case : (b : Bool) → bytes_eq y z ≡ b → bytes_eq y z ≡ false
        by_case false e = e
        by_case true e = let wrong : true ≡ false = sym i ∙ ap (λ w. is_among w zs) ((bytes_eq-Decides y z).0 e) ∙ out in absurd (cc wrong)

-- ---- the own name, which the environment round the function has

pub record OwnSlot (W : World) (e f : Option EnvId) (z : List ℕ) (known : List ℕ → Value) : Type 0 where
  pub slot : Slot
  pub there : In slot W.slots
  pub kept : slot.frame.keeps z ≡ Sealed
  pub one : e ≡ Some (env_id slot.one)
  pub two : f ≡ Some (env_id slot.two)
  pub same : slot.known z ≡ known z

abbrev pub known_of : {W : World} {gs : List Frame} {e f : Option EnvId} → Round W gs e f → List ℕ → Value
known_of outermost z = Undefined
known_of (inside s i) z = s.known z
known_of (based b i) z = Undefined
