-- Names with literal properties or bounded values, and lists of values.
use Rattle.std.proofs.Common.{ℕ, zero, suc, Bool, true, false, cond, List, [], ◌∷◌, ◌++◌, Some, filter, slice_index_or, drop}
use Rattle.std.specs.List.{All}
use Rattle.std.specs.Map.{lookup, set_value, remove_entry}
use Rattle.std.proofs.lemmas.List.Elements.{All-head, All-tail}
use Rattle.js_values.specs.declared.value.Value.{Value}
use Rattle.js_values.specs.declared.value.Value.TheVariants.{Undefined}
use Rattle.object_heap.specs.Environment.{Bound}
use Rattle.object_heap.specs.Property.{Props}
use Rattle.object_heap.specs.declared.property.Prop.{Prop}
use Rattle.literal_values.specs.Objects.{LiteralNames, LiteralProps, MaybeProp}
use Rattle.literal_values.specs.Values.{AreBounded, IsBounded, MaybeBounded}

module _ {X : Type 0} (P : X → Type 0) where
  -- what stands for one that is not there is one too
  pub all_at : (d : X) (xs : List X) (k : ℕ) → P d → All P xs → P (slice_index_or xs k d)
  all_at d [] k n h = n
  all_at d (x ∷ xs) zero n h = All-head P x xs h
  all_at d (x ∷ xs) (suc k) n h = all_at d xs k n (All-tail P x xs h)

-- ---- values

pub values_joined : (vs ws : List Value) → AreBounded vs → AreBounded ws → AreBounded (vs ++ ws)
values_joined [] ws h k = k
values_joined (v ∷ vs) ws h k = (h.0, values_joined vs ws h.1 k)

pub values_dropped : (n : ℕ) (vs : List Value) → AreBounded vs → AreBounded (drop n vs)
values_dropped zero vs h = h
values_dropped (suc n) [] h = h
values_dropped (suc n) (v ∷ vs) h = values_dropped n vs h.1

pub value_at : (vs : List Value) (k : ℕ) → AreBounded vs → IsBounded (slice_index_or vs k Undefined)
value_at [] k h = tt
value_at (v ∷ vs) zero h = h.0
value_at (v ∷ vs) (suc k) h = value_at vs k h.1

-- ---- properties

module _ (test : List ℕ → Bool) where
  pub props_found : (es : Props) → LiteralProps es → MaybeProp (lookup test es)
  props_found [] h = tt
  props_found (e ∷ es) h = by_case (test e.0) (props_found es h.2)
    where
      by_case : (b : Bool) → MaybeProp (lookup test es) → MaybeProp (cond b (Some e.1) (lookup test es))
      by_case true rest = h.1
      by_case false rest = rest

  pub props_set : (es : Props) (p : Prop) → IsBounded p.value → LiteralProps es → LiteralProps (set_value test es p)
  props_set [] p v h = tt
  props_set (e ∷ es) p v h = by_case (test e.0) (props_set es p v h.2)
    where
      by_case : (b : Bool) → LiteralProps (set_value test es p) → LiteralProps (cond b ((e.0, p) ∷ es) (e ∷ set_value test es p))
      by_case true rest = (h.0, v, h.2)
      by_case false rest = (h.0, h.1, rest)

  pub props_removed : (es : Props) → LiteralProps es → LiteralProps (remove_entry test es)
  props_removed [] h = tt
  props_removed (e ∷ es) h = by_case (test e.0) (props_removed es h.2)
    where
      by_case : (b : Bool) → LiteralProps (remove_entry test es) → LiteralProps (cond b es (e ∷ remove_entry test es))
      by_case true rest = h.2
      by_case false rest = (h.0, h.1, rest)

pub props_filtered : (p : List ℕ × Prop → Bool) (es : Props) → LiteralProps es → LiteralProps (filter p es)
props_filtered p [] h = tt
props_filtered p (e ∷ es) h = by_case (p e) (props_filtered p es h.2)
  where
    by_case : (b : Bool) → LiteralProps (filter p es) → LiteralProps (cond b (e ∷ filter p es) (filter p es))
    by_case true rest = (h.0, h.1, rest)
    by_case false rest = rest

pub props_joined : (es fs : Props) → LiteralProps es → LiteralProps fs → LiteralProps (es ++ fs)
props_joined [] fs h k = k
props_joined (e ∷ es) fs h k = (h.0, h.1, props_joined es fs h.2 k)

-- ---- names with values

module _ (test : List ℕ → Bool) where
  pub names_found : (es : Bound) → LiteralNames es → MaybeBounded (lookup test es)
  names_found [] h = tt
  names_found (e ∷ es) h = by_case (test e.0) (names_found es h.1)
    where
      by_case : (b : Bool) → MaybeBounded (lookup test es) → MaybeBounded (cond b (Some e.1) (lookup test es))
      by_case true rest = h.0
      by_case false rest = rest

  pub names_set : (es : Bound) (v : Value) → IsBounded v → LiteralNames es → LiteralNames (set_value test es v)
  names_set [] v k h = tt
  names_set (e ∷ es) v k h = by_case (test e.0) (names_set es v k h.1)
    where
      by_case : (b : Bool) → LiteralNames (set_value test es v) → LiteralNames (cond b ((e.0, v) ∷ es) (e ∷ set_value test es v))
      by_case true rest = (k, h.1)
      by_case false rest = (h.0, rest)

pub names_joined : (es fs : Bound) → LiteralNames es → LiteralNames fs → LiteralNames (es ++ fs)
names_joined [] fs h k = k
names_joined (e ∷ es) fs h k = (h.0, names_joined es fs h.1 k)
