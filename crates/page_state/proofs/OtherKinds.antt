-- Values of all kinds but one.
use Rattle.std.proofs.Common.{◌≡◌, sym, subst, ℕ, ℤ, Bool, List, Option, ◌⊎◌, inl, inr}
use Rattle.js_values.specs.declared.value.Value.{Value}
use Rattle.js_values.specs.declared.value.Value.TheVariants.{Undefined, Null, Bool as Truth, Num, Text, Object}
use Rattle.js_values.specs.declared.ids.ObjId.{ObjId}

module _ (P : Value → Type 0) (v : Value) where
  -- what holds of each kind but objects
  pub no_object : (v ≡ Undefined) ⊎ ((v ≡ Null) ⊎ (((x : Bool) × (v ≡ Truth x)) ⊎ (((x : Option ℤ) × (v ≡ Num x)) ⊎ ((x : List ℕ) × (v ≡ Text x)))))
      → P Undefined → P Null → ((x : Bool) → P (Truth x)) → ((x : Option ℤ) → P (Num x)) → ((x : List ℕ) → P (Text x)) → P v
  no_object (inl e) a b c d f = subst P (sym e) a
  no_object (inr (inl e)) a b c d f = subst P (sym e) b
  no_object (inr (inr (inl (x, e)))) a b c d f = subst P (sym e) (c x)
  no_object (inr (inr (inr (inl (x, e))))) a b c d f = subst P (sym e) (d x)
  no_object (inr (inr (inr (inr (x, e))))) a b c d f = subst P (sym e) (f x)

  -- what holds of each kind but texts
  pub no_text : (v ≡ Undefined) ⊎ ((v ≡ Null) ⊎ (((x : Bool) × (v ≡ Truth x)) ⊎ (((x : Option ℤ) × (v ≡ Num x)) ⊎ ((x : ObjId) × (v ≡ Object x)))))
      → P Undefined → P Null → ((x : Bool) → P (Truth x)) → ((x : Option ℤ) → P (Num x)) → ((x : ObjId) → P (Object x)) → P v
  no_text (inl e) a b c d f = subst P (sym e) a
  no_text (inr (inl e)) a b c d f = subst P (sym e) b
  no_text (inr (inr (inl (x, e)))) a b c d f = subst P (sym e) (c x)
  no_text (inr (inr (inr (inl (x, e))))) a b c d f = subst P (sym e) (d x)
  no_text (inr (inr (inr (inr (x, e))))) a b c d f = subst P (sym e) (f x)
