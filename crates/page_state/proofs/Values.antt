-- What is done with the kinds of values.
use Rattle.std.proofs.Common.{◌≡◌, refl, List, ℕ, Err, inl, inr}
use Rattle.std.specs.Prelude.{◌⊎◌}
use Rattle.js_values.specs.declared.ids.ObjId.{ObjId}
use Rattle.js_values.specs.declared.throw.Throw.{Throw}
use Rattle.js_values.specs.declared.throw.Throw.TheVariants.{CannotSet, NoPrimitive, NoProperties}
use Rattle.js_values.specs.declared.value.Value.{Value}
use Rattle.js_values.specs.declared.value.Value.TheVariants.{Undefined, Null, Bool as Truth, Num, Text, Object}
use Rattle.page_meaning.specs.Act.{Calls, give}
use Rattle.page_meaning.specs.Convert.{a_number, number_of, to_number, to_primitive}
use Rattle.page_meaning.specs.Errors.{raise, settle}
use Rattle.page_meaning.specs.HostPuts.{put_member}
use Rattle.page_meaning.specs.Properties.{with_properties}
use Rattle.page_meaning.specs.Store.{Store}
use Rattle.js_core.specs.declared.memory.Failure.{Failure}
use Rattle.page_state.specs.Does.{Raises, itself}
use Rattle.page_state.proofs.Does.{also_gives, also_raises, given}

pub no_properties : (v : Value) → (v ≡ Undefined) ⊎ (v ≡ Null) → with_properties v ≡ raise NoProperties
no_properties v (inl e) = rw e refl
no_properties v (inr e) = rw e refl

pub has_properties : (v : Value) → (v ≡ Undefined → ⊥) → (v ≡ Null → ⊥) → with_properties v ≡ give v
has_properties Undefined h g = absurd (h refl)
has_properties Null h g = absurd (g refl)
has_properties (Truth b) h g = refl
has_properties (Num n) h g = refl
has_properties (Text t) h g = refl
has_properties (Object o) h g = refl

pub unset : (calls : Calls) (v : Value) (x : List ℕ) (w : Value) → ((o : ObjId) → v ≡ Object o → ⊥) → put_member calls v x w ≡ raise CannotSet
unset calls (Object o) x w h = absurd (h o refl)
unset calls Undefined x w h = refl
unset calls Null x w h = refl
unset calls (Truth b) x w h = refl
unset calls (Num n) x w h = refl
unset calls (Text t) x w h = refl

pub unset_raises : (v : Value) (x : List ℕ) (w : Value) (s t : Store) (e : Failure Value) → ((o : ObjId) → v ≡ Object o → ⊥) → Raises (λ _. raise CannotSet) s t e
    → Raises (λ calls. put_member calls v x w) s t e
unset_raises (Object o) x w s t e h r = absurd (h o refl)
unset_raises v x w s t e h r = r

-- a value that has no number
pub number_raises : (v : Value) (what : Throw) (s t : Store) (e : Failure Value) → Err what ≡ number_of v → Raises (λ _. raise what) s t e → Raises (λ calls. to_number calls v) s t e
number_raises (Object o) what s t e h r =
    let i : what ≡ NoPrimitive = cc in also_raises (λ calls. to_primitive calls a_number (Object o)) (λ _ p. settle (number_of p)) s t e (rw i at r)
number_raises Undefined what s t e h r = absurd (cc h)
number_raises Null what s t e h r = absurd (cc h)
number_raises (Truth b) what s t e h r = absurd (cc h)
number_raises (Num n) what s t e h r = absurd (cc h)
number_raises (Text x) what s t e h r =
    also_gives (λ calls. to_primitive calls a_number (Text x)) (λ _ p. settle (number_of p)) itself (Text x) s s t (Err e) (given (Text x) s) (rw (← h) r)
