-- What is done with the kinds of values.
use Rattle.std.proofs.Common.{◌≡◌, refl, ℕ, ◌≤◌, List, [], ◌∷◌, length, Bool, false, Result, arith, inl, inr}
use Rattle.std.specs.Prelude.{◌⊎◌}
use Rattle.js_values.specs.declared.ids.ObjId.{ObjId}
use Rattle.js_values.specs.declared.throw.ErrorKind.{ErrorKind}
use Rattle.js_values.specs.declared.throw.Throw.TheVariants.{WrongArgument}
use Rattle.js_values.specs.declared.value.Value.{Value}
use Rattle.js_values.specs.declared.value.Value.TheVariants.{Undefined, Null, Bool as Truth, Num, Text, Object}
use Rattle.page_meaning.specs.Act.{Act, Calls, also, bind, give}
use Rattle.page_meaning.specs.Convert.{text_in, to_text}
use Rattle.page_meaning.specs.Errors.{raise}
use Rattle.page_meaning.specs.Expressions.{new_plain}
use Rattle.page_meaning.specs.Functions.{object_of}
use Rattle.page_meaning.specs.ObjectRows.{create, define_properties, has_own, is_prototype_of, lists_own, object_from, on_object, value_itself, with_given}
use Rattle.page_meaning.specs.Primitives.{make}
use Rattle.page_meaning.specs.Store.{Store}
use Rattle.page_meaning.specs.ValueRows.{error_from, error_saying, is_array, saying_fit, truth_itself, truth_text}
use Rattle.js_core.specs.declared.memory.Failure.{Failure}
use Rattle.page_state.specs.Does.{Gives, Raises}

-- an argument that is no object
pub no_object : (v : Value) (f : Calls → ObjId → Act) (s t : Store) (e : Failure Value) → ((o : ObjId) → v ≡ Object o → ⊥) → Raises (λ _. raise WrongArgument) s t e → Raises (λ c. on_object v (f c)) s t e
no_object (Object o) f s t e h r = absurd (h o refl)
no_object Undefined f s t e h r = r
no_object Null f s t e h r = r
no_object (Truth b) f s t e h r = r
no_object (Num n) f s t e h r = r
no_object (Text x) f s t e h r = r

pub no_plain : (v : Value) → ((o : ObjId) → v ≡ Object o → ⊥) → (v ≡ Undefined → ⊥) → (v ≡ Null → ⊥) → object_from v ≡ raise WrongArgument
no_plain (Object o) h u n = absurd (h o refl)
no_plain Undefined h u n = absurd (u refl)
no_plain Null h u n = absurd (n refl)
no_plain (Truth b) h u n = refl
no_plain (Num k) h u n = refl
no_plain (Text x) h u n = refl

pub plain : (v : Value) → (v ≡ Undefined) ⊎ (v ≡ Null) → object_from v ≡ bind new_plain object_of
plain v (inl e) = rw e refl
plain v (inr e) = rw e refl

-- something is given
pub given_some : (v : Value) (at : ObjId) → (v ≡ Undefined → ⊥) → with_given v at ≡ define_properties v at
given_some Undefined at h = absurd (h refl)
given_some Null at h = refl
given_some (Truth b) at h = refl
given_some (Num k) at h = refl
given_some (Text x) at h = refl
given_some (Object o) at h = refl

pub no_descriptors : (v : Value) (at : ObjId) → (v ≡ Undefined) ⊎ (v ≡ Null) → define_properties v at ≡ raise WrongArgument
no_descriptors v at (inl e) = rw e refl
no_descriptors v at (inr e) = rw e refl

pub no_prototype : (p v : Value) → ((o : ObjId) → p ≡ Object o → ⊥) → (p ≡ Null → ⊥) → create p v ≡ raise WrongArgument
no_prototype (Object o) v h n = absurd (h o refl)
no_prototype Null v h n = absurd (n refl)
no_prototype Undefined v h n = refl
no_prototype (Truth b) v h n = refl
no_prototype (Num k) v h n = refl
no_prototype (Text x) v h n = refl

pub no_truth_text : (v : Value) → ((b : Bool) → v ≡ Truth b → ⊥) → truth_text v ≡ raise WrongArgument
no_truth_text (Truth b) h = absurd (h b refl)
no_truth_text Undefined h = refl
no_truth_text Null h = refl
no_truth_text (Num k) h = refl
no_truth_text (Text x) h = refl
no_truth_text (Object o) h = refl

pub no_truth : (v : Value) → ((b : Bool) → v ≡ Truth b → ⊥) → truth_itself v ≡ raise WrongArgument
no_truth (Truth b) h = absurd (h b refl)
no_truth Undefined h = refl
no_truth Null h = refl
no_truth (Num k) h = refl
no_truth (Text x) h = refl
no_truth (Object o) h = refl

pub no_value : (v : Value) → (v ≡ Undefined) ⊎ (v ≡ Null) → value_itself v ≡ raise WrongArgument
no_value v (inl e) = rw e refl
no_value v (inr e) = rw e refl

pub a_value : (v : Value) → (v ≡ Undefined → ⊥) → (v ≡ Null → ⊥) → value_itself v ≡ give v
a_value Undefined u n = absurd (u refl)
a_value Null u n = absurd (n refl)
a_value (Truth b) u n = refl
a_value (Num k) u n = refl
a_value (Text x) u n = refl
a_value (Object o) u n = refl

pub owns_none : (v : Value) (x : List ℕ) → (v ≡ Undefined) ⊎ (v ≡ Null) → has_own v x ≡ raise WrongArgument
owns_none v x (inl e) = rw e refl
owns_none v x (inr e) = rw e refl

pub lists_none : (v : Value) (x : List ℕ) → (v ≡ Undefined) ⊎ (v ≡ Null) → lists_own v x ≡ raise WrongArgument
lists_none v x (inl e) = rw e refl
lists_none v x (inr e) = rw e refl

-- an error that is given a message
pub with_message : (k : ErrorKind) (v : Value) (s t : Store) (r : Result ObjId (Failure Value)) → (v ≡ Undefined → ⊥)
    → Gives Object (λ calls. also (to_text calls v) (λ x. bind (make (error_saying k (text_in x)) (saying_fit k (text_in x)) refl) object_of)) s t r → Gives Object (λ calls. error_from calls k v) s t r
with_message k Undefined s t r h g = absurd (h refl)
with_message k Null s t r h g = g
with_message k (Truth b) s t r h g = g
with_message k (Num n) s t r h g = g
with_message k (Text x) s t r h g = g
with_message k (Object o) s t r h g = g

pub text_descriptors : (t : List ℕ) (at : ObjId) (s u : Store) (e : Failure Value) → 1 ≤ length t → Raises (λ _. raise WrongArgument) s u e → Raises (λ _. define_properties (Text t) at) s u e
text_descriptors [] at s u e h r = absurd (omega arith)
text_descriptors (x ∷ t) at s u e h r = r

pub above_none : (v : Value) (at : ObjId) → (v ≡ Undefined) ⊎ (v ≡ Null) → is_prototype_of v (Object at) ≡ raise WrongArgument
above_none v at (inl e) = rw e refl
above_none v at (inr e) = rw e refl

-- what is no object stands below nothing
pub not_above : (v w : Value) → ((o : ObjId) → w ≡ Object o → ⊥) → is_prototype_of v w ≡ give (Truth false)
not_above v (Object o) h = absurd (h o refl)
not_above Undefined w h = refl
not_above Null w h = refl
not_above (Truth b) w h = refl
not_above (Num k) w h = refl
not_above (Text x) w h = refl
not_above (Object p) w h = refl

pub no_array : (v : Value) → ((o : ObjId) → v ≡ Object o → ⊥) → is_array v ≡ give (Truth false)
no_array (Object o) h = absurd (h o refl)
no_array Undefined h = refl
no_array Null h = refl
no_array (Truth b) h = refl
no_array (Num k) h = refl
no_array (Text x) h = refl
