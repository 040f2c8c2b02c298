-- Acts on an array, which stays one whatever they do: so its length may be put as any number.
use Rattle.std.proofs.Common.{◌≡◌, ap, ℕ, Bool, true, false}
use Rattle.std.specs.Prelude.{refl, ◌≤◌, Option, Some, None, length, if◌then◌else◌}
use Rattle.js_core.specs.Whole.{largest}
use Rattle.js_values.specs.declared.ids.ObjId.{ObjId}
use Rattle.js_values.specs.declared.throw.Throw.{Throw}
use Rattle.js_values.specs.declared.throw.Throw.TheVariants.{WrongArgument}
use Rattle.js_values.specs.declared.value.Value.{Value}
use Rattle.js_values.specs.declared.value.Value.TheVariants as value
use Rattle.object_heap.proofs.Callers.{object_last}
use Rattle.object_heap.specs.Define.{length_name, number}
use Rattle.object_heap.specs.Heap.{new_object}
use Rattle.object_heap.specs.Object.{is_list, settled}
use Rattle.object_heap.specs.declared.object.Class.TheVariants.{List as Array}
use Rattle.page_meaning.specs.Act.{Act, ActOf, Outcome, Ended, Stopped, LeadsTo, also, asking, bind, choose, give, on_value, then_on}
use Rattle.page_meaning.specs.Classes.{class_at}
use Rattle.page_meaning.specs.Elements.{list_in, on_list, on_some, set_length}
use Rattle.page_meaning.specs.Convert.{number_of}
use Rattle.page_meaning.specs.Errors.{on_refusal, settle}
use Rattle.page_meaning.specs.Properties.{is_length_of, stored}
use Rattle.page_meaning.specs.Expressions.{new_list}
use Rattle.page_meaning.specs.Places.{array_prototype}
use Rattle.page_meaning.specs.Primitives.{next_place}
use Rattle.page_meaning.specs.Steps.{after_step, put_tried, puts}
use Rattle.page_meaning.specs.Store.{Store}
use Rattle.page_meaning.specs.declared.signal.Signal.{Signal}
use Rattle.page_meaning.specs.declared.signal.Signal.TheVariants as signal
use Rattle.literal_values.proofs.Callers.{length_put, list_stays, put_thrown}
use Rattle.literal_values.specs.Stores.{LiteralStore}
use Rattle.literal_values.specs.Values.{IsBounded, MaybeThrow}
use Rattle.written_pages.proofs.Made.{new_list_is}
use Rattle.written_pages.proofs.Primitives.{raise_is}
use Rattle.written_pages.specs.Acts.{ActIs, OutcomeIs, SignalIs, Writes}

abbrev pub IsListAt : ObjId → Store → Type 0
IsListAt at s = is_list (class_at s at) ≡ true

-- ---- such acts

pub record ListActIs {A : Type 0} (at : ObjId) (P : A → Type 0) (act : ActOf A) : Type 0 where
  pub run : (s : Store) (n : ℕ) → IsListAt at s → LiteralStore s → OutcomeIs P (act.run s n)

pub always : {A : Type 0} {at : ObjId} {P : A → Type 0} {act : ActOf A} → ActIs P act → ListActIs at P act
always h = record { run = λ s n i l. h.run s n l }

list_then : {A B : Type 0} {P : A → Type 0} {Q : B → Type 0} (at : ObjId) (s : Store) (n : ℕ) (o : Outcome A) (f : A → ActOf B)
    → LeadsTo s n o → IsListAt at s → OutcomeIs P o → ((a : A) → P a → ListActIs at Q (f a)) → OutcomeIs Q (then_on o f)
list_then at s n (Ended a t m) f g i h k = (k a h.0).run t m (list_stays s t g.1 at i) h.1
list_then at s n (Stopped t) f g i h k = h

pub list_bind : {A B : Type 0} {at : ObjId} {P : A → Type 0} {Q : B → Type 0} {m : ActOf A} {f : A → ActOf B}
    → ListActIs at P m → ((a : A) → P a → ListActIs at Q (f a)) → ListActIs at Q (bind m f)
list_bind {at = at} {m = m} {f = f} h k = record { run = λ s n i l. list_then at s n (m.run s n) f (m.leads s n) i (h.run s n i l) k }

on_value_list : {at : ObjId} {f : Value → Act} (a : Signal) → SignalIs a → ((v : Value) → IsBounded v → ListActIs at SignalIs (f v)) → ListActIs at SignalIs (on_value f a)
on_value_list (signal.Value v) h k = k v h
on_value_list (signal.Thrown v) h k = record { run = λ s n i l. (h, l) }
on_value_list (signal.Return v) h k = record { run = λ s n i l. (h, l) }
on_value_list signal.Break h k = record { run = λ s n i l. (tt, l) }
on_value_list signal.Continue h k = record { run = λ s n i l. (tt, l) }

pub list_also : {at : ObjId} {m : Act} {f : Value → Act} → ListActIs at SignalIs m → ((v : Value) → IsBounded v → ListActIs at SignalIs (f v))
    → ListActIs at SignalIs (also m f)
list_also h k = list_bind h (λ a p. on_value_list a p k)

pub list_asking : {A B : Type 0} {at : ObjId} (P : A → Type 0) {Q : B → Type 0} {f : Store → A} {g : A → ActOf B}
    → ((s : Store) → LiteralStore s → P (f s)) → ((a : A) → P a → ListActIs at Q (g a)) → ListActIs at Q (asking f g)
list_asking P {f = f} h k = record { run = λ s n i l. (k (f s) (h s l)).run s n i l }

-- ---- its length becomes a number

told : (n : ℕ) (t : Store) (m : ℕ) (o : Option Throw) → MaybeThrow o → (o ≡ None → n ≤ largest) → LiteralStore t
    → OutcomeIs SignalIs ((on_refusal (give (number n)) o).run t m)
told n t m None h k l = (k refl, l)
told n t m (Some e) h k l = (raise_is e h).run t m l

pub length_set : (at : ObjId) (n : ℕ) → ListActIs at SignalIs (set_length at n)
length_set at n = record { run = λ s m i l. by_case s m i l (is_length_of s at length_name) }
  where
    put : (s : Store) (m : ℕ) → IsListAt at s → LiteralStore s → OutcomeIs SignalIs ((stored at length_name (number n)).run s m)
    put s m i l =
        let p = length_put s at n l i in
        told n (after_step s (puts at length_name (number n))) m (put_tried s at length_name (number n)).thrown (put_thrown s at length_name (number n)) p.1 p.0

    by_case : (s : Store) (m : ℕ) → IsListAt at s → LiteralStore s → (b : Bool)
        → OutcomeIs SignalIs ((choose b (also (settle (number_of (number n))) (stored at length_name)) (stored at length_name (number n))).run s m)
    by_case s m i l true = put s m i l
    by_case s m i l false = put s m i l

-- ---- arrays

some_array : {f : ObjId → Act} (s : Store) (n : ℕ) (v : Value) → ((at : ObjId) → ListActIs at SignalIs (f at)) → LiteralStore s
    → OutcomeIs SignalIs ((on_some f (list_in v s)).run s n)
some_array {f = f} s n (value.Object at) k l = by_case (is_list (class_at s at)) refl
  where
    by_case : (b : Bool) → is_list (class_at s at) ≡ b → OutcomeIs SignalIs ((on_some f (if b then Some at else None)).run s n)
    by_case true e = (k at).run s n e l
    by_case false e = (raise_is WrongArgument tt).run s n l
some_array s n value.Undefined k l = (raise_is WrongArgument tt).run s n l
some_array s n value.Null k l = (raise_is WrongArgument tt).run s n l
some_array s n (value.Bool b) k l = (raise_is WrongArgument tt).run s n l
some_array s n (value.Num x) k l = (raise_is WrongArgument tt).run s n l
some_array s n (value.Text t) k l = (raise_is WrongArgument tt).run s n l

-- a value that must be an array
pub on_array_is : {f : ObjId → Act} (v : Value) → ((at : ObjId) → ListActIs at SignalIs (f at)) → Writes (on_list v f)
on_array_is v k = record { run = λ s n l. some_array s n v k l }

-- a new array
pub new_list_then : {A : Type 0} {P : A → Type 0} {f : ObjId → ActOf A} → ((a : ObjId) → ListActIs a P (f a)) → ActIs P (bind new_list f)
new_list_then k = record {
  run = λ s n l.
      (k (next_place s.heap)).run _ n
      (ap (λ o. is_list o.class) (object_last s.heap.objects (settled (length s.heap.objects) (new_object Array (Some array_prototype)))))
      (new_list_is.run s n l).1;
}
