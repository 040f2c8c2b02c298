-- Operators and properties of operands that are read at once.
use Rattle.std.proofs.Common.{◌≡◌, refl, ◌∙◌, ℕ, List, Option, Some, None, Result, Ok, Err, IfOk}
use Rattle.std.specs.Prelude.{IfSome}
use Rattle.code_table.specs.Kind.{kind_of}
use Rattle.code_table.specs.declared.kind.Kind.TheVariants.{Binary, Index, Member}
use Rattle.js_core.specs.declared.operators.BinaryOp.{BinaryOp}
use Rattle.js_values.specs.declared.ids.ObjId.{ObjId}
use Rattle.js_values.specs.declared.throw.Throw.{Throw}
use Rattle.js_values.specs.declared.value.Value.{Value}
use Rattle.js_values.specs.declared.value.Value.TheVariants.{Undefined, Null, Bool as Truth, Num, Text, Object}
use Rattle.page_meaning.specs.declared.signal.Signal.{Signal}
use Rattle.page_meaning.specs.declared.signal.Signal.TheVariants.{Value as Val, Thrown, Return, Break, Continue}
use Rattle.page_meaning.specs.Act.{Act, Calls, Outcome, Ended, Stopped, on_value, then_on}
use Rattle.page_meaning.specs.Convert.{text_in, text_of, to_text}
use Rattle.page_meaning.specs.Errors.{settle}
use Rattle.page_meaning.specs.Operators.{operate}
use Rattle.page_meaning.specs.Properties.{get_index, get_member, read_property, with_properties}
use Rattle.page_meaning.specs.Store.{Store}
use Rattle.page_frames.specs.Where.{Where, here_of, spot_node}
use Rattle.page_state.specs.Does.{Does}
use Rattle.step_parts.specs.Operands.{Operand, Reads}
use Rattle.step_parts.proofs.ByKind.{plain_by_kind}

-- a value that was found is given
pub settled : (r : Result Value Throw) (v : Value) (s : Store) (n : ℕ) → r ≡ Ok v → (settle r).run s n ≡ Ended (Val v) s n
settled r v s n e = rw e refl

-- ---- the operands of the node at a place

pub reads_member : {E : Type 0} (r : Result (Option Value) E) (f : Where) (x : List ℕ) (s : Store) (u : Value) → kind_of (spot_node f) ≡ Member x → Operand f 0 s u
    → IfOk r (λ o. IfSome o (λ v. Does (λ _. get_member u x) s (Val v) s)) → IfOk r (λ o. IfSome o (Reads f (spot_node f) s))
reads_member (Err a) f x s u e d h = h
reads_member (Ok None) f x s u e d h = h
reads_member (Ok (Some v)) f x s u e d h = plain_by_kind (here_of f) (spot_node f) (Member x) s v e (record { is = λ calls n. rw (d.is calls n) (h.is calls n) })

pub reads_binary : (o : Option Value) (f : Where) (op : BinaryOp) (s : Store) (u w : Value) → kind_of (spot_node f) ≡ Binary op → Operand f 0 s u → Operand f 1 s w
    → IfSome o (λ v. (s : Store) → Does (λ calls. operate calls op u w) s (Val v) s) → IfSome o (Reads f (spot_node f) s)
reads_binary None f op s u w e d d1 h = h
reads_binary (Some v) f op s u w e d d1 h =
    plain_by_kind (here_of f) (spot_node f) (Binary op) s v e (record { is = λ calls n. rw (d.is calls n) (rw (d1.is calls n) ((h s).is calls n)) })

pub reads_index : {E : Type 0} (r : Result (Option Value) E) (f : Where) (s : Store) (u w : Value) → kind_of (spot_node f) ≡ Index → Operand f 0 s u → Operand f 1 s w
    → IfOk r (λ o. IfSome o (λ v. Does (λ calls. get_index calls u w) s (Val v) s)) → IfOk r (λ o. IfSome o (Reads f (spot_node f) s))
reads_index (Err a) f s u w e d d1 h = h
reads_index (Ok None) f s u w e d d1 h = h
reads_index (Ok (Some v)) f s u w e d d1 h =
    plain_by_kind (here_of f) (spot_node f) Index s v e (record { is = λ calls n. rw (d.is calls n) (rw (d1.is calls n) (h.is calls n)) })

-- ---- a key that is a primitive value

keyed : (o : Outcome Signal) (a : Act) (base : Value) (t : List ℕ) → ((w : Store) (k : ℕ) → a.run w k ≡ Ended (Val (Text t)) w k)
    → then_on (then_on o (on_value (λ _. a))) (on_value (λ x. read_property base (text_in x))) ≡ then_on o (on_value (λ _. read_property base t))
keyed (Ended (Val u) w k) a base t h = rw (h w k) refl
keyed (Ended (Thrown u) w k) a base t h = refl
keyed (Ended (Return u) w k) a base t h = refl
keyed (Ended Break w k) a base t h = refl
keyed (Ended Continue w k) a base t h = refl
keyed (Stopped w) a base t h = refl

to_its_text : (calls : Calls) (key : Value) (w : Store) (k : ℕ) → ((o : ObjId) → key ≡ Object o → ⊥) → (to_text calls key).run w k ≡ Ended (Val (Text (text_of key))) w k
to_its_text calls (Object o) w k h = absurd (h o refl)
to_its_text calls Undefined w k h = refl
to_its_text calls Null w k h = refl
to_its_text calls (Truth b) w k h = refl
to_its_text calls (Num x) w k h = refl
to_its_text calls (Text t) w k h = refl

by_name : (base key : Value) (s : Store) (v : Value) → ((o : ObjId) → key ≡ Object o → ⊥) → Does (λ _. get_member base (text_of key)) s (Val v) s → Does (λ calls. get_index calls base key) s (Val v) s
by_name base key s v h d = record { is = λ calls n. keyed ((with_properties base).run s n) (to_text calls key) base (text_of key) (λ w k. to_its_text calls key w k h) ∙ d.is calls n }

pub index_by_name : {E : Type 0} (r : Result (Option Value) E) (base key : Value) (x : List ℕ) (s : Store) → ((o : ObjId) → key ≡ Object o → ⊥) → x ≡ text_of key
    → IfOk r (λ o. IfSome o (λ v. Does (λ _. get_member base x) s (Val v) s)) → IfOk r (λ o. IfSome o (λ v. Does (λ calls. get_index calls base key) s (Val v) s))
index_by_name (Err a) base key x s h e d = d
index_by_name (Ok None) base key x s h e d = d
index_by_name (Ok (Some v)) base key x s h e d = by_name base key s v h (rw e at d)
