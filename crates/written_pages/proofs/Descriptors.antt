-- Property descriptors, and definitions by them (sections 8.10 and 15.2.3).
use Rattle.std.proofs.Common.{ℕ, Bool, true, false, List}
use Rattle.std.specs.Prelude.{Option, Some, None, Result, Ok, Err, codes, if◌then◌else◌, refl}
use Rattle.std.proofs.Common.{IfSome}
use Rattle.js_values.specs.declared.ids.ObjId.{ObjId}
use Rattle.js_values.specs.declared.throw.Throw.{Throw}
use Rattle.js_values.specs.declared.throw.Throw.TheVariants.{WrongArgument}
use Rattle.js_values.specs.declared.value.Value.{Value}
use Rattle.js_values.specs.declared.value.Value.TheVariants as value
use Rattle.object_heap.specs.Define.{length_name}
use Rattle.object_heap.specs.declared.property.Change.{Change}
use Rattle.object_heap.specs.declared.property.Prop.{Prop}
use Rattle.page_host.specs.declared.host_name.HostName.{HostName}
use Rattle.page_host.specs.declared.host_name.HostName.TheVariants.{Value as HasValue}
use Rattle.page_meaning.specs.Convert.{number_of}
use Rattle.page_meaning.specs.Descriptors.{change_in, change_of, change_to, change_with, define_in, define_length, define_or_throw, descriptor_fit, descriptor_object, has_accessor, new_descriptor, some_ok, value_field}
use Rattle.page_meaning.specs.HostNames.{Seen, held, host_reads, hosted}
use Rattle.page_meaning.specs.Properties.{seen_at}
use Rattle.page_meaning.specs.Store.{Store}
use Rattle.literal_values.specs.Objects.{LiteralChange, LiteralObject}
use Rattle.literal_values.specs.Stores.{LiteralStore}
use Rattle.literal_values.specs.Values.{IsBounded, IsText, LiteralResult, LiteralThrow, MaybeBounded}
use Rattle.literal_values.proofs.Callers.{LiteralSeen, host_read, number_of_literal, seen_literal, text_seen}
use Rattle.written_pages.proofs.Acts.{also_is, asking_any, bind_is, choose_is, done_is, give_is}
use Rattle.written_pages.proofs.Primitives.{define_at_is, make_is, settle_is, unless_is}
use Rattle.written_pages.specs.Acts.{Writes}

-- what holds of a result, or the error is literal
abbrev pub ResultIs : {A : Type 0} → (A → Type 0) → Result A Throw → Type 0
ResultIs P (Ok a) = P a
ResultIs P (Err t) = LiteralThrow t

-- ---- a descriptor as an object

descriptor_literal : (p : Prop) → IsBounded p.value → LiteralObject (descriptor_object p)
descriptor_literal p h = record {
  class = tt;
  props = (
    text_seen (codes "value") refl,
    h,
    (
      text_seen (codes "writable") refl,
      tt,
      (text_seen (codes "enumerable") refl, tt, (text_seen (codes "configurable") refl, tt, tt)),
    ),
  );
}

pub new_descriptor_is : (p : Prop) → IsBounded p.value → Writes (new_descriptor p)
new_descriptor_is p h = bind_is (make_is (descriptor_object p) (descriptor_fit p) refl (descriptor_literal p h)) (λ k i. give_is (value.Object k) tt)

-- ---- what a descriptor asks for

some_ok_is : (r : Result Value Throw) → LiteralResult r → ResultIs MaybeBounded (some_ok r)
some_ok_is (Ok v) h = h
some_ok_is (Err t) h = h

value_field_is : (s : Store) (at : ObjId) (n : HostName) (o : Option Seen) → LiteralStore s → IfSome o LiteralSeen → ResultIs MaybeBounded (value_field s at n o)
value_field_is s at n None l h = tt
value_field_is s at n (Some (held p)) l h = h
value_field_is s at n (Some (hosted d)) l h = some_ok_is (host_reads s.host d n) (host_read s.host d n l.host h)

accessor_is : (b : Bool) (change : Change) → LiteralChange change → ResultIs LiteralChange (if b then Err WrongArgument else Ok change)
accessor_is true change h = tt
accessor_is false change h = h

change_with_is : (s : Store) (at : ObjId) (r : Result (Option Value) Throw) → ResultIs MaybeBounded r → ResultIs LiteralChange (change_with s at r)
change_with_is s at (Err t) h = h
change_with_is s at (Ok v) h = accessor_is (has_accessor s at) (change_of s at v) h

pub change_in_is : (s : Store) (v : Value) → LiteralStore s → ResultIs LiteralChange (change_in s v)
change_in_is s (value.Object at) l =
    change_with_is s at _ (value_field_is s at HasValue (seen_at s at (codes "value") HasValue) l (seen_literal s at (codes "value") HasValue l))
change_in_is s value.Undefined l = tt
change_in_is s value.Null l = tt
change_in_is s (value.Bool b) l = tt
change_in_is s (value.Num n) l = tt
change_in_is s (value.Text t) l = tt

-- ---- definitions

define_or_throw_is : (at : ObjId) (x : List ℕ) (change : Change) → IsText x → LiteralChange change → Writes (define_or_throw at x change)
define_or_throw_is at x change h k = unless_is (define_at_is at x change h k) done_is

define_length_is : (at : ObjId) (change : Change) (o : Option Value) → MaybeBounded o → LiteralChange change → Writes (define_length at change o)
define_length_is at change None h k = define_or_throw_is at length_name change (text_seen length_name refl) k
define_length_is at change (Some v) h k =
    also_is (settle_is (number_of v) (number_of_literal v h)) (λ n p. define_or_throw_is at length_name (change_to change n) (text_seen length_name refl) p)

pub define_in_is : (at : ObjId) (x : List ℕ) (change : Change) → IsText x → LiteralChange change → Writes (define_in at x change)
define_in_is at x change h k = asking_any (λ b. choose_is b (define_length_is at change change.value k k) (define_or_throw_is at x change h k))
