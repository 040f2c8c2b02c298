-- Loops.
use Rattle.std.proofs.Common.{ℕ, zero, suc, Bool, true, false, not, List, []}
use Rattle.std.specs.Prelude.{◌∷◌, ◌++◌, ◌&&◌, Option, Some, None, if◌then◌else◌, bytes_eq, map, ⊤}
use Rattle.std.specs.List.{list_any}
use Rattle.std.specs.Map.{keys_of}
use Rattle.js_values.specs.declared.ids.ObjId.{ObjId}
use Rattle.js_values.specs.declared.value.Value.{Value}
use Rattle.js_values.specs.declared.value.Value.TheVariants as value
use Rattle.object_heap.specs.Chain.{object_at}
use Rattle.object_heap.specs.Define.{length_name}
use Rattle.object_heap.specs.Object as heap
use Rattle.object_heap.specs.Property.{Props}
use Rattle.page_meaning.specs.Act.{Act}
use Rattle.page_meaning.specs.Loops.{Listed, each_name, listed_from, listed_of, listed_own, listed_up, loop, turn, turn_if, turned, turns, unit_names}
use Rattle.page_meaning.specs.Places.{boolean_prototype, number_prototype, string_prototype}
use Rattle.page_meaning.specs.Store.{Store}
use Rattle.page_meaning.specs.declared.signal.Signal.{Signal}
use Rattle.page_meaning.specs.declared.signal.Signal.TheVariants as signal
use Rattle.whole_ops.specs.Conversions.{is_true}
use Rattle.literal_values.proofs.Callers.{decimal_text, object_literal}
use Rattle.literal_values.specs.Objects.{LiteralObject, LiteralProps}
use Rattle.literal_values.specs.Stores.{LiteralStore}
use Rattle.literal_values.specs.Values.{IsText}
use Rattle.written_pages.proofs.Acts.{also_is, asking_any, bind_is, choose_is, done_is, ret_is, step_is, stop_is}
use Rattle.written_pages.specs.Acts.{Continues, SignalIs, Writes}

-- ---- turns

pub turned_is : {next : Act} (s : Signal) → Writes next → SignalIs s → Writes (turned next s)
turned_is (signal.Value v) h k = h
turned_is signal.Continue h k = h
turned_is signal.Break h k = done_is
turned_is (signal.Thrown v) h k = ret_is (signal.Thrown v) k
turned_is (signal.Return v) h k = ret_is (signal.Return v) k

pub turn_is : {body next : Act} → Writes body → Writes next → Writes (turn body next)
turn_is h k = bind_is step_is (λ u p. bind_is h (λ s q. turned_is s k q))

pub turn_if_is : {body next : Act} → Writes body → Writes next → (v : Value) → Writes (turn_if body next v)
turn_if_is h k v = choose_is (is_true v) (turn_is h k) done_is

turns_are : {test body last : Act} (n : ℕ) → Writes test → Writes body → Writes last → Writes (turns n test body last)
turns_are zero t h k = stop_is
turns_are (suc n) t h k = also_is t (λ v p. turn_if_is h (also_is k (λ w q. turns_are n t h k)) v)

pub loop_is : {test body last : Act} → Writes test → Writes body → Writes last → Writes (loop test body last)
loop_is t h k = record { run = λ s n l. (turns_are (suc n) t h k).run s n l }

-- ---- names that are listed

abbrev pub ListedUnits : Listed → Type 0
ListedUnits [] = ⊤
ListedUnits (p ∷ ps) = IsText p.1 × ListedUnits ps

listed_append : (ps qs : Listed) → ListedUnits ps → ListedUnits qs → ListedUnits (ps ++ qs)
listed_append [] qs h k = k
listed_append (p ∷ ps) qs h k = (h.0, listed_append ps qs h.1 k)

unit_names_listed : (k : ℕ) (t : List ℕ) → ListedUnits (unit_names k t)
unit_names_listed k [] = tt
unit_names_listed k (u ∷ us) = (decimal_text k, unit_names_listed (suc k) us)

one_listed : (b : Bool) (p : Option ObjId × List ℕ) (ps : Listed) → IsText p.1 → ListedUnits ps → ListedUnits (if b then p ∷ ps else ps)
one_listed true p ps h k = (h, k)
one_listed false p ps h k = k

own_listed : (at : ObjId) (seen : List (List ℕ)) (es : Props) → LiteralProps es → ListedUnits (listed_own at seen es)
own_listed at seen [] h = tt
own_listed at seen (e ∷ es) h =
    one_listed (e.1.enumerable && not (list_any (bytes_eq e.0) seen)) (Some at, e.0) (listed_own at seen es) h.0 (own_listed at seen es h.2)

from_listed : (objects : List heap.Object) → ((k : ℕ) → LiteralObject (object_at objects k)) → (n : ℕ) (seen : List (List ℕ)) (at : Option ObjId)
    → ListedUnits (listed_from objects n seen at)
from_listed objects l zero seen at = tt
from_listed objects l (suc n) seen None = tt
from_listed objects l (suc n) seen (Some at) =
    let o = object_at objects at.0 in
    listed_append (listed_own at seen o.props) _ (own_listed at seen o.props (l at.0).props) (from_listed objects l n (seen ++ keys_of o.props) o.proto)

up_listed : (s : Store) (seen : List (List ℕ)) (at : Option ObjId) → LiteralStore s → ListedUnits (listed_up s seen at)
up_listed s seen None l = tt
up_listed s seen (Some at) l = from_listed s.heap.objects (λ k. object_literal s k l) (suc at.0) seen (Some at)

pub names_listed : (s : Store) (v : Value) → LiteralStore s → ListedUnits (listed_of s v)
names_listed s value.Undefined l = tt
names_listed s value.Null l = tt
names_listed s (value.Bool b) l = up_listed s [] boolean_prototype l
names_listed s (value.Num n) l = up_listed s [] number_prototype l
names_listed s (value.Text t) l =
    listed_append (unit_names 0 t) _ (unit_names_listed 0 t) (up_listed s (length_name ∷ map (λ p. p.1) (unit_names 0 t)) string_prototype l)
names_listed s (value.Object at) l = up_listed s [] (Some at) l

-- ---- for-in

pub each_name_is : {target : Value → Act} {body : Act} (ps : Listed) → ListedUnits ps → Continues target → Writes body → Writes (each_name target body ps)
each_name_is [] h k b = done_is
each_name_is (p ∷ ps) h k b =
    bind_is step_is (λ u q.
    asking_any (λ there.
    choose_is there (also_is (k (value.Text p.1) h.0) (λ v r. bind_is b (λ s x. turned_is s (each_name_is ps h.1 k b) x))) (each_name_is ps h.1 k b)))
