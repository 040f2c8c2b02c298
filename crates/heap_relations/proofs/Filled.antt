-- A function is entered, on the right with a scope object.
use Rattle.std.proofs.Common.{subst, add-one, suc, ◌≡◌, refl, sym, ap, ◌∙◌, ℕ, ◌<◌, ◌≤◌, ◌^◌, Bool, true, false, cond, nat_eq, List, [], ◌∷◌, ◌++◌, Some, None, length, length-append, length-set, slice_set, bytes_eq, append_assoc, arith, if◌then◌else◌, Option}
use Rattle.std.proofs.lemmas.Slice.Eq.{bytes_eq-Decides}
use Rattle.js_values.specs.declared.ids.ObjId.{ObjId}
use Rattle.std.specs.Prelude.{option_map}
use Rattle.std.specs.Fmt.{decimal}
use Rattle.std.proofs.lemmas.List.{append-nil}
use Rattle.std.proofs.lemmas.Fmt.{decimal_is_IsNumeral}
use Rattle.std.proofs.lemmas.Bool.{eqb-true, eqb-false, eq-eqb}
use Rattle.std.specs.Str.Parse.{digits_value}
use Rattle.js_values.specs.declared.value.Value.{Value}
use Rattle.js_values.specs.declared.value.Value.TheVariants as value
use Rattle.object_heap.specs.declared.object.Class.TheVariants as class
use Rattle.object_heap.specs.Object.{Object, no_object, with_props, settled}
use Rattle.object_heap.specs.Attempt.{Attempt, done}
use Rattle.object_heap.specs.Chain.{object_at}
use Rattle.object_heap.specs.Define as object
use Rattle.object_heap.specs.Define.{whole_property}
use Rattle.object_heap.specs.Environment.{Bound, Environment, environment_at, new_environment, no_environment, value_of, with_bound, with_value_of}
use Rattle.object_heap.specs.Heap.{Contents, IsSound, define_own, made, new_object, opened, set, with_new_environment, with_new_object}
use Rattle.object_heap.specs.Property.{Props, own_property}
use Rattle.object_heap.proofs.Callers.{environment_last, environment_set_same, new_fit, object_last, settled_same, sound_define_own, sound_made, sound_opened, sound_set, value_set}
use Rattle.heap_relations.specs.Scope.{AreFresh, EntryRel, ScopesAgree, entered, filled, plain_prop, scoped_slot, IsFillable}
use Rattle.heap_relations.specs.Scope as entry
use Rattle.heap_relations.specs.Naming.{copied, absent, captured, free, is_scope_name, Kept, named, NameRel, Reaches, scope_at, scope_name}
use Rattle.heap_relations.proofs.Entry.{entries, opened_there, reaches_set, round_older, slot_more}
use Rattle.heap_relations.proofs.Objects.{reaches_more}
use Rattle.heap_relations.proofs.Scopes.{same_or_not, set_other}
use Rattle.heap_relations.proofs.Worlds.{get_set, reserved_as, slot_up}

-- ---- an object literal

-- a plain object that may get new properties
record IsOpen (o : Object) : Type 0 where
  class : o.class ≡ class.Plain
  closed : o.closed ≡ false
  extensible : o.extensible ≡ true

defined : (o : Object) (x : List ℕ) (v : Value) → IsOpen o → own_property o.props x ≡ None → object.define_own o x (whole_property v) ≡ done (with_props o (o.props ++ (x, plain_prop v) ∷ []))
defined o x v h none = rw (h.closed, h.class, none, h.extensible) refl

abbrev as_props : Bound → Props
as_props [] = []
as_props (x ∷ xs) = (x.0, plain_prop x.1) ∷ as_props xs

-- what a fill leaves: the object has the properties, and all else is as it was
record IsFilled (k : ℕ) (o : Object) (fields : Bound) (g i : Contents) : Type 0 where
  at : object_at i.objects k ≡ with_props o (o.props ++ as_props fields)
  long : length i.objects ≡ length g.objects
  environments : i.environments ≡ g.environments
  sound : IsSound i

fills : (k : ℕ) (fields : Bound) (g : Contents) (o : Object) → k < length g.objects → object_at g.objects k ≡ o → IsOpen o → AreFresh o.props fields → IsSound g → IsFilled k o fields g (filled g k fields)
unfolding define_own
fills k [] g o bound is h fresh sound = record { at = is ∙ ap (with_props o) (sym (append-nil o.props)); long = refl; environments = refl; sound = sound }
fills k (x ∷ xs) g o bound is h fresh sound =
    let p = with_props o (o.props ++ (x.0, plain_prop x.1) ∷ []) in
    let q = (object.define_own (object_at g.objects k) x.0 (whole_property x.1)).after in
    let same : q ≡ p = ap (λ z. (object.define_own z x.0 (whole_property x.1)).after) is ∙ ap (λ (a : Attempt Object). a.after) (defined o x.0 x.1 h fresh.0) in
    let here : object_at (slice_set g.objects k q) k ≡ p =
    get_set g.objects k k q no_object bound ∙ ap (λ b. cond b q (object_at g.objects k)) (eq-eqb k k refl) ∙ same
    in
    let rest = fills k xs (define_own g k x.0 (whole_property x.1)).after p (omega (arith, bound, length-set g.objects k q)) here
    (record { class = h.class; closed = h.closed; extensible = h.extensible }) fresh.1 (sound_define_own g sound k x.0 (whole_property x.1))
    in
    record {
      at = rest.at ∙ ap (with_props o) (append_assoc o.props ((x.0, plain_prop x.1) ∷ []) (as_props xs));
      long = rest.long ∙ length-set g.objects k q;
      environments = rest.environments;
      sound = rest.sound;
    }

fillable : (k : ℕ) (fields : Bound) (g : Contents) (o : Object) → k < length g.objects → object_at g.objects k ≡ o → IsOpen o → AreFresh o.props fields → IsFillable g k fields
unfolding define_own
fillable k [] g o bound is h fresh = tt
fillable k (x ∷ xs) g o bound is h fresh =
    let p = with_props o (o.props ++ (x.0, plain_prop x.1) ∷ []) in
    let q = (object.define_own (object_at g.objects k) x.0 (whole_property x.1)).after in
    let same = ap (λ z. object.define_own z x.0 (whole_property x.1)) is ∙ defined o x.0 x.1 h fresh.0 in
    let here : object_at (slice_set g.objects k q) k ≡ p =
    get_set g.objects k k q no_object bound ∙ ap (λ b. cond b q (object_at g.objects k)) (eq-eqb k k refl) ∙ ap (λ (a : Attempt Object). a.after) same
    in (
      ap (λ (a : Attempt Object). a.thrown) same,
      fillable k xs (define_own g k x.0 (whole_property x.1)).after p (omega (arith, bound, length-set g.objects k q)) here
          (record { class = h.class; closed = h.closed; extensible = h.extensible }) fresh.1,
    )

-- a new plain object takes all names
pub new_fillable : (g : Contents) (proto : Option ObjId) (fields : Bound) → AreFresh [] fields → IsFillable (made g (new_object class.Plain proto)) (length g.objects) fields
new_fillable g proto fields fresh =
    let o = settled (length g.objects) (new_object class.Plain proto) in
    fillable (length g.objects) fields (made g (new_object class.Plain proto)) o (omega (arith, length-append g.objects (o ∷ []))) (object_last g.objects o)
    (record { class = refl; closed = refl; extensible = refl }) fresh

reach_filled : (k : ℕ) (fields : Bound) (os : List Object) (g : Contents) → length os ≤ k → Reaches no_object os g.objects → Reaches no_object os (filled g k fields).objects
unfolding define_own
reach_filled k [] os g past h = h
reach_filled k (x ∷ xs) os g past h = reach_filled k xs os (define_own g k x.0 (whole_property x.1)).after past (reaches_set k _ past h)

own_filled : (fields : Bound) (x : List ℕ) → own_property (as_props fields) x ≡ option_map plain_prop (value_of fields x)
own_filled [] x = refl
own_filled (f ∷ fs) x = by_case (bytes_eq x f.0) (own_filled fs x)
  where
    by_case : (b : Bool) → own_property (as_props fs) x ≡ option_map plain_prop (value_of fs x)
        → cond b (Some (plain_prop f.1)) (own_property (as_props fs) x) ≡ option_map plain_prop (cond b (Some f.1) (value_of fs x))
    by_case true h = refl
    by_case false h = h

-- ---- the names of scope objects

decimal_same : (k d : ℕ) → k < 2 ^ 64 → d < 2 ^ 64 → decimal k ≡ decimal d → k ≡ d
decimal_same k d h g e = sym (decimal_is_IsNumeral k h).1 ∙ ap (digits_value 10) e ∙ (decimal_is_IsNumeral d g).1

pub scope_name_same : (k d : ℕ) → k < 2 ^ 64 → d < 2 ^ 64 → scope_name k ≡ scope_name d → k ≡ d
scope_name_same k d h g e =
    let same : decimal k ≡ decimal d = cc in
    decimal_same k d h g same

pub scope_name_eq : (k d : ℕ) → k < 2 ^ 64 → d < 2 ^ 64 → bytes_eq (scope_name k) (scope_name d) ≡ nat_eq k d
scope_name_eq k d small less = by_case (nat_eq k d) refl
  where
    by_case : (b : Bool) → nat_eq k d ≡ b → bytes_eq (scope_name k) (scope_name d) ≡ b
    by_case true e = (bytes_eq-Decides (scope_name k) (scope_name d)).1 (ap scope_name (eqb-true k d e))
    by_case false e = same_or_not (scope_name k) (scope_name d) (λ q. absurd (eqb-false k d e (scope_name_same k d small less q))) (λ q. q)

pub not_scope_name : (x : List ℕ) (k : ℕ) → is_scope_name x ≡ false → bytes_eq x (scope_name k) ≡ false
not_scope_name x k own =
    same_or_not x (scope_name k)
    (λ e. let wrong : false ≡ true = sym own ∙ ap is_scope_name e in cc wrong)
    (λ e. e)

-- the variable of the scope object, among all names like it
named_scope : (names : Bound) (d : ℕ) (v old : Value) → d < 2 ^ 64 → ((k : ℕ) → k < 2 ^ 64 → value_of names (scope_name k) ≡ (if nat_eq k d then Some old else None))
    → (k : ℕ) → k < 2 ^ 64 → value_of (with_value_of names (scope_name d) v) (scope_name k) ≡ (if nat_eq k d then Some v else None)
named_scope names d v old small h k less = by_case (nat_eq k d) refl
  where
    by_case : (b : Bool) → nat_eq k d ≡ b → value_of (with_value_of names (scope_name d) v) (scope_name k) ≡ (if nat_eq k d then Some v else None)
    by_case true e =
        let same = eqb-true k d e in
        rw (e, same) (value_set names (scope_name d) old v (h d small ∙ ap (λ b. if b then Some old else None) (eq-eqb d d refl)))
    by_case false e =
        rw e (set_other names (scope_name d) (scope_name k) v
        (same_or_not (scope_name k) (scope_name d) (λ q. absurd (eqb-false k d e (scope_name_same k d less small q))) (λ q. q))
        ∙ h k less ∙ ap (λ b. if b then Some old else None) e)

-- ---- what a name's value leaves

set_objects_same : (g : Contents) (k : ℕ) (x : List ℕ) (v : Value) → (set g k x v).objects ≡ g.objects
unfolding set
set_objects_same g k x v = refl

set_length : (g : Contents) (k : ℕ) (x : List ℕ) (v : Value) → length (set g k x v).environments ≡ length g.environments
unfolding set
set_length g k x v = length-set g.environments k (with_bound (environment_at g.environments k) x v)

set_reaches : {es : List Environment} (g : Contents) (k : ℕ) (x : List ℕ) (v : Value) → length es ≤ k → Reaches no_environment es g.environments → Reaches no_environment es (set g k x v).environments
unfolding set
set_reaches g k x v past h = reaches_set k _ past h

-- ---- the whole entry

pub scopes : ScopesAgree
scopes W h g outer around names others proto keeps d round fields old known r opens out small below older fresh related copies own_names =
    let k = length g.objects in
    let b = length g.environments in
    let s = scoped_slot h g keeps d round known in
    let o = new_object class.Plain proto in
    let f = new_environment around others in
    let g1 = opened g around others in
    let same : g1 ≡ with_new_environment g f = opened_there g around others (round_older r.slots out).1 in
    let sound1 : IsSound g1 = sound_opened g r.right around others in
    let g2 = made g1 o in
    let sound2 : IsSound g2 = sound_made g1 sound1 o (new_fit class.Plain proto) in
    let settled : g2 ≡ with_new_object g1 o = ap (with_new_object g1) (settled_same k o older (λ t e. absurd (cc e))) in
    let at_k : object_at g2.objects k ≡ o = ap (λ (c : Contents). object_at c.objects k) settled ∙ object_last g.objects o in
    let long : length g2.objects ≡ suc k = ap (λ (c : Contents). length c.objects) settled ∙ length-append g.objects (o ∷ []) ∙ add-one k in
    let z = fills k fields g2 o (omega (arith, long)) at_k (record { class = refl; closed = refl; extensible = refl }) fresh sound2 in
    let g3 = filled g2 k fields in
    let v = value.Object (record { 0 = k }) in
    let as_opened : g3.environments ≡ g.environments ++ f ∷ [] = z.environments ∙ ap (λ (c : Contents). c.environments) same in
    let bound : b < length g3.environments = omega (arith, ap length as_opened, length-append g.environments (f ∷ [])) in
    let was : environment_at g3.environments b ≡ f = ap (λ l. environment_at l b) as_opened ∙ environment_last g.environments f in
    let now : environment_at (set g3 b (scope_name d) v).environments b ≡ with_bound f (scope_name d) v =
    environment_set_same g3 b (scope_name d) v bound ∙ ap (λ l. with_bound l (scope_name d) v) was
    in
    let reach : Reaches no_environment g.environments g3.environments = rw as_opened (reaches_more g.environments f) in
    let reach_objects : Reaches no_object g.objects g2.objects = subst (λ (c : Contents). Reaches no_object g.objects c.objects) (sym settled) (reaches_more g.objects o) in
    let i = set g3 b (scope_name d) v in
    let kept : i.objects ≡ g3.objects = set_objects_same g3 b (scope_name d) v in
    let more : length i.environments ≡ length g3.environments = set_length g3 b (scope_name d) v in
    entries W h g i outer names s r refl (omega arith) (rw kept (reach_filled k fields g.objects g2 (omega arith) reach_objects)) (set_reaches g3 b (scope_name d) v (omega arith) reach)
    (sound_set g3 z.sound b (scope_name d) v) (omega (arith, bound, more)) (rw now out)
    (rw (now, kept, z.at) (slot_up (slot_more s) (record {
      outer = out;
      names = λ x own.
          let page : is_scope_name x ≡ false = reserved_as x (sym opens) own in
          rw (set_other others (scope_name d) x v (not_scope_name x d page), own_filled fields x) (by_name (related x page));
      scopes = λ q j less. named_scope others d v old small own_names j less ∙ at_scope (nat_eq j d);
      numbers = λ q. (small, below);
      own = copies;
      plain = λ q. (opens, refl, refl);
    })))
    (λ q. (omega arith, omega (arith, z.long, long, ap length kept)))
  where
    by_name : {z : Value} {c : Kept} {x y u : _} → EntryRel (named W) z c x y u → NameRel (named W) true z c x y (option_map plain_prop u)
    by_name (entry.copied m) = copied refl m
    by_name entry.absent = absent
    by_name (entry.free m) = free m
    by_name (entry.captured m) = captured refl m refl refl refl

    at_scope : (c : Bool) → (if c then Some (value.Object (record { 0 = length g.objects })) else None) ≡ scope_at c (length g.objects)
    at_scope true = refl
    at_scope false = refl
