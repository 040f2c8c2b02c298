-- Two functions with an own name: the environment that binds it and the function refer to each other, so they join at once.
use Rattle.std.proofs.Common.{◌≡◌, refl, sym, ap, suc, Bool, true, false, cond, [], ◌∷◌, ◌++◌, Option, Some, None, length, length-append, bytes_eq, arith, if◌then◌else◌, ◌∙◌, ℕ, List, slice_set}
use Rattle.js_values.specs.declared.ids.ObjId.{ObjId}
use Rattle.js_values.specs.declared.ids.EnvId.{EnvId}
use Rattle.js_core.specs.Tree.{Code}
use Rattle.std.proofs.lemmas.Slice.Eq.{bytes_eq-Decides}
use Rattle.std.proofs.Math.Seq.{set-append_seam}
use Rattle.object_heap.specs.Function.{with_function}
use Rattle.js_values.specs.declared.value.Value.{Value}
use Rattle.js_values.specs.declared.value.Value.TheVariants as value
use Rattle.object_heap.specs.Chain.{object_at}
use Rattle.object_heap.specs.Environment.{new_environment, inside as inside_older, with_bound, environment_at, Environment}
use Rattle.object_heap.specs.Heap.{Contents, opened, with_new_environment, set}
use Rattle.object_heap.specs.declared.object.Class.TheVariants as class
use Rattle.object_heap.specs.declared.property.Prop.{Prop}
use Rattle.object_heap.proofs.Callers.{environment_last, sound_opened}
use Rattle.heap_relations.specs.Related.{Links, ValueRel, object, page}
use Rattle.heap_relations.specs.Naming.{inside, Absent, Copied, NameRel, Round, Sealed, SlotRel, absent, constant, here, named, there, with_object}
use Rattle.heap_relations.specs.Scope.{OwnFunctionsAgree, own_frame, own_slot, with_own, with_own_function}
use Rattle.heap_relations.proofs.Entry.{IsNew, add_slot, longer_slots, not_outward, opened_there, round_older, slot_more}
use Rattle.heap_relations.proofs.Functions.{agree_as, both_made, both_named, both_objects, both_same, both_slots, both_sound}
use Rattle.heap_relations.proofs.Objects.{are_there, one_more, reaches_more}
use Rattle.heap_relations.proofs.Scopes.{no_scope_name}
use Rattle.heap_relations.proofs.Worlds.{grows, larger_more, reserved_as, round_up}

-- the own name, on both sides
own_name : {L : Links} {v w : Value} (b : Bool) {p : Option Prop} → ValueRel L v w → NameRel L false v (if b then Sealed else Absent) (cond b (Some v) None) (cond b (Some w) None) p
own_name true r = constant r
own_name false r = absent

never_copied : (b : Bool) → (if b then Sealed else Absent) ≡ Copied → ⊥
never_copied true e = cc e
never_copied false e = cc e

pub own_functions : OwnFunctionsAgree
own_functions W h g outer around x round number c d p q formals above over r o own code fits y z =
    let a = length h.objects in
    let b = length g.objects in
    let s = own_slot h g x round in
    let V = both_named W a b in
    let more = larger_more (one_more {W = W} a b) (one_more {W = with_object W a b} (suc a) (suc b)) in
    let up = slot_more {W = V} s in
    let older = round_older r.slots o in
    let e = new_environment outer ((x, value.Object (record { 0 = a })) ∷ []) in
    let f = new_environment around ((x, value.Object (record { 0 = b })) ∷ []) in
    let h1 = opened h outer e.names in
    let g1 = opened g around f.names in
    let left : h1 ≡ with_new_environment h e = opened_there h outer e.names older.0 in
    let right : g1 ≡ with_new_environment g f = opened_there g around f.names older.1 in
    let k = class.Page c (Some (record { 0 = length h.environments })) in
    let l = class.Page d (Some (record { 0 = length g.environments })) in
    let n = are_there r.objects y in
    let m = are_there r.objects z in
    let objects = both_objects {M = named (with_own W h g x round)} h1 g1 k l p q formals above over r.objects (grows up)
    (page (record { frames = own_frame x ∷ round; number = number; code = code; fits = fits; round = inside s here })) y z
    in
    let new : IsNew V s (h.environments ++ e ∷ []) (g.environments ++ f ∷ []) (both_made g1 l q formals over).objects = record {
      inside = (omega (arith, length-append h.environments (e ∷ [])), omega (arith, length-append g.environments (f ∷ [])));
      younger = λ t i. r.slots.inside t i;
      at = rw (environment_last h.environments e, environment_last g.environments f) (own_rel o);
      scope_inside = λ i. absurd (cc i);
      no_object = λ i. absurd (cc i);
      no_scope = λ i. absurd (cc i);
      no_base = λ t i.
          let v = r.slots.bases t i in (
            not_outward s.one t.one r.left.environments v.one_inside (reaches_more h.environments e) (omega arith),
            not_outward s.two t.two r.right.environments v.two_inside (reaches_more g.environments f) (omega arith),
          );
    }
    in
    agree_as (both_same h1 k p formals above n.0 (λ t i. absurd (cc i)) m.0) (both_same g1 l q formals over n.1 (λ t i. absurd (cc i)) m.1) (record {
      objects = record {
        at = λ i j v. objects.at i j (record { named = v.named });
        inside = λ i j v. objects.inside i j (record { named = v.named });
        one_to_one = record { same = λ i j u v w t. objects.one_to_one.same i j u v (record { named = w.named }) (record { named = t.named }) };
      };
      slots = rw (ap (λ (i : Contents). i.environments) left, ap (λ (i : Contents). i.environments) right)
          (add_slot s new (both_slots h g l q formals over (longer_slots (reaches_more h.environments e) (reaches_more g.environments f) r.left.environments r.right.environments r.slots)));
      left = both_sound h1 k p formals above n.0 (λ t i. absurd (cc i)) m.0 refl (sound_opened h r.left outer e.names);
      right = both_sound g1 l q formals over n.1 (λ t i. absurd (cc i)) m.1 refl (sound_opened g r.right around f.names);
    })
  where
    own_rel : Round W round outer around
        → SlotRel (with_own W h g x round) (own_slot h g x round) (new_environment outer ((x, value.Object (record { 0 = length h.objects })) ∷ []))
        (new_environment around ((x, value.Object (record { 0 = length g.objects })) ∷ [])) (object_at (both_made g (class.Page d (Some (record { 0 = length g.environments }))) q formals over).objects 0)
    own_rel o = record {
      outer = round_up (larger_more (larger_more (one_more {W = W} (length h.objects) (length g.objects)) (one_more {W = with_object W (length h.objects) (length g.objects)} (suc (length h.objects)) (suc (length g.objects)))) (slot_more {W = both_named W (length h.objects) (length g.objects)} (own_slot h g x round))) o;
      names = λ i n. own_name (bytes_eq i x) (object (record { named = there here }));
      scopes = λ i j small. ap (λ (t : Bool). cond t (Some (value.Object (record { 0 = length g.objects }))) None) (no_scope_name x j (reserved_as x (sym i) own));
      numbers = λ i. absurd (cc i);
      own = λ i n. absurd (never_copied (bytes_eq i x) n);
      plain = λ i. absurd (cc i);
    }

-- the name may also be bound after the function is made, as scripts do it
pub bound_later : (h : Contents) (outer : Option EnvId) (x : List ℕ) (c : Code) (p : Option ObjId) (formals : ℕ) (above : Option ObjId)
    → set (with_function (opened h outer ((x, value.Undefined) ∷ [])) (class.Page c (Some (record { 0 = length h.environments }))) p formals above) (length h.environments) x (value.Object (record { 0 = length h.objects }))
    ≡ with_own_function h outer x c p formals above
unfolding set
bound_later h outer x c p formals above =
    let e = new_environment (inside_older (length h.environments) outer) ((x, value.Undefined) ∷ []) in
    let v = value.Object (record { 0 = length h.objects }) in
    let objects = (with_own_function h outer x c p formals above).objects in
    let was : environment_at (h.environments ++ e ∷ []) (length h.environments) ≡ e = environment_last h.environments e in
    let now : with_bound e x v ≡ new_environment (inside_older (length h.environments) outer) ((x, v) ∷ []) =
    ap (λ (b : Bool). new_environment (inside_older (length h.environments) outer) (cond b ((x, v) ∷ []) ((x, value.Undefined) ∷ []))) ((bytes_eq-Decides x x).1 refl)
    in
    ap (λ (es : List Environment). record { objects = objects; environments = es })
    (ap (λ (z : Environment). slice_set (h.environments ++ e ∷ []) (length h.environments) (with_bound z x v)) was
    ∙ ap (λ (z : Environment). slice_set (h.environments ++ e ∷ []) (length h.environments) z) now
    ∙ set-append_seam h.environments e [] (new_environment (inside_older (length h.environments) outer) ((x, v) ∷ [])))
