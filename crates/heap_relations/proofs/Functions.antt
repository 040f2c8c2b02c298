-- A pair of functions with their prototypes joins the naming: the two objects of a function name each other, so both join at once.
use Rattle.std.proofs.Common.{◌≡◌, ◌⊎◌, inl, inr, refl, sym, ap, ◌∙◌, ℕ, suc, ◌+◌, ◌<◌, false, List, [], ◌∷◌, ◌++◌, Option, length, length-append, arith, add-one}
use Rattle.std.specs.Option.{ForSome}
use Rattle.js_values.specs.declared.ids.ObjId.{ObjId}
use Rattle.object_heap.specs.declared.object.Class.{Class}
use Rattle.object_heap.specs.declared.object.Class.TheVariants as class
use Rattle.js_values.specs.declared.value.Value.TheVariants as value
use Rattle.object_heap.specs.Define.{length_name, number}
use Rattle.object_heap.specs.Property.{fixed, hidden, lasting}
use Rattle.object_heap.specs.Chain.{object_at}
use Rattle.object_heap.specs.Environment.{Environment}
use Rattle.object_heap.specs.Function.{constructor_name, prototype_name, function_object, prototype_object, with_function}
use Rattle.object_heap.specs.Heap.{Contents, IsFit, IsSound, made, with_new_object}
use Rattle.object_heap.specs.Object.{is_list, Object, target_of}
use Rattle.object_heap.proofs.Callers.{object_before, object_last, one_name, ordinary_fit, settled_same, sound_pushed, two_names}
use Rattle.heap_relations.specs.Laws.{FunctionsAgree}
use Rattle.heap_relations.specs.Related.{ClassRel, Grows, Links, Maybe, ObjectsRel, no_entries, entry, ObjectIds, ObjectRel, num, object, plain}
use Rattle.heap_relations.specs.Naming.{Agree, here, there, In, named, Pair, pair, SlotsRel, with_object, World}
use Rattle.heap_relations.proofs.Define.{is_list_same}
use Rattle.heap_relations.proofs.Map.{class_up, ids_up, maybe_map}
use Rattle.heap_relations.proofs.Objects.{Within, add_objects, are_there, longer_objects, longer_scopes, named_slots, one_more, reaches_more, targets_rel, within_same, within_up}
use Rattle.heap_relations.proofs.Worlds.{grows, in_cases, larger_more}

grows_same : {L : Links} → Grows L L
grows_same = record { object = λ a b h. h; node = λ a b h. h; function = λ c d e f h. h }

grows_more : {L M P : Links} → Grows L M → Grows M P → Grows L P
grows_more g h = record {
  object = λ a b i. h.object a b (g.object a b i);
  node = λ a b i. h.node a b (g.node a b i);
  function = λ c d e f i. h.function c d e f (g.function c d e f i);
}

pub agree_as : {W : World} {h i g j : Contents} → h ≡ i → g ≡ j → Agree W i j → Agree W h g
agree_as e f m = rw (e, f) m

-- on one side: the function and its prototype are made as they are
module _ (h : Contents) (c : Class) (p : Option ObjId) (formals : ℕ) (above : Option ObjId) where
  abbrev pub function : Object
  function = function_object c p formals (length h.objects + 1)

  abbrev pub prototype : Object
  prototype = prototype_object above (length h.objects)

  abbrev pub one_made : Contents
  one_made = with_new_object h function

  abbrev pub both_made : Contents
  both_made = with_new_object one_made prototype

  function_fit : is_list c ≡ false → IsFit function
  function_fit ordinary = ordinary_fit c p function.props ordinary (two_names length_name (fixed (number formals)) prototype_name (lasting (value.Object (record { 0 = length h.objects + 1 }))) refl)

  prototype_fit : IsFit prototype
  prototype_fit = ordinary_fit class.Plain above prototype.props refl (one_name constructor_name (hidden (value.Object (record { 0 = length h.objects }))))

  no_target : (n : ℕ) → ForSome (target_of class.Plain) (λ t. t.0 < n)
  no_target n t e = absurd (cc e)

  module _ (proto : ForSome p (λ a. a.0 < length h.objects)) (target : ForSome (target_of c) (λ t. t.0 < length h.objects)) (top : ForSome above (λ a. a.0 < length h.objects)) where
    later_top : ForSome above (λ a. a.0 < length one_made.objects)
    later_top a e = omega (arith, length-append h.objects (function ∷ []), top a e)

    pub both_same : with_function h c p formals above ≡ both_made
    both_same =
        ap (λ z. made (with_new_object h z) prototype) (settled_same (length h.objects) function proto target)
        ∙ ap (with_new_object one_made) (settled_same (length one_made.objects) prototype later_top (no_target (length one_made.objects)))

    pub both_sound : is_list c ≡ false → IsSound h → IsSound both_made
    both_sound ordinary sound =
        sound_pushed one_made (sound_pushed h sound function (function_fit ordinary) proto target) prototype prototype_fit later_top (no_target (length one_made.objects))

  next : length one_made.objects ≡ suc (length h.objects)
  next = length-append h.objects (function ∷ []) ∙ add-one (length h.objects)

  pub function_at : object_at both_made.objects (length h.objects) ≡ function
  function_at = object_before one_made.objects prototype (length h.objects) (omega (arith, length-append h.objects (function ∷ []))) ∙ object_last h.objects function

  pub prototype_at : object_at both_made.objects (suc (length h.objects)) ≡ prototype
  prototype_at = ap (object_at both_made.objects) (sym next) ∙ object_last one_made.objects prototype

  pub function_inside : length h.objects < length both_made.objects
  function_inside = omega (arith, next, length-append one_made.objects (prototype ∷ []))

  pub prototype_inside : suc (length h.objects) < length both_made.objects
  prototype_inside = omega (arith, next, length-append one_made.objects (prototype ∷ []))

-- the naming with both pairs
abbrev pub both_named : World → ℕ → ℕ → World
both_named W a b = with_object (with_object W a b) (suc a) (suc b)

-- what is named, with both pairs, for what links at least that
pub both_objects : {W : World} {M : Links} (h g : Contents) (c d : Class) (p q : Option ObjId) (formals : ℕ) (above over : Option ObjId)
    → ObjectsRel (named W) h.objects g.objects → Grows (named (both_named W (length h.objects) (length g.objects))) M
    → ClassRel M c d → Maybe (ObjectIds (named W)) p q → Maybe (ObjectIds (named W)) above over
    → Within (named (both_named W (length h.objects) (length g.objects))) M (both_made h c p formals above).objects (both_made g d q formals over).objects
both_objects {W = W} {M = M} h g c d p q formals above over r up x y z =
    let a = length h.objects in
    let b = length g.objects in
    let U = with_object W a b in
    let all = grows_more (grows (larger_more (one_more {W = W} a b) (one_more {W = U} (suc a) (suc b)))) up in
    let o = function h c p formals above in
    let u = function g d q formals over in
    let long = longer_objects (reaches_more (h.objects ++ o ∷ []) (prototype h c p formals above)) (reaches_more (g.objects ++ u ∷ []) (prototype g d q formals over))
    (longer_objects (reaches_more h.objects o) (reaches_more g.objects u) r)
    in
    add_objects (suc a) (suc b) (prototype_inside h c p formals above) (prototype_inside g d q formals over) (λ e f i. new e f (in_cases i.named))
    (rw (prototype_at h c p formals above, prototype_at g d q formals over) (prototype_rel (maybe_map (ids_up all) z)))
    (add_objects a b (function_inside h c p formals above) (function_inside g d q formals over) (λ e f i. r.inside e f i)
    (rw (function_at h c p formals above, function_at g d q formals over) (function_rel x (maybe_map (ids_up all) y)))
    (within_up all long))
  where
    new : (e f : ℕ) → (pair e f ≡ pair (length h.objects) (length g.objects)) ⊎ In (pair e f) W.objects → (e < suc (length h.objects)) × (f < suc (length g.objects))
    new e f (inl s) = let k = ap (λ (w : Pair). w.one) s in let l = ap (λ (w : Pair). w.two) s in (omega (arith, k), omega (arith, l))
    new e f (inr i) = let k = r.inside e f (record { named = i }) in (omega (arith, k.0), omega (arith, k.1))

    prototype_named : M.object (length h.objects + 1) (length g.objects + 1)
    prototype_named = rw (add-one (length h.objects), add-one (length g.objects)) (up.object _ _ (record { named = here }))

    function_rel : ClassRel M c d → Maybe (ObjectIds M) p q → ObjectRel M (function h c p formals above) (function g d q formals over)
    function_rel k l = record {
      class = k;
      proto = l;
      extensible = refl;
      closed = refl;
      props = entry (record { value = num; writable = refl; enumerable = refl; configurable = refl })
          (entry (record { value = object prototype_named; writable = refl; enumerable = refl; configurable = refl }) no_entries);
    }

    prototype_rel : Maybe (ObjectIds M) above over → ObjectRel M (prototype h c p formals above) (prototype g d q formals over)
    prototype_rel l = record {
      class = plain;
      proto = l;
      extensible = refl;
      closed = refl;
      props = entry (record { value = object (up.object _ _ (record { named = there here })); writable = refl; enumerable = refl; configurable = refl }) no_entries;
    }

-- the slots stay, and no scope object is one of the pairs
pub both_slots : {W : World} (h g : Contents) {es fs : List Environment} (d : Class) (q : Option ObjId) (formals : ℕ) (over : Option ObjId) → SlotsRel W es fs g.objects
    → SlotsRel (both_named W (length h.objects) (length g.objects)) es fs (both_made g d q formals over).objects
both_slots h g d q formals over r =
    let u = function g d q formals over in
    let a = length h.objects in
    let b = length g.objects in
    named_slots (suc a) (suc b) (λ s i e. let k = r.scope_inside s i e in omega (arith, k)) (named_slots a b r.scope_inside
    (longer_scopes (reaches_more (g.objects ++ u ∷ []) (prototype g d q formals over)) (longer_scopes (reaches_more g.objects u) r)))

pub functions_agree : FunctionsAgree
functions_agree W h g c d p q formals above over r x ordinary y z =
    let a = length h.objects in
    let b = length g.objects in
    let up = grows (larger_more (one_more {W = W} a b) (one_more {W = with_object W a b} (suc a) (suc b))) in
    let n = are_there r.objects y in
    let t = are_there r.objects (targets_rel x) in
    let m = are_there r.objects z in
    agree_as (both_same h c p formals above n.0 t.0 m.0) (both_same g d q formals over n.1 t.1 m.1) (record {
      objects = within_same (both_objects h g c d p q formals above over r.objects grows_same (class_up up _ _ x) y z);
      slots = both_slots h g d q formals over r.slots;
      left = both_sound h c p formals above n.0 t.0 m.0 ordinary r.left;
      right = both_sound g d q formals over n.1 t.1 m.1 (sym (is_list_same x) ∙ ordinary) r.right;
    })
