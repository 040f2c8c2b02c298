-- What is tried on two objects that are related leaves them related, and throws the same (ECMA-262 5.1 sections 8.12
-- and 15.4.5.1).
use Rattle.std.proofs.Common.{◌≡◌, refl, ap, ◌∙◌, ℕ, ◌+◌, Bool, true, false, ◌&&◌, List, [], ◌∷◌, ◌++◌, Option, Some, None, if◌then◌else◌, nat_lt, nat_le, bytes_eq}
use Rattle.js_values.specs.declared.throw.Throw.{Throw}
use Rattle.js_values.specs.declared.throw.Throw.TheVariants.{CannotDefine, CannotDelete, CannotSet, InvalidLength}
use Rattle.js_values.specs.declared.value.Value.{Value}
use Rattle.object_heap.specs.declared.object.Class.{Class}
use Rattle.object_heap.specs.Object.{Object, is_list, is_window, with_props}
use Rattle.object_heap.specs.declared.property.Change.{Change}
use Rattle.object_heap.specs.declared.property.Prop.{Prop}
use Rattle.object_heap.specs.Heap.{with_added}
use Rattle.object_heap.specs.Attempt.{Attempt, done, throws}
use Rattle.object_heap.specs.Define.{array_length, define, define_element, define_indexed, define_length, define_length_as, define_ordinary, define_own, defined_over, delete_own, deleted_over, end_kept, end_with, grown_over, has_writable_length, is_below, is_closed_at, is_writable, length_in, length_name, number_in, prevented, put_change, put_own, shrunk, shrunk_to, valid_length, with_length, with_length_over, with_value}
use Rattle.object_heap.specs.Index.{index_of}
use Rattle.object_heap.specs.Property.{Props, asks, created, keeps_value, may_update, own_property, same_value, updated}
use Rattle.heap_relations.specs.Related.{Links, Maybe, none, some, Entries, no_entries, entry, AttemptRel, ValueRel, PropRel, ChangeRel, ClassRel, ObjectRel, IsOneToOne, undefined, null, truth, num, text, object, plain, array, page, native, bound, fault, math, window, node, event}
use Rattle.heap_relations.proofs.Lists.{append_rel, filter_rel, is_some_same, lookup_rel, or_else, remove_rel, set_rel}

if_rel : {A : Type 0} {R : A → A → Type 0} {x y z w : Attempt A} (b c : Bool) → b ≡ c → AttemptRel R x y → AttemptRel R z w → AttemptRel R (if b then x else z) (if c then y else w)
if_rel true true e h k = h
if_rel true false e h k = absurd (cc)
if_rel false true e h k = absurd (cc)
if_rel false false e h k = k

done_rel : {A : Type 0} {R : A → A → Type 0} {a b : A} → R a b → AttemptRel R (done a) (done b)
done_rel h = record { after = h; thrown = refl }

throws_rel : {A : Type 0} {R : A → A → Type 0} {a b : A} (t : Throw) → R a b → AttemptRel R (throws a t) (throws b t)
throws_rel t h = record { after = h; thrown = refl }

module _ {L : Links} where
  -- ---- what is read of related values, properties and objects is the same

  pub number_in_same : {v w : Value} → ValueRel L v w → number_in v ≡ number_in w
  number_in_same undefined = refl
  number_in_same null = refl
  number_in_same truth = refl
  number_in_same num = refl
  number_in_same text = refl
  number_in_same (object h) = refl

  valid_length_same : {v w : Value} → ValueRel L v w → valid_length v ≡ valid_length w
  valid_length_same undefined = refl
  valid_length_same null = refl
  valid_length_same truth = refl
  valid_length_same num = refl
  valid_length_same text = refl
  valid_length_same (object h) = refl

  pub is_list_same : {c d : Class} → ClassRel L c d → is_list c ≡ is_list d
  is_list_same plain = refl
  is_list_same array = refl
  is_list_same (page h) = refl
  is_list_same native = refl
  is_list_same (bound h v vs) = refl
  is_list_same fault = refl
  is_list_same math = refl
  is_list_same window = refl
  is_list_same (node h) = refl
  is_list_same (event h) = refl

  is_window_same : {c d : Class} → ClassRel L c d → is_window c ≡ is_window d
  is_window_same plain = refl
  is_window_same array = refl
  is_window_same (page h) = refl
  is_window_same native = refl
  is_window_same (bound h v vs) = refl
  is_window_same fault = refl
  is_window_same math = refl
  is_window_same window = refl
  is_window_same (node h) = refl
  is_window_same (event h) = refl

  pub own_rel : {ps qs : Props} (name : List ℕ) → Entries (PropRel L) ps qs → Maybe (PropRel L) (own_property ps name) (own_property qs name)
  own_rel name h = lookup_rel (bytes_eq name) h

  length_in_same : {x y : Option Prop} → Maybe (PropRel L) x y → length_in x ≡ length_in y
  length_in_same none = refl
  length_in_same (some h) = number_in_same h.value

  is_writable_same : {x y : Option Prop} → Maybe (PropRel L) x y → is_writable x ≡ is_writable y
  is_writable_same none = refl
  is_writable_same (some h) = h.writable

  pub array_length_same : {o p : Object} → ObjectRel L o p → array_length o ≡ array_length p
  array_length_same h = length_in_same (own_rel length_name h.props)

  has_writable_length_same : {o p : Object} → ObjectRel L o p → has_writable_length o ≡ has_writable_length p
  has_writable_length_same h = is_writable_same (own_rel length_name h.props)

  end_kept_same : {ps qs : Props} (end : ℕ) → Entries (PropRel L) ps qs → end_kept end ps ≡ end_kept end qs
  end_kept_same end no_entries = refl
  end_kept_same end (entry {name = name} {a = p} {b = q} {xs = ps} {ys = qs} h hs) =
      end_kept_same (end_with end (index_of name) p.configurable) hs ∙ ap (λ c. end_kept (end_with end (index_of name) c) qs) h.configurable

  is_closed_at_same : {o p : Object} (name : List ℕ) → ObjectRel L o p → is_closed_at o name ≡ is_closed_at p name
  is_closed_at_same name h = rw (h.closed, is_window_same h.class, is_some_same (own_rel name h.props)) refl

  -- ---- what is made of related properties and objects is related

  pub with_props_rel : {o p : Object} {ps qs : Props} → ObjectRel L o p → Entries (PropRel L) ps qs → ObjectRel L (with_props o ps) (with_props p qs)
  with_props_rel h k = record { class = h.class; proto = h.proto; extensible = h.extensible; closed = h.closed; props = k }

  created_rel : {c d : Change} → ChangeRel L c d → PropRel L (created c) (created d)
  created_rel k = record { value = or_else k.value undefined; writable = ap asks k.writable; enumerable = ap asks k.enumerable; configurable = ap asks k.configurable }

  updated_rel : {p q : Prop} {c d : Change} → PropRel L p q → ChangeRel L c d → PropRel L (updated p c) (updated q d)
  updated_rel h k = record {
    value = or_else k.value h.value;
    writable = rw (h.writable, k.writable) refl;
    enumerable = rw (h.enumerable, k.enumerable) refl;
    configurable = rw (h.configurable, k.configurable) refl;
  }

  with_value_rel : {p q : Prop} {v w : Value} → PropRel L p q → ValueRel L v w → PropRel L (with_value p v) (with_value q w)
  with_value_rel h v = record { value = v; writable = h.writable; enumerable = h.enumerable; configurable = h.configurable }

  with_length_over_rel : {ps qs : Props} {x y : Option Prop} (n : ℕ) → Entries (PropRel L) ps qs → Maybe (PropRel L) x y → Entries (PropRel L) (with_length_over ps n x) (with_length_over qs n y)
  with_length_over_rel n h none = h
  with_length_over_rel n h (some k) = set_rel (bytes_eq length_name) _ _ (with_value_rel k num) h

  with_length_rel : {o p : Object} (n : ℕ) → ObjectRel L o p → ObjectRel L (with_length o n) (with_length p n)
  with_length_rel n h = with_props_rel h (with_length_over_rel n h.props (own_rel length_name h.props))

  module _ (one : IsOneToOne L) where
    pub same_value_same : {v w x y : Value} → ValueRel L v x → ValueRel L w y → same_value v w ≡ same_value x y
    same_value_same undefined undefined = refl
    same_value_same undefined null = refl
    same_value_same undefined truth = refl
    same_value_same undefined num = refl
    same_value_same undefined text = refl
    same_value_same undefined (object k) = refl
    same_value_same null undefined = refl
    same_value_same null null = refl
    same_value_same null truth = refl
    same_value_same null num = refl
    same_value_same null text = refl
    same_value_same null (object k) = refl
    same_value_same truth undefined = refl
    same_value_same truth null = refl
    same_value_same truth truth = refl
    same_value_same truth num = refl
    same_value_same truth text = refl
    same_value_same truth (object k) = refl
    same_value_same num undefined = refl
    same_value_same num null = refl
    same_value_same num truth = refl
    same_value_same num num = refl
    same_value_same num text = refl
    same_value_same num (object k) = refl
    same_value_same text undefined = refl
    same_value_same text null = refl
    same_value_same text truth = refl
    same_value_same text num = refl
    same_value_same text text = refl
    same_value_same text (object k) = refl
    same_value_same (object h) undefined = refl
    same_value_same (object h) null = refl
    same_value_same (object h) truth = refl
    same_value_same (object h) num = refl
    same_value_same (object h) text = refl
    same_value_same (object h) (object k) = one.same _ _ _ _ h k

    keeps_value_same : {x y : Option Value} {v w : Value} → Maybe (ValueRel L) x y → ValueRel L v w → keeps_value x v ≡ keeps_value y w
    keeps_value_same none h = refl
    keeps_value_same (some k) h = same_value_same k h

    may_update_same : {p q : Prop} {c d : Change} → PropRel L p q → ChangeRel L c d → may_update p c ≡ may_update q d
    may_update_same h k = rw (h.writable, h.enumerable, h.configurable, k.writable, k.enumerable, k.configurable, keeps_value_same k.value h.value) refl

    -- ---- 8.12.9

    over_rel : {o p : Object} {c d : Change} {x y : Option Prop} (t : Throw) (name : List ℕ) → ObjectRel L o p → ChangeRel L c d → Maybe (PropRel L) x y
        → AttemptRel (ObjectRel L) (defined_over t o name c x) (defined_over t p name d y)
    over_rel t name h k none =
        if_rel _ _ h.extensible (done_rel (with_props_rel h (append_rel h.props (entry (created_rel k) no_entries)))) (throws_rel t h)
    over_rel t name h k (some m) =
        if_rel _ _ (may_update_same m k) (done_rel (with_props_rel h (set_rel (bytes_eq name) _ _ (updated_rel m k) h.props))) (throws_rel t h)

    ordinary_rel : {o p : Object} {c d : Change} (t : Throw) (name : List ℕ) → ObjectRel L o p → ChangeRel L c d
        → AttemptRel (ObjectRel L) (define_ordinary t o name c) (define_ordinary t p name d)
    ordinary_rel t name h k = over_rel t name h k (own_rel name h.props)

    -- ---- 15.4.5.1

    grown_over_rel : {x y : Attempt Object} (n : ℕ) (t u : Option Throw) → t ≡ u → AttemptRel (ObjectRel L) x y → AttemptRel (ObjectRel L) (grown_over n x t) (grown_over n y u)
    grown_over_rel n None None e h = done_rel (with_length_rel n h.after)
    grown_over_rel n (Some t) (Some u) e h = h
    grown_over_rel n None (Some u) e h = absurd (cc)
    grown_over_rel n (Some t) None e h = absurd (cc)

    element_rel : {o p : Object} {c d : Change} (t : Throw) (name : List ℕ) (i : ℕ) → ObjectRel L o p → ChangeRel L c d
        → AttemptRel (ObjectRel L) (define_element t o name c i) (define_element t p name d i)
    element_rel t name i h k =
        let e = ordinary_rel t name h k in
        if_rel _ _ (ap (nat_lt i) (array_length_same h)) e
        (if_rel _ _ (has_writable_length_same h) (grown_over_rel (i + 1) _ _ e.thrown e) (throws_rel t h))

    indexed_rel : {o p : Object} {c d : Change} (t : Throw) (name : List ℕ) (index : Option ℕ) → ObjectRel L o p → ChangeRel L c d
        → AttemptRel (ObjectRel L) (define_indexed t o name c index) (define_indexed t p name d index)
    indexed_rel t name None h k = ordinary_rel t name h k
    indexed_rel t name (Some i) h k = element_rel t name i h k

    shrunk_to_rel : {o p : Object} {x y : Prop} (t : Throw) (end kept kept' : ℕ) → kept ≡ kept' → ObjectRel L o p → PropRel L x y
        → AttemptRel (ObjectRel L) (shrunk_to t o x end kept) (shrunk_to t p y end kept')
    shrunk_to_rel {p = p} {y = y} t end kept kept' e h m = rw (← e) (record {
      after = with_props_rel h (set_rel (bytes_eq length_name) _ _ (with_value_rel m num) (filter_rel (λ n. is_below kept (index_of n)) h.props));
      thrown = refl;
    })

    shrunk_rel : {o p : Object} {c d : Change} {x y : Option Prop} (t : Throw) (end : ℕ) → ObjectRel L o p → ChangeRel L c d → Maybe (PropRel L) x y
        → AttemptRel (ObjectRel L) (shrunk t o c end x) (shrunk t p d end y)
    shrunk_rel t end h k none = throws_rel t h
    shrunk_rel t end h k (some m) =
        if_rel _ _ (λ i. m.writable i && may_update_same m k i) (shrunk_to_rel t end _ _ (end_kept_same end h.props) h (updated_rel m k)) (throws_rel t h)

    length_as_rel : {o p : Object} {c d : Change} (t : Throw) (n m : Option ℕ) → n ≡ m → ObjectRel L o p → ChangeRel L c d
        → AttemptRel (ObjectRel L) (define_length_as t o c n) (define_length_as t p d m)
    length_as_rel t None None e h k = throws_rel InvalidLength h
    length_as_rel {p = p} {d = d} t (Some n) (Some m) e h k =
        let same : n ≡ m = cc in
        rw (← same)
        (if_rel _ _ (ap (λ l. nat_le l n) (array_length_same h)) (ordinary_rel t length_name h k) (shrunk_rel t n h k (own_rel length_name h.props)))
    length_as_rel t None (Some m) e h k = absurd (cc)
    length_as_rel t (Some n) None e h k = absurd (cc)

    length_rel : {o p : Object} {c d : Change} {x y : Option Value} (t : Throw) → ObjectRel L o p → ChangeRel L c d → Maybe (ValueRel L) x y
        → AttemptRel (ObjectRel L) (define_length t o c x) (define_length t p d y)
    length_rel t h k none = ordinary_rel t length_name h k
    length_rel t h k (some q) = length_as_rel t _ _ (valid_length_same q) h k

    define_rel : {o p : Object} {c d : Change} (t : Throw) (name : List ℕ) → ObjectRel L o p → ChangeRel L c d
        → AttemptRel (ObjectRel L) (define t o name c) (define t p name d)
    define_rel t name h k =
        if_rel _ _ (is_list_same h.class)
        (if_rel (bytes_eq name length_name) _ refl (length_rel t h k k.value) (indexed_rel t name (index_of name) h k))
        (ordinary_rel t name h k)

    -- ---- what scripts do

    pub define_own_rel : {o p : Object} {c d : Change} (name : List ℕ) → ObjectRel L o p → ChangeRel L c d
        → AttemptRel (ObjectRel L) (define_own o name c) (define_own p name d)
    define_own_rel name h k = if_rel _ _ (is_closed_at_same name h) (throws_rel CannotDefine h) (define_rel CannotDefine name h k)

    put_change_rel : {x y : Option Prop} {v w : Value} → ValueRel L v w → Maybe (PropRel L) x y → ChangeRel L (put_change v x) (put_change w y)
    put_change_rel v none = record { value = some v; writable = refl; enumerable = refl; configurable = refl }
    put_change_rel v (some m) = record { value = some v; writable = refl; enumerable = refl; configurable = refl }

    pub put_own_rel : {o p : Object} {v w : Value} (can may : Bool) (name : List ℕ) → can ≡ may → ObjectRel L o p → ValueRel L v w
        → AttemptRel (ObjectRel L) (put_own can o name v) (put_own may p name w)
    put_own_rel can may name e h v =
        if_rel _ _ (rw (is_closed_at_same name h, e) refl) (define_rel CannotSet name h (put_change_rel v (own_rel name h.props))) (throws_rel CannotSet h)

  deleted_rel : {o p : Object} {x y : Option Prop} (name : List ℕ) → ObjectRel L o p → Maybe (PropRel L) x y
      → AttemptRel (ObjectRel L) (deleted_over o name x) (deleted_over p name y)
  deleted_rel name h none = done_rel h
  deleted_rel name h (some m) = if_rel _ _ m.configurable (done_rel (with_props_rel h (remove_rel (bytes_eq name) h.props))) (throws_rel CannotDelete h)

  pub delete_own_rel : {o p : Object} (name : List ℕ) → ObjectRel L o p → AttemptRel (ObjectRel L) (delete_own o name) (delete_own p name)
  delete_own_rel name h = if_rel _ _ (is_closed_at_same name h) (throws_rel CannotDelete h) (deleted_rel name h (own_rel name h.props))

  pub prevented_rel : {o p : Object} → ObjectRel L o p → AttemptRel (ObjectRel L) (prevented o) (prevented p)
  prevented_rel h =
      if_rel _ _ (rw (h.closed, is_window_same h.class) refl) (throws_rel CannotDefine h)
      (done_rel (record { class = h.class; proto = h.proto; extensible = refl; closed = h.closed; props = h.props }))

  -- an array, and an object that has the property, stays as it is
  pub added_rel : {o p : Object} {x y : Prop} (name : List ℕ) → ObjectRel L o p → PropRel L x y → ObjectRel L (with_added o name x) (with_added p name y)
  added_rel {o = o} {p = p} {x = x} {y = y} name h k =
      by_case _ _ (rw (is_list_same h.class, is_some_same (own_rel name h.props)) refl)
    where
      by_case : (b c : Bool) → b ≡ c → ObjectRel L (if b then o else with_props o (o.props ++ (name, x) ∷ [])) (if c then p else with_props p (p.props ++ (name, y) ∷ []))
      by_case true true e = h
      by_case false false e = with_props_rel h (append_rel h.props (entry k no_entries))
      by_case true false e = absurd (cc e)
      by_case false true e = absurd (cc e)
