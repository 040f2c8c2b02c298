-- What a call on one object keeps of it.
use Rattle.std.proofs.Common.{◌≡◌, refl, sym, ap, subst, ◌∙◌, ℕ, ◌+◌, Bool, true, false, ◌&&◌, ◌||◌, not, List, Option, Some, None, nat_le, nat_lt, bytes_eq, if◌then◌else◌}
use Rattle.std.proofs.lemmas.Bool.{or_left, or_right}
use Rattle.js_values.specs.declared.throw.Throw.{Throw}
use Rattle.js_values.specs.declared.throw.Throw.TheVariants.{CannotDefine, CannotSet}
use Rattle.js_values.specs.declared.value.Value.{Value}
use Rattle.dom_tree.specs.Node.{Nodes}
use Rattle.object_heap.specs.Attempt.{Attempt}
use Rattle.object_heap.specs.Define.{array_length, define, define_indexed, define_length, define_length_as, define_ordinary, defined_over, deleted_over, grown_over, has_writable_length, is_closed_at, length_name, prevented, put_change, shrunk, valid_length}
use Rattle.object_heap.specs.Index.{index_of}
use Rattle.object_heap.specs.Object.{is_list, is_window, Object}
use Rattle.object_heap.specs.Property.{may_update, own_property}
use Rattle.object_heap.specs.declared.property.Change.{Change}
use Rattle.object_heap.specs.declared.property.Prop.{Prop}
use Rattle.page_meaning.specs.Places.{window}
use Rattle.object_shapes.specs.Shapes.{HasFunctionProps, HasLength, IsWindow, built_in_at}
use Rattle.object_shapes.proofs.Called.{Call, IsSmall, after_call, call_stays, defining, deleting, name_of, putting}
use Rattle.object_shapes.proofs.Edits.{AnyName, HasFixedLength, fixed_rules, function_rules, length_rules, small_rules}
use Rattle.object_shapes.proofs.Free.{IsFree, free_stays, have_no_kept}
use Rattle.object_shapes.proofs.Lists.{AreSmall}
use Rattle.object_shapes.proofs.Window.{IsOther, Leads, leads_rules, window_leads, window_open}

-- ---- all but the properties

record Same (o p : Object) : Type 0 where
  class : p.class ≡ o.class
  proto : p.proto ≡ o.proto
  extensible : p.extensible ≡ o.extensible
  closed : p.closed ≡ o.closed

same : (o p : Object) → p.class ≡ o.class → p.proto ≡ o.proto → p.extensible ≡ o.extensible → p.closed ≡ o.closed → Same o p
same o p c q e d = record { class = c; proto = q; extensible = e; closed = d }

one_of : (o : Object) (b : Bool) (x y : Attempt Object) → Same o x.after → Same o y.after → Same o (if b then x else y).after
one_of o true x y h g = h
one_of o false x y h g = g

over_same : (t : Throw) (o : Object) (name : List ℕ) (change : Change) (own : Option Prop) → Same o (defined_over t o name change own).after
over_same t o name change None = one_of o o.extensible _ _ (same o _ refl refl refl refl) (same o _ refl refl refl refl)
over_same t o name change (Some p) = one_of o (may_update p change) _ _ (same o _ refl refl refl refl) (same o _ refl refl refl refl)

ordinary_same : (t : Throw) (o : Object) (name : List ℕ) (change : Change) → Same o (define_ordinary t o name change).after
ordinary_same t o name change = over_same t o name change (own_property o.props name)

grown_same : (o : Object) (n : ℕ) (attempt : Attempt Object) (thrown : Option Throw) → Same o attempt.after
    → Same o (grown_over n attempt thrown).after
grown_same o n attempt None h = same o _ h.class h.proto h.extensible h.closed
grown_same o n attempt (Some t) h = h

indexed_same : (t : Throw) (o : Object) (name : List ℕ) (change : Change) (index : Option ℕ) → Same o (define_indexed t o name change index).after
indexed_same t o name change None = ordinary_same t o name change
indexed_same t o name change (Some i) =
    one_of o (nat_lt i (array_length o)) _ _ (ordinary_same t o name change)
    (one_of o (has_writable_length o) _ _
    (grown_same o (i + 1) (define_ordinary t o name change) (define_ordinary t o name change).thrown (ordinary_same t o name change))
    (same o _ refl refl refl refl))

shrunk_same : (t : Throw) (o : Object) (change : Change) (end : ℕ) (own : Option Prop) → Same o (shrunk t o change end own).after
shrunk_same t o change end None = same o _ refl refl refl refl
shrunk_same t o change end (Some p) = one_of o (p.writable && may_update p change) _ _ (same o _ refl refl refl refl) (same o _ refl refl refl refl)

length_as_same : (t : Throw) (o : Object) (change : Change) (end : Option ℕ) → Same o (define_length_as t o change end).after
length_as_same t o change None = same o _ refl refl refl refl
length_as_same t o change (Some n) =
    one_of o (nat_le (array_length o) n) _ _ (ordinary_same t o length_name change) (shrunk_same t o change n (own_property o.props length_name))

length_same : (t : Throw) (o : Object) (change : Change) (value : Option Value) → Same o (define_length t o change value).after
length_same t o change None = ordinary_same t o length_name change
length_same t o change (Some v) = length_as_same t o change (valid_length v)

define_same : (t : Throw) (o : Object) (name : List ℕ) (change : Change) → Same o (define t o name change).after
define_same t o name change =
    one_of o (is_list o.class) _ _
    (one_of o (bytes_eq name length_name) _ _ (length_same t o change change.value) (indexed_same t o name change (index_of name)))
    (ordinary_same t o name change)

deleted_same : (o : Object) (name : List ℕ) (own : Option Prop) → Same o (deleted_over o name own).after
deleted_same o name None = same o _ refl refl refl refl
deleted_same o name (Some p) = one_of o p.configurable _ _ (same o _ refl refl refl refl) (same o _ refl refl refl refl)

call_same : (o : Object) (call : Call) → Same o (after_call o call)
call_same o (putting can name v) =
    one_of o (not (is_closed_at o name) && can) _ _ (define_same CannotSet o name (put_change v (own_property o.props name)))
    (same o _ refl refl refl refl)
call_same o (defining name change) = one_of o (is_closed_at o name) _ _ (same o _ refl refl refl refl) (define_same CannotDefine o name change)
call_same o (deleting name) = one_of o (is_closed_at o name) _ _ (same o _ refl refl refl refl) (deleted_same o name (own_property o.props name))

-- ---- closed objects

left_is : (o : Object) (b : Bool) (x y : Attempt Object) → b ≡ true → x.after ≡ o → (if b then x else y).after ≡ o
left_is o true x y e h = h
left_is o false x y e h = cc e

right_is : (o : Object) (b c : Bool) (x y : Attempt Object) → b ≡ true → y.after ≡ o → (if not b && c then x else y).after ≡ o
right_is o true c x y e h = h
right_is o false c x y e h = cc e

call_still : (o : Object) (call : Call) → o.closed ≡ true → after_call o call ≡ o
call_still o (putting can name v) e = right_is o (is_closed_at o name) can _ _ (or_left o.closed _ e) refl
call_still o (defining name change) e = left_is o (is_closed_at o name) _ _ (or_left o.closed _ e) refl
call_still o (deleting name) e = left_is o (is_closed_at o name) _ _ (or_left o.closed _ e) refl

-- ---- all that is kept

-- what an object refers to stays below the bound; a closed object stays as it is; each kind keeps its properties; and none comes to be kept
pub record Kept (n : ℕ) (t : Nodes) (o p : Object) : Type 0 where
  pub class : p.class ≡ o.class
  pub proto : p.proto ≡ o.proto
  pub closed : p.closed ≡ o.closed
  pub still : o.closed ≡ true → p ≡ o
  pub window : IsWindow o → IsWindow p
  pub small : AreSmall n o.props → AreSmall n p.props
  pub list : is_list o.class ≡ true → HasLength o.props → HasLength p.props
  pub function : (m : ℕ) → is_list o.class ≡ false → HasFunctionProps m o.props → HasFunctionProps m p.props
  pub fixed : (m : ℕ) → is_list o.class ≡ false → HasFixedLength m o.props → HasFixedLength m p.props
  pub free : have_no_kept t o.class o.props ≡ true → have_no_kept t p.class p.props ≡ true

pub call_kept : (n : ℕ) (t : Nodes) (o : Object) (call : Call) → IsSmall n call → IsFree t o.class call → Kept n t o (after_call o call)
call_kept n t o call small may = record {
  class = (call_same o call).class;
  proto = (call_same o call).proto;
  closed = (call_same o call).closed;
  still = call_still o call;
  window = λ h.
      let lead = (built_in_at window.0).props in
      let after : Leads (built_in_at window.0).props (after_call o call).props =
      call_stays n (IsOther (built_in_at window.0).props) (Leads (built_in_at window.0).props) false
      (leads_rules (built_in_at window.0).props n) o call (ap is_list h.class) (λ free. window_open o (name_of call) h free) small
      (window_leads o h)
      in
      record {
        others = after.others;
        props = after.are;
        own = after.own;
        class = (call_same o call).class ∙ h.class;
        proto = (call_same o call).proto ∙ h.proto;
        extensible = (call_same o call).extensible ∙ h.extensible;
        closed = (call_same o call).closed ∙ h.closed;
      };
  small = λ h. call_stays n AnyName (AreSmall n) (is_list o.class) (small_rules n (is_list o.class)) o call refl (λ free. tt) small h;
  list = λ e h. call_stays n AnyName HasLength true (length_rules n) o call e (λ free. tt) small h;
  function = λ m e h. call_stays n AnyName (HasFunctionProps m) false (function_rules n m) o call e (λ free. tt) small h;
  fixed = λ m e h. call_stays n AnyName (HasFixedLength m) false (fixed_rules n m) o call e (λ free. tt) small h;
  free = λ h. ap (λ c. have_no_kept t c (after_call o call).props) (call_same o call).class ∙ free_stays n t o call small may h;
}

-- an object stays
pub itself : (n : ℕ) (t : Nodes) (o p : Object) → p ≡ o → Kept n t o p
itself n t o p e = subst (Kept n t o) (sym e) (record {
  class = refl;
  proto = refl;
  closed = refl;
  still = λ c. refl;
  window = λ h. h;
  small = λ h. h;
  list = λ l h. h;
  function = λ m l h. h;
  fixed = λ m l h. h;
  free = λ h. h;
})

pub prevented_kept : (n : ℕ) (t : Nodes) (o : Object) → Kept n t o (prevented o).after
prevented_kept n t o = by_case (o.closed || is_window o.class) refl
  where
    refused : (o.closed || is_window o.class) ≡ true → (prevented o).after ≡ o
    refused e = left_is o (o.closed || is_window o.class) _ _ e refl

    by_case : (b : Bool) → (o.closed || is_window o.class) ≡ b → Kept n t o (prevented o).after
    by_case true e = itself n t o (prevented o).after (refused e)
    by_case false e = rw e (record {
      class = refl;
      proto = refl;
      closed = refl;
      still = λ c. absurd (cc (sym (or_left o.closed (is_window o.class) c) ∙ e));
      window = λ h. absurd (cc (sym (or_right o.closed (is_window o.class) (ap is_window h.class)) ∙ e));
      small = λ h. h;
      list = λ l h. h;
      function = λ m l h. h;
      fixed = λ m l h. h;
      free = λ h. h;
    })
