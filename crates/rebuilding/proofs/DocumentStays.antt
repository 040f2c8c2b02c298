-- The document's object stays that of the first node, whatever is defined of it.
use Rattle.std.proofs.Common.{◌≡◌, sym, ap, subst, Bool, true, false, ◌||◌, List, ℕ, Option, Some, None, if◌then◌else◌}
use Rattle.std.proofs.lemmas.Bool.{cond-false}
use Rattle.js_values.specs.declared.throw.Throw.TheVariants.{CannotDefine}
use Rattle.object_heap.specs.Attempt.{Attempt}
use Rattle.object_heap.specs.Define.{define, define_ordinary, define_own, defined_over, is_closed_at, prevented}
use Rattle.object_heap.specs.Object.{Object, is_list, is_window}
use Rattle.object_heap.specs.Property.{may_update, own_property}
use Rattle.object_heap.specs.declared.property.Change.{Change}
use Rattle.object_heap.specs.declared.property.Prop.{Prop}
use Rattle.rebuilding.specs.Scene.{IsDocument}

either : (b : Bool) (x y : Attempt Object) → IsDocument x.after → IsDocument y.after → IsDocument (if b then x else y).after
either true x y h g = h
either false x y h g = g

module _ (o : Object) (is : IsDocument o) where
  over : (x : List ℕ) (change : Change) (own : Option Prop) → IsDocument (defined_over CannotDefine o x change own).after
  over x change None = either o.extensible _ _ (record { class = is.class; proto = is.proto }) is
  over x change (Some p) = either (may_update p change) _ _ (record { class = is.class; proto = is.proto }) is

  pub document_defined : (x : List ℕ) (change : Change) → IsDocument (define_own o x change).after
  document_defined x change =
      let same : define CannotDefine o x change ≡ define_ordinary CannotDefine o x change = cond-false (is_list o.class) _ _ (ap is_list is.class) in
      either (is_closed_at o x) _ _ is (subst (λ (a : Attempt Object). IsDocument a.after) (sym same) (over x change (own_property o.props x)))

  pub document_prevented : IsDocument (prevented o).after
  document_prevented = either (o.closed || is_window o.class) _ _ is (record { class = is.class; proto = is.proto })
