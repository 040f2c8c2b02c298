-- The global object stays one where a property is defined whose name is none of its built-in ones.
use Rattle.std.proofs.Common.{◌≡◌, refl, sym, ap, subst, ◌∙◌, ℕ, Bool, true, false, is_none, is_some, List, [], ◌∷◌, ◌++◌, Option, Some, None, bytes_eq, append_assoc, if◌then◌else◌}
use Rattle.std.proofs.lemmas.Bool.{and_from, and_parts, cond-false}
use Rattle.std.proofs.lemmas.List.Folds.{list_all-append}
use Rattle.std.specs.List.{list_all}
use Rattle.js_values.specs.declared.throw.Throw.TheVariants.{CannotDefine}
use Rattle.object_heap.specs.Attempt.{Attempt, done, throws}
use Rattle.object_heap.specs.Define.{define, define_ordinary, define_own, defined_over, is_closed_at}
use Rattle.object_heap.specs.Object.{Object, is_list, with_props}
use Rattle.object_heap.specs.Property.{Props, created, may_update, own_property, updated, with_property}
use Rattle.object_heap.specs.declared.property.Change.{Change}
use Rattle.object_heap.specs.declared.property.Prop.{Prop}
use Rattle.page_meaning.specs.Places.{window}
use Rattle.rebuilding.proofs.Basics.{nothing}
use Rattle.object_shapes.specs.Shapes.{IsWindow, built_in_at}

-- the global object begins with a property of this name
unfoldable pub is_built : List ℕ → Bool
is_built x = is_some (own_property (built_in_at window.0).props x)

-- ---- lists of properties

set_past : (es fs : Props) (x : List ℕ) (q : Prop) → own_property es x ≡ None → with_property (es ++ fs) x q ≡ es ++ with_property fs x q
set_past [] fs x q none = refl
set_past (e ∷ es) fs x q none = by (bytes_eq x e.0) refl (λ g. set_past es fs x q g)
  where
    by : (b : Bool) → bytes_eq x e.0 ≡ b → (own_property es x ≡ None → with_property (es ++ fs) x q ≡ es ++ with_property fs x q)
        → with_property ((e ∷ es) ++ fs) x q ≡ (e ∷ es) ++ with_property fs x q
    by true same more = cc (rw same at none)
    by false far more = cond-false (bytes_eq x e.0) _ _ far ∙ ap (λ ps. e ∷ ps) (more (rw far at none))

module _ (test : List ℕ → Bool) where
  all_set : (es : Props) (x : List ℕ) (q : Prop) → list_all (λ e. test e.0) es ≡ true → list_all (λ e. test e.0) (with_property es x q) ≡ true
  all_set [] x q all = refl
  all_set (e ∷ es) x q all = by (bytes_eq x e.0) refl (all_set es x q (and_parts (test e.0) (list_all (λ d. test d.0) es) all).1)
    where
      by : (b : Bool) → bytes_eq x e.0 ≡ b → list_all (λ d. test d.0) (with_property es x q) ≡ true
          → list_all (λ d. test d.0) (with_property (e ∷ es) x q) ≡ true
      by true same more = rw same all
      by false far more = rw far (and_from (test e.0) _ (and_parts (test e.0) (list_all (λ d. test d.0) es) all).0 more)

  all_with : (es : Props) (x : List ℕ) (q : Prop) → list_all (λ e. test e.0) es ≡ true → test x ≡ true
      → list_all (λ e. test e.0) (es ++ (x, q) ∷ []) ≡ true
  all_with es x q all holds =
      list_all-append (λ e. test e.0) es ((x, q) ∷ []) ∙ and_from (list_all (λ e. test e.0) es) _ all (and_from (test x) true holds refl)

-- ---- the global object

module _ (w : Object) (x : List ℕ) (change : Change) (rest : IsWindow w) (other : own_property (built_in_at window.0).props x ≡ None) where
  abbrev is_other : List ℕ → Bool
  is_other y = is_none (own_property (built_in_at window.0).props y)

  added : IsWindow (with_props w (w.props ++ (x, created change) ∷ []))
  added = record {
    others = rest.others ++ (x, created change) ∷ [];
    props = ap (λ ps. ps ++ (x, created change) ∷ []) rest.props ∙ append_assoc (built_in_at window.0).props rest.others ((x, created change) ∷ []);
    own = all_with is_other rest.others x (created change) rest.own (ap is_none other);
    class = rest.class;
    proto = rest.proto;
    extensible = rest.extensible;
    closed = rest.closed;
  }

  changed : (q : Prop) → IsWindow (with_props w (with_property w.props x q))
  changed q = record {
    others = with_property rest.others x q;
    props = ap (λ ps. with_property ps x q) rest.props ∙ set_past (built_in_at window.0).props rest.others x q other;
    own = all_set is_other rest.others x q rest.own;
    class = rest.class;
    proto = rest.proto;
    extensible = rest.extensible;
    closed = rest.closed;
  }

  added_or_not : (b : Bool) → IsWindow (if b then done (with_props w (w.props ++ (x, created change) ∷ [])) else throws w CannotDefine).after
  added_or_not true = added
  added_or_not false = rest

  changed_or_not : (b : Bool) (q : Prop)
      → IsWindow (if b then done (with_props w (with_property w.props x q)) else throws w CannotDefine).after
  changed_or_not true q = changed q
  changed_or_not false q = rest

  over : (p : Option Prop) → IsWindow (defined_over CannotDefine w x change p).after
  over None = added_or_not w.extensible
  over (Some p) = changed_or_not (may_update p change) (updated p change)

  -- a place that is closed stays as it is
  closed_or_not : (b : Bool) → IsWindow (if b then throws w CannotDefine else define CannotDefine w x change).after
  closed_or_not true = rest
  closed_or_not false =
      let same : define CannotDefine w x change ≡ define_ordinary CannotDefine w x change = cond-false (is_list w.class) _ _ (ap is_list rest.class) in
      subst (λ (a : Attempt Object). IsWindow a.after) (sym same) (over (own_property w.props x))

  defined_window : IsWindow (define_own w x change).after
  defined_window = closed_or_not (is_closed_at w x)

pub window_defined : (w : Object) (x : List ℕ) (change : Change) → IsWindow w → is_built x ≡ false → IsWindow (define_own w x change).after
unfolding is_built
window_defined w x change rest own = defined_window w x change rest (nothing (own_property (built_in_at window.0).props x) own)
