-- Properties are defined one after another of an object that has none of the names, and come last in their order.
use Rattle.std.proofs.Common.{◌≡◌, refl, sym, ap, subst, ◌∙◌, ℕ, Bool, true, false, not, ◌&&◌, ◌||◌, nat_eq, is_some, List, [], ◌∷◌, ◌++◌, append_assoc, Option, Some, None, length, bytes_eq}
use Rattle.std.proofs.lemmas.List.{append-nil}
use Rattle.std.specs.List.{IsDistinct, list_all}
use Rattle.std.specs.Map.{keys_of}
use Rattle.std.proofs.lemmas.Bool.{and_parts, and_right, cond-false, not-true}
use Rattle.std.proofs.Math.Bool.{and-false}
use Rattle.global_names.specs.Names.{names_global}
use Rattle.js_values.specs.declared.ids.ObjId.{ObjId}
use Rattle.js_values.specs.declared.throw.Throw.TheVariants.{CannotDefine}
use Rattle.js_values.specs.declared.value.Value.{Value}
use Rattle.object_heap.proofs.Callers.{define_new, open_at}
use Rattle.object_heap.specs.Attempt.{done}
use Rattle.object_heap.specs.Define.{define_own, defined_over, is_closed_at, length_name}
use Rattle.object_heap.specs.Function.{prototype_name}
use Rattle.object_heap.specs.Heap.{Contents}
use Rattle.object_heap.specs.Object.{Object, is_list, is_window, with_props}
use Rattle.object_heap.specs.Property.{Props, lasting, own_property, updated, with_property}
use Rattle.object_heap.specs.declared.property.Change.{Change}
use Rattle.object_heap.specs.declared.property.Prop.{Prop}
use Rattle.page_meaning.specs.Places.{window}
use Rattle.rebuild_plan.specs.Plan.{defines}
use Rattle.rebuild_plan.specs.declared.statement.Rebuild.{Rebuild}
use Rattle.rebuilding.specs.Rebuilt.{Succeeds}
use Rattle.rebuilding.specs.Running.{whole_change}
use Rattle.rebuilding.specs.Scene.{Scene}
use Rattle.rebuilding.specs.Sites.{site, sited_prop, sited_props}
use Rattle.rebuilding.proofs.Going.{Allowed, Going, define_next}
use Rattle.rebuilding.proofs.PropertyNames.{distinct_next, is_new}
use Rattle.rebuilding.proofs.WindowStays.{is_built}
use Rattle.object_shapes.specs.Shapes.{made_property}
use Rattle.page_meaning.specs.HostNames.{is_kept}
use Rattle.page_host.specs.Host.{Host}

-- what is not the global object may have any names
pub all_own : (b : Bool) (es : Props) → b ≡ false → list_all (λ e. not (b && is_built e.0)) es ≡ true
all_own b [] off = refl
all_own b (e ∷ es) off = rw off (all_own b es off)

-- a name that the object does not have is open
pub open_for : (o : Object) (x : List ℕ) → o.closed ≡ false → own_property o.props x ≡ None → is_closed_at o x ≡ false
open_for o x closed none =
    ap (λ b. b || (is_window o.class && (names_global x && is_some (own_property o.props x)))) closed
    ∙ ap (λ (p : Option Prop). is_window o.class && (names_global x && is_some p)) none
    ∙ and_right (is_window o.class) _ (and-false (names_global x))

-- the object, with these properties after its own
abbrev pub and_props : Object → Props → Object
and_props o ps = with_props o (o.props ++ ps)

pub and_none : (o : Object) → o ≡ and_props o []
and_none o = ap (with_props o) (sym (append-nil o.props))

module _ (c : Scene) (End : Contents → Host → List ℕ → Type 0) (sites : List ℕ) (g : Contents) (w : Host) where
  pub defines_succeed : (es : Props) (h : Contents) (at : ObjId) (o : Object) (rs : List Rebuild) → Going c g h w sites (site sites at.0) o
      → o.closed ≡ false → o.extensible ≡ true → is_list o.class ≡ false → IsDistinct bytes_eq (keys_of o.props ++ keys_of es)
      → list_all (λ e. not (nat_eq at.0 window.0 && is_built e.0)) es ≡ true
      → list_all (λ e. not (is_kept w.nodes o.class e.0)) es ≡ true
      → Allowed (length sites) (defines false false at es ++ rs)
      → ((i : Contents) → Going c g i w sites (site sites at.0) (and_props o (sited_props sites es)) → Allowed (length sites) rs
      → Succeeds c End i w sites rs)
      → Succeeds c End h w sites (defines false false at es ++ rs)
  defines_succeed [] h at o rs going closed extensible ordinary distinct own free allowed later =
      later h (subst (Going c g h w sites (site sites at.0)) (and_none o) going) allowed
  defines_succeed (e ∷ es) h at o rs going closed extensible ordinary distinct own free allowed later =
      let last : Props = (e.0, sited_prop sites e.1) ∷ [] in
      let none : own_property o.props e.0 ≡ None = is_new o.props e.0 (keys_of es) distinct in
      define_next c End sites g w h at e.0 e.1 (defines false false at es ++ rs) o (and_props o last) going allowed
      (ap (λ b. b && bytes_eq e.0 length_name) ordinary)
      (not-true (is_kept w.nodes o.class e.0) (and_parts _ (list_all (λ q. not (is_kept w.nodes o.class q.0)) es) free).0)
      (not-true (nat_eq at.0 window.0 && is_built e.0) (and_parts _ (list_all (λ q. not (nat_eq at.0 window.0 && is_built q.0)) es) own).0)
      (define_new o e.0 (whole_change sites e.1) (open_for o e.0 closed none) ordinary none extensible)
      (λ i now more. defines_succeed es i at (and_props o last) rs now closed extensible ordinary
      (distinct_next o.props e.0 (sited_prop sites e.1) (keys_of es) distinct)
      (and_parts (not (nat_eq at.0 window.0 && is_built e.0)) (list_all (λ q. not (nat_eq at.0 window.0 && is_built q.0)) es) own).1
      (and_parts (not (is_kept w.nodes o.class e.0)) (list_all (λ q. not (is_kept w.nodes o.class q.0)) es) free).1 more
      (λ j most. later j
      (subst (λ ps. Going c g j w sites (site sites at.0) (with_props o ps)) (append_assoc o.props last (sited_props sites es)) most)))

-- the `prototype` of a function becomes another value, and can be written or not
pub prototype_defined : (o : Object) (first : Prop) (old v : Value) (writable : Bool) → o.closed ≡ false → is_list o.class ≡ false
    → is_window o.class ≡ false
    → o.props ≡ (length_name, first) ∷ (prototype_name, lasting old) ∷ []
    → define_own o prototype_name (record { value = Some v; writable = Some writable; enumerable = None; configurable = None })
    ≡ done (with_props o ((length_name, first) ∷ (prototype_name, made_property v writable) ∷ []))
prototype_defined o first old v writable closed ordinary window props =
    let change : Change = record { value = Some v; writable = Some writable; enumerable = None; configurable = None } in
    cond-false (is_closed_at o prototype_name) _ _ (open_at o prototype_name closed window)
    ∙ cond-false (is_list o.class) _ _ ordinary
    ∙ ap (λ (ps : Props). defined_over CannotDefine o prototype_name change (own_property ps prototype_name)) props
    ∙ ap (λ (ps : Props). done (with_props o (with_property ps prototype_name (updated (lasting old) change)))) props
