-- The properties of an array are defined one after another, and then its length.
use Rattle.std.proofs.Common.{◌≡◌, refl, sym, ap, subst, ◌∙◌, ℕ, ◌+◌, ◌≤◌, Bool, true, false, ◌&&◌, nat_eq, nat_le, nat_lt, List, [], ◌∷◌, ◌++◌, append_assoc, Option, Some, None, length, bytes_eq, arith}
use Rattle.std.proofs.lemmas.Bool.{and_parts, and_right, cond-false, cond-true, le-leb, lt-ltb, ltb-true}
use Rattle.std.proofs.lemmas.List.{append-nil}
use Rattle.std.specs.List.{IsDistinct, list_all}
use Rattle.std.specs.Map.{keys_of}
use Rattle.js_values.specs.declared.ids.ObjId.{ObjId}
use Rattle.js_values.specs.declared.throw.Throw.TheVariants.{CannotDefine}
use Rattle.object_heap.proofs.Callers.{define_new_element, open_at, ordinary_new}
use Rattle.object_heap.specs.Array.{IsArray}
use Rattle.object_heap.specs.Attempt.{done}
use Rattle.object_heap.specs.Define.{define_indexed, define_length_as, define_own, is_below, is_closed_at, length_in, length_name, number, number_in, valid_length}
use Rattle.object_heap.specs.Heap.{Contents}
use Rattle.object_heap.specs.Index.{index_end, index_of}
use Rattle.object_heap.specs.Object.{Object, is_list, is_window, with_props}
use Rattle.object_heap.specs.Property.{Props, created, own_property}
use Rattle.object_heap.specs.declared.property.Change.{Change}
use Rattle.page_meaning.specs.Places.{window}
use Rattle.rebuild_plan.specs.Plan.{defines}
use Rattle.rebuild_plan.specs.declared.statement.Rebuild.{Rebuild}
use Rattle.rebuilding.specs.Rebuilt.{Succeeds}
use Rattle.rebuilding.specs.Running.{whole_change}
use Rattle.rebuilding.specs.Scene.{Scene}
use Rattle.rebuilding.specs.Sites.{site, sited_prop, sited_props}
use Rattle.rebuilding.proofs.Defining.{open_for}
use Rattle.rebuilding.proofs.Going.{Allowed, Going, define_next}
use Rattle.rebuilding.proofs.WindowStays.{is_built}
use Rattle.rebuilding.proofs.PropertyNames.{apart_from_first, distinct_rest, flipped, is_new, one_more}
use Rattle.object_shapes.specs.Shapes.{made_property}
use Rattle.object_heap.specs.declared.object.Class.TheVariants as class
use Rattle.object_heap.specs.declared.object.Class.{Class}
use Rattle.dom_tree.specs.Node.{Nodes}
use Rattle.page_meaning.specs.HostNames.{is_kept}
use Rattle.page_host.specs.Host.{Host}

-- the array with this length, which can be written or not, and these elements
abbrev pub array_of : Object → ℕ → Bool → Props → Object
array_of o l writable ps = with_props o ((length_name, made_property (number l) writable) ∷ ps)

-- ---- one element

-- the property comes last, and the length is still small enough
pub record Joins (o : Object) (count l : ℕ) (ps : Props) (x : List ℕ) (change : Change) : Type 0 where
  pub new : ℕ
  pub small : new ≤ count
  pub defined : define_own (array_of o l true ps) x change ≡ done (array_of o new true (ps ++ (x, created change) ∷ []))

module _ (o : Object) (count l : ℕ) (ps : Props) (x : List ℕ) (change : Change) (closed : o.closed ≡ false) (extensible : o.extensible ≡ true)
    (array : is_list o.class ≡ true)
    (far : bytes_eq x length_name ≡ false) (new : own_property ps x ≡ None) (small : l ≤ count) where
  new_here : own_property (array_of o l true ps).props x ≡ None
  new_here = rw far new

  indexed : define_own (array_of o l true ps) x change ≡ define_indexed CannotDefine (array_of o l true ps) x change (index_of x)
  indexed =
      cond-false (is_closed_at (array_of o l true ps) x) _ _ (open_for (array_of o l true ps) x closed new_here)
      ∙ cond-true (is_list o.class) _ _ array
      ∙ cond-false (bytes_eq x length_name) _ _ far

  within : (i : ℕ) → index_of x ≡ Some i → nat_lt i l ≡ true → Joins o count l ps x change
  within i is low = record {
    new = l;
    small = small;
    defined =
        indexed ∙ ap (define_indexed CannotDefine (array_of o l true ps) x change) is ∙ cond-true (nat_lt i l) _ _ low
        ∙ ordinary_new (array_of o l true ps) x change new_here extensible;
  }

  past : (i : ℕ) → index_of x ≡ Some i → nat_lt i l ≡ false → nat_lt i count ≡ true → Joins o count l ps x change
  past i is high below = record {
    new = i + 1;
    small = omega (arith, ltb-true i count below);
    defined =
        define_new_element (array_of o l true ps) x i change
        (open_for (array_of o l true ps) x closed new_here) array far is high refl new_here extensible;
  }

  indexed_joins : (i : ℕ) → index_of x ≡ Some i → nat_lt i count ≡ true → (b : Bool) → nat_lt i l ≡ b → Joins o count l ps x change
  indexed_joins i is below true low = within i is low
  indexed_joins i is below false high = past i is high below

  joins_as : (index : Option ℕ) → index_of x ≡ index → is_below count index ≡ true → Joins o count l ps x change
  joins_as None is below = record {
    new = l;
    small = small;
    defined = indexed ∙ ap (define_indexed CannotDefine (array_of o l true ps) x change) is
        ∙ ordinary_new (array_of o l true ps) x change new_here extensible;
  }
  joins_as (Some i) is below = indexed_joins i is below (nat_lt i l) refl

  pub joins : is_below count (index_of x) ≡ true → Joins o count l ps x change
  joins below = joins_as (index_of x) refl below

-- ---- all

-- nothing is kept from an array
pub list_free : (t : Nodes) (a : Class) (x : List ℕ) → is_list a ≡ true → is_kept t a x ≡ false
list_free t (class.Node k) x e = cc e
list_free t (class.Event parts) x e = cc e
list_free t a x e = refl

module _ (c : Scene) (End : Contents → Host → List ℕ → Type 0) (sites : List ℕ) (g : Contents) (w : Host) (at : ObjId) (o : Object) (count : ℕ)
    (closed : o.closed ≡ false) (extensible : o.extensible ≡ true) (array : is_list o.class ≡ true) (off : nat_eq at.0 window.0 ≡ false) where
  pub elements_succeed : (es : Props) (h : Contents) (l : ℕ) (ps : Props) (rs : List Rebuild)
      → Going c g h w sites (site sites at.0) (array_of o l true ps) → l ≤ count
      → list_all (λ e. is_below count (index_of e.0)) es ≡ true → IsDistinct bytes_eq (length_name ∷ (keys_of ps ++ keys_of es))
      → Allowed (length sites) (defines false false at es ++ rs)
      → ((i : Contents) (m : ℕ) → m ≤ count → Going c g i w sites (site sites at.0) (array_of o m true (ps ++ sited_props sites es))
      → Allowed (length sites) rs → Succeeds c End i w sites rs)
      → Succeeds c End h w sites (defines false false at es ++ rs)
  elements_succeed [] h l ps rs going small below distinct allowed later =
      later h l small (subst (λ (qs : Props). Going c g h w sites (site sites at.0) (array_of o l true qs)) (sym (append-nil ps)) going) allowed
  elements_succeed (e ∷ es) h l ps rs going small below distinct allowed later =
      let last : Props = (e.0, sited_prop sites e.1) ∷ [] in
      let far : bytes_eq e.0 length_name ≡ false = flipped length_name e.0 (apart_from_first length_name (keys_of ps) e.0 (keys_of es) distinct) in
      let first : Joins o count l ps e.0 (whole_change sites e.1) =
      joins o count l ps e.0 (whole_change sites e.1) closed extensible array far
      (is_new ps e.0 (keys_of es) (distinct_rest length_name (keys_of ps ++ e.0 ∷ keys_of es) distinct)) small
      (and_parts (is_below count (index_of e.0)) (list_all (λ q. is_below count (index_of q.0)) es) below).0
      in
      define_next c End sites g w h at e.0 e.1 (defines false false at es ++ rs) (array_of o l true ps)
      (array_of o first.new true (ps ++ last)) going allowed
      (and_right (is_list o.class) (bytes_eq e.0 length_name) far) (list_free w.nodes o.class e.0 array) (ap (λ b. b && is_built e.0) off) first.defined
      (λ i now more. elements_succeed es i first.new (ps ++ last) rs now first.small
      (and_parts (is_below count (index_of e.0)) (list_all (λ q. is_below count (index_of q.0)) es) below).1
      (subst (λ ks. IsDistinct bytes_eq (length_name ∷ ks)) (sym (one_more ps e.0 (sited_prop sites e.1) (keys_of es))) distinct) more
      (λ j m less most. later j m less
      (subst (λ (qs : Props). Going c g j w sites (site sites at.0) (array_of o m true qs)) (append_assoc ps last (sited_props sites es)) most)))

-- ---- the length

pub length_defined : (o : Object) (l n : ℕ) (ps : Props) (writable : Bool) → o.closed ≡ false → is_list o.class ≡ true → is_window o.class ≡ false
    → l ≤ n → n ≤ index_end
    → define_own (array_of o l true ps) length_name
    (record { value = Some (number n); writable = Some writable; enumerable = None; configurable = None }) ≡ done (array_of o n writable ps)
length_defined o l n ps writable closed array window more small =
    let a : Object = array_of o l true ps in
    let change : Change = record { value = Some (number n); writable = Some writable; enumerable = None; configurable = None } in
    let valid : valid_length (number n) ≡ Some n = cond-true (nat_lt n 4294967296) (Some n) None (lt-ltb n 4294967296 (omega (arith, small))) in
    cond-false (is_closed_at a length_name) _ _ (open_at a length_name closed window)
    ∙ cond-true (is_list o.class) _ _ array
    ∙ ap (define_length_as CannotDefine a change) valid
    ∙ cond-true (nat_le l n) _ _ (le-leb l n more)

-- what holds of an array whose length is written so
pub array_has : (count : ℕ) (writable : Bool) (others ps : Props) → ps ≡ (length_name, made_property (number count) writable) ∷ others → IsArray ps
    → (count ≤ index_end) × (list_all (λ e. is_below count (index_of e.0)) others ≡ true)
array_has count writable others ps are a =
    let found : Some (made_property (number count) writable) ≡ Some a.length = ap (λ (q : Props). own_property q length_name) (sym are) ∙ a.there in
    let value : number_in a.length.value ≡ count = ap length_in (sym found) in
    let above : list_all (λ e. is_below (number_in a.length.value) (index_of e.0)) ((length_name, made_property (number count) writable) ∷ others)
    ≡ true =
    ap (λ (q : Props). list_all (λ e. is_below (number_in a.length.value) (index_of e.0)) q) (sym are) ∙ a.above
    in (
      subst (λ n. n ≤ index_end) value a.is_length.small,
      (and_parts (is_below count (index_of length_name)) (list_all (λ e. is_below count (index_of e.0)) others) (subst (λ n. list_all (λ e. is_below n (index_of e.0)) ((length_name, made_property (number count) writable) ∷ others) ≡ true) value above)).1,
    )
