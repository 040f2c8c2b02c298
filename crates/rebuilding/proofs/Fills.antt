-- The properties of a thing are defined, whatever its maker left.
use Rattle.std.proofs.Common.{◌≡◌, refl, sym, ap, subst, ◌∙◌, ℕ, true, false, nat_eq, List, [], ◌∷◌, ◌++◌, append_assoc, Option, length, bytes_eq, arith, not}
use Rattle.std.proofs.lemmas.List.{append-nil}
use Rattle.std.specs.List.{AllByRecursion, IsDistinct, list_all}
use Rattle.std.specs.Map.{keys_of}
use Rattle.js_values.specs.declared.ids.ObjId.{ObjId}
use Rattle.js_values.specs.declared.value.Value.{Value}
use Rattle.object_heap.specs.Array.{IsArray}
use Rattle.object_heap.specs.Define.{is_below, length_name, number}
use Rattle.object_heap.specs.Function.{prototype_name}
use Rattle.object_heap.specs.Heap.{Contents}
use Rattle.object_heap.specs.Index.{index_of}
use Rattle.object_heap.specs.Object.{Object, is_list, is_window, with_props}
use Rattle.object_heap.specs.Property.{HasDistinctNames, Props, fixed, own_property}
use Rattle.object_heap.specs.declared.object.Class.{Class}
use Rattle.object_heap.specs.declared.object.Class.TheVariants as class
use Rattle.object_heap.specs.declared.property.Prop.{Prop}
use Rattle.page_meaning.specs.Places.{window}
use Rattle.page_meaning.specs.Store.{Store}
use Rattle.rebuild_plan.specs.Compact.{maker_as, moved_props, moved_value}
use Rattle.rebuild_plan.specs.Plan.{define_length, defines, has_length, has_prototype}
use Rattle.rebuild_plan.specs.declared.statement.Rebuild.{Rebuild}
use Rattle.rebuild_plan.specs.declared.statement.Rebuild.TheVariants.{DefineLength, DefinePrototype}
use Rattle.rebuilding.specs.Rebuilt.{Succeeds}
use Rattle.rebuilding.specs.Scene.{Scene}
use Rattle.rebuilding.specs.Sites.{site, sited_props, sited_value}
use Rattle.rebuilding.proofs.ArrayFills.{array_has, array_of, elements_succeed, length_defined, list_free}
use Rattle.rebuilding.proofs.Defining.{all_own, defines_succeed, prototype_defined}
use Rattle.rebuilding.proofs.Going.{Allowed, Going, length_next, prototype_next}
use Rattle.rebuilding.proofs.PropertyNames.{both_keys, distinct_first, distinct_rest, moved_all, moved_keys, rebuilt_both, rebuilt_keys, rebuilt_props, skip_length, skip_prototype}
use Rattle.rebuilding.proofs.Stages.{BeginsAsBound, BeginsAsFunction}
use Rattle.object_shapes.specs.Shapes.{HasFunctionProps, HasLength, made_property}
use Rattle.page_meaning.specs.HostNames.{is_kept}
use Rattle.page_host.specs.Host.{Host}
use Rattle.std.proofs.lemmas.Bool.{and_parts, not-true}
use Rattle.std.proofs.lemmas.List.Folds.{list_all-append}

-- the statements for a thing of this class with these properties
abbrev pub fill_as : Store → List ℕ → Option ObjId → ObjId → Class → Props → List Rebuild
fill_as s things proto at kind ps =
    defines (has_length (maker_as s things proto kind)) (has_prototype (maker_as s things proto kind)) at (moved_props things ps)
    ++ define_length (maker_as s things proto kind) at (own_property (moved_props things ps) length_name)

moved_apart : (things : List ℕ) (x : List ℕ) (ps : Props) → AllByRecursion (λ y. bytes_eq x y ≡ false) (keys_of ps)
    → AllByRecursion (λ y. bytes_eq x y ≡ false) (keys_of (moved_props things ps))
moved_apart things x ps h = subst (AllByRecursion (λ y. bytes_eq x y ≡ false)) (sym (moved_keys things ps)) h

module _ (c : Scene) (End : Contents → Host → List ℕ → Type 0) (s : Store) (things sites : List ℕ) (g : Contents) (w : Host) (at : ObjId)
    (off : nat_eq at.0 window.0 ≡ false) where
  -- no name of these is kept from the object
  abbrev pub IsFree : Object → Props → Type 0
  IsFree o ps = list_all (λ e. not (is_kept w.nodes o.class e.0)) ps ≡ true

  -- what comes after, once the object has these properties
  abbrev pub Later : Object → Props → List Rebuild → Type 0
  Later o ps rs =
      (i : Contents) → Going c g i w sites (site sites at.0) (with_props o (rebuilt_props sites things ps)) → Allowed (length sites) rs
      → Succeeds c End i w sites rs

  -- the properties after the first ones, which are there
  pub rest_succeeds : (first others ps : Props) (xs : List Rebuild) (h : Contents) (o : Object) (rs : List Rebuild)
      → Going c g h w sites (site sites at.0) o
      → o.closed ≡ false → o.extensible ≡ true → is_list o.class ≡ false → o.props ≡ rebuilt_props sites things first → ps ≡ first ++ others
      → HasDistinctNames ps → IsFree o ps
      → xs ≡ defines false false at (moved_props things others) → Allowed (length sites) (xs ++ rs) → Later o ps rs
      → Succeeds c End h w sites (xs ++ rs)
  rest_succeeds first others ps xs h o rs going closed extensible ordinary props is names free are allowed later =
      let keys : keys_of ps ≡ keys_of o.props ++ keys_of (moved_props things others) =
      ap keys_of is ∙ both_keys first others
      ∙ ap (λ (l : List (List ℕ)). l ++ keys_of others) (sym (ap keys_of props ∙ rebuilt_keys sites things first))
      ∙ ap (λ (l : List (List ℕ)). keys_of o.props ++ l) (sym (moved_keys things others))
      in
      let same : o.props ++ sited_props sites (moved_props things others) ≡ rebuilt_props sites things ps =
      ap (λ (q : Props). q ++ rebuilt_props sites things others) props ∙ sym (rebuilt_both sites things first others)
      ∙ ap (rebuilt_props sites things) (sym is)
      in
      subst (λ (l : List Rebuild). Succeeds c End h w sites (l ++ rs)) (sym are)
      (defines_succeed c End sites g w (moved_props things others) h at o rs going closed extensible ordinary (subst (IsDistinct bytes_eq) keys names)
      (all_own (nat_eq at.0 window.0) (moved_props things others) off)
      (moved_all (λ x. not (is_kept w.nodes o.class x)) things others
      ∙ (and_parts (list_all (λ e. not (is_kept w.nodes o.class e.0)) first) _
      (sym (list_all-append (λ e. not (is_kept w.nodes o.class e.0)) first others) ∙ subst (IsFree o) is free)).1)
      (subst (λ (l : List Rebuild). Allowed (length sites) (l ++ rs)) are allowed)
      (λ i now more. later i (subst (λ (q : Props). Going c g i w sites (site sites at.0) (with_props o q)) same now) more))

  pub bound_succeeds : (proto : Option ObjId) (target : ObjId) (this : Value) (args : List Value) (ps : Props) (h : Contents) (o : Object)
      (rs : List Rebuild) → Going c g h w sites (site sites at.0) o
      → o.closed ≡ false → o.extensible ≡ true → is_list o.class ≡ false → BeginsAsBound ps o.props → HasDistinctNames ps → IsFree o ps
      → Allowed (length sites) (fill_as s things proto at (class.Bound target this args) ps ++ rs) → Later o ps rs
      → Succeeds c End h w sites (fill_as s things proto at (class.Bound target this args) ps ++ rs)
  bound_succeeds proto target this args ps h o rs going closed extensible ordinary begins names free allowed later =
      let others : Props = begins.others in
      let apart = moved_apart things length_name others (distinct_first length_name (keys_of others) (subst HasDistinctNames begins.had names)) in
      let are : fill_as s things proto at (class.Bound target this args) ps ≡ defines false false at (moved_props things others) =
      ap (fill_as s things proto at (class.Bound target this args)) begins.had ∙ append-nil (defines true false at (moved_props things others))
      ∙ skip_length false at (moved_props things others) apart
      in
      rest_succeeds ((length_name, fixed (number begins.count)) ∷ []) others ps
      (fill_as s things proto at (class.Bound target this args) ps) h o rs going closed extensible ordinary begins.are begins.had names free are allowed
      later

  pub page_succeeds : (proto : Option ObjId) (kind : Class) (formals : ℕ) (ps : Props) (h : Contents) (o : Object) (rs : List Rebuild)
      → Going c g h w sites (site sites at.0) o
      → has_length (maker_as s things proto kind) ≡ true → has_prototype (maker_as s things proto kind) ≡ true
      → ((p : Option Prop) → define_length (maker_as s things proto kind) at p ≡ [])
      → o.closed ≡ false → o.extensible ≡ true → is_list o.class ≡ false → is_window o.class ≡ false → BeginsAsFunction formals o.props
      → HasFunctionProps formals ps → HasDistinctNames ps → IsFree o ps
      → Allowed (length sites) (fill_as s things proto at kind ps ++ rs) → Later o ps rs
      → Succeeds c End h w sites (fill_as s things proto at kind ps ++ rs)
  page_succeeds proto kind formals ps h o rs going long made short closed extensible ordinary window begins has names free allowed later =
      let first : Prop = fixed (number formals) in
      let others : Props = has.others in
      let behind : Props = moved_props things others in
      let v : Value = moved_value things has.prototype in
      let next : Object = with_props o ((length_name, first) ∷ (prototype_name, made_property (sited_value sites v) has.writable) ∷ []) in
      let distinct : IsDistinct bytes_eq (length_name ∷ prototype_name ∷ keys_of others) = subst HasDistinctNames has.are names in
      let far = moved_apart things length_name others (distinct_first length_name (prototype_name ∷ keys_of others) distinct).1 in
      let apart = moved_apart things prototype_name others
      (distinct_first prototype_name (keys_of others) (distinct_rest length_name (prototype_name ∷ keys_of others) distinct)) in
      let opened : fill_as s things proto at kind ps ≡ defines true true at (moved_props things ps) =
      ap (λ (l : List Rebuild). defines (has_length (maker_as s things proto kind)) (has_prototype (maker_as s things proto kind)) at
      (moved_props things ps) ++ l) (short (own_property (moved_props things ps) length_name))
      ∙ append-nil (defines (has_length (maker_as s things proto kind)) (has_prototype (maker_as s things proto kind)) at (moved_props things ps))
      ∙ ap (λ b. defines b (has_prototype (maker_as s things proto kind)) at (moved_props things ps)) long
      ∙ ap (λ b. defines true b at (moved_props things ps)) made
      in
      let kept : is_kept w.nodes o.class prototype_name ≡ false =
      not-true (is_kept w.nodes o.class prototype_name) (and_parts (not (is_kept w.nodes o.class prototype_name)) _
      (and_parts (not (is_kept w.nodes o.class length_name)) _ (subst (IsFree o) has.are free)).1).0
      in
      let are : fill_as s things proto at kind ps ≡ DefinePrototype at v has.writable ∷ defines false false at behind =
      opened ∙ ap (λ (q : Props). defines true true at (moved_props things q)) has.are
      ∙ ap (λ (l : List Rebuild). DefinePrototype at v has.writable ∷ l) (skip_length true at behind far ∙ skip_prototype at behind apart)
      in
      subst (λ (l : List Rebuild). Succeeds c End h w sites (l ++ rs)) (sym are)
      (prototype_next c End sites g w h at v has.writable (defines false false at behind ++ rs) o next going
      (subst (λ (l : List Rebuild). Allowed (length sites) (l ++ rs)) are allowed) ordinary kept off
      (prototype_defined o first begins.prototype (sited_value sites v) has.writable closed ordinary window begins.are)
      (λ i now more. rest_succeeds ((length_name, first) ∷ (prototype_name, made_property has.prototype has.writable) ∷ []) others ps
      (defines false false at behind) i next rs now closed extensible ordinary refl has.are names free refl more later))

  pub list_succeeds : (proto : Option ObjId) (ps : Props) (h : Contents) (o : Object) (rs : List Rebuild) → Going c g h w sites (site sites at.0) o
      → o.closed ≡ false → o.extensible ≡ true → is_list o.class ≡ true → is_window o.class ≡ false → o.props
      ≡ (length_name, made_property (number 0) true) ∷ []
      → HasLength ps → HasDistinctNames ps → IsArray ps → Allowed (length sites) (fill_as s things proto at class.List ps ++ rs) → Later o ps rs
      → Succeeds c End h w sites (fill_as s things proto at class.List ps ++ rs)
  list_succeeds proto ps h o rs going closed extensible array window props has names proper allowed later =
      let others : Props = has.others in
      let behind : Props = moved_props things others in
      let distinct : IsDistinct bytes_eq (length_name ∷ keys_of others) = subst HasDistinctNames has.are names in
      let apart = moved_apart things length_name others (distinct_first length_name (keys_of others) distinct) in
      let last : Rebuild = DefineLength at (number has.count) has.writable in
      let are : fill_as s things proto at class.List ps ++ rs ≡ defines false false at behind ++ (last ∷ rs) =
      ap (λ (q : Props). fill_as s things proto at class.List q ++ rs) has.are
      ∙ ap (λ (l : List Rebuild). (l ++ last ∷ []) ++ rs) (skip_length false at behind apart)
      ∙ append_assoc (defines false false at behind) (last ∷ []) rs
      in
      let facts = array_has has.count has.writable others ps has.are proper in
      subst (Succeeds c End h w sites) (sym are)
      (elements_succeed c End sites g w at o has.count closed extensible array off behind h 0 [] (last ∷ rs)
      (subst (Going c g h w sites (site sites at.0)) (ap (with_props o) props) going) (omega arith)
      (moved_all (λ x. is_below has.count (index_of x)) things others ∙ facts.1)
      (subst (λ (ks : List (List ℕ)). IsDistinct bytes_eq (length_name ∷ ks)) (sym (moved_keys things others)) distinct)
      (subst (Allowed (length sites)) are allowed)
      (λ i m less now more. length_next c End sites g w i at has.count has.writable rs (array_of o m true (sited_props sites behind))
      (array_of o has.count has.writable (sited_props sites behind)) now more (list_free w.nodes o.class length_name array)
      (length_defined o m has.count (sited_props sites behind) has.writable closed array window less facts.0)
      (λ j last_one most. later j
      (subst (λ (q : Props). Going c g j w sites (site sites at.0) (with_props o (rebuilt_props sites things q))) (sym has.are) last_one) most)))
