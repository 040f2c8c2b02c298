-- What a saved page writes of things and values, read in a running scene; and the list, in which a new thing is put.
use Rattle.std.proofs.Common.{◌≡◌, ◌⊎◌, inl, inr, refl, sym, ap, ◌∙◌, ℕ, suc, ◌+◌, ◌-◌, ◌<◌, ◌≤◌, pos, negsuc, ◌-ℤ◌, true, List, [], ◌∷◌, ◌++◌, Option, Some, None, is_some, length, slice_index_or, nat_lt, bytes_eq, codes, append-nil, append_assoc, Ok, Err, if◌then◌else◌, unwrap_or, arith, subst, Bool, false, nat_eq}
use Rattle.std.proofs.lemmas.Bool.{and_parts, and_right, cases_lt, cond-false, cond-true, eqb-false, eqb-true, le-leb, le-ltb, lt-ltb, ltb-true}
use Rattle.std.proofs.lemmas.Int.{ints}
use Rattle.std.specs.Fmt.{decimal}
use Rattle.std.specs.List.{All}
use Rattle.std.specs.Option.{option_map}
use Rattle.built_in_paths.specs.Laws.{EachHasPath, PathsLead}
use Rattle.built_in_paths.specs.Paths.{held_by, path_of}
use Rattle.js_core.specs.Tree as tree
use Rattle.js_core.specs.Tree.{assign}
use Rattle.js_core.specs.Whole.{InRange, is_whole, largest, nan}
use Rattle.js_values.specs.declared.ids.ObjId.{ObjId}
use Rattle.js_values.specs.declared.value.Value.{Value}
use Rattle.js_values.specs.declared.value.Value.TheVariants as value
use Rattle.js_values.specs.declared.value.Value.TheVariants.{Object as Reference, Undefined}
use Rattle.object_heap.specs.Attempt.{Attempt}
use Rattle.object_heap.specs.Define.{length_name}
use Rattle.object_heap.specs.Heap.{Contents}
use Rattle.object_heap.specs.Index.{index_end}
use Rattle.object_heap.specs.Object.{Object, is_list}
use Rattle.object_heap.specs.Property.{fixed, own_property}
use Rattle.object_heap.specs.declared.property.Prop.{Prop}
use Rattle.page_meaning.specs.Act.{Act, Calls, Ended, Outcome, also, choose, give, on_value, then_on}
use Rattle.page_meaning.specs.Convert.{as_number, number_of, text_in}
use Rattle.page_meaning.specs.Errors.{on_refusal, settle}
use Rattle.page_meaning.specs.Expressions.{assigned, eval, eval_args}
use Rattle.page_meaning.specs.Places.{at_place, document, window}
use Rattle.page_meaning.specs.Pristine.{built_ins}
use Rattle.page_meaning.specs.Properties.{class_at, get_index, key_of, stored}
use Rattle.page_host.specs.declared.host_name.HostName.{HostName}
use Rattle.page_meaning.specs.HostPuts.{put_member, put_named}
use Rattle.page_meaning.specs.Store.{Store, with_heap}
use Rattle.page_meaning.specs.declared.signal.Signal.{Signal}
use Rattle.page_meaning.specs.declared.signal.Signal.TheVariants.{Value as Val}
use Rattle.page_writer.specs.Literals.{IsLiteral}
use Rattle.page_writer.specs.Statements.{document_expr, number_expr, reference, reference_over, thing_expr, unlisted, value_expr, value_exprs}
use Rattle.whole_ops.specs.Arithmetic.{whole_or_outside}
use Rattle.whole_ops.specs.declared.fault.OpFault.TheVariants.{Outside}
use Rattle.rebuilding.specs.Scene.{IsRunning, Scene, inside}
use Rattle.rebuilding.specs.Sites.{site, sited, sited_value, sited_values}
use Rattle.rebuilding.proofs.Indices.{decimal_not_length}
use Rattle.rebuilding.proofs.List.{element_found, thing_put_in, with_thing}
use Rattle.rebuilding.proofs.Ordinary.{index_unhosted, is_ordinary, put_free}
use Rattle.rebuilding.proofs.Paths.{plain_read, built_in_found, global_read, list_read, name_read, path_read, built_ins_count}
use Rattle.object_shapes.specs.Shapes.{built_in_at}
use Rattle.page_meaning.specs.Places.{built_in_count}
use Rattle.object_shapes.specs.Links.{value_links, values_links, all_below}
use Rattle.rebuild_plan.specs.Moved.{first_thing}
use Rattle.rebuilding.proofs.Placed.{site_built_in}
use Rattle.object_shapes.proofs.Callers.{below_parts}

-- ---- numbers

nan_global : own_property (built_in_at window.0).props (codes "NaN") ≡ Some (fixed (value.Num nan))
nan_global = refl

minus_is : (i : ℕ) → pos 0 -ℤ pos (suc i) ≡ negsuc i
minus_is i = omega (arith, ints)

negative_whole : (i : ℕ) → InRange (negsuc i) → is_whole (negsuc i) ≡ true
negative_whole i h = le-leb (suc i) largest (omega (arith, ints, h.0))

-- ---- places

document_held : held_by built_ins window.0 (codes "document") ≡ Some document.0
document_held = refl

document_sited : (sites : List ℕ) → site sites document.0 ≡ document.0
document_sited sites = cond-true (nat_lt document.0 first_thing) _ _ (lt-ltb document.0 first_thing (omega arith))

thing_sited : (sites : List ℕ) (k : ℕ) → first_thing ≤ k → site sites k ≡ slice_index_or sites (k - first_thing) 0
thing_sited sites k high = cond-false (nat_lt k first_thing) _ _ (le-ltb k first_thing high)

one_below : (n k : ℕ) → all_below n (k ∷ []) ≡ true → k < n
one_below n k h = ltb-true k n (and_parts (nat_lt k n) true h).0

module _ (c : Scene) (s : Store) (sites : List ℕ) (r : IsRunning c s.heap sites) where
  -- ---- the list in an expression

  -- a thing by its number
  pub thing_read : (calls : Calls) (n i : ℕ) → i < length sites
      → (eval calls (inside c) (thing_expr i)).run s n ≡ Ended (Val (Reference (at_place (slice_index_or sites i 0)))) s n
  thing_read calls n i there =
      ap (λ (o : Outcome Signal). then_on o (on_value (λ base. also (eval calls (inside c) (number_expr i)) (get_index calls base))))
      (list_read c s sites r n)
      ∙ plain_read c s sites r calls n (at_place c.list) (decimal i) (index_unhosted i (omega (arith, there, r.place.few)))
      ∙ ap (λ (o : Option Prop). Ended (Val (unwrap_or (option_map (λ p. p.value) o) Undefined)) s n) (element_found c s.heap sites r i there)

  -- an assignment to a number of the list first evaluates its value
  pub thing_assigned : (calls : Calls) (n i : ℕ) (e : tree.Expr)
      → (eval calls (inside c) (assign None (thing_expr i) e)).run s n
      ≡ (also (eval calls (inside c) e) (assigned (put_member calls (Reference (at_place c.list)) (decimal i)))).run s n
  thing_assigned calls n i e =
      ap (λ (o : Outcome Signal). then_on o (on_value (λ base. also (eval calls (inside c) (number_expr i)) (λ key. also (key_of calls base key) (λ k.
      also (eval calls (inside c) e) (λ v. assigned (put_member calls base (text_in k)) v)))))) (list_read c s sites r n)

  -- the next thing is put at the end of the list
  pub thing_put : (calls : Calls) (m n k : ℕ) → n ≡ length sites → n < index_end
      → (put_member calls (Reference (at_place c.list)) (decimal n) (Reference (at_place k))).run s m
      ≡ Ended (Val (Reference (at_place k))) (with_heap s (with_thing c s.heap sites k)) m
  thing_put calls m n k is small =
      let at = at_place c.list in
      let v = Reference (at_place k) in
      let free : is_ordinary (class_at s at) ≡ true = ap (λ (o : Object). is_ordinary o.class) r.place.list in
      ap (λ (o : Option HostName). (put_named calls at (decimal n) v o).run s m) (index_unhosted n small)
      ∙ ap (λ b. (choose b (also (settle (number_of v)) (stored at (decimal n))) (stored at (decimal n) v)).run s m)
      (and_right (is_list (class_at s at)) (bytes_eq (decimal n) length_name) (decimal_not_length n small))
      ∙ ap (λ (a : Attempt Contents). (on_refusal (give v) a.thrown).run (with_heap s a.after) m)
      (put_free s at (decimal n) v free ∙ thing_put_in c s.heap sites r n k is small)

  pub thing_put_and_given : (calls : Calls) (m n k : ℕ) → n ≡ length sites → n < index_end
      → (assigned (put_member calls (Reference (at_place c.list)) (decimal n)) (Reference (at_place k))).run s m
      ≡ Ended (Val (Reference (at_place k))) (with_heap s (with_thing c s.heap sites k)) m
  thing_put_and_given calls m n k is small =
      ap (λ (o : Outcome Signal). then_on o (on_value (λ _. give (Reference (at_place k))))) (thing_put calls m n k is small)

  -- ---- references

  module _ (calls : Calls) (n : ℕ) (lead : PathsLead) (each : EachHasPath) where
    reference_by : (k : ℕ) (path : Option (List ℕ)) → path_of k ≡ path → k < first_thing + length sites
        → (eval calls (inside c) (reference_over k path)).run s n ≡ Ended (Val (Reference (at_place (site sites k)))) s n
    reference_by k (Some path) is there =
        let low : k < built_in_count = omega (arith, (each k).0 (ap is_some is), built_ins_count) in
        path_read c s sites r calls n lead k path is ∙ ap (λ j. Ended (Val (Reference (at_place j))) s n) (sym (site_built_in sites k low))
    reference_by k None is there = by (cases_lt k built_in_count) (nat_eq k document.0) refl
      where
        Read : tree.Expr → Type 0
        Read e = (eval calls (inside c) e).run s n ≡ Ended (Val (Reference (at_place (site sites k)))) s n

        document_read : k ≡ document.0 → Read document_expr
        document_read e =
            name_read c s sites r calls n (codes "document") document.0 document_held
            ∙ ap (λ j. Ended (Val (Reference (at_place j))) s n) (sym (ap (site sites) e ∙ document_sited sites))

        by : (k < built_in_count) ⊎ (built_in_count ≤ k) → (b : Bool) → nat_eq k document.0 ≡ b → Read (unlisted k)
        by (inl low) b which = cc (sym (ap is_some is) ∙ (each k).1 (omega (arith, low, built_ins_count)))
        by (inr high) true which = subst Read (sym (cond-true (nat_eq k document.0) document_expr (thing_expr (k - first_thing)) which)) (document_read (eqb-true k document.0 which))
        by (inr high) false which =
            subst Read (sym (cond-false (nat_eq k document.0) document_expr (thing_expr (k - first_thing)) which))
            (thing_read calls n (k - first_thing) (omega (arith, high, there, eqb-false k document.0 which))
            ∙ ap (λ j. Ended (Val (Reference (at_place j))) s n) (sym (thing_sited sites k (omega (arith, high, eqb-false k document.0 which)))))

    -- a built-in object or a thing
    pub reference_read : (at : ObjId) → all_below (first_thing + length sites) (at.0 ∷ []) ≡ true
        → (eval calls (inside c) (reference at)).run s n ≡ Ended (Val (Reference (sited sites at))) s n
    reference_read at there = reference_by at.0 (path_of at.0) refl (one_below (first_thing + length sites) at.0 there)

    -- ---- values

    pub value_read : (v : Value) → IsLiteral v → all_below (first_thing + length sites) (value_links v) ≡ true
        → (eval calls (inside c) (value_expr v)).run s n ≡ Ended (Val (sited_value sites v)) s n
    value_read value.Undefined range there = refl
    value_read value.Null range there = refl
    value_read (value.Bool b) range there = refl
    value_read (value.Num None) range there =
        global_read c s sites r (codes "NaN") (fixed (value.Num nan)) n refl
        (built_in_found c s sites r window.0 (codes "NaN") (fixed (value.Num nan)) nan_global)
    value_read (value.Num (Some (pos i))) range there = refl
    value_read (value.Num (Some (negsuc i))) range there =
        ap (λ z. (settle (as_number (whole_or_outside z))).run s n) (minus_is i)
        ∙ ap (λ b. (settle (as_number (if b then Ok (Some (negsuc i)) else Err Outside))).run s n) (negative_whole i (range (negsuc i) refl))
    value_read (value.Text t) range there = refl
    value_read (value.Object at) range there = reference_read at there

  -- ---- arguments

  pub arguments_read : (calls : Calls) (n : ℕ) (lead : PathsLead) (each : EachHasPath) (vs got : List Value) (f : List Value → Act)
      → All IsLiteral vs → all_below (first_thing + length sites) (values_links vs) ≡ true
      → (eval_args calls (inside c) (value_exprs vs) got f).run s n ≡ (f (got ++ sited_values sites vs)).run s n
  arguments_read calls n lead each [] got f range there = ap (λ l. (f l).run s n) (sym (append-nil got))
  arguments_read calls n lead each (v ∷ vs) got f range there =
      let parts = below_parts (first_thing + length sites) (value_links v) (values_links vs) there in
      let w = sited_value sites v in
      ap (λ (o : Outcome Signal). then_on o (on_value (λ x. eval_args calls (inside c) (value_exprs vs) (got ++ x ∷ []) f)))
      (value_read calls n lead each v (range 0 v (omega arith)) parts.0)
      ∙ arguments_read calls n lead each vs (got ++ w ∷ []) f (λ k d h. range (suc k) d (omega (arith, h))) parts.1
      ∙ ap (λ l. (f l).run s n) (append_assoc got (w ∷ []) (sited_values sites vs))
