-- The family of rows on arrays that calls nothing back (section 15.4.4).
use Rattle.std.proofs.Common.{ℕ, List, subst, ◌≡◌}
use Rattle.js_values.specs.declared.built_in.BuiltIn.{BuiltIn}
use Rattle.js_values.specs.declared.built_in.BuiltIn.TheVariants as built_in
use Rattle.js_values.specs.declared.ids.ObjId.{ObjId}
use Rattle.js_values.specs.declared.throw.Throw.TheVariants.{WrongArgument}
use Rattle.js_values.specs.declared.value.Value.{Value}
use Rattle.page_meaning.specs.Act.{Calls}
use Rattle.page_meaning.specs.Rows.{list_row, list_row_on}
use Rattle.heap_relations.proofs.Callers.{larger_more}
use Rattle.heap_relations.specs.Naming.{Named, named, World}
use Rattle.heap_relations.specs.Related.{Each, ValueRel}
use Rattle.agreement.specs.Acts.{Agrees, Equal}
use Rattle.agreement.proofs.Acts.{asking_rel}
use Rattle.agreement.proofs.Elements.{length_of_same, on_list_rel}
use Rattle.agreement.proofs.Heap.{named_up, values_up}
use Rattle.agreement.proofs.ListRows.{concat_rel, index_of_rel, join_rel, last_index_of_rel, pop_rel, push_rel, reverse_rel, shift_rel, slice_rel, splice_rel, unshift_rel}
use Rattle.agreement.proofs.Values.{raise_rel}

list_row_on_rel : {V : World} {vs ws : List Value} (c d : Calls) (which : BuiltIn) (a b : ObjId) → Named V a.0 b.0 → (n : ℕ) → Each (ValueRel (named V)) vs ws
    → Agrees V (list_row_on c which vs a n) (list_row_on d which ws b n)
list_row_on_rel c d built_in.ArrayPrototypeConcat a b m n h = concat_rel a b m h
list_row_on_rel c d built_in.ArrayPrototypeJoin a b m n h = join_rel c d a b m n h
list_row_on_rel c d built_in.ArrayPrototypePop a b m n h = pop_rel a b m n
list_row_on_rel c d built_in.ArrayPrototypePush a b m n h = push_rel a b m n h
list_row_on_rel c d built_in.ArrayPrototypeReverse a b m n h = reverse_rel a b m n
list_row_on_rel c d built_in.ArrayPrototypeShift a b m n h = shift_rel a b m n
list_row_on_rel c d built_in.ArrayPrototypeSlice a b m n h = slice_rel c d a b m n h
list_row_on_rel c d built_in.ArrayPrototypeSplice a b m n h = splice_rel c d a b m n h
list_row_on_rel c d built_in.ArrayPrototypeUnshift a b m n h = unshift_rel a b m n h
list_row_on_rel c d built_in.ArrayPrototypeIndexOf a b m n h = index_of_rel c d a b m n h
list_row_on_rel c d built_in.ArrayPrototypeLastIndexOf a b m n h = last_index_of_rel c d a b m n h
list_row_on_rel c d which a b m n h = raise_rel WrongArgument

-- on arrays of equal lengths
as_long_rel : {V : World} {vs ws : List Value} (c d : Calls) (which : BuiltIn) (a b : ObjId) → Named V a.0 b.0 → (n k : ℕ) → n ≡ k → Each (ValueRel (named V)) vs ws
    → Agrees V (list_row_on c which vs a n) (list_row_on d which ws b k)
as_long_rel {V = V} {vs = vs} {ws = ws} c d which a b m n k e h = subst (λ z. Agrees V (list_row_on c which vs a n) (list_row_on d which ws b z)) e (list_row_on_rel c d which a b m n h)

pub list_row_rel : {V : World} {this that : Value} {vs ws : List Value} (c d : Calls) (which : BuiltIn) → ValueRel (named V) this that → Each (ValueRel (named V)) vs ws
    → Agrees V (list_row c which this vs) (list_row d which that ws)
list_row_rel c d which r h = on_list_rel r (λ W l a b m. asking_rel {R = Equal} (λ X j s t g. length_of_same g a b (named_up j m))
    (λ X j n k e. as_long_rel c d which a b (named_up j m) n k e (values_up (larger_more l j) h)))
