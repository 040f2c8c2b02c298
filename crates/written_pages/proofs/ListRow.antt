-- The family of rows on arrays that calls nothing back (section 15.4.4).
use Rattle.std.proofs.Common.{ℕ, ◌≤◌, List}
use Rattle.js_core.specs.Whole.{largest}
use Rattle.js_values.specs.declared.built_in.BuiltIn.{BuiltIn}
use Rattle.js_values.specs.declared.built_in.BuiltIn.TheVariants as built_in
use Rattle.js_values.specs.declared.ids.ObjId.{ObjId}
use Rattle.js_values.specs.declared.throw.Throw.TheVariants.{WrongArgument}
use Rattle.js_values.specs.declared.value.Value.{Value}
use Rattle.page_meaning.specs.Act.{Calls}
use Rattle.page_meaning.specs.Rows.{list_row, list_row_on}
use Rattle.literal_values.specs.Values.{AreBounded}
use Rattle.written_pages.proofs.Elements.{IsShort, length_short}
use Rattle.written_pages.proofs.ListRows.{concat_is, index_of_is, join_is, last_index_of_is, pop_is, push_is, reverse_is, shift_is, slice_is, splice_is, unshift_is}
use Rattle.written_pages.proofs.OnLists.{ListActIs, always, list_asking, on_array_is}
use Rattle.written_pages.proofs.Primitives.{raise_is}
use Rattle.written_pages.specs.Acts.{CallsAre, SignalIs, Writes}

list_row_on_is : {calls : Calls} → CallsAre calls → (which : BuiltIn) (vs : List Value) (at : ObjId) (n : ℕ) → n ≤ largest → AreBounded vs
    → ListActIs at SignalIs (list_row_on calls which vs at n)
list_row_on_is c built_in.ArrayPrototypeConcat vs at n short h = always (concat_is at vs h)
list_row_on_is c built_in.ArrayPrototypeJoin vs at n short h = always (join_is c at n vs h)
list_row_on_is c built_in.ArrayPrototypePop vs at n short h = always (pop_is at n short)
list_row_on_is c built_in.ArrayPrototypePush vs at n short h = push_is at n vs h
list_row_on_is c built_in.ArrayPrototypeReverse vs at n short h = always (reverse_is at n)
list_row_on_is c built_in.ArrayPrototypeShift vs at n short h = always (shift_is at n short)
list_row_on_is c built_in.ArrayPrototypeSlice vs at n short h = always (slice_is c at n vs short h)
list_row_on_is c built_in.ArrayPrototypeSplice vs at n short h = splice_is c at n vs h
list_row_on_is c built_in.ArrayPrototypeUnshift vs at n short h = unshift_is at n vs h
list_row_on_is c built_in.ArrayPrototypeIndexOf vs at n short h = always (index_of_is c at n vs short h)
list_row_on_is c built_in.ArrayPrototypeLastIndexOf vs at n short h = always (last_index_of_is c at n vs short h)
list_row_on_is c which vs at n short h = always (raise_is WrongArgument tt)

pub list_row_is : {calls : Calls} → CallsAre calls → (which : BuiltIn) (this : Value) (vs : List Value) → AreBounded vs → Writes (list_row calls which this vs)
list_row_is c which this vs h = on_array_is this (λ at. list_asking IsShort (λ s l. length_short at s l) (λ n short. list_row_on_is c which vs at n short h))
