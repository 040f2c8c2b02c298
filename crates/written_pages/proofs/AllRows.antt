-- What built-in functions do, by families of those that act alike.
use Rattle.std.proofs.Common.{Bool, List}
use Rattle.js_values.specs.declared.built_in.BuiltIn.{BuiltIn}
use Rattle.js_values.specs.declared.value.Value.{Value}
use Rattle.page_meaning.specs.Act.{Calls}
use Rattle.page_meaning.specs.Rows.{row_family, row_in, row_of}
use Rattle.page_meaning.specs.declared.family.RowFamily.{RowFamily}
use Rattle.page_meaning.specs.declared.family.RowFamily.TheVariants as family
use Rattle.literal_values.specs.Values.{AreBounded, IsBounded}
use Rattle.written_pages.proofs.Dispatching.{dispatch_row_is}
use Rattle.written_pages.proofs.FunctionRows.{function_row_is}
use Rattle.written_pages.proofs.ListRow.{list_row_is}
use Rattle.written_pages.proofs.NodeRows.{node_row_is}
use Rattle.written_pages.proofs.Rows.{object_row_is}
use Rattle.written_pages.proofs.TextRows.{text_row_is}
use Rattle.written_pages.proofs.TimerRows.{timer_row_is}
use Rattle.written_pages.proofs.VisitRows.{visit_row_is}
use Rattle.written_pages.specs.Acts.{CallsAre, Writes}

row_in_is : {calls : Calls} → CallsAre calls → (f : RowFamily) (construct : Bool) (which : BuiltIn) (this : Value) (vs : List Value) → IsBounded this → AreBounded vs
    → Writes (row_in f calls construct which this vs)
row_in_is c family.Object construct which this vs h k = object_row_is c construct which this vs h k
row_in_is c family.Function construct which this vs h k = function_row_is c which this vs h k
row_in_is c family.List construct which this vs h k = list_row_is c which this vs k
row_in_is c family.Visit construct which this vs h k = visit_row_is c which this vs k
row_in_is c family.Text construct which this vs h k = text_row_is c construct which this vs h k
row_in_is c family.Node construct which this vs h k = node_row_is c which this vs h k
row_in_is c family.Timer construct which this vs h k = timer_row_is c which vs k
row_in_is c family.Dispatch construct which this vs h k = dispatch_row_is c this vs h k

pub row_of_is : {calls : Calls} → CallsAre calls → (construct : Bool) (which : BuiltIn) (this : Value) (vs : List Value) → IsBounded this → AreBounded vs
    → Writes (row_of calls construct which this vs)
row_of_is c construct which this vs h k = row_in_is c (row_family which) construct which this vs h k
