-- What built-in functions do, by families of those that act alike.
use Rattle.std.proofs.Common.{Bool, List}
use Rattle.js_values.specs.declared.built_in.BuiltIn.{BuiltIn}
use Rattle.js_values.specs.declared.value.Value.{Value}
use Rattle.page_meaning.specs.Act.{Calls}
use Rattle.page_meaning.specs.Rows.{row_family, row_in, row_of}
use Rattle.page_meaning.specs.declared.family.RowFamily.{RowFamily}
use Rattle.page_meaning.specs.declared.family.RowFamily.TheVariants as family
use Rattle.heap_relations.specs.Naming.{named, World}
use Rattle.heap_relations.specs.Related.{Each, ValueRel}
use Rattle.agreement.proofs.Dispatching.{dispatch_row_rel}
use Rattle.agreement.proofs.FunctionRows.{function_row_rel}
use Rattle.agreement.proofs.ListRow.{list_row_rel}
use Rattle.agreement.proofs.NodeRows.{node_row_rel}
use Rattle.agreement.proofs.Rows.{object_row_rel}
use Rattle.agreement.proofs.TextRows.{text_row_rel}
use Rattle.agreement.proofs.TimerRows.{timer_row_rel}
use Rattle.agreement.proofs.VisitRows.{visit_row_rel}
use Rattle.agreement.specs.Acts.{Agrees, CallsRel}

row_in_rel : {V : World} {this that : Value} {vs ws : List Value} (f : RowFamily) (c d : Calls) (construct : Bool) (which : BuiltIn) → CallsRel V c d → ValueRel (named V) this that → Each (ValueRel (named V)) vs ws
    → Agrees V (row_in f c construct which this vs) (row_in f d construct which that ws)
row_in_rel family.Object c d construct which k h r = object_row_rel c d construct which h r
row_in_rel family.Function c d construct which k h r = function_row_rel c d which k h r
row_in_rel family.List c d construct which k h r = list_row_rel c d which h r
row_in_rel family.Visit c d construct which k h r = visit_row_rel c d which k h r
row_in_rel family.Text c d construct which k h r = text_row_rel c d construct which h r
row_in_rel family.Node c d construct which k h r = node_row_rel c d which h r
row_in_rel family.Timer c d construct which k h r = timer_row_rel c d which r
row_in_rel family.Dispatch c d construct which k h r = dispatch_row_rel c d k h r

pub row_of_rel : {V : World} {this that : Value} {vs ws : List Value} (c d : Calls) (construct : Bool) (which : BuiltIn) → CallsRel V c d → ValueRel (named V) this that → Each (ValueRel (named V)) vs ws
    → Agrees V (row_of c construct which this vs) (row_of d construct which that ws)
row_of_rel c d construct which k h r = row_in_rel (row_family which) c d construct which k h r
