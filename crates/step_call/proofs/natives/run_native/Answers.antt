use Rattle.page_meaning.specs.declared.family.RowFamily.TheVariants as family
use Rattle.page_meaning.specs.NodeRows.{node_row}
use Rattle.page_meaning.specs.Rows.{function_row, list_row, object_row}
use Rattle.page_meaning.specs.TextRows.{text_row}
use Rattle.page_meaning.specs.TimerRows.{timer_row}
use Rattle.page_meaning.specs.VisitRows.{visit_row}
use Rattle.step_call.proofs.Descending.{at_once}
use Rattle.step_call.proofs.Running.{family_runs, pays_itself}
use Rattle.step_call.proofs.natives.run_native.Goals as goal

pub returns-in-Object : goal.returns-in-Object
returns-in-Object c =
    family_runs c.args.construct c.args.which c.args.this.now c.args.args.now family.Object c.family_of.result c.args.state.now c.row.new.state c.args.meter.now c.args.meter.now c.give.result
    c.family_of.ensures c.in-Object.is
    (at_once (λ calls. object_row calls c.args.construct c.args.which c.args.this.now c.args.args.now) c.row.result c.args.state.now c.row.new.state c.args.meter.now c.give.result
    (rw c.as_slice-values.ensures at c.row.ensures) c.give.ensures)

pub returns-in-Text : goal.returns-in-Text
returns-in-Text c =
    family_runs c.args.construct c.args.which c.args.this.now c.args.args.now family.Text c.family_of.result c.args.state.now c.row-in-Text.new.state c.args.meter.now c.args.meter.now c.give-in-Text.result
    c.family_of.ensures c.in-Text.is
    (at_once (λ calls. text_row calls c.args.construct c.args.which c.args.this.now c.args.args.now) c.row-in-Text.result c.args.state.now c.row-in-Text.new.state c.args.meter.now c.give-in-Text.result
    (rw c.as_slice-values.ensures at c.row-in-Text.ensures) c.give-in-Text.ensures)

pub returns-in-Function : goal.returns-in-Function
returns-in-Function c =
    family_runs c.args.construct c.args.which c.args.this.now c.args.args.now family.Function c.family_of.result c.args.state.now c.run_function.new.state c.args.meter.now c.run_function.new.meter
    c.run_function.result c.family_of.ensures c.in-Function.is (rw c.as_slice-values.ensures at c.run_function.ensures)

pub returns-in-List : goal.returns-in-List
returns-in-List c =
    family_runs c.args.construct c.args.which c.args.this.now c.args.args.now family.List c.family_of.result c.args.state.now c.run_list.new.state c.args.meter.now c.run_list.new.meter
    c.run_list.result c.family_of.ensures c.in-List.is (rw c.as_slice-values.ensures at c.run_list.ensures)

pub returns-in-Visit : goal.returns-in-Visit
returns-in-Visit c =
    family_runs c.args.construct c.args.which c.args.this.now c.args.args.now family.Visit c.family_of.result c.args.state.now c.begin_visit.new.state c.args.meter.now c.begin_visit.new.meter
    c.begin_visit.result c.family_of.ensures c.in-Visit.is
    (pays_itself (λ calls. visit_row calls c.args.which c.args.this.now c.args.args.now) c.args.state.now c.begin_visit.new.state c.args.meter.now c.begin_visit.new.meter c.begin_visit.result
    (rw c.as_slice-values.ensures at c.begin_visit.ensures))

pub returns-in-Node : goal.returns-in-Node
returns-in-Node c =
    family_runs c.args.construct c.args.which c.args.this.now c.args.args.now family.Node c.family_of.result c.args.state.now c.row-in-Node.new.state c.args.meter.now c.args.meter.now c.give-in-Node.result
    c.family_of.ensures c.in-Node.is
    (at_once (λ calls. node_row calls c.args.which c.args.this.now c.args.args.now) c.row-in-Node.result c.args.state.now c.row-in-Node.new.state c.args.meter.now c.give-in-Node.result
    (rw c.as_slice-values.ensures at c.row-in-Node.ensures) c.give-in-Node.ensures)

pub returns-in-Timer : goal.returns-in-Timer
returns-in-Timer c =
    family_runs c.args.construct c.args.which c.args.this.now c.args.args.now family.Timer c.family_of.result c.args.state.now c.row-in-Timer.new.state c.args.meter.now c.args.meter.now c.give-in-Timer.result
    c.family_of.ensures c.in-Timer.is
    (at_once (λ calls. timer_row calls c.args.which c.args.args.now) c.row-in-Timer.result c.args.state.now c.row-in-Timer.new.state c.args.meter.now c.give-in-Timer.result
    (rw c.as_slice-values.ensures at c.row-in-Timer.ensures) c.give-in-Timer.ensures)

pub returns-in-Dispatch : goal.returns-in-Dispatch
returns-in-Dispatch c =
    family_runs c.args.construct c.args.which c.args.this.now c.args.args.now family.Dispatch c.family_of.result c.args.state.now c.begin_row.new.state c.args.meter.now c.begin_row.new.meter
    c.begin_row.result c.family_of.ensures c.in-Dispatch.is (rw c.as_slice-values.ensures at c.begin_row.ensures)
