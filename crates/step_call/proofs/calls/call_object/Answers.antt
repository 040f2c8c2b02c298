use Rattle.std.proofs.Common.{sym, ◌∙◌}
use Rattle.object_heap.specs.declared.object.Class.TheVariants.{Page, Native, Bound}
use Rattle.page_meaning.specs.Properties.{class_at}
use Rattle.step_call.proofs.Descending.{call_refused, called_as}
use Rattle.step_call.proofs.calls.call_object.Goals as goal

pub returns-in_ok-code-in-Page : goal.returns-in_ok-code-in-Page
returns-in_ok-code-in-Page c =
    called_as c.args.this c.args.args (class_at c.args.state.now c.args.at) (Page c.in-Page.code c.in-Page.env) c.args.state.now c.call_page.new.state c.args.meter.now
    c.call_page.new.meter c.call_page.result (sym c.class.ensures ∙ c.in-Page.is) (rw c.in_ok-code-in-Page.ensures at c.call_page.ensures)

pub returns-in-Native : goal.returns-in-Native
returns-in-Native c =
    called_as c.args.this c.args.args (class_at c.args.state.now c.args.at) (Native c.in-Native.which) c.args.state.now c.run_native.new.state c.args.meter.now c.run_native.new.meter
    c.run_native.result (sym c.class.ensures ∙ c.in-Native.is) c.run_native.ensures

pub returns-in_ok-before-in-Bound : goal.returns-in_ok-before-in-Bound
returns-in_ok-before-in-Bound c =
    called_as c.args.this c.args.args (class_at c.args.state.now c.args.at) (Bound c.in-Bound.target c.in-Bound.own c.in-Bound.before) c.args.state.now c.args.state.now
    c.args.meter.now c.run_bound.new.meter c.run_bound.result (sym c.class.ensures ∙ c.in-Bound.is)
    (rw (c.in_ok-own-in-Bound.ensures, c.in_ok-before-in-Bound.ensures) at (c.run_bound.ensures c.args.state.now))

pub returns-in_default : goal.returns-in_default
returns-in_default c =
    called_as c.args.this c.args.args (class_at c.args.state.now c.args.at) c.class.result.now c.args.state.now c.raise-fault.new.self c.args.meter.now c.args.meter.now
    c.give.result (sym c.class.ensures)
    (call_refused c.args.this c.args.args c.class.result.now c.args.state.now c.raise-fault.new.self c.args.meter.now c.raise-fault.result c.give.result
    (c.in_default.not-Page, (c.in_default.not-Native, c.in_default.not-Bound)) c.raise-fault.ensures c.give.ensures)
