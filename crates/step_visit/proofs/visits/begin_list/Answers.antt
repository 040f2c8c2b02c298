use Rattle.std.proofs.Common.{Err}
use Rattle.js_values.specs.declared.throw.Throw.TheVariants.{WrongArgument}
use Rattle.page_meaning.specs.Errors.{raise}
use Rattle.page_meaning.specs.declared.visit.Visit.TheVariants as visit
use Rattle.step_parts.proofs.Callers.{gives_lower}
use Rattle.step_visit.proofs.Going.{from_start}
use Rattle.step_visit.proofs.Making.{filters, other_visits}
use Rattle.step_visit.proofs.visits.begin_list.Goals as goal

pub returns-in-ArrayPrototypeEvery : goal.returns-in-ArrayPrototypeEvery
returns-in-ArrayPrototypeEvery c =
    rw (c.in-ArrayPrototypeEvery.is, ← c.requires.callback, ← c.requires.this)
    (from_start c.args.visited visit.Every c.args.state.now c.args.state.now c.args.meter.now c.advance.new.meter c.advance.result c.advance.ensures)

pub returns-in-ArrayPrototypeSome : goal.returns-in-ArrayPrototypeSome
returns-in-ArrayPrototypeSome c =
    rw (c.in-ArrayPrototypeSome.is, ← c.requires.callback, ← c.requires.this)
    (from_start c.args.visited visit.Some c.args.state.now c.args.state.now c.args.meter.now c.advance-in-ArrayPrototypeSome.new.meter c.advance-in-ArrayPrototypeSome.result c.advance-in-ArrayPrototypeSome.ensures)

pub returns-in-ArrayPrototypeForEach : goal.returns-in-ArrayPrototypeForEach
returns-in-ArrayPrototypeForEach c =
    rw (c.in-ArrayPrototypeForEach.is, ← c.requires.callback, ← c.requires.this)
    (from_start c.args.visited visit.ForEach c.args.state.now c.args.state.now c.args.meter.now c.advance-in-ArrayPrototypeForEach.new.meter c.advance-in-ArrayPrototypeForEach.result c.advance-in-ArrayPrototypeForEach.ensures)

pub returns-in-ArrayPrototypeMap : goal.returns-in-ArrayPrototypeMap
returns-in-ArrayPrototypeMap c = rw (c.in-ArrayPrototypeMap.is, ← c.requires.callback, ← c.requires.this) c.begin_map.ensures

pub returns-in-ArrayPrototypeFilter : goal.returns-in-ArrayPrototypeFilter
returns-in-ArrayPrototypeFilter c =
    filters c.args.which c.args.visited.callback c.args.visited.this c.args.visited.list c.args.visited.length c.args.args.now c.args.state.now c.begin_filter.new.state c.args.meter.now
    c.begin_filter.new.meter c.begin_filter.result c.in-ArrayPrototypeFilter.is c.requires.callback c.requires.this c.begin_filter.ensures

pub returns-in-ArrayPrototypeReduce : goal.returns-in-ArrayPrototypeReduce
returns-in-ArrayPrototypeReduce c = rw c.in-ArrayPrototypeReduce.is c.begin_reduce.ensures

pub returns-in_default : goal.returns-in_default
returns-in_default c =
    other_visits c.args.which c.args.visited.list c.args.visited.length c.args.args.now c.args.state.now c.raise-fault.new.self c.args.meter.now c.args.meter.now c.give.result
    c.in_default.not-ArrayPrototypeEvery c.in_default.not-ArrayPrototypeSome c.in_default.not-ArrayPrototypeForEach c.in_default.not-ArrayPrototypeMap c.in_default.not-ArrayPrototypeFilter
    c.in_default.not-ArrayPrototypeReduce
    (gives_lower (λ _. raise WrongArgument) (Err c.raise-fault.result) 0 c.args.state.now c.raise-fault.new.self c.args.meter.now c.give.result c.raise-fault.ensures c.give.ensures)
