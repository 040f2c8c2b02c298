use Rattle.js_values.specs.declared.value.Value.TheVariants.{Num}
use Rattle.page_meaning.specs.Act.{also}
use Rattle.page_meaning.specs.Convert.{to_number, number_in}
use Rattle.page_meaning.specs.ListRows as spec
use Rattle.page_meaning.specs.ObjectRows.{argument}
use Rattle.page_state.specs.Does.{itself}
use Rattle.builtin_list.proofs.Passed.{did_on, failed_at}
use Rattle.builtin_list.proofs.splicing.splice_with.Goals as goal

pub returns-in_err-start : goal.returns-in_err-start
returns-in_err-start c =
    failed_at (λ calls. to_number calls (argument c.args.args.now 0))
    (λ calls start. also (to_number calls (argument c.args.args.now 1))
    (λ count. spec.splice_from c.args.list c.args.length c.args.made c.args.args.now (spec.place_in c.args.length (number_in start)) (number_in count))) itself c.args.state.now
    c.to_number.new.self c.args.steps.now c.in_err-start.field-0.0 c.from_residual-in_err-start.result (rw (c.in_ok-first.ensures) at c.in_err-start.ensures)
    c.from_residual-in_err-start.ensures

pub returns-in_err-count : goal.returns-in_err-count
returns-in_err-count c =
    did_on (λ calls. to_number calls (argument c.args.args.now 0))
    (λ calls start. also (to_number calls (argument c.args.args.now 1))
    (λ count. spec.splice_from c.args.list c.args.length c.args.made c.args.args.now (spec.place_in c.args.length (number_in start)) (number_in count))) itself (Num c.in_ok-start.start)
    c.args.state.now c.to_number.new.self c.to_number-2.new.self c.args.steps.now c.args.steps.now c.from_residual-in_err-count.result (rw (c.in_ok-first.ensures) at c.in_ok-start.ensures)
    (failed_at (λ calls. to_number calls (argument c.args.args.now 1))
    (λ _ count. spec.splice_from c.args.list c.args.length c.args.made c.args.args.now (spec.place_in c.args.length c.in_ok-start.start) (number_in count)) itself c.to_number.new.self
    c.to_number-2.new.self c.args.steps.now c.in_err-count.field-0.0 c.from_residual-in_err-count.result (rw (c.in_ok-second.ensures) at c.in_err-count.ensures)
    c.from_residual-in_err-count.ensures)

pub returns : goal.returns
returns c =
    did_on (λ calls. to_number calls (argument c.args.args.now 0))
    (λ calls start. also (to_number calls (argument c.args.args.now 1))
    (λ count. spec.splice_from c.args.list c.args.length c.args.made c.args.args.now (spec.place_in c.args.length (number_in start)) (number_in count))) itself (Num c.in_ok-start.start)
    c.args.state.now c.to_number.new.self c.splice_from.new.state c.args.steps.now c.splice_from.new.steps c.splice_from.result (rw (c.in_ok-first.ensures) at c.in_ok-start.ensures)
    (did_on (λ calls. to_number calls (argument c.args.args.now 1))
    (λ _ count. spec.splice_from c.args.list c.args.length c.args.made c.args.args.now (spec.place_in c.args.length c.in_ok-start.start) (number_in count)) itself (Num c.in_ok-count.count)
    c.to_number.new.self c.to_number-2.new.self c.splice_from.new.state c.args.steps.now c.splice_from.new.steps c.splice_from.result (rw (c.in_ok-second.ensures) at c.in_ok-count.ensures)
    c.splice_from.ensures)
