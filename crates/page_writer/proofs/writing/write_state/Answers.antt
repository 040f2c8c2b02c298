use Rattle.std.proofs.Common.{subst, Result, Ok, Err, OnOk}
use Rattle.heap_walker.proofs.Callers.{walks_are_same}
use Rattle.heap_walker.specs.Weight.{load_of, told}
use Rattle.rebuild_plan.specs.Compact.{compact}
use Rattle.rebuild_plan.specs.Plan.{plan}
use Rattle.page_writer.proofs.Pieces.{counts_no_memory, judged_no_memory}
use Rattle.page_writer.specs.Literals.{CanBeWritten, HaveLiterals}
use Rattle.page_writer.specs.Page.{saved_page}
use Rattle.page_writer.specs.Sizes.{Judged}
use Rattle.page_writer.proofs.writing.write_state.Goals as goal

pub returns-in_err-walked-clause-saved : goal.returns-in_err-walked-clause-saved
returns-in_err-walked-clause-saved g c things walk = judged_no_memory _ (g.O.Sink.seen c.args.out.now) _ c.from_residual.result c.from_residual.ensures

pub returns-clause-saved : goal.returns-clause-saved
returns-clause-saved g c things walk =
    let seen = g.O.Sink.seen in
    let s = c.args.state.now in
    subst (λ ks. Judged (told (load_of s ks)) (seen c.args.out.now) (seen c.write_walked.new.out) (saved_page s ks) c.write_walked.result)
    (walks_are_same s c.in_ok-walked.walked.things.keys things c.in_ok-walked.ensures walk) c.write_walked.ensures.judged

on_ok : {X E P Q : Type 0} (r : Result X E) → (P → Q) → OnOk r P → OnOk r Q
on_ok (Ok x) f h = f h
on_ok (Err e) f h = tt

pub returns-clause-written : goal.returns-clause-written
returns-clause-written g c =
    let s = c.args.state.now in
    let ks = c.in_ok-walked.walked.things.keys in
    let others : HaveLiterals (plan (compact s ks)) → CanBeWritten s =
    λ h things walk. subst (λ js. HaveLiterals (plan (compact s js))) (walks_are_same s ks things c.in_ok-walked.ensures walk) h
    in
    on_ok c.write_walked.result others c.write_walked.ensures.written

pub returns-in_err-walked-clause-counts : goal.returns-in_err-walked-clause-counts
returns-in_err-walked-clause-counts g c = counts_no_memory (g.O.Sink.seen c.args.out.now).faults c.from_residual.result c.from_residual.ensures

pub returns-clause-counts : goal.returns-clause-counts
returns-clause-counts g c = c.write_walked.ensures.counts
