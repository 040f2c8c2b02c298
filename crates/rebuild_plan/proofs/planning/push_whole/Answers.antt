use Rattle.page_meaning.specs.Places.{built_in_count, document}
use Rattle.rebuild_plan.specs.Compact.{thing_at, things_at}
use Rattle.rebuild_plan.specs.Plan.{each, statements_of}
use Rattle.rebuild_plan.proofs.Numbered.{then}
use Rattle.rebuild_plan.proofs.planning.push_whole.Goals as goal

pub returns : goal.returns
unfolding built_in_count
returns c =
    let s = c.args.state.now in
    let things = c.args.walked.now.things.keys in
    then c.args.plan.now.items c.push_statements.new.plan.items c.push_each.new.plan.items (statements_of c.args.phase document (thing_at s things document.0)) (each c.args.phase 0 (things_at s things things))
    c.in_ok-push_statements.ensures c.in_ok-push_each.ensures
