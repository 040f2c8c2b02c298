use Rattle.std.proofs.Common.{◌∙◌, ◌++◌, Some}
use Rattle.page_meaning.specs.Loops.{listed_up}
use Rattle.page_state.proofs.Visits.{above_falls, walk_begins, walk_ends, walk_on}
use Rattle.page_state.proofs.state.State.push_up.Goals as goal

pub loop-next-init : goal.loop-next-init
loop-next-init c before seen = walk_begins c.args.self.now c.args.from c.args.seen.keys before c.args.names.now.items seen

pub loop-next-preserved : goal.loop-next-preserved
loop-next-preserved c before seen =
    walk_on c.args.self.now (c.args.names.now.items ++ listed_up c.args.self.now before (Some c.args.from)) c.loop-next.seen.keys c.add_seen.new.seen.keys c.as_slice-in-Some.result.now
    c.loop-next.names.items c.push_own.new.names.items c.loop-next.next c.in-Some.at c.older_proto-next.result (c.loop-next.invariant before seen) c.in-Some.is
    (c.as_slice-in-Some.ensures.value ∙ c.in_ok-keys.ensures) c.in_ok-push_own.ensures c.in_ok-add_seen.ensures c.older_proto-next.ensures.proto c.older_proto-next.ensures.older

pub loop-next-smaller : goal.loop-next-smaller
loop-next-smaller c = above_falls c.in-Some.at c.loop-next.next c.older_proto-next.result c.in-Some.is c.older_proto-next.ensures.older

pub returns : goal.returns
returns c before seen =
    walk_ends c.args.self.now (c.args.names.now.items ++ listed_up c.args.self.now before (Some c.args.from)) c.loop-next.seen.keys c.loop-next.names.items c.loop-next.next
    (c.loop-next.invariant before seen) c.in_default.is
