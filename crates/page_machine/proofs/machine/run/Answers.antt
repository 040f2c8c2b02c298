use Rattle.std.proofs.Common.{reverse}
use Rattle.page_meaning.specs.Calls.{calls_at}
use Rattle.page_frames.specs.Rest.{mean_of}
use Rattle.page_machine.proofs.Turning.{begun, go_fits, go_turned, pop_fits, pop_turned}
use Rattle.page_machine.proofs.machine.run.Goals as goal

pub loop-next-init : goal.loop-next-init
loop-next-init c = begun c.args.what c.new-stack.result.items c.args.state.now c.args.meter.now c.new-stack.ensures.items c.has_room.ensures

pub go-requires : goal.go-requires
go-requires c =
    pop_fits c.loop-next.stack.items c.pop.new.self.items c.loop-next.next c.in-Some.frame c.in-Give.end c.loop-next.state c.loop-next.meter ((mean_of (calls_at c.args.meter.now.depth) c.args.what).run c.args.state.now c.args.meter.now.steps)
    c.in-Give.is c.in-Some.ensures.items c.loop-next.invariant

pub go-requires-in-Go : goal.go-requires-in-Go
go-requires-in-Go c =
    go_fits (reverse c.loop-next.stack.items) c.loop-next.next c.in-Go.frame c.in-Go.end c.loop-next.state c.loop-next.meter ((mean_of (calls_at c.args.meter.now.depth) c.args.what).run c.args.state.now c.args.meter.now.steps)
    c.in-Go.is c.loop-next.invariant

pub loop-next-smaller-in_ok-next-in-Some : goal.loop-next-smaller-in_ok-next-in-Some
loop-next-smaller-in_ok-next-in-Some c =
    (pop_turned c.loop-next.stack.items c.pop.new.self.items c.loop-next.next c.in-Some.frame c.in-Give.end c.in_ok-next-in-Some.next c.loop-next.state c.go.new.state c.loop-next.meter c.go.new.meter
    ((mean_of (calls_at c.args.meter.now.depth) c.args.what).run c.args.state.now c.args.meter.now.steps) c.in-Give.is c.in-Some.ensures.items c.loop-next.invariant c.in_ok-next-in-Some.ensures).falls

pub loop-next-preserved-in_ok-next-in-Some : goal.loop-next-preserved-in_ok-next-in-Some
loop-next-preserved-in_ok-next-in-Some c =
    (pop_turned c.loop-next.stack.items c.pop.new.self.items c.loop-next.next c.in-Some.frame c.in-Give.end c.in_ok-next-in-Some.next c.loop-next.state c.go.new.state c.loop-next.meter c.go.new.meter
    ((mean_of (calls_at c.args.meter.now.depth) c.args.what).run c.args.state.now c.args.meter.now.steps) c.in-Give.is c.in-Some.ensures.items c.loop-next.invariant c.in_ok-next-in-Some.ensures).keeps

pub loop-next-smaller-in_ok-next-in-Go : goal.loop-next-smaller-in_ok-next-in-Go
loop-next-smaller-in_ok-next-in-Go c =
    (go_turned (reverse c.loop-next.stack.items) c.loop-next.next c.in-Go.frame c.in-Go.end c.in_ok-next-in-Go.next c.loop-next.state c.go-in-Go.new.state c.loop-next.meter c.go-in-Go.new.meter
    ((mean_of (calls_at c.args.meter.now.depth) c.args.what).run c.args.state.now c.args.meter.now.steps) c.in-Go.is c.loop-next.invariant c.in_ok-next-in-Go.ensures).falls

pub loop-next-preserved-in_ok-next-in-Go : goal.loop-next-preserved-in_ok-next-in-Go
loop-next-preserved-in_ok-next-in-Go c =
    (go_turned (reverse c.loop-next.stack.items) c.loop-next.next c.in-Go.frame c.in-Go.end c.in_ok-next-in-Go.next c.loop-next.state c.go-in-Go.new.state c.loop-next.meter c.go-in-Go.new.meter
    ((mean_of (calls_at c.args.meter.now.depth) c.args.what).run c.args.state.now c.args.meter.now.steps) c.in-Go.is c.loop-next.invariant c.in_ok-next-in-Go.ensures).keeps
