use Rattle.std.proofs.Common.{◌+◌, ◌<◌, ◌∷◌, ◌++◌, [], ap, arith, length, sym, subst, ◌∙◌, slice_set, true}
use Rattle.timer_queue.proofs.Range.{can_start}
use Rattle.timer_queue.specs.Sound.{IsSound}
use Rattle.timer_queue.specs.Timers.{least_free, started, timer_limit}
use Rattle.timer_queue.proofs.queue.Queue.start.Goals as goal

pub overflow_cast-id : goal.overflow_cast-id
overflow_cast-id c =
    let can = can_start c.self.inside.timers.items c.args.now c.args.delay c.args.period c.args.call (subst (λ l. length l < timer_limit) (sym c.self.view_is) c.requires.few) c.requires.now c.requires.delay c.requires.period c.requires.long c.self.inside.marks.items c.free_place.new.marks.items c.self.inside.full c.in_ok-place.place c.self.invariant c.free_place.ensures.same c.free_place.ensures.longer c.in_ok-place.ensures.free in
    let small = can.small in
    omega (arith, small)

pub overflow_add-id : goal.overflow_add-id
overflow_add-id c =
    let can = can_start c.self.inside.timers.items c.args.now c.args.delay c.args.period c.args.call (subst (λ l. length l < timer_limit) (sym c.self.view_is) c.requires.few) c.requires.now c.requires.delay c.requires.period c.requires.long c.self.inside.marks.items c.free_place.new.marks.items c.self.inside.full c.in_ok-place.place c.self.invariant c.free_place.ensures.same c.free_place.ensures.longer c.in_ok-place.ensures.free in
    let small = can.small in
    omega (arith, small)

pub invariant_of-self-2 : goal.invariant_of-self-2
invariant_of-self-2 c =
    let can = can_start c.self.inside.timers.items c.args.now c.args.delay c.args.period c.args.call (subst (λ l. length l < timer_limit) (sym c.self.view_is) c.requires.few) c.requires.now c.requires.delay c.requires.period c.requires.long c.self.inside.marks.items c.free_place.new.marks.items c.self.inside.full c.in_ok-place.place c.self.invariant c.free_place.ensures.same c.free_place.ensures.longer c.in_ok-place.ensures.free in
    let after = c.in_ok-push.ensures.items ∙ ap (λ i. c.self.inside.timers.items ++ record { id = i; due = c.args.now + c.args.delay; period = c.args.period; call = c.args.call } ∷ []) can.id in
    subst (λ l. IsSound l (slice_set c.free_place.new.marks.items c.in_ok-place.place true) (c.in_ok-place.place + 1)) (sym after) can.sound

pub returns-clause-id : goal.returns-clause-id
returns-clause-id c =
    let can = can_start c.self.inside.timers.items c.args.now c.args.delay c.args.period c.args.call (subst (λ l. length l < timer_limit) (sym c.self.view_is) c.requires.few) c.requires.now c.requires.delay c.requires.period c.requires.long c.self.inside.marks.items c.free_place.new.marks.items c.self.inside.full c.in_ok-place.place c.self.invariant c.free_place.ensures.same c.free_place.ensures.longer c.in_ok-place.ensures.free in
    can.id ∙ ap least_free c.self.view_is

pub returns-clause-started : goal.returns-clause-started
returns-clause-started c =
    let can = can_start c.self.inside.timers.items c.args.now c.args.delay c.args.period c.args.call (subst (λ l. length l < timer_limit) (sym c.self.view_is) c.requires.few) c.requires.now c.requires.delay c.requires.period c.requires.long c.self.inside.marks.items c.free_place.new.marks.items c.self.inside.full c.in_ok-place.place c.self.invariant c.free_place.ensures.same c.free_place.ensures.longer c.in_ok-place.ensures.free in
    c.in_ok-push.ensures.items ∙ ap (λ i. c.self.inside.timers.items ++ record { id = i; due = c.args.now + c.args.delay; period = c.args.period; call = c.args.call } ∷ []) can.id ∙ ap (λ l. started l c.args.now c.args.delay c.args.period c.args.call) c.self.view_is
