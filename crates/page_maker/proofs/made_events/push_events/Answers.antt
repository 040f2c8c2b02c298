use Rattle.std.proofs.Common.{◌≡◌, ◌∙◌, ap, ℕ, suc, ◌+◌, ◌++◌, arith}
use Rattle.page_maker.specs.Generator.{state, next_state, high_bits, drawn}
use Rattle.page_maker.specs.Events.{events}
use Rattle.page_maker.proofs.EventLemmas.{one_more}
use Rattle.page_maker.proofs.made_events.push_events.Goals as goal

pub loop-made-preserved : goal.loop-made-preserved
loop-made-preserved c =
    let parts = c.args.parts in
    let made = c.loop-made._made in
    let before = c.args.out.now.items in
    let more : suc made ≡ made + 1 = omega arith in
    let next : suc (parts + made) ≡ parts + (made + 1) = omega arith in
    let draw : suc (parts + made) ≡ parts + suc made = omega arith in
    let chosen = c.draw.ensures.drawn ∙ ap (λ (s : ℕ). high_bits (next_state s)) c.loop-made.invariant.drawn ∙ ap drawn draw in
    record {
      drawn = c.draw.ensures.state ∙ ap next_state c.loop-made.invariant.drawn ∙ ap state next;
      pushed = one_more parts made c.draw.result before c.loop-made.out.items c.push_event.new.out.items c.push_bytes.new.out.items chosen c.loop-made.invariant.pushed c.in_ok-push_event.ensures c.in_ok-push_bytes.ensures
          ∙ ap (λ (n : ℕ). before ++ events parts n) more;
    }
