use Rattle.std.proofs.Common.{◌∙◌, ◌<◌, ◌≤◌, sym, subst, ap, length, refl}
use Rattle.std.proofs.lemmas.Option.{slice_get_past}
use Rattle.heap_walker.specs.Things.{globals_of}
use Rattle.heap_walker.specs.Weight.{Adds, document_load, load, load_of, props_load, things_load, timers_load, together, told}
use Rattle.heap_walker.proofs.Places.{past_places}
use Rattle.heap_walker.proofs.Weights.{adds_both, adds_next, adds_none, none_together}
use Rattle.heap_walker.proofs.weight.weight_of.Goals as goal

pub loop-place-init : goal.loop-place-init
loop-place-init c w h =
    let s = c.args.state.now in
    let things = things_load s c.args.walked.now.things.keys in
    let timers = timers_load s.host.timers in
    adds_both (record { things = 0; text = 0 }) c.add_globals.new.weight w (props_load (globals_of s)) (together (document_load s) (together timers things)) c.in_ok-add_globals.ensures
    (adds_both c.add_globals.new.weight c.add_document.new.weight w (document_load s) (together timers things) c.in_ok-add_document.ensures
    (adds_both c.add_document.new.weight c.add_timers.new.weight w timers things c.add_timers.ensures h))

pub loop-place-preserved : goal.loop-place-preserved
loop-place-preserved c w h =
    let keys = c.as_slice-place-items.ensures.keys in
    let inside = subst (λ l. c.loop-place.place-index < length l) keys c.loop-place-test.true in
    c.loop-place.invariant w
    (adds_next c.args.state.now c.args.walked.now.things.keys c.as_slice-place-items.result.now c.loop-place.place-index _ c.loop-place.weight c.add_thing.new.weight w keys inside c.in_ok-add_thing.ensures h)

pub returns : goal.returns
returns c =
    let s = c.args.state.now in
    let ks = c.args.walked.now.things.keys in
    let past = subst (λ l. length l ≤ c.loop-place.place-index) c.as_slice-place-items.ensures.keys c.loop-place-test.false in
    c.loop-place.invariant c.loop-place.weight
    (subst (λ r. Adds c.loop-place.weight c.loop-place.weight (things_load s r)) (sym (past_places ks c.loop-place.place-index (slice_get_past ks c.loop-place.place-index past))) (adds_none c.loop-place.weight)) (load 0 0) refl
    ∙ ap told (none_together (load_of s ks))
