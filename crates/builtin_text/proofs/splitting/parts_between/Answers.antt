use Rattle.std.proofs.Common.{sym, ap, take, length, ◌∙◌, ◌∷◌, ◌-◌, []}
use Rattle.page_meaning.specs.StringRows as text
use Rattle.builtin_text.proofs.Cuts.{all_cut, enough, no_cut, one_cut}
use Rattle.builtin_text.proofs.splitting.parts_between.Goals.{else-loop-turn-test, then-loop-turn-test+then-as_slice-limit, then-loop-turn-test+else-as_slice-limit+in-None}
use Rattle.builtin_text.proofs.splitting.parts_between.Goals as goal

pub loop-turn-preserved : goal.loop-turn-preserved
loop-turn-preserved c =
    let cut = rw c.in_ok-of-in-Some.ensures at c.in_ok-push-in-Some.ensures.items in
    let all = take c.args.limit (text.parts_between (length c.args.units.now) c.args.separator.now c.args.units.now) in
    rw c.behind-rest.ensures (one_cut c.loop-turn.parts.items c.push.new.self.items c.args.separator.now c.loop-turn.rest.now (length c.args.units.now) c.loop-turn._turn c.args.limit c.in-Some.place all c.loop-turn-test.true c.in-Some.ensures.value cut c.loop-turn.invariant)

pub returns : goal.returns
returns c =
    let parts = c.loop-turn.parts.items in
    let rest = c.loop-turn.rest.now in
    let sep = c.args.separator.now in
    let n = length c.args.units.now in
    let k = c.loop-turn._turn in
    let limit = c.args.limit in
    let all = take limit (text.parts_between n sep c.args.units.now) in
    let last = rw c.in_ok-of.ensures at c.in_ok-push.ensures.items in
    c.truncate.ensures.items ∙ ap (take limit) last ∙ elim c.loop-turn-test.branch [
      | else-loop-turn-test w ↦ all_cut parts sep rest n k limit all w.loop-turn-test.false c.loop-turn.invariant
      | then-loop-turn-test+then-as_slice-limit w ↦ enough parts (text.parts_between (n - k) sep rest) (rest ∷ []) limit all (rw w.as_slice.ensures.value at w.if-as_slice-limit.true) c.loop-turn.invariant
      | then-loop-turn-test+else-as_slice-limit+in-None w ↦ no_cut parts sep rest n k limit all w.loop-turn-test.true (sym w.in-None.is ∙ w.first_place.ensures.value) c.loop-turn.invariant
    ]
