use Rattle.builtin_text.specs.Picks.{pick_of as spec_pick}
use Rattle.builtin_text.proofs.Firsts.{first_picked, no_values}
use Rattle.builtin_text.proofs.math.pick_of.Goals as goal

pub returns-in-empty : goal.returns-in-empty
returns-in-empty c = rw (← no_values c.args.values.now c.in-empty.len_below) c.raise.ensures

pub returns-in-len1-up : goal.returns-in-len1-up
returns-in-len1-up c = first_picked (spec_pick c.args.pick) c.args.values.now c.first-item.result c.args.state.now c.pick_first.new.state c.pick_first.result c.in-len1-up.len_at_least c.first-item.is c.pick_first.ensures
