use Rattle.whole_ops.proofs.Trims.{take_reversed}
use Rattle.whole_ops.proofs.white_space.without_last_white_space.Goals as goal

pub returns : goal.returns
returns c =
    let units = c.args.units.now in
    let within = c.last_white_space_len.ensures.within in
    rw (take_reversed units c.last_white_space_len.result within, c.last_white_space_len.ensures.read)
