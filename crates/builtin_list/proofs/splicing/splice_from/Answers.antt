use Rattle.builtin_list.proofs.splicing.splice_from.Goals as goal

pub returns : goal.returns
returns c =
    rw (c.count_in-less.ensures.count, c.arguments_from-values.ensures, c.place_in-place.ensures.place) at c.splice_at.ensures
