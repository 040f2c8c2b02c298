use Rattle.std.proofs.Common.{arith}
use Rattle.page_reader.proofs.Passing.{at_bytes, at_rest, bytes_short, rest_short}
use Rattle.page_reader.proofs.places.at_place.Goals as goal

pub advanced-more-requires : goal.advanced-more-requires
advanced-more-requires c = record { short = rest_short _ _ _ _ c.requires.rest c.requires.short }

pub overflow_add-result : goal.overflow_add-result
overflow_add-result c =
    let sum = at_bytes _ _ _ _ _ _ c.requires.rest c.requires.bytes c.if-place-passed.false c.advanced-more.ensures.bytes in
    let short = bytes_short _ _ _ _ sum c.requires.short in
    omega (arith, short)

pub returns-clause-rest : goal.returns-clause-rest
returns-clause-rest c = at_rest _ _ _ _ _ c.requires.rest c.if-place-passed.false c.advanced-more.ensures.rest

pub returns-clause-bytes : goal.returns-clause-bytes
returns-clause-bytes c = at_bytes _ _ _ _ _ _ c.requires.rest c.requires.bytes c.if-place-passed.false c.advanced-more.ensures.bytes
