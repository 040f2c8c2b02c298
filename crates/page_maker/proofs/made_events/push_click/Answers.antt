use Rattle.std.proofs.Common.{◌++◌}
use Rattle.std.specs.Fmt.{decimal}
use Rattle.std.specs.Prelude.{codes}
use Rattle.page_maker.proofs.Appending.{piece_and_more}
use Rattle.page_maker.proofs.made_events.push_click.Goals as goal

pub returns : goal.returns
returns c =
    let done = c.push_bytes-2.result in
    let first = c.push_bytes.new.out.items in
    let second = c.push_number.new.out.items in
    let third = c.push_bytes-2.new.out.items in
    let digits = decimal c.args.part in
    let close = codes "\"}" in
    piece_and_more done c.args.out.now.items first third (codes "{\"fire\":\"click\",\"at\":\"p") (digits ++ close) c.in_ok-push_bytes.ensures
    (piece_and_more done first second third digits close c.in_ok-push_number.ensures c.push_bytes-2.ensures)
