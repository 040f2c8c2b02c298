use Rattle.std.proofs.Common.{◌++◌}
use Rattle.page_maker.specs.Page.{opening, part_function, total_function}
use Rattle.page_maker.proofs.Appending.{piece_and_more}
use Rattle.page_maker.proofs.made_page.push_head.Goals as goal

pub returns : goal.returns
returns c =
    let done = c.push_bytes-3.result in
    let first = c.push_bytes.new.out.items in
    let second = c.push_bytes-2.new.out.items in
    let third = c.push_bytes-3.new.out.items in
    piece_and_more done c.args.out.now.items first third opening (part_function ++ total_function) c.in_ok-push_bytes.ensures
    (piece_and_more done first second third part_function total_function c.in_ok-push_bytes-2.ensures c.push_bytes-3.ensures)
