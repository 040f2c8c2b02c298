use Rattle.builtin_list.proofs.Cases.{room_closed, room_made}
use Rattle.builtin_list.proofs.splicing.make_room.Goals as goal

pub returns-then-more-less : goal.returns-then-more-less
returns-then-more-less c =
    rw (room_closed c.args.list c.args.length c.args.place c.args.less c.args.more c.if-more-less.true) c.close_up.ensures

pub returns-then-less-more : goal.returns-then-less-more
returns-then-less-more c =
    rw (room_made c.args.list c.args.length c.args.place c.args.less c.args.more c.if-less-more.true) (rw (c.in_ok-to.ensures) at c.move_up.ensures)
