use Rattle.page_state.proofs.Putting.{put_plain_name}
use Rattle.page_state.proofs.Values.{unset_raises}
use Rattle.page_state.proofs.state.State.put_member.Goals as goal

pub returns-in-None : goal.returns-in-None
returns-in-None c =
    rw c.in-Object.is
    (put_plain_name c.in-Object.at c.args.name.now c.args.value c.args.self.now c.put_in.new.self c.put_in.result c.in-None.ensures c.put_in.ensures)

pub returns-in_default : goal.returns-in_default
returns-in_default c =
    unset_raises c.args.base.now c.args.name.now c.args.value c.args.self.now c.raise.new.self c.raise.result c.in_default.not-Object c.raise.ensures
