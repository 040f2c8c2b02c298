use Rattle.std.proofs.Common.{sym}
use Rattle.session.proofs.Hosts.{none_told}
use Rattle.session.proofs.running.element.Goals as goal

pub returns-in_ok-put_line-in-None : goal.returns-in_ok-put_line-in-None
returns-in_ok-put_line-in-None c =
    none_told c.args.id.now c.in_ok-text-in-None.text c.args.state.now c.put_line.new.self (sym (rw (c.dom.ensures, c.host.ensures) at c.in-None.ensures.found)) c.in_ok-text-in-None.ensures c.in_ok-put_line-in-None.ensures
