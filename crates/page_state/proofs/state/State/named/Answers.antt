use Rattle.page_meaning.specs.Classes.{class_at}
use Rattle.page_state.proofs.Sights.{hosted_has}
use Rattle.page_state.proofs.state.State.named.Goals as goal

pub host_read-requires : goal.host_read-requires
host_read-requires c =
    hosted_has c.args.self.now c.args.at c.args.text.now c.args.name (class_at c.args.self.now c.in-Hosted.host) c.in-Hosted.ensures
