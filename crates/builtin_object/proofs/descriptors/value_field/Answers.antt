use Rattle.page_host.specs.declared.host_name.HostName.TheVariants.{Value as HasValue}
use Rattle.page_meaning.specs.Classes.{class_at}
use Rattle.page_state.proofs.Callers.{hosted_has}
use Rattle.builtin_object.proofs.descriptors.value_field.Goals as goal

pub host_read-requires : goal.host_read-requires
host_read-requires c =
    hosted_has c.args.state.now c.args.at c.in_ok-name.name HasValue (class_at c.args.state.now c.in-Hosted.host) c.in-Hosted.ensures
