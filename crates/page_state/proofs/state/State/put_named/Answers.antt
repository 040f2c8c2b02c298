use Rattle.page_meaning.specs.Classes.{class_at}
use Rattle.page_state.proofs.Putting.{put_hosted, put_unhosted}
use Rattle.page_state.proofs.state.State.put_named.Goals as goal

pub returns-in-Nothing : goal.returns-in-Nothing
returns-in-Nothing c =
    put_unhosted c.args.at c.args.host c.args.value c.args.self.now c.put_in.new.self c.args.name.now c.put_in.result c.sight.result c.in-Nothing.is c.sight.ensures c.put_in.ensures

pub returns-in-Hosted : goal.returns-in-Hosted
returns-in-Hosted c =
    put_hosted c.args.at c.args.host c.args.value c.args.self.now c.own_put.new.self c.args.name.now c.own_put.result (class_at c.args.self.now c.in-Hosted.field-0) c.in-Hosted.ensures c.own_put.ensures
