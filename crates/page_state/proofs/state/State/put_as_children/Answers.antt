use Rattle.std.proofs.Common.{Ok}
use Rattle.js_values.specs.declared.value.Value.TheVariants.{Undefined, Text}
use Rattle.dom_tree.specs.Steps.{empties}
use Rattle.page_meaning.specs.Act.{bind}
use Rattle.page_meaning.specs.Convert.{text_in}
use Rattle.page_meaning.specs.HostPuts.{fill, text_or_empty}
use Rattle.page_meaning.specs.Primitives.{changes_nodes}
use Rattle.page_state.specs.Does.{itself}
use Rattle.page_state.proofs.Does.{also_gives, bind_gives}
use Rattle.page_state.proofs.Putting.{emptied_long}
use Rattle.page_state.proofs.state.State.put_as_children.Goals as goal

pub fill-requires : goal.fill-requires
fill-requires c =
    rw (emptied_long c.args.node c.text_or_empty.new.self c.remove_children.new.self c.remove_children.ensures, c.in_ok-text.ensures.same) c.requires

pub returns : goal.returns
returns c =
    also_gives (λ calls. text_or_empty calls c.args.value.now) (λ _ x. bind (changes_nodes (empties c.args.node)) (λ _. fill c.args.node (text_in x))) itself (Text c.in_ok-text.text)
    c.args.self.now c.text_or_empty.new.self c.fill.new.self (Ok Undefined) c.in_ok-text.ensures.text
    (bind_gives (λ _. changes_nodes (empties c.args.node)) (λ _ _. fill c.args.node c.in_ok-text.text) itself tt c.text_or_empty.new.self c.remove_children.new.self c.fill.new.self (Ok Undefined)
    c.remove_children.ensures c.in_ok-fill.ensures)
