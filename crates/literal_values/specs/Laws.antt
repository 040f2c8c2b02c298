-- What keeps a page literal.
use Rattle.dom_tree.specs.Node.{Nodes}
use Rattle.js_core.specs.Text.{Text}
use Rattle.page_meaning.specs.Pristine.{pristine}
use Rattle.page_meaning.specs.Reading.{property_of}
use Rattle.page_meaning.specs.Steps.{Step, after_step}
use Rattle.page_meaning.specs.Store.{Store}
use Rattle.js_values.specs.declared.value.Value.{Value}
use Rattle.literal_values.specs.Nodes.{LiteralNodes}
use Rattle.literal_values.specs.Stores.{LiteralStep, LiteralStore}
use Rattle.literal_values.specs.Values.{IsBounded, LiteralResult}

-- whatever is done with literal parts
abbrev pub StepsStayLiteral : Type 0
StepsStayLiteral = (s : Store) (g : Step) → LiteralStep g → LiteralStore s → LiteralStore (after_step s g)

-- what is read is literal
abbrev pub ReadsAreLiteral : Type 0
ReadsAreLiteral = (s : Store) (v : Value) (x : Text) → LiteralStore s → IsBounded v → LiteralResult (property_of s v x)

-- and so is a page before its scripts
abbrev pub PristineIsLiteral : Type 0
PristineIsLiteral = (t : Nodes) → LiteralNodes t → LiteralStore (pristine t)
