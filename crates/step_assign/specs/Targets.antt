-- How the target of a for-in begins to take a value, by the kind of its node (section 12.6.4).
use Rattle.std.specs.Prelude.{Option, None}
use Rattle.code_table.specs.Node.{Node}
use Rattle.code_table.specs.declared.kind.Kind.{Kind}
use Rattle.code_table.specs.declared.kind.Kind.TheVariants as kind
use Rattle.js_values.specs.declared.value.Value.{Value}
use Rattle.page_meaning.specs.Act.{Act, Calls, give, also}
use Rattle.page_meaning.specs.Names.{Here, assign_name}
use Rattle.page_frames.specs.Parts.{part}
use Rattle.page_frames.specs.Rest.{rest_target}

abbrev pub start_target : Calls → Here → Option Node → Kind → Value → Act
start_target calls here at (kind.Name x) v = assign_name here x v
start_target calls here at (kind.Member x) v = also (part calls here at 0) (rest_target calls here at (kind.Member x) v None)
start_target calls here at kind.Index v = also (part calls here at 0) (rest_target calls here at kind.Index v None)
start_target calls here at q v = give v
