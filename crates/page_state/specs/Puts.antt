-- What a put to a host name does, in parts.
use Rattle.std.specs.Prelude.{Bool}
use Rattle.js_values.specs.declared.ids.NodeId.{NodeId}
use Rattle.js_values.specs.declared.ids.ObjId.{ObjId}
use Rattle.js_values.specs.declared.throw.Throw.TheVariants.{CannotSet}
use Rattle.js_values.specs.declared.value.Value.{Value}
use Rattle.dom_tree.specs.Steps.{empties}
use Rattle.page_host.specs.declared.host_name.HostName.{HostName}
use Rattle.page_meaning.specs.Act.{Act, Calls, bind, done, also, asking, choose}
use Rattle.page_meaning.specs.Classes.{class_at}
use Rattle.page_meaning.specs.Convert.{text_in}
use Rattle.page_meaning.specs.Errors.{raise}
use Rattle.page_meaning.specs.HostPuts.{fill, host_puts, put_attribute, put_text, text_or_empty}
use Rattle.page_meaning.specs.Primitives.{changes_nodes}
use Rattle.page_state.specs.declared.puts.Taking.{Taking}
use Rattle.page_state.specs.declared.puts.Taking.TheVariants.{Nothing, Refused, Text, Attribute, Children}

-- an object that shows a host name takes it, where it is its own
abbrev pub own_puts : Calls → ObjId → HostName → Value → Bool → Act
own_puts calls at n v own = choose own (asking (λ s. class_at s at) (host_puts calls n v)) (raise CannotSet)

-- the text takes the place of an element's children
abbrev pub fills : Calls → NodeId → Value → Act
fills calls k v = also (text_or_empty calls v) (λ x. bind (changes_nodes (empties k)) (λ _. fill k (text_in x)))

-- what the put is, by what it does first
abbrev pub takes : Calls → NodeId → HostName → Value → Taking → Act
takes calls k n v Nothing = done
takes calls k n v Refused = raise CannotSet
takes calls k n v Text = put_text calls k n v
takes calls k n v Attribute = put_attribute calls k n v
takes calls k n v Children = fills calls k v
