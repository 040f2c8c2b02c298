-- The families of the functions of nodes, events and timers.
use Rattle.js_values.specs.declared.built_in.BuiltIn.{BuiltIn}
use Rattle.js_values.specs.declared.built_in.BuiltIn.TheVariants as built_in
use Rattle.page_meaning.specs.declared.family.RowFamily.{RowFamily}
use Rattle.page_meaning.specs.declared.family.RowFamily.TheVariants as family

-- all others act on objects and values
abbrev pub host_family : BuiltIn → RowFamily
host_family built_in.NodePrototypeInsertBefore = family.Node
host_family built_in.NodePrototypeReplaceChild = family.Node
host_family built_in.NodePrototypeRemoveChild = family.Node
host_family built_in.NodePrototypeAppendChild = family.Node
host_family built_in.NodePrototypeHasChildNodes = family.Node
host_family built_in.NodePrototypeGetAttribute = family.Node
host_family built_in.NodePrototypeSetAttribute = family.Node
host_family built_in.NodePrototypeRemoveAttribute = family.Node
host_family built_in.NodePrototypeHasAttribute = family.Node
host_family built_in.NodePrototypeAddEventListener = family.Node
host_family built_in.NodePrototypeRemoveEventListener = family.Node
host_family built_in.NodePrototypeDispatchEvent = family.Dispatch
host_family built_in.NodePrototypeGetElementById = family.Node
host_family built_in.NodePrototypeCreateElement = family.Node
host_family built_in.NodePrototypeCreateTextNode = family.Node
host_family built_in.NodePrototypeCreateComment = family.Node
host_family built_in.NodePrototypeCreateEvent = family.Node
host_family built_in.EventPrototypeInitEvent = family.Node
host_family built_in.EventPrototypeStopPropagation = family.Node
host_family built_in.EventPrototypePreventDefault = family.Node
host_family built_in.SetTimeout = family.Timer
host_family built_in.SetInterval = family.Timer
host_family built_in.SetIntervalFrom = family.Timer
host_family built_in.ClearTimeout = family.Timer
host_family built_in.ClearInterval = family.Timer
host_family which = family.Object
