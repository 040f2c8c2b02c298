-- Host events whose texts can be written, and whose names are short enough for the message of an error that tells them.
use Rattle.std.specs.Prelude.{List, [], ◌∷◌, ⊤}
use Rattle.js_values.specs.declared.event.Event.{Event}
use Rattle.js_values.specs.declared.event.Event.TheVariants.{Call, Fire, Input}
use Rattle.literal_values.specs.Values.{IsName, IsText}

abbrev pub LiteralEvent : Event → Type 0
LiteralEvent (Fire kind at bubbles cancelable) = IsText kind
LiteralEvent (Input t at) = IsText t
LiteralEvent (Call f) = IsName f
LiteralEvent e = ⊤

abbrev pub LiteralEvents : List Event → Type 0
LiteralEvents [] = ⊤
LiteralEvents (e ∷ es) = LiteralEvent e × LiteralEvents es
