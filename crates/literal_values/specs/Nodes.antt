-- Nodes whose names, texts, attributes and values can be written, and what is done to them so that they stay such.
use Rattle.std.specs.Prelude.{[], ◌∷◌, ⊤}
use Rattle.std.specs.List.{All}
use Rattle.dom_tree.specs.Attributes.{Pairs}
use Rattle.dom_tree.specs.Node.{Nodes}
use Rattle.dom_tree.specs.Steps.{NodeStep, sets_attribute, sets_text, sets_value}
use Rattle.dom_tree.specs.declared.content.Content.{Content}
use Rattle.dom_tree.specs.declared.content.Kind.{Kind}
use Rattle.dom_tree.specs.declared.content.Kind.TheVariants.{Comment, Element, Text}
use Rattle.literal_values.specs.Values.{IsText, MaybeText}

abbrev pub LiteralKind : Kind → Type 0
LiteralKind (Element name) = IsText name
LiteralKind (Text t) = IsText t
LiteralKind (Comment t) = IsText t
LiteralKind k = ⊤

abbrev pub LiteralPairs : Pairs → Type 0
LiteralPairs [] = ⊤
LiteralPairs (a ∷ as') = IsText a.0 × IsText a.1 × LiteralPairs as'

pub record LiteralContent (c : Content) : Type 0 where
  pub kind : LiteralKind c.kind
  pub attributes : LiteralPairs c.attributes
  pub value : MaybeText c.value

abbrev pub LiteralNodes : Nodes → Type 0
LiteralNodes t = All (λ n. LiteralContent n.content) t

abbrev pub LiteralNodeStep : NodeStep → Type 0
LiteralNodeStep (sets_text k x) = IsText x
LiteralNodeStep (sets_value k x) = IsText x
LiteralNodeStep (sets_attribute k name x) = IsText name × IsText x
LiteralNodeStep g = ⊤
