use Rattle.std.proofs.Common.{◌<◌, length, subst}
use Rattle.std.specs.Option.{ForSome}
use Rattle.dom_tree.proofs.Moves.{top_there}
use Rattle.dom_tree.proofs.dom.Dom.document_element.Goals as goal

pub returns-clause-there : goal.returns-clause-there
returns-clause-there c = subst (λ t. ForSome c.self.inside.top (λ k. k.0 < length t)) c.self.view_is (top_there _ c.self.invariant.sound.trees c.self.inside.top c.self.invariant.element)
