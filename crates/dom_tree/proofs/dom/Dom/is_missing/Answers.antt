use Rattle.std.proofs.Common.{◌≡◌, ◌∙◌, ap, not, sym}
use Rattle.dom_tree.specs.Change.{is_missing}
use Rattle.dom_tree.specs.Node.{children_at, has}
use Rattle.dom_tree.proofs.dom.Dom.is_missing.Goals as goal

pub returns-in-Some : goal.returns-in-Some
returns-in-Some c =
    let found : has c.in-Some.reference.0 (children_at c.args.self.now c.args.parent.0) ≡ c.is_this.result = c.parent.ensures.among c.args.parent.0 ∙ sym c.is_this.ensures in
    sym (ap (is_missing c.args.self.now c.args.parent.0) c.in-Some.is ∙ ap not found)
