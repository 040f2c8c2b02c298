use Rattle.std.proofs.Common.{◌∙◌, ap, sym, length, refl}
use Rattle.dom_tree.specs.Change.{breaks_hierarchy_where, taken_out}
use Rattle.dom_tree.specs.Fits.{Fits, IsReady}
use Rattle.dom_tree.proofs.Moves.{fits, ready}
use Rattle.dom_tree.proofs.dom.Dom.insert_before.Goals as goal

pub put_under-requires-clause-ready : goal.put_under-requires-clause-ready
put_under-requires-clause-ready c =
    let t = c.args.self.now in
    let f : Fits t c.args.parent c.args.child c.args.before = fits t c.args.parent c.args.child c.args.before (ap (breaks_hierarchy_where t c.args.parent.0 c.args.child.0) (sym c.is_misplaced-misplaced.ensures) ∙ sym c.breaks_hierarchy.ensures ∙ c.if-breaks_hierarchy.false) (sym c.is_missing.ensures ∙ c.if-is_missing.false) in
    let ok : IsReady (taken_out t c.args.child) c.args.parent c.args.child c.args.before (length t) = ready t c.args.parent c.args.child c.args.before c.recall_sound.ensures.trees c.requires.child (sym c.is_this.ensures ∙ c.if-is_this.false) f in
    rw c.take_out.ensures (record { fits = ok.fits; alone = ok.alone; long = refl })
