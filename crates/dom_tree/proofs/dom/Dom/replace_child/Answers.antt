use Rattle.std.proofs.Common.{◌≡◌, ◌∙◌, ap, false, nat_eq, refl, sym}
use Rattle.std.proofs.lemmas.Bool.{ne_eqb, not-false}
use Rattle.dom_tree.specs.Change.{breaks_hierarchy_where}
use Rattle.dom_tree.specs.Node.{children_at, has}
use Rattle.dom_tree.proofs.Replacing.{IsAccepted, alone_for, fits_for}
use Rattle.dom_tree.proofs.dom.Dom.replace_child.Goals as goal

pub put_under-requires-clause-ready : goal.put_under-requires-clause-ready
put_under-requires-clause-ready c =
    let t = c.args.self.now in
    let apart : nat_eq c.args.child.0 c.args.old.0 ≡ false = ne_eqb c.args.child.0 c.args.old.0 c.if-child-old.false in
    let ok : IsAccepted t c.args.parent c.args.child c.args.old = record {
      hierarchy = ap (breaks_hierarchy_where t c.args.parent.0 c.args.child.0) (sym c.is_misplaced_for-misplaced.ensures) ∙ sym c.breaks_hierarchy.ensures ∙ c.if-breaks_hierarchy.false;
      found = not-false (has c.args.old.0 (children_at t c.args.parent.0)) (sym c.is_missing.ensures ∙ c.if-is_missing.false);
    } in
    let trees = c.recall_sound.ensures.trees in
    rw (c.take_out-2.ensures, c.next-before.ensures.next, c.take_out.ensures) (record {
      fits = fits_for t c.args.parent c.args.child c.args.old trees apart ok;
      alone = alone_for t c.args.parent c.args.child c.args.old trees apart ok;
      long = refl;
    })
