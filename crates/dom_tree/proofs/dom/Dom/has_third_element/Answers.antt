use Rattle.std.proofs.Common.{◌≡◌, ◌∙◌, ◌&&◌, Some, None, ap, nat_eq, not, sym, true, false}
use Rattle.std.proofs.Math.Bool.{or-false}
use Rattle.std.proofs.lemmas.Bool.{eq-eqb, ne_eqb}
use Rattle.dom_tree.proofs.Moves.{third_element}
use Rattle.dom_tree.proofs.dom.Dom.has_third_element.Goals as goal

pub returns-then-child-element : goal.returns-then-child-element
returns-then-child-element c =
    let other : nat_eq c.args.child.0 c.in-Some.element.0 ≡ false = ne_eqb c.args.child.0 c.in-Some.element.0 c.if-child-element.true in
    sym (third_element c.args.self.now c.args.child.0 c.args.old.0 (Some c.in-Some.element) c.in-Some.ensures.only ∙ or-false (not (nat_eq c.args.child.0 c.in-Some.element.0) && not (nat_eq c.args.old.0 c.in-Some.element.0)) ∙ ap (λ b. not b && not (nat_eq c.args.old.0 c.in-Some.element.0)) other)

pub returns-else-child-element : goal.returns-else-child-element
returns-else-child-element c =
    let same : nat_eq c.args.child.0 c.in-Some.element.0 ≡ true = eq-eqb c.args.child.0 c.in-Some.element.0 c.if-child-element.false in
    ap not same ∙ sym (third_element c.args.self.now c.args.child.0 c.args.old.0 (Some c.in-Some.element) c.in-Some.ensures.only ∙ or-false (not (nat_eq c.args.child.0 c.in-Some.element.0) && not (nat_eq c.args.old.0 c.in-Some.element.0)) ∙ ap (λ b. not b && not (nat_eq c.args.old.0 c.in-Some.element.0)) same)

pub returns-in-None : goal.returns-in-None
returns-in-None c = sym (third_element c.args.self.now c.args.child.0 c.args.old.0 None c.in-None.ensures.only)
