use Rattle.std.proofs.Common.{[], ◌∷◌, ◌++◌, refl, ap, ◌∙◌}
use Rattle.dom_tree.specs.Name.{folded}
use Rattle.dom_tree.specs.declared.content.Kind.TheVariants.{Element}
use Rattle.page_host.specs.Kept.{host_of}
use Rattle.page_host.specs.Steps.{with_new_node}
use Rattle.page_host.proofs.Made.{joins}
use Rattle.page_host.proofs.host.PageHost.create_element.Goals as goal

pub returns-clause-ok : goal.returns-clause-ok
returns-clause-ok c =
    joins (host_of c.self.inside.dom c.self.inside.objects.items c.self.inside.listeners.keys c.self.inside.queue c.self.inside.clock)
    c.create_element.new.self (Element (folded c.args.name.now)) c.args.object c.push_reserved.new.self.items
    c.in_ok-node.ensures.ok (c.push_reserved.ensures.items ∙ ap (λ l. l ++ c.args.object ∷ []) c.in_ok-reserve.ensures.items) c.recall_sound.ensures refl
    ∙ ap (λ h. with_new_node h (Element (folded c.args.name.now)) c.args.object) c.self.view_is
