-- What a change of nodes answered is what the row gives or throws.
use Rattle.std.proofs.Common.{◌≡◌, refl, subst, List, [], ◌∷◌, Option, Some, None, Result, Ok, Err, not, is_some}
use Rattle.js_core.specs.declared.memory.Failure.{Failure}
use Rattle.js_core.specs.Text.{Text}
use Rattle.js_values.specs.declared.ids.NodeId.{NodeId}
use Rattle.js_values.specs.declared.ids.ObjId.{ObjId}
use Rattle.js_values.specs.declared.throw.Throw.TheVariants.{InvalidCharacter}
use Rattle.js_values.specs.declared.value.Value.{Value}
use Rattle.js_values.specs.declared.value.Value.TheVariants as value
use Rattle.dom_tree.specs.declared.fault.DomError.{DomError}
use Rattle.dom_tree.specs.declared.content.Kind.TheVariants.{Element}
use Rattle.dom_tree.specs.DomText.{is_empty}
use Rattle.dom_tree.specs.Name.{folded}
use Rattle.dom_tree.specs.Node.{first_of}
use Rattle.dom_tree.specs.Steps.{NodeStep}
use Rattle.page_host.specs.Answers.{answer_of}
use Rattle.page_meaning.specs.declared.signal.Signal.TheVariants.{Value as Val}
use Rattle.page_meaning.specs.Act.{give}
use Rattle.page_meaning.specs.Errors.{raise}
use Rattle.page_meaning.specs.Functions.{object_of}
use Rattle.page_meaning.specs.NodeRows.{create_element, dom_throw, insert, insert_before, on_node, unless_refused}
use Rattle.page_meaning.specs.Primitives.{changes_nodes, make_node}
use Rattle.page_meaning.specs.Store.{Store}
use Rattle.page_state.specs.Does.{Does, Gives, Raises, itself}
use Rattle.page_state.specs.Made.{IsElementMade}
use Rattle.page_state.proofs.Callers.{bind_does, bind_gives}
use Rattle.dom_host.specs.Rows.{settle_nodes}

-- where nothing was refused the step is done, and where something was nothing is
pub settled_gives : (o : Option DomError) (g : NodeStep) (v : Value) (s t u : Store) (a : Result (Unit {0}) DomError) (r : Result Value (Failure Value))
    → a ≡ answer_of o → (a ≡ Ok tt → Does (λ _. changes_nodes g) s tt t) → ((e : DomError) → a ≡ Err e → t ≡ s)
    → Gives itself (λ _. settle_nodes a v) t u r → Gives itself (λ _. unless_refused o g v) s u r
settled_gives None g v s t u a r h done same d =
    bind_gives (λ _. changes_nodes g) (λ _ _. give v) itself tt s t u r (done h) (subst (λ b. Gives itself (λ _. settle_nodes b v) t u r) h d)
settled_gives (Some e) g v s t u a r h done same d =
    subst (λ w. Gives itself (λ _. raise (dom_throw e)) w u r) (same e h) (subst (λ b. Gives itself (λ _. settle_nodes b v) t u r) h d)

-- what is not null is to be a node
pub other_reference : (p c : NodeId) (r v : Value) → (r ≡ value.Null → ⊥) → insert_before p c r v ≡ on_node r (λ k. insert p c (Some k) v)
other_reference p c value.Null v h = absurd (h refl)
other_reference p c r v h = refl

-- a list that has a first is not empty
pub has_first : (ks : List NodeId) → is_some (first_of ks) ≡ not (is_empty ks)
has_first [] = refl
has_first (k ∷ ks) = refl

-- a new element is given, or the text is no name
pub element_made : (x : Text) (s t : Store) (o : Option ObjId) (at : ObjId) → IsElementMade x s o t → o ≡ Some at → Does (λ _. create_element x) s (Val (value.Object at)) t
element_made x s t o at m h =
    let n : IsElementMade x s (Some at) t = subst (λ p. IsElementMade x s p t) h m in
    rw (n.0) (bind_does (λ _. make_node (Element (folded x))) (λ _. object_of) at (Val (value.Object at)) s t t n.1 (record { is = λ c k. refl }))

pub element_refused : (x : Text) (s t u : Store) (o : Option ObjId) (e : Failure Value) → IsElementMade x s o t → o ≡ None
    → Raises (λ _. raise InvalidCharacter) t u e → Raises (λ _. create_element x) s u e
element_refused x s t u o e m h r =
    let n : IsElementMade x s None t = subst (λ p. IsElementMade x s p t) h m in
    rw (n.0) (subst (λ w. Raises (λ _. raise InvalidCharacter) w u e) n.1 r)
