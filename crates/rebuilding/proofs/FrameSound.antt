-- The nodes that a saved page is read with are sound: steps lead to them from a document alone.
use Rattle.std.proofs.Common.{◌≡◌, refl, sym, subst, ℕ, zero, suc, true, [], ◌∷◌, None, nat_eq, codes, arith}
use Rattle.std.proofs.lemmas.Bool.{ne_eqb}
use Rattle.dom_tree.proofs.Callers.{new_nodes_stay_sound, steps_stay_sound}
use Rattle.dom_tree.specs.Content.{new_content}
use Rattle.dom_tree.specs.Node.{Nodes, children_at, has, is_distinct, is_document, is_this, kind_at, node_at, parent_at, with_new}
use Rattle.dom_tree.specs.Sound as dom
use Rattle.dom_tree.specs.Sound.{is_proper, root}
use Rattle.dom_tree.specs.Steps.{after_node, inserts}
use Rattle.dom_tree.specs.declared.content.Kind.TheVariants.{Document, Element}
use Rattle.page_host.proofs.Callers.{new_hosts_are_sound}
use Rattle.page_host.specs.Sound as host
use Rattle.page_meaning.specs.Places.{built_in_count}
use Rattle.page_meaning.specs.Pristine.{places_from}
use Rattle.page_writer.specs.Frame.{bare_node, frame_host, frame_nodes, nth_node}

abbrev alone : Nodes
alone = bare_node Document None [] ∷ []

no_parent : (k : ℕ) → parent_at alone k ≡ None
no_parent zero = refl
no_parent (suc k) = refl

no_children : (k : ℕ) → children_at alone k ≡ []
no_children zero = refl
no_children (suc k) = refl

agrees : (p c : ℕ) → has c (children_at alone p) ≡ is_this p (parent_at alone c)
agrees zero zero = refl
agrees zero (suc c) = refl
agrees (suc p) zero = refl
agrees (suc p) (suc c) = refl

distinct : (p : ℕ) → is_distinct (children_at alone p) ≡ true
distinct zero = refl
distinct (suc p) = refl

proper : (k : ℕ) → is_proper (node_at alone k).content ≡ true
proper zero = refl
proper (suc k) = refl

first : (k : ℕ) → is_document (kind_at alone k) ≡ nat_eq k 0
first zero = refl
first (suc k) = sym (ne_eqb (suc k) 0 (λ e. omega (arith, e)))

alone_sound : dom.IsSound alone
alone_sound = record {
  trees = record { agree = agrees; distinct = distinct; rooted = λ k. root (no_parent k) };
  proper = proper;
  leaves = λ k h. no_children k;
  document = first;
  root = refl;
  no_text = refl;
  one_element = omega arith;
}

abbrev two : Nodes
two = with_new alone (new_content (Element (codes "html")))

abbrev three : Nodes
three = with_new two (new_content (Element (codes "script")))

abbrev four : Nodes
four = after_node three (inserts (nth_node 0) (nth_node 1) None)

abbrev five : Nodes
five = after_node four (inserts (nth_node 1) (nth_node 2) None)

frame_is : five ≡ frame_nodes
frame_is = refl

frame_nodes_sound : dom.IsSound frame_nodes
frame_nodes_sound =
    let second : dom.IsSound two = (new_nodes_stay_sound alone (Element (codes "html"))).sound alone_sound refl refl in
    let third : dom.IsSound three = (new_nodes_stay_sound two (Element (codes "script"))).sound second refl refl in
    subst (λ t. dom.IsSound t) frame_is
    ((steps_stay_sound four (inserts (nth_node 1) (nth_node 2) None)).sound ((steps_stay_sound three (inserts (nth_node 0) (nth_node 1) None)).sound third))

pub frame_host_sound : host.IsSound frame_host
frame_host_sound = new_hosts_are_sound frame_nodes (places_from built_in_count frame_nodes) frame_nodes_sound refl
