-- Nodes with their kinds alone: trees are the same, and they are sound where the whole nodes are.
use Rattle.std.proofs.Common.{◌≡◌, refl, sym, ap, subst, ◌∙◌, ℕ, zero, suc, ◌≤◌, true, not, [], ◌∷◌, length, filter}
use Rattle.std.proofs.lemmas.Bool.{or_right}
use Rattle.std.specs.List.{list_all}
use Rattle.dom_tree.proofs.Callers.{ProperParts, proper_parts}
use Rattle.dom_tree.specs.Content.{new_content}
use Rattle.dom_tree.specs.Node.{Nodes, children_at, has, is_distinct, is_document, is_element, is_text, is_this, kind_at, may_have_children, node_at, parent_at}
use Rattle.dom_tree.specs.Sound.{AreTrees, IsSound, Rooted, has_folded_name, is_proper, root, takes_value, under}
use Rattle.dom_tree.specs.declared.content.Kind.{Kind}

abbrev pub bared : Nodes → Nodes
bared [] = []
bared (n ∷ t) = record { content = new_content n.content.kind; parent = n.parent; children = n.children } ∷ bared t

pub record BaredAt (t : Nodes) (k : ℕ) : Type 0 where
  pub content : (node_at (bared t) k).content ≡ new_content (kind_at t k)
  pub parent : parent_at (bared t) k ≡ parent_at t k
  pub children : children_at (bared t) k ≡ children_at t k

pub bared_at : (t : Nodes) (k : ℕ) → BaredAt t k
bared_at [] k = record { content = refl; parent = refl; children = refl }
bared_at (n ∷ t) zero = record { content = refl; parent = refl; children = refl }
bared_at (n ∷ t) (suc k) = let later = bared_at t k in record { content = later.content; parent = later.parent; children = later.children }

pub bared_long : (t : Nodes) → length (bared t) ≡ length t
bared_long [] = refl
bared_long (n ∷ t) = ap suc (bared_long t)

pub bared_kind : (t : Nodes) (k : ℕ) → kind_at (bared t) k ≡ kind_at t k
bared_kind t k = ap (λ c. c.kind) (bared_at t k).content

bared_rooted : (t : Nodes) (k : ℕ) → Rooted t k → Rooted (bared t) k
bared_rooted t k (root e) = root ((bared_at t k).parent ∙ e)
bared_rooted t k (under {p = p} e r) = under ((bared_at t k).parent ∙ e) (bared_rooted t p.0 r)

bared_trees : (t : Nodes) → AreTrees t → AreTrees (bared t)
bared_trees t trees = record {
  agree = λ p c. ap (has c) (bared_at t p).children ∙ trees.agree p c ∙ ap (is_this p) (sym (bared_at t c).parent);
  distinct = λ p. ap is_distinct (bared_at t p).children ∙ trees.distinct p;
  rooted = λ k. bared_rooted t k (trees.rooted k);
}

new_proper : (k : Kind) → ProperParts (new_content k) → is_proper (new_content k) ≡ true
new_proper k p = rw (p.named, p.only_elements, p.only_inputs) refl

pub bared_sound : (t : Nodes) → IsSound t → IsSound (bared t)
bared_sound t sound = record {
  trees = bared_trees t sound.trees;
  proper = λ k. ap is_proper (bared_at t k).content ∙ new_proper (kind_at t k) (bare_parts (kind_at t k) (proper_parts (node_at t k).content (sound.proper k)).named);
  leaves = λ k h. (bared_at t k).children ∙ sound.leaves k (ap may_have_children (sym (bared_kind t k)) ∙ h);
  document = λ k. ap is_document (bared_kind t k) ∙ sound.document k;
  root = (bared_at t 0).parent ∙ sound.root;
  no_text = (λ i. list_all (λ c. not (is_text (bared_kind t c.0 i))) ((bared_at t 0).children i)) ∙ sound.no_text;
  one_element = subst (λ n. n ≤ 1) (sym (λ i. length (filter (λ c. is_element (bared_kind t c.0 i)) ((bared_at t 0).children i)))) sound.one_element;
}
  where
    bare_parts : (k : Kind) → has_folded_name k ≡ true → ProperParts (new_content k)
    bare_parts k named = record {
      named = named;
      attributes = refl;
      distinct = refl;
      only_elements = or_right (is_element k) true refl;
      only_inputs = or_right (takes_value k) true refl;
    }
