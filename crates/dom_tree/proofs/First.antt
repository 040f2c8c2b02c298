-- The document alone.
use Rattle.std.proofs.Common.{◌≡◌, refl, sym, ap, ◌∙◌, ℕ, zero, suc, true, nat_eq, List, [], ◌∷◌, None, arith}
use Rattle.std.proofs.lemmas.Bool.{ne_eqb}
use Rattle.dom_tree.specs.declared.content.Kind.TheVariants.{Document}
use Rattle.dom_tree.specs.declared.links.Linked.{Linked}
use Rattle.dom_tree.specs.declared.links.Links.{Links}
use Rattle.dom_tree.specs.Links.{AreLinked, Row, Shows, linked_at, links_at, no_links}
use Rattle.dom_tree.specs.Node.{children_at, document_alone, has, is_distinct, is_document, is_this, kind_at, node_at, parent_at}
use Rattle.dom_tree.specs.Sound.{IsSound, is_proper, root}
use Rattle.dom_tree.proofs.Lists.{eq_refl}

abbrev pub first_linked : Linked
first_linked = record { content = record { kind = Document; attributes = []; value = None }; links = no_links }

abbrev one : List Linked
one = first_linked ∷ []

kids : (k : ℕ) → children_at document_alone k ≡ []
kids zero = refl
kids (suc k) = refl

up : (k : ℕ) → parent_at document_alone k ≡ None
up zero = refl
up (suc k) = refl

links : (k : ℕ) → links_at one k ≡ no_links
links zero = refl
links (suc k) = refl

content : (k : ℕ) → (node_at document_alone k).content ≡ (linked_at one k).content
content zero = refl
content (suc k) = refl

proper : (k : ℕ) → is_proper (node_at document_alone k).content ≡ true
proper zero = refl
proper (suc k) = refl

document : (k : ℕ) → is_document (kind_at document_alone k) ≡ nat_eq k 0
document zero = sym (eq_refl 0)
document (suc k) = sym (ne_eqb (suc k) 0 (λ e. omega (arith, e)))

row : (p : ℕ) → Row one p (children_at document_alone p)
row zero = (refl, refl)
row (suc p) = (refl, refl)

pub first_shows : Shows one document_alone
first_shows = record {
  long = refl;
  content = content;
  parent = λ k. up k ∙ sym (ap (λ (l : Links). l.parent) (links k));
  rows = row;
  alone = λ c e. (ap (λ (l : Links). l.next) (links c.0), ap (λ (l : Links). l.previous) (links c.0));
}

first_sound : IsSound document_alone
first_sound = record {
  trees = record { agree = λ p c. ap (has c) (kids p) ∙ sym (ap (is_this p) (up c)); distinct = λ p. ap is_distinct (kids p); rooted = λ k. root (up k) };
  proper = proper;
  leaves = λ k h. kids k;
  document = document;
  root = refl;
  no_text = refl;
  one_element = omega arith;
}

pub first_linked_is : AreLinked one None
first_linked_is = record { shows = first_shows; sound = first_sound; element = refl }
