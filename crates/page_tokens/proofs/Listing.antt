-- Attributes, taken from the left.
use Rattle.std.proofs.Common.{◌≡◌, ◌∙◌, ℕ, List, [], ◌∷◌, ◌++◌, refl, sym, ap, subst, Some, None, append_assoc}
use Rattle.dom_tree.specs.Name.{folded}
use Rattle.page_tokens.proofs.Decoding.{append_none, decodes_once}
use Rattle.page_tokens.proofs.Pairs.{some_triple}
use Rattle.page_tokens.specs.Attributes.{Attributes, attribute_of}
use Rattle.page_tokens.specs.Attributes.Attributes.{none, more}
use Rattle.page_tokens.specs.References.{Decodes}

abbrev List2 : Type 0
List2 = List (List ℕ × List ℕ)

-- behind an attribute stand the others
record Rest (behind rest name raw : List ℕ) (all : List2) : Type 0 where
  value : List ℕ
  others : List2
  decodes : Decodes raw value
  attributes : Attributes behind rest others
  is : all ≡ (folded name, value) ∷ others

behind_attribute : (text behind rest name raw : List ℕ) (all : List2) → attribute_of text ≡ Some (name, raw, behind) → Attributes text rest all → Rest behind rest name raw all
behind_attribute text behind rest name raw all e (none t f) = absurd (cc)
behind_attribute text behind rest name raw all e (more t b r n w v os f d a) =
    let same = some_triple n name w raw b behind (sym f ∙ e) in
    record {
      value = v;
      others = os;
      decodes = subst (λ x. Decodes x v) same.1 d;
      attributes = subst (λ x. Attributes x r os) same.2 a;
      is = ap (λ x. (folded x, v) ∷ os) same.0;
    }

no_attribute : (text rest : List ℕ) (all : List2) → attribute_of text ≡ None → Attributes text rest all → (rest ≡ text) × (all ≡ [])
no_attribute text rest all e (none t f) = (refl, refl)
no_attribute text rest all e (more t b r n w v os f d a) = absurd (cc)

pub attributes_once : (text rest rest' : List ℕ) (all all' : List2) → Attributes text rest all → Attributes text rest' all' → (rest ≡ rest') × (all ≡ all')
attributes_once text rest rest' all all' (none t e) other = let o = no_attribute t rest' all' e other in (sym o.0, sym o.1)
attributes_once text rest rest' all all' (more t b r n w v os e d a) other =
    let o = behind_attribute t b rest' n w all' e other in
    let same = attributes_once b r rest' os o.others a o.attributes in
    let one = decodes_once w v o.value d o.decodes in
    (same.0, ap (λ x. (folded n, x) ∷ os) one ∙ ap (λ x. (folded n, o.value) ∷ x) same.1 ∙ sym o.is)

-- the attributes before those of the rest of a text are these
pub record GoesOn (text rest : List ℕ) (all : List2) : Type 0 where
  pub goes_on : (behind : List ℕ) (others : List2) → Attributes rest behind others → Attributes text behind (all ++ others)
  pub only : (behind : List ℕ) (whole : List2) → Attributes text behind whole → (others : List2) × Attributes rest behind others

pub listing_begins : (text : List ℕ) → GoesOn text text []
listing_begins text = record { goes_on = λ behind others h. h; only = λ behind whole h. (whole, h) }

pub listing_goes_on : (text rest behind name raw value : List ℕ) (all longer : List2) → GoesOn text rest all → attribute_of rest ≡ Some (name, raw, behind) → Decodes raw value → longer ≡ all ++ (folded name, value) ∷ [] → GoesOn text behind longer
listing_goes_on text rest behind name raw value all longer before e d m = record {
  goes_on = λ end others h. subst (Attributes text end) (sym (append_assoc all ((folded name, value) ∷ []) others) ∙ ap (λ x. x ++ others) (sym m)) (before.goes_on end ((folded name, value) ∷ others) (more rest behind end name raw value others e d h));
  only = λ end whole h. let o = before.only end whole h in let r = behind_attribute rest behind end name raw o.0 e o.1 in (r.others, r.attributes);
}

pub listing_ends : (text rest : List ℕ) (all : List2) → GoesOn text rest all → attribute_of rest ≡ None → Attributes text rest all
listing_ends text rest all before e = subst (Attributes text rest) (append_none all) (before.goes_on rest [] (none rest e))

pub listing_refused : (text rest behind name raw : List ℕ) (all : List2) → GoesOn text rest all → attribute_of rest ≡ Some (name, raw, behind) → ((value : List ℕ) → Decodes raw value → ⊥) → (end : List ℕ) (whole : List2) → Attributes text end whole → ⊥
listing_refused text rest behind name raw all before e refuses end whole h =
    let o = before.only end whole h in let r = behind_attribute rest behind end name raw o.0 e o.1 in refuses r.value r.decodes
