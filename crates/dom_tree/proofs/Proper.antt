-- Names stay folded, and contents proper.
use Rattle.std.proofs.Common.{◌≡◌, refl, sym, ℕ, Bool, true, false, cond, ◌&&◌, ◌||◌, not, List, [], ◌∷◌, Option, Some, map, length, nat_eq, bytes_eq, arith}
use Rattle.std.proofs.lemmas.Bool.{and_from, and_parts, both_ways, or_right}
use Rattle.std.proofs.lemmas.Bool.Decides.{nat_tests}
use Rattle.std.proofs.lemmas.Slice.Eq.{bytes_eq-Decides}
use Rattle.std.specs.Char.{is_ascii_uppercase, to_ascii_lowercase}
use Rattle.std.specs.List.{list_all}
use Rattle.std.specs.Option.{is_none}
use Rattle.js_core.specs.Text.{Text}
use Rattle.dom_tree.specs.declared.content.Content.{Content}
use Rattle.dom_tree.specs.declared.content.Kind.{Kind}
use Rattle.dom_tree.specs.declared.content.Kind.TheVariants.{Comment, Document, Element}
use Rattle.dom_tree.specs.declared.content.Kind.TheVariants as kind
use Rattle.dom_tree.specs.Attributes.{Pairs, has_distinct_names, value_of, with_value_of, without_value_of}
use Rattle.dom_tree.specs.Content.{has_text, kind_with_text, new_content, with_attribute, with_value, without_attribute}
use Rattle.dom_tree.specs.Name.{folded, is_folded_name, is_name, is_name_part, is_name_start}
use Rattle.dom_tree.specs.Node.{is_document, is_element, is_text}
use Rattle.dom_tree.specs.Sound.{has_folded_name, is_proper, takes_value}

lower_start : (u : ℕ) → is_name_start u ≡ true → is_name_start (to_ascii_lowercase u) ≡ true
lower_start u h = grind (arith, nat_tests)

lower_part : (u : ℕ) → is_name_part u ≡ true → is_name_part (to_ascii_lowercase u) ≡ true
lower_part u h = grind (arith, nat_tests)

lower_not_upper : (u : ℕ) → not (is_ascii_uppercase (to_ascii_lowercase u)) ≡ true
lower_not_upper u = grind (arith, nat_tests)

parts_folded : (us : List ℕ) → list_all is_name_part us ≡ true → list_all is_name_part (map to_ascii_lowercase us) ≡ true
parts_folded [] h = refl
parts_folded (u ∷ us) h =
    let p = and_parts (is_name_part u) (list_all is_name_part us) h in
    and_from (is_name_part (to_ascii_lowercase u)) (list_all is_name_part (map to_ascii_lowercase us)) (lower_part u p.0) (parts_folded us p.1)

none_upper : (us : List ℕ) → list_all (λ u. not (is_ascii_uppercase u)) (map to_ascii_lowercase us) ≡ true
none_upper [] = refl
none_upper (u ∷ us) =
    and_from (not (is_ascii_uppercase (to_ascii_lowercase u))) (list_all (λ u. not (is_ascii_uppercase u)) (map to_ascii_lowercase us)) (lower_not_upper u) (none_upper us)

-- a folded name is a name, and folded
pub folded_name : (name : Text) → is_name name ≡ true → is_folded_name (folded name) ≡ true
folded_name [] h = cc
folded_name (u ∷ us) h =
    let p = and_parts (is_name_start u) (list_all is_name_part us) h in
    and_from (is_name (folded (u ∷ us))) (list_all (λ u. not (is_ascii_uppercase u)) (folded (u ∷ us)))
    (and_from (is_name_start (to_ascii_lowercase u)) (list_all is_name_part (map to_ascii_lowercase us)) (lower_start u p.0) (parts_folded us p.1))
    (none_upper (u ∷ us))

pub element_proper : (name : Text) → is_name name ≡ true → is_proper (new_content (Element (folded name))) ≡ true
element_proper name h = rw (folded_name name h) (or_right (takes_value (Element (folded name))) true refl)

-- the parts of a proper content
pub record ProperParts (c : Content) : Type 0 where
  pub named : has_folded_name c.kind ≡ true
  pub attributes : list_all (λ a. is_folded_name a.0) c.attributes ≡ true
  pub distinct : has_distinct_names c.attributes ≡ true
  pub only_elements : is_element c.kind || nat_eq (length c.attributes) 0 ≡ true
  pub only_inputs : takes_value c.kind || is_none c.value ≡ true

pub proper_parts : (c : Content) → is_proper c ≡ true → ProperParts c
proper_parts c h =
    let w = and_parts (has_folded_name c.kind && list_all (λ a. is_folded_name a.0) c.attributes && has_distinct_names c.attributes && (is_element c.kind || nat_eq (length c.attributes) 0)) (takes_value c.kind || is_none c.value) h in
    let x = and_parts (has_folded_name c.kind && list_all (λ a. is_folded_name a.0) c.attributes && has_distinct_names c.attributes) (is_element c.kind || nat_eq (length c.attributes) 0) w.0 in
    let y = and_parts (has_folded_name c.kind && list_all (λ a. is_folded_name a.0) c.attributes) (has_distinct_names c.attributes) x.0 in
    let z = and_parts (has_folded_name c.kind) (list_all (λ a. is_folded_name a.0) c.attributes) y.0 in
    record { named = z.0; attributes = z.1; distinct = y.1; only_elements = x.1; only_inputs = w.1 }

together : (c : Content) → ProperParts c → is_proper c ≡ true
together c p = rw (p.named, p.attributes, p.distinct, p.only_elements, p.only_inputs) refl

pub text_proper : (k : Kind) (attributes : Pairs) (value : Option Text) (text : Text) → has_text k ≡ true
    → is_proper (record { kind = k; attributes = attributes; value = value }) ≡ true → is_proper (record { kind = kind_with_text k text; attributes = attributes; value = value }) ≡ true
text_proper (kind.Text old) attributes value text h p = p
text_proper (Comment old) attributes value text h p = p
text_proper Document attributes value text h p = p
text_proper (Element name) attributes value text h p = p

pub value_proper : (c : Content) (text : Text) → takes_value c.kind ≡ true → is_proper c ≡ true → is_proper (with_value c text) ≡ true
value_proper c text h p =
    let q = proper_parts c p in
    together (with_value c text) (record { named = q.named; attributes = q.attributes; distinct = q.distinct; only_elements = q.only_elements; only_inputs = rw h refl })

set_all : (name v : Text) (as' : Pairs) → is_folded_name name ≡ true → list_all (λ a. is_folded_name a.0) as' ≡ true → list_all (λ a. is_folded_name a.0) (with_value_of name v as') ≡ true
set_all name v [] f h = rw f refl
set_all name v (a ∷ as') f h =
    let p = and_parts (is_folded_name a.0) (list_all (λ a. is_folded_name a.0) as') h in
    go (bytes_eq a.0 name) p.0 p.1 (set_all name v as' f p.1)
  where
    go : (b : Bool) → is_folded_name a.0 ≡ true → list_all (λ a. is_folded_name a.0) as' ≡ true → list_all (λ a. is_folded_name a.0) (with_value_of name v as') ≡ true
        → list_all (λ a. is_folded_name a.0) (cond b ((a.0, v) ∷ as') (a ∷ with_value_of name v as')) ≡ true
    go true e g more = rw (e, g) refl
    go false e g more = rw (e, more) refl

remove_all : (name : Text) (as' : Pairs) → list_all (λ a. is_folded_name a.0) as' ≡ true → list_all (λ a. is_folded_name a.0) (without_value_of name as') ≡ true
remove_all name [] h = refl
remove_all name (a ∷ as') h =
    let p = and_parts (is_folded_name a.0) (list_all (λ a. is_folded_name a.0) as') h in
    go (bytes_eq a.0 name) p.0 p.1 (remove_all name as' p.1)
  where
    go : (b : Bool) → is_folded_name a.0 ≡ true → list_all (λ a. is_folded_name a.0) as' ≡ true → list_all (λ a. is_folded_name a.0) (without_value_of name as') ≡ true
        → list_all (λ a. is_folded_name a.0) (cond b as' (a ∷ without_value_of name as')) ≡ true
    go true e g more = g
    go false e g more = rw (e, more) refl

other_text : (x y : Text) → bytes_eq x y ≡ false → bytes_eq y x ≡ false
other_text x y h = by (bytes_eq y x) refl
  where
    by : (b : Bool) → bytes_eq y x ≡ b → b ≡ false
    by true e = absurd (both_ways (bytes_eq x y) h ((bytes_eq-Decides x y).1 (sym ((bytes_eq-Decides y x).0 e))))
    by false e = refl

-- a name that is not there is not the first, and not among the others
missing : (b : Bool) (v : Text) (o : Option Text) → is_none (cond b (Some v) o) ≡ true → (b ≡ false) × (is_none o ≡ true)
missing true v o h = cc
missing false v o h = (refl, h)

none_set : (k name v : Text) (as' : Pairs) → bytes_eq name k ≡ false → is_none (value_of k as') ≡ true → is_none (value_of k (with_value_of name v as')) ≡ true
none_set k name v [] ne h = rw ne refl
none_set k name v (a ∷ as') ne h =
    let p = missing (bytes_eq a.0 k) a.1 (value_of k as') h in
    go (bytes_eq a.0 name) p.0 p.1 (none_set k name v as' ne p.1)
  where
    go : (b : Bool) → bytes_eq a.0 k ≡ false → is_none (value_of k as') ≡ true → is_none (value_of k (with_value_of name v as')) ≡ true
        → is_none (value_of k (cond b ((a.0, v) ∷ as') (a ∷ with_value_of name v as'))) ≡ true
    go true e g more = rw e g
    go false e g more = rw e more

set_distinct : (name v : Text) (as' : Pairs) → has_distinct_names as' ≡ true → has_distinct_names (with_value_of name v as') ≡ true
set_distinct name v [] h = refl
set_distinct name v (a ∷ as') h =
    let p = and_parts (is_none (value_of a.0 as')) (has_distinct_names as') h in
    go (bytes_eq a.0 name) refl p.0 (set_distinct name v as' p.1)
  where
    go : (b : Bool) → bytes_eq a.0 name ≡ b → is_none (value_of a.0 as') ≡ true → has_distinct_names (with_value_of name v as') ≡ true
        → has_distinct_names (cond b ((a.0, v) ∷ as') (a ∷ with_value_of name v as')) ≡ true
    go true e g more = h
    go false e g more = and_from (is_none (value_of a.0 (with_value_of name v as'))) (has_distinct_names (with_value_of name v as')) (none_set a.0 name v as' (other_text a.0 name e) g) more

none_removed : (k name : Text) (as' : Pairs) → is_none (value_of k as') ≡ true → is_none (value_of k (without_value_of name as')) ≡ true
none_removed k name [] h = refl
none_removed k name (a ∷ as') h =
    let p = missing (bytes_eq a.0 k) a.1 (value_of k as') h in
    go (bytes_eq a.0 name) p.0 p.1 (none_removed k name as' p.1)
  where
    go : (b : Bool) → bytes_eq a.0 k ≡ false → is_none (value_of k as') ≡ true → is_none (value_of k (without_value_of name as')) ≡ true
        → is_none (value_of k (cond b as' (a ∷ without_value_of name as'))) ≡ true
    go true e g more = g
    go false e g more = rw e more

remove_distinct : (name : Text) (as' : Pairs) → has_distinct_names as' ≡ true → has_distinct_names (without_value_of name as') ≡ true
remove_distinct name [] h = refl
remove_distinct name (a ∷ as') h =
    let p = and_parts (is_none (value_of a.0 as')) (has_distinct_names as') h in
    go (bytes_eq a.0 name) p.0 p.1 (remove_distinct name as' p.1)
  where
    go : (b : Bool) → is_none (value_of a.0 as') ≡ true → has_distinct_names as' ≡ true → has_distinct_names (without_value_of name as') ≡ true
        → has_distinct_names (cond b as' (a ∷ without_value_of name as')) ≡ true
    go true g rest more = rest
    go false g rest more = and_from (is_none (value_of a.0 (without_value_of name as'))) (has_distinct_names (without_value_of name as')) (none_removed a.0 name as' g) more

pub attribute_proper : (c : Content) (name v : Text) → is_name name ≡ true → is_element c.kind ≡ true → is_proper c ≡ true → is_proper (with_attribute c name v) ≡ true
attribute_proper c name v n h p =
    let q = proper_parts c p in
    together (with_attribute c name v) (record { named = q.named; attributes = set_all (folded name) v c.attributes (folded_name name n) q.attributes; distinct = set_distinct (folded name) v c.attributes q.distinct; only_elements = rw h refl; only_inputs = q.only_inputs })

pub without_attribute_proper : (c : Content) (name : Text) → is_element c.kind ≡ true → is_proper c ≡ true → is_proper (without_attribute c name) ≡ true
without_attribute_proper c name h p =
    let q = proper_parts c p in
    together (without_attribute c name) (record { named = q.named; attributes = remove_all (folded name) c.attributes q.attributes; distinct = remove_distinct (folded name) c.attributes q.distinct; only_elements = rw h refl; only_inputs = q.only_inputs })

-- with another text it stays what it is
pub text_document : (k : Kind) (text : Text) → is_document (kind_with_text k text) ≡ is_document k
text_document (kind.Text old) text = refl
text_document (Comment old) text = refl
text_document Document text = refl
text_document (Element name) text = refl

pub text_element : (k : Kind) (text : Text) → is_element (kind_with_text k text) ≡ is_element k
text_element (kind.Text old) text = refl
text_element (Comment old) text = refl
text_element Document text = refl
text_element (Element name) text = refl

pub text_text : (k : Kind) (text : Text) → is_text (kind_with_text k text) ≡ is_text k
text_text (kind.Text old) text = refl
text_text (Comment old) text = refl
text_text Document text = refl
text_text (Element name) text = refl
