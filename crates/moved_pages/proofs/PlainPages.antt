-- No attribute of a page that is read has a name that begins with `on`.
use Rattle.std.proofs.Common.{◌≡◌, refl, ap, subst, ◌∙◌, ℕ, zero, suc, Bool, true, false, ◌&&◌, not, cond, List, [], ◌∷◌, ◌++◌, Option, Some, None, take, bytes_eq, slice_set, if◌then◌else◌, arith}
use Rattle.std.specs.Prelude.{codes}
use Rattle.std.specs.Char.{to_ascii_lowercase}
use Rattle.std.specs.List.{list_all, list_any}
use Rattle.std.specs.Option.{is_some}
use Rattle.std.proofs.lemmas.Bool.{and_from, and_parts}
use Rattle.std.proofs.lemmas.Bool.Decides.{nat_tests}
use Rattle.std.proofs.lemmas.Slice.Eq.{bytes_eq-Decides}
use Rattle.js_core.specs.Text.{Text}
use Rattle.js_values.specs.declared.ids.NodeId.{NodeId}
use Rattle.dom_tree.specs.Attributes.{Pairs, value_of, with_value_of}
use Rattle.dom_tree.specs.Change.{put_before, taken_from, taken_out, without}
use Rattle.dom_tree.specs.Content.{new_content}
use Rattle.dom_tree.specs.DomText.{is_void}
use Rattle.dom_tree.specs.Name.{folded, is_name}
use Rattle.dom_tree.specs.Node.{Node, Nodes, children_at, document_alone, parent_at, with_children, with_new, with_parent}
use Rattle.dom_tree.specs.declared.content.Content.{Content}
use Rattle.dom_tree.specs.declared.content.Kind.TheVariants as kind
use Rattle.page_check.specs.Accept.{IsAccepted}
use Rattle.page_check.specs.Rules.{Page}
use Rattle.page_host.specs.HostNames.{is_handler}
use Rattle.page_host.specs.Sound.{ArePlain, is_plain}
use Rattle.page_reader.specs.Elements as read
use Rattle.page_reader.specs.Elements.{is_allowed, is_attribute, is_script, refused_names}
use Rattle.page_reader.specs.Forest.{Forest, appended, element_content, grown, joined, next_id, with_all, with_first}
use Rattle.page_reader.specs.Forest.Forest.{no_trees, element, text, comment}
use Rattle.page_reader.specs.Pages.{Content as Inside, PageOf, Part, behind_prolog, is_html, misplaced, opens, page, part_of, text_alone, whole}
use Rattle.page_reader.specs.Pages.Content.{ended, alone, nested}
use Rattle.page_tokens.specs.Attributes.{Attributes, none, more}
use Rattle.page_tokens.specs.Characters.{is_space}
use Rattle.page_tokens.specs.Tokens as tokens
use Rattle.page_tokens.specs.Tokens.{TokenAt, TokensOf}
use Rattle.page_tokens.specs.declared.token.PageToken.{PageToken}
use Rattle.page_tokens.specs.declared.token.PageToken.TheVariants as token
use Rattle.page_tokens.specs.declared.token.RawText.{RawText}
use Rattle.page_tokens.specs.declared.token.Tag.{Tag}

-- ---- names in lower case

lower_again : (u : ℕ) → to_ascii_lowercase (to_ascii_lowercase u) ≡ to_ascii_lowercase u
lower_again u = grind (arith, nat_tests)

folded_again : (x : List ℕ) → folded (folded x) ≡ folded x
folded_again [] = refl
folded_again (u ∷ us) =
    ap (λ v. v ∷ folded (folded us)) (lower_again u) ∙ ap (λ l. to_ascii_lowercase u ∷ l) (folded_again us)

-- each name is folded
abbrev AreFolded : Pairs → Type 0
AreFolded [] = Unit {0}
AreFolded (a ∷ as') = (folded a.0 ≡ a.0) × AreFolded as'

abbrev attributes_of : PageToken → Pairs
attributes_of (token.StartTag tag) = tag.attributes
attributes_of (token.Raw tag raw) = tag.attributes
attributes_of t = []

attributes_folded : {from to : List ℕ} {as' : Pairs} → Attributes from to as' → AreFolded as'
attributes_folded (none us e) = tt
attributes_folded (more us behind rest name raw value others e d later) = (folded_again name, attributes_folded later)

token_folded : {size : ℕ} {us rest : List ℕ} {t : PageToken} → TokenAt size us rest t → AreFolded (attributes_of t)
token_folded (tokens.space us o s) = tt
token_folded (tokens.text us value o s d) = tt
token_folded (tokens.doctype us rest o d) = tt
token_folded (tokens.comment us inner rest o d) = tt
token_folded (tokens.end_tag us name rest o d) = tt
token_folded (tokens.start_tag us rest tag at plain) = attributes_folded at.attributes
token_folded (tokens.raw us content inner rest tag at raw is) = attributes_folded at.attributes

abbrev AllFolded : List PageToken → Type 0
AllFolded [] = Unit {0}
AllFolded (t ∷ ts) = AreFolded (attributes_of t) × AllFolded ts

tokens_folded : {size : ℕ} {us : List ℕ} {ts : List PageToken} → TokensOf size us ts → AllFolded ts
tokens_folded tokens.none = tt
tokens_folded (tokens.more us rest t ts at later) = (token_folded at, tokens_folded later)

prolog_folded : (seen : Bool) (ts : List PageToken) → AllFolded ts → AllFolded (behind_prolog seen ts)
prolog_folded seen [] a = a
prolog_folded seen (token.Space v ∷ ts) a = prolog_folded seen ts a.1
prolog_folded seen (token.Comment v ∷ ts) a = prolog_folded seen ts a.1
prolog_folded false (token.Doctype ∷ ts) a = prolog_folded true ts a.1
prolog_folded true (token.Doctype ∷ ts) a = a
prolog_folded seen (token.Text v ∷ ts) a = a
prolog_folded seen (token.StartTag tag ∷ ts) a = a
prolog_folded seen (token.EndTag name ∷ ts) a = a
prolog_folded seen (token.Raw tag raw ∷ ts) a = a

-- ---- names that do not begin with `on`

not_handler : (x : List ℕ) → not (read.is_handler x) ≡ true → not (is_handler x) ≡ true
not_handler x h = by (is_handler x) refl
  where
    two : (x : List ℕ) → take 2 x ≡ codes "on" → not (read.is_handler x) ≡ true → ⊥
    two [] e g = cc e
    two (a ∷ []) e g = cc e
    two (a ∷ b ∷ us) e g =
        let one : a ≡ 111 = cc e in
        let other : b ≡ 110 = cc e in
        let bad : not (read.is_handler (111 ∷ 110 ∷ us)) ≡ true = subst (λ m. not (read.is_handler (111 ∷ m ∷ us)) ≡ true) other (subst (λ n. not (read.is_handler (n ∷ b ∷ us)) ≡ true) one g) in
        cc bad

    by : (b : Bool) → is_handler x ≡ b → not b ≡ true
    by false e = refl
    by true e = absurd (two x ((bytes_eq-Decides (take 2 x) (codes "on")).0 e) h)

-- no name of the attributes begins so in lower case
abbrev PlainTag : Pairs → Type 0
PlainTag as' = list_all (λ a. not (is_handler (folded a.0))) as' ≡ true

names_plain : (as' : Pairs) → list_all is_attribute as' ≡ true → AreFolded as' → PlainTag as'
names_plain [] h f = refl
names_plain (a ∷ as') h f =
    let parts = and_parts (is_attribute a) (list_all is_attribute as') h in
    let own = and_parts (is_name a.0) (not (read.is_handler a.0)) parts.0 in
    and_from (not (is_handler (folded a.0))) (list_all (λ b. not (is_handler (folded b.0))) as')
    (ap (λ x. not (is_handler x)) f.0 ∙ not_handler a.0 own.1) (names_plain as' parts.1 f.1)

allowed_plain : (tag : Tag) → is_allowed tag ≡ true → AreFolded tag.attributes → PlainTag tag.attributes
unfolding is_allowed
allowed_plain tag h f = names_plain tag.attributes (by (is_name tag.name) (not (list_any (bytes_eq tag.name) refused_names)) (list_all is_attribute tag.attributes) _ _ h) f
  where
    by : (a b c d e : Bool) → ((((a && b) && c) && d) && e) ≡ true → c ≡ true
    by a b true d e g = refl
    by true true false d e g = cc g
    by true false false d e g = cc g
    by false b false d e g = cc g

-- ---- trees

abbrev PlainForest : Forest → Type 0
PlainForest no_trees = Unit {0}
PlainForest (element tag inner others) = PlainTag tag.attributes × PlainForest inner × PlainForest others
PlainForest (text v others) = PlainForest others
PlainForest (comment v others) = PlainForest others

joined_plain : (f g : Forest) → PlainForest f → PlainForest g → PlainForest (joined f g)
joined_plain no_trees g h k = k
joined_plain (element tag inner others) g h k = (h.0, h.1, joined_plain others g h.2 k)
joined_plain (text v others) g h k = joined_plain others g h k
joined_plain (comment v others) g h k = joined_plain others g h k

-- trees that a token is by itself
abbrev trees_in : Part → Forest
trees_in (whole f s) = f
trees_in part = no_trees

alone_plain : (us : Text) → PlainForest (text_alone us)
alone_plain [] = tt
alone_plain (u ∷ us) = tt

part_plain : (name : Text) (t : PageToken) → AreFolded (attributes_of t) → PlainForest (trees_in (part_of name t))
unfolding part_of
part_plain name (token.Space v) a = by (is_html name && list_all is_space v)
  where
    by : (b : Bool) → PlainForest (trees_in (if b then whole no_trees [] else whole (text v no_trees) []))
    by true = tt
    by false = tt
part_plain name (token.Text v) a = by (is_html name && list_all is_space v)
  where
    by : (b : Bool) → PlainForest (trees_in (if b then whole no_trees [] else whole (text v no_trees) []))
    by true = tt
    by false = tt
part_plain name (token.Comment v) a = tt
part_plain name token.Doctype a = tt
part_plain name (token.EndTag x) a = tt
part_plain name (token.StartTag tag) a = by (is_allowed tag) refl (is_void tag.name)
  where
    by : (b : Bool) → is_allowed tag ≡ b → (c : Bool) → PlainForest (trees_in (if b then (if c then whole (element tag no_trees no_trees) [] else opens tag) else misplaced))
    by true e true = (allowed_plain tag e a, tt, tt)
    by true e false = tt
    by false e c = tt
part_plain name (token.Raw tag raw) a = by (is_allowed tag) refl (is_script tag.name)
  where
    by : (b : Bool) → is_allowed tag ≡ b → (c : Bool)
        → PlainForest (trees_in (if b then (if c then whole (element tag no_trees no_trees) (raw ∷ []) else whole (element tag (text_alone raw.text) no_trees) []) else misplaced))
    by true e true = (allowed_plain tag e a, tt, tt)
    by true e false = (allowed_plain tag e a, alone_plain raw.text, tt)
    by false e c = tt

-- the tag of an element that a token opens
opened_plain : (name : Text) (t : PageToken) (tag : Tag) → part_of name t ≡ opens tag → AreFolded (attributes_of t) → PlainTag tag.attributes
unfolding part_of
opened_plain name (token.Space v) tag e a = by (is_html name && list_all is_space v) e
  where
    by : (b : Bool) → (if b then whole no_trees [] else whole (text v no_trees) []) ≡ opens tag → PlainTag tag.attributes
    by true g = cc g
    by false g = cc g
opened_plain name (token.Text v) tag e a = by (is_html name && list_all is_space v) e
  where
    by : (b : Bool) → (if b then whole no_trees [] else whole (text v no_trees) []) ≡ opens tag → PlainTag tag.attributes
    by true g = cc g
    by false g = cc g
opened_plain name (token.Comment v) tag e a = cc e
opened_plain name token.Doctype tag e a = cc e
opened_plain name (token.EndTag x) tag e a = cc e
opened_plain name (token.StartTag own) tag e a = by (is_allowed own) refl (is_void own.name) e
  where
    by : (b : Bool) → is_allowed own ≡ b → (c : Bool) → (if b then (if c then whole (element own no_trees no_trees) [] else opens own) else misplaced) ≡ opens tag → PlainTag tag.attributes
    by true is true g = cc g
    by true is false g = let same : own ≡ tag = cc g in subst (λ (x : Tag). PlainTag x.attributes) same (allowed_plain own is a)
    by false is c g = cc g
opened_plain name (token.Raw own raw) tag e a = by (is_allowed own) (is_script own.name) e
  where
    by : (b c : Bool) → (if b then (if c then whole (element own no_trees no_trees) (raw ∷ []) else whole (element own (text_alone raw.text) no_trees) []) else misplaced) ≡ opens tag → PlainTag tag.attributes
    by true true g = cc g
    by true false g = cc g
    by false c g = cc g

-- the content of an element, and the tokens after it
content_plain : {name : Text} {ts behind : List PageToken} {f : Forest} {s : List RawText} → Inside name ts behind f s → AllFolded ts → PlainForest f × AllFolded behind
content_plain (ended name behind) a = (tt, a.1)
content_plain (alone name t ts behind trees f s s' is later) a =
    let rest = content_plain later a.1 in
    (joined_plain trees f (subst (λ p. PlainForest (trees_in p)) is (part_plain name t a.0)) rest.0, rest.1)
content_plain (nested name tag t ts rest behind inner f s s' is inside later) a =
    let first = content_plain inside a.1 in
    let last = content_plain later first.1 in
    ((opened_plain name t tag is a.0, first.0, last.0), last.1)

-- ---- nodes

set_plain : (t : Nodes) (i : ℕ) (n : Node) → is_plain n.content ≡ true → ArePlain t → ArePlain (slice_set t i n)
set_plain [] i n h a k = a k
set_plain (m ∷ t) zero n h a zero = h
set_plain (m ∷ t) zero n h a (suc k) = a (suc k)
set_plain (m ∷ t) (suc i) n h a zero = a zero
set_plain (m ∷ t) (suc i) n h a (suc k) = set_plain t i n h (λ j. a (suc j)) k

more_plain : (t : Nodes) (n : Node) → is_plain n.content ≡ true → ArePlain t → ArePlain (t ++ n ∷ [])
more_plain [] n h a zero = h
more_plain [] n h a (suc k) = refl
more_plain (m ∷ t) n h a zero = a zero
more_plain (m ∷ t) n h a (suc k) = more_plain t n h (λ j. a (suc j)) k

placed_plain : (t : Nodes) (p c : NodeId) (l : List NodeId) (o : Option NodeId) → ArePlain t → ArePlain (with_parent (with_children t p l) c o)
placed_plain t p c l o a =
    let u = with_children t p l in
    let inner : ArePlain u = set_plain t p.0 _ (a p.0) a in
    set_plain u c.0 _ (inner c.0) inner

taken_plain : (t : Nodes) (c : NodeId) (o : Option NodeId) → ArePlain t → ArePlain (taken_from t c o)
taken_plain t c None a = a
taken_plain t c (Some p) a = placed_plain t p c (without c.0 (children_at t p.0)) None a

value_plain : (name x : Text) (as' : Pairs) → not (is_handler name) ≡ true → list_all (λ a. not (is_handler a.0)) as' ≡ true
    → list_all (λ a. not (is_handler a.0)) (with_value_of name x as') ≡ true
value_plain name x [] n h = rw n refl
value_plain name x (b ∷ bs) n h =
    let p = and_parts (not (is_handler b.0)) (list_all (λ a. not (is_handler a.0)) bs) h in
    by (bytes_eq b.0 name) p (value_plain name x bs n p.1)
  where
    by : (c : Bool) → (not (is_handler b.0) ≡ true) × (list_all (λ a. not (is_handler a.0)) bs ≡ true) → list_all (λ a. not (is_handler a.0)) (with_value_of name x bs) ≡ true
        → list_all (λ a. not (is_handler a.0)) (cond c ((b.0, x) ∷ bs) (b ∷ with_value_of name x bs)) ≡ true
    by true p later = and_from (not (is_handler b.0)) (list_all (λ a. not (is_handler a.0)) bs) p.0 p.1
    by false p later = and_from (not (is_handler b.0)) (list_all (λ a. not (is_handler a.0)) (with_value_of name x bs)) p.0 later

all_plain : (c : Content) (as' : Pairs) → is_plain c ≡ true → PlainTag as' → is_plain (with_all c as') ≡ true
all_plain c [] h p = h
all_plain c (a ∷ as') h p =
    let parts = and_parts (not (is_handler (folded a.0))) (list_all (λ b. not (is_handler (folded b.0))) as') p in
    all_plain (with_first c a) as' (by (is_some (value_of (folded a.0) c.attributes)) refl parts.0) parts.1
  where
    by : (b : Bool) → is_some (value_of (folded a.0) c.attributes) ≡ b → not (is_handler (folded a.0)) ≡ true → is_plain (with_first c a) ≡ true
    by true e n = rw e h
    by false e n = rw e (value_plain (folded a.0) a.1 c.attributes n h)

appended_plain : (t : Nodes) (p : NodeId) (c : Content) → is_plain c ≡ true → ArePlain t → ArePlain (appended t p c)
appended_plain t p c h a =
    let u : Nodes = with_new t c in
    let new : ArePlain u = more_plain t _ h a in
    let k : NodeId = next_id t in
    let out : ArePlain (taken_out u k) = taken_plain u k (parent_at u k.0) new in
    placed_plain (taken_out u k) p k (put_before None k (children_at (taken_out u k) p.0)) (Some p) out

grown_plain : (f : Forest) (p : NodeId) (t : Nodes) → PlainForest f → ArePlain t → ArePlain (grown f p t)
grown_plain no_trees p t h a = a
grown_plain (element tag inner others) p t h a =
    let u : Nodes = appended t p (element_content tag) in
    grown_plain others p (grown inner (next_id t) u) h.2
    (grown_plain inner (next_id t) u h.1 (appended_plain t p (element_content tag) (all_plain (new_content (kind.Element (folded tag.name))) tag.attributes refl h.0) a))
grown_plain (text v others) p t h a =
    grown_plain others p (appended t p (new_content (kind.Text v))) h (appended_plain t p (new_content (kind.Text v)) refl a)
grown_plain (comment v others) p t h a =
    grown_plain others p (appended t p (new_content (kind.Comment v))) h (appended_plain t p (new_content (kind.Comment v)) refl a)

-- ---- pages

document_plain : ArePlain document_alone
document_plain zero = refl
document_plain (suc k) = refl

page_plain : {ts : List PageToken} {t : Nodes} {s : List RawText} → AllFolded ts → PageOf ts t s → ArePlain t
page_plain folded (page ts tag inner scripts is) =
    let behind : AllFolded (token.StartTag tag ∷ is.content) = subst AllFolded is.begins (prolog_folded false ts folded) in
    grown_plain (element tag inner no_trees) (record { 0 = 0 }) document_alone
    (allowed_plain tag is.allowed behind.0, (content_plain is.reads behind.1).0, tt) document_plain

pub accepted_plain : (bytes : List ℕ) (p : Page) → IsAccepted bytes p → ArePlain p.nodes
accepted_plain bytes p is = page_plain (tokens_folded is.is_page.units.text.reads) is.is_page.units.text.is_page
