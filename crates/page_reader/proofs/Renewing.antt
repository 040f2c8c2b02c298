-- Tokens with other texts of scripts are the same page with these scripts.
use Rattle.std.proofs.Common.{◌≡◌, ◌∙◌, ℕ, Bool, true, false, ◌&&◌, cond, List, [], ◌∷◌, ◌++◌, refl, sym, ap, subst, append_assoc}
use Rattle.std.specs.List.{list_all}
use Rattle.std.proofs.lemmas.Bool.{and_parts}
use Rattle.js_core.specs.Text.{Text}
use Rattle.dom_tree.specs.DomText.{is_void}
use Rattle.dom_tree.specs.Node.{Nodes}
use Rattle.page_tokens.specs.declared.token.PageToken.{PageToken}
use Rattle.page_tokens.specs.declared.token.PageToken.TheVariants.{Comment, Doctype, EndTag, Raw, Space, StartTag}
use Rattle.page_tokens.specs.declared.token.PageToken.TheVariants as token
use Rattle.page_tokens.specs.declared.token.RawText.{RawText}
use Rattle.page_tokens.specs.declared.token.Tag.{Tag}
use Rattle.page_tokens.specs.Characters.{is_space}
use Rattle.page_tokens.proofs.Callers.{is_raw}
use Rattle.page_reader.specs.Elements.{is_allowed, is_script}
use Rattle.page_reader.specs.Forest.{Forest, joined}
use Rattle.page_reader.specs.Forest.Forest.{no_trees, element, text}
use Rattle.page_reader.specs.Pages.{Content, IsPage, PageOf, Part, behind_prolog, is_html, is_outside, part_of, raw_part, text_alone}
use Rattle.page_reader.specs.Pages.Content.{ended, alone, nested}
use Rattle.page_reader.specs.Pages.PageOf.{page}
use Rattle.page_reader.specs.Pages.Part.{whole, opens, misplaced}

-- the scripts among some tokens
abbrev pub scripts_in : List PageToken → List RawText
scripts_in [] = []
scripts_in (Raw tag raw ∷ ts) = cond (is_script tag.name) (raw ∷ scripts_in ts) (scripts_in ts)
scripts_in (Space v ∷ ts) = scripts_in ts
scripts_in (token.Text v ∷ ts) = scripts_in ts
scripts_in (Comment v ∷ ts) = scripts_in ts
scripts_in (Doctype ∷ ts) = scripts_in ts
scripts_in (StartTag v ∷ ts) = scripts_in ts
scripts_in (EndTag v ∷ ts) = scripts_in ts

-- tokens, a text for each script among them, and the tokens and scripts with these texts
pub data Renewal : List PageToken → List (List ℕ) → List PageToken → List RawText → Type 0 where
  done : Renewal [] [] [] []
  same : (t : PageToken) (ts ts' : List PageToken) (xs : List (List ℕ)) (rs : List RawText) → is_raw t ≡ false → Renewal ts xs ts' rs → Renewal (t ∷ ts) xs (t ∷ ts') rs
  style : (tag : Tag) (raw raw' : RawText) (ts ts' : List PageToken) (xs : List (List ℕ)) (rs : List RawText) → is_script tag.name ≡ false → raw'.text ≡ raw.text → Renewal ts xs ts' rs → Renewal (Raw tag raw ∷ ts) xs (Raw tag raw' ∷ ts') rs
  script : (tag : Tag) (raw raw' : RawText) (ts ts' : List PageToken) (x : List ℕ) (xs : List (List ℕ)) (rs : List RawText) → is_script tag.name ≡ true → raw'.text ≡ x → Renewal ts xs ts' rs → Renewal (Raw tag raw ∷ ts) (x ∷ xs) (Raw tag raw' ∷ ts') (raw' ∷ rs)

-- Parts

text_scripts : (b c : Bool) (v : Text) (trees : Forest) (s : List RawText) → cond (b && c) (whole no_trees []) (whole (text v no_trees) []) ≡ whole trees s → s ≡ []
text_scripts true true v trees s e = cc
text_scripts true false v trees s e = cc
text_scripts false c v trees s e = cc

start_scripts : (b c : Bool) (tag : Tag) (trees : Forest) (s : List RawText) → cond b (cond c (whole (element tag no_trees no_trees) []) (opens tag)) misplaced ≡ whole trees s → s ≡ []
start_scripts true true tag trees s e = cc
start_scripts true false tag trees s e = absurd (cc)
start_scripts false c tag trees s e = absurd (cc)

no_scripts : (name : Text) (t : PageToken) (trees : Forest) (s : List RawText) → is_raw t ≡ false → part_of name t ≡ whole trees s → s ≡ []
unfolding part_of
no_scripts name (Space v) trees s e p = text_scripts (is_html name) (list_all is_space v) v trees s p
no_scripts name (token.Text v) trees s e p = text_scripts (is_html name) (list_all is_space v) v trees s p
no_scripts name (Comment v) trees s e p = cc
no_scripts name (StartTag tag) trees s e p = start_scripts (is_allowed tag) (is_void tag.name) tag trees s p
no_scripts name (Raw tag raw) trees s e p = absurd (cc)
no_scripts name Doctype trees s e p = absurd (cc)
no_scripts name (EndTag v) trees s e p = absurd (cc)

raw_is : (name : Text) (tag : Tag) (raw : RawText) → part_of name (Raw tag raw) ≡ cond (is_allowed tag) (raw_part tag raw) misplaced
unfolding part_of
raw_is name tag raw = refl

style_is : (name : Text) (tag : Tag) (raw : RawText) → is_script tag.name ≡ false → part_of name (Raw tag raw) ≡ cond (is_allowed tag) (whole (element tag (text_alone raw.text) no_trees) []) misplaced
style_is name tag raw e =
    let others : Part = whole (element tag (text_alone raw.text) no_trees) [] in
    raw_is name tag raw ∙ ap (λ b. cond (is_allowed tag) (cond b (whole (element tag no_trees no_trees) (raw ∷ [])) others) misplaced) e

script_is : (name : Text) (tag : Tag) (raw : RawText) → is_script tag.name ≡ true → part_of name (Raw tag raw) ≡ cond (is_allowed tag) (whole (element tag no_trees no_trees) (raw ∷ [])) misplaced
script_is name tag raw e =
    let others : Part = whole (element tag (text_alone raw.text) no_trees) [] in
    raw_is name tag raw ∙ ap (λ b. cond (is_allowed tag) (cond b (whole (element tag no_trees no_trees) (raw ∷ [])) others) misplaced) e

allowed_part : (b : Bool) (f trees : Forest) (r s : List RawText) → cond b (whole f r) misplaced ≡ whole trees s → (b ≡ true) × (f ≡ trees) × (r ≡ s)
allowed_part true f trees r s e = (refl, cc, cc)
allowed_part false f trees r s e = absurd (cc)

no_opening : (b : Bool) (f : Forest) (r : List RawText) (tag : Tag) → cond b (whole f r) misplaced ≡ opens tag → ⊥
no_opening true f r tag e = absurd (cc)
no_opening false f r tag e = absurd (cc)

style_part : (name : Text) (tag : Tag) (raw raw' : RawText) (trees : Forest) (s : List RawText) → is_script tag.name ≡ false → raw'.text ≡ raw.text → part_of name (Raw tag raw) ≡ whole trees s → (part_of name (Raw tag raw') ≡ whole trees []) × (s ≡ [])
style_part name tag raw raw' trees s e f p =
    let a = allowed_part (is_allowed tag) (element tag (text_alone raw.text) no_trees) trees [] s (sym (style_is name tag raw e) ∙ p) in
    (style_is name tag raw' e ∙ ap (λ x. cond (is_allowed tag) (whole (element tag (text_alone x) no_trees) []) misplaced) f ∙ ap (λ b. cond b (whole (element tag (text_alone raw.text) no_trees) []) misplaced) a.0 ∙ ap (λ x. whole x []) a.1, sym a.2)

script_part : (name : Text) (tag : Tag) (raw raw' : RawText) (trees : Forest) (s : List RawText) → is_script tag.name ≡ true → part_of name (Raw tag raw) ≡ whole trees s → (part_of name (Raw tag raw') ≡ whole trees (raw' ∷ [])) × (s ≡ raw ∷ [])
script_part name tag raw raw' trees s e p =
    let a = allowed_part (is_allowed tag) (element tag no_trees no_trees) trees (raw ∷ []) s (sym (script_is name tag raw e) ∙ p) in
    (script_is name tag raw' e ∙ ap (λ b. cond b (whole (element tag no_trees no_trees) (raw' ∷ [])) misplaced) a.0 ∙ ap (λ x. whole x (raw' ∷ [])) a.1, sym a.2)

raw_opens : (name : Text) (tag inner : Tag) (raw : RawText) → part_of name (Raw tag raw) ≡ opens inner → ⊥
raw_opens name tag inner raw p = by_script (is_script tag.name) refl
  where
    by_script : (b : Bool) → is_script tag.name ≡ b → ⊥
    by_script true e = no_opening (is_allowed tag) (element tag no_trees no_trees) (raw ∷ []) inner (sym (script_is name tag raw e) ∙ p)
    by_script false e = no_opening (is_allowed tag) (element tag (text_alone raw.text) no_trees) [] inner (sym (style_is name tag raw e) ∙ p)

-- The first token

data Head (t : PageToken) (ts : List PageToken) : List (List ℕ) → List PageToken → List RawText → Type 0 where
  kept : (ts' : List PageToken) (xs : List (List ℕ)) (rs : List RawText) → is_raw t ≡ false → Renewal ts xs ts' rs → Head t ts xs (t ∷ ts') rs
  styled : (tag : Tag) (raw raw' : RawText) (ts' : List PageToken) (xs : List (List ℕ)) (rs : List RawText) → t ≡ Raw tag raw → is_script tag.name ≡ false → raw'.text ≡ raw.text → Renewal ts xs ts' rs → Head t ts xs (Raw tag raw' ∷ ts') rs
  scripted : (tag : Tag) (raw raw' : RawText) (ts' : List PageToken) (x : List ℕ) (xs : List (List ℕ)) (rs : List RawText) → t ≡ Raw tag raw → is_script tag.name ≡ true → Renewal ts xs ts' rs → Head t ts (x ∷ xs) (Raw tag raw' ∷ ts') (raw' ∷ rs)

head : (t : PageToken) (ts all all' : List PageToken) (xs : List (List ℕ)) (rs : List RawText) → all ≡ t ∷ ts → Renewal all xs all' rs → Head t ts xs all' rs
head t ts all all' xs rs e done = absurd (cc)
head t ts all all' xs rs e (same u us us' ys qs r h) =
    let one : u ≡ t = cc in let two : us ≡ ts = cc in
    subst (λ z. Head t ts ys (z ∷ us') qs) (sym one) (kept us' ys qs (sym (ap is_raw one) ∙ r) (subst (λ z. Renewal z ys us' qs) two h))
head t ts all all' xs rs e (style tag raw raw' us us' ys qs s f h) =
    let one : t ≡ Raw tag raw = cc in let two : us ≡ ts = cc in
    styled tag raw raw' us' ys qs one s f (subst (λ z. Renewal z ys us' qs) two h)
head t ts all all' xs rs e (script tag raw raw' us us' y ys qs s f h) =
    let one : t ≡ Raw tag raw = cc in let two : us ≡ ts = cc in
    scripted tag raw raw' us' y ys qs one s (subst (λ z. Renewal z ys us' qs) two h)

-- Content

pub record Renewed (name : Text) (behind ts' : List PageToken) (f : Forest) (rs : List RawText) : Type 0 where
  pub behind' : List PageToken
  pub xs : List (List ℕ)
  pub inner : List RawText
  pub others : List RawText
  pub scripts : rs ≡ inner ++ others
  pub rest : Renewal behind xs behind' others
  pub reads : Content name ts' behind' f inner

pub renewed : (name : Text) (ts behind : List PageToken) (f : Forest) (s : List RawText) → Content name ts behind f s → (xs : List (List ℕ)) (ts' : List PageToken) (rs : List RawText) → Renewal ts xs ts' rs → Renewed name behind ts' f rs
renewed name ts behind f s (ended n b) xs ts' rs h = by_head xs ts' rs (head (EndTag n) b (EndTag n ∷ b) ts' xs rs refl h)
  where
    by_head : (xs : List (List ℕ)) (ts' : List PageToken) (rs : List RawText) → Head (EndTag n) b xs ts' rs → Renewed n b ts' no_trees rs
    by_head xs ts' rs (kept us ys qs r k) = record { behind' = us; xs = ys; inner = []; others = qs; scripts = refl; rest = k; reads = ended n us }
    by_head xs ts' rs (styled tag raw raw' us ys qs e r g k) = absurd (cc)
    by_head xs ts' rs (scripted tag raw raw' us y ys qs e r k) = absurd (cc)
renewed name ts behind f s (alone n t us b trees g r r' p c) xs ts' rs h =
    by_head xs ts' rs (head t us (t ∷ us) ts' xs rs refl h) (λ ys vs qs k. renewed n us b g r' c ys vs qs k)
  where
    by_head : (xs : List (List ℕ)) (ts' : List PageToken) (rs : List RawText) → Head t us xs ts' rs → ((ys : List (List ℕ)) (vs : List PageToken) (qs : List RawText) → Renewal us ys vs qs → Renewed n b vs g qs) → Renewed n b ts' (joined trees g) rs
    by_head xs ts' rs (kept vs ys qs e k) step =
        let w = step ys vs qs k in
        let none = no_scripts n t trees r e p in
        record { behind' = w.behind'; xs = w.xs; inner = w.inner; others = w.others; scripts = w.scripts; rest = w.rest; reads = subst (λ z. Content n (t ∷ vs) w.behind' (joined trees g) (z ++ w.inner)) none (alone n t vs w.behind' trees g r w.inner p w.reads) }
    by_head xs ts' rs (styled tag raw raw' vs ys qs e q m k) step =
        let w = step ys vs qs k in
        let part = style_part n tag raw raw' trees r q m (sym (ap (part_of n) e) ∙ p) in
        record { behind' = w.behind'; xs = w.xs; inner = w.inner; others = w.others; scripts = w.scripts; rest = w.rest; reads = alone n (Raw tag raw') vs w.behind' trees g [] w.inner part.0 w.reads }
    by_head xs ts' rs (scripted tag raw raw' vs y ys qs e q k) step =
        let w = step ys vs qs k in
        let part = script_part n tag raw raw' trees r q (sym (ap (part_of n) e) ∙ p) in
        record { behind' = w.behind'; xs = w.xs; inner = raw' ∷ w.inner; others = w.others; scripts = ap (λ z. raw' ∷ z) w.scripts; rest = w.rest; reads = alone n (Raw tag raw') vs w.behind' trees g (raw' ∷ []) w.inner part.0 w.reads }
renewed name ts behind f s (nested n tag t us b b' inner g r r' p c d) xs ts' rs h =
    by_head xs ts' rs (head t us (t ∷ us) ts' xs rs refl h) (λ ys vs qs k. renewed tag.name us b inner r c ys vs qs k) (λ ys vs qs k. renewed n b b' g r' d ys vs qs k)
  where
    by_head : (xs : List (List ℕ)) (ts' : List PageToken) (rs : List RawText) → Head t us xs ts' rs → ((ys : List (List ℕ)) (vs : List PageToken) (qs : List RawText) → Renewal us ys vs qs → Renewed tag.name b vs inner qs) → ((ys : List (List ℕ)) (vs : List PageToken) (qs : List RawText) → Renewal b ys vs qs → Renewed n b' vs g qs) → Renewed n b' ts' (element tag inner g) rs
    by_head xs ts' rs (kept vs ys qs e k) step then =
        let w = step ys vs qs k in
        let z = then w.xs w.behind' w.others w.rest in
        record { behind' = z.behind'; xs = z.xs; inner = w.inner ++ z.inner; others = z.others; scripts = w.scripts ∙ ap (λ x. w.inner ++ x) z.scripts ∙ sym (append_assoc w.inner z.inner z.others); rest = z.rest; reads = nested n tag t vs w.behind' z.behind' inner g w.inner z.inner p w.reads z.reads }
    by_head xs ts' rs (styled tag' raw raw' vs ys qs e q m k) step then = absurd (raw_opens n tag' tag raw (sym (ap (part_of n) e) ∙ p))
    by_head xs ts' rs (scripted tag' raw raw' vs y ys qs e q k) step then = absurd (raw_opens n tag' tag raw (sym (ap (part_of n) e) ∙ p))

-- Pages

record Prolog (seen : Bool) (tag : Tag) (content : List PageToken) (xs : List (List ℕ)) (ts' : List PageToken) (rs : List RawText) : Type 0 where
  content' : List PageToken
  begins : behind_prolog seen ts' ≡ StartTag tag ∷ content'
  rest : Renewal content xs content' rs

prolog : (seen : Bool) (ts : List PageToken) (xs : List (List ℕ)) (ts' : List PageToken) (rs : List RawText) (tag : Tag) (content : List PageToken) → behind_prolog seen ts ≡ StartTag tag ∷ content → Renewal ts xs ts' rs → Prolog seen tag content xs ts' rs
prolog seen ts xs ts' rs tag content e done = absurd (cc)
prolog seen ts xs ts' rs tag content e (same (Space v) us us' ys qs r h) = let p = prolog seen us ys us' qs tag content e h in record { content' = p.content'; begins = p.begins; rest = p.rest }
prolog seen ts xs ts' rs tag content e (same (Comment v) us us' ys qs r h) = let p = prolog seen us ys us' qs tag content e h in record { content' = p.content'; begins = p.begins; rest = p.rest }
prolog false ts xs ts' rs tag content e (same Doctype us us' ys qs r h) = let p = prolog true us ys us' qs tag content e h in record { content' = p.content'; begins = p.begins; rest = p.rest }
prolog true ts xs ts' rs tag content e (same Doctype us us' ys qs r h) = absurd (cc)
prolog seen ts xs ts' rs tag content e (same (token.Text v) us us' ys qs r h) = absurd (cc)
prolog seen ts xs ts' rs tag content e (same (EndTag v) us us' ys qs r h) = absurd (cc)
prolog seen ts xs ts' rs tag content e (same (Raw v w) us us' ys qs r h) = absurd (cc)
prolog seen ts xs ts' rs tag content e (same (StartTag v) us us' ys qs r h) =
    let one : StartTag v ≡ StartTag tag = cc in let two : us ≡ content = cc in
    record { content' = us'; begins = ap (λ x. x ∷ us') one; rest = subst (λ z. Renewal z ys us' qs) two h }
prolog seen ts xs ts' rs tag content e (style v raw raw' us us' ys qs s f h) = absurd (cc)
prolog seen ts xs ts' rs tag content e (script v raw raw' us us' y ys qs s f h) = absurd (cc)

outside : (ts : List PageToken) (xs : List (List ℕ)) (ts' : List PageToken) (rs : List RawText) → list_all is_outside ts ≡ true → Renewal ts xs ts' rs → (list_all is_outside ts' ≡ true) × (rs ≡ [])
outside ts xs ts' rs e done = (refl, refl)
outside ts xs ts' rs e (same t us us' ys qs r h) =
    let p = outside us ys us' qs (and_parts (is_outside t) (list_all is_outside us) e).1 h in
    by_token (is_outside t) e p
  where
    by_token : (b : Bool) → (b && list_all is_outside us) ≡ true → (list_all is_outside us' ≡ true) × (qs ≡ []) → ((b && list_all is_outside us') ≡ true) × (qs ≡ [])
    by_token true f p = p
    by_token false f p = absurd (cc)
outside ts xs ts' rs e (style v raw raw' us us' ys qs s f h) = absurd (cc)
outside ts xs ts' rs e (script v raw raw' us us' y ys qs s f h) = absurd (cc)

append_none : {A : Type 0} (xs : List A) → xs ++ [] ≡ xs
append_none [] = refl
append_none (x ∷ xs) = ap (λ ys. x ∷ ys) (append_none xs)

pub renewed_page : (ts : List PageToken) (nodes : Nodes) (raws : List RawText) (xs : List (List ℕ)) (ts' : List PageToken) (rs : List RawText) → PageOf ts nodes raws → Renewal ts xs ts' rs → PageOf ts' nodes rs
renewed_page ts nodes raws xs ts' rs (page us tag f s read) h =
    let p = prolog false us xs ts' rs tag read.content read.begins h in
    let c = renewed tag.name read.content read.behind f s read.reads xs p.content' rs p.rest in
    let o = outside read.behind c.xs c.behind' c.others read.ends c.rest in
    let is : c.inner ≡ rs = sym (append_none c.inner) ∙ ap (λ z. c.inner ++ z) (sym o.1) ∙ sym c.scripts in
    let read' : IsPage ts' tag f rs = record {
      content = p.content';
      behind = c.behind';
      begins = p.begins;
      named = read.named;
      allowed = read.allowed;
      reads = subst (λ z. Content tag.name p.content' c.behind' f z) is c.reads;
      ends = o.0;
    } in
    page ts' tag f rs read'

-- The scripts of a page are those among its tokens

scripts_alone : (name : Text) (t : PageToken) (ts : List PageToken) (trees : Forest) (s : List RawText) → part_of name t ≡ whole trees s → scripts_in (t ∷ ts) ≡ s ++ scripts_in ts
scripts_alone name (Space v) ts trees s p = ap (λ z. z ++ scripts_in ts) (sym (no_scripts name (Space v) trees s refl p))
scripts_alone name (token.Text v) ts trees s p = ap (λ z. z ++ scripts_in ts) (sym (no_scripts name (token.Text v) trees s refl p))
scripts_alone name (Comment v) ts trees s p = ap (λ z. z ++ scripts_in ts) (sym (no_scripts name (Comment v) trees s refl p))
scripts_alone name (StartTag v) ts trees s p = ap (λ z. z ++ scripts_in ts) (sym (no_scripts name (StartTag v) trees s refl p))
scripts_alone name (EndTag v) ts trees s p = ap (λ z. z ++ scripts_in ts) (sym (no_scripts name (EndTag v) trees s refl p))
scripts_alone name Doctype ts trees s p = ap (λ z. z ++ scripts_in ts) (sym (no_scripts name Doctype trees s refl p))
scripts_alone name (Raw tag raw) ts trees s p = by_script (is_script tag.name) refl
  where
    by_script : (b : Bool) → is_script tag.name ≡ b → cond b (raw ∷ scripts_in ts) (scripts_in ts) ≡ s ++ scripts_in ts
    by_script true e = ap (λ z. z ++ scripts_in ts) (sym (script_part name tag raw raw trees s e p).1)
    by_script false e = ap (λ z. z ++ scripts_in ts) (sym (style_part name tag raw raw trees s e refl p).1)

scripts_opens : (name : Text) (t : PageToken) (ts : List PageToken) (tag : Tag) → part_of name t ≡ opens tag → scripts_in (t ∷ ts) ≡ scripts_in ts
scripts_opens name (Space v) ts tag p = refl
scripts_opens name (token.Text v) ts tag p = refl
scripts_opens name (Comment v) ts tag p = refl
scripts_opens name (StartTag v) ts tag p = refl
scripts_opens name (EndTag v) ts tag p = refl
scripts_opens name Doctype ts tag p = refl
scripts_opens name (Raw tag' raw) ts tag p = absurd (raw_opens name tag' tag raw p)

content_scripts : (name : Text) (ts behind : List PageToken) (f : Forest) (s : List RawText) → Content name ts behind f s → scripts_in ts ≡ s ++ scripts_in behind
content_scripts name ts behind f s (ended n b) = refl
content_scripts name ts behind f s (alone n t us b trees g r r' p c) =
    scripts_alone n t us trees r p ∙ ap (λ z. r ++ z) (content_scripts n us b g r' c) ∙ sym (append_assoc r r' (scripts_in b))
content_scripts name ts behind f s (nested n tag t us b b' inner g r r' p c d) =
    scripts_opens n t us tag p ∙ content_scripts tag.name us b inner r c ∙ ap (λ z. r ++ z) (content_scripts n b b' g r' d) ∙ sym (append_assoc r r' (scripts_in b'))

prolog_scripts : (seen : Bool) (ts rest : List PageToken) (tag : Tag) → behind_prolog seen ts ≡ StartTag tag ∷ rest → scripts_in ts ≡ scripts_in rest
prolog_scripts seen [] rest tag e = absurd (cc)
prolog_scripts seen (Space v ∷ ts) rest tag e = prolog_scripts seen ts rest tag e
prolog_scripts seen (Comment v ∷ ts) rest tag e = prolog_scripts seen ts rest tag e
prolog_scripts false (Doctype ∷ ts) rest tag e = prolog_scripts true ts rest tag e
prolog_scripts true (Doctype ∷ ts) rest tag e = absurd (cc)
prolog_scripts seen (token.Text v ∷ ts) rest tag e = absurd (cc)
prolog_scripts seen (StartTag v ∷ ts) rest tag e = let two : ts ≡ rest = cc in ap scripts_in two
prolog_scripts seen (EndTag v ∷ ts) rest tag e = absurd (cc)
prolog_scripts seen (Raw v w ∷ ts) rest tag e = absurd (cc)

outside_scripts : (ts : List PageToken) → list_all is_outside ts ≡ true → scripts_in ts ≡ []
outside_scripts [] e = refl
outside_scripts (Space v ∷ ts) e = outside_scripts ts e
outside_scripts (Comment v ∷ ts) e = outside_scripts ts e
outside_scripts (Doctype ∷ ts) e = absurd (cc)
outside_scripts (token.Text v ∷ ts) e = absurd (cc)
outside_scripts (StartTag v ∷ ts) e = absurd (cc)
outside_scripts (EndTag v ∷ ts) e = absurd (cc)
outside_scripts (Raw v w ∷ ts) e = absurd (cc)

pub page_scripts : (ts : List PageToken) (nodes : Nodes) (raws : List RawText) → PageOf ts nodes raws → scripts_in ts ≡ raws
page_scripts ts nodes raws (page us tag f s read) =
    prolog_scripts false us read.content tag read.begins ∙ content_scripts tag.name read.content read.behind f s read.reads ∙ ap (λ z. s ++ z) (outside_scripts read.behind read.ends) ∙ append_none s
