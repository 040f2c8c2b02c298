-- Tokens of a page, and those of a longer one.
use Rattle.std.proofs.Common.{◌≡◌, ◌∙◌, Bool, true, false, ◌&&◌, List, [], ◌∷◌, ◌++◌, refl, sym, ap, subst}
use Rattle.std.specs.List.{list_all}
use Rattle.js_core.specs.Text.{Text}
use Rattle.dom_tree.specs.Node.{Nodes, document_alone}
use Rattle.page_tokens.specs.declared.token.PageToken.{PageToken}
use Rattle.page_tokens.specs.declared.token.PageToken.TheVariants.{Comment, Doctype, EndTag, Raw, Space, StartTag}
use Rattle.page_tokens.specs.declared.token.PageToken.TheVariants as token
use Rattle.page_tokens.specs.declared.token.RawText.{RawText}
use Rattle.page_tokens.specs.declared.token.Tag.{Tag}
use Rattle.page_tokens.specs.Laws.{ends_itself}
use Rattle.page_reader.specs.Forest.{Forest, grown, joined}
use Rattle.page_reader.specs.Forest.Forest.{no_trees, element}
use Rattle.page_reader.specs.Pages.{Content, IsPage, PageOf, behind_prolog, is_outside}
use Rattle.page_reader.specs.Pages.Content.{ended, alone, nested}
use Rattle.page_reader.specs.Pages.PageOf.{page}
use Rattle.page_reader.proofs.OnePage.{content_once}

-- More tokens behind content

pub content_longer : (name : Text) (ts behind : List PageToken) (f : Forest) (s : List RawText) (more : List PageToken) → Content name ts behind f s → Content name (ts ++ more) (behind ++ more) f s
content_longer name ts behind f s more (ended n b) = ended n (b ++ more)
content_longer name ts behind f s more (alone n t us b trees g r r' p c) = alone n t (us ++ more) (b ++ more) trees g r r' p (content_longer n us b g r' more c)
content_longer name ts behind f s more (nested n tag t us b b' inner g r r' p c d) =
    nested n tag t (us ++ more) (b ++ more) (b' ++ more) inner g r r' p (content_longer tag.name us b inner r more c) (content_longer n b b' g r' more d)

pub prolog_longer : (seen : Bool) (ts more rest : List PageToken) (t : PageToken) → behind_prolog seen ts ≡ t ∷ rest → behind_prolog seen (ts ++ more) ≡ t ∷ (rest ++ more)
prolog_longer seen [] more rest t e = absurd (cc)
prolog_longer seen (Space v ∷ ts) more rest t e = prolog_longer seen ts more rest t e
prolog_longer seen (Comment v ∷ ts) more rest t e = prolog_longer seen ts more rest t e
prolog_longer false (Doctype ∷ ts) more rest t e = prolog_longer true ts more rest t e
prolog_longer true (Doctype ∷ ts) more rest t e = ap (λ x. x ++ more) e
prolog_longer seen (token.Text v ∷ ts) more rest t e = ap (λ x. x ++ more) e
prolog_longer seen (StartTag v ∷ ts) more rest t e = ap (λ x. x ++ more) e
prolog_longer seen (EndTag v ∷ ts) more rest t e = ap (λ x. x ++ more) e
prolog_longer seen (Raw v w ∷ ts) more rest t e = ap (λ x. x ++ more) e

all_outside_behind : (a b : List PageToken) → list_all is_outside (a ++ b) ≡ true → (list_all is_outside a ≡ true) × (list_all is_outside b ≡ true)
all_outside_behind [] b e = (refl, e)
all_outside_behind (t ∷ a) b e = by_case (is_outside t) (all_outside_behind a b) e
  where
    by_case : (x : Bool) → (list_all is_outside (a ++ b) ≡ true → (list_all is_outside a ≡ true) × (list_all is_outside b ≡ true)) → (x && list_all is_outside (a ++ b)) ≡ true → ((x && list_all is_outside a) ≡ true) × (list_all is_outside b ≡ true)
    by_case true f g = f g
    by_case false f g = absurd (cc)

-- the pages of some tokens and of more of them are the same, and the others may stand outside
pub record IsSame (others : List PageToken) (left right : Nodes) (first second : List RawText) : Type 0 where
  pub nodes : left ≡ right
  pub scripts : first ≡ second
  pub outside : list_all is_outside others ≡ true

pub page_longer : (ts others : List PageToken) (left right : Nodes) (first second : List RawText) → PageOf ts left first → PageOf (ts ++ others) right second → IsSame others left right first second
page_longer ts others left right first second (page us tag f s read) other = by_page (us ++ others) right second refl other
  where
    by_page : (all : List PageToken) (right : Nodes) (second : List RawText) → all ≡ us ++ others → PageOf all right second → IsSame others (grown (element tag f no_trees) (record { 0 = 0 }) document_alone) right s second
    by_page all right second e (page us' tag' f' s' read') =
        let begins = prolog_longer false us others read.content (StartTag tag) read.begins in
        let same : StartTag tag ∷ (read.content ++ others) ≡ StartTag tag' ∷ read'.content = sym begins ∙ sym (ap (behind_prolog false) e) ∙ read'.begins in
        let one : tag ≡ tag' = cc in
        let two : read.content ++ others ≡ read'.content = cc in
        let longer = content_longer tag.name read.content read.behind f s others read.reads in
        let reads' : Content tag.name (read.content ++ others) read'.behind f' s' = subst (λ x. Content x (read.content ++ others) read'.behind f' s') (ap (λ x. x.name) (sym one)) (subst (λ x. Content tag'.name x read'.behind f' s') (sym two) read'.reads) in
        let rest = content_once tag.name (read.content ++ others) (read.behind ++ others) read'.behind f f' s s' longer reads' in
        let root : Forest → Nodes = λ x. grown x (record { 0 = 0 }) document_alone in
        record {
          nodes = ap (λ x. root (element x f no_trees)) one ∙ ap (λ x. root (element tag' x no_trees)) rest.same_trees;
          scripts = rest.same_scripts;
          outside = (all_outside_behind read.behind others (ap (list_all is_outside) rest.same_behind ∙ read'.ends)).1;
        }

-- One token less: a text at the end

-- content that does not need the last token
record Shorter (name : Text) (front behind : List PageToken) (last : PageToken) (f : Forest) (s : List RawText) : Type 0 where
  back : List PageToken
  is : behind ≡ back ++ last ∷ []
  reads : Content name front back f s

no_content : (name : Text) (all behind : List PageToken) (f : Forest) (s : List RawText) → all ≡ [] → Content name all behind f s → ⊥
no_content name all behind f s e (ended n b) = absurd (cc)
no_content name all behind f s e (alone n t' ts' b trees g r r' p c) = absurd (cc)
no_content name all behind f s e (nested n tag t' ts' b b' inner g r r' p c d) = absurd (cc)

not_end_tag : (name : Text) (last : PageToken) → ends_itself last ≡ false → EndTag name ≡ last → ⊥
not_end_tag name last e f = absurd (let g = ap ends_itself f in cc)

content_shorter : (name : Text) (ts front behind : List PageToken) (last : PageToken) (f : Forest) (s : List RawText) → ends_itself last ≡ false → ts ≡ front ++ last ∷ [] → Content name ts behind f s → Shorter name front behind last f s
content_shorter name ts [] behind last f s l e (ended n b) = absurd (not_end_tag n last l (cc))
content_shorter name ts (x ∷ front) behind last f s l e (ended n b) =
    let one : EndTag n ≡ x = cc in
    let two : b ≡ front ++ last ∷ [] = cc in
    record { back = front; is = two; reads = subst (λ y. Content n (y ∷ front) front no_trees []) one (ended n front) }
content_shorter name ts [] behind last f s l e (alone n t us b trees g r r' p c) = absurd (no_content n us b g r' (cc) c)
content_shorter name ts (x ∷ front) behind last f s l e (alone n t us b trees g r r' p c) =
    let one : t ≡ x = cc in
    let two : us ≡ front ++ last ∷ [] = cc in
    let rest = content_shorter n us front b last g r' l two c in
    record { back = rest.back; is = rest.is; reads = subst (λ y. Content n (y ∷ front) rest.back (joined trees g) (r ++ r')) one (alone n t front rest.back trees g r r' p rest.reads) }
content_shorter name ts [] behind last f s l e (nested n tag t us b b' inner g r r' p c d) = absurd (no_content tag.name us b inner r (cc) c)
content_shorter name ts (x ∷ front) behind last f s l e (nested n tag t us b b' inner g r r' p c d) =
    let one : t ≡ x = cc in
    let two : us ≡ front ++ last ∷ [] = cc in
    let first = content_shorter tag.name us front b last inner r l two c in
    let second = content_shorter n b first.back b' last g r' l first.is d in
    record { back = second.back; is = second.is; reads = subst (λ y. Content n (y ∷ front) second.back (element tag inner g) (r ++ r')) one (nested n tag t front first.back second.back inner g r r' p first.reads second.reads) }

record ShorterProlog (seen : Bool) (front rest : List PageToken) (last : PageToken) (tag : Tag) : Type 0 where
  back : List PageToken
  is : rest ≡ back ++ last ∷ []
  begins : behind_prolog seen front ≡ StartTag tag ∷ back

no_start : (seen : Bool) (last : PageToken) (tag : Tag) (rest : List PageToken) → ends_itself last ≡ false → behind_prolog seen (last ∷ []) ≡ StartTag tag ∷ rest → ⊥
no_start seen (Space v) tag rest l e = absurd (cc)
no_start seen (token.Text v) tag rest l e = absurd (cc)
no_start seen (Comment v) tag rest l e = absurd (cc)
no_start seen Doctype tag rest l e = absurd (cc)
no_start seen (StartTag v) tag rest l e = absurd (cc)
no_start seen (EndTag v) tag rest l e = absurd (cc)
no_start seen (Raw v w) tag rest l e = absurd (cc)

prolog_shorter : (seen : Bool) (front rest : List PageToken) (last : PageToken) (tag : Tag) → ends_itself last ≡ false → behind_prolog seen (front ++ last ∷ []) ≡ StartTag tag ∷ rest → ShorterProlog seen front rest last tag
prolog_shorter seen [] rest last tag l e = absurd (no_start seen last tag rest l e)
prolog_shorter seen (Space v ∷ front) rest last tag l e = let p = prolog_shorter seen front rest last tag l e in record { back = p.back; is = p.is; begins = p.begins }
prolog_shorter seen (Comment v ∷ front) rest last tag l e = let p = prolog_shorter seen front rest last tag l e in record { back = p.back; is = p.is; begins = p.begins }
prolog_shorter false (Doctype ∷ front) rest last tag l e = let p = prolog_shorter true front rest last tag l e in record { back = p.back; is = p.is; begins = p.begins }
prolog_shorter true (Doctype ∷ front) rest last tag l e = absurd (cc)
prolog_shorter seen (token.Text v ∷ front) rest last tag l e = absurd (cc)
prolog_shorter seen (StartTag v ∷ front) rest last tag l e =
    let one : StartTag v ≡ StartTag tag = cc in
    let two : front ++ last ∷ [] ≡ rest = cc in
    record { back = front; is = sym two; begins = ap (λ x. x ∷ front) one }
prolog_shorter seen (EndTag v ∷ front) rest last tag l e = absurd (cc)
prolog_shorter seen (Raw v w ∷ front) rest last tag l e = absurd (cc)

-- a page whose last token is a text is one without it, and that text may stand outside
pub record WithoutLast (front : List PageToken) (last : PageToken) (nodes : Nodes) (scripts : List RawText) : Type 0 where
  pub is_page : PageOf front nodes scripts
  pub outside : list_all is_outside (last ∷ []) ≡ true

pub page_shorter : (ts front : List PageToken) (last : PageToken) (nodes : Nodes) (scripts : List RawText) → ends_itself last ≡ false → ts ≡ front ++ last ∷ [] → PageOf ts nodes scripts → WithoutLast front last nodes scripts
page_shorter ts front last nodes scripts l e (page us tag f s read) =
    let p = prolog_shorter false front read.content last tag l (sym (ap (behind_prolog false) e) ∙ read.begins) in
    let c = content_shorter tag.name read.content p.back read.behind last f s l p.is read.reads in
    let ends = all_outside_behind c.back (last ∷ []) (sym (ap (list_all is_outside) c.is) ∙ read.ends) in
    let read' : IsPage front tag f s = record {
      content = p.back;
      behind = c.back;
      begins = p.begins;
      named = read.named;
      allowed = read.allowed;
      reads = c.reads;
      ends = ends.0;
    } in
    record { is_page = page front tag f s read'; outside = ends.1 }
