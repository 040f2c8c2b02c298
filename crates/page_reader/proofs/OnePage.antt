-- No tokens are two pages.
use Rattle.std.proofs.Common.{◌≡◌, ◌∙◌, List, [], ◌∷◌, ◌++◌, refl, sym, ap, subst}
use Rattle.js_core.specs.Text.{Text}
use Rattle.dom_tree.specs.Node.{Nodes, document_alone}
use Rattle.page_tokens.specs.declared.token.PageToken.{PageToken}
use Rattle.page_tokens.specs.declared.token.PageToken.TheVariants.{EndTag, StartTag}
use Rattle.page_tokens.specs.declared.token.RawText.{RawText}
use Rattle.page_reader.specs.Forest.{Forest, grown, joined}
use Rattle.page_reader.specs.Forest.Forest.{no_trees, element}
use Rattle.page_reader.specs.Pages.{Content, PageOf, part_of}
use Rattle.page_reader.specs.Pages.Content.{ended, alone, nested}
use Rattle.page_reader.specs.Pages.PageOf.{page}
use Rattle.page_reader.specs.Pages.Part.{whole, opens}
use Rattle.page_reader.proofs.Steps.{Head, head, no_part}
use Rattle.page_reader.proofs.Steps.Head.{at_end, at_whole, at_start}

-- two readings of some content are one
pub record IsOne (behind behind' : List PageToken) (f f' : Forest) (s s' : List RawText) : Type 0 where
  pub same_behind : behind ≡ behind'
  pub same_trees : f ≡ f'
  pub same_scripts : s ≡ s'

pub content_once : (name : Text) (ts behind behind' : List PageToken) (f f' : Forest) (s s' : List RawText) → Content name ts behind f s → Content name ts behind' f' s' → IsOne behind behind' f f' s s'
content_once name ts behind behind' f f' s s' (ended n b) other = by_head behind' f' s' (head n (EndTag n) b (EndTag n ∷ b) behind' f' s' refl other)
  where
    by_head : (behind' : List PageToken) (f' : Forest) (s' : List RawText) → Head n (EndTag n) b behind' f' s' → IsOne b behind' no_trees f' [] s'
    by_head behind' f' s' (at_end e e') = record { same_behind = e'; same_trees = refl; same_scripts = refl }
    by_head behind' f' s' (at_whole trees g q q' e c) = absurd (let m = no_part n n in cc)
    by_head behind' f' s' (at_start tag rest k g q q' e c d) = absurd (let m = no_part n n in cc)
content_once name ts behind behind' f f' s s' (alone n t us b trees g r r' p c) other =
    by_head behind' f' s' (head n t us (t ∷ us) behind' f' s' refl other) (λ y k z d. content_once n us b y g k r' z c d)
  where
    by_head : (behind' : List PageToken) (f' : Forest) (s' : List RawText) → Head n t us behind' f' s' → ((y : List PageToken) (k : Forest) (z : List RawText) → Content n us y k z → IsOne b y g k r' z) → IsOne b behind' (joined trees g) f' (r ++ r') s'
    by_head behind' f' s' (at_end e e') once = absurd (let m = no_part n n in let o = ap (part_of n) e in cc)
    by_head behind' f' s' (at_whole trees' g' q q' e d) once =
        let same : whole trees r ≡ whole trees' q = sym p ∙ e in
        let one : trees ≡ trees' = cc in
        let two : r ≡ q = cc in
        let rest = once behind' g' q' d in
        record { same_behind = rest.same_behind; same_trees = ap (λ x. joined x g) one ∙ ap (joined trees') rest.same_trees; same_scripts = ap (λ x. x ++ r') two ∙ ap (λ x. q ++ x) rest.same_scripts }
    by_head behind' f' s' (at_start tag rest k g' q q' e d d') once = absurd (cc)
content_once name ts behind behind' f f' s s' (nested n tag t us b b' inner g r r' p c d) other =
    by_head behind' f' s' (head n t us (t ∷ us) behind' f' s' refl other) (λ y k z e. content_once tag.name us b y inner k r z c e) (λ y k z e. content_once n b b' y g k r' z d e)
  where
    by_head : (behind' : List PageToken) (f' : Forest) (s' : List RawText) → Head n t us behind' f' s' → ((y : List PageToken) (k : Forest) (z : List RawText) → Content tag.name us y k z → IsOne b y inner k r z) → ((y : List PageToken) (k : Forest) (z : List RawText) → Content n b y k z → IsOne b' y g k r' z) → IsOne b' behind' (element tag inner g) f' (r ++ r') s'
    by_head behind' f' s' (at_end e e') once then = absurd (let m = no_part n n in let o = ap (part_of n) e in cc)
    by_head behind' f' s' (at_whole trees' g' q q' e d') once then = absurd (cc)
    by_head behind' f' s' (at_start tag' rest k g' q q' e c' d') once then =
        let same : opens tag ≡ opens tag' = sym p ∙ e in
        let one : tag ≡ tag' = cc in
        let first = once rest k q (subst (λ x. Content x us rest k q) (ap (λ x. x.name) (sym one)) c') in
        let second = then behind' g' q' (subst (λ x. Content n x behind' g' q') (sym first.same_behind) d') in
        record { same_behind = second.same_behind; same_trees = ap (λ x. element x inner g) one ∙ ap (λ x. element tag' x g) first.same_trees ∙ ap (element tag' k) second.same_trees; same_scripts = ap (λ x. x ++ r') first.same_scripts ∙ ap (λ x. q ++ x) second.same_scripts }

pub page_once : (tokens : List PageToken) (left right : Nodes) (first second : List RawText) → PageOf tokens left first → PageOf tokens right second → (left ≡ right) × (first ≡ second)
page_once tokens left right first second (page ts tag f s read) other = by_page right second other
  where
    by_page : (right : Nodes) (second : List RawText) → PageOf ts right second → (grown (element tag f no_trees) (record { 0 = 0 }) document_alone ≡ right) × (s ≡ second)
    by_page right second (page ts' tag' f' s' read') =
        let same : StartTag tag ∷ read.content ≡ StartTag tag' ∷ read'.content = sym read.begins ∙ read'.begins in
        let one : tag ≡ tag' = cc in
        let two : read.content ≡ read'.content = cc in
        let reads' : Content tag.name read.content read'.behind f' s' = subst (λ x. Content x read.content read'.behind f' s') (ap (λ x. x.name) (sym one)) (subst (λ x. Content tag'.name x read'.behind f' s') (sym two) read'.reads) in
        let rest = content_once tag.name read.content read.behind read'.behind f f' s s' read.reads reads' in
        let root : Forest → Nodes = λ x. grown x (record { 0 = 0 }) document_alone in
        (ap (λ x. root (element x f no_trees)) one ∙ ap (λ x. root (element tag' x no_trees)) rest.same_trees, rest.same_scripts)
