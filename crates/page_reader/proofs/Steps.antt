-- What a token does to what is pending.
use Rattle.std.proofs.Common.{◌≡◌, ◌∙◌, Bool, true, false, List, [], ◌∷◌, ◌++◌, reverse, refl, sym, ap, subst, Option, Some, None, append_assoc, bytes_eq, length, arith}
use Rattle.std.specs.Option.{ForSome}
use Rattle.std.proofs.lemmas.List.{reverse-append}
use Rattle.std.proofs.lemmas.Slice.Eq.{bytes_eq-Decides}
use Rattle.js_core.specs.Text.{Text}
use Rattle.js_values.specs.declared.ids.NodeId.{NodeId}
use Rattle.dom_tree.specs.Node.{Nodes, is_element, kind_at}
use Rattle.page_tokens.specs.declared.token.PageToken.{PageToken}
use Rattle.page_tokens.specs.declared.token.PageToken.TheVariants.{EndTag}
use Rattle.page_tokens.specs.declared.token.RawText.{RawText}
use Rattle.page_tokens.specs.declared.token.Tag.{Tag}
use Rattle.page_reader.specs.declared.tree.Frame.{Frame}
use Rattle.page_reader.specs.Forest.{Forest, appended, element_content, grown, joined, next_id}
use Rattle.page_reader.specs.Forest.Forest.{no_trees, element, text, comment}
use Rattle.page_reader.specs.Pages.{Content, Part, part_of}
use Rattle.page_reader.specs.Pages.Content.{ended, alone, nested}
use Rattle.page_reader.specs.Pages.Part.{whole, opens, misplaced}
use Rattle.page_reader.specs.Reading.{AreOpen, Follows, KeepsElements, Pending, Placed, left, opened_on}
use Rattle.page_reader.specs.Reading.Pending.{outside, inside}

append_none : {A : Type 0} (xs : List A) → xs ++ [] ≡ xs
append_none [] = refl
append_none (x ∷ xs) = ap (λ ys. x ∷ ys) (append_none xs)

-- trees that are joined grow one after the other
grown_joined : (a b : Forest) (p : NodeId) (t : Nodes) → grown (joined a b) p t ≡ grown b p (grown a p t)
grown_joined no_trees b p t = refl
grown_joined (element tag inner f) b p t = grown_joined f b p (grown inner (next_id t) (appended t p (element_content tag)))
grown_joined (text v f) b p t = grown_joined f b p _
grown_joined (comment v f) b p t = grown_joined f b p _

moved : (st : List Frame) (ts : List PageToken) (t t' u : Nodes) (sc sc' s : List RawText) → t ≡ t' → sc ≡ sc' → Pending st ts t sc u s → Pending st ts t' sc' u s
moved st ts t t' u sc sc' s e f p = subst (λ x. Pending st ts t' x u s) f (subst (λ x. Pending st ts x sc u s) e p)

-- the part of an end tag
pub no_part : (name other : Text) → part_of name (EndTag other) ≡ misplaced
unfolding part_of
no_part name other = refl

-- How content begins

pub data Head (name : Text) (t : PageToken) (ts behind : List PageToken) : Forest → List RawText → Type 0 where
  at_end : t ≡ EndTag name → ts ≡ behind → Head name t ts behind no_trees []
  at_whole : (trees f : Forest) (s s' : List RawText) → part_of name t ≡ whole trees s → Content name ts behind f s' → Head name t ts behind (joined trees f) (s ++ s')
  at_start : (tag : Tag) (rest : List PageToken) (inner f : Forest) (s s' : List RawText) → part_of name t ≡ opens tag → Content tag.name ts rest inner s → Content name rest behind f s' → Head name t ts behind (element tag inner f) (s ++ s')

pub head : (name : Text) (t : PageToken) (ts all behind : List PageToken) (f : Forest) (s : List RawText) → all ≡ t ∷ ts → Content name all behind f s → Head name t ts behind f s
head name t ts all behind f s e (ended n b) = let same : EndTag n ≡ t = cc in let rest : b ≡ ts = cc in at_end (sym same) (sym rest)
head name t ts all behind f s e (alone n t' ts' b trees g r r' p c) =
    let same : t' ≡ t = cc in let rest : ts' ≡ ts = cc in
    at_whole trees g r r' (sym (ap (part_of n) same) ∙ p) (subst (λ x. Content n x b g r') rest c)
head name t ts all behind f s e (nested n tag t' ts' b b' inner g r r' p c d) =
    let same : t' ≡ t = cc in let rest : ts' ≡ ts = cc in
    at_start tag b inner g r r' (sym (ap (part_of n) same) ∙ p) (subst (λ x. Content tag.name x b inner r) rest c) d

no_content : (name : Text) (all behind : List PageToken) (f : Forest) (s : List RawText) → all ≡ [] → Content name all behind f s → ⊥
no_content name all behind f s e (ended n b) = absurd (cc)
no_content name all behind f s e (alone n t' ts' b trees g r r' p c) = absurd (cc)
no_content name all behind f s e (nested n tag t' ts' b b' inner g r r' p c d) = absurd (cc)

-- What is pending inside an element

pub record Inner (frame : Frame) (st : List Frame) (ts : List PageToken) (t : Nodes) (sc : List RawText) (u : Nodes) (s : List RawText) : Type 0 where
  pub behind : List PageToken
  pub f : Forest
  pub r : List RawText
  pub content : Content frame.name ts behind f r
  pub rest : Pending st behind (grown f frame.node t) (sc ++ r) u s

pub inner : (frame : Frame) (st all : List Frame) (ts : List PageToken) (t u : Nodes) (sc s : List RawText) → all ≡ frame ∷ st → Pending all ts t sc u s → Inner frame st ts t sc u s
inner frame st all ts t u sc s e (outside ts' t' sc' o) = absurd (cc)
inner frame st all ts t u sc s e (inside fr below ts' b g t' u' sc' r s' c p) =
    let one : fr ≡ frame = cc in let two : below ≡ st = cc in
    record {
      behind = b;
      f = g;
      r = r;
      content = subst (λ x. Content x.name ts' b g r) one c;
      rest = subst (λ x. Pending x b (grown g frame.node t') (sc' ++ r) u' s') two (subst (λ x. Pending below b (grown g x.node t') (sc' ++ r) u' s') one p);
    }

-- an end tag
pub follows_close : (top : Frame) (st : List Frame) (name : Text) (ts : List PageToken) (t : Nodes) (sc : List RawText) → name ≡ top.name → Follows (top ∷ st) (EndTag name ∷ ts) t sc st ts t sc
follows_close top st name ts t sc e = record {
  on = λ u s p. let i = inner top st (top ∷ st) (EndTag name ∷ ts) t u sc s refl p in by_head i.behind i.f i.r u s (head top.name (EndTag name) ts (EndTag name ∷ ts) i.behind i.f i.r refl i.content) i.rest;
  back = λ u s p. inside top st (EndTag name ∷ ts) ts no_trees t u sc [] s (subst (λ x. Content top.name (EndTag x ∷ ts) ts no_trees []) (sym e) (ended top.name ts)) (moved st ts t t u sc (sc ++ []) s refl (sym (append_none sc)) p);
}
  where
    by_head : (behind : List PageToken) (f : Forest) (r : List RawText) (u : Nodes) (s : List RawText) → Head top.name (EndTag name) ts behind f r → Pending st behind (grown f top.node t) (sc ++ r) u s → Pending st ts t sc u s
    by_head behind f r u s (at_end a b) p = subst (λ x. Pending st x t sc u s) (sym b) (moved st behind t t u (sc ++ []) sc s refl (append_none sc) p)
    by_head behind f r u s (at_whole trees g q q' e c) p = absurd (let n = no_part top.name name in cc)
    by_head behind f r u s (at_start tag rest k g q q' e c d) p = absurd (let n = no_part top.name name in cc)

pub no_close : (top : Frame) (st : List Frame) (name : Text) (ts : List PageToken) (t u : Nodes) (sc s : List RawText) → (name ≡ top.name → ⊥) → Pending (top ∷ st) (EndTag name ∷ ts) t sc u s → ⊥
no_close top st name ts t u sc s differs p = let i = inner top st (top ∷ st) (EndTag name ∷ ts) t u sc s refl p in by_head i.behind i.f i.r (head top.name (EndTag name) ts (EndTag name ∷ ts) i.behind i.f i.r refl i.content)
  where
    by_head : (behind : List PageToken) (f : Forest) (r : List RawText) → Head top.name (EndTag name) ts behind f r → ⊥
    by_head behind f r (at_end a b) = differs (cc)
    by_head behind f r (at_whole trees g q q' e c) = absurd (let n = no_part top.name name in cc)
    by_head behind f r (at_start tag rest k g q q' e c d) = absurd (let n = no_part top.name name in cc)

-- a token that is no end tag, and may not stand there
pub no_place : (top : Frame) (st : List Frame) (tok : PageToken) (ts : List PageToken) (t u : Nodes) (sc s : List RawText) → part_of top.name tok ≡ misplaced → ((name : Text) → tok ≡ EndTag name → ⊥) → Pending (top ∷ st) (tok ∷ ts) t sc u s → ⊥
no_place top st tok ts t u sc s part other p = let i = inner top st (top ∷ st) (tok ∷ ts) t u sc s refl p in by_head i.behind i.f i.r (head top.name tok ts (tok ∷ ts) i.behind i.f i.r refl i.content)
  where
    by_head : (behind : List PageToken) (f : Forest) (r : List RawText) → Head top.name tok ts behind f r → ⊥
    by_head behind f r (at_end a b) = other top.name a
    by_head behind f r (at_whole trees g q q' e c) = absurd (cc)
    by_head behind f r (at_start tag rest k g q q' e c d) = absurd (cc)

pub no_more : (top : Frame) (st : List Frame) (t u : Nodes) (sc s : List RawText) → Pending (top ∷ st) [] t sc u s → ⊥
no_more top st t u sc s p = let i = inner top st (top ∷ st) [] t u sc s refl p in no_content top.name [] i.behind i.f i.r refl i.content

-- a token that is whole by itself
follows_whole : (top : Frame) (st : List Frame) (tok : PageToken) (ts : List PageToken) (t t' : Nodes) (sc sc' : List RawText) (trees : Forest) (s : List RawText) → part_of top.name tok ≡ whole trees s → t' ≡ grown trees top.node t → sc' ≡ sc ++ s → Follows (top ∷ st) (tok ∷ ts) t sc (top ∷ st) ts t' sc'
follows_whole top st tok ts t t' sc sc' trees s part e f = record {
  on = λ u z p. let i = inner top st (top ∷ st) (tok ∷ ts) t u sc z refl p in by_head i.behind i.f i.r u z (head top.name tok ts (tok ∷ ts) i.behind i.f i.r refl i.content) i.rest;
  back = λ u z p. let i = inner top st (top ∷ st) ts t' u sc' z refl p in
      inside top st (tok ∷ ts) i.behind (joined trees i.f) t u sc (s ++ i.r) z (alone top.name tok ts i.behind trees i.f s i.r part i.content) (moved st i.behind (grown i.f top.node t') (grown (joined trees i.f) top.node t) u (sc' ++ i.r) (sc ++ (s ++ i.r)) z (nodes i.f) (lists i.r) i.rest);
}
  where
    nodes : (g : Forest) → grown g top.node t' ≡ grown (joined trees g) top.node t
    nodes g = ap (grown g top.node) e ∙ sym (grown_joined trees g top.node t)

    lists : (r : List RawText) → sc' ++ r ≡ sc ++ (s ++ r)
    lists r = ap (λ x. x ++ r) f ∙ append_assoc sc s r

    by_head : (behind : List PageToken) (g : Forest) (r : List RawText) (u : Nodes) (z : List RawText) → Head top.name tok ts behind g r → Pending st behind (grown g top.node t) (sc ++ r) u z → Pending (top ∷ st) ts t' sc' u z
    by_head behind g r u z (at_end a b) p = absurd (let n = no_part top.name top.name in let q = ap (part_of top.name) a in cc)
    by_head behind g r u z (at_whole trees' g' q q' k c) p =
        let same : whole trees' q ≡ whole trees s = sym k ∙ part in
        let one : trees' ≡ trees = cc in
        let two : q ≡ s = cc in
        inside top st ts behind g' t' u sc' q' z c (moved st behind (grown (joined trees' g') top.node t) (grown g' top.node t') u (sc ++ (q ++ q')) (sc' ++ q') z (ap (λ x. grown (joined x g') top.node t) one ∙ sym (nodes g')) (ap (λ x. sc ++ (x ++ q')) two ∙ sym (lists q')) p)
    by_head behind g r u z (at_start tag rest k g' q q' m c d) p = absurd (cc)

-- a start tag whose content follows
follows_start : (top frame : Frame) (st : List Frame) (tok : PageToken) (ts : List PageToken) (t t' : Nodes) (sc sc' : List RawText) (tag : Tag) → part_of top.name tok ≡ opens tag → t' ≡ appended t top.node (element_content tag) → sc' ≡ sc → frame.name ≡ tag.name → frame.node ≡ next_id t → Follows (top ∷ st) (tok ∷ ts) t sc (frame ∷ top ∷ st) ts t' sc'
follows_start top frame st tok ts t t' sc sc' tag part e f n i = record {
  on = λ u z p. let o = inner top st (top ∷ st) (tok ∷ ts) t u sc z refl p in by_head o.behind o.f o.r u z (head top.name tok ts (tok ∷ ts) o.behind o.f o.r refl o.content) o.rest;
  back = λ u z p.
      let o = inner frame (top ∷ st) (frame ∷ top ∷ st) ts t' u sc' z refl p in
      let q = inner top st (top ∷ st) o.behind (grown o.f frame.node t') u (sc' ++ o.r) z refl o.rest in
      inside top st (tok ∷ ts) q.behind (element tag o.f q.f) t u sc (o.r ++ q.r) z (nested top.name tag tok ts o.behind q.behind o.f q.f o.r q.r part (subst (λ x. Content x ts o.behind o.f o.r) n o.content) q.content)
      (moved st q.behind (grown q.f top.node (grown o.f frame.node t')) (grown (element tag o.f q.f) top.node t) u ((sc' ++ o.r) ++ q.r) (sc ++ (o.r ++ q.r)) z (nodes o.f q.f) (lists o.r q.r) q.rest);
}
  where
    nodes : (a b : Forest) → grown b top.node (grown a frame.node t') ≡ grown (element tag a b) top.node t
    nodes a b = ap (λ x. grown b top.node (grown a x t')) i ∙ ap (λ x. grown b top.node (grown a (next_id t) x)) e

    lists : (a b : List RawText) → (sc' ++ a) ++ b ≡ sc ++ (a ++ b)
    lists a b = ap (λ x. (x ++ a) ++ b) f ∙ append_assoc sc a b

    by_head : (behind : List PageToken) (g : Forest) (r : List RawText) (u : Nodes) (z : List RawText) → Head top.name tok ts behind g r → Pending st behind (grown g top.node t) (sc ++ r) u z → Pending (frame ∷ top ∷ st) ts t' sc' u z
    by_head behind g r u z (at_end a b) p = absurd (let m = no_part top.name top.name in let q = ap (part_of top.name) a in cc)
    by_head behind g r u z (at_whole trees g' q q' k c) p = absurd (cc)
    by_head behind g r u z (at_start tag' rest k g' q q' m c d) p =
        let same : opens tag' ≡ opens tag = sym m ∙ part in
        let one : tag' ≡ tag = cc in
        let name : tag'.name ≡ frame.name = ap (λ x. x.name) one ∙ sym n in
        inside frame (top ∷ st) ts rest k t' u sc' q z (subst (λ x. Content x ts rest k q) name c)
        (inside top st rest behind g' (grown k frame.node t') u (sc' ++ q) q' z d (moved st behind (grown (element tag' k g') top.node t) (grown g' top.node (grown k frame.node t')) u (sc ++ (q ++ q')) ((sc' ++ q) ++ q') z (ap (λ x. grown (element x k g') top.node t) one ∙ sym (nodes k g')) (sym (lists q q')) p))

pub follows_place : (top : Frame) (st : List Frame) (tok : PageToken) (ts : List PageToken) (t t' : Nodes) (sc sc' : List RawText) (opened : Option Frame) → Placed (part_of top.name tok) top.node t sc t' sc' opened → Follows (top ∷ st) (tok ∷ ts) t sc (opened_on opened (top ∷ st)) ts t' sc'
follows_place top st tok ts t t' sc sc' opened p = by_part (part_of top.name tok) opened refl p
  where
    by_part : (part : Part) (o : Option Frame) → part_of top.name tok ≡ part → Placed part top.node t sc t' sc' o → Follows (top ∷ st) (tok ∷ ts) t sc (opened_on o (top ∷ st)) ts t' sc'
    by_part (whole trees s) None e p = follows_whole top st tok ts t t' sc sc' trees s e p.0 p.1
    by_part (whole trees s) (Some frame) e p = absurd p
    by_part (opens tag) None e p = absurd p
    by_part (opens tag) (Some frame) e p = follows_start top frame st tok ts t t' sc sc' tag e p.0 p.1 p.2 p.3
    by_part misplaced o e p = absurd p

pub follows_same : (st : List Frame) (ts : List PageToken) (t : Nodes) (sc : List RawText) → Follows st ts t sc st ts t sc
follows_same st ts t sc = record { on = λ u s p. p; back = λ u s p. p }

pub follows_then : (st st' st'' : List Frame) (ts ts' ts'' : List PageToken) (t t' t'' : Nodes) (sc sc' sc'' : List RawText) → Follows st ts t sc st' ts' t' sc' → Follows st' ts' t' sc' st'' ts'' t'' sc'' → Follows st ts t sc st'' ts'' t'' sc''
follows_then st st' st'' ts ts' ts'' t t' t'' sc sc' sc'' a b = record { on = λ u s p. b.on u s (a.on u s p); back = λ u s p. a.back u s (b.back u s p) }

-- The list of open elements

pub popped : (below below' : List Frame) (frame : Frame) → below ≡ below' ++ frame ∷ [] → frame ∷ reverse below' ≡ reverse below
popped below below' frame e = sym (ap reverse e ∙ reverse-append below' (frame ∷ []))

pub none_left : (below : List Frame) → length below ≡ 0 → [] ≡ reverse below
none_left [] e = refl
none_left (frame ∷ below) e = absurd (omega arith)

pub pushed : (below below' : List Frame) (top : Frame) → below' ≡ below ++ top ∷ [] → reverse below' ≡ top ∷ reverse below
pushed below below' top e = ap reverse e ∙ reverse-append below (top ∷ [])

pub keeps_open : (st : List Frame) (t t' : Nodes) → KeepsElements t t' → AreOpen t st → AreOpen t' st
keeps_open [] t t' k o = tt
keeps_open (frame ∷ below) t t' k o = (k frame.node.0 o.0, keeps_open below t t' k o.1)

pub opened_open : (opened : Option Frame) (st : List Frame) (t t' : Nodes) → KeepsElements t t' → AreOpen t st → ForSome opened (λ f. is_element (kind_at t' f.node.0) ≡ true) → AreOpen t' (opened_on opened st)
opened_open None st t t' k o h = keeps_open st t t' k o
opened_open (Some frame) st t t' k o h = (h frame refl, keeps_open st t t' k o)

pub same_name : (a b : Text) → bytes_eq a b ≡ true → a ≡ b
same_name a b e = (bytes_eq-Decides a b).0 e

pub other_name : (a b : Text) → bytes_eq a b ≡ false → a ≡ b → ⊥
other_name a b e f = let g = (bytes_eq-Decides a b).1 f in absurd (cc)

pub follows_to : (st st' st'' : List Frame) (ts ts' : List PageToken) (t t' : Nodes) (sc sc' : List RawText) → st'' ≡ st' → Follows st ts t sc st' ts' t' sc' → Follows st ts t sc st'' ts' t' sc'
follows_to st st' st'' ts ts' t t' sc sc' e f = subst (λ x. Follows st ts t sc x ts' t' sc') (sym e) f

-- A step from its parts

pub closes : (top top' : Frame) (st st' : List Frame) (tok : PageToken) (name : Text) (ts : List PageToken) (t : Nodes) (sc : List RawText) → tok ≡ EndTag name → name ≡ top.name → st' ≡ st → Follows (top ∷ st) (tok ∷ ts) t sc st' ts t sc
closes top top' st st' tok name ts t sc k n e =
    subst (λ x. Follows (top ∷ st) (x ∷ ts) t sc st' ts t sc) (sym k) (follows_to (top ∷ st) st st' (EndTag name ∷ ts) ts t t sc sc e (follows_close top st name ts t sc n))

pub no_closes : (top : Frame) (st : List Frame) (tok : PageToken) (name : Text) (ts : List PageToken) (t u : Nodes) (sc s : List RawText) → tok ≡ EndTag name → (name ≡ top.name → ⊥) → Pending (top ∷ st) (tok ∷ ts) t sc u s → ⊥
no_closes top st tok name ts t u sc s k n p = no_close top st name ts t u sc s n (subst (λ x. Pending (top ∷ st) (x ∷ ts) t sc u s) k p)

pub places : (top : Frame) (st st' : List Frame) (tok : PageToken) (ts : List PageToken) (t t' : Nodes) (sc sc' : List RawText) (opened : Option Frame) → Placed (part_of top.name tok) top.node t sc t' sc' opened → st' ≡ opened_on opened (top ∷ st) → Follows (top ∷ st) (tok ∷ ts) t sc st' ts t' sc'
places top st st' tok ts t t' sc sc' opened p e =
    follows_to (top ∷ st) (opened_on opened (top ∷ st)) st' (tok ∷ ts) ts t t' sc sc' e (follows_place top st tok ts t t' sc sc' opened p)

pub stays_open : (st st' : List Frame) (opened : Option Frame) (t t' : Nodes) → st' ≡ opened_on opened st → KeepsElements t t' → AreOpen t st → ForSome opened (λ f. is_element (kind_at t' f.node.0) ≡ true) → AreOpen t' st'
stays_open st st' opened t t' e k o h = subst (AreOpen t') (sym e) (opened_open opened st t t' k o h)

pub goes_on : (first st st' : List Frame) (all rest behind : List PageToken) (tok : PageToken) (t0 t t' : Nodes) (s0 sc sc' : List RawText) → Follows first all t0 s0 st rest t sc → rest ≡ tok ∷ behind → ((ts : List PageToken) → Follows st (tok ∷ ts) t sc st' ts t' sc') → Follows first all t0 s0 st' behind t' sc'
goes_on first st st' all rest behind tok t0 t t' s0 sc sc' before e step =
    follows_then first st st' all rest behind t0 t t' s0 sc sc' before (subst (λ x. Follows st x t sc st' behind t' sc') (sym e) (step behind))

pub refused_by : (first st : List Frame) (all rest behind : List PageToken) (tok : PageToken) (t0 t u : Nodes) (s0 sc s : List RawText) → Follows first all t0 s0 st rest t sc → rest ≡ tok ∷ behind → ((ts : List PageToken) (nodes : Nodes) (scripts : List RawText) → Pending st (tok ∷ ts) t sc nodes scripts → ⊥) → Pending first all t0 s0 u s → ⊥
refused_by first st all rest behind tok t0 t u s0 sc s before e none p = none behind u s (subst (λ x. Pending st x t sc u s) e (before.on u s p))

is_empty : (ts : List PageToken) → length ts ≡ 0 → ts ≡ []
is_empty [] e = refl
is_empty (t ∷ ts) e = absurd (omega arith)

pub refused_at_end : (first : List Frame) (top : Frame) (st : List Frame) (all rest : List PageToken) (t0 t u : Nodes) (s0 sc s : List RawText) → Follows first all t0 s0 (top ∷ st) rest t sc → length rest ≡ 0 → Pending first all t0 s0 u s → ⊥
refused_at_end first top st all rest t0 t u s0 sc s before e p = no_more top st t u sc s (subst (λ x. Pending (top ∷ st) x t sc u s) (is_empty rest e) (before.on u s p))

pub ends_html : (first st below : List Frame) (top : Frame) (last : Bool) (all rest behind : List PageToken) (tok : PageToken) (t0 t t' : Nodes) (s0 sc sc' : List RawText) → last ≡ true → Follows first all t0 s0 st rest t sc → rest ≡ tok ∷ behind → ((ts : List PageToken) → Follows st (tok ∷ ts) t sc (left last top below) ts t' sc') → Follows first all t0 s0 [] behind t' sc'
ends_html first st below top last all rest behind tok t0 t t' s0 sc sc' b before e step =
    goes_on first st [] all rest behind tok t0 t t' s0 sc sc' before e (λ ts. subst (λ x. Follows st (tok ∷ ts) t sc (left x top below) ts t' sc') b (step ts))

pub stays_in_html : (first st below : List Frame) (top : Frame) (last : Bool) (all rest behind : List PageToken) (tok : PageToken) (t0 t t' : Nodes) (s0 sc sc' : List RawText) → last ≡ false → Follows first all t0 s0 st rest t sc → rest ≡ tok ∷ behind → ((ts : List PageToken) → Follows st (tok ∷ ts) t sc (left last top below) ts t' sc') → Follows first all t0 s0 (top ∷ reverse below) behind t' sc'
stays_in_html first st below top last all rest behind tok t0 t t' s0 sc sc' b before e step =
    goes_on first st (top ∷ reverse below) all rest behind tok t0 t t' s0 sc sc' before e (λ ts. subst (λ x. Follows st (tok ∷ ts) t sc (left x top below) ts t' sc') b (step ts))

pub open_in_html : (below : List Frame) (top : Frame) (last : Bool) (t : Nodes) → last ≡ false → AreOpen t (left last top below) → AreOpen t (top ∷ reverse below)
open_in_html below top last t b o = subst (λ x. AreOpen t (left x top below)) b o
