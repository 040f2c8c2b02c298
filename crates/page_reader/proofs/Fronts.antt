-- Where a page goes on as another page.
use Rattle.std.proofs.Common.{◌≡◌, ◌∙◌, ℕ, ◌+◌, ◌||◌, ◌⊎◌, inl, inr, Bool, true, false, List, [], ◌∷◌, ◌++◌, length, refl, sym, ap, subst, append_assoc, length-append, arith}
use Rattle.std.specs.List.{list_all}
use Rattle.std.proofs.lemmas.Bool.{and_parts}
use Rattle.dom_tree.specs.Node.{Nodes}
use Rattle.page_tokens.specs.declared.token.PageToken.{PageToken}
use Rattle.page_tokens.specs.declared.token.PageToken.TheVariants.{Comment, Doctype, EndTag, Raw, Space, StartTag}
use Rattle.page_tokens.specs.declared.token.PageToken.TheVariants as token
use Rattle.page_tokens.specs.declared.token.RawText.{RawText}
use Rattle.page_tokens.specs.Laws.{StaysAt, ends_itself, opens_markup}
use Rattle.page_tokens.specs.Tokens.{TokenAt, TokensOf}
use Rattle.page_tokens.specs.Tokens.TokenAt.{space as at_space, text as at_text, doctype as at_doctype, comment as at_comment, end_tag as at_end_tag, start_tag as at_start_tag, raw as at_raw}
use Rattle.page_tokens.specs.Tokens.TokensOf.{none, more}
use Rattle.page_tokens.proofs.Callers.{after_token, no_tokens, space_split, stays}
use Rattle.page_reader.specs.Bytes.{IsTextPage}
use Rattle.page_reader.specs.Laws.{GoesOn, IsOutsideText}
use Rattle.page_reader.specs.Pages.{PageOf, is_outside}
use Rattle.page_reader.proofs.Longer.{page_longer, page_shorter}

-- The tokens of a text and of a longer one

-- the second tokens begin with the first, but for a last text, which may go on
data Extends (size : ℕ) (after : List ℕ) (ts all : List PageToken) : Type 0 where
  behind : (others : List PageToken) → all ≡ ts ++ others → TokensOf size after others → Extends size after ts all
  within : (front others : List PageToken) (last : PageToken) (here : ℕ) (v : List ℕ) → ts ≡ front ++ last ∷ [] → ends_itself last ≡ false → TokenAt here v [] last → all ≡ front ++ others → TokensOf size (v ++ after) others → Extends size after ts all

one_more : (size : ℕ) (after : List ℕ) (ts all others : List PageToken) (t : PageToken) → all ≡ t ∷ others → Extends size after ts others → Extends size after (t ∷ ts) all
one_more size after ts all others t e (behind os f h) = behind os (e ∙ ap (λ x. t ∷ x) f) h
one_more size after ts all others t e (within front os last here v f l a g h) = within (t ∷ front) os last here v (ap (λ x. t ∷ x) f) l a (e ∙ ap (λ x. t ∷ x) g) h

size_is : (size other text front rest after : ℕ) → other ≡ size + after → text ≡ front + rest → other + text ≡ size + (front + (rest + after))
size_is size other text front rest after e f = omega (arith, e, f)

extends : (size other : ℕ) (us after : List ℕ) (ts all : List PageToken) → other ≡ size + length after → TokensOf size us ts → TokensOf other (us ++ after) all → Extends other after ts all
extends size other us after ts all e none h = behind all refl h
extends size other us after ts all e (more text rest t os a tail) h =
    let s = stays size text rest t a in
    by_rest s (ends_itself t) refl rest refl (λ y k. extends size other rest after os y e tail k)
  where
    goes : (s : StaysAt size text rest t) → (ends_itself t || opens_markup (rest ++ after)) ≡ true → ((y : List PageToken) → TokensOf other (rest ++ after) y → Extends other after os y) → Extends other after (t ∷ os) all
    goes s ends step =
        let is : text ++ after ≡ s.front ++ (rest ++ after) = ap (λ x. x ++ after) s.is_front ∙ append_assoc s.front rest after in
        let text_len = ap length s.is_front ∙ length-append s.front rest in
        let new_len = length-append s.front (rest ++ after) in
        let rest_len = length-append rest after in
        let same : other + length text ≡ size + length (s.front ++ (rest ++ after)) = size_is size other (length text) (length s.front) (length rest) (length after) e text_len ∙ ap (λ x. size + (length s.front + x)) (sym rest_len) ∙ ap (λ x. size + x) (sym new_len) in
        let at = s.stays other (rest ++ after) ends same in
        let b = after_token other (s.front ++ (rest ++ after)) (rest ++ after) t all at (subst (λ x. TokensOf other x all) is h) in
        one_more other after os all b.others t b.is (step b.others b.tokens)

    by_text : (s : StaysAt size text rest t) → ends_itself t ≡ false → (r : List ℕ) → rest ≡ r → ((y : List PageToken) → TokensOf other (rest ++ after) y → Extends other after os y) → Extends other after (t ∷ os) all
    by_text s l [] f step = within [] all t size text (ap (λ x. t ∷ x) (no_tokens size rest os f tail)) l (subst (λ x. TokenAt size text x t) f a) refl h
    by_text s l (u ∷ r) f step =
        let ends = ap (λ x. ends_itself t || opens_markup (x ++ after)) f ∙ sym (ap (λ x. ends_itself t || opens_markup x) f) ∙ s.ends in
        goes s ends step

    by_rest : (s : StaysAt size text rest t) → (b : Bool) → ends_itself t ≡ b → (r : List ℕ) → rest ≡ r → ((y : List PageToken) → TokensOf other (rest ++ after) y → Extends other after os y) → Extends other after (t ∷ os) all
    by_rest s true l r f step = goes s (ap (λ x. x || opens_markup (rest ++ after)) l) step
    by_rest s false l r f step = by_text s l r f step

-- Tokens outside stand in a text of any size

outside_at : (size other : ℕ) (us rest : List ℕ) (t : PageToken) → is_outside t ≡ true → TokenAt size us rest t → TokenAt other us rest t
outside_at size other us rest t e (at_space u o b) = at_space u o b
outside_at size other us rest t e (at_text u v o b d) = absurd (cc)
outside_at size other us rest t e (at_doctype u r o d) = absurd (cc)
outside_at size other us rest t e (at_comment u i r o d) = at_comment u i r o d
outside_at size other us rest t e (at_end_tag u n r o d) = absurd (cc)
outside_at size other us rest t e (at_start_tag u r g s b) = absurd (cc)
outside_at size other us rest t e (at_raw u c i r g s b d) = absurd (cc)

outside_tokens : (size other : ℕ) (us : List ℕ) (ts : List PageToken) → list_all is_outside ts ≡ true → TokensOf size us ts → TokensOf other us ts
outside_tokens size other us ts e none = none
outside_tokens size other us ts e (more u r t os a h) =
    let p = and_parts (is_outside t) (list_all is_outside os) e in
    more u r t os (outside_at size other u r t p.0 a) (outside_tokens size other r os p.1 h)

outside_text : (size : ℕ) (us : List ℕ) (ts : List PageToken) → list_all is_outside ts ≡ true → TokensOf size us ts → IsOutsideText us
outside_text size us ts e h = record { tokens = ts; reads = outside_tokens size (length us) us ts e h; outside = e }

-- A text that may stand outside is white space

is_space_token : (t : PageToken) → ends_itself t ≡ false → is_outside t ≡ true → (v : List ℕ) × (t ≡ Space v)
is_space_token (Space v) e f = (v, refl)
is_space_token (token.Text v) e f = absurd (cc)
is_space_token (Comment v) e f = absurd (cc)
is_space_token Doctype e f = absurd (cc)
is_space_token (StartTag v) e f = absurd (cc)
is_space_token (EndTag v) e f = absurd (cc)
is_space_token (Raw v w) e f = absurd (cc)

after_space : (here size : ℕ) (v after : List ℕ) (last : PageToken) (others : List PageToken) → ends_itself last ≡ false → list_all is_outside (last ∷ []) ≡ true → TokenAt here v [] last → TokensOf size (v ++ after) others → list_all is_outside others ≡ true → IsOutsideText after
after_space here size v after last others l o a h outside =
    let s = is_space_token last l (and_parts (is_outside last) true o).0 in
    let split = space_split here size v s.0 after others (subst (λ x. TokenAt here v [] x) s.1 a) h in
    let all = and_parts (is_outside split.token) (list_all is_outside split.others) (sym (ap (list_all is_outside) split.is) ∙ outside) in
    let first = is_space_token split.token split.textual all.0 in
    by_split split.others all.1 (split.behind_space first.0 first.1)
  where
    by_split : (os : List PageToken) → list_all is_outside os ≡ true → TokensOf size after os ⊎ ((r : List ℕ) × TokensOf size after (Space r ∷ os)) → IsOutsideText after
    by_split os e (inl k) = outside_text size after os e k
    by_split os e (inr k) = outside_text size after (Space k.0 ∷ os) e k.1

-- Pages

pub fronts : (text after : List ℕ) (left right : Nodes) (first second : List RawText) → IsTextPage text left first → IsTextPage (text ++ after) right second → GoesOn after left right first second
fronts text after left right first second p q =
    by_tokens (extends (length text) (length (text ++ after)) text after p.tokens q.tokens (length-append text after) p.reads q.reads)
  where
    by_tokens : Extends (length (text ++ after)) after p.tokens q.tokens → GoesOn after left right first second
    by_tokens (behind others e h) =
        let same = page_longer p.tokens others left right first second p.is_page (subst (λ x. PageOf x right second) e q.is_page) in
        record { nodes = same.nodes; scripts = same.scripts; outside = outside_text (length (text ++ after)) after others same.outside h }
    by_tokens (within front others last here v e l a f h) =
        let shorter = page_shorter p.tokens front last left first l e p.is_page in
        let same = page_longer front others left right first second shorter.is_page (subst (λ x. PageOf x right second) f q.is_page) in
        record { nodes = same.nodes; scripts = same.scripts; outside = after_space here (length (text ++ after)) v after last others l shorter.outside a h same.outside }
