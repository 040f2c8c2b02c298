-- The tokens of a text, taken from the left.
use Rattle.std.proofs.Common.{◌≡◌, ◌∙◌, ℕ, ◌-◌, ◌<◌, Bool, List, [], ◌∷◌, ◌++◌, length, refl, sym, ap, subst, append_assoc, arith}
use Rattle.js_core.specs.declared.token.Token.{Token}
use Rattle.js_core.specs.declared.token.TokenKind.{TokenKind}
use Rattle.js_lexer.specs.Separators.{Gap}
use Rattle.js_lexer.specs.Tokens.{TokenAt, TokensOf}
use Rattle.js_lexer.specs.Tokens.TokensOf.{none, more}
use Rattle.js_lexer.proofs.Gaps.{gap_once}
use Rattle.js_lexer.proofs.OneToken.{nothing_at_end, token_once}

abbrev spanned : ℕ → TokenKind → List ℕ → List ℕ → Bool → Token
spanned size what start behind line = record { what = what; start = size - length start; end = size - length behind; after_line = line }

-- a text that begins with a gap and a token has tokens only where the rest has
pub record Rest (size : ℕ) (behind : List ℕ) (token : Token) (all : List Token) : Type 0 where
  pub others : List Token
  pub tokens : TokensOf size behind others
  pub is : all ≡ token ∷ others

at_end : (start : List ℕ) → start ≡ [] → length start < 1
at_end start e = rw e (omega arith)

pub behind_token : (size : ℕ) (text start behind : List ℕ) (line : Bool) (what : TokenKind) (all : List Token) → Gap text start line → TokenAt start behind what → TokensOf size text all → Rest size behind (spanned size what start behind line) all
behind_token size text start behind line what all gap at (none t l g) =
    let same = gap_once t start [] line l gap g in
    absurd (nothing_at_end start behind what (at_end start same.0) at)
behind_token size text start behind line what all gap at (more t s r l w ts g a rest) =
    let same = gap_once t s start l line g gap in
    let one = token_once start r behind w what (subst (λ x. TokenAt x r w) same.0 a) at in
    record { others = ts; tokens = subst (λ x. TokensOf size x ts) one.0 rest; is = ap (λ x. x ∷ ts) (one_token s start r behind l line w what same.0 one.0 same.1 one.1) }
  where
    one_token : (s s' r r' : List ℕ) (l l' : Bool) (w w' : TokenKind) → s ≡ s' → r ≡ r' → l ≡ l' → w ≡ w' → spanned size w s r l ≡ spanned size w' s' r' l'
    one_token s s' r r' l l' w w' a b c d = ap (λ x. spanned size w x r l) a ∙ ap (λ x. spanned size w s' x l) b ∙ ap (λ x. spanned size w s' r' x) c ∙ ap (λ x. spanned size x s' r' l') d

-- a text that is a gap has no tokens
pub only_gap : (size : ℕ) (text : List ℕ) (line : Bool) (all : List Token) → Gap text [] line → TokensOf size text all → all ≡ []
only_gap size text line all gap (none t l g) = refl
only_gap size text line all gap (more t s r l w ts g a rest) =
    let same = gap_once t s [] l line g gap in absurd (nothing_at_end s r w (at_end s same.0) a)

pub tokens_once : (size : ℕ) (text : List ℕ) (all all' : List Token) → TokensOf size text all → TokensOf size text all' → all ≡ all'
tokens_once size text all all' (none t l g) other = sym (only_gap size t l all' g other)
tokens_once size text all all' (more t s r l w ts g a rest) other =
    let o = behind_token size t s r l w all' g a other in
    ap (λ x. spanned size w s r l ∷ x) (tokens_once size r ts o.others rest o.tokens) ∙ sym o.is

-- the tokens before the rest of a text are those so far
pub record GoesOn (size : ℕ) (text rest : List ℕ) (tokens : List Token) : Type 0 where
  pub goes_on : (others : List Token) → TokensOf size rest others → TokensOf size text (tokens ++ others)
  pub only : (all : List Token) → TokensOf size text all → (others : List Token) × TokensOf size rest others

pub tokens_begin : (size : ℕ) (text : List ℕ) → GoesOn size text text []
tokens_begin size text = record { goes_on = λ others h. h; only = λ all h. (all, h) }

pub tokens_go_on : (size : ℕ) (text rest start behind : List ℕ) (line : Bool) (what : TokenKind) (tokens longer : List Token) → GoesOn size text rest tokens → Gap rest start line → TokenAt start behind what → longer ≡ tokens ++ (spanned size what start behind line ∷ []) → GoesOn size text behind longer
tokens_go_on size text rest start behind line what tokens longer before gap at e = record {
  goes_on = λ others h. subst (TokensOf size text) (sym (append_assoc tokens (spanned size what start behind line ∷ []) others) ∙ ap (λ x. x ++ others) (sym e)) (before.goes_on (spanned size what start behind line ∷ others) (more rest start behind line what others gap at h));
  only = λ all h. let o = before.only all h in let r = behind_token size rest start behind line what o.0 gap at o.1 in (r.others, r.tokens);
}

append_none : (tokens : List Token) → tokens ++ [] ≡ tokens
append_none [] = refl
append_none (t ∷ ts) = ap (λ x. t ∷ x) (append_none ts)

is_empty : (text : List ℕ) → length text ≡ 0 → text ≡ []
is_empty [] e = refl
is_empty (u ∷ us) e = absurd (omega arith)

pub tokens_end : (size : ℕ) (text rest start : List ℕ) (line : Bool) (tokens : List Token) → GoesOn size text rest tokens → Gap rest start line → length start ≡ 0 → TokensOf size text tokens
tokens_end size text rest start line tokens before gap e =
    let g : Gap rest [] line = subst (λ x. Gap rest x line) (is_empty start e) gap in
    subst (TokensOf size text) (append_none tokens) (before.goes_on [] (none rest line g))

pub tokens_refused : (size : ℕ) (text rest start : List ℕ) (line : Bool) (tokens : List Token) → GoesOn size text rest tokens → Gap rest start line → (length start ≡ 0 → ⊥) → ((behind : List ℕ) (what : TokenKind) → TokenAt start behind what → ⊥) → (all : List Token) → TokensOf size text all → ⊥
tokens_refused size text rest start line tokens before gap some refuses all h =
    let o = before.only all h in no_tokens rest start line o.0 gap some refuses o.1
  where
    no_tokens : (rest start : List ℕ) (line : Bool) (others : List Token) → Gap rest start line → (length start ≡ 0 → ⊥) → ((behind : List ℕ) (what : TokenKind) → TokenAt start behind what → ⊥) → TokensOf size rest others → ⊥
    no_tokens rest start line others gap some refuses (none t l g) = let same = gap_once t start [] line l gap g in some (ap length same.0)
    no_tokens rest start line others gap some refuses (more t s r l w ts g a more') = let same = gap_once t s start l line g gap in refuses r w (subst (λ x. TokenAt x r w) same.0 a)
