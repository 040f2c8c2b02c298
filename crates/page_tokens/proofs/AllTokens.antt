-- The tokens of a text, taken from the left.
use Rattle.std.proofs.Common.{◌≡◌, ◌∙◌, ◌<◌, ℕ, List, [], ◌∷◌, ◌++◌, length, refl, sym, ap, subst, append_assoc, arith}
use Rattle.page_tokens.specs.declared.token.PageToken.{PageToken}
use Rattle.page_tokens.specs.Tokens.{TokenAt, TokensOf}
use Rattle.page_tokens.specs.Tokens.TokensOf.{none, more}
use Rattle.page_tokens.proofs.Decoding.{append_none, is_empty}
use Rattle.page_tokens.proofs.OneToken.{token_once, nothing_at_end}

-- behind a token stand the others
pub record Rest (size : ℕ) (behind : List ℕ) (token : PageToken) (all : List PageToken) : Type 0 where
  pub others : List PageToken
  pub tokens : TokensOf size behind others
  pub is : all ≡ token ∷ others

pub behind_token : (size : ℕ) (text behind : List ℕ) (token : PageToken) (all : List PageToken) → TokenAt size text behind token → TokensOf size text all → Rest size behind token all
behind_token size text behind token all at none = absurd (nothing_at_end size behind token at)
behind_token size text behind token all at (more t r w ts a rest) =
    let one = token_once size t r behind w token a at in
    record { others = ts; tokens = subst (λ x. TokensOf size x ts) one.0 rest; is = ap (λ x. x ∷ ts) one.1 }

no_tokens : (size : ℕ) (text : List ℕ) (all : List PageToken) → text ≡ [] → TokensOf size text all → all ≡ []
no_tokens size text all e none = refl
no_tokens size text all e (more t r w ts a rest) = absurd (nothing_at_end size r w (subst (λ x. TokenAt size x r w) e a))

pub tokens_once : (size : ℕ) (text : List ℕ) (all all' : List PageToken) → TokensOf size text all → TokensOf size text all' → all ≡ all'
tokens_once size text all all' none other = sym (no_tokens size [] all' refl other)
tokens_once size text all all' (more t r w ts a rest) other =
    let o = behind_token size t r w all' a other in
    ap (λ x. w ∷ x) (tokens_once size r ts o.others rest o.tokens) ∙ sym o.is

-- the tokens before those of the rest of a text are these
pub record GoesOn (size : ℕ) (text rest : List ℕ) (tokens : List PageToken) : Type 0 where
  pub goes_on : (others : List PageToken) → TokensOf size rest others → TokensOf size text (tokens ++ others)
  pub only : (all : List PageToken) → TokensOf size text all → (others : List PageToken) × TokensOf size rest others

pub tokens_begin : (size : ℕ) (text : List ℕ) → GoesOn size text text []
tokens_begin size text = record { goes_on = λ others h. h; only = λ all h. (all, h) }

pub tokens_go_on : (size : ℕ) (text rest behind : List ℕ) (token : PageToken) (tokens longer : List PageToken) → GoesOn size text rest tokens → TokenAt size rest behind token → longer ≡ tokens ++ token ∷ [] → GoesOn size text behind longer
tokens_go_on size text rest behind token tokens longer before at e = record {
  goes_on = λ others h. subst (TokensOf size text) (sym (append_assoc tokens (token ∷ []) others) ∙ ap (λ x. x ++ others) (sym e)) (before.goes_on (token ∷ others) (more rest behind token others at h));
  only = λ all h. let o = before.only all h in let r = behind_token size rest behind token o.0 at o.1 in (r.others, r.tokens);
}

pub tokens_end : (size : ℕ) (text rest : List ℕ) (tokens : List PageToken) → GoesOn size text rest tokens → length rest ≡ 0 → TokensOf size text tokens
tokens_end size text rest tokens before e =
    let h : TokensOf size rest [] = rw (is_empty rest e) none in
    subst (TokensOf size text) (append_none tokens) (before.goes_on [] h)

no_token : (size : ℕ) (rest : List ℕ) (others : List PageToken) → 0 < length rest → ((behind : List ℕ) (token : PageToken) → TokenAt size rest behind token → ⊥) → TokensOf size rest others → ⊥
no_token size rest others some refuses none = absurd (omega arith)
no_token size rest others some refuses (more t r w ts a more') = refuses r w a

pub tokens_refused : (size : ℕ) (text rest : List ℕ) (tokens : List PageToken) → GoesOn size text rest tokens → 0 < length rest → ((behind : List ℕ) (token : PageToken) → TokenAt size rest behind token → ⊥) → (all : List PageToken) → TokensOf size text all → ⊥
tokens_refused size text rest tokens before some refuses all h =
    let o = before.only all h in no_token size rest o.0 some refuses o.1
