-- Directive prologues, taken from the left.
use Rattle.std.proofs.Common.{◌≡◌, ◌∙◌, ℕ, true, false, List, ◌∷◌, length, refl, sym, subst, Some, None, arith}
use Rattle.std.specs.Prelude.{codes}
use Rattle.std.proofs.lemmas.Bool.{and_parts}
use Rattle.js_core.specs.declared.token.Token.{Token}
use Rattle.js_core.specs.declared.token.TokenKind.{TokenKind}
use Rattle.js_core.specs.declared.token.TokenKind.TheVariants.{Word, Number, Text, Punct as Punctuator}
use Rattle.js_lexer.specs.Directives.{is_text, is_text_of, is_use_strict, behind_statement, IsStrict}
use Rattle.js_lexer.specs.Directives.IsStrict.{here, later}

text_of_is_text : (units : List ℕ) (what : TokenKind) → is_text_of units what ≡ true → is_text what ≡ true
text_of_is_text units (Word w) e = absurd (cc)
text_of_is_text units (Number n) e = absurd (cc)
text_of_is_text units (Text t) e = refl
text_of_is_text units (Punctuator p) e = absurd (cc)

use_strict_is_text : (token : Token) → is_use_strict token ≡ true → is_text token.what ≡ true
unfolding is_use_strict
use_strict_is_text token e = text_of_is_text (codes "use strict") token.what (and_parts (is_text_of (codes "use strict") token.what) _ e).0

pub no_text : (all tokens : List Token) (token : Token) → all ≡ token ∷ tokens → is_text token.what ≡ false → IsStrict all → ⊥
no_text all tokens token a e (here t ts b s f) = let is : t ≡ token = cc in let text = use_strict_is_text token (subst (λ x. is_use_strict x ≡ true) is s) in absurd (cc)
no_text all tokens token a e (later t ts b s f more) = let is : t ≡ token = cc in let text = subst (λ x. is_text x.what ≡ true) is s in absurd (cc)

pub no_statement : (all tokens : List Token) (token : Token) → all ≡ token ∷ tokens → behind_statement tokens ≡ None → IsStrict all → ⊥
no_statement all tokens token a e (here t ts b s f) = let is : ts ≡ tokens = cc in let g = subst (λ x. behind_statement x ≡ Some b) is f in absurd (cc)
no_statement all tokens token a e (later t ts b s f more) = let is : ts ≡ tokens = cc in let g = subst (λ x. behind_statement x ≡ Some b) is f in absurd (cc)

pub no_tokens : (all : List Token) → length all ≡ 0 → IsStrict all → ⊥
no_tokens all e (here t ts b s f) = absurd (omega arith)
no_tokens all e (later t ts b s f more) = absurd (omega arith)

-- the tokens are strict exactly where the rest of them is
pub record GoesOn (all rest : List Token) : Type 0 where
  pub back : IsStrict rest → IsStrict all
  pub on : IsStrict all → IsStrict rest

pub prologue_begins : (all : List Token) → GoesOn all all
prologue_begins all = record { back = λ s. s; on = λ s. s }

strict_behind : (tokens behind : List Token) (token : Token) (some : List Token) → some ≡ token ∷ tokens → behind_statement tokens ≡ Some behind → is_use_strict token ≡ false → IsStrict some → IsStrict behind
strict_behind tokens behind token some a e n (here t ts b s f) = let is : t ≡ token = cc in let yes = subst (λ x. is_use_strict x ≡ true) is s in absurd (cc)
strict_behind tokens behind token some a e n (later t ts b s f more) =
    let is : ts ≡ tokens = cc in
    let same : Some b ≡ Some behind = sym (subst (λ x. behind_statement x ≡ Some b) is f) ∙ e in
    let one : b ≡ behind = cc in
    subst IsStrict one more

pub prologue_goes_on : (all rest tokens behind : List Token) (token : Token) → GoesOn all rest → rest ≡ token ∷ tokens → is_text token.what ≡ true → behind_statement tokens ≡ Some behind → is_use_strict token ≡ false → GoesOn all behind
prologue_goes_on all rest tokens behind token before a t e n = record {
  back = λ s. before.back (subst IsStrict (sym a) (later token tokens behind t e s));
  on = λ s. strict_behind tokens behind token rest a e n (before.on s);
}

pub strict_here : (all rest tokens behind : List Token) (token : Token) → GoesOn all rest → rest ≡ token ∷ tokens → behind_statement tokens ≡ Some behind → is_use_strict token ≡ true → IsStrict all
strict_here all rest tokens behind token before a e s = before.back (subst IsStrict (sym a) (here token tokens behind s e))
