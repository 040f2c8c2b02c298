-- Gaps, taken from the left.
use Rattle.std.proofs.Common.{◌≡◌, Bool, false, ◌||◌, ℕ, List, ◌∙◌, refl, sym, ap, subst, Some, None}
use Rattle.std.proofs.Math.Bool.{or-false, or_assoc}
use Rattle.js_lexer.proofs.Pairs.{some_pair}
use Rattle.js_lexer.specs.Separators.{separator_of, Gap}
use Rattle.js_lexer.specs.Separators.Gap.{none, more}

-- a gap of the rest is one of the text, with a line end or not before the rest
pub record GoesOn (text rest : List ℕ) (line : Bool) : Type 0 where
  pub goes_on : (behind : List ℕ) (later : Bool) → Gap rest behind later → Gap text behind (line || later)

pub gap_begins : (text : List ℕ) → GoesOn text text false
gap_begins text = record { goes_on = λ behind later gap. gap }

pub gap_goes_on : (text rest behind : List ℕ) (line here : Bool) → GoesOn text rest line → separator_of rest ≡ Some (here, behind) → GoesOn text behind (line || here)
gap_goes_on text rest behind line here before e = record {
  goes_on = λ end later gap. subst (λ b. Gap text end b) (sym (or_assoc line here later)) (before.goes_on end (here || later) (more rest behind end here later e gap));
}

pub gap_ends : (text rest : List ℕ) (line : Bool) → GoesOn text rest line → separator_of rest ≡ None → Gap text rest line
gap_ends text rest line before e = subst (λ b. Gap text rest b) (or-false line) (before.goes_on rest false (none rest e))

no_separator : (text rest : List ℕ) (line : Bool) → separator_of text ≡ None → Gap text rest line → (rest ≡ text) × (line ≡ false)
no_separator text rest line e (none t f) = (refl, refl)
no_separator text rest line e (more t b r here later f gap) = absurd (cc)

record Behind (behind rest : List ℕ) (here line : Bool) : Type 0 where
  later : Bool
  gap : Gap behind rest later
  is : line ≡ (here || later)

behind_separator : (text behind rest : List ℕ) (here line : Bool) → separator_of text ≡ Some (here, behind) → Gap text rest line → Behind behind rest here line
behind_separator text behind rest here line e (none t f) = absurd (cc)
behind_separator text behind rest here line e (more t b r h later f gap) =
    let same = some_pair h here b behind (sym f ∙ e) in
    record { later = later; gap = subst (λ x. Gap x r later) same.1 gap; is = ap (λ x. x || later) same.0 }

-- one gap stands at one place
pub gap_once : (text rest rest' : List ℕ) (line line' : Bool) → Gap text rest line → Gap text rest' line' → (rest ≡ rest') × (line ≡ line')
gap_once text rest rest' line line' (none t e) other = let o = no_separator t rest' line' e other in (sym o.0, sym o.1)
gap_once text rest rest' line line' (more t b r here later e gap) other =
    let o = behind_separator t b rest' here line' e other in
    let same = gap_once b r rest' later o.later gap o.gap in
    (same.0, ap (λ x. here || x) same.1 ∙ sym o.is)
