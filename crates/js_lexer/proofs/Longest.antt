-- The longest punctuator with which a text begins.
use Rattle.std.proofs.Common.{◌≡◌, ◌∙◌, ℕ, zero, suc, ◌<◌, ◌≤◌, Bool, true, false, cond, ◌&&◌, ◌==◌, List, [], ◌∷◌, ◌++◌, length, drop, get_or, Option, Some, None, lit<, refl, sym, ap, subst, arith}
use Rattle.std.specs.Prelude.{nat_le}
use Rattle.std.specs.Str.{bytes_eq}
use Rattle.std.specs.List.{find, list_all}
use Rattle.std.proofs.lemmas.Bool.Decides.{nat_tests}
use Rattle.std.proofs.lemmas.List.{append_cancel_left}
use Rattle.std.proofs.lemmas.Bool.{and_parts}
use Rattle.js_core.specs.declared.token.Punct.{Punct}
use Rattle.js_core.specs.declared.token.Punct.TheVariants.{Ampersand, AmpersandAssign, Caret, CaretAssign, Colon, Comma, Dot, DoubleAmpersand, DoubleVerticalBar, Equals, ExclamationMark, GreaterThan, GreaterThanOrEqual, LeftBrace, LeftBracket, LeftParenthesis, LessThan, LessThanOrEqual, MinusAssign, MinusMinus, MinusSign, NotEquals, Percent, PercentAssign, PlusAssign, PlusPlus, PlusSign, QuestionMark, RightBrace, RightBracket, RightParenthesis, Semicolon, ShiftLeft, ShiftLeftAssign, ShiftRight, ShiftRightAssign, ShiftRightUnsigned, ShiftRightUnsignedAssign, SimpleAssign, Slash, SlashAssign, Star, StarAssign, StrictEquals, StrictNotEquals, Tilde, VerticalBar, VerticalBarAssign}
use Rattle.js_core.specs.Spelling.{punct_text}
use Rattle.js_lexer.specs.Punctuators.{opens_comment, StandsAt}
use Rattle.js_lexer.specs.Reading.{is_front, punctuators}

-- a front and what stands behind it
pub front_splits : (cs us : List ℕ) → is_front cs us ≡ true → us ≡ cs ++ drop (length cs) us
front_splits [] us e = refl
front_splits (c ∷ cs) [] e = absurd (cc)
front_splits (c ∷ cs) (u ∷ us) e =
    let head : u ≡ c = let t = (and_parts (u == c) (is_front cs us) e).0 in grind (arith, nat_tests) in
    let rest = front_splits cs us (and_parts (u == c) (is_front cs us) e).1 in
    ap (λ v. v ∷ us) head ∙ ap (λ vs. c ∷ vs) rest

pub front_of : (cs rest : List ℕ) → is_front cs (cs ++ rest) ≡ true
front_of [] rest = refl
front_of (c ∷ cs) rest = let same : (c == c) ≡ true = grind (arith, nat_tests) in rw same (front_of cs rest)

pub front_within : (cs us : List ℕ) → is_front cs us ≡ true → length cs ≤ length us
front_within [] us e = omega arith
front_within (c ∷ cs) [] e = absurd (cc)
front_within (c ∷ cs) (u ∷ us) e = omega (arith, front_within cs us (and_parts (u == c) (is_front cs us) e).1)

-- each punct_text is at least as long as those behind it
abbrev falling : List Punct → Bool
falling [] = true
falling (p ∷ ps) = list_all (λ q. nat_le (length (punct_text q)) (length (punct_text p))) ps && falling ps

module _ (text : List ℕ) where
  abbrev stands : Punct → Bool
  stands p = is_front (punct_text p) text

  abbrev NoLonger : ℕ → List Punct → Type 0
  NoLonger n ps = (k : ℕ) (d : Punct) → k < length ps → stands (get_or ps k d) ≡ true → length (punct_text (get_or ps k d)) ≤ n

  shorter : (n : ℕ) (ps : List Punct) → list_all (λ q. nat_le (length (punct_text q)) n) ps ≡ true → NoLonger n ps
  shorter n [] e k d l s = absurd (omega arith)
  shorter n (p ∷ ps) e zero d l s = let t = (and_parts (nat_le (length (punct_text p)) n) _ e).0 in grind (arith, nat_tests)
  shorter n (p ∷ ps) e (suc k) d l s = shorter n ps (and_parts (nat_le (length (punct_text p)) n) _ e).1 k d (omega arith) s

  first_is_longest : (ps : List Punct) (p : Punct) → falling ps ≡ true → find stands ps ≡ Some p → (stands p ≡ true) × NoLonger (length (punct_text p)) ps
  first_is_longest [] p f e = absurd (cc)
  first_is_longest (q ∷ ps) p f e = by_case (stands q) refl e (first_is_longest ps p (and_parts (list_all (λ r. nat_le (length (punct_text r)) (length (punct_text q))) ps) (falling ps) f).1)
    where
      by_case : (b : Bool) → stands q ≡ b → cond b (Some q) (find stands ps) ≡ Some p → (find stands ps ≡ Some p → (stands p ≡ true) × NoLonger (length (punct_text p)) ps) → (stands p ≡ true) × NoLonger (length (punct_text p)) (q ∷ ps)
      by_case true s e rest =
          let same : q ≡ p = cc in
          (subst (λ r. stands r ≡ true) same s, subst (λ r. NoLonger (length (punct_text r)) (q ∷ ps)) same here)
        where
          here : NoLonger (length (punct_text q)) (q ∷ ps)
          here zero d l h = omega arith
          here (suc k) d l h = shorter (length (punct_text q)) ps (and_parts (list_all (λ r. nat_le (length (punct_text r)) (length (punct_text q))) ps) (falling ps) f).0 k d (omega arith) h
      by_case false s e rest = let r = rest e in (r.0, there r.1)
        where
          there : NoLonger (length (punct_text p)) ps → NoLonger (length (punct_text p)) (q ∷ ps)
          there more zero d l h = absurd (cc (s, h))
          there more (suc k) d l h = more k d (omega arith) h

  none_stands : (ps : List Punct) → find stands ps ≡ None → (k : ℕ) (d : Punct) → k < length ps → stands (get_or ps k d) ≡ false
  none_stands [] e k d l = absurd (omega arith)
  none_stands (q ∷ ps) e k d l = by_case (stands q) refl e (none_stands ps) k l
    where
      by_case : (b : Bool) → stands q ≡ b → cond b (Some q) (find stands ps) ≡ None → (find stands ps ≡ None → (k : ℕ) (d : Punct) → k < length ps → stands (get_or ps k d) ≡ false) → (k : ℕ) → k < length (q ∷ ps) → stands (get_or (q ∷ ps) k d) ≡ false
      by_case true s e rest k l = absurd (cc)
      by_case false s e rest zero l = s
      by_case false s e rest (suc k) l = rest e k d (omega arith)

-- the table has each punctuator
pub record Place (p : Punct) : Type 0 where
  pub place : ℕ
  pub below : place < length punctuators
  pub there : get_or punctuators place LeftBrace ≡ p

pub place_of : (p : Punct) → Place p
place_of ShiftRightUnsignedAssign = record { place = 0; below = lit< tt; there = refl }
place_of StrictEquals = record { place = 1; below = lit< tt; there = refl }
place_of StrictNotEquals = record { place = 2; below = lit< tt; there = refl }
place_of ShiftRightUnsigned = record { place = 3; below = lit< tt; there = refl }
place_of ShiftLeftAssign = record { place = 4; below = lit< tt; there = refl }
place_of ShiftRightAssign = record { place = 5; below = lit< tt; there = refl }
place_of LessThanOrEqual = record { place = 6; below = lit< tt; there = refl }
place_of GreaterThanOrEqual = record { place = 7; below = lit< tt; there = refl }
place_of Equals = record { place = 8; below = lit< tt; there = refl }
place_of NotEquals = record { place = 9; below = lit< tt; there = refl }
place_of PlusPlus = record { place = 10; below = lit< tt; there = refl }
place_of MinusMinus = record { place = 11; below = lit< tt; there = refl }
place_of ShiftLeft = record { place = 12; below = lit< tt; there = refl }
place_of ShiftRight = record { place = 13; below = lit< tt; there = refl }
place_of DoubleAmpersand = record { place = 14; below = lit< tt; there = refl }
place_of DoubleVerticalBar = record { place = 15; below = lit< tt; there = refl }
place_of PlusAssign = record { place = 16; below = lit< tt; there = refl }
place_of MinusAssign = record { place = 17; below = lit< tt; there = refl }
place_of StarAssign = record { place = 18; below = lit< tt; there = refl }
place_of PercentAssign = record { place = 19; below = lit< tt; there = refl }
place_of AmpersandAssign = record { place = 20; below = lit< tt; there = refl }
place_of VerticalBarAssign = record { place = 21; below = lit< tt; there = refl }
place_of CaretAssign = record { place = 22; below = lit< tt; there = refl }
place_of SlashAssign = record { place = 23; below = lit< tt; there = refl }
place_of LeftBrace = record { place = 24; below = lit< tt; there = refl }
place_of RightBrace = record { place = 25; below = lit< tt; there = refl }
place_of LeftParenthesis = record { place = 26; below = lit< tt; there = refl }
place_of RightParenthesis = record { place = 27; below = lit< tt; there = refl }
place_of LeftBracket = record { place = 28; below = lit< tt; there = refl }
place_of RightBracket = record { place = 29; below = lit< tt; there = refl }
place_of Dot = record { place = 30; below = lit< tt; there = refl }
place_of Semicolon = record { place = 31; below = lit< tt; there = refl }
place_of Comma = record { place = 32; below = lit< tt; there = refl }
place_of LessThan = record { place = 33; below = lit< tt; there = refl }
place_of GreaterThan = record { place = 34; below = lit< tt; there = refl }
place_of PlusSign = record { place = 35; below = lit< tt; there = refl }
place_of MinusSign = record { place = 36; below = lit< tt; there = refl }
place_of Star = record { place = 37; below = lit< tt; there = refl }
place_of Percent = record { place = 38; below = lit< tt; there = refl }
place_of Ampersand = record { place = 39; below = lit< tt; there = refl }
place_of VerticalBar = record { place = 40; below = lit< tt; there = refl }
place_of Caret = record { place = 41; below = lit< tt; there = refl }
place_of ExclamationMark = record { place = 42; below = lit< tt; there = refl }
place_of Tilde = record { place = 43; below = lit< tt; there = refl }
place_of QuestionMark = record { place = 44; below = lit< tt; there = refl }
place_of Colon = record { place = 45; below = lit< tt; there = refl }
place_of SimpleAssign = record { place = 46; below = lit< tt; there = refl }
place_of Slash = record { place = 47; below = lit< tt; there = refl }

named : List ℕ → Option Punct
named cs = find (λ p. bytes_eq (punct_text p) cs) punctuators

by_name : (p : Punct) → named (punct_text p) ≡ Some p
unfolding named
by_name ShiftRightUnsignedAssign = refl
by_name StrictEquals = refl
by_name StrictNotEquals = refl
by_name ShiftRightUnsigned = refl
by_name ShiftLeftAssign = refl
by_name ShiftRightAssign = refl
by_name LessThanOrEqual = refl
by_name GreaterThanOrEqual = refl
by_name Equals = refl
by_name NotEquals = refl
by_name PlusPlus = refl
by_name MinusMinus = refl
by_name ShiftLeft = refl
by_name ShiftRight = refl
by_name DoubleAmpersand = refl
by_name DoubleVerticalBar = refl
by_name PlusAssign = refl
by_name MinusAssign = refl
by_name StarAssign = refl
by_name PercentAssign = refl
by_name AmpersandAssign = refl
by_name VerticalBarAssign = refl
by_name CaretAssign = refl
by_name SlashAssign = refl
by_name LeftBrace = refl
by_name RightBrace = refl
by_name LeftParenthesis = refl
by_name RightParenthesis = refl
by_name LeftBracket = refl
by_name RightBracket = refl
by_name Dot = refl
by_name Semicolon = refl
by_name Comma = refl
by_name LessThan = refl
by_name GreaterThan = refl
by_name PlusSign = refl
by_name MinusSign = refl
by_name Star = refl
by_name Percent = refl
by_name Ampersand = refl
by_name VerticalBar = refl
by_name Caret = refl
by_name ExclamationMark = refl
by_name Tilde = refl
by_name QuestionMark = refl
by_name Colon = refl
by_name SimpleAssign = refl
by_name Slash = refl

pub no_longer : (text : List ℕ) (p other : Punct) (tail : List ℕ) → find (stands text) punctuators ≡ Some p → text ≡ punct_text other ++ tail → length (punct_text other) ≤ length (punct_text p)
no_longer text p other tail e is =
    let place = place_of other in
    let front : is_front (punct_text other) text ≡ true = rw is (front_of (punct_text other) tail) in
    subst (λ q. stands text q ≡ true → length (punct_text q) ≤ length (punct_text p)) place.there ((first_is_longest text punctuators p refl e).1 place.place LeftBrace place.below) front

pub first_stands : (text : List ℕ) (p : Punct) → find (stands text) punctuators ≡ Some p → is_front (punct_text p) text ≡ true
first_stands text p e = (first_is_longest text punctuators p refl e).0

pub first_within : (text cs : List ℕ) (p : Punct) → cs ≡ punct_text p → Some p ≡ find (stands text) punctuators → length cs ≤ length text
first_within text cs p s e = rw s (front_within (punct_text p) text (first_stands text p (sym e)))

pub stands_here : (text behind cs : List ℕ) (p : Punct) → cs ≡ punct_text p → Some p ≡ find (stands text) punctuators → behind ≡ drop (length cs) text → opens_comment text ≡ false → StandsAt text behind p
stands_here text behind cs p s e b free = record {
  spelled = rw (b, s) (front_splits (punct_text p) text (first_stands text p (sym e)));
  longest = λ other tail is. no_longer text p other tail (sym e) is;
  no_comment = free;
}

pub no_punctuator : (text : List ℕ) → find (stands text) punctuators ≡ None → (rest : List ℕ) (p : Punct) → StandsAt text rest p → ⊥
no_punctuator text e rest p s =
    let place = place_of p in
    let front : is_front (punct_text p) text ≡ true = rw s.spelled (front_of (punct_text p) rest) in
    let absent : is_front (punct_text p) text ≡ false = subst (λ q. stands text q ≡ false) place.there (none_stands text punctuators e place.place LeftBrace place.below) in
    absurd (cc)

-- two fronts of one length are the same
same_front : (cs ds rest more : List ℕ) → cs ++ rest ≡ ds ++ more → length cs ≡ length ds → cs ≡ ds
same_front [] [] rest more e l = refl
same_front [] (d ∷ ds) rest more e l = absurd (omega arith)
same_front (c ∷ cs) [] rest more e l = absurd (omega arith)
same_front (c ∷ cs) (d ∷ ds) rest more e l =
    let head : c ≡ d = cc in let tails : cs ++ rest ≡ ds ++ more = cc in
    ap (λ v. v ∷ cs) head ∙ ap (λ vs. d ∷ vs) (same_front cs ds rest more tails (omega arith))

-- one punctuator stands at one place
pub stands_once : (text rest more : List ℕ) (p q : Punct) → StandsAt text rest p → StandsAt text more q → (rest ≡ more) × (p ≡ q)
stands_once text rest more p q a b =
    let both : punct_text p ++ rest ≡ punct_text q ++ more = sym a.spelled ∙ b.spelled in
    let long : length (punct_text p) ≡ length (punct_text q) = omega (arith, a.longest q more b.spelled, b.longest p rest a.spelled) in
    let same : punct_text p ≡ punct_text q = same_front (punct_text p) (punct_text q) rest more both long in
    let one : Some p ≡ Some q = sym (by_name p) ∙ ap named same ∙ by_name q in
    (append_cancel_left (punct_text q) rest more (ap (λ cs. cs ++ rest) (sym same) ∙ both), cc)
