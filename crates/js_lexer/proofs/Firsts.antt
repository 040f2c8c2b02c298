-- The kinds of tokens are told by their first unit.
use Rattle.std.proofs.Common.{◌≡◌, ◌∙◌, ℕ, ◌<◌, Bool, true, false, not, ◌&&◌, ◌||◌, ◌==◌, List, [], ◌∷◌, ◌++◌, refl, lit<, arith}
use Rattle.std.specs.Prelude.{nat_lt}
use Rattle.std.specs.Int.{is_in_range}
use Rattle.std.specs.Char.{is_ascii_alphabetic}
use Rattle.std.proofs.lemmas.Bool.Decides.{nat_tests}
use Rattle.std.proofs.lemmas.Bool.{or_right}
use Rattle.unicode_ident.specs.Ident.{is_xid_start, is_xid_continue}
use Rattle.unicode_ident.proofs.IdentLemmas.{is_xid_start-ascii, is_xid_continue-ascii, is_xid_start-is_xid_continue}
use Rattle.js_core.specs.declared.token.Punct.{Punct}
use Rattle.js_core.specs.declared.token.Punct.TheVariants.{ShiftRightUnsignedAssign, StrictEquals, StrictNotEquals, ShiftRightUnsigned, ShiftLeftAssign, ShiftRightAssign, LessThanOrEqual, GreaterThanOrEqual, Equals, NotEquals, PlusPlus, MinusMinus, ShiftLeft, ShiftRight, DoubleAmpersand, DoubleVerticalBar, PlusAssign, MinusAssign, StarAssign, PercentAssign, AmpersandAssign, VerticalBarAssign, CaretAssign, SlashAssign, LeftBrace, RightBrace, LeftParenthesis, RightParenthesis, LeftBracket, RightBracket, Dot, Semicolon, Comma, LessThan, GreaterThan, PlusSign, MinusSign, Star, Percent, Ampersand, VerticalBar, Caret, ExclamationMark, Tilde, QuestionMark, Colon, SimpleAssign, Slash}
use Rattle.js_core.specs.Spelling.{punct_text}
use Rattle.js_lexer.specs.Characters.{is_identifier_start, is_identifier_part, is_decimal_digit, is_quote, is_surrogate, begins_with}

-- an ASCII letter, `$` or `_`
abbrev pub is_ascii_start : ℕ → Bool
is_ascii_start u = (u == 36) || (u == 95) || is_ascii_alphabetic u

pub start_of_ascii : (u : ℕ) → u < 128 → is_identifier_start u ≡ is_ascii_start u
unfolding is_identifier_start
start_of_ascii u l =
    let near : is_surrogate u ≡ false = grind (arith, nat_tests) in
    rw (near, is_xid_start-ascii u l) refl

low_line_is_part : (u : ℕ) → (u == 95) ≡ true → (not (is_surrogate u) && is_xid_continue u) ≡ true
low_line_is_part u e =
    let same : u ≡ 95 = grind (arith, nat_tests) in
    let at : is_xid_continue 95 ≡ true = is_xid_continue-ascii 95 (lit< tt) in
    rw (same, at) refl

part_from_start : (dollar low surrogate start part joiner : Bool) → (low ≡ true → (not surrogate && part) ≡ true) → (start ≡ true → part ≡ true) → (dollar || low || (not surrogate && start)) ≡ true → (dollar || joiner || (not surrogate && part)) ≡ true
part_from_start true low surrogate start part joiner f g e = refl
part_from_start false true surrogate start part joiner f g e = or_right joiner (not surrogate && part) (f refl)
part_from_start false false true start part joiner f g e = absurd (cc)
part_from_start false false false start part joiner f g e = or_right joiner part (g e)

pub start_is_part : (u : ℕ) → is_identifier_start u ≡ true → is_identifier_part u ≡ true
unfolding is_identifier_start is_identifier_part
start_is_part u e = part_from_start (u == 36) (u == 95) (is_surrogate u) (is_xid_start u) (is_xid_continue u) (is_in_range 8204 8205 u) (low_line_is_part u) (is_xid_start-is_xid_continue u) e

pub quote_is_no_digit : (u : ℕ) → is_quote u ≡ true → is_decimal_digit u ≡ false
quote_is_no_digit u e = grind (arith, nat_tests)

quote_is_low : (u : ℕ) → is_quote u ≡ true → (u < 128) × (is_ascii_start u ≡ false)
quote_is_low u e = (grind (arith, nat_tests), grind (arith, nat_tests))

digit_is_low : (u : ℕ) → is_decimal_digit u ≡ true → (u < 128) × (is_ascii_start u ≡ false)
digit_is_low u e = (grind (arith, nat_tests), grind (arith, nat_tests))

pub quote_is_no_start : (u : ℕ) → is_quote u ≡ true → is_identifier_start u ≡ false
quote_is_no_start u e = let low = quote_is_low u e in start_of_ascii u low.0 ∙ low.1

pub digit_is_no_start : (u : ℕ) → is_decimal_digit u ≡ true → is_identifier_start u ≡ false
digit_is_no_start u e = let low = digit_is_low u e in start_of_ascii u low.0 ∙ low.1

-- what a text's first unit begins
pub data Class : Type 0 where
  Quote : Class
  Digit : Class
  Start : Class
  Other : Class

abbrev pub class_by : Bool → Bool → Bool → Class
class_by true digit start = Quote
class_by false true start = Digit
class_by false false true = Start
class_by false false false = Other

unfoldable pub class_of : List ℕ → Class
class_of text = class_by (begins_with is_quote text) (begins_with is_decimal_digit text) (begins_with is_identifier_start text)

pub class_of_quote : (text : List ℕ) → begins_with is_quote text ≡ true → class_of text ≡ Quote
unfolding class_of
class_of_quote text q = rw q

pub class_of_digit : (text : List ℕ) → begins_with is_decimal_digit text ≡ true → class_of text ≡ Digit
unfolding class_of
class_of_digit [] d = absurd (cc)
class_of_digit (u ∷ us) d = let q : is_quote u ≡ false = by_case (is_quote u) refl in rw (q, d)
  where
    by_case : (b : Bool) → is_quote u ≡ b → b ≡ false
    by_case true e = let no_digit = quote_is_no_digit u e in absurd (cc)
    by_case false e = refl

pub class_of_start : (text : List ℕ) → begins_with is_identifier_start text ≡ true → class_of text ≡ Start
unfolding class_of
class_of_start [] s = absurd (cc)
class_of_start (u ∷ us) s =
    let q : is_quote u ≡ false = by_quote (is_quote u) refl in
    let d : is_decimal_digit u ≡ false = by_digit (is_decimal_digit u) refl in
    rw (q, d, s)
  where
    by_quote : (b : Bool) → is_quote u ≡ b → b ≡ false
    by_quote true e = let no_start = quote_is_no_start u e in absurd (cc)
    by_quote false e = refl

    by_digit : (b : Bool) → is_decimal_digit u ≡ b → b ≡ false
    by_digit true e = let no_start = digit_is_no_start u e in absurd (cc)
    by_digit false e = refl

pub class_of_other : (text : List ℕ) → begins_with is_quote text ≡ false → begins_with is_decimal_digit text ≡ false → begins_with is_identifier_start text ≡ false → class_of text ≡ Other
unfolding class_of
class_of_other text q d s = rw (q, d, s)

-- an ASCII unit that begins no word, number or string
pub is_plain : ℕ → Bool
is_plain u = nat_lt u 128 && not (is_ascii_start u) && not (is_decimal_digit u) && not (is_quote u)

pub plain_first : (p : Punct) → begins_with is_plain (punct_text p) ≡ true
unfolding is_plain
plain_first ShiftRightUnsignedAssign = refl
plain_first StrictEquals = refl
plain_first StrictNotEquals = refl
plain_first ShiftRightUnsigned = refl
plain_first ShiftLeftAssign = refl
plain_first ShiftRightAssign = refl
plain_first LessThanOrEqual = refl
plain_first GreaterThanOrEqual = refl
plain_first Equals = refl
plain_first NotEquals = refl
plain_first PlusPlus = refl
plain_first MinusMinus = refl
plain_first ShiftLeft = refl
plain_first ShiftRight = refl
plain_first DoubleAmpersand = refl
plain_first DoubleVerticalBar = refl
plain_first PlusAssign = refl
plain_first MinusAssign = refl
plain_first StarAssign = refl
plain_first PercentAssign = refl
plain_first AmpersandAssign = refl
plain_first VerticalBarAssign = refl
plain_first CaretAssign = refl
plain_first SlashAssign = refl
plain_first LeftBrace = refl
plain_first RightBrace = refl
plain_first LeftParenthesis = refl
plain_first RightParenthesis = refl
plain_first LeftBracket = refl
plain_first RightBracket = refl
plain_first Dot = refl
plain_first Semicolon = refl
plain_first Comma = refl
plain_first LessThan = refl
plain_first GreaterThan = refl
plain_first PlusSign = refl
plain_first MinusSign = refl
plain_first Star = refl
plain_first Percent = refl
plain_first Ampersand = refl
plain_first VerticalBar = refl
plain_first Caret = refl
plain_first ExclamationMark = refl
plain_first Tilde = refl
plain_first QuestionMark = refl
plain_first Colon = refl
plain_first SimpleAssign = refl
plain_first Slash = refl

pub first_of_both : (class : ℕ → Bool) (cs rest : List ℕ) → begins_with class cs ≡ true → begins_with class (cs ++ rest) ≡ true
first_of_both class [] rest e = absurd (cc)
first_of_both class (c ∷ cs) rest e = e

four_parts : (a b c d : Bool) → (a && not b && not c && not d) ≡ true → (a ≡ true) × (b ≡ false) × (c ≡ false) × (d ≡ false)
four_parts true false false false e = (refl, refl, refl, refl)
four_parts true false false true e = absurd (cc)
four_parts true false true d e = absurd (cc)
four_parts true true c d e = absurd (cc)
four_parts false b c d e = absurd (cc)

plain_parts : (u : ℕ) → is_plain u ≡ true → (nat_lt u 128 ≡ true) × (is_ascii_start u ≡ false) × (is_decimal_digit u ≡ false) × (is_quote u ≡ false)
unfolding is_plain
plain_parts u e = four_parts (nat_lt u 128) (is_ascii_start u) (is_decimal_digit u) (is_quote u) e

plain_is_other : (text : List ℕ) → begins_with is_plain text ≡ true → class_of text ≡ Other
plain_is_other [] e = absurd (cc)
plain_is_other (u ∷ us) e =
    let all = plain_parts u e in
    let test : nat_lt u 128 ≡ true = all.0 in
    let low : u < 128 = grind (arith, nat_tests) in
    class_of_other (u ∷ us) all.3 all.2 (start_of_ascii u low ∙ all.1)

pub punctuator_is_other : (text rest : List ℕ) (p : Punct) → text ≡ punct_text p ++ rest → class_of text ≡ Other
punctuator_is_other text rest p e = plain_is_other text (rw e (first_of_both is_plain (punct_text p) rest (plain_first p)))
