-- What the tables of signs say of one another.
use Rattle.std.proofs.Common.{◌≡◌, ℕ, suc, ◌≤◌, Bool, true, false, Option, Some, None, refl, ap, arith, rules}
use Rattle.std.proofs.lemmas.Bool.{or_parts}
use Rattle.std.specs.Prelude.{nat_le}
use Rattle.std.proofs.lemmas.Bool.Decides.{nat_tests}
use denote.Enum.Bare.{same_true}
use Rattle.js_core.specs.declared.token.Punct.TheVariants as p
use Rattle.js_core.specs.declared.operators.BinaryOp.{BinaryOp}
use Rattle.js_core.specs.declared.operators.BinaryOp.TheVariants as op
use Rattle.js_core.specs.contracts.token.Punct as punct
use Rattle.js_core.specs.contracts.keyword.Keyword as keyword
use Rattle.js_grammar.specs.declared.sign.Sign.{Sign}
use Rattle.js_grammar.specs.declared.sign.Sign.TheVariants.{Mark, Word}
use Rattle.js_grammar.specs.Operators.{Infix, either, both, operation, infix_of, level_of, climbs_by, climbs, step_of, assignment_of, is_assignment_by, is_question, is_later, is_suffix}
use Rattle.js_grammar.specs.Symbols.{is_sign}
use Rattle.js_grammar.proofs.Beginnings.{can_begin}

-- ---- one sign

pub sign_is : (m : Sign) (s : Option Sign) → is_sign m s ≡ true → s ≡ Some m
sign_is (Mark m) (Some (Mark n)) e = ap (λ k. Some (Mark k)) (same_true punct.the_type (search rules) n m e)
sign_is (Word m) (Some (Word n)) e = ap (λ k. Some (Word k)) (same_true keyword.the_type (search rules) n m e)
sign_is (Mark m) (Some (Word n)) e = absurd (cc)
sign_is (Word m) (Some (Mark n)) e = absurd (cc)
sign_is (Mark m) None e = absurd (cc)
sign_is (Word m) None e = absurd (cc)

-- a sign that a test refuses is not the one that passes it
pub not_sign : (t : Option Sign → Bool) (m : Sign) (s : Option Sign) → t (Some m) ≡ true → t s ≡ false → is_sign m s ≡ false
not_sign t m s e f = by (is_sign m s) refl
  where
    by : (c : Bool) → is_sign m s ≡ c → is_sign m s ≡ false
    by true i = let same : t s ≡ t (Some m) = ap t (sign_is m s i) in absurd (cc)
    by false i = i

pub not_first : (m : Sign) (s : Option Sign) → can_begin (Some m) ≡ false → can_begin s ≡ true → is_sign m s ≡ false
not_first m s e f = by (is_sign m s) refl
  where
    by : (c : Bool) → is_sign m s ≡ c → is_sign m s ≡ false
    by true i = let same : can_begin s ≡ can_begin (Some m) = ap can_begin (sign_is m s i) in absurd (cc)
    by false i = i

-- ---- levels

pub low : (f : Infix) → nat_le 11 (level_of f) ≡ false
low either = refl
low both = refl
low (operation op.BitOr) = refl
low (operation _) = refl

pub above_all : (inn : Bool) (s : Option Sign) → climbs inn 11 s ≡ false
above_all inn s = by (infix_of inn s)
  where
    by : (o : Option Infix) → climbs_by 11 o ≡ false
    by None = refl
    by (Some f) = low f

tighter_by : (n k : ℕ) → nat_le n k ≡ false → nat_le (suc n) k ≡ false
tighter_by n k h = grind (arith, nat_tests)

pub no_tighter : (inn : Bool) (n : ℕ) (s : Option Sign) → climbs inn n s ≡ false → climbs inn (suc n) s ≡ false
no_tighter inn n s h = by (infix_of inn s) h
  where
    by : (o : Option Infix) → climbs_by n o ≡ false → climbs_by (suc n) o ≡ false
    by None h = refl
    by (Some f) h = tighter_by n (level_of f) h

pub not_above : (n : ℕ) → nat_le (suc n) n ≡ false
not_above n = grind (arith, nat_tests)

-- ---- an infix operator is nothing else

pub infix_no_suffix : (inn : Bool) (s : Sign) {f : Infix} → infix_of inn (Some s) ≡ Some f → is_suffix true (Some s) ≡ false
infix_no_suffix inn (Mark p.Dot) e = absurd (cc)
infix_no_suffix inn (Mark p.LeftBracket) e = absurd (cc)
infix_no_suffix inn (Mark p.LeftParenthesis) e = absurd (cc)
infix_no_suffix inn (Mark _) e = refl
infix_no_suffix inn (Word _) e = refl

pub infix_no_step : (inn : Bool) (s : Sign) {f : Infix} → infix_of inn (Some s) ≡ Some f → step_of (Some s) ≡ None
infix_no_step inn (Mark p.PlusPlus) e = absurd (cc)
infix_no_step inn (Mark p.MinusMinus) e = absurd (cc)
infix_no_step inn (Mark _) e = refl
infix_no_step inn (Word _) e = refl

pub infix_no_assignment : (inn : Bool) (s : Sign) {f : Infix} → infix_of inn (Some s) ≡ Some f → assignment_of (Some s) ≡ None
infix_no_assignment inn (Mark p.SimpleAssign) e = absurd (cc)
infix_no_assignment inn (Mark p.PlusAssign) e = absurd (cc)
infix_no_assignment inn (Mark p.MinusAssign) e = absurd (cc)
infix_no_assignment inn (Mark p.StarAssign) e = absurd (cc)
infix_no_assignment inn (Mark p.SlashAssign) e = absurd (cc)
infix_no_assignment inn (Mark p.PercentAssign) e = absurd (cc)
infix_no_assignment inn (Mark p.ShiftLeftAssign) e = absurd (cc)
infix_no_assignment inn (Mark p.ShiftRightAssign) e = absurd (cc)
infix_no_assignment inn (Mark p.ShiftRightUnsignedAssign) e = absurd (cc)
infix_no_assignment inn (Mark p.AmpersandAssign) e = absurd (cc)
infix_no_assignment inn (Mark p.VerticalBarAssign) e = absurd (cc)
infix_no_assignment inn (Mark p.CaretAssign) e = absurd (cc)
infix_no_assignment inn (Mark _) e = refl
infix_no_assignment inn (Word _) e = refl

-- ---- `++` and `--`, and assignments

pub step_no_suffix : (s : Sign) {up : Bool} → step_of (Some s) ≡ Some up → is_suffix true (Some s) ≡ false
step_no_suffix (Mark p.PlusPlus) e = refl
step_no_suffix (Mark p.MinusMinus) e = refl
step_no_suffix (Mark _) e = absurd (cc)
step_no_suffix (Word _) e = absurd (cc)

pub step_no_assignment : (s : Sign) {up : Bool} → step_of (Some s) ≡ Some up → assignment_of (Some s) ≡ None
step_no_assignment (Mark p.PlusPlus) e = refl
step_no_assignment (Mark p.MinusMinus) e = refl
step_no_assignment (Mark _) e = absurd (cc)
step_no_assignment (Word _) e = absurd (cc)

pub assignment_no_suffix : (s : Sign) {f : Option BinaryOp} → assignment_of (Some s) ≡ Some f → is_suffix true (Some s) ≡ false
assignment_no_suffix (Mark p.Dot) e = absurd (cc)
assignment_no_suffix (Mark p.LeftBracket) e = absurd (cc)
assignment_no_suffix (Mark p.LeftParenthesis) e = absurd (cc)
assignment_no_suffix (Mark _) e = refl
assignment_no_suffix (Word _) e = refl

none_by : (o : Option (Option BinaryOp)) → is_assignment_by o ≡ false → o ≡ None
none_by None e = refl
none_by (Some f) e = absurd (cc)

pub no_assignment : (s : Option Sign) → is_later s ≡ false → assignment_of s ≡ None
no_assignment s h = none_by (assignment_of s) (or_parts (is_question s) _ h).1

pub no_question : (s : Option Sign) → is_later s ≡ false → is_sign (Mark p.QuestionMark) s ≡ false
no_question s h = not_sign is_question (Mark p.QuestionMark) s refl (or_parts (is_question s) _ h).0

-- ---- suffixes

pub fewer_suffixes : (calls : Bool) (s : Option Sign) → is_suffix true s ≡ false → is_suffix calls s ≡ false
fewer_suffixes true s e = e
fewer_suffixes false None e = refl
fewer_suffixes false (Some (Mark p.Dot)) e = absurd (cc)
fewer_suffixes false (Some (Mark p.LeftBracket)) e = absurd (cc)
fewer_suffixes false (Some (Mark _)) e = refl
fewer_suffixes false (Some (Word _)) e = refl

pub no_call : (s : Option Sign) → is_suffix true s ≡ false → is_sign (Mark p.LeftParenthesis) s ≡ false
no_call s e = not_sign (is_suffix true) (Mark p.LeftParenthesis) s refl e

pub all_suffixes : (calls : Bool) (s : Option Sign) → is_suffix false s ≡ false → is_sign (Mark p.LeftParenthesis) s ≡ false → is_suffix calls s ≡ false
all_suffixes false s e n = e
all_suffixes true None e n = refl
all_suffixes true (Some (Mark p.Dot)) e n = absurd (cc)
all_suffixes true (Some (Mark p.LeftBracket)) e n = absurd (cc)
all_suffixes true (Some (Mark p.LeftParenthesis)) e n = absurd (cc)
all_suffixes true (Some (Mark _)) e n = refl
all_suffixes true (Some (Word _)) e n = refl

-- ---- levels of operators, as numbers

pub at_most : (n k : ℕ) → nat_le (suc k) n ≡ false → n ≤ k
at_most n k h = grind (arith, nat_tests)
