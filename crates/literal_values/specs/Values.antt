-- Values that can be written: numbers of the language, and texts of 16-bit units whose lengths are such numbers.
use Rattle.std.specs.Prelude.{ℕ, ℤ, pos, negsuc, suc, ◌≤◌, List, [], ◌∷◌, length, Option, Some, None, Result, Ok, Err, ⊤}
use Rattle.js_core.specs.Text.{AllUnits}
use Rattle.js_core.specs.Whole.{largest}
use Rattle.js_values.specs.declared.throw.Throw.{Throw}
use Rattle.js_values.specs.declared.throw.Throw.TheVariants.{NotDefined}
use Rattle.js_values.specs.declared.value.Value.{Value}
use Rattle.js_values.specs.declared.value.Value.TheVariants.{Num, Text}
use Rattle.whole_ops.specs.Arithmetic.{Outcome}

-- ---- numbers

-- NaN, or at least -(2^53 - 1) and at most 2^53 - 1
abbrev pub IsNumber : Option ℤ → Type 0
IsNumber None = ⊤
IsNumber (Some (pos k)) = k ≤ largest
IsNumber (Some (negsuc k)) = suc k ≤ largest

-- what an operator gives
abbrev pub IsNumberOutcome : Outcome → Type 0
IsNumberOutcome (Ok n) = IsNumber n
IsNumberOutcome (Err e) = ⊤

-- ---- texts

abbrev pub IsText : List ℕ → Type 0
IsText t = AllUnits t × (length t ≤ largest)

-- a name that code reads is short enough for the message of an error that tells it
abbrev pub longest_name : ℕ
longest_name = 16777216

abbrev pub IsName : List ℕ → Type 0
IsName t = AllUnits t × (length t ≤ longest_name)

abbrev pub AreTexts : List (List ℕ) → Type 0
AreTexts [] = ⊤
AreTexts (x ∷ xs) = IsText x × AreTexts xs

abbrev pub MaybeText : Option (List ℕ) → Type 0
MaybeText None = ⊤
MaybeText (Some x) = IsText x

-- ---- values

abbrev pub IsBounded : Value → Type 0
IsBounded (Num n) = IsNumber n
IsBounded (Text t) = IsText t
IsBounded v = ⊤

abbrev pub AreBounded : List Value → Type 0
AreBounded [] = ⊤
AreBounded (v ∷ vs) = IsBounded v × AreBounded vs

abbrev pub MaybeBounded : Option Value → Type 0
MaybeBounded None = ⊤
MaybeBounded (Some v) = IsBounded v

-- ---- errors

-- the message of an error tells the name that is not defined
abbrev pub LiteralThrow : Throw → Type 0
LiteralThrow (NotDefined name) = IsName name
LiteralThrow t = ⊤

abbrev pub MaybeThrow : Option Throw → Type 0
MaybeThrow None = ⊤
MaybeThrow (Some t) = LiteralThrow t

-- a value or an error
abbrev pub LiteralResult : Result Value Throw → Type 0
LiteralResult (Ok v) = IsBounded v
LiteralResult (Err t) = LiteralThrow t
