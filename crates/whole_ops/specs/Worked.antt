-- Worked examples of what no line can ask: texts with white space and U+0000, objects, conversions and the order of texts.
use Rattle.std.specs.Prelude.{ℕ, ℤ, pos, neg_ℤ, Bool, true, false, List, [], ◌∷◌, ◌++◌, Option, Some, None, Result, Ok, Err, codes}
use Rattle.js_core.specs.Whole.{nan}
use Rattle.js_values.specs.declared.value.Value.{Value}
use Rattle.js_values.specs.declared.value.Value.TheVariants.{Undefined, Null, Bool as Truth, Num, Text, Object}
use Rattle.whole_ops.specs.Arithmetic.{Outcome}
use Rattle.whole_ops.specs.declared.fault.LooseFault.{LooseFault}
use Rattle.whole_ops.specs.declared.fault.LooseFault.TheVariants.{NeedsPrimitive, Outside}

abbrev number : ℕ → Option ℤ
number n = Some (pos n)

abbrev object : ℕ → Value
object n = Object (record { 0 = n })

-- ---- texts and the numbers that they write

abbrev before : List ℕ
before = 0x09 ∷ 0x0A ∷ 0x0B ∷ 0x0C ∷ 0x0D ∷ 0x20 ∷ 0xA0 ∷ 0x1680 ∷ []

abbrev after : List ℕ
after = 0x2000 ∷ 0x200A ∷ 0x2028 ∷ 0x2029 ∷ 0x202F ∷ 0x205F ∷ 0x3000 ∷ 0xFEFF ∷ []

abbrev pub numerals : List (List ℕ × Outcome)
numerals =
    (before ++ after, Ok (number 0))
    ∷ (before ++ codes "12" ++ after, Ok (number 12))
    ∷ (0 ∷ [], Ok nan)
    ∷ (codes "1" ++ 0 ∷ [], Ok nan)
    ∷ []

-- ---- numbers as texts

abbrev pub texts : List (Option ℤ × List ℕ)
texts =
    (number 0, codes "0")
    ∷ (number 7, codes "7")
    ∷ (Some (neg_ℤ (pos 120)), codes "-120")
    ∷ (number 9007199254740991, codes "9007199254740991")
    ∷ (Some (neg_ℤ (pos 9007199254740991)), codes "-9007199254740991")
    ∷ (nan, codes "NaN")
    ∷ []

-- ---- two values, and whether they are the same; and what `==` answers

abbrev pub same : List ((Value × Value) × Bool)
same =
    ((Undefined, object 1), false)
    ∷ ((Truth false, object 1), false)
    ∷ ((Num (number 1), object 1), false)
    ∷ ((Text (codes "a"), object 1), false)
    ∷ ((object 1, object 1), true)
    ∷ ((object 1, object 2), false)
    ∷ []

abbrev pub equal : List ((Value × Value) × Result Bool LooseFault)
equal =
    ((Undefined, object 1), Ok false)
    ∷ ((Truth false, object 1), Err NeedsPrimitive)
    ∷ ((Num (number 1), object 1), Err NeedsPrimitive)
    ∷ ((Text (codes "a"), object 1), Err NeedsPrimitive)
    ∷ ((object 1, object 1), Ok true)
    ∷ ((object 1, object 2), Ok false)
    ∷ []

-- ---- values, and their numbers, truths and texts

abbrev pub numbers : List (Value × Result (Option ℤ) LooseFault)
numbers =
    (Undefined, Ok nan)
    ∷ (Null, Ok (number 0))
    ∷ (Truth true, Ok (number 1))
    ∷ (Truth false, Ok (number 0))
    ∷ (Num (number 0), Ok (number 0))
    ∷ (Num nan, Ok nan)
    ∷ (Text [], Ok (number 0))
    ∷ (Text (codes "0"), Ok (number 0))
    ∷ (Text (codes "1.5"), Err Outside)
    ∷ (object 1, Err NeedsPrimitive)
    ∷ []

abbrev pub truths : List (Value × Bool)
truths =
    (Undefined, false)
    ∷ (Null, false)
    ∷ (Truth true, true)
    ∷ (Truth false, false)
    ∷ (Num (number 0), false)
    ∷ (Num nan, false)
    ∷ (Text [], false)
    ∷ (Text (codes "0"), true)
    ∷ (Text (codes "1.5"), true)
    ∷ (object 1, true)
    ∷ []

abbrev pub words : List (Value × Option (List ℕ))
words =
    (Undefined, Some (codes "undefined"))
    ∷ (Null, Some (codes "null"))
    ∷ (Truth true, Some (codes "true"))
    ∷ (Truth false, Some (codes "false"))
    ∷ (Num (number 0), Some (codes "0"))
    ∷ (Num nan, Some (codes "NaN"))
    ∷ (Text (codes "1.5"), Some (codes "1.5"))
    ∷ (object 1, None)
    ∷ []

-- ---- two texts, and whether one comes before the other

abbrev pub orders : List ((List ℕ × List ℕ) × Bool)
orders =
    (([], []), false)
    ∷ (([], codes "a"), true)
    ∷ ((codes "a", []), false)
    ∷ ((codes "a", codes "ab"), true)
    ∷ ((codes "b", codes "ab"), false)
    ∷ ((0xFF61 ∷ [], 0xD800 ∷ 0xDC02 ∷ []), false)
    ∷ ((0xD800 ∷ 0xDC02 ∷ [], 0xFF61 ∷ []), true)
    ∷ []
