-- Worked examples of lines, and of the lines' texts for errors.
use Rattle.std.specs.Prelude.{ℕ, List, [], ◌∷◌, ◌++◌, codes}
use Rattle.js_values.specs.declared.line.Line.{Line}
use Rattle.js_values.specs.declared.line.LineKind.{LineKind}
use Rattle.js_values.specs.declared.line.LineKind.TheVariants.{Log, Alert, Uncaught, Dom, Stopped, NoElement}
use Rattle.js_values.specs.declared.throw.Throw.{Throw}
use Rattle.js_values.specs.declared.throw.Throw.TheVariants.{NotDefined, NotFunction, NoProperties, CannotSet, CannotDefine, CannotDelete, NoPrimitive, NotObject, WrongArgument, OutOfRange, TextTooLong, InvalidLength, TooDeep, Hierarchy, InvalidCharacter, NotFound, NotSupported, UnspecifiedEventType}

-- `<p>`, LF, a backslash and `</p>`
abbrev of_kind : LineKind → Line
of_kind kind = record { kind = kind; text = codes "<p>" ++ 0x0A ∷ 0x5C ∷ codes "</p>" }

-- the same in a line, and LF
abbrev written : List ℕ
written = codes "<p>" ++ 0x5C ∷ codes "u000A" ++ 0x5C ∷ 0x5C ∷ codes "</p>" ++ 0x0A ∷ []

abbrev pub lines : List (Line × List ℕ)
lines =
    (of_kind Log, codes "log " ++ written)
    ∷ (of_kind Alert, codes "alert " ++ written)
    ∷ (of_kind Uncaught, codes "uncaught " ++ written)
    ∷ (of_kind Dom, codes "dom " ++ written)
    ∷ (of_kind Stopped, codes "stopped" ++ 0x0A ∷ [])
    ∷ (of_kind NoElement, codes "no element" ++ 0x0A ∷ [])
    ∷ (record { kind = Log; text = [] }, codes "log " ++ 0x0A ∷ [])
    ∷ []

-- the first name is `größe`
abbrev pub thrown : List (Throw × List ℕ)
thrown =
    (NotDefined (codes "gr" ++ 0xF6 ∷ 0xDF ∷ codes "e"), codes "ReferenceError: gr" ++ 0xF6 ∷ 0xDF ∷ codes "e is not defined")
    ∷ (NotFunction, codes "TypeError: not a function")
    ∷ (NoProperties, codes "TypeError: no properties")
    ∷ (CannotSet, codes "TypeError: cannot set")
    ∷ (CannotDefine, codes "TypeError: cannot define")
    ∷ (CannotDelete, codes "TypeError: cannot delete")
    ∷ (NoPrimitive, codes "TypeError: no primitive value")
    ∷ (NotObject, codes "TypeError: not an object")
    ∷ (WrongArgument, codes "TypeError: wrong argument")
    ∷ (OutOfRange, codes "RangeError: number out of range")
    ∷ (TextTooLong, codes "RangeError: text too long")
    ∷ (InvalidLength, codes "RangeError: invalid length")
    ∷ (TooDeep, codes "RangeError: too deep")
    ∷ (Hierarchy, codes "Error: HIERARCHY_REQUEST_ERR")
    ∷ (InvalidCharacter, codes "Error: INVALID_CHARACTER_ERR")
    ∷ (NotFound, codes "Error: NOT_FOUND_ERR")
    ∷ (NotSupported, codes "Error: NOT_SUPPORTED_ERR")
    ∷ (UnspecifiedEventType, codes "Error: UNSPECIFIED_EVENT_TYPE_ERR")
    ∷ []
