-- The errors that the language and its host throw.
use Rattle.std.specs.Prelude.{ℕ, List, ◌++◌, Option, Some, None, codes}
use Rattle.js_values.specs.declared.throw.ErrorKind.{ErrorKind}
use Rattle.js_values.specs.declared.throw.ErrorKind.TheVariants as kind
use Rattle.js_values.specs.declared.throw.Throw.{Throw}
use Rattle.js_values.specs.declared.throw.Throw.TheVariants.{NotDefined, NotFunction, NoProperties, CannotSet, CannotDefine, CannotDelete, NoPrimitive, NotObject, WrongArgument, OutOfRange, TextTooLong, InvalidLength, TooDeep, Hierarchy, InvalidCharacter, NotFound, NotSupported, UnspecifiedEventType}

-- the kind of the error that is thrown
abbrev pub kind_of : Throw → ErrorKind
kind_of (NotDefined name) = kind.Reference
kind_of NotFunction = kind.Type
kind_of NoProperties = kind.Type
kind_of CannotSet = kind.Type
kind_of CannotDefine = kind.Type
kind_of CannotDelete = kind.Type
kind_of NoPrimitive = kind.Type
kind_of NotObject = kind.Type
kind_of WrongArgument = kind.Type
kind_of OutOfRange = kind.Range
kind_of TextTooLong = kind.Range
kind_of InvalidLength = kind.Range
kind_of TooDeep = kind.Range
kind_of Hierarchy = kind.Plain
kind_of InvalidCharacter = kind.Plain
kind_of NotFound = kind.Plain
kind_of NotSupported = kind.Plain
kind_of UnspecifiedEventType = kind.Plain

-- the name of a kind's constructor, which is its errors' `name` (ECMA-262 5.1 sections 15.11.1 and 15.11.6)
abbrev pub kind_name : ErrorKind → List ℕ
kind_name kind.Plain = codes "Error"
kind_name kind.Type = codes "TypeError"
kind_name kind.Range = codes "RangeError"
kind_name kind.Reference = codes "ReferenceError"

-- the `name` of the error that is thrown
abbrev pub error_name_of : Throw → List ℕ
error_name_of what = kind_name (kind_of what)

-- the `code` that an error of the host has (DOM Level 2 Core, ExceptionCode, and Events, EventExceptionCode)
abbrev pub code_of : Throw → Option ℕ
code_of Hierarchy = Some 3
code_of InvalidCharacter = Some 5
code_of NotFound = Some 8
code_of NotSupported = Some 9
code_of UnspecifiedEventType = Some 0
code_of what = None

-- its `message`
abbrev pub message_of : Throw → List ℕ
message_of (NotDefined name) = name ++ codes " is not defined"
message_of NotFunction = codes "not a function"
message_of NoProperties = codes "no properties"
message_of CannotSet = codes "cannot set"
message_of CannotDefine = codes "cannot define"
message_of CannotDelete = codes "cannot delete"
message_of NoPrimitive = codes "no primitive value"
message_of NotObject = codes "not an object"
message_of WrongArgument = codes "wrong argument"
message_of OutOfRange = codes "number out of range"
message_of TextTooLong = codes "text too long"
message_of InvalidLength = codes "invalid length"
message_of TooDeep = codes "too deep"
message_of Hierarchy = codes "HIERARCHY_REQUEST_ERR"
message_of InvalidCharacter = codes "INVALID_CHARACTER_ERR"
message_of NotFound = codes "NOT_FOUND_ERR"
message_of NotSupported = codes "NOT_SUPPORTED_ERR"
message_of UnspecifiedEventType = codes "UNSPECIFIED_EVENT_TYPE_ERR"

-- the text of an uncaught line for the error
abbrev pub thrown_text : Throw → List ℕ
thrown_text what = error_name_of what ++ codes ": " ++ message_of what
