-- Worked examples of texts, words, numbers and heights.
use Rattle.std.specs.Prelude.{◌≡◌, ℕ, ℤ, pos, neg_ℤ, List, [], ◌∷◌, ◌++◌, Option, Some, None, codes}
use Rattle.std.specs.Char.Escape.{backslash}
use Rattle.js_core.specs.declared.operators.BinaryOp.TheVariants.{Add}
use Rattle.js_core.specs.Tree as tree
use Rattle.js_core.specs.Tree.{stmts_of}

-- a definition has this value at each argument
abbrev pub Values : {A B : Type 0} → (A → B) → List (A × B) → Type 0
Values f [] = Unit {0}
Values f (x ∷ rest) = (f x.0 ≡ x.1) × Values f rest

-- ---- texts in lines: units, and bytes

abbrev escape : List ℕ → List ℕ
escape word = backslash ∷ word

abbrev pub controls : List (List ℕ × List ℕ)
controls =
    ([], [])
    ∷ (0x61 ∷ 0x5C ∷ 0x5C ∷ 0x75 ∷ [], 0x61 ∷ 0x5C ∷ 0x5C ∷ 0x5C ∷ 0x5C ∷ 0x75 ∷ [])
    ∷ (0x00 ∷ 0x09 ∷ 0x0A ∷ 0x1F ∷ 0x20 ∷ [], escape (codes "u0000") ++ escape (codes "u0009") ++ escape (codes "u000A") ++ escape (codes "u001F") ++ codes " ")
    ∷ (0x7E ∷ 0x7F ∷ 0x80 ∷ [], codes "~" ++ escape (codes "u007F") ++ escape (codes "u0080"))
    ∷ (0x9F ∷ 0xA0 ∷ 0xFF ∷ [], escape (codes "u009F") ++ 0xC2 ∷ 0xA0 ∷ 0xC3 ∷ 0xBF ∷ [])
    ∷ (0x7FF ∷ 0x800 ∷ 0x2028 ∷ 0xABCD ∷ [], 0xDF ∷ 0xBF ∷ 0xE0 ∷ 0xA0 ∷ 0x80 ∷ 0xE2 ∷ 0x80 ∷ 0xA8 ∷ 0xEA ∷ 0xAF ∷ 0x8D ∷ [])
    ∷ []

abbrev pub surrogates : List (List ℕ × List ℕ)
surrogates =
    (0xD83D ∷ 0xDE00 ∷ [], 0xF0 ∷ 0x9F ∷ 0x98 ∷ 0x80 ∷ [])
    ∷ (0xD800 ∷ 0xDC00 ∷ 0xDBFF ∷ 0xDFFF ∷ [], 0xF0 ∷ 0x90 ∷ 0x80 ∷ 0x80 ∷ 0xF4 ∷ 0x8F ∷ 0xBF ∷ 0xBF ∷ [])
    ∷ (0xD7FF ∷ 0xE000 ∷ 0xFFFD ∷ 0xFFFF ∷ [], 0xED ∷ 0x9F ∷ 0xBF ∷ 0xEE ∷ 0x80 ∷ 0x80 ∷ 0xEF ∷ 0xBF ∷ 0xBD ∷ 0xEF ∷ 0xBF ∷ 0xBF ∷ [])
    ∷ (0xD800 ∷ [], escape (codes "uD800"))
    ∷ (0xDBFF ∷ 0x61 ∷ [], escape (codes "uDBFFa"))
    ∷ (0xDC00 ∷ 0xD800 ∷ [], escape (codes "uDC00") ++ escape (codes "uD800"))
    ∷ (0xDFFF ∷ 0xD7FF ∷ [], escape (codes "uDFFF") ++ 0xED ∷ 0x9F ∷ 0xBF ∷ [])
    ∷ (0xDBFF ∷ 0xE000 ∷ [], escape (codes "uDBFF") ++ 0xEE ∷ 0x80 ∷ 0x80 ∷ [])
    ∷ (0xD83D ∷ 0xD83D ∷ 0xDE00 ∷ 0xDE00 ∷ [], escape (codes "uD83D") ++ 0xF0 ∷ 0x9F ∷ 0x98 ∷ 0x80 ∷ escape (codes "uDE00"))
    ∷ []

-- ---- characters, and the units of UTF-16

abbrev pub units : List (List ℕ × List ℕ)
units =
    ([], [])
    ∷ (0x61 ∷ 0x00 ∷ 0x7F ∷ [], 0x61 ∷ 0x00 ∷ 0x7F ∷ [])
    ∷ (0x80 ∷ 0x7FF ∷ 0x800 ∷ [], 0x80 ∷ 0x7FF ∷ 0x800 ∷ [])
    ∷ (0xD7FF ∷ 0xE000 ∷ 0xFFFF ∷ [], 0xD7FF ∷ 0xE000 ∷ 0xFFFF ∷ [])
    ∷ (0x10000 ∷ 0x103FF ∷ [], 0xD800 ∷ 0xDC00 ∷ 0xD800 ∷ 0xDFFF ∷ [])
    ∷ (0x78 ∷ 0x1F600 ∷ 0x10FFFF ∷ [], 0x78 ∷ 0xD83D ∷ 0xDE00 ∷ 0xDBFF ∷ 0xDFFF ∷ [])
    ∷ []

-- ---- words

abbrev pub reserved_words : List (List ℕ)
reserved_words =
    codes "break" ∷ codes "case" ∷ codes "catch" ∷ codes "class" ∷ codes "const" ∷ codes "continue" ∷ codes "debugger"
    ∷ codes "default" ∷ codes "delete" ∷ codes "do" ∷ codes "else" ∷ codes "enum" ∷ codes "export" ∷ codes "extends" ∷ codes "false"
    ∷ codes "finally" ∷ codes "for" ∷ codes "function" ∷ codes "if" ∷ codes "implements" ∷ codes "import" ∷ codes "in"
    ∷ codes "instanceof" ∷ codes "interface" ∷ codes "let" ∷ codes "new" ∷ codes "null" ∷ codes "package" ∷ codes "private"
    ∷ codes "protected" ∷ codes "public" ∷ codes "return" ∷ codes "static" ∷ codes "super" ∷ codes "switch" ∷ codes "this"
    ∷ codes "throw" ∷ codes "true" ∷ codes "try" ∷ codes "typeof" ∷ codes "var" ∷ codes "void" ∷ codes "while" ∷ codes "with"
    ∷ codes "yield" ∷ []

abbrev pub other_words : List (List ℕ)
other_words =
    [] ∷ codes "Break" ∷ codes "breaks" ∷ codes "eval" ∷ codes "arguments" ∷ codes "of" ∷ codes "undefined" ∷ codes "get" ∷ []

-- ---- numbers

abbrev pub numbers : List (ℤ × Option (Option ℤ))
numbers =
    (pos 0, Some (Some (pos 0))) ∷ (pos 1, Some (Some (pos 1))) ∷ (neg_ℤ (pos 1), Some (Some (neg_ℤ (pos 1))))
    ∷ (pos 9007199254740991, Some (Some (pos 9007199254740991))) ∷ (pos 9007199254740992, None)
    ∷ (neg_ℤ (pos 9007199254740991), Some (Some (neg_ℤ (pos 9007199254740991)))) ∷ (neg_ℤ (pos 9007199254740992), None)
    ∷ (pos 9223372036854775807, None) ∷ (neg_ℤ (pos 9223372036854775808), None) ∷ []

-- ---- heights

abbrev one : tree.Expr
one = tree.num None

abbrev sum : tree.Expr → tree.Expr → tree.Expr
sum left right = tree.binary Add left right

abbrev body : tree.Stmts
body = stmts_of (tree.return (tree.one_expr (sum one (sum one one))) ∷ [])

abbrev pub heights : List (tree.Stmts × ℕ)
heights =
    (stmts_of [], 0)
    ∷ (stmts_of (tree.expr one ∷ []), 2)
    ∷ (stmts_of (tree.expr (sum one (sum one one)) ∷ []), 4)
    ∷ (body, 4)
    ∷ (stmts_of (tree.expr (tree.func (tree.code None [] body)) ∷ []), 6)
    ∷ (stmts_of (tree.function (tree.code None [] body) ∷ []), 7)
    ∷ []
