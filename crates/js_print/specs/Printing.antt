-- The printed text of a script and of a function: the text of the lexemes of its tree.
use Rattle.std.specs.Prelude.{ℕ, List, None}
use Rattle.js_core.specs.Tree as tree
use Rattle.js_core.specs.Tree.{code}
use Rattle.js_print.specs.Lexemes.{code_lexemes, stmts_lexemes}
use Rattle.js_print.specs.Spelling.{text_of}

abbrev pub script_text : tree.Stmts → List ℕ
script_text script = text_of (stmts_lexemes script)

-- as a function expression, or as the declaration of a function that has a name
abbrev pub code_text : tree.Code → List ℕ
code_text c = text_of (code_lexemes c)

-- the function without its name
abbrev pub unnamed : tree.Code → tree.Code
unnamed (code x formals body) = code None formals body
