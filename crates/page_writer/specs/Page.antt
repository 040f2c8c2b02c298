-- The text of a saved page: its scripts, and the statements in them, each in a line of its own.
use Rattle.std.specs.Prelude.{ℕ, List, [], ◌∷◌, ◌++◌, codes}
use Rattle.js_print.specs.Lexemes.{stmt_lexemes}
use Rattle.js_print.specs.Spelling.{text_of}
use Rattle.page_meaning.specs.Store.{Store}
use Rattle.rebuild_plan.specs.Compact.{compact}
use Rattle.rebuild_plan.specs.Plan.{plan}
use Rattle.rebuild_plan.specs.declared.statement.Rebuild.{Rebuild}
use Rattle.page_writer.specs.Statements.{statement}

-- ---- the lines

-- a statement with its line end
abbrev pub line : Rebuild → List ℕ
line r = text_of (stmt_lexemes (statement r)) ++ 10 ∷ []

abbrev pub lines : List Rebuild → List ℕ
lines [] = []
lines (r ∷ rs) = line r ++ lines rs

-- ---- scripts

-- the start of a script in which `$$` is a list that no name of a page reaches. The nodes that it is read with are taken out: what they were may
-- have changed since, and those that are there still are made again
abbrev pub script_head : List ℕ
script_head = codes "\"use strict\";try{throw[];}catch($$){\ndocument.removeChild(document.documentElement);\n"

abbrev pub script_tail : List ℕ
script_tail = codes "}"

abbrev pub script_text : List Rebuild → List ℕ
script_text rs = script_head ++ (lines rs ++ script_tail)

-- the scripts of a page, each as an element
abbrev pub scripts_text : List (List ℕ) → List ℕ
scripts_text [] = []
scripts_text (t ∷ ts) = codes "<script>" ++ (t ++ (codes "</script>" ++ scripts_text ts))

-- ---- the page

-- the mark of form pages, and the scripts
abbrev pub page_text : List (List ℕ) → List ℕ
page_text scripts = codes "<!--imagen 1--><html>" ++ (scripts_text scripts ++ codes "</html>")

-- all statements stand in one script
abbrev pub page_of : List Rebuild → List ℕ
page_of rs = page_text (script_text rs ∷ [])

-- the saved page of a page whose reachable things are these
abbrev pub saved_page : Store → List ℕ → List ℕ
saved_page s things = page_of (plan (compact s things))
