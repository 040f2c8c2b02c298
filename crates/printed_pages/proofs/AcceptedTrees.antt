-- An accepted script is a tree that some tokens have: the text of a page has 16-bit units, so the tokens of its script can be written.
use Rattle.std.proofs.Common.{ℕ, List, [], ◌∷◌}
use Rattle.std.specs.List.{All}
use Rattle.std.proofs.lemmas.List.Elements.{All-cons, All-head, All-nil, All-tail}
use Rattle.dom_tree.specs.Node.{Nodes}
use Rattle.js_core.specs.Text.{AllUnits}
use Rattle.js_core.specs.Tree as tree
use Rattle.js_grammar.specs.Scripts.{TokensHaveSyntax}
use Rattle.js_grammar.specs.Syntax.{IsSyntax}
use Rattle.js_print.specs.Written.{TokensCanBeWritten}
use Rattle.page_check.specs.Accept.{ArePageScripts, IsPageScript, texts_of}
use Rattle.page_check.specs.declared.page.Kind.{Kind}
use Rattle.page_reader.specs.declared.page.ScriptText.{ScriptText}
use Rattle.page_reader.specs.Bytes.{IsPageOf}
use Rattle.printed_pages.specs.Printed.{AcceptedScriptsHaveSyntax}

-- the texts of a page's scripts have 16-bit units
abbrev pub TextsHaveUnits : Type 0
TextsHaveUnits = (bytes : List ℕ) (nodes : Nodes) (texts : List ScriptText) → IsPageOf bytes nodes texts → All AllUnits (texts_of texts)

script_has_syntax : TokensCanBeWritten → TokensHaveSyntax → (kind : Kind) (text : List ℕ) (script : tree.Stmts) → AllUnits text
    → IsPageScript kind text script → IsSyntax script
script_has_syntax written syntax kind text script units is =
    let strict = is.low.orderly.strict in
    syntax strict.tokens script (written text strict.tokens units strict.read.lexed) strict.read.parsed.0

scripts_have_syntax : TokensCanBeWritten → TokensHaveSyntax → (kind : Kind) (texts : List (List ℕ)) (scripts : List tree.Stmts) → All AllUnits texts
    → ArePageScripts kind texts scripts → All IsSyntax scripts
scripts_have_syntax written syntax kind [] [] units is = All-nil IsSyntax
scripts_have_syntax written syntax kind (text ∷ texts) (script ∷ scripts) units is =
    All-cons IsSyntax script scripts (script_has_syntax written syntax kind text script (All-head AllUnits text texts units) is.0)
    (scripts_have_syntax written syntax kind texts scripts (All-tail AllUnits text texts units) is.1)
scripts_have_syntax written syntax kind [] (script ∷ scripts) units is = absurd is
scripts_have_syntax written syntax kind (text ∷ texts) [] units is = absurd is

pub accepted_scripts_have_syntax : TokensCanBeWritten → TokensHaveSyntax → TextsHaveUnits → AcceptedScriptsHaveSyntax
accepted_scripts_have_syntax written syntax units bytes page is =
    scripts_have_syntax written syntax page.kind (texts_of is.texts) page.scripts (units bytes page.nodes is.texts is.is_page) is.read
