-- The scripts of a saved page as trees: the list in `$$`, which a catch clause binds, and the statements.
use Rattle.std.specs.Prelude.{List, [], ◌∷◌, codes}
use Rattle.js_core.specs.Tree as tree
use Rattle.js_core.specs.Tree.{expr, list, member, no_body, no_holes, no_stmts, one_catch, text, then_stmt, throw, try}
use Rattle.page_meaning.specs.Pages.{Page}
use Rattle.rebuild_plan.specs.declared.statement.Rebuild.{Rebuild}
use Rattle.page_writer.specs.Frame.{frame_nodes}
use Rattle.page_writer.specs.HostStatements.{document_method, one}
use Rattle.page_writer.specs.Statements.{document_expr, statement}

abbrev pub statements : List Rebuild → tree.Stmts
statements [] = no_stmts
statements (r ∷ rs) = then_stmt (statement r) (statements rs)

-- `throw[];`
abbrev pub new_list : tree.Stmts
new_list = then_stmt (throw (list no_holes)) no_stmts

-- `try{throw[];}catch($$){..}`
abbrev pub with_list : tree.Stmts → tree.Stmt
with_list ss = try new_list (one_catch (codes "$$") ss) no_body

-- `document.removeChild(document.documentElement);`
abbrev pub clearing : tree.Stmt
clearing = expr (document_method (codes "removeChild") (one (member document_expr (codes "documentElement"))))

abbrev pub saved_script : List Rebuild → tree.Stmts
saved_script rs = then_stmt (expr (text (codes "use strict"))) (then_stmt (with_list (then_stmt clearing (statements rs))) no_stmts)

-- all statements stand in one script
abbrev pub saved_scripts : List Rebuild → List tree.Stmts
saved_scripts rs = saved_script rs ∷ []

-- the page that such a text is read as
abbrev pub in_frame : List tree.Stmts → Page
in_frame scripts = record { nodes = frame_nodes; scripts = scripts }

abbrev pub saved_in_frame : List Rebuild → Page
saved_in_frame rs = in_frame (saved_scripts rs)
