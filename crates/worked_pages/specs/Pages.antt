-- Worked pages on nodes, events and timers, with the lines that the rules give them.
use Rattle.std.specs.Prelude.{◌≡◌, ℕ, pos, true, false, List, [], ◌∷◌, Option, Some, None, codes}
use Rattle.js_core.specs.Text.{Text}
use Rattle.js_core.specs.declared.operators.BinaryOp.TheVariants as op
use Rattle.js_core.specs.declared.operators.UnaryOp.TheVariants as un
use Rattle.js_core.specs.Tree.{assign, binary, bool, call, code, expr, exprs_of, for_in, func, function, list, literal, member, name, no_body, no_catch, no_declarators, no_expr, no_fields, no_holes, null, num, one_body, one_catch, one_expr, return, stmts_of, text, then_declarator, then_field, then_hole, this, throw, try, unary, var, while}
use Rattle.js_values.specs.declared.event.Event.{Event}
use Rattle.js_values.specs.declared.event.Event.TheVariants as event
use Rattle.js_values.specs.declared.ids.NodeId.{NodeId}
use Rattle.js_values.specs.declared.line.Line.{Line}
use Rattle.js_values.specs.declared.line.LineKind.{LineKind}
use Rattle.js_values.specs.declared.line.LineKind.TheVariants.{Dom, Log, NoElement, Stopped, Uncaught}
use Rattle.dom_tree.specs.declared.content.Kind.{Kind}
use Rattle.dom_tree.specs.declared.content.Kind.TheVariants as kind
use Rattle.dom_tree.specs.Attributes.{Pairs}
use Rattle.dom_tree.specs.Node.{Node}
use Rattle.page_meaning.specs.Calls.{calls_at}
use Rattle.page_meaning.specs.Pages.{Page, lines_of_run, load_of, run_all}
use Rattle.page_meaning.specs.Tasks.{Fires, depth_limit, finished, task_of}

abbrev line : LineKind → Text → Line
line k t = record { kind = k; text = t }

abbrev at : ℕ → NodeId
at k = record { 0 = k }

abbrev a_node : Kind → Pairs → Option NodeId → List NodeId → Node
a_node k attributes parent children = record { content = record { kind = k; attributes = attributes; value = None }; parent = parent; children = children }

-- row_2: <html><body><button id="b"></button></body><script>"use stri..
abbrev pub row_2 : Page × List Event × List Line
row_2 = (
  record { nodes = ((a_node kind.Document ([]) None ((at 1) ∷ [])) ∷ (a_node (kind.Element (codes "html")) ([]) (Some (at 0)) ((at 2) ∷ (at 4) ∷ [])) ∷ (a_node (kind.Element (codes "body")) ([]) (Some (at 1)) ((at 3) ∷ [])) ∷ (a_node (kind.Element (codes "button")) ((codes "id", codes "b") ∷ []) (Some (at 2)) ([])) ∷ (a_node (kind.Element (codes "script")) ([]) (Some (at 1)) ([])) ∷ []); scripts = ((stmts_of ((expr (text (codes "use strict"))) ∷ (expr (call (func (code None ([]) (stmts_of ((var (then_declarator (codes "n") (one_expr (num (Some (pos 0)))) no_declarators)) ∷ (expr (call (member (call (member (name (codes "document")) (codes "getElementById")) (exprs_of ((text (codes "b")) ∷ []))) (codes "addEventListener")) (exprs_of ((text (codes "click")) ∷ (func (code None ([]) (stmts_of ((expr (assign None (name (codes "n")) (binary op.Add (name (codes "n")) (num (Some (pos 1)))))) ∷ (expr (call (member (name (codes "console")) (codes "log")) (exprs_of ((name (codes "n")) ∷ [])))) ∷ [])))) ∷ (bool false) ∷ [])))) ∷ [])))) (exprs_of ([])))) ∷ []))) ∷ [] },
  ((event.Fire (codes "click") (codes "b") true true) ∷ (event.Fire (codes "click") (codes "b") true true) ∷ (event.Fire (codes "click") (codes "b") true true) ∷ (event.Fire (codes "click") (codes "b") true true) ∷ (event.Fire (codes "click") (codes "b") true true) ∷ []),
  ((line Log (codes "1")) ∷ (line Log (codes "2")) ∷ (line Log (codes "3")) ∷ (line Log (codes "4")) ∷ (line Log (codes "5")) ∷ []),
)

-- row_10: <html><body></body><script>"use strict";var show;(function()..
abbrev pub row_10 : Page × List Event × List Line
row_10 = (
  record { nodes = ((a_node kind.Document ([]) None ((at 1) ∷ [])) ∷ (a_node (kind.Element (codes "html")) ([]) (Some (at 0)) ((at 2) ∷ (at 3) ∷ [])) ∷ (a_node (kind.Element (codes "body")) ([]) (Some (at 1)) ([])) ∷ (a_node (kind.Element (codes "script")) ([]) (Some (at 1)) ([])) ∷ []); scripts = ((stmts_of ((expr (text (codes "use strict"))) ∷ (var (then_declarator (codes "show") no_expr no_declarators)) ∷ (expr (call (func (code None ([]) (stmts_of ((var (then_declarator (codes "d") (one_expr (call (member (name (codes "document")) (codes "createElement")) (exprs_of ((text (codes "div")) ∷ [])))) (then_declarator (codes "s") (one_expr (call (member (name (codes "document")) (codes "createElement")) (exprs_of ((text (codes "span")) ∷ [])))) no_declarators))) ∷ (expr (call (member (name (codes "s")) (codes "setAttribute")) (exprs_of ((text (codes "id")) ∷ (text (codes "s")) ∷ [])))) ∷ (expr (call (member (name (codes "d")) (codes "appendChild")) (exprs_of ((name (codes "s")) ∷ [])))) ∷ (expr (call (member (name (codes "d")) (codes "addEventListener")) (exprs_of ((text (codes "click")) ∷ (func (code None ((codes "e") ∷ []) (stmts_of ((expr (call (member (name (codes "console")) (codes "log")) (exprs_of ((text (codes "cap")) ∷ (member (name (codes "e")) (codes "eventPhase")) ∷ (binary op.Same (member (name (codes "e")) (codes "currentTarget")) (name (codes "d"))) ∷ (binary op.Same (member (name (codes "e")) (codes "target")) (name (codes "s"))) ∷ [])))) ∷ [])))) ∷ (bool true) ∷ [])))) ∷ (expr (assign None (name (codes "show")) (func (code None ([]) (stmts_of ((expr (call (member (member (name (codes "document")) (codes "body")) (codes "appendChild")) (exprs_of ((name (codes "d")) ∷ [])))) ∷ [])))))) ∷ [])))) (exprs_of ([])))) ∷ []))) ∷ [] },
  ((event.Fire (codes "click") (codes "s") true true) ∷ (event.Call (codes "show")) ∷ (event.Fire (codes "click") (codes "s") true true) ∷ (event.Dom) ∷ []),
  ((line NoElement (codes "")) ∷ (line Log (codes "cap 1 true true")) ∷ (line Dom (codes "<html><body><div><span id=\"s\"></span></div></body><script></script></html>")) ∷ []),
)

-- row_11: <html><body></body><script>"use strict";function m(s){return..
abbrev pub row_11 : Page × List Event × List Line
row_11 = (
  record { nodes = ((a_node kind.Document ([]) None ((at 1) ∷ [])) ∷ (a_node (kind.Element (codes "html")) ([]) (Some (at 0)) ((at 2) ∷ (at 3) ∷ [])) ∷ (a_node (kind.Element (codes "body")) ([]) (Some (at 1)) ([])) ∷ (a_node (kind.Element (codes "script")) ([]) (Some (at 1)) ([])) ∷ []); scripts = ((stmts_of ((expr (text (codes "use strict"))) ∷ (function (code (Some (codes "m")) ((codes "s") ∷ []) (stmts_of ((return (one_expr (func (code None ([]) (stmts_of ((expr (call (member (name (codes "console")) (codes "log")) (exprs_of ((name (codes "s")) ∷ [])))) ∷ [])))))) ∷ [])))) ∷ (expr (call (name (codes "setTimeout")) (exprs_of ((call (name (codes "m")) (exprs_of ((text (codes "a")) ∷ []))) ∷ (num (Some (pos 10))) ∷ [])))) ∷ (expr (call (name (codes "setTimeout")) (exprs_of ((call (name (codes "m")) (exprs_of ((text (codes "b")) ∷ []))) ∷ (num (Some (pos 10))) ∷ [])))) ∷ (expr (call (name (codes "clearTimeout")) (exprs_of ((num (Some (pos 1))) ∷ [])))) ∷ (expr (call (member (name (codes "console")) (codes "log")) (exprs_of ((call (name (codes "setTimeout")) (exprs_of ((call (name (codes "m")) (exprs_of ((text (codes "c")) ∷ []))) ∷ (num (Some (pos 10))) ∷ []))) ∷ [])))) ∷ []))) ∷ [] },
  ((event.Tick 10) ∷ []),
  ((line Log (codes "1")) ∷ (line Log (codes "b")) ∷ (line Log (codes "c")) ∷ []),
)

-- row_12: <html><body></body><script>"use strict";var n=0;setInterval(..
abbrev pub row_12 : Page × List Event × List Line
row_12 = (
  record { nodes = ((a_node kind.Document ([]) None ((at 1) ∷ [])) ∷ (a_node (kind.Element (codes "html")) ([]) (Some (at 0)) ((at 2) ∷ (at 3) ∷ [])) ∷ (a_node (kind.Element (codes "body")) ([]) (Some (at 1)) ([])) ∷ (a_node (kind.Element (codes "script")) ([]) (Some (at 1)) ([])) ∷ []); scripts = ((stmts_of ((expr (text (codes "use strict"))) ∷ (var (then_declarator (codes "n") (one_expr (num (Some (pos 0)))) no_declarators)) ∷ (expr (call (name (codes "setInterval")) (exprs_of ((func (code None ([]) (stmts_of ((expr (assign None (name (codes "n")) (binary op.Add (name (codes "n")) (num (Some (pos 1)))))) ∷ (expr (call (member (name (codes "console")) (codes "log")) (exprs_of ((name (codes "n")) ∷ [])))) ∷ [])))) ∷ (num (Some (pos 100))) ∷ [])))) ∷ []))) ∷ [] },
  ((event.Tick 70) ∷ (event.Tick 30) ∷ (event.Tick 99) ∷ (event.Tick 1) ∷ []),
  ((line Log (codes "1")) ∷ (line Log (codes "2")) ∷ []),
)

-- row_13: <html><body><button id="b"></button></body><script>"use stri..
abbrev pub row_13 : Page × List Event × List Line
row_13 = (
  record { nodes = ((a_node kind.Document ([]) None ((at 1) ∷ [])) ∷ (a_node (kind.Element (codes "html")) ([]) (Some (at 0)) ((at 2) ∷ (at 4) ∷ [])) ∷ (a_node (kind.Element (codes "body")) ([]) (Some (at 1)) ((at 3) ∷ [])) ∷ (a_node (kind.Element (codes "button")) ((codes "id", codes "b") ∷ []) (Some (at 2)) ([])) ∷ (a_node (kind.Element (codes "script")) ([]) (Some (at 1)) ([])) ∷ []); scripts = ((stmts_of ((expr (text (codes "use strict"))) ∷ (var (then_declarator (codes "b") (one_expr (call (member (name (codes "document")) (codes "getElementById")) (exprs_of ((text (codes "b")) ∷ [])))) no_declarators)) ∷ (function (code (Some (codes "two")) ([]) (stmts_of ((expr (call (member (name (codes "console")) (codes "log")) (exprs_of ((text (codes "two")) ∷ [])))) ∷ [])))) ∷ (function (code (Some (codes "three")) ([]) (stmts_of ((expr (call (member (name (codes "console")) (codes "log")) (exprs_of ((text (codes "three")) ∷ [])))) ∷ [])))) ∷ (function (code (Some (codes "one")) ([]) (stmts_of ((expr (call (member (name (codes "console")) (codes "log")) (exprs_of ((text (codes "one")) ∷ [])))) ∷ (expr (call (member (name (codes "b")) (codes "removeEventListener")) (exprs_of ((text (codes "click")) ∷ (name (codes "two")) ∷ (bool false) ∷ [])))) ∷ (expr (call (member (name (codes "b")) (codes "addEventListener")) (exprs_of ((text (codes "click")) ∷ (name (codes "three")) ∷ (bool false) ∷ [])))) ∷ (throw (text (codes "x"))) ∷ [])))) ∷ (expr (call (member (name (codes "b")) (codes "addEventListener")) (exprs_of ((text (codes "click")) ∷ (name (codes "one")) ∷ (bool false) ∷ [])))) ∷ (expr (call (member (name (codes "b")) (codes "addEventListener")) (exprs_of ((text (codes "click")) ∷ (name (codes "two")) ∷ (bool false) ∷ [])))) ∷ []))) ∷ [] },
  ((event.Fire (codes "click") (codes "b") true true) ∷ (event.Fire (codes "click") (codes "b") true true) ∷ []),
  ((line Log (codes "one")) ∷ (line Uncaught (codes "x")) ∷ (line Log (codes "one")) ∷ (line Uncaught (codes "x")) ∷ (line Log (codes "three")) ∷ []),
)

-- row_20: <html><body></body><script>"use strict";</script></html>..
abbrev pub row_20 : Page × List Event × List Line
row_20 = (
  record { nodes = ((a_node kind.Document ([]) None ((at 1) ∷ [])) ∷ (a_node (kind.Element (codes "html")) ([]) (Some (at 0)) ((at 2) ∷ (at 3) ∷ [])) ∷ (a_node (kind.Element (codes "body")) ([]) (Some (at 1)) ([])) ∷ (a_node (kind.Element (codes "script")) ([]) (Some (at 1)) ([])) ∷ []); scripts = ((stmts_of ((expr (text (codes "use strict"))) ∷ []))) ∷ [] },
  ((event.Fire (codes "x") (codes "none") true true) ∷ []),
  ((line NoElement (codes "")) ∷ []),
)

-- row_23: <!DOCTYPE html> <html><head><title>Items</title></head><body..
abbrev pub row_23 : Page × List Event × List Line
row_23 = (
  record { nodes = ((a_node kind.Document ([]) None ((at 1) ∷ [])) ∷ (a_node (kind.Element (codes "html")) ([]) (Some (at 0)) ((at 2) ∷ (at 5) ∷ (at 10) ∷ [])) ∷ (a_node (kind.Element (codes "head")) ([]) (Some (at 1)) ((at 3) ∷ [])) ∷ (a_node (kind.Element (codes "title")) ([]) (Some (at 2)) ((at 4) ∷ [])) ∷ (a_node (kind.Text (codes "Items")) ([]) (Some (at 3)) ([])) ∷ (a_node (kind.Element (codes "body")) ([]) (Some (at 1)) ((at 6) ∷ (at 7) ∷ (at 9) ∷ [])) ∷ (a_node (kind.Element (codes "input")) ((codes "id", codes "t") ∷ []) (Some (at 5)) ([])) ∷ (a_node (kind.Element (codes "button")) ((codes "id", codes "add") ∷ []) (Some (at 5)) ((at 8) ∷ [])) ∷ (a_node (kind.Text (codes "Add")) ([]) (Some (at 7)) ([])) ∷ (a_node (kind.Element (codes "ul")) ((codes "id", codes "l") ∷ []) (Some (at 5)) ([])) ∷ (a_node (kind.Element (codes "script")) ([]) (Some (at 1)) ([])) ∷ []); scripts = ((stmts_of ((expr (text (codes "use strict"))) ∷ (var (then_declarator (codes "app") (one_expr (call (func (code None ([]) (stmts_of ((var (then_declarator (codes "items") (one_expr (list no_holes)) no_declarators)) ∷ (function (code (Some (codes "draw")) ([]) (stmts_of ((var (then_declarator (codes "l") (one_expr (call (member (name (codes "document")) (codes "getElementById")) (exprs_of ((text (codes "l")) ∷ [])))) no_declarators)) ∷ (while (member (name (codes "l")) (codes "firstChild")) (stmts_of ((expr (call (member (name (codes "l")) (codes "removeChild")) (exprs_of ((member (name (codes "l")) (codes "firstChild")) ∷ [])))) ∷ []))) ∷ (expr (call (member (name (codes "items")) (codes "forEach")) (exprs_of ((func (code None ((codes "x") ∷ (codes "i") ∷ []) (stmts_of ((var (then_declarator (codes "li") (one_expr (call (member (name (codes "document")) (codes "createElement")) (exprs_of ((text (codes "li")) ∷ [])))) no_declarators)) ∷ (expr (call (member (name (codes "li")) (codes "setAttribute")) (exprs_of ((text (codes "id")) ∷ (binary op.Add (text (codes "i")) (name (codes "i"))) ∷ [])))) ∷ (expr (call (member (name (codes "li")) (codes "appendChild")) (exprs_of ((call (member (name (codes "document")) (codes "createTextNode")) (exprs_of ((name (codes "x")) ∷ []))) ∷ [])))) ∷ (expr (call (member (name (codes "li")) (codes "addEventListener")) (exprs_of ((text (codes "click")) ∷ (func (code None ([]) (stmts_of ((expr (call (member (name (codes "items")) (codes "splice")) (exprs_of ((name (codes "i")) ∷ (num (Some (pos 1))) ∷ [])))) ∷ (expr (call (name (codes "draw")) (exprs_of ([])))) ∷ [])))) ∷ (bool false) ∷ [])))) ∷ (expr (call (member (name (codes "l")) (codes "appendChild")) (exprs_of ((name (codes "li")) ∷ [])))) ∷ [])))) ∷ [])))) ∷ [])))) ∷ (return (one_expr (literal (then_field (codes "add") (func (code None ([]) (stmts_of ((var (then_declarator (codes "t") (one_expr (call (member (name (codes "document")) (codes "getElementById")) (exprs_of ((text (codes "t")) ∷ [])))) no_declarators)) ∷ (expr (call (member (name (codes "items")) (codes "push")) (exprs_of ((member (name (codes "t")) (codes "value")) ∷ [])))) ∷ (expr (assign None (member (name (codes "t")) (codes "value")) (text (codes "")))) ∷ (expr (call (name (codes "draw")) (exprs_of ([])))) ∷ [])))) no_fields)))) ∷ [])))) (exprs_of ([])))) no_declarators)) ∷ (expr (call (member (call (member (name (codes "document")) (codes "getElementById")) (exprs_of ((text (codes "add")) ∷ []))) (codes "addEventListener")) (exprs_of ((text (codes "click")) ∷ (member (name (codes "app")) (codes "add")) ∷ (bool false) ∷ [])))) ∷ []))) ∷ [] },
  ((event.Input (codes "tea") (codes "t")) ∷ (event.Fire (codes "click") (codes "add") true true) ∷ (event.Input (codes "nuts") (codes "t")) ∷ (event.Fire (codes "click") (codes "add") true true) ∷ (event.Fire (codes "click") (codes "i0") true true) ∷ (event.Dom) ∷ []),
  ((line Dom (codes "<html><head><title>Items</title></head><body><input id=\"t\"><button id=\"add\">Add</button><ul id=\"l\"><li id=\"i0\">nuts</li></ul></body><script></script></html>")) ∷ []),
)

-- row_24: <html><body></body><script>"use strict";window.x=1;var y=2;c..
abbrev pub row_24 : Page × List Event × List Line
row_24 = (
  record { nodes = ((a_node kind.Document ([]) None ((at 1) ∷ [])) ∷ (a_node (kind.Element (codes "html")) ([]) (Some (at 0)) ((at 2) ∷ (at 3) ∷ [])) ∷ (a_node (kind.Element (codes "body")) ([]) (Some (at 1)) ([])) ∷ (a_node (kind.Element (codes "script")) ([]) (Some (at 1)) ([])) ∷ []); scripts = ((stmts_of ((expr (text (codes "use strict"))) ∷ (expr (assign None (member (name (codes "window")) (codes "x")) (num (Some (pos 1))))) ∷ (var (then_declarator (codes "y") (one_expr (num (Some (pos 2)))) no_declarators)) ∷ (expr (call (member (name (codes "console")) (codes "log")) (exprs_of ((unary un.Delete (member (name (codes "window")) (codes "x"))) ∷ (unary un.Typeof (name (codes "x"))) ∷ (member (call (member (text (codes "a-b")) (codes "split")) (exprs_of ((text (codes "-")) ∷ []))) (codes "length")) ∷ (member (member (member (name (codes "document")) (codes "body")) (codes "textContent")) (codes "length")) ∷ [])))) ∷ (try (stmts_of ((expr (unary un.Delete (member (name (codes "window")) (codes "y")))) ∷ [])) (one_catch (codes "e") (stmts_of ((expr (call (member (name (codes "console")) (codes "log")) (exprs_of ((member (name (codes "e")) (codes "name")) ∷ (member (name (codes "e")) (codes "message")) ∷ [])))) ∷ []))) no_body) ∷ (expr (assign None (name (codes "z")) (num (Some (pos 1))))) ∷ []))) ∷ [] },
  ([]),
  ((line Log (codes "true undefined 2 0")) ∷ (line Log (codes "TypeError cannot delete")) ∷ (line Uncaught (codes "ReferenceError: z is not defined")) ∷ []),
)

-- row_25: <html><body></body><script>"use strict";var k;document.addEv..
abbrev pub row_25 : Page × List Event × List Line
row_25 = (
  record { nodes = ((a_node kind.Document ([]) None ((at 1) ∷ [])) ∷ (a_node (kind.Element (codes "html")) ([]) (Some (at 0)) ((at 2) ∷ (at 3) ∷ [])) ∷ (a_node (kind.Element (codes "body")) ([]) (Some (at 1)) ([])) ∷ (a_node (kind.Element (codes "script")) ([]) (Some (at 1)) ([])) ∷ []); scripts = ((stmts_of ((expr (text (codes "use strict"))) ∷ (var (then_declarator (codes "k") no_expr no_declarators)) ∷ (expr (call (member (name (codes "document")) (codes "addEventListener")) (exprs_of ((text (codes "go")) ∷ (func (code None ((codes "e") ∷ []) (stmts_of ((expr (assign None (name (codes "k")) (name (codes "e")))) ∷ [])))) ∷ (bool false) ∷ [])))) ∷ (function (code (Some (codes "t")) ([]) (stmts_of ((expr (call (member (name (codes "console")) (codes "log")) (exprs_of ((member (name (codes "k")) (codes "type")) ∷ (binary op.Same (member (name (codes "k")) (codes "target")) (member (name (codes "document")) (codes "body"))) ∷ (member (name (codes "k")) (codes "currentTarget")) ∷ (member (name (codes "k")) (codes "eventPhase")) ∷ [])))) ∷ [])))) ∷ (function (code (Some (codes "f")) ([]) (stmts_of ((var (then_declarator (codes "e") (one_expr (call (member (name (codes "document")) (codes "createEvent")) (exprs_of ((text (codes "Event")) ∷ [])))) no_declarators)) ∷ (expr (call (member (name (codes "e")) (codes "initEvent")) (exprs_of ((text (codes "go")) ∷ (bool true) ∷ (bool false) ∷ [])))) ∷ (expr (call (member (member (name (codes "document")) (codes "body")) (codes "dispatchEvent")) (exprs_of ((name (codes "e")) ∷ [])))) ∷ [])))) ∷ []))) ∷ [] },
  ((event.Call (codes "f")) ∷ (event.Call (codes "t")) ∷ []),
  ((line Log (codes "go true null 0")) ∷ []),
)

-- row_r81: <html><body></body><script>"use strict";var d=document.creat..
abbrev pub row_r81 : Page × List Event × List Line
row_r81 = (
  record { nodes = ((a_node kind.Document ([]) None ((at 1) ∷ [])) ∷ (a_node (kind.Element (codes "html")) ([]) (Some (at 0)) ((at 2) ∷ (at 3) ∷ [])) ∷ (a_node (kind.Element (codes "body")) ([]) (Some (at 1)) ([])) ∷ (a_node (kind.Element (codes "script")) ([]) (Some (at 1)) ([])) ∷ []); scripts = ((stmts_of ((expr (text (codes "use strict"))) ∷ (var (then_declarator (codes "d") (one_expr (call (member (name (codes "document")) (codes "createElement")) (exprs_of ((text (codes "p")) ∷ [])))) no_declarators)) ∷ (expr (call (member (name (codes "d")) (codes "appendChild")) (exprs_of ((call (member (name (codes "document")) (codes "createTextNode")) (exprs_of ((text (codes "a")) ∷ []))) ∷ [])))) ∷ (expr (call (member (name (codes "d")) (codes "appendChild")) (exprs_of ((call (member (name (codes "document")) (codes "createTextNode")) (exprs_of ((text (codes "b")) ∷ []))) ∷ [])))) ∷ (expr (call (member (member (name (codes "document")) (codes "body")) (codes "appendChild")) (exprs_of ((name (codes "d")) ∷ [])))) ∷ (expr (assign None (member (name (codes "d")) (codes "tag")) (num (Some (pos 7))))) ∷ (function (code (Some (codes "t")) ([]) (stmts_of ((expr (call (member (name (codes "console")) (codes "log")) (exprs_of ((member (member (member (name (codes "d")) (codes "firstChild")) (codes "nextSibling")) (codes "data")) ∷ (member (name (codes "d")) (codes "tag")) ∷ (member (name (codes "d")) (codes "textContent")) ∷ [])))) ∷ [])))) ∷ []))) ∷ [] },
  ((event.Call (codes "t")) ∷ (event.Dom) ∷ []),
  ((line Log (codes "b 7 ab")) ∷ (line Dom (codes "<html><body><p>ab</p></body><script></script></html>")) ∷ []),
)

-- row_r82: <html><body></body><script>"use strict";try{document.body.ap..
abbrev pub row_r82 : Page × List Event × List Line
row_r82 = (
  record { nodes = ((a_node kind.Document ([]) None ((at 1) ∷ [])) ∷ (a_node (kind.Element (codes "html")) ([]) (Some (at 0)) ((at 2) ∷ (at 3) ∷ [])) ∷ (a_node (kind.Element (codes "body")) ([]) (Some (at 1)) ([])) ∷ (a_node (kind.Element (codes "script")) ([]) (Some (at 1)) ([])) ∷ []); scripts = ((stmts_of ((expr (text (codes "use strict"))) ∷ (try (stmts_of ((expr (call (member (member (name (codes "document")) (codes "body")) (codes "appendChild")) (exprs_of ((name (codes "document")) ∷ [])))) ∷ [])) (one_catch (codes "e") (stmts_of ((expr (call (member (name (codes "console")) (codes "log")) (exprs_of ((member (name (codes "e")) (codes "code")) ∷ (member (name (codes "e")) (codes "message")) ∷ [])))) ∷ []))) no_body) ∷ []))) ∷ [] },
  ([]),
  ((line Log (codes "3 HIERARCHY_REQUEST_ERR")) ∷ []),
)

-- row_r91: <html><body><button id="b"></button></body><script>"use stri..
abbrev pub row_r91 : Page × List Event × List Line
row_r91 = (
  record { nodes = ((a_node kind.Document ([]) None ((at 1) ∷ [])) ∷ (a_node (kind.Element (codes "html")) ([]) (Some (at 0)) ((at 2) ∷ (at 4) ∷ [])) ∷ (a_node (kind.Element (codes "body")) ([]) (Some (at 1)) ((at 3) ∷ [])) ∷ (a_node (kind.Element (codes "button")) ((codes "id", codes "b") ∷ []) (Some (at 2)) ([])) ∷ (a_node (kind.Element (codes "script")) ([]) (Some (at 1)) ([])) ∷ []); scripts = ((stmts_of ((expr (text (codes "use strict"))) ∷ (var (then_declarator (codes "b") (one_expr (call (member (name (codes "document")) (codes "getElementById")) (exprs_of ((text (codes "b")) ∷ [])))) (then_declarator (codes "e") (one_expr (call (member (name (codes "document")) (codes "createEvent")) (exprs_of ((text (codes "Event")) ∷ [])))) no_declarators))) ∷ (expr (call (member (name (codes "e")) (codes "initEvent")) (exprs_of ((text (codes "x")) ∷ (bool true) ∷ (bool true) ∷ [])))) ∷ (expr (call (member (name (codes "document")) (codes "addEventListener")) (exprs_of ((text (codes "x")) ∷ (func (code None ((codes "v") ∷ []) (stmts_of ((expr (call (member (name (codes "v")) (codes "preventDefault")) (exprs_of ([])))) ∷ (expr (call (member (name (codes "console")) (codes "log")) (exprs_of ((text (codes "doc")) ∷ (member (name (codes "v")) (codes "eventPhase")) ∷ [])))) ∷ [])))) ∷ (bool false) ∷ [])))) ∷ (expr (call (member (name (codes "b")) (codes "addEventListener")) (exprs_of ((text (codes "x")) ∷ (func (code None ((codes "v") ∷ []) (stmts_of ((expr (call (member (name (codes "console")) (codes "log")) (exprs_of ((text (codes "b")) ∷ (member (name (codes "v")) (codes "eventPhase")) ∷ [])))) ∷ [])))) ∷ (bool false) ∷ [])))) ∷ (expr (call (member (name (codes "console")) (codes "log")) (exprs_of ((call (member (name (codes "b")) (codes "dispatchEvent")) (exprs_of ((name (codes "e")) ∷ []))) ∷ [])))) ∷ []))) ∷ [] },
  ([]),
  ((line Log (codes "b 2")) ∷ (line Log (codes "doc 3")) ∷ (line Log (codes "false")) ∷ []),
)

-- row_r92: <html><body><button id="b"></button></body><script>"use stri..
abbrev pub row_r92 : Page × List Event × List Line
row_r92 = (
  record { nodes = ((a_node kind.Document ([]) None ((at 1) ∷ [])) ∷ (a_node (kind.Element (codes "html")) ([]) (Some (at 0)) ((at 2) ∷ (at 4) ∷ [])) ∷ (a_node (kind.Element (codes "body")) ([]) (Some (at 1)) ((at 3) ∷ [])) ∷ (a_node (kind.Element (codes "button")) ((codes "id", codes "b") ∷ []) (Some (at 2)) ([])) ∷ (a_node (kind.Element (codes "script")) ([]) (Some (at 1)) ([])) ∷ []); scripts = ((stmts_of ((expr (text (codes "use strict"))) ∷ (var (then_declarator (codes "b") (one_expr (call (member (name (codes "document")) (codes "getElementById")) (exprs_of ((text (codes "b")) ∷ [])))) (then_declarator (codes "e") (one_expr (call (member (name (codes "document")) (codes "createEvent")) (exprs_of ((text (codes "Event")) ∷ [])))) no_declarators))) ∷ (expr (call (member (name (codes "e")) (codes "initEvent")) (exprs_of ((text (codes "x")) ∷ (bool true) ∷ (bool true) ∷ [])))) ∷ (expr (call (member (name (codes "document")) (codes "addEventListener")) (exprs_of ((text (codes "x")) ∷ (func (code None ((codes "v") ∷ []) (stmts_of ((expr (call (member (name (codes "v")) (codes "preventDefault")) (exprs_of ([])))) ∷ (expr (call (member (name (codes "console")) (codes "log")) (exprs_of ((text (codes "doc")) ∷ (member (name (codes "v")) (codes "eventPhase")) ∷ [])))) ∷ [])))) ∷ (bool false) ∷ [])))) ∷ (expr (call (member (name (codes "b")) (codes "addEventListener")) (exprs_of ((text (codes "x")) ∷ (func (code None ((codes "v") ∷ []) (stmts_of ((expr (call (member (name (codes "v")) (codes "stopPropagation")) (exprs_of ([])))) ∷ (expr (call (member (name (codes "console")) (codes "log")) (exprs_of ((text (codes "b")) ∷ (member (name (codes "v")) (codes "eventPhase")) ∷ [])))) ∷ [])))) ∷ (bool false) ∷ [])))) ∷ (expr (call (member (name (codes "console")) (codes "log")) (exprs_of ((call (member (name (codes "b")) (codes "dispatchEvent")) (exprs_of ((name (codes "e")) ∷ []))) ∷ [])))) ∷ []))) ∷ [] },
  ([]),
  ((line Log (codes "b 2")) ∷ (line Log (codes "true")) ∷ []),
)

-- stopped_event: <html><body><button id="b"></button></body><script>"use stri..
abbrev pub stopped_event : Page × List Event × List Line
stopped_event = (
  record { nodes = ((a_node kind.Document ([]) None ((at 1) ∷ [])) ∷ (a_node (kind.Element (codes "html")) ([]) (Some (at 0)) ((at 2) ∷ (at 4) ∷ [])) ∷ (a_node (kind.Element (codes "body")) ([]) (Some (at 1)) ((at 3) ∷ [])) ∷ (a_node (kind.Element (codes "button")) ((codes "id", codes "b") ∷ []) (Some (at 2)) ([])) ∷ (a_node (kind.Element (codes "script")) ([]) (Some (at 1)) ([])) ∷ []); scripts = ((stmts_of ((expr (text (codes "use strict"))) ∷ (var (then_declarator (codes "k") no_expr (then_declarator (codes "b") (one_expr (call (member (name (codes "document")) (codes "getElementById")) (exprs_of ((text (codes "b")) ∷ [])))) no_declarators))) ∷ (expr (call (member (name (codes "b")) (codes "addEventListener")) (exprs_of ((text (codes "x")) ∷ (func (code None ((codes "e") ∷ []) (stmts_of ((expr (assign None (name (codes "k")) (name (codes "e")))) ∷ (expr (call (member (member (member (name (codes "Array")) (codes "prototype")) (codes "slice")) (codes "apply")) (exprs_of ((list no_holes) ∷ (list (then_hole (one_expr (num (Some (pos 0)))) no_holes)) ∷ [])))) ∷ (expr (call (func (code (Some (codes "f")) ([]) (stmts_of ((expr (call (name (codes "f")) (exprs_of ([])))) ∷ [])))) (exprs_of ([])))) ∷ [])))) ∷ (bool false) ∷ [])))) ∷ (function (code (Some (codes "t")) ([]) (stmts_of ((expr (call (member (name (codes "console")) (codes "log")) (exprs_of ((member (name (codes "k")) (codes "currentTarget")) ∷ (member (name (codes "k")) (codes "eventPhase")) ∷ (binary op.Same (member (name (codes "k")) (codes "target")) (name (codes "b"))) ∷ [])))) ∷ (try (stmts_of ((expr (call (member (name (codes "b")) (codes "dispatchEvent")) (exprs_of ((name (codes "k")) ∷ [])))) ∷ [])) (one_catch (codes "e") (stmts_of ((expr (call (member (name (codes "console")) (codes "log")) (exprs_of ((member (name (codes "e")) (codes "code")) ∷ (member (name (codes "e")) (codes "message")) ∷ [])))) ∷ []))) no_body) ∷ [])))) ∷ []))) ∷ [] },
  ((event.Fire (codes "x") (codes "b") true true) ∷ (event.Call (codes "t")) ∷ []),
  ((line Uncaught (codes "RangeError: too deep")) ∷ (line Log (codes "null 0 true")) ∷ (line Log (codes "0 UNSPECIFIED_EVENT_TYPE_ERR")) ∷ []),
)

-- again: <html><body><button id="b"></button></body><script>"use stri..
abbrev pub again : Page × List Event × List Line
again = (
  record { nodes = ((a_node kind.Document ([]) None ((at 1) ∷ [])) ∷ (a_node (kind.Element (codes "html")) ([]) (Some (at 0)) ((at 2) ∷ (at 4) ∷ [])) ∷ (a_node (kind.Element (codes "body")) ([]) (Some (at 1)) ((at 3) ∷ [])) ∷ (a_node (kind.Element (codes "button")) ((codes "id", codes "b") ∷ []) (Some (at 2)) ([])) ∷ (a_node (kind.Element (codes "script")) ([]) (Some (at 1)) ([])) ∷ []); scripts = ((stmts_of ((expr (text (codes "use strict"))) ∷ (var (then_declarator (codes "b") (one_expr (call (member (name (codes "document")) (codes "getElementById")) (exprs_of ((text (codes "b")) ∷ [])))) no_declarators)) ∷ (function (code (Some (codes "l")) ((codes "n") ∷ []) (stmts_of ((return (one_expr (func (code None ([]) (stmts_of ((expr (call (member (name (codes "console")) (codes "log")) (exprs_of ((name (codes "n")) ∷ [])))) ∷ [])))))) ∷ [])))) ∷ (var (then_declarator (codes "two") (one_expr (call (name (codes "l")) (exprs_of ((text (codes "two")) ∷ [])))) (then_declarator (codes "three") (one_expr (call (name (codes "l")) (exprs_of ((text (codes "three")) ∷ [])))) no_declarators))) ∷ (expr (call (member (name (codes "b")) (codes "addEventListener")) (exprs_of ((text (codes "x")) ∷ (func (code None ([]) (stmts_of ((expr (call (member (name (codes "b")) (codes "removeEventListener")) (exprs_of ((text (codes "x")) ∷ (name (codes "two")) ∷ (bool false) ∷ [])))) ∷ (expr (call (member (name (codes "b")) (codes "addEventListener")) (exprs_of ((text (codes "x")) ∷ (name (codes "two")) ∷ (bool false) ∷ [])))) ∷ (expr (call (member (name (codes "b")) (codes "removeEventListener")) (exprs_of ((text (codes "x")) ∷ (name (codes "three")) ∷ (bool false) ∷ [])))) ∷ (expr (call (member (name (codes "b")) (codes "addEventListener")) (exprs_of ((text (codes "x")) ∷ (call (name (codes "l")) (exprs_of ((text (codes "late")) ∷ []))) ∷ (bool false) ∷ [])))) ∷ [])))) ∷ (bool false) ∷ [])))) ∷ (expr (call (member (name (codes "b")) (codes "addEventListener")) (exprs_of ((text (codes "x")) ∷ (name (codes "two")) ∷ (bool false) ∷ [])))) ∷ (expr (call (member (name (codes "b")) (codes "addEventListener")) (exprs_of ((text (codes "x")) ∷ (name (codes "three")) ∷ (bool false) ∷ [])))) ∷ (expr (call (member (name (codes "b")) (codes "addEventListener")) (exprs_of ((text (codes "x")) ∷ (name (codes "three")) ∷ (bool false) ∷ [])))) ∷ []))) ∷ [] },
  ((event.Fire (codes "x") (codes "b") true true) ∷ (event.Fire (codes "x") (codes "b") false true) ∷ []),
  ((line Log (codes "two")) ∷ (line Log (codes "two")) ∷ (line Log (codes "late")) ∷ []),
)

-- nested: <html><body><button id="b"></button></body><script>"use stri..
abbrev pub nested : Page × List Event × List Line
nested = (
  record { nodes = ((a_node kind.Document ([]) None ((at 1) ∷ [])) ∷ (a_node (kind.Element (codes "html")) ([]) (Some (at 0)) ((at 2) ∷ (at 4) ∷ [])) ∷ (a_node (kind.Element (codes "body")) ([]) (Some (at 1)) ((at 3) ∷ [])) ∷ (a_node (kind.Element (codes "button")) ((codes "id", codes "b") ∷ []) (Some (at 2)) ([])) ∷ (a_node (kind.Element (codes "script")) ([]) (Some (at 1)) ([])) ∷ []); scripts = ((stmts_of ((expr (text (codes "use strict"))) ∷ (var (then_declarator (codes "b") (one_expr (call (member (name (codes "document")) (codes "getElementById")) (exprs_of ((text (codes "b")) ∷ [])))) no_declarators)) ∷ (function (code (Some (codes "go")) ((codes "t") ∷ []) (stmts_of ((var (then_declarator (codes "e") (one_expr (call (member (name (codes "document")) (codes "createEvent")) (exprs_of ((text (codes "events")) ∷ [])))) no_declarators)) ∷ (expr (call (member (name (codes "e")) (codes "initEvent")) (exprs_of ((name (codes "t")) ∷ (bool false) ∷ (bool true) ∷ [])))) ∷ (return (one_expr (call (member (name (codes "b")) (codes "dispatchEvent")) (exprs_of ((name (codes "e")) ∷ []))))) ∷ [])))) ∷ (expr (call (member (name (codes "b")) (codes "addEventListener")) (exprs_of ((text (codes "in")) ∷ (func (code None ((codes "e") ∷ []) (stmts_of ((expr (call (member (name (codes "console")) (codes "log")) (exprs_of ((text (codes "in")) ∷ (member (name (codes "e")) (codes "eventPhase")) ∷ [])))) ∷ (expr (call (member (name (codes "e")) (codes "preventDefault")) (exprs_of ([])))) ∷ (throw (num (Some (pos 1)))) ∷ [])))) ∷ (bool false) ∷ [])))) ∷ (expr (call (member (name (codes "b")) (codes "addEventListener")) (exprs_of ((text (codes "out")) ∷ (func (code None ((codes "e") ∷ []) (stmts_of ((expr (call (member (name (codes "console")) (codes "log")) (exprs_of ((call (name (codes "go")) (exprs_of ((text (codes "in")) ∷ []))) ∷ (member (name (codes "e")) (codes "eventPhase")) ∷ (binary op.Same (member (name (codes "e")) (codes "currentTarget")) (this)) ∷ [])))) ∷ [])))) ∷ (bool false) ∷ [])))) ∷ (expr (call (member (name (codes "console")) (codes "log")) (exprs_of ((call (name (codes "go")) (exprs_of ((text (codes "out")) ∷ []))) ∷ [])))) ∷ (try (stmts_of ((expr (call (member (name (codes "b")) (codes "dispatchEvent")) (exprs_of ((call (member (name (codes "document")) (codes "createEvent")) (exprs_of ((text (codes "Event")) ∷ []))) ∷ [])))) ∷ [])) (one_catch (codes "e") (stmts_of ((expr (call (member (name (codes "console")) (codes "log")) (exprs_of ((member (name (codes "e")) (codes "message")) ∷ (member (name (codes "e")) (codes "code")) ∷ [])))) ∷ []))) no_body) ∷ []))) ∷ [] },
  ([]),
  ((line Log (codes "in 2")) ∷ (line Uncaught (codes "1")) ∷ (line Log (codes "false 2 true")) ∷ (line Log (codes "true")) ∷ (line Log (codes "UNSPECIFIED_EVENT_TYPE_ERR 0")) ∷ []),
)

-- hosts: <html><body><button id="b"></button></body><script>"use stri..
abbrev pub hosts : Page × List Event × List Line
hosts = (
  record { nodes = ((a_node kind.Document ([]) None ((at 1) ∷ [])) ∷ (a_node (kind.Element (codes "html")) ([]) (Some (at 0)) ((at 2) ∷ (at 4) ∷ [])) ∷ (a_node (kind.Element (codes "body")) ([]) (Some (at 1)) ((at 3) ∷ [])) ∷ (a_node (kind.Element (codes "button")) ((codes "id", codes "b") ∷ []) (Some (at 2)) ([])) ∷ (a_node (kind.Element (codes "script")) ([]) (Some (at 1)) ([])) ∷ []); scripts = ((stmts_of ((expr (text (codes "use strict"))) ∷ (var (then_declarator (codes "b") (one_expr (call (member (name (codes "document")) (codes "getElementById")) (exprs_of ((text (codes "b")) ∷ [])))) (then_declarator (codes "o") (one_expr (call (member (name (codes "Object")) (codes "create")) (exprs_of ((name (codes "b")) ∷ [])))) (then_declarator (codes "s") (one_expr (text (codes ""))) no_declarators)))) ∷ (expr (call (member (name (codes "console")) (codes "log")) (exprs_of ((member (name (codes "o")) (codes "tagName")) ∷ (binary op.Within (text (codes "id")) (name (codes "o"))) ∷ (binary op.Within (text (codes "data")) (name (codes "b"))) ∷ (call (member (name (codes "b")) (codes "hasOwnProperty")) (exprs_of ((text (codes "id")) ∷ []))) ∷ (member (call (member (name (codes "Object")) (codes "keys")) (exprs_of ((name (codes "b")) ∷ []))) (codes "length")) ∷ [])))) ∷ (function (code (Some (codes "q")) ((codes "f") ∷ []) (stmts_of ((try (stmts_of ((expr (call (member (name (codes "console")) (codes "log")) (exprs_of ((call (name (codes "f")) (exprs_of ([]))) ∷ [])))) ∷ [])) (one_catch (codes "e") (stmts_of ((expr (call (member (name (codes "console")) (codes "log")) (exprs_of ((member (name (codes "e")) (codes "name")) ∷ (member (name (codes "e")) (codes "message")) ∷ [])))) ∷ []))) no_body) ∷ [])))) ∷ (expr (call (name (codes "q")) (exprs_of ((func (code None ([]) (stmts_of ((expr (assign None (member (name (codes "o")) (codes "id")) (text (codes "x")))) ∷ [])))) ∷ [])))) ∷ (expr (call (name (codes "q")) (exprs_of ((func (code None ([]) (stmts_of ((expr (assign None (member (name (codes "o")) (codes "data")) (text (codes "y")))) ∷ (return (one_expr (member (name (codes "o")) (codes "data")))) ∷ [])))) ∷ [])))) ∷ (expr (call (name (codes "q")) (exprs_of ((func (code None ([]) (stmts_of ((expr (assign None (member (name (codes "b")) (codes "tagName")) (text (codes "P")))) ∷ [])))) ∷ [])))) ∷ (expr (call (name (codes "q")) (exprs_of ((func (code None ([]) (stmts_of ((return (one_expr (unary un.Delete (member (name (codes "b")) (codes "id"))))) ∷ [])))) ∷ [])))) ∷ (expr (call (name (codes "q")) (exprs_of ((func (code None ([]) (stmts_of ((expr (call (member (name (codes "Object")) (codes "defineProperty")) (exprs_of ((name (codes "b")) ∷ (text (codes "id")) ∷ (literal no_fields) ∷ [])))) ∷ [])))) ∷ [])))) ∷ (expr (call (name (codes "q")) (exprs_of ((func (code None ([]) (stmts_of ((expr (assign None (member (name (codes "b")) (codes "onclick")) (num (Some (pos 1))))) ∷ [])))) ∷ [])))) ∷ (expr (call (name (codes "q")) (exprs_of ((func (code None ([]) (stmts_of ((expr (call (member (name (codes "Object")) (codes "defineProperty")) (exprs_of ((name (codes "b")) ∷ (text (codes "onclick")) ∷ (literal no_fields) ∷ [])))) ∷ [])))) ∷ [])))) ∷ (expr (call (name (codes "q")) (exprs_of ((func (code None ([]) (stmts_of ((expr (assign None (member (name (codes "o")) (codes "onclick")) (num (Some (pos 2))))) ∷ (return (one_expr (member (name (codes "o")) (codes "onclick")))) ∷ [])))) ∷ [])))) ∷ (expr (call (name (codes "q")) (exprs_of ((func (code None ([]) (stmts_of ((expr (assign None (member (name (codes "b")) (codes "id")) (null))) ∷ (return (one_expr (call (member (name (codes "b")) (codes "getAttribute")) (exprs_of ((text (codes "id")) ∷ []))))) ∷ [])))) ∷ [])))) ∷ (expr (call (name (codes "q")) (exprs_of ((func (code None ([]) (stmts_of ((expr (assign None (member (name (codes "b")) (codes "textContent")) (null))) ∷ (return (one_expr (member (name (codes "b")) (codes "firstChild")))) ∷ [])))) ∷ [])))) ∷ (expr (call (name (codes "q")) (exprs_of ((func (code None ([]) (stmts_of ((return (one_expr (member (call (member (name (codes "Object")) (codes "defineProperty")) (exprs_of ((literal no_fields) ∷ (text (codes "p")) ∷ (name (codes "b")) ∷ []))) (codes "p")))) ∷ [])))) ∷ [])))) ∷ (for_in true (name (codes "p")) (name (codes "b")) (stmts_of ((expr (assign None (name (codes "s")) (binary op.Add (name (codes "s")) (name (codes "p"))))) ∷ []))) ∷ (expr (call (member (name (codes "console")) (codes "log")) (exprs_of ((binary op.Same (name (codes "s")) (text (codes ""))) ∷ [])))) ∷ []))) ∷ [] },
  ((event.Dom) ∷ []),
  ((line Log (codes "BUTTON true false false 0")) ∷ (line Log (codes "TypeError cannot set")) ∷ (line Log (codes "y")) ∷ (line Log (codes "TypeError cannot set")) ∷ (line Log (codes "TypeError cannot delete")) ∷ (line Log (codes "TypeError cannot define")) ∷ (line Log (codes "TypeError cannot set")) ∷ (line Log (codes "TypeError cannot define")) ∷ (line Log (codes "2")) ∷ (line Log (codes "null")) ∷ (line Log (codes "null")) ∷ (line Log (codes "undefined")) ∷ (line Log (codes "true")) ∷ (line Dom (codes "<html><body><button id=\"null\"></button></body><script></script></html>")) ∷ []),
)

-- texts: <html><body></body><script>"use strict";var d=document.creat..
abbrev pub texts : Page × List Event × List Line
texts = (
  record { nodes = ((a_node kind.Document ([]) None ((at 1) ∷ [])) ∷ (a_node (kind.Element (codes "html")) ([]) (Some (at 0)) ((at 2) ∷ (at 3) ∷ [])) ∷ (a_node (kind.Element (codes "body")) ([]) (Some (at 1)) ([])) ∷ (a_node (kind.Element (codes "script")) ([]) (Some (at 1)) ([])) ∷ []); scripts = ((stmts_of ((expr (text (codes "use strict"))) ∷ (var (then_declarator (codes "d") (one_expr (call (member (name (codes "document")) (codes "createElement")) (exprs_of ((text (codes "textarea")) ∷ [])))) (then_declarator (codes "t") (one_expr (call (member (name (codes "document")) (codes "createTextNode")) (exprs_of ((text (codes "a")) ∷ [])))) (then_declarator (codes "c") (one_expr (call (member (name (codes "document")) (codes "createComment")) (exprs_of ((text (codes "c")) ∷ [])))) no_declarators)))) ∷ (expr (call (member (name (codes "d")) (codes "appendChild")) (exprs_of ((name (codes "t")) ∷ [])))) ∷ (expr (call (member (name (codes "d")) (codes "appendChild")) (exprs_of ((name (codes "c")) ∷ [])))) ∷ (expr (call (member (name (codes "console")) (codes "log")) (exprs_of ((member (name (codes "d")) (codes "value")) ∷ (member (name (codes "c")) (codes "nodeValue")) ∷ (member (name (codes "c")) (codes "textContent")) ∷ (member (name (codes "t")) (codes "nodeName")) ∷ (member (name (codes "document")) (codes "nodeName")) ∷ (member (name (codes "document")) (codes "textContent")) ∷ (member (name (codes "document")) (codes "ownerDocument")) ∷ (binary op.Same (member (name (codes "t")) (codes "ownerDocument")) (name (codes "document"))) ∷ [])))) ∷ (expr (assign None (member (name (codes "d")) (codes "value")) (text (codes "v")))) ∷ (expr (assign None (member (name (codes "t")) (codes "data")) (num (Some (pos 5))))) ∷ (expr (call (member (name (codes "console")) (codes "log")) (exprs_of ((member (name (codes "d")) (codes "value")) ∷ (member (name (codes "d")) (codes "textContent")) ∷ [])))) ∷ (expr (assign None (member (name (codes "d")) (codes "textContent")) (text (codes "new")))) ∷ (expr (call (member (name (codes "console")) (codes "log")) (exprs_of ((member (name (codes "t")) (codes "parentNode")) ∷ (binary op.Same (member (name (codes "d")) (codes "firstChild")) (member (name (codes "d")) (codes "lastChild"))) ∷ (member (member (name (codes "d")) (codes "firstChild")) (codes "nodeType")) ∷ (member (name (codes "c")) (codes "previousSibling")) ∷ [])))) ∷ (expr (assign None (member (name (codes "t")) (codes "textContent")) (text (codes "x")))) ∷ (expr (assign None (member (name (codes "c")) (codes "nodeValue")) (null))) ∷ (expr (assign None (member (name (codes "d")) (codes "nodeValue")) (literal no_fields))) ∷ (expr (call (member (name (codes "console")) (codes "log")) (exprs_of ((member (name (codes "t")) (codes "data")) ∷ (binary op.Same (member (name (codes "c")) (codes "data")) (text (codes ""))) ∷ (member (name (codes "d")) (codes "nodeValue")) ∷ [])))) ∷ []))) ∷ [] },
  ([]),
  ((line Log (codes "a c c #text #document null null true")) ∷ (line Log (codes "v 5")) ∷ (line Log (codes "null true 3 null")) ∷ (line Log (codes "x true null")) ∷ []),
)

-- replacing: <html><body></body><script>"use strict";var h=document.docum..
abbrev pub replacing : Page × List Event × List Line
replacing = (
  record { nodes = ((a_node kind.Document ([]) None ((at 1) ∷ [])) ∷ (a_node (kind.Element (codes "html")) ([]) (Some (at 0)) ((at 2) ∷ (at 3) ∷ [])) ∷ (a_node (kind.Element (codes "body")) ([]) (Some (at 1)) ([])) ∷ (a_node (kind.Element (codes "script")) ([]) (Some (at 1)) ([])) ∷ []); scripts = ((stmts_of ((expr (text (codes "use strict"))) ∷ (var (then_declarator (codes "h") (one_expr (member (name (codes "document")) (codes "documentElement"))) (then_declarator (codes "n") (one_expr (call (member (name (codes "document")) (codes "createElement")) (exprs_of ((text (codes "HTML")) ∷ [])))) (then_declarator (codes "b") (one_expr (member (name (codes "document")) (codes "body"))) no_declarators)))) ∷ (expr (call (member (name (codes "console")) (codes "log")) (exprs_of ((binary op.Same (call (member (name (codes "document")) (codes "replaceChild")) (exprs_of ((name (codes "n")) ∷ (name (codes "h")) ∷ []))) (name (codes "h"))) ∷ (binary op.Same (member (name (codes "document")) (codes "documentElement")) (name (codes "n"))) ∷ (member (name (codes "document")) (codes "body")) ∷ [])))) ∷ (expr (call (member (name (codes "n")) (codes "appendChild")) (exprs_of ((name (codes "h")) ∷ [])))) ∷ (expr (call (member (name (codes "console")) (codes "log")) (exprs_of ((binary op.Same (member (name (codes "n")) (codes "firstChild")) (name (codes "h"))) ∷ (member (member (name (codes "h")) (codes "parentNode")) (codes "tagName")) ∷ [])))) ∷ (function (code (Some (codes "q")) ((codes "f") ∷ []) (stmts_of ((try (stmts_of ((expr (call (name (codes "f")) (exprs_of ([])))) ∷ (expr (call (member (name (codes "console")) (codes "log")) (exprs_of ((text (codes "ok")) ∷ [])))) ∷ [])) (one_catch (codes "e") (stmts_of ((expr (call (member (name (codes "console")) (codes "log")) (exprs_of ((member (name (codes "e")) (codes "code")) ∷ (member (name (codes "e")) (codes "message")) ∷ [])))) ∷ []))) no_body) ∷ [])))) ∷ (expr (call (name (codes "q")) (exprs_of ((func (code None ([]) (stmts_of ((expr (call (member (name (codes "document")) (codes "appendChild")) (exprs_of ((call (member (name (codes "document")) (codes "createElement")) (exprs_of ((text (codes "p")) ∷ []))) ∷ [])))) ∷ [])))) ∷ [])))) ∷ (expr (call (name (codes "q")) (exprs_of ((func (code None ([]) (stmts_of ((expr (call (member (name (codes "h")) (codes "insertBefore")) (exprs_of ((name (codes "b")) ∷ (name (codes "n")) ∷ [])))) ∷ [])))) ∷ [])))) ∷ (expr (call (name (codes "q")) (exprs_of ((func (code None ([]) (stmts_of ((expr (call (member (name (codes "b")) (codes "insertBefore")) (exprs_of ((name (codes "h")) ∷ (null) ∷ [])))) ∷ [])))) ∷ [])))) ∷ (expr (call (name (codes "q")) (exprs_of ((func (code None ([]) (stmts_of ((expr (call (member (name (codes "h")) (codes "removeChild")) (exprs_of ((name (codes "n")) ∷ [])))) ∷ [])))) ∷ [])))) ∷ (expr (call (name (codes "q")) (exprs_of ((func (code None ([]) (stmts_of ((expr (call (member (name (codes "document")) (codes "createElement")) (exprs_of ((text (codes "1")) ∷ [])))) ∷ [])))) ∷ [])))) ∷ (expr (call (name (codes "q")) (exprs_of ((func (code None ([]) (stmts_of ((expr (call (member (name (codes "h")) (codes "setAttribute")) (exprs_of ((text (codes "onx")) ∷ (text (codes "")) ∷ [])))) ∷ [])))) ∷ [])))) ∷ (expr (call (name (codes "q")) (exprs_of ((func (code None ([]) (stmts_of ((expr (call (member (name (codes "h")) (codes "insertBefore")) (exprs_of ((name (codes "b")) ∷ (name (codes "b")) ∷ [])))) ∷ [])))) ∷ [])))) ∷ (expr (call (name (codes "q")) (exprs_of ((func (code None ([]) (stmts_of ((expr (call (member (name (codes "h")) (codes "insertBefore")) (exprs_of ((name (codes "b")) ∷ [])))) ∷ [])))) ∷ [])))) ∷ []))) ∷ [] },
  ((event.Dom) ∷ []),
  ((line Log (codes "true true null")) ∷ (line Log (codes "true HTML")) ∷ (line Log (codes "3 HIERARCHY_REQUEST_ERR")) ∷ (line Log (codes "8 NOT_FOUND_ERR")) ∷ (line Log (codes "3 HIERARCHY_REQUEST_ERR")) ∷ (line Log (codes "8 NOT_FOUND_ERR")) ∷ (line Log (codes "5 INVALID_CHARACTER_ERR")) ∷ (line Log (codes "undefined wrong argument")) ∷ (line Log (codes "ok")) ∷ (line Log (codes "undefined wrong argument")) ∷ (line Dom (codes "<html><html><body></body><script></script></html></html>")) ∷ []),
)

-- timers: <html><body></body><script>"use strict";var i=setInterval(fu..
abbrev pub timers : Page × List Event × List Line
timers = (
  record { nodes = ((a_node kind.Document ([]) None ((at 1) ∷ [])) ∷ (a_node (kind.Element (codes "html")) ([]) (Some (at 0)) ((at 2) ∷ (at 3) ∷ [])) ∷ (a_node (kind.Element (codes "body")) ([]) (Some (at 1)) ([])) ∷ (a_node (kind.Element (codes "script")) ([]) (Some (at 1)) ([])) ∷ []); scripts = ((stmts_of ((expr (text (codes "use strict"))) ∷ (var (then_declarator (codes "i") (one_expr (call (name (codes "setInterval")) (exprs_of ((func (code None ([]) (stmts_of ((expr (call (member (name (codes "console")) (codes "log")) (exprs_of ((text (codes "i")) ∷ [])))) ∷ (expr (call (name (codes "clearInterval")) (exprs_of ((name (codes "i")) ∷ [])))) ∷ (expr (call (name (codes "setTimeout")) (exprs_of ((func (code None ([]) (stmts_of ((expr (call (member (name (codes "console")) (codes "log")) (exprs_of ((binary op.Same (this) (name (codes "window"))) ∷ [])))) ∷ (throw (text (codes "t"))) ∷ [])))) ∷ (num (Some (pos 0))) ∷ [])))) ∷ [])))) ∷ (unary un.Minus (num (Some (pos 5)))) ∷ [])))) no_declarators)) ∷ (expr (call (name (codes "setIntervalFrom")) (exprs_of ((func (code None ([]) (stmts_of ((expr (call (member (name (codes "console")) (codes "log")) (exprs_of ((text (codes "f")) ∷ [])))) ∷ [])))) ∷ (num (Some (pos 3))) ∷ (num (Some (pos 0))) ∷ [])))) ∷ (function (code (Some (codes "q")) ((codes "f") ∷ []) (stmts_of ((try (stmts_of ((expr (call (member (name (codes "console")) (codes "log")) (exprs_of ((call (name (codes "f")) (exprs_of ([]))) ∷ [])))) ∷ [])) (one_catch (codes "e") (stmts_of ((expr (call (member (name (codes "console")) (codes "log")) (exprs_of ((member (name (codes "e")) (codes "name")) ∷ (member (name (codes "e")) (codes "message")) ∷ [])))) ∷ []))) no_body) ∷ [])))) ∷ (expr (call (name (codes "q")) (exprs_of ((func (code None ([]) (stmts_of ((return (one_expr (call (name (codes "setTimeout")) (exprs_of ((num (Some (pos 1))) ∷ []))))) ∷ [])))) ∷ [])))) ∷ (expr (call (name (codes "q")) (exprs_of ((func (code None ([]) (stmts_of ((return (one_expr (call (name (codes "setTimeout")) (exprs_of ((name (codes "q")) ∷ (num (Some (pos 0))) ∷ (num (Some (pos 0))) ∷ []))))) ∷ [])))) ∷ [])))) ∷ (expr (call (name (codes "q")) (exprs_of ((func (code None ([]) (stmts_of ((return (one_expr (call (name (codes "clearTimeout")) (exprs_of ((text (codes "x")) ∷ []))))) ∷ [])))) ∷ [])))) ∷ (expr (call (name (codes "q")) (exprs_of ((func (code None ([]) (stmts_of ((return (one_expr (call (name (codes "setTimeout")) (exprs_of ((name (codes "Object")) ∷ (literal no_fields) ∷ []))))) ∷ [])))) ∷ [])))) ∷ []))) ∷ [] },
  ((event.Tick 4) ∷ (event.Tick 0) ∷ []),
  ((line Log (codes "TypeError wrong argument")) ∷ (line Log (codes "TypeError wrong argument")) ∷ (line Log (codes "undefined")) ∷ (line Log (codes "TypeError no primitive value")) ∷ (line Log (codes "i")) ∷ (line Log (codes "true")) ∷ (line Uncaught (codes "t")) ∷ (line Log (codes "f")) ∷ (line Log (codes "f")) ∷ []),
)

-- two_scripts: <html><body><p id="p">a</p></body><script>"use strict";var x..
abbrev pub two_scripts : Page × List Event × List Line
two_scripts = (
  record { nodes = ((a_node kind.Document ([]) None ((at 1) ∷ [])) ∷ (a_node (kind.Element (codes "html")) ([]) (Some (at 0)) ((at 2) ∷ (at 5) ∷ (at 6) ∷ [])) ∷ (a_node (kind.Element (codes "body")) ([]) (Some (at 1)) ((at 3) ∷ [])) ∷ (a_node (kind.Element (codes "p")) ((codes "id", codes "p") ∷ []) (Some (at 2)) ((at 4) ∷ [])) ∷ (a_node (kind.Text (codes "a")) ([]) (Some (at 3)) ([])) ∷ (a_node (kind.Element (codes "script")) ([]) (Some (at 1)) ([])) ∷ (a_node (kind.Element (codes "script")) ([]) (Some (at 1)) ([])) ∷ []); scripts = ((stmts_of ((expr (text (codes "use strict"))) ∷ (var (then_declarator (codes "x") (one_expr (call (member (name (codes "document")) (codes "getElementById")) (exprs_of ((text (codes "p")) ∷ [])))) no_declarators)) ∷ (throw (name (codes "x"))) ∷ []))) ∷ ((stmts_of ((expr (text (codes "use strict"))) ∷ (expr (call (member (name (codes "console")) (codes "log")) (exprs_of ((member (name (codes "x")) (codes "textContent")) ∷ (member (member (member (name (codes "document")) (codes "documentElement")) (codes "lastChild")) (codes "tagName")) ∷ [])))) ∷ []))) ∷ [] },
  ((event.Dom) ∷ []),
  ((line Uncaught (codes "[object Node]")) ∷ (line Log (codes "a SCRIPT")) ∷ (line Dom (codes "<html><body><p id=\"p\">a</p></body><script></script><script></script></html>")) ∷ []),
)

-- early_stop: <html><body><button id="b"></button></body><script>"use stri..
abbrev pub early_stop : Page × List Event × List Line
early_stop = (
  record { nodes = ((a_node kind.Document ([]) None ((at 1) ∷ [])) ∷ (a_node (kind.Element (codes "html")) ([]) (Some (at 0)) ((at 2) ∷ (at 4) ∷ [])) ∷ (a_node (kind.Element (codes "body")) ([]) (Some (at 1)) ((at 3) ∷ [])) ∷ (a_node (kind.Element (codes "button")) ((codes "id", codes "b") ∷ []) (Some (at 2)) ([])) ∷ (a_node (kind.Element (codes "script")) ([]) (Some (at 1)) ([])) ∷ []); scripts = ((stmts_of ((expr (text (codes "use strict"))) ∷ (var (then_declarator (codes "k") no_expr (then_declarator (codes "b") (one_expr (call (member (name (codes "document")) (codes "getElementById")) (exprs_of ((text (codes "b")) ∷ [])))) no_declarators))) ∷ (function (code (Some (codes "f")) ([]) (stmts_of ([])))) ∷ (expr (call (member (name (codes "b")) (codes "addEventListener")) (exprs_of ((text (codes "x")) ∷ (func (code None ((codes "e") ∷ []) (stmts_of ((expr (assign None (name (codes "k")) (name (codes "e")))) ∷ (try (stmts_of ((expr (call (name (codes "f")) (exprs_of ([])))) ∷ (expr (call (name (codes "f")) (exprs_of ([])))) ∷ [])) no_catch (one_body (stmts_of ((expr (call (member (name (codes "console")) (codes "log")) (exprs_of ((text (codes "no")) ∷ [])))) ∷ [])))) ∷ [])))) ∷ (bool false) ∷ [])))) ∷ (function (code (Some (codes "t")) ([]) (stmts_of ((expr (call (member (name (codes "console")) (codes "log")) (exprs_of ((member (name (codes "k")) (codes "currentTarget")) ∷ (member (name (codes "k")) (codes "eventPhase")) ∷ (binary op.Same (member (name (codes "k")) (codes "target")) (name (codes "b"))) ∷ [])))) ∷ (try (stmts_of ((expr (call (member (name (codes "b")) (codes "dispatchEvent")) (exprs_of ((name (codes "k")) ∷ [])))) ∷ [])) (one_catch (codes "e") (stmts_of ((expr (call (member (name (codes "console")) (codes "log")) (exprs_of ((member (name (codes "e")) (codes "code")) ∷ [])))) ∷ []))) no_body) ∷ [])))) ∷ []))) ∷ [] },
  ((event.Call (codes "t")) ∷ []),
  ((line Stopped (codes "")) ∷ (line Log (codes "null 0 true")) ∷ (line Log (codes "0")) ∷ []),
)

abbrev pub PutsOut : Page × List Event × List Line → Type 0
PutsOut w = lines_of_run w.0 w.1 ≡ w.2

-- an event at the fifth node, with so few steps that its listener is stopped, and then the events
abbrev pub PutsOutAfterFew : ℕ → Page × List Event × List Line → Type 0
PutsOutAfterFew steps w =
    (run_all (finished ((task_of (calls_at depth_limit) (Fires (codes "x") true true (at 3))).run (load_of w.0) steps)) w.1).lines ≡ w.2
