-- A script whose scopes may be opened: the test holds for what has captured variables, catch clauses and named functions.
use Rattle.std.proofs.Common.{◌≡◌, refl, true, false, [], ◌∷◌, Some, None}
use Rattle.std.specs.Prelude.{codes}
use Rattle.js_core.specs.Tree as tree
use Rattle.js_core.specs.Tree.{name, func, call, update, assign, no_exprs, then_expr, one_expr, code, var, function, expr, return, try, no_stmts, then_stmt, no_body, no_declarators, then_declarator, one_catch, throw}
use Rattle.agreement.specs.Opened.{opening, scripts_stand}

-- (function(a){var n=a;function f(){n++;}return f;})
abbrev counter : tree.Stmts
counter =
    then_stmt (var (then_declarator (codes "n") (one_expr (name (codes "a"))) no_declarators))
    (then_stmt (function (code (Some (codes "f")) [] (then_stmt (expr (update true false (name (codes "n")))) no_stmts)))
    (then_stmt (return (one_expr (name (codes "f")))) no_stmts))

-- (function g(){try{throw g;}catch(e){return function(){e=g;};}})
abbrev keeper : tree.Stmts
keeper =
    then_stmt (try (then_stmt (throw (name (codes "g"))) no_stmts)
    (one_catch (codes "e") (then_stmt (return (one_expr (func (code None [] (then_stmt (expr (assign None (name (codes "e")) (name (codes "g")))) no_stmts))))) no_stmts)) no_body) no_stmts

abbrev script : tree.Stmts
script = then_stmt (expr (func (code None (codes "a" ∷ []) counter))) (then_stmt (expr (func (code (Some (codes "g")) [] keeper))) no_stmts)

pub may_be_opened : scripts_stand opening 1 (script ∷ []) ≡ true
may_be_opened = refl
