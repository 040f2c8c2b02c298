-- Worked scripts on statements and declarations, with the lines that the rules give them.
use Rattle.std.specs.Prelude.{pos, true, false, List, [], ◌∷◌, Some, None, codes}
use Rattle.js_core.specs.declared.operators.BinaryOp.TheVariants as op
use Rattle.js_core.specs.declared.operators.UnaryOp.TheVariants as un
use Rattle.js_core.specs.Tree.{assign, binary, bool, break, call, code, construct, continue, do_while, expr, exprs_of, for, for_in, func, function, holes_of, if_else, index, init_var, list, literal, member, name, no_body, no_cases, no_catch, no_declarators, no_expr, no_fields, no_init, no_stmts, null, num, one_body, one_catch, one_expr, return, stmts_of, switch, text, then_case, then_declarator, then_field, this, throw, try, unary, update, var, while}
use Rattle.worked_pages.specs.Worked.{Worked, logged, not_caught}

-- loops, their steps and what ends them (section 12.6)
abbrev pub loops : List Worked
loops =
    -- for(var i=0;i<3;i++){if(i===1)continue;console.log(i);}
    (((for (init_var (then_declarator (codes "i") (one_expr (num (Some (pos 0)))) no_declarators)) (one_expr (binary op.Less (name (codes "i")) (num (Some (pos 3))))) (one_expr (update true false (name (codes "i")))) (stmts_of ((if_else (binary op.Same (name (codes "i")) (num (Some (pos 1)))) (stmts_of (continue ∷ [])) no_body) ∷ (expr (call (member (name (codes "console")) (codes "log")) (exprs_of ((name (codes "i")) ∷ [])))) ∷ []))) ∷ []), (logged (codes "0") ∷ logged (codes "2") ∷ [])) ∷
    -- var i=0;do{i++;if(i===2)break;}while(true);console.log(i);
    (((var (then_declarator (codes "i") (one_expr (num (Some (pos 0)))) no_declarators)) ∷ (do_while (stmts_of ((expr (update true false (name (codes "i")))) ∷ (if_else (binary op.Same (name (codes "i")) (num (Some (pos 2)))) (stmts_of (break ∷ [])) no_body) ∷ [])) (bool true)) ∷ (expr (call (member (name (codes "console")) (codes "log")) (exprs_of ((name (codes "i")) ∷ [])))) ∷ []), (logged (codes "2") ∷ [])) ∷
    -- var n=0;function spin(){while(true){n=n+1;if(n===20)break;}}spin();console.log(n);
    (((var (then_declarator (codes "n") (one_expr (num (Some (pos 0)))) no_declarators)) ∷ (function (code (Some (codes "spin")) [] (stmts_of ((while (bool true) (stmts_of ((expr (assign None (name (codes "n")) (binary op.Add (name (codes "n")) (num (Some (pos 1)))))) ∷ (if_else (binary op.Same (name (codes "n")) (num (Some (pos 20)))) (stmts_of (break ∷ [])) no_body) ∷ []))) ∷ [])))) ∷ (expr (call (name (codes "spin")) (exprs_of []))) ∷ (expr (call (member (name (codes "console")) (codes "log")) (exprs_of ((name (codes "n")) ∷ [])))) ∷ []), (logged (codes "20") ∷ [])) ∷
    -- var o={a:1,b:2,c:3},s="";for(var p in o){s=s+p;delete o.b;o.d=4;}console.log(s);
    (((var (then_declarator (codes "o") (one_expr (literal (then_field (codes "a") (num (Some (pos 1))) (then_field (codes "b") (num (Some (pos 2))) (then_field (codes "c") (num (Some (pos 3))) no_fields))))) (then_declarator (codes "s") (one_expr (text (codes ""))) no_declarators))) ∷ (for_in true (name (codes "p")) (name (codes "o")) (stmts_of ((expr (assign None (name (codes "s")) (binary op.Add (name (codes "s")) (name (codes "p"))))) ∷ (expr (unary un.Delete (member (name (codes "o")) (codes "b")))) ∷ (expr (assign None (member (name (codes "o")) (codes "d")) (num (Some (pos 4))))) ∷ []))) ∷ (expr (call (member (name (codes "console")) (codes "log")) (exprs_of ((name (codes "s")) ∷ [])))) ∷ []), (logged (codes "ac") ∷ [])) ∷
    -- function F(){this.a=1;this.b=2;}F.prototype.b=3;F.prototype.c=4;var s="";for(var p in new F())s=s+p;for(p in "xy")s=s+p;for(p in null)s=s+"!";console.log(s);
    (((function (code (Some (codes "F")) [] (stmts_of ((expr (assign None (member this (codes "a")) (num (Some (pos 1))))) ∷ (expr (assign None (member this (codes "b")) (num (Some (pos 2))))) ∷ [])))) ∷ (expr (assign None (member (member (name (codes "F")) (codes "prototype")) (codes "b")) (num (Some (pos 3))))) ∷ (expr (assign None (member (member (name (codes "F")) (codes "prototype")) (codes "c")) (num (Some (pos 4))))) ∷ (var (then_declarator (codes "s") (one_expr (text (codes ""))) no_declarators)) ∷ (for_in true (name (codes "p")) (construct (name (codes "F")) (exprs_of [])) (stmts_of ((expr (assign None (name (codes "s")) (binary op.Add (name (codes "s")) (name (codes "p"))))) ∷ []))) ∷ (for_in false (name (codes "p")) (text (codes "xy")) (stmts_of ((expr (assign None (name (codes "s")) (binary op.Add (name (codes "s")) (name (codes "p"))))) ∷ []))) ∷ (for_in false (name (codes "p")) null (stmts_of ((expr (assign None (name (codes "s")) (binary op.Add (name (codes "s")) (text (codes "!"))))) ∷ []))) ∷ (expr (call (member (name (codes "console")) (codes "log")) (exprs_of ((name (codes "s")) ∷ [])))) ∷ []), (logged (codes "abc01") ∷ [])) ∷
    []

-- try, catch, finally and throw (sections 12.13 and 12.14)
abbrev pub exceptions : List Worked
exceptions =
    -- function f(){for(var i=0;;i++){try{if(i===2){return i;}continue;}finally{if(i===2){break;}}}return "x";}console.log(f());
    (((function (code (Some (codes "f")) [] (stmts_of ((for (init_var (then_declarator (codes "i") (one_expr (num (Some (pos 0)))) no_declarators)) no_expr (one_expr (update true false (name (codes "i")))) (stmts_of ((try (stmts_of ((if_else (binary op.Same (name (codes "i")) (num (Some (pos 2)))) (stmts_of ((return (one_expr (name (codes "i")))) ∷ [])) no_body) ∷ continue ∷ [])) no_catch (one_body (stmts_of ((if_else (binary op.Same (name (codes "i")) (num (Some (pos 2)))) (stmts_of (break ∷ [])) no_body) ∷ [])))) ∷ []))) ∷ (return (one_expr (text (codes "x")))) ∷ [])))) ∷ (expr (call (member (name (codes "console")) (codes "log")) (exprs_of ((call (name (codes "f")) (exprs_of [])) ∷ [])))) ∷ []), (logged (codes "x") ∷ [])) ∷
    -- try{throw 1;}catch(e){var e=2;console.log(e);}console.log(e);
    (((try (stmts_of ((throw (num (Some (pos 1)))) ∷ [])) (one_catch (codes "e") (stmts_of ((var (then_declarator (codes "e") (one_expr (num (Some (pos 2)))) no_declarators)) ∷ (expr (call (member (name (codes "console")) (codes "log")) (exprs_of ((name (codes "e")) ∷ [])))) ∷ []))) no_body) ∷ (expr (call (member (name (codes "console")) (codes "log")) (exprs_of ((name (codes "e")) ∷ [])))) ∷ []), (logged (codes "2") ∷ logged (codes "undefined") ∷ [])) ∷
    -- var fs=[],i=0;for(;i<2;i++){try{throw i;}catch(e){fs[i]=function(){e=e+10;return e;};}}console.log(fs[0](),fs[0](),fs[1]());
    (((var (then_declarator (codes "fs") (one_expr (list (holes_of []))) (then_declarator (codes "i") (one_expr (num (Some (pos 0)))) no_declarators))) ∷ (for no_init (one_expr (binary op.Less (name (codes "i")) (num (Some (pos 2))))) (one_expr (update true false (name (codes "i")))) (stmts_of ((try (stmts_of ((throw (name (codes "i"))) ∷ [])) (one_catch (codes "e") (stmts_of ((expr (assign None (index (name (codes "fs")) (name (codes "i"))) (func (code None [] (stmts_of ((expr (assign None (name (codes "e")) (binary op.Add (name (codes "e")) (num (Some (pos 10)))))) ∷ (return (one_expr (name (codes "e")))) ∷ [])))))) ∷ []))) no_body) ∷ []))) ∷ (expr (call (member (name (codes "console")) (codes "log")) (exprs_of ((call (index (name (codes "fs")) (num (Some (pos 0)))) (exprs_of [])) ∷ (call (index (name (codes "fs")) (num (Some (pos 0)))) (exprs_of [])) ∷ (call (index (name (codes "fs")) (num (Some (pos 1)))) (exprs_of [])) ∷ [])))) ∷ []), (logged (codes "10 20 11") ∷ [])) ∷
    -- function f(){try{throw 1;}finally{return 2;}}console.log(f());try{try{throw 3;}finally{console.log(4);}}catch(e){console.log(e);}
    (((function (code (Some (codes "f")) [] (stmts_of ((try (stmts_of ((throw (num (Some (pos 1)))) ∷ [])) no_catch (one_body (stmts_of ((return (one_expr (num (Some (pos 2))))) ∷ [])))) ∷ [])))) ∷ (expr (call (member (name (codes "console")) (codes "log")) (exprs_of ((call (name (codes "f")) (exprs_of [])) ∷ [])))) ∷ (try (stmts_of ((try (stmts_of ((throw (num (Some (pos 3)))) ∷ [])) no_catch (one_body (stmts_of ((expr (call (member (name (codes "console")) (codes "log")) (exprs_of ((num (Some (pos 4))) ∷ [])))) ∷ [])))) ∷ [])) (one_catch (codes "e") (stmts_of ((expr (call (member (name (codes "console")) (codes "log")) (exprs_of ((name (codes "e")) ∷ [])))) ∷ []))) no_body) ∷ []), (logged (codes "2") ∷ logged (codes "4") ∷ logged (codes "3") ∷ [])) ∷
    -- try{x;}catch(e){console.log(e.name,e.message,"message" in e);}throw {};
    (((try (stmts_of ((expr (name (codes "x"))) ∷ [])) (one_catch (codes "e") (stmts_of ((expr (call (member (name (codes "console")) (codes "log")) (exprs_of ((member (name (codes "e")) (codes "name")) ∷ (member (name (codes "e")) (codes "message")) ∷ (binary op.Within (text (codes "message")) (name (codes "e"))) ∷ [])))) ∷ []))) no_body) ∷ (throw (literal no_fields)) ∷ []), (logged (codes "ReferenceError x is not defined true") ∷ not_caught (codes "[object Object]") ∷ [])) ∷
    []

-- switch (section 12.11)
abbrev pub switches : List Worked
switches =
    -- function f(x){switch(x){case 1:console.log("a");default:console.log("d");case 2:console.log("b");break;case "1":console.log("t");}}f(1);f("1");f(2);f(9);
    (((function (code (Some (codes "f")) ((codes "x") ∷ []) (stmts_of ((switch (name (codes "x")) (then_case (one_expr (num (Some (pos 1)))) (stmts_of ((expr (call (member (name (codes "console")) (codes "log")) (exprs_of ((text (codes "a")) ∷ [])))) ∷ [])) (then_case no_expr (stmts_of ((expr (call (member (name (codes "console")) (codes "log")) (exprs_of ((text (codes "d")) ∷ [])))) ∷ [])) (then_case (one_expr (num (Some (pos 2)))) (stmts_of ((expr (call (member (name (codes "console")) (codes "log")) (exprs_of ((text (codes "b")) ∷ [])))) ∷ break ∷ [])) (then_case (one_expr (text (codes "1"))) (stmts_of ((expr (call (member (name (codes "console")) (codes "log")) (exprs_of ((text (codes "t")) ∷ [])))) ∷ [])) no_cases))))) ∷ [])))) ∷ (expr (call (name (codes "f")) (exprs_of ((num (Some (pos 1))) ∷ [])))) ∷ (expr (call (name (codes "f")) (exprs_of ((text (codes "1")) ∷ [])))) ∷ (expr (call (name (codes "f")) (exprs_of ((num (Some (pos 2))) ∷ [])))) ∷ (expr (call (name (codes "f")) (exprs_of ((num (Some (pos 9))) ∷ [])))) ∷ []), (logged (codes "a") ∷ logged (codes "d") ∷ logged (codes "b") ∷ logged (codes "t") ∷ logged (codes "b") ∷ logged (codes "d") ∷ logged (codes "b") ∷ [])) ∷
    -- for(var i=0;i<2;i++){switch(i){case 0:continue;}console.log(i);}
    (((for (init_var (then_declarator (codes "i") (one_expr (num (Some (pos 0)))) no_declarators)) (one_expr (binary op.Less (name (codes "i")) (num (Some (pos 2))))) (one_expr (update true false (name (codes "i")))) (stmts_of ((switch (name (codes "i")) (then_case (one_expr (num (Some (pos 0)))) (stmts_of (continue ∷ [])) no_cases)) ∷ (expr (call (member (name (codes "console")) (codes "log")) (exprs_of ((name (codes "i")) ∷ [])))) ∷ []))) ∷ []), (logged (codes "1") ∷ [])) ∷
    []

-- what scripts and functions declare (section 10.5)
abbrev pub declarations : List Worked
declarations =
    -- function f(){return 1;}var f;console.log(f());var g=5;function g(){}console.log(g);
    (((function (code (Some (codes "f")) [] (stmts_of ((return (one_expr (num (Some (pos 1))))) ∷ [])))) ∷ (var (then_declarator (codes "f") no_expr no_declarators)) ∷ (expr (call (member (name (codes "console")) (codes "log")) (exprs_of ((call (name (codes "f")) (exprs_of [])) ∷ [])))) ∷ (var (then_declarator (codes "g") (one_expr (num (Some (pos 5)))) no_declarators)) ∷ (function (code (Some (codes "g")) [] no_stmts)) ∷ (expr (call (member (name (codes "console")) (codes "log")) (exprs_of ((name (codes "g")) ∷ [])))) ∷ []), (logged (codes "1") ∷ logged (codes "5") ∷ [])) ∷
    -- var o={},x=1;function f(){x=x+1;return x;}o.a=f();console.log(o.a,window.x,delete o.a);console.log("x" in window);
    (((var (then_declarator (codes "o") (one_expr (literal no_fields)) (then_declarator (codes "x") (one_expr (num (Some (pos 1)))) no_declarators))) ∷ (function (code (Some (codes "f")) [] (stmts_of ((expr (assign None (name (codes "x")) (binary op.Add (name (codes "x")) (num (Some (pos 1)))))) ∷ (return (one_expr (name (codes "x")))) ∷ [])))) ∷ (expr (assign None (member (name (codes "o")) (codes "a")) (call (name (codes "f")) (exprs_of [])))) ∷ (expr (call (member (name (codes "console")) (codes "log")) (exprs_of ((member (name (codes "o")) (codes "a")) ∷ (member (name (codes "window")) (codes "x")) ∷ (unary un.Delete (member (name (codes "o")) (codes "a"))) ∷ [])))) ∷ (expr (call (member (name (codes "console")) (codes "log")) (exprs_of ((binary op.Within (text (codes "x")) (name (codes "window"))) ∷ [])))) ∷ []), (logged (codes "2 2 true") ∷ logged (codes "true") ∷ [])) ∷
    -- var String=5;
    (((var (then_declarator (codes "String") (one_expr (num (Some (pos 5)))) no_declarators)) ∷ []), (not_caught (codes "TypeError: cannot set") ∷ [])) ∷
    []
