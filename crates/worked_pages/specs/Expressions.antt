-- Worked scripts on expressions, objects and functions, with the lines that the rules give them.
use Rattle.std.specs.Prelude.{pos, true, false, List, [], ◌∷◌, Some, None, codes}
use Rattle.js_core.specs.declared.operators.BinaryOp.TheVariants as op
use Rattle.js_core.specs.declared.operators.UnaryOp.TheVariants as un
use Rattle.js_core.specs.Tree.{assign, binary, bool, call, code, comma, construct, expr, exprs_of, func, function, holes_of, index, list, literal, member, name, no_body, no_declarators, no_expr, no_fields, no_stmts, null, num, one_catch, one_expr, return, stmts_of, text, then_declarator, then_field, this, throw, try, unary, update, var}
use Rattle.worked_pages.specs.Worked.{Worked, logged, not_caught}

-- how names and properties are resolved, in which order (sections 8.7, 10.2 and 11.2)
abbrev pub references : List Worked
references =
    -- var r,w;(function(){var x=1;r=function(){console.log(x);};w=function(){x=x+10;};})();w();w();r();
    (((var (then_declarator (codes "r") no_expr (then_declarator (codes "w") no_expr no_declarators))) ∷ (expr (call (func (code None [] (stmts_of ((var (then_declarator (codes "x") (one_expr (num (Some (pos 1)))) no_declarators)) ∷ (expr (assign None (name (codes "r")) (func (code None [] (stmts_of ((expr (call (member (name (codes "console")) (codes "log")) (exprs_of ((name (codes "x")) ∷ [])))) ∷ [])))))) ∷ (expr (assign None (name (codes "w")) (func (code None [] (stmts_of ((expr (assign None (name (codes "x")) (binary op.Add (name (codes "x")) (num (Some (pos 10)))))) ∷ [])))))) ∷ [])))) (exprs_of []))) ∷ (expr (call (name (codes "w")) (exprs_of []))) ∷ (expr (call (name (codes "w")) (exprs_of []))) ∷ (expr (call (name (codes "r")) (exprs_of []))) ∷ []), (logged (codes "21") ∷ [])) ∷
    -- var o={a:1},s="";function k(){s=s+"k";return "a";}function v(){s=s+"v";return 2;}o[k()]+=v();console.log(s,o.a,"a" in o,delete o.a,o.a);
    (((var (then_declarator (codes "o") (one_expr (literal (then_field (codes "a") (num (Some (pos 1))) no_fields))) (then_declarator (codes "s") (one_expr (text (codes ""))) no_declarators))) ∷ (function (code (Some (codes "k")) [] (stmts_of ((expr (assign None (name (codes "s")) (binary op.Add (name (codes "s")) (text (codes "k"))))) ∷ (return (one_expr (text (codes "a")))) ∷ [])))) ∷ (function (code (Some (codes "v")) [] (stmts_of ((expr (assign None (name (codes "s")) (binary op.Add (name (codes "s")) (text (codes "v"))))) ∷ (return (one_expr (num (Some (pos 2))))) ∷ [])))) ∷ (expr (assign (Some op.Add) (index (name (codes "o")) (call (name (codes "k")) (exprs_of []))) (call (name (codes "v")) (exprs_of [])))) ∷ (expr (call (member (name (codes "console")) (codes "log")) (exprs_of ((name (codes "s")) ∷ (member (name (codes "o")) (codes "a")) ∷ (binary op.Within (text (codes "a")) (name (codes "o"))) ∷ (unary un.Delete (member (name (codes "o")) (codes "a"))) ∷ (member (name (codes "o")) (codes "a")) ∷ [])))) ∷ []), (logged (codes "kv 3 true true undefined") ∷ [])) ∷
    -- null.x=console.log(1);
    (((expr (assign None (member null (codes "x")) (call (member (name (codes "console")) (codes "log")) (exprs_of ((num (Some (pos 1))) ∷ []))))) ∷ []), (not_caught (codes "TypeError: no properties") ∷ [])) ∷
    -- try{undefined(console.log(1));}catch(e){console.log(e.message);}
    (((try (stmts_of ((expr (call (name (codes "undefined")) (exprs_of ((call (member (name (codes "console")) (codes "log")) (exprs_of ((num (Some (pos 1))) ∷ []))) ∷ [])))) ∷ [])) (one_catch (codes "e") (stmts_of ((expr (call (member (name (codes "console")) (codes "log")) (exprs_of ((member (name (codes "e")) (codes "message")) ∷ [])))) ∷ []))) no_body) ∷ []), (logged (codes "1") ∷ logged (codes "not a function") ∷ [])) ∷
    -- var o;o.f(console.log(1));
    (((var (then_declarator (codes "o") no_expr no_declarators)) ∷ (expr (call (member (name (codes "o")) (codes "f")) (exprs_of ((call (member (name (codes "console")) (codes "log")) (exprs_of ((num (Some (pos 1))) ∷ []))) ∷ [])))) ∷ []), (not_caught (codes "TypeError: no properties") ∷ [])) ∷
    -- x=(window.x=1,2);
    (((expr (assign None (name (codes "x")) (comma (exprs_of ((assign None (member (name (codes "window")) (codes "x")) (num (Some (pos 1)))) ∷ (num (Some (pos 2))) ∷ []))))) ∷ []), (not_caught (codes "ReferenceError: x is not defined") ∷ [])) ∷
    -- window.y=1;y=(delete window.y,2);console.log(y,delete window.y);
    (((expr (assign None (member (name (codes "window")) (codes "y")) (num (Some (pos 1))))) ∷ (expr (assign None (name (codes "y")) (comma (exprs_of ((unary un.Delete (member (name (codes "window")) (codes "y"))) ∷ (num (Some (pos 2))) ∷ []))))) ∷ (expr (call (member (name (codes "console")) (codes "log")) (exprs_of ((name (codes "y")) ∷ (unary un.Delete (member (name (codes "window")) (codes "y"))) ∷ [])))) ∷ []), (logged (codes "2 true") ∷ [])) ∷
    -- console.log(typeof z);z;
    (((expr (call (member (name (codes "console")) (codes "log")) (exprs_of ((unary un.Typeof (name (codes "z"))) ∷ [])))) ∷ (expr (name (codes "z"))) ∷ []), (logged (codes "undefined") ∷ not_caught (codes "ReferenceError: z is not defined") ∷ [])) ∷
    -- (function(){console.log(this===undefined);})();var o={f:function(){console.log(this===o);}};o.f();(0,o.f)();
    (((expr (call (func (code None [] (stmts_of ((expr (call (member (name (codes "console")) (codes "log")) (exprs_of ((binary op.Same this (name (codes "undefined"))) ∷ [])))) ∷ [])))) (exprs_of []))) ∷ (var (then_declarator (codes "o") (one_expr (literal (then_field (codes "f") (func (code None [] (stmts_of ((expr (call (member (name (codes "console")) (codes "log")) (exprs_of ((binary op.Same this (name (codes "o"))) ∷ [])))) ∷ [])))) no_fields))) no_declarators)) ∷ (expr (call (member (name (codes "o")) (codes "f")) (exprs_of []))) ∷ (expr (call (comma (exprs_of ((num (Some (pos 0))) ∷ (member (name (codes "o")) (codes "f")) ∷ []))) (exprs_of []))) ∷ []), (logged (codes "true") ∷ logged (codes "true") ∷ logged (codes "false") ∷ [])) ∷
    []

-- what operators give, and in which order they convert (sections 11.3 to 11.9)
abbrev pub operators : List Worked
operators =
    -- console.log(31<<33,-7%3,-1>>>0,1<<31,~5);
    (((expr (call (member (name (codes "console")) (codes "log")) (exprs_of ((binary op.Shl (num (Some (pos 31))) (num (Some (pos 33)))) ∷ (binary op.Rem (unary un.Minus (num (Some (pos 7)))) (num (Some (pos 3)))) ∷ (binary op.Ushr (unary un.Minus (num (Some (pos 1)))) (num (Some (pos 0)))) ∷ (binary op.Shl (num (Some (pos 1))) (num (Some (pos 31)))) ∷ (unary un.BitNot (num (Some (pos 5)))) ∷ [])))) ∷ []), (logged (codes "62 -1 4294967295 -2147483648 -6") ∷ [])) ∷
    -- try{9007199254740991+1;}catch(e){console.log(e.name,e.message);}console.log(0*-1,0/0);
    (((try (stmts_of ((expr (binary op.Add (num (Some (pos 9007199254740991))) (num (Some (pos 1))))) ∷ [])) (one_catch (codes "e") (stmts_of ((expr (call (member (name (codes "console")) (codes "log")) (exprs_of ((member (name (codes "e")) (codes "name")) ∷ (member (name (codes "e")) (codes "message")) ∷ [])))) ∷ []))) no_body) ∷ (expr (call (member (name (codes "console")) (codes "log")) (exprs_of ((binary op.Mul (num (Some (pos 0))) (unary un.Minus (num (Some (pos 1))))) ∷ (binary op.Div (num (Some (pos 0))) (num (Some (pos 0)))) ∷ [])))) ∷ []), (logged (codes "RangeError number out of range") ∷ logged (codes "0 NaN") ∷ [])) ∷
    -- try{"1.5"-{};}catch(e){console.log(e.message);}try{({})-"1.5";}catch(e){console.log(e.message);}
    (((try (stmts_of ((expr (binary op.Sub (text (codes "1.5")) (literal no_fields))) ∷ [])) (one_catch (codes "e") (stmts_of ((expr (call (member (name (codes "console")) (codes "log")) (exprs_of ((member (name (codes "e")) (codes "message")) ∷ [])))) ∷ []))) no_body) ∷ (try (stmts_of ((expr (binary op.Sub (literal no_fields) (text (codes "1.5")))) ∷ [])) (one_catch (codes "e") (stmts_of ((expr (call (member (name (codes "console")) (codes "log")) (exprs_of ((member (name (codes "e")) (codes "message")) ∷ [])))) ∷ []))) no_body) ∷ []), (logged (codes "number out of range") ∷ logged (codes "no primitive value") ∷ [])) ∷
    -- console.log("1"+1,1+"1","b"<"a","B"<"a",1<"x",null>=0,undefined==0);
    (((expr (call (member (name (codes "console")) (codes "log")) (exprs_of ((binary op.Add (text (codes "1")) (num (Some (pos 1)))) ∷ (binary op.Add (num (Some (pos 1))) (text (codes "1"))) ∷ (binary op.Less (text (codes "b")) (text (codes "a"))) ∷ (binary op.Less (text (codes "B")) (text (codes "a"))) ∷ (binary op.Less (num (Some (pos 1))) (text (codes "x"))) ∷ (binary op.GreaterEq null (num (Some (pos 0)))) ∷ (binary op.Equal (name (codes "undefined")) (num (Some (pos 0)))) ∷ [])))) ∷ []), (logged (codes "11 11 false true false true false") ∷ [])) ∷
    -- var s="5";console.log(s++,s,-"3",+true);
    (((var (then_declarator (codes "s") (one_expr (text (codes "5"))) no_declarators)) ∷ (expr (call (member (name (codes "console")) (codes "log")) (exprs_of ((update true false (name (codes "s"))) ∷ (name (codes "s")) ∷ (unary un.Minus (text (codes "3"))) ∷ (unary un.Plus (bool true)) ∷ [])))) ∷ []), (logged (codes "5 6 -3 1") ∷ [])) ∷
    -- try{({}) in 5;}catch(e){console.log(e.message);}function F(){}console.log(1 instanceof F,new F() instanceof F);
    (((try (stmts_of ((expr (binary op.Within (literal no_fields) (num (Some (pos 5))))) ∷ [])) (one_catch (codes "e") (stmts_of ((expr (call (member (name (codes "console")) (codes "log")) (exprs_of ((member (name (codes "e")) (codes "message")) ∷ [])))) ∷ []))) no_body) ∷ (function (code (Some (codes "F")) [] no_stmts)) ∷ (expr (call (member (name (codes "console")) (codes "log")) (exprs_of ((binary op.InstanceOf (num (Some (pos 1))) (name (codes "F"))) ∷ (binary op.InstanceOf (construct (name (codes "F")) (exprs_of [])) (name (codes "F"))) ∷ [])))) ∷ []), (logged (codes "not an object") ∷ logged (codes "false true") ∷ [])) ∷
    -- console.log(({})==undefined,null==undefined,({})===({}));try{({})==1;}catch(e){console.log(e.message);}
    (((expr (call (member (name (codes "console")) (codes "log")) (exprs_of ((binary op.Equal (literal no_fields) (name (codes "undefined"))) ∷ (binary op.Equal null (name (codes "undefined"))) ∷ (binary op.Same (literal no_fields) (literal no_fields)) ∷ [])))) ∷ (try (stmts_of ((expr (binary op.Equal (literal no_fields) (num (Some (pos 1))))) ∷ [])) (one_catch (codes "e") (stmts_of ((expr (call (member (name (codes "console")) (codes "log")) (exprs_of ((member (name (codes "e")) (codes "message")) ∷ [])))) ∷ []))) no_body) ∷ []), (logged (codes "false true false") ∷ logged (codes "no primitive value") ∷ [])) ∷
    []

-- literals, arrays and properties (sections 8.12, 11.1.4, 11.1.5 and 15.4.5.1)
abbrev pub objects : List Worked
objects =
    -- var a=[1,,2,];console.log(a.length,1 in a,a[2]);a.length=1;console.log(a[2],a.length="0");
    (((var (then_declarator (codes "a") (one_expr (list (holes_of ((Some (num (Some (pos 1)))) ∷ None ∷ (Some (num (Some (pos 2)))) ∷ [])))) no_declarators)) ∷ (expr (call (member (name (codes "console")) (codes "log")) (exprs_of ((member (name (codes "a")) (codes "length")) ∷ (binary op.Within (num (Some (pos 1))) (name (codes "a"))) ∷ (index (name (codes "a")) (num (Some (pos 2)))) ∷ [])))) ∷ (expr (assign None (member (name (codes "a")) (codes "length")) (num (Some (pos 1))))) ∷ (expr (call (member (name (codes "console")) (codes "log")) (exprs_of ((index (name (codes "a")) (num (Some (pos 2)))) ∷ (assign None (member (name (codes "a")) (codes "length")) (text (codes "0"))) ∷ [])))) ∷ []), (logged (codes "3 false 2") ∷ logged (codes "undefined 0") ∷ [])) ∷
    -- try{[].length={};}catch(e){console.log(e.message);}try{[].length=-1;}catch(e){console.log(e.message);}
    (((try (stmts_of ((expr (assign None (member (list (holes_of [])) (codes "length")) (literal no_fields))) ∷ [])) (one_catch (codes "e") (stmts_of ((expr (call (member (name (codes "console")) (codes "log")) (exprs_of ((member (name (codes "e")) (codes "message")) ∷ [])))) ∷ []))) no_body) ∷ (try (stmts_of ((expr (assign None (member (list (holes_of [])) (codes "length")) (unary un.Minus (num (Some (pos 1)))))) ∷ [])) (one_catch (codes "e") (stmts_of ((expr (call (member (name (codes "console")) (codes "log")) (exprs_of ((member (name (codes "e")) (codes "message")) ∷ [])))) ∷ []))) no_body) ∷ []), (logged (codes "no primitive value") ∷ logged (codes "invalid length") ∷ [])) ∷
    -- try{"a".b=1;}catch(e){console.log(e.message);}console.log(delete "abc"[5],delete (5).x,"abc"[1],"abc".length);delete "abc"[0];
    (((try (stmts_of ((expr (assign None (member (text (codes "a")) (codes "b")) (num (Some (pos 1))))) ∷ [])) (one_catch (codes "e") (stmts_of ((expr (call (member (name (codes "console")) (codes "log")) (exprs_of ((member (name (codes "e")) (codes "message")) ∷ [])))) ∷ []))) no_body) ∷ (expr (call (member (name (codes "console")) (codes "log")) (exprs_of ((unary un.Delete (index (text (codes "abc")) (num (Some (pos 5))))) ∷ (unary un.Delete (member (num (Some (pos 5))) (codes "x"))) ∷ (index (text (codes "abc")) (num (Some (pos 1)))) ∷ (member (text (codes "abc")) (codes "length")) ∷ [])))) ∷ (expr (unary un.Delete (index (text (codes "abc")) (num (Some (pos 0)))))) ∷ []), (logged (codes "cannot set") ∷ logged (codes "true true b 3") ∷ not_caught (codes "TypeError: cannot delete") ∷ [])) ∷
    -- try{undefined=1;}catch(e){console.log(e.message);}try{NaN=1;}catch(e){console.log(e.message);}
    (((try (stmts_of ((expr (assign None (name (codes "undefined")) (num (Some (pos 1))))) ∷ [])) (one_catch (codes "e") (stmts_of ((expr (call (member (name (codes "console")) (codes "log")) (exprs_of ((member (name (codes "e")) (codes "message")) ∷ [])))) ∷ []))) no_body) ∷ (try (stmts_of ((expr (assign None (name (codes "NaN")) (num (Some (pos 1))))) ∷ [])) (one_catch (codes "e") (stmts_of ((expr (call (member (name (codes "console")) (codes "log")) (exprs_of ((member (name (codes "e")) (codes "message")) ∷ [])))) ∷ []))) no_body) ∷ []), (logged (codes "cannot set") ∷ logged (codes "cannot set") ∷ [])) ∷
    -- function F(){this.a=1;}F.prototype.b=2;var o=new F();console.log(o.a,o.b,o.constructor===F);function G(){return o;}console.log(new G()===o,new G);
    (((function (code (Some (codes "F")) [] (stmts_of ((expr (assign None (member this (codes "a")) (num (Some (pos 1))))) ∷ [])))) ∷ (expr (assign None (member (member (name (codes "F")) (codes "prototype")) (codes "b")) (num (Some (pos 2))))) ∷ (var (then_declarator (codes "o") (one_expr (construct (name (codes "F")) (exprs_of []))) no_declarators)) ∷ (expr (call (member (name (codes "console")) (codes "log")) (exprs_of ((member (name (codes "o")) (codes "a")) ∷ (member (name (codes "o")) (codes "b")) ∷ (binary op.Same (member (name (codes "o")) (codes "constructor")) (name (codes "F"))) ∷ [])))) ∷ (function (code (Some (codes "G")) [] (stmts_of ((return (one_expr (name (codes "o")))) ∷ [])))) ∷ (expr (call (member (name (codes "console")) (codes "log")) (exprs_of ((binary op.Same (construct (name (codes "G")) (exprs_of [])) (name (codes "o"))) ∷ (construct (name (codes "G")) (exprs_of [])) ∷ [])))) ∷ []), (logged (codes "1 2 true") ∷ logged (codes "true [object Object]") ∷ [])) ∷
    []

-- calls, depth and steps (sections 10.5, 11.2 and 13)
abbrev pub functions : List Worked
functions =
    -- var n=0;function f(){n=n+1;f();}try{f();}catch(e){console.log(e.name,e.message,n);}
    (((var (then_declarator (codes "n") (one_expr (num (Some (pos 0)))) no_declarators)) ∷ (function (code (Some (codes "f")) [] (stmts_of ((expr (assign None (name (codes "n")) (binary op.Add (name (codes "n")) (num (Some (pos 1)))))) ∷ (expr (call (name (codes "f")) (exprs_of []))) ∷ [])))) ∷ (try (stmts_of ((expr (call (name (codes "f")) (exprs_of []))) ∷ [])) (one_catch (codes "e") (stmts_of ((expr (call (member (name (codes "console")) (codes "log")) (exprs_of ((member (name (codes "e")) (codes "name")) ∷ (member (name (codes "e")) (codes "message")) ∷ (name (codes "n")) ∷ [])))) ∷ []))) no_body) ∷ []), (logged (codes "RangeError too deep 1000") ∷ [])) ∷
    -- function f(a,b){console.log(a,b,f.length);}f(1);f(1,2,3);
    (((function (code (Some (codes "f")) ((codes "a") ∷ (codes "b") ∷ []) (stmts_of ((expr (call (member (name (codes "console")) (codes "log")) (exprs_of ((name (codes "a")) ∷ (name (codes "b")) ∷ (member (name (codes "f")) (codes "length")) ∷ [])))) ∷ [])))) ∷ (expr (call (name (codes "f")) (exprs_of ((num (Some (pos 1))) ∷ [])))) ∷ (expr (call (name (codes "f")) (exprs_of ((num (Some (pos 1))) ∷ (num (Some (pos 2))) ∷ (num (Some (pos 3))) ∷ [])))) ∷ []), (logged (codes "1 undefined 2") ∷ logged (codes "1 2 2") ∷ [])) ∷
    -- var f=function g(g){console.log(g);};f(1);(function h(){console.log(typeof h);})();
    (((var (then_declarator (codes "f") (one_expr (func (code (Some (codes "g")) ((codes "g") ∷ []) (stmts_of ((expr (call (member (name (codes "console")) (codes "log")) (exprs_of ((name (codes "g")) ∷ [])))) ∷ []))))) no_declarators)) ∷ (expr (call (name (codes "f")) (exprs_of ((num (Some (pos 1))) ∷ [])))) ∷ (expr (call (func (code (Some (codes "h")) [] (stmts_of ((expr (call (member (name (codes "console")) (codes "log")) (exprs_of ((unary un.Typeof (name (codes "h"))) ∷ [])))) ∷ [])))) (exprs_of []))) ∷ []), (logged (codes "1") ∷ logged (codes "function") ∷ [])) ∷
    -- console.log(f());function f(){return g;}var g=1;
    (((expr (call (member (name (codes "console")) (codes "log")) (exprs_of ((call (name (codes "f")) (exprs_of [])) ∷ [])))) ∷ (function (code (Some (codes "f")) [] (stmts_of ((return (one_expr (name (codes "g")))) ∷ [])))) ∷ (var (then_declarator (codes "g") (one_expr (num (Some (pos 1)))) no_declarators)) ∷ []), (logged (codes "undefined") ∷ [])) ∷
    -- try{new (function(){throw 3;})();}catch(e){console.log(e);}try{(5)();}catch(e){console.log(e.message);}try{new console.log();}catch(e){console.log(e.message);}
    (((try (stmts_of ((expr (construct (func (code None [] (stmts_of ((throw (num (Some (pos 3)))) ∷ [])))) (exprs_of []))) ∷ [])) (one_catch (codes "e") (stmts_of ((expr (call (member (name (codes "console")) (codes "log")) (exprs_of ((name (codes "e")) ∷ [])))) ∷ []))) no_body) ∷ (try (stmts_of ((expr (call (num (Some (pos 5))) (exprs_of []))) ∷ [])) (one_catch (codes "e") (stmts_of ((expr (call (member (name (codes "console")) (codes "log")) (exprs_of ((member (name (codes "e")) (codes "message")) ∷ [])))) ∷ []))) no_body) ∷ (try (stmts_of ((expr (construct (member (name (codes "console")) (codes "log")) (exprs_of []))) ∷ [])) (one_catch (codes "e") (stmts_of ((expr (call (member (name (codes "console")) (codes "log")) (exprs_of ((member (name (codes "e")) (codes "message")) ∷ [])))) ∷ []))) no_body) ∷ []), (logged (codes "3") ∷ logged (codes "not a function") ∷ logged (codes "not a function") ∷ [])) ∷
    []
