-- Worked scripts on `Object`, its prototype, arrays and errors that are made, with the lines that the rules give them.
use Rattle.std.specs.Prelude.{true, pos, List, [], ◌∷◌, Some, None, codes}
use Rattle.js_core.specs.declared.operators.BinaryOp.TheVariants as op
use Rattle.js_core.specs.declared.operators.UnaryOp.TheVariants as un
use Rattle.js_core.specs.Tree.{assign, binary, bool, call, code, construct, expr, exprs_of, for_in, func, holes_of, index, list, literal, member, name, no_body, no_declarators, no_fields, no_stmts, null, num, one_catch, one_expr, stmts_of, text, then_declarator, then_field, throw, try, unary, var}
use Rattle.worked_pages.specs.Worked.{Worked, logged, not_caught}

-- properties, descriptors and prototypes (section 15.2)
abbrev pub objects : List Worked
objects =
    -- var p={a:1},o=Object.create(p,{b:{value:2,enumerable:true},c:{value:3}}),s="";for(var x in o)s=s+x;console.log(s,o.a,o.b,o.c,Object.keys(o).length,Object.getOwnPropertyNames(o)[1],Object.getPrototypeOf(o)===p,p.isPrototypeOf(o));
    (((var (then_declarator (codes "p") (one_expr (literal (then_field (codes "a") (num (Some (pos 1))) no_fields))) (then_declarator (codes "o") (one_expr (call (member (name (codes "Object")) (codes "create")) (exprs_of ((name (codes "p")) ∷ (literal (then_field (codes "b") (literal (then_field (codes "value") (num (Some (pos 2))) (then_field (codes "enumerable") (bool true) no_fields))) (then_field (codes "c") (literal (then_field (codes "value") (num (Some (pos 3))) no_fields)) no_fields))) ∷ [])))) (then_declarator (codes "s") (one_expr (text (codes ""))) no_declarators)))) ∷ (for_in true (name (codes "x")) (name (codes "o")) (stmts_of ((expr (assign None (name (codes "s")) (binary op.Add (name (codes "s")) (name (codes "x"))))) ∷ []))) ∷ (expr (call (member (name (codes "console")) (codes "log")) (exprs_of ((name (codes "s")) ∷ (member (name (codes "o")) (codes "a")) ∷ (member (name (codes "o")) (codes "b")) ∷ (member (name (codes "o")) (codes "c")) ∷ (member (call (member (name (codes "Object")) (codes "keys")) (exprs_of ((name (codes "o")) ∷ []))) (codes "length")) ∷ (index (call (member (name (codes "Object")) (codes "getOwnPropertyNames")) (exprs_of ((name (codes "o")) ∷ []))) (num (Some (pos 1)))) ∷ (binary op.Same (call (member (name (codes "Object")) (codes "getPrototypeOf")) (exprs_of ((name (codes "o")) ∷ []))) (name (codes "p"))) ∷ (call (member (name (codes "p")) (codes "isPrototypeOf")) (exprs_of ((name (codes "o")) ∷ []))) ∷ [])))) ∷ []), (logged (codes "ba 1 2 3 1 c true true") ∷ [])) ∷
    -- var o={};Object.defineProperty(o,"x",{value:1});var d=Object.getOwnPropertyDescriptor(o,"x");console.log(d.value,d.writable,d.enumerable,d.configurable);Object.defineProperty(o,"x",{value:1});try{Object.defineProperty(o,"x",{value:2});}catch(e){console.log(e.name,e.message);}try{Object.defineProperty(o,"y",{get:1});}catch(e){console.log(e.message);}console.log(Object.getOwnPropertyDescriptor(o,"y"));
    (((var (then_declarator (codes "o") (one_expr (literal no_fields)) no_declarators)) ∷ (expr (call (member (name (codes "Object")) (codes "defineProperty")) (exprs_of ((name (codes "o")) ∷ (text (codes "x")) ∷ (literal (then_field (codes "value") (num (Some (pos 1))) no_fields)) ∷ [])))) ∷ (var (then_declarator (codes "d") (one_expr (call (member (name (codes "Object")) (codes "getOwnPropertyDescriptor")) (exprs_of ((name (codes "o")) ∷ (text (codes "x")) ∷ [])))) no_declarators)) ∷ (expr (call (member (name (codes "console")) (codes "log")) (exprs_of ((member (name (codes "d")) (codes "value")) ∷ (member (name (codes "d")) (codes "writable")) ∷ (member (name (codes "d")) (codes "enumerable")) ∷ (member (name (codes "d")) (codes "configurable")) ∷ [])))) ∷ (expr (call (member (name (codes "Object")) (codes "defineProperty")) (exprs_of ((name (codes "o")) ∷ (text (codes "x")) ∷ (literal (then_field (codes "value") (num (Some (pos 1))) no_fields)) ∷ [])))) ∷ (try (stmts_of ((expr (call (member (name (codes "Object")) (codes "defineProperty")) (exprs_of ((name (codes "o")) ∷ (text (codes "x")) ∷ (literal (then_field (codes "value") (num (Some (pos 2))) no_fields)) ∷ [])))) ∷ [])) (one_catch (codes "e") (stmts_of ((expr (call (member (name (codes "console")) (codes "log")) (exprs_of ((member (name (codes "e")) (codes "name")) ∷ (member (name (codes "e")) (codes "message")) ∷ [])))) ∷ []))) no_body) ∷ (try (stmts_of ((expr (call (member (name (codes "Object")) (codes "defineProperty")) (exprs_of ((name (codes "o")) ∷ (text (codes "y")) ∷ (literal (then_field (codes "get") (num (Some (pos 1))) no_fields)) ∷ [])))) ∷ [])) (one_catch (codes "e") (stmts_of ((expr (call (member (name (codes "console")) (codes "log")) (exprs_of ((member (name (codes "e")) (codes "message")) ∷ [])))) ∷ []))) no_body) ∷ (expr (call (member (name (codes "console")) (codes "log")) (exprs_of ((call (member (name (codes "Object")) (codes "getOwnPropertyDescriptor")) (exprs_of ((name (codes "o")) ∷ (text (codes "y")) ∷ []))) ∷ [])))) ∷ []), (logged (codes "1 false false false") ∷ logged (codes "TypeError cannot define") ∷ logged (codes "wrong argument") ∷ logged (codes "undefined") ∷ [])) ∷
    -- var a=[1];Object.freeze(a);try{a.length="1e3";}catch(e){console.log(e.message);}try{a[0]=2;}catch(e){console.log(e.message);}console.log(a[0],Object.isFrozen(a),Object.isSealed(a),Object.isExtensible(a),Object.isFrozen({}));
    (((var (then_declarator (codes "a") (one_expr (list (holes_of ((Some (num (Some (pos 1)))) ∷ [])))) no_declarators)) ∷ (expr (call (member (name (codes "Object")) (codes "freeze")) (exprs_of ((name (codes "a")) ∷ [])))) ∷ (try (stmts_of ((expr (assign None (member (name (codes "a")) (codes "length")) (text (codes "1e3")))) ∷ [])) (one_catch (codes "e") (stmts_of ((expr (call (member (name (codes "console")) (codes "log")) (exprs_of ((member (name (codes "e")) (codes "message")) ∷ [])))) ∷ []))) no_body) ∷ (try (stmts_of ((expr (assign None (index (name (codes "a")) (num (Some (pos 0)))) (num (Some (pos 2))))) ∷ [])) (one_catch (codes "e") (stmts_of ((expr (call (member (name (codes "console")) (codes "log")) (exprs_of ((member (name (codes "e")) (codes "message")) ∷ [])))) ∷ []))) no_body) ∷ (expr (call (member (name (codes "console")) (codes "log")) (exprs_of ((index (name (codes "a")) (num (Some (pos 0)))) ∷ (call (member (name (codes "Object")) (codes "isFrozen")) (exprs_of ((name (codes "a")) ∷ []))) ∷ (call (member (name (codes "Object")) (codes "isSealed")) (exprs_of ((name (codes "a")) ∷ []))) ∷ (call (member (name (codes "Object")) (codes "isExtensible")) (exprs_of ((name (codes "a")) ∷ []))) ∷ (call (member (name (codes "Object")) (codes "isFrozen")) (exprs_of ((literal no_fields) ∷ []))) ∷ [])))) ∷ []), (logged (codes "number out of range") ∷ logged (codes "cannot set") ∷ logged (codes "1 true true false false") ∷ [])) ∷
    -- try{Object.seal(Object);}catch(e){console.log(e.message);}try{Object.keys(1);}catch(e){console.log(e.message);}try{Object.create(1);}catch(e){console.log(e.message);}try{new Object("a");}catch(e){console.log(e.message);}console.log(new Object(undefined)===Object(null),Object(console)===console);
    (((try (stmts_of ((expr (call (member (name (codes "Object")) (codes "seal")) (exprs_of ((name (codes "Object")) ∷ [])))) ∷ [])) (one_catch (codes "e") (stmts_of ((expr (call (member (name (codes "console")) (codes "log")) (exprs_of ((member (name (codes "e")) (codes "message")) ∷ [])))) ∷ []))) no_body) ∷ (try (stmts_of ((expr (call (member (name (codes "Object")) (codes "keys")) (exprs_of ((num (Some (pos 1))) ∷ [])))) ∷ [])) (one_catch (codes "e") (stmts_of ((expr (call (member (name (codes "console")) (codes "log")) (exprs_of ((member (name (codes "e")) (codes "message")) ∷ [])))) ∷ []))) no_body) ∷ (try (stmts_of ((expr (call (member (name (codes "Object")) (codes "create")) (exprs_of ((num (Some (pos 1))) ∷ [])))) ∷ [])) (one_catch (codes "e") (stmts_of ((expr (call (member (name (codes "console")) (codes "log")) (exprs_of ((member (name (codes "e")) (codes "message")) ∷ [])))) ∷ []))) no_body) ∷ (try (stmts_of ((expr (construct (name (codes "Object")) (exprs_of ((text (codes "a")) ∷ [])))) ∷ [])) (one_catch (codes "e") (stmts_of ((expr (call (member (name (codes "console")) (codes "log")) (exprs_of ((member (name (codes "e")) (codes "message")) ∷ [])))) ∷ []))) no_body) ∷ (expr (call (member (name (codes "console")) (codes "log")) (exprs_of ((binary op.Same (construct (name (codes "Object")) (exprs_of ((name (codes "undefined")) ∷ []))) (call (name (codes "Object")) (exprs_of (null ∷ [])))) ∷ (binary op.Same (call (name (codes "Object")) (exprs_of ((name (codes "console")) ∷ []))) (name (codes "console"))) ∷ [])))) ∷ []), (logged (codes "cannot define") ∷ logged (codes "wrong argument") ∷ logged (codes "wrong argument") ∷ logged (codes "wrong argument") ∷ logged (codes "false true") ∷ [])) ∷
    -- console.log([].toString===Object.prototype.toString,({}).toString(),[].toString(),(function(){}).toString(),true.toString(),true.constructor===Boolean,"a".length);
    (((expr (call (member (name (codes "console")) (codes "log")) (exprs_of ((binary op.Same (member (list (holes_of ([]))) (codes "toString")) (member (member (name (codes "Object")) (codes "prototype")) (codes "toString"))) ∷ (call (member (literal no_fields) (codes "toString")) (exprs_of [])) ∷ (call (member (list (holes_of ([]))) (codes "toString")) (exprs_of [])) ∷ (call (member (func (code None [] no_stmts)) (codes "toString")) (exprs_of [])) ∷ (call (member (bool true) (codes "toString")) (exprs_of [])) ∷ (binary op.Same (member (bool true) (codes "constructor")) (name (codes "Boolean"))) ∷ (member (text (codes "a")) (codes "length")) ∷ [])))) ∷ []), (logged (codes "false [object Object]  [object Function] true true 1") ∷ [])) ∷
    []

-- what constructors make (sections 15.4, 15.6 and 15.11)
abbrev pub constructors : List Worked
constructors =
    -- var e=new TypeError("m"),f=Error();console.log(e.message,e.name,e instanceof Error,f.hasOwnProperty("message"),f.message==="",e.propertyIsEnumerable("message"),e.constructor===TypeError);throw RangeError(5);
    (((var (then_declarator (codes "e") (one_expr (construct (name (codes "TypeError")) (exprs_of ((text (codes "m")) ∷ [])))) (then_declarator (codes "f") (one_expr (call (name (codes "Error")) (exprs_of []))) no_declarators))) ∷ (expr (call (member (name (codes "console")) (codes "log")) (exprs_of ((member (name (codes "e")) (codes "message")) ∷ (member (name (codes "e")) (codes "name")) ∷ (binary op.InstanceOf (name (codes "e")) (name (codes "Error"))) ∷ (call (member (name (codes "f")) (codes "hasOwnProperty")) (exprs_of ((text (codes "message")) ∷ []))) ∷ (binary op.Same (member (name (codes "f")) (codes "message")) (text (codes ""))) ∷ (call (member (name (codes "e")) (codes "propertyIsEnumerable")) (exprs_of ((text (codes "message")) ∷ []))) ∷ (binary op.Same (member (name (codes "e")) (codes "constructor")) (name (codes "TypeError"))) ∷ [])))) ∷ (throw (call (name (codes "RangeError")) (exprs_of ((num (Some (pos 5))) ∷ [])))) ∷ []), (logged (codes "m TypeError true false true false true") ∷ not_caught (codes "RangeError: 5") ∷ [])) ∷
    -- var a=new Array(3),b=Array(1,"x");console.log(a.length,0 in a,b.length,b[1],Array.isArray(b),Array.isArray(Array.prototype),Array.isArray({}));try{new Array(-1);}catch(e){console.log(e.name,e.message);}
    (((var (then_declarator (codes "a") (one_expr (construct (name (codes "Array")) (exprs_of ((num (Some (pos 3))) ∷ [])))) (then_declarator (codes "b") (one_expr (call (name (codes "Array")) (exprs_of ((num (Some (pos 1))) ∷ (text (codes "x")) ∷ [])))) no_declarators))) ∷ (expr (call (member (name (codes "console")) (codes "log")) (exprs_of ((member (name (codes "a")) (codes "length")) ∷ (binary op.Within (num (Some (pos 0))) (name (codes "a"))) ∷ (member (name (codes "b")) (codes "length")) ∷ (index (name (codes "b")) (num (Some (pos 1)))) ∷ (call (member (name (codes "Array")) (codes "isArray")) (exprs_of ((name (codes "b")) ∷ []))) ∷ (call (member (name (codes "Array")) (codes "isArray")) (exprs_of ((member (name (codes "Array")) (codes "prototype")) ∷ []))) ∷ (call (member (name (codes "Array")) (codes "isArray")) (exprs_of ((literal no_fields) ∷ []))) ∷ [])))) ∷ (try (stmts_of ((expr (construct (name (codes "Array")) (exprs_of ((unary un.Minus (num (Some (pos 1)))) ∷ [])))) ∷ [])) (one_catch (codes "e") (stmts_of ((expr (call (member (name (codes "console")) (codes "log")) (exprs_of ((member (name (codes "e")) (codes "name")) ∷ (member (name (codes "e")) (codes "message")) ∷ [])))) ∷ []))) no_body) ∷ []), (logged (codes "3 false 2 x true true false") ∷ logged (codes "RangeError invalid length") ∷ [])) ∷
    -- console.log(Boolean(""),Boolean({}),Object.prototype.hasOwnProperty.length,Function.prototype());try{new Boolean(1);}catch(e){console.log(e.message);}try{Function();}catch(e){console.log(e.message);}try{new console.log();}catch(e){console.log(e.message);}try{Object.x=1;}catch(e){console.log(e.message);}
    (((expr (call (member (name (codes "console")) (codes "log")) (exprs_of ((call (name (codes "Boolean")) (exprs_of ((text (codes "")) ∷ []))) ∷ (call (name (codes "Boolean")) (exprs_of ((literal no_fields) ∷ []))) ∷ (member (member (member (name (codes "Object")) (codes "prototype")) (codes "hasOwnProperty")) (codes "length")) ∷ (call (member (name (codes "Function")) (codes "prototype")) (exprs_of [])) ∷ [])))) ∷ (try (stmts_of ((expr (construct (name (codes "Boolean")) (exprs_of ((num (Some (pos 1))) ∷ [])))) ∷ [])) (one_catch (codes "e") (stmts_of ((expr (call (member (name (codes "console")) (codes "log")) (exprs_of ((member (name (codes "e")) (codes "message")) ∷ [])))) ∷ []))) no_body) ∷ (try (stmts_of ((expr (call (name (codes "Function")) (exprs_of []))) ∷ [])) (one_catch (codes "e") (stmts_of ((expr (call (member (name (codes "console")) (codes "log")) (exprs_of ((member (name (codes "e")) (codes "message")) ∷ [])))) ∷ []))) no_body) ∷ (try (stmts_of ((expr (construct (member (name (codes "console")) (codes "log")) (exprs_of []))) ∷ [])) (one_catch (codes "e") (stmts_of ((expr (call (member (name (codes "console")) (codes "log")) (exprs_of ((member (name (codes "e")) (codes "message")) ∷ [])))) ∷ []))) no_body) ∷ (try (stmts_of ((expr (assign None (member (name (codes "Object")) (codes "x")) (num (Some (pos 1))))) ∷ [])) (one_catch (codes "e") (stmts_of ((expr (call (member (name (codes "console")) (codes "log")) (exprs_of ((member (name (codes "e")) (codes "message")) ∷ [])))) ∷ []))) no_body) ∷ []), (logged (codes "false true 1 undefined") ∷ logged (codes "wrong argument") ∷ logged (codes "wrong argument") ∷ logged (codes "not a function") ∷ logged (codes "cannot set") ∷ [])) ∷
    []
