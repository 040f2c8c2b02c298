-- Statements and their trees, worked by hand. A line end is shown as ⏎.
use Rattle.std.specs.Prelude.{pos, true, false, List, [], ◌∷◌, Some, None, codes}
use Rattle.js_core.specs.Tree.{name, num, list, literal, func, member, index, call, construct, unary, update, binary, conditional, assign, comma, no_exprs, no_expr, one_expr, code, var, function, expr, empty, block, if_else, do_while, while, for, for_in, continue, break, return, throw, try, switch, no_stmts, no_body, one_body, no_declarators, then_declarator, no_init, init_var, init_expr, no_catch, one_catch, no_cases, then_case, exprs_of, holes_of, fields_of, stmts_of}
use Rattle.js_core.specs.declared.token.Punct.TheVariants as p
use Rattle.js_core.specs.declared.operators.UnaryOp.TheVariants as un
use Rattle.js_core.specs.declared.operators.BinaryOp.TheVariants as op
use Rattle.js_core.specs.declared.keyword.Keyword.TheVariants as kw
use Rattle.js_grammar.specs.Examples.{mark, word, named, numeral, below, semicolon, a, b, c, A, B, C, Example, script, refused}

-- where semicolons may be missing; those of section 7.9.2 first
abbrev pub ends : List Example
ends =
    -- {1 2}3
    (mark p.LeftBrace ∷ numeral 1 ∷ numeral 2 ∷ mark p.RightBrace ∷ numeral 3 ∷ [], refused)
    ∷  -- {1⏎2}3
    (mark p.LeftBrace ∷ numeral 1 ∷ below (numeral 2) ∷ mark p.RightBrace ∷ numeral 3 ∷ [], script (block (stmts_of ((expr (num (Some (pos 1)))) ∷ (expr (num (Some (pos 2)))) ∷ [])) ∷ expr (num (Some (pos 3))) ∷ []))
    ∷  -- for(a;b⏎)
    (word kw.For ∷ mark p.LeftParenthesis ∷ a ∷ semicolon ∷ b ∷ below (mark p.RightParenthesis) ∷ [], refused)
    ∷  -- return⏎a+b
    (word kw.Return ∷ below a ∷ mark p.PlusSign ∷ b ∷ [], script (return no_expr ∷ expr (binary op.Add A B) ∷ []))
    ∷  -- a=b⏎++c
    (a ∷ mark p.SimpleAssign ∷ b ∷ below (mark p.PlusPlus) ∷ c ∷ [], script (expr (assign None A B) ∷ expr (update true true C) ∷ []))
    ∷  -- if(a>b)⏎else c=d
    (word kw.If ∷ mark p.LeftParenthesis ∷ a ∷ mark p.GreaterThan ∷ b ∷ mark p.RightParenthesis ∷ below (word kw.Else) ∷ c ∷ mark p.SimpleAssign ∷ named (codes "d") ∷ [], refused)
    ∷  -- a=b+c⏎(d+e).print()
    (a ∷ mark p.SimpleAssign ∷ b ∷ mark p.PlusSign ∷ c ∷ below (mark p.LeftParenthesis) ∷ named (codes "d") ∷ mark p.PlusSign ∷ named (codes "e") ∷ mark p.RightParenthesis ∷ mark p.Dot ∷ named (codes "print") ∷ mark p.LeftParenthesis ∷ mark p.RightParenthesis ∷ [], script (expr (assign None A (binary op.Add B (call (member (call C (exprs_of ((binary op.Add (name (codes "d")) (name (codes "e"))) ∷ []))) (codes "print")) no_exprs))) ∷ []))
    ∷  -- a⏎++⏎b
    (a ∷ below (mark p.PlusPlus) ∷ below b ∷ [], script (expr A ∷ expr (update true true B) ∷ []))
    ∷  -- a⏎++b
    (a ∷ below (mark p.PlusPlus) ∷ b ∷ [], script (expr A ∷ expr (update true true B) ∷ []))
    ∷  -- a++⏎(b)
    (a ∷ mark p.PlusPlus ∷ below (mark p.LeftParenthesis) ∷ b ∷ mark p.RightParenthesis ∷ [], script (expr (update true false A) ∷ expr B ∷ []))
    ∷  -- a++(b)
    (a ∷ mark p.PlusPlus ∷ mark p.LeftParenthesis ∷ b ∷ mark p.RightParenthesis ∷ [], refused)
    ∷  -- -a--⏎[b]
    (mark p.MinusSign ∷ a ∷ mark p.MinusMinus ∷ below (mark p.LeftBracket) ∷ b ∷ mark p.RightBracket ∷ [], script (expr (unary un.Minus (update false false A)) ∷ expr (list (holes_of (Some B ∷ []))) ∷ []))
    ∷  -- a=b++⏎(c)
    (a ∷ mark p.SimpleAssign ∷ b ∷ mark p.PlusPlus ∷ below (mark p.LeftParenthesis) ∷ c ∷ mark p.RightParenthesis ∷ [], script (expr (assign None A (update true false B)) ∷ expr C ∷ []))
    ∷  -- (a++)⏎(b)
    (mark p.LeftParenthesis ∷ a ∷ mark p.PlusPlus ∷ mark p.RightParenthesis ∷ below (mark p.LeftParenthesis) ∷ b ∷ mark p.RightParenthesis ∷ [], script (expr (call (update true false A) (exprs_of (B ∷ []))) ∷ []))
    ∷  -- a++⏎*b
    (a ∷ mark p.PlusPlus ∷ below (mark p.Star) ∷ b ∷ [], script (expr (binary op.Mul (update true false A) B) ∷ []))
    ∷  -- a⏎(b)
    (a ∷ below (mark p.LeftParenthesis) ∷ b ∷ mark p.RightParenthesis ∷ [], script (expr (call A (exprs_of (B ∷ []))) ∷ []))
    ∷  -- a⏎[b]
    (a ∷ below (mark p.LeftBracket) ∷ b ∷ mark p.RightBracket ∷ [], script (expr (index A B) ∷ []))
    ∷  -- a⏎.b
    (a ∷ below (mark p.Dot) ∷ b ∷ [], script (expr (member A (codes "b")) ∷ []))
    ∷  -- a⏎in b
    (a ∷ below (word kw.In) ∷ b ∷ [], script (expr (binary op.Within A B) ∷ []))
    ∷  -- a⏎,b
    (a ∷ below (mark p.Comma) ∷ b ∷ [], script (expr (comma (exprs_of (A ∷ B ∷ []))) ∷ []))
    ∷  -- a⏎b
    (a ∷ below b ∷ [], script (expr A ∷ expr B ∷ []))
    ∷  -- a b
    (a ∷ b ∷ [], refused)
    ∷  -- a⏎;
    (a ∷ below semicolon ∷ [], script (expr A ∷ []))
    ∷  -- a;⏎;
    (a ∷ semicolon ∷ below semicolon ∷ [], script (expr A ∷ empty ∷ []))
    ∷  -- {a}b
    (mark p.LeftBrace ∷ a ∷ mark p.RightBrace ∷ b ∷ [], script (block (stmts_of ((expr A) ∷ [])) ∷ expr B ∷ []))
    ∷  -- var a⏎(b)
    (word kw.Var ∷ a ∷ below (mark p.LeftParenthesis) ∷ b ∷ mark p.RightParenthesis ∷ [], script (var (then_declarator (codes "a") no_expr no_declarators) ∷ expr B ∷ []))
    ∷  -- var a⏎++b
    (word kw.Var ∷ a ∷ below (mark p.PlusPlus) ∷ b ∷ [], script (var (then_declarator (codes "a") no_expr no_declarators) ∷ expr (update true true B) ∷ []))
    ∷  -- var a⏎=b
    (word kw.Var ∷ a ∷ below (mark p.SimpleAssign) ∷ b ∷ [], script (var (then_declarator (codes "a") (one_expr B) no_declarators) ∷ []))
    ∷  -- var a⏎,b
    (word kw.Var ∷ a ∷ below (mark p.Comma) ∷ b ∷ [], script (var (then_declarator (codes "a") no_expr (then_declarator (codes "b") no_expr no_declarators)) ∷ []))
    ∷  -- var a=b⏎(c)
    (word kw.Var ∷ a ∷ mark p.SimpleAssign ∷ b ∷ below (mark p.LeftParenthesis) ∷ c ∷ mark p.RightParenthesis ∷ [], script (var (then_declarator (codes "a") (one_expr (call B (exprs_of (C ∷ [])))) no_declarators) ∷ []))
    ∷  -- var a=b++⏎(c)
    (word kw.Var ∷ a ∷ mark p.SimpleAssign ∷ b ∷ mark p.PlusPlus ∷ below (mark p.LeftParenthesis) ∷ c ∷ mark p.RightParenthesis ∷ [], script (var (then_declarator (codes "a") (one_expr (update true false B)) no_declarators) ∷ expr C ∷ []))
    ∷  -- var a b
    (word kw.Var ∷ a ∷ b ∷ [], refused)
    ∷  -- do a;while(b)⏎(c)
    (word kw.Do ∷ a ∷ semicolon ∷ word kw.While ∷ mark p.LeftParenthesis ∷ b ∷ mark p.RightParenthesis ∷ below (mark p.LeftParenthesis) ∷ c ∷ mark p.RightParenthesis ∷ [], script (do_while (stmts_of ((expr A) ∷ [])) B ∷ expr C ∷ []))
    ∷  -- do a;while(b)c
    (word kw.Do ∷ a ∷ semicolon ∷ word kw.While ∷ mark p.LeftParenthesis ∷ b ∷ mark p.RightParenthesis ∷ c ∷ [], refused)
    ∷  -- do a⏎while(b)
    (word kw.Do ∷ a ∷ below (word kw.While) ∷ mark p.LeftParenthesis ∷ b ∷ mark p.RightParenthesis ∷ [], script (do_while (stmts_of ((expr A) ∷ [])) B ∷ []))
    ∷  -- break⏎a
    (word kw.Break ∷ below a ∷ [], script (break ∷ expr A ∷ []))
    ∷  -- break a
    (word kw.Break ∷ a ∷ [], refused)
    ∷  -- {continue}
    (mark p.LeftBrace ∷ word kw.Continue ∷ mark p.RightBrace ∷ [], script (block (stmts_of (continue ∷ [])) ∷ []))
    ∷  -- return a⏎(b)
    (word kw.Return ∷ a ∷ below (mark p.LeftParenthesis) ∷ b ∷ mark p.RightParenthesis ∷ [], script (return (one_expr (call A (exprs_of (B ∷ [])))) ∷ []))
    ∷  -- {return}
    (mark p.LeftBrace ∷ word kw.Return ∷ mark p.RightBrace ∷ [], script (block (stmts_of ((return no_expr) ∷ [])) ∷ []))
    ∷  -- return
    (word kw.Return ∷ [], script (return no_expr ∷ []))
    ∷  -- throw⏎a
    (word kw.Throw ∷ below a ∷ [], refused)
    ∷  -- throw a
    (word kw.Throw ∷ a ∷ [], script (throw A ∷ []))
    ∷  -- throw⏎;
    (word kw.Throw ∷ below semicolon ∷ [], refused)
    ∷  -- continue⏎;
    (word kw.Continue ∷ below semicolon ∷ [], script (continue ∷ []))
    ∷  -- return⏎;
    (word kw.Return ∷ below semicolon ∷ [], script (return no_expr ∷ []))
    ∷  -- a⏎?b:c
    (a ∷ below (mark p.QuestionMark) ∷ b ∷ mark p.Colon ∷ c ∷ [], script (expr (conditional A B C) ∷ []))
    ∷  -- a⏎=b
    (a ∷ below (mark p.SimpleAssign) ∷ b ∷ [], script (expr (assign None A B) ∷ []))
    ∷  -- new a⏎(b)
    (word kw.New ∷ a ∷ below (mark p.LeftParenthesis) ∷ b ∷ mark p.RightParenthesis ∷ [], script (expr (construct A (exprs_of (B ∷ []))) ∷ []))
    ∷  -- a=function(){}⏎(b)
    (a ∷ mark p.SimpleAssign ∷ word kw.Function ∷ mark p.LeftParenthesis ∷ mark p.RightParenthesis ∷ mark p.LeftBrace ∷ mark p.RightBrace ∷ below (mark p.LeftParenthesis) ∷ b ∷ mark p.RightParenthesis ∷ [], script (expr (assign None A (call (func (code None ([]) no_stmts)) (exprs_of (B ∷ [])))) ∷ []))
    ∷  -- var a=1,b=2;⏎a++⏎(b)⏎console.log(a);
    (word kw.Var ∷ a ∷ mark p.SimpleAssign ∷ numeral 1 ∷ mark p.Comma ∷ b ∷ mark p.SimpleAssign ∷ numeral 2 ∷ semicolon ∷ below a ∷ mark p.PlusPlus ∷ below (mark p.LeftParenthesis) ∷ b ∷ mark p.RightParenthesis ∷ below (named (codes "console")) ∷ mark p.Dot ∷ named (codes "log") ∷ mark p.LeftParenthesis ∷ a ∷ mark p.RightParenthesis ∷ semicolon ∷ [], script (var (then_declarator (codes "a") (one_expr (num (Some (pos 1)))) (then_declarator (codes "b") (one_expr (num (Some (pos 2)))) no_declarators)) ∷ expr (update true false A) ∷ expr B ∷ expr (call (member (name (codes "console")) (codes "log")) (exprs_of (A ∷ []))) ∷ []))
    ∷  -- if(a)
    (word kw.If ∷ mark p.LeftParenthesis ∷ a ∷ mark p.RightParenthesis ∷ [], refused)
    ∷  -- if(a)⏎
    (word kw.If ∷ mark p.LeftParenthesis ∷ a ∷ mark p.RightParenthesis ∷ [], refused)
    ∷  -- while(a)}
    (word kw.While ∷ mark p.LeftParenthesis ∷ a ∷ mark p.RightParenthesis ∷ mark p.RightBrace ∷ [], refused)
    ∷  -- for(;;)⏎
    (word kw.For ∷ mark p.LeftParenthesis ∷ semicolon ∷ semicolon ∷ mark p.RightParenthesis ∷ [], refused)
    ∷  --
    ([], script ([]))
    ∷ []

-- the forms of statements
abbrev pub forms : List Example
forms =
    -- {}
    (mark p.LeftBrace ∷ mark p.RightBrace ∷ [], script (block no_stmts ∷ []))
    ∷  -- {
    (mark p.LeftBrace ∷ [], refused)
    ∷  -- }
    (mark p.RightBrace ∷ [], refused)
    ∷  -- var a=1,b;
    (word kw.Var ∷ a ∷ mark p.SimpleAssign ∷ numeral 1 ∷ mark p.Comma ∷ b ∷ semicolon ∷ [], script (var (then_declarator (codes "a") (one_expr (num (Some (pos 1)))) (then_declarator (codes "b") no_expr no_declarators)) ∷ []))
    ∷  -- var a=b in c;
    (word kw.Var ∷ a ∷ mark p.SimpleAssign ∷ b ∷ word kw.In ∷ c ∷ semicolon ∷ [], script (var (then_declarator (codes "a") (one_expr (binary op.Within B C)) no_declarators) ∷ []))
    ∷  -- if(a)if(b)a;else c;
    (word kw.If ∷ mark p.LeftParenthesis ∷ a ∷ mark p.RightParenthesis ∷ word kw.If ∷ mark p.LeftParenthesis ∷ b ∷ mark p.RightParenthesis ∷ a ∷ semicolon ∷ word kw.Else ∷ c ∷ semicolon ∷ [], script (if_else A (stmts_of ((if_else B (stmts_of ((expr A) ∷ [])) (one_body (stmts_of ((expr C) ∷ [])))) ∷ [])) no_body ∷ []))
    ∷  -- if(a){if(b)a}else c;
    (word kw.If ∷ mark p.LeftParenthesis ∷ a ∷ mark p.RightParenthesis ∷ mark p.LeftBrace ∷ word kw.If ∷ mark p.LeftParenthesis ∷ b ∷ mark p.RightParenthesis ∷ a ∷ mark p.RightBrace ∷ word kw.Else ∷ c ∷ semicolon ∷ [], script (if_else A (stmts_of ((if_else B (stmts_of ((expr A) ∷ [])) no_body) ∷ [])) (one_body (stmts_of ((expr C) ∷ []))) ∷ []))
    ∷  -- if(a){b;c}
    (word kw.If ∷ mark p.LeftParenthesis ∷ a ∷ mark p.RightParenthesis ∷ mark p.LeftBrace ∷ b ∷ semicolon ∷ c ∷ mark p.RightBrace ∷ [], script (if_else A (stmts_of ((expr B) ∷ (expr C) ∷ [])) no_body ∷ []))
    ∷  -- if(a){{b}}
    (word kw.If ∷ mark p.LeftParenthesis ∷ a ∷ mark p.RightParenthesis ∷ mark p.LeftBrace ∷ mark p.LeftBrace ∷ b ∷ mark p.RightBrace ∷ mark p.RightBrace ∷ [], script (if_else A (stmts_of ((block (stmts_of ((expr B) ∷ []))) ∷ [])) no_body ∷ []))
    ∷  -- if(a);
    (word kw.If ∷ mark p.LeftParenthesis ∷ a ∷ mark p.RightParenthesis ∷ semicolon ∷ [], script (if_else A (stmts_of (empty ∷ [])) no_body ∷ []))
    ∷  -- if(a)b⏎else c
    (word kw.If ∷ mark p.LeftParenthesis ∷ a ∷ mark p.RightParenthesis ∷ b ∷ below (word kw.Else) ∷ c ∷ [], script (if_else A (stmts_of ((expr B) ∷ [])) (one_body (stmts_of ((expr C) ∷ []))) ∷ []))
    ∷  -- while(a)b;
    (word kw.While ∷ mark p.LeftParenthesis ∷ a ∷ mark p.RightParenthesis ∷ b ∷ semicolon ∷ [], script (while A (stmts_of ((expr B) ∷ [])) ∷ []))
    ∷  -- do{}while(a);
    (word kw.Do ∷ mark p.LeftBrace ∷ mark p.RightBrace ∷ word kw.While ∷ mark p.LeftParenthesis ∷ a ∷ mark p.RightParenthesis ∷ semicolon ∷ [], script (do_while no_stmts A ∷ []))
    ∷  -- for(;;);
    (word kw.For ∷ mark p.LeftParenthesis ∷ semicolon ∷ semicolon ∷ mark p.RightParenthesis ∷ semicolon ∷ [], script (for no_init no_expr no_expr (stmts_of (empty ∷ [])) ∷ []))
    ∷  -- for(a;b;c)a;
    (word kw.For ∷ mark p.LeftParenthesis ∷ a ∷ semicolon ∷ b ∷ semicolon ∷ c ∷ mark p.RightParenthesis ∷ a ∷ semicolon ∷ [], script (for (init_expr A) (one_expr B) (one_expr C) (stmts_of ((expr A) ∷ [])) ∷ []))
    ∷  -- for(a=b,c;;){}
    (word kw.For ∷ mark p.LeftParenthesis ∷ a ∷ mark p.SimpleAssign ∷ b ∷ mark p.Comma ∷ c ∷ semicolon ∷ semicolon ∷ mark p.RightParenthesis ∷ mark p.LeftBrace ∷ mark p.RightBrace ∷ [], script (for (init_expr (comma (exprs_of ((assign None A B) ∷ C ∷ [])))) no_expr no_expr no_stmts ∷ []))
    ∷  -- for(-a;;){}
    (word kw.For ∷ mark p.LeftParenthesis ∷ mark p.MinusSign ∷ a ∷ semicolon ∷ semicolon ∷ mark p.RightParenthesis ∷ mark p.LeftBrace ∷ mark p.RightBrace ∷ [], script (for (init_expr (unary un.Minus A)) no_expr no_expr no_stmts ∷ []))
    ∷  -- for(var a=1,b;;)c;
    (word kw.For ∷ mark p.LeftParenthesis ∷ word kw.Var ∷ a ∷ mark p.SimpleAssign ∷ numeral 1 ∷ mark p.Comma ∷ b ∷ semicolon ∷ semicolon ∷ mark p.RightParenthesis ∷ c ∷ semicolon ∷ [], script (for (init_var (then_declarator (codes "a") (one_expr (num (Some (pos 1)))) (then_declarator (codes "b") no_expr no_declarators))) no_expr no_expr (stmts_of ((expr C) ∷ [])) ∷ []))
    ∷  -- for(a in b)c;
    (word kw.For ∷ mark p.LeftParenthesis ∷ a ∷ word kw.In ∷ b ∷ mark p.RightParenthesis ∷ c ∷ semicolon ∷ [], script (for_in false A B (stmts_of ((expr C) ∷ [])) ∷ []))
    ∷  -- for(a.b in b,c){}
    (word kw.For ∷ mark p.LeftParenthesis ∷ a ∷ mark p.Dot ∷ b ∷ word kw.In ∷ b ∷ mark p.Comma ∷ c ∷ mark p.RightParenthesis ∷ mark p.LeftBrace ∷ mark p.RightBrace ∷ [], script (for_in false (member A (codes "b")) (comma (exprs_of (B ∷ C ∷ []))) no_stmts ∷ []))
    ∷  -- for(var a in b)c;
    (word kw.For ∷ mark p.LeftParenthesis ∷ word kw.Var ∷ a ∷ word kw.In ∷ b ∷ mark p.RightParenthesis ∷ c ∷ semicolon ∷ [], script (for_in true A B (stmts_of ((expr C) ∷ [])) ∷ []))
    ∷  -- for(var a=b in c);
    (word kw.For ∷ mark p.LeftParenthesis ∷ word kw.Var ∷ a ∷ mark p.SimpleAssign ∷ b ∷ word kw.In ∷ c ∷ mark p.RightParenthesis ∷ semicolon ∷ [], refused)
    ∷  -- for(var a,b in c);
    (word kw.For ∷ mark p.LeftParenthesis ∷ word kw.Var ∷ a ∷ mark p.Comma ∷ b ∷ word kw.In ∷ c ∷ mark p.RightParenthesis ∷ semicolon ∷ [], refused)
    ∷  -- for(a in b;;);
    (word kw.For ∷ mark p.LeftParenthesis ∷ a ∷ word kw.In ∷ b ∷ semicolon ∷ semicolon ∷ mark p.RightParenthesis ∷ semicolon ∷ [], refused)
    ∷  -- for(a=b in c;;);
    (word kw.For ∷ mark p.LeftParenthesis ∷ a ∷ mark p.SimpleAssign ∷ b ∷ word kw.In ∷ c ∷ semicolon ∷ semicolon ∷ mark p.RightParenthesis ∷ semicolon ∷ [], refused)
    ∷  -- for(a+b in c);
    (word kw.For ∷ mark p.LeftParenthesis ∷ a ∷ mark p.PlusSign ∷ b ∷ word kw.In ∷ c ∷ mark p.RightParenthesis ∷ semicolon ∷ [], refused)
    ∷  -- for(-a in b);
    (word kw.For ∷ mark p.LeftParenthesis ∷ mark p.MinusSign ∷ a ∷ word kw.In ∷ b ∷ mark p.RightParenthesis ∷ semicolon ∷ [], refused)
    ∷  -- for(a=(b in c);;){}
    (word kw.For ∷ mark p.LeftParenthesis ∷ a ∷ mark p.SimpleAssign ∷ mark p.LeftParenthesis ∷ b ∷ word kw.In ∷ c ∷ mark p.RightParenthesis ∷ semicolon ∷ semicolon ∷ mark p.RightParenthesis ∷ mark p.LeftBrace ∷ mark p.RightBrace ∷ [], script (for (init_expr (assign None A (binary op.Within B C))) no_expr no_expr no_stmts ∷ []))
    ∷  -- for(a[b in c];;){}
    (word kw.For ∷ mark p.LeftParenthesis ∷ a ∷ mark p.LeftBracket ∷ b ∷ word kw.In ∷ c ∷ mark p.RightBracket ∷ semicolon ∷ semicolon ∷ mark p.RightParenthesis ∷ mark p.LeftBrace ∷ mark p.RightBrace ∷ [], script (for (init_expr (index A (binary op.Within B C))) no_expr no_expr no_stmts ∷ []))
    ∷  -- for(a?b in c:a;;){}
    (word kw.For ∷ mark p.LeftParenthesis ∷ a ∷ mark p.QuestionMark ∷ b ∷ word kw.In ∷ c ∷ mark p.Colon ∷ a ∷ semicolon ∷ semicolon ∷ mark p.RightParenthesis ∷ mark p.LeftBrace ∷ mark p.RightBrace ∷ [], script (for (init_expr (conditional A (binary op.Within B C) A)) no_expr no_expr no_stmts ∷ []))
    ∷  -- for(;a in b;){}
    (word kw.For ∷ mark p.LeftParenthesis ∷ semicolon ∷ a ∷ word kw.In ∷ b ∷ semicolon ∷ mark p.RightParenthesis ∷ mark p.LeftBrace ∷ mark p.RightBrace ∷ [], script (for no_init (one_expr (binary op.Within A B)) no_expr no_stmts ∷ []))
    ∷  -- switch(a){}
    (word kw.Switch ∷ mark p.LeftParenthesis ∷ a ∷ mark p.RightParenthesis ∷ mark p.LeftBrace ∷ mark p.RightBrace ∷ [], script (switch A no_cases ∷ []))
    ∷  -- switch(a){case b:c;default:a;case c:}
    (word kw.Switch ∷ mark p.LeftParenthesis ∷ a ∷ mark p.RightParenthesis ∷ mark p.LeftBrace ∷ word kw.Case ∷ b ∷ mark p.Colon ∷ c ∷ semicolon ∷ word kw.Default ∷ mark p.Colon ∷ a ∷ semicolon ∷ word kw.Case ∷ c ∷ mark p.Colon ∷ mark p.RightBrace ∷ [], script (switch A (then_case (one_expr B) (stmts_of ((expr C) ∷ [])) (then_case no_expr (stmts_of ((expr A) ∷ [])) (then_case (one_expr C) no_stmts no_cases))) ∷ []))
    ∷  -- switch(a){case b:case c:a;b}
    (word kw.Switch ∷ mark p.LeftParenthesis ∷ a ∷ mark p.RightParenthesis ∷ mark p.LeftBrace ∷ word kw.Case ∷ b ∷ mark p.Colon ∷ word kw.Case ∷ c ∷ mark p.Colon ∷ a ∷ semicolon ∷ b ∷ mark p.RightBrace ∷ [], script (switch A (then_case (one_expr B) no_stmts (then_case (one_expr C) (stmts_of ((expr A) ∷ (expr B) ∷ [])) no_cases)) ∷ []))
    ∷  -- switch(a){default:default:}
    (word kw.Switch ∷ mark p.LeftParenthesis ∷ a ∷ mark p.RightParenthesis ∷ mark p.LeftBrace ∷ word kw.Default ∷ mark p.Colon ∷ word kw.Default ∷ mark p.Colon ∷ mark p.RightBrace ∷ [], refused)
    ∷  -- switch(a){case a?b:c:a}
    (word kw.Switch ∷ mark p.LeftParenthesis ∷ a ∷ mark p.RightParenthesis ∷ mark p.LeftBrace ∷ word kw.Case ∷ a ∷ mark p.QuestionMark ∷ b ∷ mark p.Colon ∷ c ∷ mark p.Colon ∷ a ∷ mark p.RightBrace ∷ [], script (switch A (then_case (one_expr (conditional A B C)) (stmts_of ((expr A) ∷ [])) no_cases) ∷ []))
    ∷  -- for({} in a);
    (word kw.For ∷ mark p.LeftParenthesis ∷ mark p.LeftBrace ∷ mark p.RightBrace ∷ word kw.In ∷ a ∷ mark p.RightParenthesis ∷ semicolon ∷ [], script (for_in false (literal (fields_of [])) A (stmts_of (empty ∷ [])) ∷ []))
    ∷  -- for(new a in b);
    (word kw.For ∷ mark p.LeftParenthesis ∷ word kw.New ∷ a ∷ word kw.In ∷ b ∷ mark p.RightParenthesis ∷ semicolon ∷ [], script (for_in false (construct A no_exprs) B (stmts_of (empty ∷ [])) ∷ []))
    ∷  -- for(a()in b);
    (word kw.For ∷ mark p.LeftParenthesis ∷ a ∷ mark p.LeftParenthesis ∷ mark p.RightParenthesis ∷ word kw.In ∷ b ∷ mark p.RightParenthesis ∷ semicolon ∷ [], script (for_in false (call A no_exprs) B (stmts_of (empty ∷ [])) ∷ []))
    ∷  -- switch(a){b}
    (word kw.Switch ∷ mark p.LeftParenthesis ∷ a ∷ mark p.RightParenthesis ∷ mark p.LeftBrace ∷ b ∷ mark p.RightBrace ∷ [], refused)
    ∷  -- throw a;
    (word kw.Throw ∷ a ∷ semicolon ∷ [], script (throw A ∷ []))
    ∷  -- try{a}catch(b){c}
    (word kw.Try ∷ mark p.LeftBrace ∷ a ∷ mark p.RightBrace ∷ word kw.Catch ∷ mark p.LeftParenthesis ∷ b ∷ mark p.RightParenthesis ∷ mark p.LeftBrace ∷ c ∷ mark p.RightBrace ∷ [], script (try (stmts_of ((expr A) ∷ [])) (one_catch (codes "b") (stmts_of ((expr C) ∷ []))) no_body ∷ []))
    ∷  -- try{}finally{a}
    (word kw.Try ∷ mark p.LeftBrace ∷ mark p.RightBrace ∷ word kw.Finally ∷ mark p.LeftBrace ∷ a ∷ mark p.RightBrace ∷ [], script (try no_stmts no_catch (one_body (stmts_of ((expr A) ∷ []))) ∷ []))
    ∷  -- try{}catch(a){}finally{}
    (word kw.Try ∷ mark p.LeftBrace ∷ mark p.RightBrace ∷ word kw.Catch ∷ mark p.LeftParenthesis ∷ a ∷ mark p.RightParenthesis ∷ mark p.LeftBrace ∷ mark p.RightBrace ∷ word kw.Finally ∷ mark p.LeftBrace ∷ mark p.RightBrace ∷ [], script (try no_stmts (one_catch (codes "a") no_stmts) (one_body no_stmts) ∷ []))
    ∷  -- try{}
    (word kw.Try ∷ mark p.LeftBrace ∷ mark p.RightBrace ∷ [], refused)
    ∷  -- try a;catch(b){}
    (word kw.Try ∷ a ∷ semicolon ∷ word kw.Catch ∷ mark p.LeftParenthesis ∷ b ∷ mark p.RightParenthesis ∷ mark p.LeftBrace ∷ mark p.RightBrace ∷ [], refused)
    ∷  -- a:b;
    (a ∷ mark p.Colon ∷ b ∷ semicolon ∷ [], refused)
    ∷  -- with(a)b;
    (named (codes "with") ∷ mark p.LeftParenthesis ∷ a ∷ mark p.RightParenthesis ∷ b ∷ semicolon ∷ [], refused)
    ∷  -- debugger;
    (named (codes "debugger") ∷ semicolon ∷ [], refused)
    ∷  -- {function a(){}}
    (mark p.LeftBrace ∷ word kw.Function ∷ a ∷ mark p.LeftParenthesis ∷ mark p.RightParenthesis ∷ mark p.LeftBrace ∷ mark p.RightBrace ∷ mark p.RightBrace ∷ [], refused)
    ∷  -- if(a)function b(){}
    (word kw.If ∷ mark p.LeftParenthesis ∷ a ∷ mark p.RightParenthesis ∷ word kw.Function ∷ b ∷ mark p.LeftParenthesis ∷ mark p.RightParenthesis ∷ mark p.LeftBrace ∷ mark p.RightBrace ∷ [], refused)
    ∷  -- function a(b){return b}
    (word kw.Function ∷ a ∷ mark p.LeftParenthesis ∷ b ∷ mark p.RightParenthesis ∷ mark p.LeftBrace ∷ word kw.Return ∷ b ∷ mark p.RightBrace ∷ [], script (function (code (Some (codes "a")) (codes "b" ∷ []) (stmts_of ((return (one_expr B)) ∷ []))) ∷ []))
    ∷ []
