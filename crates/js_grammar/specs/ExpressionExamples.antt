-- Expressions and their trees, worked by hand. A line end is shown as ⏎.
use Rattle.std.specs.Prelude.{pos, true, false, List, [], ◌∷◌, Some, None, codes}
use Rattle.js_core.specs.Tree.{num, text, bool, null, this, list, literal, func, member, index, call, construct, unary, update, binary, logical_and, logical_or, conditional, assign, comma, no_exprs, one_expr, code, function, expr, return, no_stmts, exprs_of, holes_of, fields_of, stmts_of}
use Rattle.js_core.specs.declared.token.Punct.TheVariants as p
use Rattle.js_core.specs.declared.operators.UnaryOp.TheVariants as un
use Rattle.js_core.specs.declared.operators.BinaryOp.TheVariants as op
use Rattle.js_core.specs.declared.keyword.Keyword.TheVariants as kw
use Rattle.js_grammar.specs.Examples.{mark, word, named, numeral, string, semicolon, a, b, c, A, B, C, Example, script, refused}

-- operators group as the standard has them
abbrev pub operators : List Example
operators =
    -- a-b-c;
    (a ∷ mark p.MinusSign ∷ b ∷ mark p.MinusSign ∷ c ∷ semicolon ∷ [], script (expr (binary op.Sub (binary op.Sub A B) C) ∷ []))
    ∷  -- a+b*c;
    (a ∷ mark p.PlusSign ∷ b ∷ mark p.Star ∷ c ∷ semicolon ∷ [], script (expr (binary op.Add A (binary op.Mul B C)) ∷ []))
    ∷  -- a*b+c;
    (a ∷ mark p.Star ∷ b ∷ mark p.PlusSign ∷ c ∷ semicolon ∷ [], script (expr (binary op.Add (binary op.Mul A B) C) ∷ []))
    ∷  -- a/b%c;
    (a ∷ mark p.Slash ∷ b ∷ mark p.Percent ∷ c ∷ semicolon ∷ [], script (expr (binary op.Rem (binary op.Div A B) C) ∷ []))
    ∷  -- a||b&&c;
    (a ∷ mark p.DoubleVerticalBar ∷ b ∷ mark p.DoubleAmpersand ∷ c ∷ semicolon ∷ [], script (expr (logical_or A (logical_and B C)) ∷ []))
    ∷  -- a&&b||c;
    (a ∷ mark p.DoubleAmpersand ∷ b ∷ mark p.DoubleVerticalBar ∷ c ∷ semicolon ∷ [], script (expr (logical_or (logical_and A B) C) ∷ []))
    ∷  -- a||b||c;
    (a ∷ mark p.DoubleVerticalBar ∷ b ∷ mark p.DoubleVerticalBar ∷ c ∷ semicolon ∷ [], script (expr (logical_or (logical_or A B) C) ∷ []))
    ∷  -- a&&b|c;
    (a ∷ mark p.DoubleAmpersand ∷ b ∷ mark p.VerticalBar ∷ c ∷ semicolon ∷ [], script (expr (logical_and A (binary op.BitOr B C)) ∷ []))
    ∷  -- a|b^c&a;
    (a ∷ mark p.VerticalBar ∷ b ∷ mark p.Caret ∷ c ∷ mark p.Ampersand ∷ a ∷ semicolon ∷ [], script (expr (binary op.BitOr A (binary op.BitXor B (binary op.BitAnd C A))) ∷ []))
    ∷  -- a&b==c;
    (a ∷ mark p.Ampersand ∷ b ∷ mark p.Equals ∷ c ∷ semicolon ∷ [], script (expr (binary op.BitAnd A (binary op.Equal B C)) ∷ []))
    ∷  -- a!=b===c!==a;
    (a ∷ mark p.NotEquals ∷ b ∷ mark p.StrictEquals ∷ c ∷ mark p.StrictNotEquals ∷ a ∷ semicolon ∷ [], script (expr (binary op.NotSame (binary op.Same (binary op.Unequal A B) C) A) ∷ []))
    ∷  -- a==b<c;
    (a ∷ mark p.Equals ∷ b ∷ mark p.LessThan ∷ c ∷ semicolon ∷ [], script (expr (binary op.Equal A (binary op.Less B C)) ∷ []))
    ∷  -- a<b>c<=a>=b;
    (a ∷ mark p.LessThan ∷ b ∷ mark p.GreaterThan ∷ c ∷ mark p.LessThanOrEqual ∷ a ∷ mark p.GreaterThanOrEqual ∷ b ∷ semicolon ∷ [], script (expr (binary op.GreaterEq (binary op.LessEq (binary op.Greater (binary op.Less A B) C) A) B) ∷ []))
    ∷  -- a in b instanceof c;
    (a ∷ word kw.In ∷ b ∷ word kw.InstanceOf ∷ c ∷ semicolon ∷ [], script (expr (binary op.InstanceOf (binary op.Within A B) C) ∷ []))
    ∷  -- a<b<<c;
    (a ∷ mark p.LessThan ∷ b ∷ mark p.ShiftLeft ∷ c ∷ semicolon ∷ [], script (expr (binary op.Less A (binary op.Shl B C)) ∷ []))
    ∷  -- a<<b>>c>>>a+b;
    (a ∷ mark p.ShiftLeft ∷ b ∷ mark p.ShiftRight ∷ c ∷ mark p.ShiftRightUnsigned ∷ a ∷ mark p.PlusSign ∷ b ∷ semicolon ∷ [], script (expr (binary op.Ushr (binary op.Shr (binary op.Shl A B) C) (binary op.Add A B)) ∷ []))
    ∷  -- (a-(b-c));
    (mark p.LeftParenthesis ∷ a ∷ mark p.MinusSign ∷ mark p.LeftParenthesis ∷ b ∷ mark p.MinusSign ∷ c ∷ mark p.RightParenthesis ∷ mark p.RightParenthesis ∷ semicolon ∷ [], script (expr (binary op.Sub A (binary op.Sub B C)) ∷ []))
    ∷  -- a?b:c?a:b;
    (a ∷ mark p.QuestionMark ∷ b ∷ mark p.Colon ∷ c ∷ mark p.QuestionMark ∷ a ∷ mark p.Colon ∷ b ∷ semicolon ∷ [], script (expr (conditional A B (conditional C A B)) ∷ []))
    ∷  -- a?b,c:a;
    (a ∷ mark p.QuestionMark ∷ b ∷ mark p.Comma ∷ c ∷ mark p.Colon ∷ a ∷ semicolon ∷ [], refused)
    ∷  -- a=b=c;
    (a ∷ mark p.SimpleAssign ∷ b ∷ mark p.SimpleAssign ∷ c ∷ semicolon ∷ [], script (expr (assign None A (assign None B C)) ∷ []))
    ∷  -- a+=b-=c*=a/=b%=c;
    (a ∷ mark p.PlusAssign ∷ b ∷ mark p.MinusAssign ∷ c ∷ mark p.StarAssign ∷ a ∷ mark p.SlashAssign ∷ b ∷ mark p.PercentAssign ∷ c ∷ semicolon ∷ [], script (expr (assign (Some op.Add) A (assign (Some op.Sub) B (assign (Some op.Mul) C (assign (Some op.Div) A (assign (Some op.Rem) B C))))) ∷ []))
    ∷  -- a<<=b>>=c>>>=a&=b|=c^=a;
    (a ∷ mark p.ShiftLeftAssign ∷ b ∷ mark p.ShiftRightAssign ∷ c ∷ mark p.ShiftRightUnsignedAssign ∷ a ∷ mark p.AmpersandAssign ∷ b ∷ mark p.VerticalBarAssign ∷ c ∷ mark p.CaretAssign ∷ a ∷ semicolon ∷ [], script (expr (assign (Some op.Shl) A (assign (Some op.Shr) B (assign (Some op.Ushr) C (assign (Some op.BitAnd) A (assign (Some op.BitOr) B (assign (Some op.BitXor) C A)))))) ∷ []))
    ∷  -- a?b:c=a;
    (a ∷ mark p.QuestionMark ∷ b ∷ mark p.Colon ∷ c ∷ mark p.SimpleAssign ∷ a ∷ semicolon ∷ [], script (expr (conditional A B (assign None C A)) ∷ []))
    ∷  -- a()=b;
    (a ∷ mark p.LeftParenthesis ∷ mark p.RightParenthesis ∷ mark p.SimpleAssign ∷ b ∷ semicolon ∷ [], script (expr (assign None (call A no_exprs) B) ∷ []))
    ∷  -- (a+b)=c;
    (mark p.LeftParenthesis ∷ a ∷ mark p.PlusSign ∷ b ∷ mark p.RightParenthesis ∷ mark p.SimpleAssign ∷ c ∷ semicolon ∷ [], script (expr (assign None (binary op.Add A B) C) ∷ []))
    ∷  -- a+b=c;
    (a ∷ mark p.PlusSign ∷ b ∷ mark p.SimpleAssign ∷ c ∷ semicolon ∷ [], refused)
    ∷  -- a++=b;
    (a ∷ mark p.PlusPlus ∷ mark p.SimpleAssign ∷ b ∷ semicolon ∷ [], refused)
    ∷  -- -a=b;
    (mark p.MinusSign ∷ a ∷ mark p.SimpleAssign ∷ b ∷ semicolon ∷ [], refused)
    ∷  -- a,b,c;
    (a ∷ mark p.Comma ∷ b ∷ mark p.Comma ∷ c ∷ semicolon ∷ [], script (expr (comma (exprs_of (A ∷ B ∷ C ∷ []))) ∷ []))
    ∷  -- (a,b),c;
    (mark p.LeftParenthesis ∷ a ∷ mark p.Comma ∷ b ∷ mark p.RightParenthesis ∷ mark p.Comma ∷ c ∷ semicolon ∷ [], script (expr (comma (exprs_of ((comma (exprs_of (A ∷ B ∷ []))) ∷ C ∷ []))) ∷ []))
    ∷  -- -a*b;
    (mark p.MinusSign ∷ a ∷ mark p.Star ∷ b ∷ semicolon ∷ [], script (expr (binary op.Mul (unary un.Minus A) B) ∷ []))
    ∷  -- !a in b;
    (mark p.ExclamationMark ∷ a ∷ word kw.In ∷ b ∷ semicolon ∷ [], script (expr (binary op.Within (unary un.Not A) B) ∷ []))
    ∷  -- typeof a.b;
    (word kw.Typeof ∷ a ∷ mark p.Dot ∷ b ∷ semicolon ∷ [], script (expr (unary un.Typeof (member A (codes "b"))) ∷ []))
    ∷  -- delete a[b];
    (word kw.Delete ∷ a ∷ mark p.LeftBracket ∷ b ∷ mark p.RightBracket ∷ semicolon ∷ [], script (expr (unary un.Delete (index A B)) ∷ []))
    ∷  -- void+~a;
    (word kw.Void ∷ mark p.PlusSign ∷ mark p.Tilde ∷ a ∷ semicolon ∷ [], script (expr (unary un.Void (unary un.Plus (unary un.BitNot A))) ∷ []))
    ∷  -- ++a;
    (mark p.PlusPlus ∷ a ∷ semicolon ∷ [], script (expr (update true true A) ∷ []))
    ∷  -- a--;
    (a ∷ mark p.MinusMinus ∷ semicolon ∷ [], script (expr (update false false A) ∷ []))
    ∷  -- -a++;
    (mark p.MinusSign ∷ a ∷ mark p.PlusPlus ∷ semicolon ∷ [], script (expr (unary un.Minus (update true false A)) ∷ []))
    ∷  -- a++ + ++b;
    (a ∷ mark p.PlusPlus ∷ mark p.PlusSign ∷ mark p.PlusPlus ∷ b ∷ semicolon ∷ [], script (expr (binary op.Add (update true false A) (update true true B)) ∷ []))
    ∷  -- a++ ++;
    (a ∷ mark p.PlusPlus ∷ mark p.PlusPlus ∷ semicolon ∷ [], refused)
    ∷  -- --a++;
    (mark p.MinusMinus ∷ a ∷ mark p.PlusPlus ∷ semicolon ∷ [], script (expr (update false true (update true false A)) ∷ []))
    ∷ []

-- what operators stand between
abbrev pub operands : List Example
operands =
    -- this;
    (word kw.This ∷ semicolon ∷ [], script (expr this ∷ []))
    ∷  -- null;
    (word kw.Null ∷ semicolon ∷ [], script (expr null ∷ []))
    ∷  -- true;false;
    (word kw.True ∷ semicolon ∷ word kw.False ∷ semicolon ∷ [], script (expr (bool true) ∷ expr (bool false) ∷ []))
    ∷  -- 1;
    (numeral 1 ∷ semicolon ∷ [], script (expr (num (Some (pos 1))) ∷ []))
    ∷  -- "a";
    (string (codes "a") ∷ semicolon ∷ [], script (expr (text (codes "a")) ∷ []))
    ∷  -- let;
    (named (codes "let") ∷ semicolon ∷ [], refused)
    ∷  -- if;
    (word kw.If ∷ semicolon ∷ [], refused)
    ∷  -- a.if.let.b;
    (a ∷ mark p.Dot ∷ word kw.If ∷ mark p.Dot ∷ named (codes "let") ∷ mark p.Dot ∷ b ∷ semicolon ∷ [], script (expr (member (member (member A (codes "if")) (codes "let")) (codes "b")) ∷ []))
    ∷  -- a["b"];
    (a ∷ mark p.LeftBracket ∷ string (codes "b") ∷ mark p.RightBracket ∷ semicolon ∷ [], script (expr (index A (text (codes "b"))) ∷ []))
    ∷  -- a.1;
    (a ∷ mark p.Dot ∷ numeral 1 ∷ semicolon ∷ [], refused)
    ∷  -- a(b)(c);
    (a ∷ mark p.LeftParenthesis ∷ b ∷ mark p.RightParenthesis ∷ mark p.LeftParenthesis ∷ c ∷ mark p.RightParenthesis ∷ semicolon ∷ [], script (expr (call (call A (exprs_of (B ∷ []))) (exprs_of (C ∷ []))) ∷ []))
    ∷  -- a(b,c).b();
    (a ∷ mark p.LeftParenthesis ∷ b ∷ mark p.Comma ∷ c ∷ mark p.RightParenthesis ∷ mark p.Dot ∷ b ∷ mark p.LeftParenthesis ∷ mark p.RightParenthesis ∷ semicolon ∷ [], script (expr (call (member (call A (exprs_of (B ∷ C ∷ []))) (codes "b")) no_exprs) ∷ []))
    ∷  -- a(b,);
    (a ∷ mark p.LeftParenthesis ∷ b ∷ mark p.Comma ∷ mark p.RightParenthesis ∷ semicolon ∷ [], refused)
    ∷  -- a((b,c));
    (a ∷ mark p.LeftParenthesis ∷ mark p.LeftParenthesis ∷ b ∷ mark p.Comma ∷ c ∷ mark p.RightParenthesis ∷ mark p.RightParenthesis ∷ semicolon ∷ [], script (expr (call A (exprs_of ((comma (exprs_of (B ∷ C ∷ []))) ∷ []))) ∷ []))
    ∷  -- new a;
    (word kw.New ∷ a ∷ semicolon ∷ [], script (expr (construct A no_exprs) ∷ []))
    ∷  -- new a(b);
    (word kw.New ∷ a ∷ mark p.LeftParenthesis ∷ b ∷ mark p.RightParenthesis ∷ semicolon ∷ [], script (expr (construct A (exprs_of (B ∷ []))) ∷ []))
    ∷  -- new a.b(c).c;
    (word kw.New ∷ a ∷ mark p.Dot ∷ b ∷ mark p.LeftParenthesis ∷ c ∷ mark p.RightParenthesis ∷ mark p.Dot ∷ c ∷ semicolon ∷ [], script (expr (member (construct (member A (codes "b")) (exprs_of (C ∷ []))) (codes "c")) ∷ []))
    ∷  -- new a()();
    (word kw.New ∷ a ∷ mark p.LeftParenthesis ∷ mark p.RightParenthesis ∷ mark p.LeftParenthesis ∷ mark p.RightParenthesis ∷ semicolon ∷ [], script (expr (call (construct A no_exprs) no_exprs) ∷ []))
    ∷  -- new new a(b)(c);
    (word kw.New ∷ word kw.New ∷ a ∷ mark p.LeftParenthesis ∷ b ∷ mark p.RightParenthesis ∷ mark p.LeftParenthesis ∷ c ∷ mark p.RightParenthesis ∷ semicolon ∷ [], script (expr (construct (construct A (exprs_of (B ∷ []))) (exprs_of (C ∷ []))) ∷ []))
    ∷  -- new new a(b);
    (word kw.New ∷ word kw.New ∷ a ∷ mark p.LeftParenthesis ∷ b ∷ mark p.RightParenthesis ∷ semicolon ∷ [], script (expr (construct (construct A (exprs_of (B ∷ []))) no_exprs) ∷ []))
    ∷  -- new(a())();
    (word kw.New ∷ mark p.LeftParenthesis ∷ a ∷ mark p.LeftParenthesis ∷ mark p.RightParenthesis ∷ mark p.RightParenthesis ∷ mark p.LeftParenthesis ∷ mark p.RightParenthesis ∷ semicolon ∷ [], script (expr (construct (call A no_exprs) no_exprs) ∷ []))
    ∷  -- new a[b]=c;
    (word kw.New ∷ a ∷ mark p.LeftBracket ∷ b ∷ mark p.RightBracket ∷ mark p.SimpleAssign ∷ c ∷ semicolon ∷ [], script (expr (assign None (construct (index A B) no_exprs) C) ∷ []))
    ∷  -- new a.b;
    (word kw.New ∷ a ∷ mark p.Dot ∷ b ∷ semicolon ∷ [], script (expr (construct (member A (codes "b")) no_exprs) ∷ []))
    ∷  -- [];
    (mark p.LeftBracket ∷ mark p.RightBracket ∷ semicolon ∷ [], script (expr (list (holes_of [])) ∷ []))
    ∷  -- [a];
    (mark p.LeftBracket ∷ a ∷ mark p.RightBracket ∷ semicolon ∷ [], script (expr (list (holes_of (Some A ∷ []))) ∷ []))
    ∷  -- [,];
    (mark p.LeftBracket ∷ mark p.Comma ∷ mark p.RightBracket ∷ semicolon ∷ [], script (expr (list (holes_of (None ∷ []))) ∷ []))
    ∷  -- [a,];
    (mark p.LeftBracket ∷ a ∷ mark p.Comma ∷ mark p.RightBracket ∷ semicolon ∷ [], script (expr (list (holes_of (Some A ∷ []))) ∷ []))
    ∷  -- [a,,b];
    (mark p.LeftBracket ∷ a ∷ mark p.Comma ∷ mark p.Comma ∷ b ∷ mark p.RightBracket ∷ semicolon ∷ [], script (expr (list (holes_of (Some A ∷ None ∷ Some B ∷ []))) ∷ []))
    ∷  -- [,,a];
    (mark p.LeftBracket ∷ mark p.Comma ∷ mark p.Comma ∷ a ∷ mark p.RightBracket ∷ semicolon ∷ [], script (expr (list (holes_of (None ∷ None ∷ Some A ∷ []))) ∷ []))
    ∷  -- [a,,];
    (mark p.LeftBracket ∷ a ∷ mark p.Comma ∷ mark p.Comma ∷ mark p.RightBracket ∷ semicolon ∷ [], script (expr (list (holes_of (Some A ∷ None ∷ []))) ∷ []))
    ∷  -- [a b];
    (mark p.LeftBracket ∷ a ∷ b ∷ mark p.RightBracket ∷ semicolon ∷ [], refused)
    ∷  -- ({});
    (mark p.LeftParenthesis ∷ mark p.LeftBrace ∷ mark p.RightBrace ∷ mark p.RightParenthesis ∷ semicolon ∷ [], script (expr (literal (fields_of [])) ∷ []))
    ∷  -- ({a:b});
    (mark p.LeftParenthesis ∷ mark p.LeftBrace ∷ a ∷ mark p.Colon ∷ b ∷ mark p.RightBrace ∷ mark p.RightParenthesis ∷ semicolon ∷ [], script (expr (literal (fields_of ((codes "a", B) ∷ []))) ∷ []))
    ∷  -- ({if:a,"b":b,1:c,});
    (mark p.LeftParenthesis ∷ mark p.LeftBrace ∷ word kw.If ∷ mark p.Colon ∷ a ∷ mark p.Comma ∷ string (codes "b") ∷ mark p.Colon ∷ b ∷ mark p.Comma ∷ numeral 1 ∷ mark p.Colon ∷ c ∷ mark p.Comma ∷ mark p.RightBrace ∷ mark p.RightParenthesis ∷ semicolon ∷ [], script (expr (literal (fields_of ((codes "if", A) ∷ (codes "b", B) ∷ (codes "1", C) ∷ []))) ∷ []))
    ∷  -- ({,});
    (mark p.LeftParenthesis ∷ mark p.LeftBrace ∷ mark p.Comma ∷ mark p.RightBrace ∷ mark p.RightParenthesis ∷ semicolon ∷ [], refused)
    ∷  -- ({a});
    (mark p.LeftParenthesis ∷ mark p.LeftBrace ∷ a ∷ mark p.RightBrace ∷ mark p.RightParenthesis ∷ semicolon ∷ [], refused)
    ∷  -- ({get a(){}});
    (mark p.LeftParenthesis ∷ mark p.LeftBrace ∷ named (codes "get") ∷ a ∷ mark p.LeftParenthesis ∷ mark p.RightParenthesis ∷ mark p.LeftBrace ∷ mark p.RightBrace ∷ mark p.RightBrace ∷ mark p.RightParenthesis ∷ semicolon ∷ [], refused)
    ∷  -- (function(){});
    (mark p.LeftParenthesis ∷ word kw.Function ∷ mark p.LeftParenthesis ∷ mark p.RightParenthesis ∷ mark p.LeftBrace ∷ mark p.RightBrace ∷ mark p.RightParenthesis ∷ semicolon ∷ [], script (expr (func (code None ([]) no_stmts)) ∷ []))
    ∷  -- (function a(b,c){return b});
    (mark p.LeftParenthesis ∷ word kw.Function ∷ a ∷ mark p.LeftParenthesis ∷ b ∷ mark p.Comma ∷ c ∷ mark p.RightParenthesis ∷ mark p.LeftBrace ∷ word kw.Return ∷ b ∷ mark p.RightBrace ∷ mark p.RightParenthesis ∷ semicolon ∷ [], script (expr (func (code (Some (codes "a")) (codes "b" ∷ codes "c" ∷ []) (stmts_of ((return (one_expr B)) ∷ [])))) ∷ []))
    ∷  -- a=function(){a;function b(){}b};
    (a ∷ mark p.SimpleAssign ∷ word kw.Function ∷ mark p.LeftParenthesis ∷ mark p.RightParenthesis ∷ mark p.LeftBrace ∷ a ∷ semicolon ∷ word kw.Function ∷ b ∷ mark p.LeftParenthesis ∷ mark p.RightParenthesis ∷ mark p.LeftBrace ∷ mark p.RightBrace ∷ b ∷ mark p.RightBrace ∷ semicolon ∷ [], script (expr (assign None A (func (code None ([]) (stmts_of ((expr A) ∷ (function (code (Some (codes "b")) ([]) no_stmts)) ∷ (expr B) ∷ []))))) ∷ []))
    ∷  -- function a(){}(b);
    (word kw.Function ∷ a ∷ mark p.LeftParenthesis ∷ mark p.RightParenthesis ∷ mark p.LeftBrace ∷ mark p.RightBrace ∷ mark p.LeftParenthesis ∷ b ∷ mark p.RightParenthesis ∷ semicolon ∷ [], script (function (code (Some (codes "a")) ([]) no_stmts) ∷ expr B ∷ []))
    ∷  -- (function(){})();
    (mark p.LeftParenthesis ∷ word kw.Function ∷ mark p.LeftParenthesis ∷ mark p.RightParenthesis ∷ mark p.LeftBrace ∷ mark p.RightBrace ∷ mark p.RightParenthesis ∷ mark p.LeftParenthesis ∷ mark p.RightParenthesis ∷ semicolon ∷ [], script (expr (call (func (code None ([]) no_stmts)) no_exprs) ∷ []))
    ∷  -- ({class:a});
    (mark p.LeftParenthesis ∷ mark p.LeftBrace ∷ named (codes "class") ∷ mark p.Colon ∷ a ∷ mark p.RightBrace ∷ mark p.RightParenthesis ∷ semicolon ∷ [], script (expr (literal (fields_of ((codes "class", A) ∷ []))) ∷ []))
    ∷  -- function(){};
    (word kw.Function ∷ mark p.LeftParenthesis ∷ mark p.RightParenthesis ∷ mark p.LeftBrace ∷ mark p.RightBrace ∷ semicolon ∷ [], refused)
    ∷  -- function a(b,){}
    (word kw.Function ∷ a ∷ mark p.LeftParenthesis ∷ b ∷ mark p.Comma ∷ mark p.RightParenthesis ∷ mark p.LeftBrace ∷ mark p.RightBrace ∷ [], refused)
    ∷ []
