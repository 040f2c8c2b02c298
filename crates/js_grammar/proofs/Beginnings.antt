-- What an expression begins with.
use Rattle.std.specs.Prelude.{Bool, true, false, Option, Some, None}
use Rattle.js_core.specs.declared.keyword.Keyword.TheVariants as kw
use Rattle.js_core.specs.declared.token.Punct.TheVariants as p
use Rattle.js_grammar.specs.declared.sign.Sign.{Sign}
use Rattle.js_grammar.specs.declared.sign.Sign.TheVariants.{Mark, Word}

-- whether an expression may begin with it; what is no sign may be a name, a number or a text
abbrev pub can_begin : Option Sign → Bool
can_begin None = true
can_begin (Some (Word kw.This)) = true
can_begin (Some (Word kw.Null)) = true
can_begin (Some (Word kw.True)) = true
can_begin (Some (Word kw.False)) = true
can_begin (Some (Word kw.Function)) = true
can_begin (Some (Word kw.New)) = true
can_begin (Some (Word kw.Delete)) = true
can_begin (Some (Word kw.Void)) = true
can_begin (Some (Word kw.Typeof)) = true
can_begin (Some (Mark p.LeftParenthesis)) = true
can_begin (Some (Mark p.LeftBracket)) = true
can_begin (Some (Mark p.LeftBrace)) = true
can_begin (Some (Mark p.PlusSign)) = true
can_begin (Some (Mark p.MinusSign)) = true
can_begin (Some (Mark p.PlusPlus)) = true
can_begin (Some (Mark p.MinusMinus)) = true
can_begin (Some (Mark p.Tilde)) = true
can_begin (Some (Mark p.ExclamationMark)) = true
can_begin s = false
