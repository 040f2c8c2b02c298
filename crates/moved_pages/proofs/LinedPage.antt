-- That the text of a saved page's script is that of its tree's lexemes, with line ends where they may stand.
use Rattle.std.proofs.Common.{◌≡◌, ◌∙◌, ℕ, Bool, true, false, List, [], ◌∷◌, ◌++◌, refl, sym, ap, append_assoc, append-nil, lit<}
use Rattle.std.specs.Prelude.{◌&&◌, ◌||◌, codes}
use Rattle.std.proofs.lemmas.Str.{encode_ascii}
use Rattle.js_core.specs.declared.keyword.Keyword.TheVariants as keyword
use Rattle.js_core.specs.declared.token.Punct.TheVariants as punct
use Rattle.js_grammar.specs.LineEnds.{is_opening, is_border}
use Rattle.js_grammar.specs.Symbols.{Symbol, symbol_of}
use Rattle.js_print.specs.declared.lexeme.Lexeme.{Lexeme}
use Rattle.js_print.specs.declared.lexeme.Lexeme.TheVariants.{Keyword, Name, Text, Punct}
use Rattle.js_print.specs.declared.place.Place.TheVariants.{Statement}
use Rattle.js_print.specs.Lexemes.{expr_lexemes, stmt_lexemes, stmts_lexemes}
use Rattle.js_print.specs.Lined.{lined_after, lined_text, may_be_lined, opening}
use Rattle.js_print.specs.Places.{placed}
use Rattle.js_print.specs.ReadBack.{kind_of}
use Rattle.js_print.specs.Spelling.{is_word, lexeme_text, space_between, text_after, text_of}
use Rattle.page_writer.specs.Page.{line, lines, script_head}
use Rattle.page_writer.specs.Script.{clearing, saved_script, statements}
use Rattle.page_writer.specs.Statements.{rebuild_expr, statement}
use Rattle.rebuild_plan.specs.declared.statement.Rebuild.{Rebuild}

-- ---- marks

-- no line end stands before a lexeme of these
abbrev none_of : List Lexeme → List Bool
none_of [] = []
none_of (x ∷ xs) = false ∷ none_of xs

-- one stands before the foremost of them
abbrev line_of : List Lexeme → List Bool
line_of [] = []
line_of (x ∷ xs) = true ∷ none_of xs

-- one stands before each statement, and before the brace after them
abbrev marks_of : List Rebuild → List Bool
marks_of [] = true ∷ []
marks_of (r ∷ rs) = line_of (stmt_lexemes (statement r)) ++ marks_of rs

-- and before the statement that takes the frame's nodes out, which comes first
abbrev all_marks : List Rebuild → List Bool
all_marks rs = line_of (stmt_lexemes clearing) ++ marks_of rs

-- what stands before the statements
abbrev head_lexemes : List Lexeme
head_lexemes =
    Text (codes "use strict") ∷ Punct punct.Semicolon ∷ Keyword keyword.Try ∷ Punct punct.LeftBrace ∷ Keyword keyword.Throw
    ∷ Punct punct.LeftBracket ∷ Punct punct.RightBracket ∷ Punct punct.Semicolon ∷ Punct punct.RightBrace ∷ Keyword keyword.Catch
    ∷ Punct punct.LeftParenthesis ∷ Name (codes "$$") ∷ Punct punct.RightParenthesis ∷ Punct punct.LeftBrace ∷ []

abbrev mark : Lexeme
mark = Punct punct.Semicolon

abbrev behind_head : List Rebuild → List Lexeme
behind_head rs = stmts_lexemes (statements rs) ++ Punct punct.RightBrace ∷ []

abbrev cleared : List Rebuild → List Lexeme
cleared rs = stmt_lexemes clearing ++ behind_head rs

abbrev pub page_marks : List Rebuild → List Bool
page_marks rs = none_of head_lexemes ++ all_marks rs

-- the last of them, or the one before them
abbrev last_of : Lexeme → List Lexeme → Lexeme
last_of b [] = b
last_of b (x ∷ xs) = last_of x xs

last_is_mark : (xs : List Lexeme) (b : Lexeme) → last_of b (xs ++ mark ∷ []) ≡ mark
last_is_mark [] b = refl
last_is_mark (x ∷ xs) b = last_is_mark xs x

-- the lexemes of an expression as a statement, without the semicolon
abbrev body_of : Rebuild → List Lexeme
body_of r = placed Statement (rebuild_expr r) (expr_lexemes (rebuild_expr r))

-- the same of the statement that takes the frame's nodes out
abbrev clearing_body : List Lexeme
clearing_body =
    Name (codes "document") ∷ Punct punct.Dot ∷ Name (codes "removeChild") ∷ Punct punct.LeftParenthesis ∷ Name (codes "document") ∷ Punct punct.Dot
    ∷ Name (codes "documentElement") ∷ Punct punct.RightParenthesis ∷ []

script_lexemes : (rs : List Rebuild) → stmts_lexemes (saved_script rs) ≡ head_lexemes ++ cleared rs
script_lexemes rs = ap (λ (t : List Lexeme). head_lexemes ++ t) (append-nil ((cleared rs ++ [])) ∙ append-nil (cleared rs))

more_lexemes : (r : Rebuild) (rs : List Rebuild) → behind_head (r ∷ rs) ≡ (body_of r ++ mark ∷ []) ++ behind_head rs
more_lexemes r rs = append_assoc (body_of r ++ mark ∷ []) (stmts_lexemes (statements rs)) (Punct punct.RightBrace ∷ [])

-- ---- texts

plain_text : (xs ys : List Lexeme) (b : Lexeme) (ls : List Bool) →
    lined_after (is_word b) (none_of xs ++ ls) (xs ++ ys) ≡ text_after (is_word b) xs ++ lined_after (is_word (last_of b xs)) ls ys
plain_text [] ys b ls = refl
plain_text (x ∷ xs) ys b ls =
    let space = space_between (is_word b) (is_word x) in
    let after = text_after (is_word x) xs in
    let rest = lined_after (is_word (last_of x xs)) ls ys in
    ap (λ (t : List ℕ). space ++ (lexeme_text x ++ t)) (plain_text xs ys x ls)
    ∙ ap (λ (t : List ℕ). space ++ t) (sym (append_assoc (lexeme_text x) after rest))
    ∙ sym (append_assoc space (lexeme_text x ++ after) rest)

-- lexemes that end with a semicolon, after a line end
line_text : (xs ys : List Lexeme) (w : Bool) (ls : List Bool) →
    lined_after w (line_of (xs ++ mark ∷ []) ++ ls) ((xs ++ mark ∷ []) ++ ys) ≡ 10 ∷ (text_of (xs ++ mark ∷ []) ++ lined_after false ls ys)
line_text [] ys w ls = refl
line_text (x ∷ xs) ys w ls =
    let after = text_after (is_word x) (xs ++ mark ∷ []) in
    let rest = lined_after false ls ys in
    ap (λ (t : List ℕ). 10 ∷ (lexeme_text x ++ t))
    (plain_text (xs ++ mark ∷ []) ys x ls ∙ ap (λ (b : Lexeme). after ++ lined_after (is_word b) ls ys) (last_is_mark xs x))
    ∙ ap (λ (t : List ℕ). 10 ∷ t) (sym (append_assoc (lexeme_text x) after rest))

lines_text : (rs : List Rebuild) (w : Bool) → lined_after w (marks_of rs) (behind_head rs) ≡ 10 ∷ (lines rs ++ codes "}")
lines_text [] w = refl
lines_text (r ∷ rs) w =
    let text = text_of (body_of r ++ mark ∷ []) in
    ap (lined_after w (marks_of (r ∷ rs))) (more_lexemes r rs)
    ∙ line_text (body_of r) (behind_head rs) w (marks_of rs)
    ∙ ap (λ (t : List ℕ). 10 ∷ (text ++ t)) (lines_text rs false)
    ∙ ap (λ (t : List ℕ). 10 ∷ t) (sym (append_assoc text (10 ∷ []) (lines rs ++ codes "}")) ∙ sym (append_assoc (line r) (lines rs) (codes "}")))

clearing_text : text_of (clearing_body ++ mark ∷ []) ++ 10 ∷ [] ≡ codes "document.removeChild(document.documentElement);\n"
unfolding lib.Utf8.encode
clearing_text = refl

-- with the statement before them
cleared_text : (rs : List Rebuild) (w : Bool) → lined_after w (all_marks rs) (cleared rs) ≡ 10 ∷ (codes "document.removeChild(document.documentElement);\n" ++ (lines rs ++ codes "}"))
cleared_text rs w =
    line_text clearing_body (behind_head rs) w (marks_of rs)
    ∙ ap (λ (t : List ℕ). 10 ∷ (text_of (clearing_body ++ mark ∷ []) ++ t)) (lines_text rs false)
    ∙ ap (λ (t : List ℕ). 10 ∷ t) (sym (append_assoc (text_of (clearing_body ++ mark ∷ [])) (10 ∷ []) (lines rs ++ codes "}")) ∙ ap (λ (t : List ℕ). t ++ (lines rs ++ codes "}")) clearing_text)

head_text : text_of head_lexemes ≡ codes "\"use strict\";try{throw[];}catch($$){"
head_text = ap (λ (d : List ℕ). codes "\"use strict\";try{throw[];}catch(" ++ ((d ++ (d ++ [])) ++ codes "){")) (encode_ascii 36 (lit< tt))

-- the text of the script, in whose lines the statements stand
pub script_is_lined : (rs : List Rebuild) → lined_text (page_marks rs) (stmts_lexemes (saved_script rs)) ≡ script_head ++ (lines rs ++ codes "}")
script_is_lined rs =
    ap (lined_text (page_marks rs)) (script_lexemes rs)
    ∙ plain_text head_lexemes (cleared rs) opening (all_marks rs)
    ∙ ap (λ (t : List ℕ). t ++ lined_after false (all_marks rs) (cleared rs)) head_text
    ∙ ap (λ (t : List ℕ). codes "\"use strict\";try{throw[];}catch($$){" ++ t) (cleared_text rs false)

-- ---- where line ends may stand

none_may : (xs ys : List Lexeme) (b : Lexeme) (ls : List Bool) → may_be_lined b (none_of xs ++ ls) (xs ++ ys) ≡ may_be_lined (last_of b xs) ls ys
none_may [] ys b ls = refl
none_may (x ∷ xs) ys b ls = none_may xs ys x ls

may_behind : (a b : Symbol) (m : Bool) → is_opening a ≡ true → (is_border a b && m) ≡ m
may_behind a b m e = ap (λ (t : Bool). t && m) (by _ _ _ e)
  where
    by : (c o n : Bool) → o ≡ true → (c || (o || n)) ≡ true
    by true o n e = refl
    by false o n e = ap (λ (t : Bool). t || n) e

line_may : (xs ys : List Lexeme) (b : Lexeme) (ls : List Bool) → is_opening (symbol_of (kind_of b)) ≡ true →
    may_be_lined b (line_of (xs ++ mark ∷ []) ++ ls) ((xs ++ mark ∷ []) ++ ys) ≡ may_be_lined mark ls ys
line_may [] ys b ls e = may_behind (symbol_of (kind_of b)) (symbol_of (kind_of mark)) _ e
line_may (x ∷ xs) ys b ls e =
    may_behind (symbol_of (kind_of b)) (symbol_of (kind_of x)) _ e
    ∙ none_may (xs ++ mark ∷ []) ys x ls ∙ ap (λ (l : Lexeme). may_be_lined l ls ys) (last_is_mark xs x)

lines_may : (rs : List Rebuild) (b : Lexeme) → is_opening (symbol_of (kind_of b)) ≡ true → may_be_lined b (marks_of rs) (behind_head rs) ≡ true
lines_may [] b e = refl
lines_may (r ∷ rs) b e =
    ap (may_be_lined b (marks_of (r ∷ rs))) (more_lexemes r rs) ∙ line_may (body_of r) (behind_head rs) b (marks_of rs) e ∙ lines_may rs mark refl

pub script_may_be_lined : (rs : List Rebuild) → may_be_lined opening (page_marks rs) (stmts_lexemes (saved_script rs)) ≡ true
script_may_be_lined rs =
    ap (may_be_lined opening (page_marks rs)) (script_lexemes rs)
    ∙ none_may head_lexemes (cleared rs) opening (all_marks rs) ∙ line_may clearing_body (behind_head rs) (Punct punct.LeftBrace) (marks_of rs) refl
    ∙ lines_may rs mark refl
