-- The lexemes of a tree that keeps the rules on trees can be written, and derive it; so some tokens do.
use Rattle.std.proofs.Common.{◌≡◌, ℕ, false, List, [], ◌∷◌, Option, Some, None, refl, sym, subst, arith}
use Rattle.std.specs.Prelude.{IsTrue}
use Rattle.std.specs.List.{All}
use Rattle.std.proofs.lemmas.List.Elements.{All-nil, All-cons, All-head, All-tail}
use Rattle.js_core.specs.Tree as tree
use Rattle.js_core.specs.declared.token.Token.{Token}
use Rattle.js_core.specs.declared.token.TokenKind.{TokenKind}
use Rattle.js_core.specs.declared.keyword.Keyword.TheVariants as keyword
use Rattle.js_lexer.specs.Written.{can_be_written}
use Rattle.js_grammar.specs.Scripts as parts
use Rattle.js_grammar.specs.Scripts.{Nested, Derives}
use Rattle.js_grammar.specs.Syntax.{IsCode, IsSyntax}
use Rattle.js_print.specs.declared.lexeme.Lexeme.{Lexeme}
use Rattle.js_print.specs.Lexemes.{code_lexemes, stmts_lexemes}
use Rattle.js_print.specs.ReadBack.{kind_of, AreTokensOf, none, more, LexemesDeriveTheTree}
use Rattle.js_print.specs.Written.{CanBeWritten, LexemesCanBeWritten, CodesCanBeWritten, SyntaxHasTokens}
use Rattle.js_print.proofs.Reserved.{keyword_can_be_written}
use Rattle.js_print.proofs.PrintedSymbols.{before, symbols_are, AreKept, all_kept, kept_both}
use Rattle.js_print.proofs.PrintedTrees.{script_printed, elements_body, function_printed, own_kept}

abbrev Ok : TokenKind → Type 0
Ok k = IsTrue (can_be_written k)

pub lexemes_derive_the_tree : LexemesDeriveTheTree
lexemes_derive_the_tree again script h k =
    let r = script_printed script h in
    let p = elements_body r in
    let same = symbols_are (subst (λ s. AreTokensOf (stmts_lexemes s) again) (sym r.same) k) in
    (p.room, r.found, subst (λ x. Nested p.room parts.body x [] r.found) (sym same) (p.read p.room [] (omega arith) refl), r.same)

pub lexemes_can_be_written : LexemesCanBeWritten
lexemes_can_be_written script h =
    let r = script_printed script h in
    let p = elements_body r in
    subst (λ s. CanBeWritten (stmts_lexemes s)) r.same (all_kept Ok _ p.kept)

pub codes_can_be_written : CodesCanBeWritten
codes_can_be_written (tree.code own formals body) h =
    let p = function_printed own formals body h in
    all_kept Ok (code_lexemes (tree.code own formals body)) (subst (AreKept Ok) (sym p.same) (keyword_can_be_written keyword.Function, own_kept own p.rest h.0 p.kept))

-- ---- some tokens derive it

-- the lexemes as tokens
abbrev pub plain_tokens : List Lexeme → List Token
plain_tokens [] = []
plain_tokens (x ∷ xs) = record { what = kind_of x; start = 0; end = 0; after_line = false } ∷ plain_tokens xs

pub are_tokens : (xs : List Lexeme) → AreTokensOf xs (plain_tokens xs)
are_tokens [] = none
are_tokens (x ∷ xs) = more refl refl (are_tokens xs)

all_written : (xs : List Lexeme) → CanBeWritten xs → All (λ t. IsTrue (can_be_written t.what)) (plain_tokens xs)
all_written [] h = All-nil (λ t. IsTrue (can_be_written t.what))
all_written (x ∷ xs) h =
    All-cons (λ t. IsTrue (can_be_written t.what)) _ (plain_tokens xs) (All-head (λ x. IsTrue (can_be_written (kind_of x))) x xs h) (all_written xs (All-tail (λ x. IsTrue (can_be_written (kind_of x))) x xs h))

pub syntax_has_tokens : SyntaxHasTokens
syntax_has_tokens script h =
    let xs = stmts_lexemes script in
    (plain_tokens xs, all_written xs (lexemes_can_be_written script h), lexemes_derive_the_tree (plain_tokens xs) script h (are_tokens xs))
