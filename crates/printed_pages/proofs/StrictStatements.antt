-- A directive is read as a statement: the text alone, and what ends it.
use Rattle.std.proofs.Common.{◌≡◌, ◌∙◌, refl, sym, subst, ℕ, zero, suc, Bool, true, false, List, [], ◌∷◌, length, Option, Some, None}
use Rattle.std.specs.Prelude.{not, ◌||◌, ◌&&◌, if◌then◌else◌}
use Rattle.std.proofs.Math.Bool.{or-true}
use Rattle.std.proofs.lemmas.Bool.{or_parts}
use Rattle.js_core.specs.Tree as tree
use Rattle.js_core.specs.declared.operators.BinaryOp.{BinaryOp}
use Rattle.js_core.specs.declared.token.Punct.TheVariants as p
use Rattle.js_core.specs.declared.token.Token.{Token}
use Rattle.js_core.specs.declared.token.TokenKind.{TokenKind}
use Rattle.js_core.specs.declared.token.TokenKind.TheVariants as kind
use Rattle.js_core.specs.declared.keyword.Keyword.{Keyword}
use Rattle.js_core.specs.Spelling.{keyword_of, is_unused_word}
use Rattle.js_grammar.specs.declared.sign.Sign.{Sign}
use Rattle.js_grammar.specs.declared.sign.Sign.TheVariants.{Mark, Word}
use Rattle.js_grammar.proofs.Callers.{operators_and_suffixes_go_on, token_goes_on}
use Rattle.js_grammar.specs.Endings.{goes_on, is_right_brace}
use Rattle.js_grammar.specs.ExpressionReader as reader
use Rattle.js_grammar.specs.ExpressionReader.{in_line, step_at}
use Rattle.js_grammar.specs.declared.operators.Level.{Level}
use Rattle.js_grammar.specs.Operators.{climbs, assignment_of, is_assignment_by, is_later, is_question, is_suffix, step_of}
use Rattle.js_grammar.specs.Parser.{Parser, Outcome, and_then, eat, repeat, sees, sees_comma, separated, taken, within_limit}
use Rattle.js_grammar.specs.Scripts.{height_limit}
use Rattle.js_grammar.specs.StatementReader as statements
use Rattle.js_grammar.specs.StatementReader.{ended, read_expression}
use Rattle.js_grammar.specs.Symbols.{Lexeme, lexemes, symbol_of, text, word_symbol, is_sign, sign_at, sign_of}
use Rattle.js_lexer.specs.Directives as directives
use Rattle.js_lexer.specs.Directives.{behind_statement, is_semicolon}

-- nothing comes that goes on with a text, and a statement ends there
pub record Ends (r z : List Lexeme) : Type 0 where
  pub no_suffix : is_suffix true (sign_at r) ≡ false
  pub no_step : step_at r ≡ None
  pub no_operator : climbs true 1 (sign_at r) ≡ false
  pub no_assignment : assignment_of (sign_at r) ≡ None
  pub no_question : is_sign (Mark p.QuestionMark) (sign_at r) ≡ false
  pub no_comma : is_sign (Mark p.Comma) (sign_at r) ≡ false
  pub ended : ended read_expression r ≡ Some (tt, z)

-- ---- where the statement ends

ends_at_all : Ends [] []
unfolding ended sees
ends_at_all = record { no_suffix = refl; no_step = refl; no_operator = refl; no_assignment = refl; no_question = refl; no_comma = refl; ended = refl }

ends_by_semicolon : (l : Bool) (z : List Lexeme) → Ends ((symbol_of (kind.Punct p.Semicolon), l) ∷ z) z
unfolding ended sees
ends_by_semicolon l z = record { no_suffix = refl; no_step = refl; no_operator = refl; no_assignment = refl; no_question = refl; no_comma = refl; ended = refl }

ends_by_brace : (l : Bool) (z : List Lexeme) → Ends ((symbol_of (kind.Punct p.RightBrace), l) ∷ z) ((symbol_of (kind.Punct p.RightBrace), l) ∷ z)
unfolding ended sees
ends_by_brace l z = record { no_suffix = refl; no_step = refl; no_operator = refl; no_assignment = refl; no_question = refl; no_comma = refl; ended = refl }

no_assignment_by : (o : Option (Option BinaryOp)) → is_assignment_by o ≡ false → o ≡ None
no_assignment_by None e = refl
no_assignment_by (Some f) e = absurd (cc)

no_question_by : (s : Option Sign) → is_question s ≡ false → is_sign (Mark p.QuestionMark) s ≡ false
no_question_by None e = refl
no_question_by (Some (Word w)) e = refl
no_question_by (Some (Mark p.QuestionMark)) e = absurd (cc)
no_question_by (Some (Mark _)) e = refl

no_step_by : (o : Option Bool) → in_line o true ≡ None
no_step_by None = refl
no_step_by (Some up) = refl

word_no_semicolon : (w : List ℕ) (o : Option Keyword) (b : Bool) → is_unused_word w ≡ b → is_sign (Mark p.Semicolon) (sign_of (word_symbol w o)) ≡ false
word_no_semicolon w (Some k) b e = refl
word_no_semicolon w None true e = rw e refl
word_no_semicolon w None false e = rw e refl

no_semicolon : (k : TokenKind) → is_semicolon k ≡ false → is_sign (Mark p.Semicolon) (sign_of (symbol_of k)) ≡ false
no_semicolon (kind.Word w) e = word_no_semicolon w (keyword_of w) (is_unused_word w) refl
no_semicolon (kind.Number n) e = refl
no_semicolon (kind.Text t) e = refl
no_semicolon (kind.Punct p.Semicolon) e = absurd (cc)
no_semicolon (kind.Punct _) e = refl

ends_by_line : (k : TokenKind) (z : List Lexeme) → is_semicolon k ≡ false → directives.continues k ≡ false
    → Ends ((symbol_of k, true) ∷ z) ((symbol_of k, true) ∷ z)
unfolding ended sees
ends_by_line k z other off =
    let s = sign_of (symbol_of k) in
    let stops : goes_on s ≡ false = sym (token_goes_on k) ∙ off in
    let none = sym (operators_and_suffixes_go_on s) ∙ stops in
    let parts = or_parts (is_suffix true s) (climbs true 1 s || (is_later s || is_sign (Mark p.Comma) s)) none in
    let operators = or_parts (climbs true 1 s) (is_later s || is_sign (Mark p.Comma) s) parts.1 in
    let signs = or_parts (is_later s) (is_sign (Mark p.Comma) s) operators.1 in
    let assigning = or_parts (is_question s) (is_assignment_by (assignment_of s)) signs.0 in
    let apart = no_semicolon k other in
    record {
      no_suffix = parts.0;
      no_step = no_step_by (step_of s);
      no_operator = operators.0;
      no_assignment = no_assignment_by (assignment_of s) assigning.1;
      no_question = no_question_by s assigning.0;
      no_comma = signs.1;
      ended = rw (apart, stops, or-true (is_right_brace s)) refl;
    }

semicolon_is : (k : TokenKind) → is_semicolon k ≡ true → k ≡ kind.Punct p.Semicolon
semicolon_is (kind.Word w) e = absurd (cc)
semicolon_is (kind.Number n) e = absurd (cc)
semicolon_is (kind.Text t) e = absurd (cc)
semicolon_is (kind.Punct p.Semicolon) e = refl
semicolon_is (kind.Punct _) e = absurd (cc)

brace_is : (k : TokenKind) → directives.is_right_brace k ≡ true → k ≡ kind.Punct p.RightBrace
brace_is (kind.Word w) e = absurd (cc)
brace_is (kind.Number n) e = absurd (cc)
brace_is (kind.Text t) e = absurd (cc)
brace_is (kind.Punct p.RightBrace) e = refl
brace_is (kind.Punct _) e = absurd (cc)

abbrev behind : Bool → Bool → Bool → Bool → Token → List Token → Option (List Token)
behind semicolon brace line goes_on t ts = if semicolon then Some ts else (if brace || (line && not goes_on) then Some (t ∷ ts) else None)

same : {A : Type 0} (a b : A) → ◌≡◌ {A = Option A} (Some a) (Some b) → a ≡ b
same a b e = cc

by_token : (t : Token) (ts rest : List Token) (a b l c : Bool) → is_semicolon t.what ≡ a → directives.is_right_brace t.what ≡ b
    → t.after_line ≡ l → directives.continues t.what ≡ c → behind a b l c t ts ≡ Some rest → Ends (lexemes (t ∷ ts)) (lexemes rest)
by_token t ts rest true b l c ea eb el ec e =
    subst (λ (us : List Token). Ends (lexemes (t ∷ ts)) (lexemes us)) (same ts rest e)
    (subst (λ (k : TokenKind). Ends ((symbol_of k, t.after_line) ∷ lexemes ts) (lexemes ts)) (sym (semicolon_is t.what ea)) (ends_by_semicolon t.after_line (lexemes ts)))
by_token t ts rest false true l c ea eb el ec e =
    subst (λ (us : List Token). Ends (lexemes (t ∷ ts)) (lexemes us)) (same (t ∷ ts) rest e)
    (subst (λ (k : TokenKind). Ends ((symbol_of k, t.after_line) ∷ lexemes ts) ((symbol_of k, t.after_line) ∷ lexemes ts)) (sym (brace_is t.what eb))
    (ends_by_brace t.after_line (lexemes ts)))
by_token t ts rest false false true false ea eb el ec e =
    subst (λ (us : List Token). Ends (lexemes (t ∷ ts)) (lexemes us)) (same (t ∷ ts) rest e)
    (subst (λ (b : Bool). Ends ((symbol_of t.what, b) ∷ lexemes ts) ((symbol_of t.what, b) ∷ lexemes ts)) (sym el)
    (ends_by_line t.what (lexemes ts) ea ec))
by_token t ts rest false false true true ea eb el ec e = absurd (cc)
by_token t ts rest false false false c ea eb el ec e = absurd (cc)

-- where a directive ends
pub directive_ends : (tokens rest : List Token) → behind_statement tokens ≡ Some rest → Ends (lexemes tokens) (lexemes rest)
unfolding behind_statement
directive_ends [] rest e = subst (λ (us : List Token). Ends [] (lexemes us)) (same [] rest e) ends_at_all
directive_ends (t ∷ ts) rest e =
    by_token t ts rest (is_semicolon t.what) (directives.is_right_brace t.what) t.after_line (directives.continues t.what) refl refl refl refl e

-- ---- the statement is read

pub then_reads : {A B : Type 0} {r : Outcome A} {a : A} {y : List Lexeme} {q : Outcome B} (f : A → Parser B) → r ≡ Some (a, y) → f a y ≡ q → and_then r f ≡ q
then_reads f e k = rw e k

-- a repetition that does not go on
stays : {A : Type 0} (g : List Lexeme → Bool) (step : A → Parser A) (n : ℕ) (a : A) (z : List Lexeme) → g z ≡ false → repeat g step n a z ≡ Some (a, z)
stays g step zero a z e = refl
stays g step (suc n) a z e = rw e refl

module _ (exp : Bool → Level → Parser tree.Expr) (body : Parser (List tree.Stmt)) (statement : Parser tree.Stmt) where
  abbrev limit : ℕ
  limit = height_limit

  left_read : (u : List ℕ) (l : Bool) (r : List Lexeme) → is_suffix true (sign_at r) ≡ false
      → reader.left limit exp body true ((text u, l) ∷ r) ≡ Some (tree.text u, r)
  unfolding reader.left reader.primary reader.suffixes taken
  left_read u l r e = stays (reader.has_suffix true) (reader.suffix limit exp body) (length r) (tree.text u) r e

  rest_read : (u : List ℕ) (r : List Lexeme) → climbs true 1 (sign_at r) ≡ false → is_sign (Mark p.QuestionMark) (sign_at r) ≡ false
      → reader.rest limit exp body true (tree.text u) r ≡ Some (tree.text u, r)
  unfolding reader.rest reader.operations reader.choice eat sees
  rest_read u r e f =
      then_reads _ (stays (reader.has_operator true 1) (reader.operation limit exp body true) (length r) (tree.text u) r e) (rw f refl)

  one_read : (u : List ℕ) (l : Bool) (r z : List Lexeme) → Ends r z → reader.one limit exp body true ((text u, l) ∷ r) ≡ Some (tree.text u, r)
  unfolding reader.one reader.assigned reader.postfix
  one_read u l r z ends =
      then_reads _ (left_read u l r ends.no_suffix) (rw (ends.no_assignment, ends.no_step) (rest_read u r ends.no_operator ends.no_question))

  all_read : (u : List ℕ) (l : Bool) (r z : List Lexeme) → Ends r z → reader.all limit exp body true ((text u, l) ∷ r) ≡ Some (tree.text u, r)
  unfolding reader.all separated sees
  all_read u l r z ends =
      then_reads _ (then_reads _ (one_read u l r z ends) (stays sees_comma _ (length r) (tree.text u ∷ []) r ends.no_comma)) refl

  pub directive_read : (u : List ℕ) (l : Bool) (r z : List Lexeme) → Ends r z
      → statements.element limit exp body statement ((text u, l) ∷ r) ≡ Some (tree.expr (tree.text u), z)
  unfolding statements.element statements.any_statement statements.expressed within_limit
  directive_read u l r z ends = then_reads _ (all_read u l r z ends) (then_reads _ ends.ended refl)
