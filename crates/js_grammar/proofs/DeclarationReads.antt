-- Declarations of variables, lists of statements and conditions are read as the grammar has them.
use Rattle.std.proofs.Common.{◌≡◌, ℕ, suc, ◌<◌, ◌≤◌, Bool, true, false, List, [], ◌∷◌, ◌++◌, length, Option, Some, refl, ◌∙◌, arith}
use Rattle.js_core.specs.Tree as tree
use Rattle.js_core.specs.Tree.{stmts_of}
use Rattle.js_core.specs.Height.{stmts_height, declarators_height}
use Rattle.js_core.specs.Views.{declarators_of}
use Rattle.js_core.specs.declared.syntax.Declarator.{Declarator}
use Rattle.js_core.specs.declared.token.Punct.TheVariants as p
use Rattle.js_grammar.specs.declared.sign.Sign.TheVariants.{Mark}
use Rattle.js_grammar.specs.Symbols.{Lexeme, sign_at, is_sign}
use Rattle.js_grammar.specs.Operators.{Level, assignment}
use Rattle.js_grammar.specs.Parser.{Parser, sees, sees_comma, expect, eat, taken, separated}
use Rattle.js_grammar.specs.Phrases.{Phrase, mark, Separated, only, further}
use Rattle.js_grammar.specs.Expressions.{Sequence}
use Rattle.js_grammar.specs.Endings.{Ending, after_expression, after_name, after_all}
use Rattle.js_grammar.specs.Statements.{Declaration, bare, initialised, Braced, braced, Maybe, missing, present}
use Rattle.js_grammar.specs.StatementReader as reader
use Rattle.js_grammar.specs.StatementReader.{ending_by, ending_of, has_more}
use Rattle.js_grammar.proofs.Heights.{Fits, HoleFits}
use Rattle.js_grammar.proofs.StatementHeights.{StatementFits, statements_fit, DeclaratorFits, declarators_fit}
use Rattle.js_grammar.proofs.ExpressionShapes.{sequence_begins}
use Rattle.js_grammar.proofs.StatementShapes.{declaration_shorter, more_at}
use Rattle.js_grammar.proofs.Steps.{then_reads}
use Rattle.js_grammar.proofs.ListsRead.{separated_reads, many_reads}
use Rattle.js_grammar.proofs.Signs.{not_first}
use Rattle.js_grammar.proofs.Stops.{Stops}
use Rattle.js_grammar.proofs.EndsRead.{forgets}
use Rattle.js_grammar.proofs.Inner.{Inner}
use Rattle.js_grammar.proofs.InnerStatements.{InnerStatements}
use Rattle.js_grammar.proofs.ExpressionReads.{assignment_reads, sequence_reads}

-- what ends a declarator
abbrev pub DeclaratorStops : Bool → Ending → List Lexeme → Type 0
DeclaratorStops inn (after_expression g) z = Stops inn assignment g z
DeclaratorStops inn after_name z = is_sign (Mark p.SimpleAssign) (sign_at z) ≡ false
DeclaratorStops inn after_all z = Unit {0}

comma_stops : (inn : Bool) (e : Ending) (l : Bool) (y : List Lexeme) → DeclaratorStops inn e (mark p.Comma l ∷ y)
comma_stops inn (after_expression g) l y = ((λ e. (refl, refl)), refl, refl)
comma_stops inn after_name l y = refl
comma_stops inn after_all l y = tt

last_by : (found : List Declarator) (d : Declarator) → ending_of (found ++ d ∷ []) ≡ ending_by d.value
last_by [] d = refl
last_by (b ∷ []) d = refl
last_by (b ∷ c ∷ rest) d = last_by (c ∷ rest) d

module _ (Exp : Bool → Level → Bool → Phrase tree.Expr) (Body : Phrase (List tree.Stmt)) (Stm : Phrase tree.Stmt) where
  ending_is : (inn : Bool) (e : Ending) (x z : List Lexeme) (d : Declarator) → Declaration Exp Body Stm inn e x z d → ending_by d.value ≡ forgets e
  ending_is inn e x z d bare = refl
  ending_is inn e x z d (initialised h) = refl

  pub endings_are : (inn : Bool) {e : Ending} {x z : List Lexeme} {found : List Declarator} → Separated (Declaration Exp Body Stm inn) e x z found → ending_of found ≡ forgets e
  endings_are inn (only {i = i} {x = x} {z = z} {a = a} h) = ending_is inn i x z a h
  endings_are inn (further {j = j} {y = y} {z = z} {found = found} {a = a} h k) = last_by found a ∙ ending_is inn j y z a k

module _ (limit : ℕ) (exp : Bool → Level → Parser tree.Expr) (body : Parser (List tree.Stmt)) (statement : Parser tree.Stmt) (Exp : Bool → Level → Bool → Phrase tree.Expr) (Body : Phrase (List tree.Stmt)) (Stm : Phrase tree.Stmt) (bound : ℕ) (inner : Inner limit exp body Exp Body bound) (stm : InnerStatements limit statement Stm bound) where
  declaration_reads : (inn : Bool) (e : Ending) (x z : List Lexeme) (d : Declarator) → Declaration Exp Body Stm inn e x z d → length x < suc bound → DeclaratorFits limit d → DeclaratorStops inn e z → reader.declaration limit exp body statement inn x ≡ Some (d, z)
  unfolding reader.declaration reader.declared_by taken eat sees
  declaration_reads inn e x z d bare lt f s = rw s refl
  declaration_reads inn e x z d (initialised {g = g} {x = x'} {a = a} h) lt f s =
      then_reads _ (assignment_reads limit exp body Exp Body bound inner inn g x' z a h (omega arith) f s) refl

  pub declarations_read : (inn : Bool) {e : Ending} {x z : List Lexeme} {found : List Declarator} → Separated (Declaration Exp Body Stm inn) e x z found → length x < suc bound → declarators_height (declarators_of found) ≤ limit → DeclaratorStops inn e z → sees_comma z ≡ false → separated (reader.declaration limit exp body statement inn) x ≡ Some (found, z)
  declarations_read inn {found = found} h lt f s c =
      separated_reads (Declaration Exp Body Stm inn) (reader.declaration limit exp body statement inn) (DeclaratorFits limit) (DeclaratorStops inn) (suc bound) (declaration_reads inn) (declaration_shorter Exp Body Stm inner.shorter inner.body_shorter stm.shorter inn) (comma_stops inn) h lt (declarators_fit limit found f) s c

  -- ---- lists of statements

  pub braced_reads : {x z : List Lexeme} {found : List tree.Stmt} → Braced Exp Body Stm x z found → length x < suc bound → stmts_height (stmts_of found) ≤ limit → reader.braced limit exp body statement x ≡ Some (found, z)
  unfolding reader.braced expect sees
  braced_reads (braced {k = k} {z = z} {found = found} h) lt f =
      then_reads _ (many_reads Stm statement has_more (StatementFits limit) (λ z. Unit {0}) bound (λ x z s h l f k. stm.reads x z s h l f) stm.shorter (λ x z s h. more_at x z (stm.shorter x z s h) (stm.begins x z s h)) (λ x z s h. tt) h (omega arith) (statements_fit limit found f) tt refl) refl

  -- ---- expressions before a closing sign

  pub condition_reads : (g l k : Bool) {x y : List Lexeme} {a : tree.Expr} → Sequence Exp Body true g x (mark p.RightParenthesis k ∷ y) a → length x < suc bound → Fits limit a → reader.condition limit exp body statement (mark p.LeftParenthesis l ∷ x) ≡ Some (a, y)
  unfolding reader.condition expect sees
  condition_reads g l k {x = x} {y = y} {a = a} h lt f =
      then_reads _ (sequence_reads limit exp body Exp Body bound inner true g x (mark p.RightParenthesis k ∷ y) a h lt f ((λ e. (refl, refl)), refl, refl, refl)) refl

  pub test_reads : (l : Bool) {x y : List Lexeme} {a : Option tree.Expr} → Maybe Exp Body Stm x (mark p.Semicolon l ∷ y) a → length x < suc bound → HoleFits limit a → reader.maybe_before limit exp body statement p.Semicolon x ≡ Some (a, mark p.Semicolon l ∷ y)
  unfolding reader.maybe_before sees
  test_reads l missing lt f = refl
  test_reads l {y = y} (present {g = g} {x = x} {a = a} h) lt f =
      rw (not_first (Mark p.Semicolon) (sign_at x) refl (sequence_begins Exp Body h))
      (then_reads _ (sequence_reads limit exp body Exp Body bound inner true g x (mark p.Semicolon l ∷ y) a h lt f ((λ e. (refl, refl)), refl, refl, refl)) refl)

  pub next_reads : (l : Bool) {x y : List Lexeme} {a : Option tree.Expr} → Maybe Exp Body Stm x (mark p.RightParenthesis l ∷ y) a → length x < suc bound → HoleFits limit a → reader.maybe_before limit exp body statement p.RightParenthesis x ≡ Some (a, mark p.RightParenthesis l ∷ y)
  unfolding reader.maybe_before sees
  next_reads l missing lt f = refl
  next_reads l {y = y} (present {g = g} {x = x} {a = a} h) lt f =
      rw (not_first (Mark p.RightParenthesis) (sign_at x) refl (sequence_begins Exp Body h))
      (then_reads _ (sequence_reads limit exp body Exp Body bound inner true g x (mark p.RightParenthesis l ∷ y) a h lt f ((λ e. (refl, refl)), refl, refl, refl)) refl)
