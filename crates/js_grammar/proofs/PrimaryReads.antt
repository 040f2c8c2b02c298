-- Primary expressions and arguments are read as the grammar has them.
use Rattle.std.proofs.Common.{◌≡◌, ℕ, suc, ◌<◌, ◌≤◌, Bool, true, false, List, [], ◌∷◌, length, Option, Some, refl, arith}
use Rattle.js_core.specs.Tree as tree
use Rattle.js_core.specs.Tree.{exprs_of, holes_of, fields_of, stmts_of}
use Rattle.js_core.specs.Height.{expr_height, exprs_height, code_height}
use Rattle.js_core.specs.declared.token.Punct.{Punct}
use Rattle.js_core.specs.declared.token.Punct.TheVariants as p
use Rattle.js_grammar.specs.declared.sign.Sign.TheVariants.{Mark, Word}
use Rattle.js_grammar.specs.Symbols.{Symbol, sign, identifier, unused, number, text, Lexeme, field_name, sign_of, sign_at, is_sign}
use Rattle.js_grammar.specs.Operators.{Level, sequence, assignment}
use Rattle.js_grammar.specs.Parser.{Parser, sees, expect, taken, divided}
use Rattle.js_grammar.specs.Phrases.{Phrase, mark, Name, name, Listed, Divided, by_comma, by_close}
use Rattle.js_grammar.specs.Expressions.{Element, absent, present, Field, field, Arguments, Procedure, procedure, Primary, this_value, null_value, true_value, false_value, named, numeral, string, array, object, grouped, anonymous, function}
use Rattle.js_grammar.specs.ExpressionReader as reader
use Rattle.js_grammar.specs.ExpressionReader.{comes_before, identifier_of, maybe_identifier}
use Rattle.js_grammar.proofs.Beginnings.{can_begin}
use Rattle.js_grammar.proofs.Heights.{Each, Fits, exprs_fit, HoleFits, holes_fit, fields_fit}
use Rattle.js_grammar.proofs.ListShapes.{name_shorter, listed_shorter}
use Rattle.js_grammar.proofs.ExpressionShapes.{element_shorter, field_shorter}
use Rattle.js_grammar.proofs.Steps.{then_reads, kept}
use Rattle.js_grammar.proofs.ListsRead.{listed_reads, many_reads}
use Rattle.js_grammar.proofs.Signs.{not_first}
use Rattle.js_grammar.proofs.Stops.{Stops}
use Rattle.js_grammar.proofs.Inner.{Inner}

name_reads : (u : Unit {0}) (x z : List Lexeme) (w : List ℕ) (bound : ℕ) → Name x z w → length x < bound → Unit {0} → Unit {0} → taken identifier_of x ≡ Some (w, z)
unfolding taken
name_reads u x z w bound name lt f s = refl

name_begins : (u : Unit {0}) (x z : List Lexeme) (w : List ℕ) → Name x z w → sees (Mark p.RightParenthesis) x ≡ false
unfolding sees
name_begins u x z w name = refl

each_name : (found : List (List ℕ)) → Each (λ w. Unit {0}) found
each_name [] = tt
each_name (w ∷ ws) = (tt, each_name ws)

pub formals_read : (bound : ℕ) {x z : List Lexeme} {found : List (List ℕ)} → Listed {I = Unit {0}} (λ u. Name) x z found → length x < bound → reader.formal_names x ≡ Some (found, z)
unfolding reader.formal_names
formals_read bound {found = found} h lt =
    listed_reads {I = Unit {0}} (λ u. Name) (taken identifier_of) (λ w. Unit {0}) (λ u z. Unit {0}) bound (λ u x z w n l f s. name_reads u x z w bound n l f s) (λ u. name_shorter) (λ i l y. tt) name_begins (λ i l y. tt) h lt (each_name found)

before : (close : Punct) (x : List Lexeme) → can_begin (Some (Mark close)) ≡ false → can_begin (sign_at x) ≡ true → comes_before close x ≡ true
unfolding sees
before close x e f = rw (not_first (Mark close) (sign_at x) e f) refl

-- a name in an object literal is no closing brace
no_brace : (s : Symbol) {w : List ℕ} → field_name s ≡ Some w → is_sign (Mark p.RightBrace) (sign_of s) ≡ false
no_brace (sign (Mark m)) e = absurd (cc)
no_brace (sign (Word w)) e = refl
no_brace (identifier w) e = refl
no_brace (unused w) e = refl
no_brace (number n) e = refl
no_brace (text t) e = refl

module _ (limit : ℕ) (exp : Bool → Level → Parser tree.Expr) (body : Parser (List tree.Stmt)) (Exp : Bool → Level → Bool → Phrase tree.Expr) (Body : Phrase (List tree.Stmt)) (bound : ℕ) (inner : Inner limit exp body Exp Body bound) where
  element_ends : {y z : List Lexeme} → Divided p.RightBracket y z → divided (Mark p.RightBracket) y ≡ Some (tt, z)
  unfolding divided sees
  element_ends by_comma = refl
  element_ends by_close = refl

  element_stops : {y z : List Lexeme} (g : Bool) → Divided p.RightBracket y z → Stops true assignment g y
  element_stops g by_comma = ((λ e. (refl, refl)), refl, refl)
  element_stops g by_close = ((λ e. (refl, refl)), refl, refl)

  field_ends : {y z : List Lexeme} → Divided p.RightBrace y z → divided (Mark p.RightBrace) y ≡ Some (tt, z)
  unfolding divided sees
  field_ends by_comma = refl
  field_ends by_close = refl

  field_stops : {y z : List Lexeme} (g : Bool) → Divided p.RightBrace y z → Stops true assignment g y
  field_stops g by_comma = ((λ e. (refl, refl)), refl, refl)
  field_stops g by_close = ((λ e. (refl, refl)), refl, refl)

  element_reads : (x z : List Lexeme) (a : Option tree.Expr) → Element Exp Body x z a → length x < bound → HoleFits limit a → reader.element limit exp body x ≡ Some (a, z)
  unfolding reader.element sees
  element_reads x z a absent lt f = refl
  element_reads x z a (present {g = g} {y = y} {a = b} h d) lt f =
      rw (not_first (Mark p.Comma) (sign_at x) refl (inner.begins true assignment g x y b h))
      (then_reads _ (inner.reads true assignment g x y b h lt f (element_stops g d)) (then_reads _ (element_ends d) refl))

  element_goes : (x z : List Lexeme) (a : Option tree.Expr) → Element Exp Body x z a → comes_before p.RightBracket x ≡ true
  unfolding sees
  element_goes x z a absent = refl
  element_goes x z a (present {g = g} {y = y} {a = b} h d) = before p.RightBracket x refl (inner.begins true assignment g x y b h)

  field_reads : (x z : List Lexeme) (a : List ℕ × tree.Expr) → Field Exp Body x z a → length x < bound → Fits limit a.1 → reader.field limit exp body x ≡ Some (a, z)
  unfolding reader.field taken sees expect
  field_reads x z a (field {g = g} {x = x'} {y = y} {a = b} e h d) lt f =
      rw e (then_reads _ (inner.reads true assignment g x' y b h (omega arith) f (field_stops g d)) (then_reads _ (field_ends d) refl))

  field_goes : (x z : List Lexeme) (a : List ℕ × tree.Expr) → Field Exp Body x z a → comes_before p.RightBrace x ≡ true
  unfolding sees
  field_goes x z a (field {s = s} e h d) = rw (no_brace s e) refl

  pub arguments_read : {x z : List Lexeme} {found : List tree.Expr} → Arguments Exp Body x z found → length x < bound → exprs_height (exprs_of found) ≤ limit → reader.arguments limit exp body x ≡ Some (found, z)
  unfolding reader.arguments sees
  arguments_read {found = found} h lt f =
      listed_reads (λ g. Exp true assignment g) (exp true assignment) (Fits limit) (Stops true assignment) bound (inner.reads true assignment) (inner.shorter true assignment) (λ g l y. ((λ e. (refl, refl)), refl, refl)) argument_begins (λ g l y. ((λ e. (refl, refl)), refl, refl)) h lt (exprs_fit limit found f)
    where
      argument_begins : (g : Bool) (x z : List Lexeme) (a : tree.Expr) → Exp true assignment g x z a → sees (Mark p.RightParenthesis) x ≡ false
      argument_begins g x z a h = not_first (Mark p.RightParenthesis) (sign_at x) refl (inner.begins true assignment g x z a h)

  pub procedure_reads : {own : Option (List ℕ)} {x z : List Lexeme} {c : tree.Code} → Procedure Exp Body own x z c → length x < suc bound → code_height c ≤ limit → reader.procedure limit exp body own x ≡ Some (c, z)
  unfolding reader.procedure expect sees
  procedure_reads (procedure {k = k} {j = j} {x = x} {y = y} {z = z} {body = found} h b) lt f =
      let a1 = listed_shorter (λ (u : Unit {0}). Name) (λ u. name_shorter) h in
      then_reads _ (formals_read bound h (omega arith)) (then_reads _ (inner.body_reads j y z found b (omega arith) f) refl)

  pub primary_reads : {x z : List Lexeme} {a : tree.Expr} → Primary Exp Body x z a → length x < suc bound → Fits limit a → reader.primary limit exp body x ≡ Some (a, z)
  unfolding reader.primary taken sees expect reader.array reader.object reader.group reader.function maybe_identifier
  primary_reads this_value lt f = refl
  primary_reads null_value lt f = refl
  primary_reads true_value lt f = refl
  primary_reads false_value lt f = refl
  primary_reads named lt f = refl
  primary_reads numeral lt f = refl
  primary_reads string lt f = refl
  primary_reads (array {z = z} {found = found} h) lt f =
      then_reads _ (many_reads (Element Exp Body) (reader.element limit exp body) (comes_before p.RightBracket) (HoleFits limit) (λ z. Unit {0}) bound (λ x z a h l f s. element_reads x z a h l f) (element_shorter Exp Body inner.shorter inner.body_shorter) element_goes (λ x z a h. tt) h (omega arith) (holes_fit limit found (omega arith)) tt refl)
      (kept limit (expr_height (tree.list (holes_of found))) _ z f)
  primary_reads (object {z = z} {found = found} h) lt f =
      then_reads _ (many_reads (Field Exp Body) (reader.field limit exp body) (comes_before p.RightBrace) (λ q. Fits limit q.1) (λ z. Unit {0}) bound (λ x z a h l f s. field_reads x z a h l f) (field_shorter Exp Body inner.shorter inner.body_shorter) field_goes (λ x z a h. tt) h (omega arith) (fields_fit limit found (omega arith)) tt refl)
      (kept limit (expr_height (tree.literal (fields_of found))) _ z f)
  primary_reads (grouped {g = g} {k = k} {x = x} {z = z} {a = a} h) lt f =
      then_reads _ (inner.reads true sequence g x (mark p.RightParenthesis k ∷ z) a h (omega arith) f ((λ e. (refl, refl)), refl, refl, refl)) refl
  primary_reads (anonymous {z = z} {c = c} (procedure h b)) lt f =
      then_reads _ (procedure_reads (procedure h b) (omega arith) (omega arith)) (kept limit (expr_height (tree.func c)) _ z f)
  primary_reads (function {z = z} {c = c} h) lt f =
      then_reads _ (procedure_reads h (omega arith) (omega arith)) (kept limit (expr_height (tree.func c)) _ z f)
