-- What is read as a primary expression or as arguments is one in the grammar.
use Rattle.std.proofs.Common.{◌≡◌, ℕ, ◌≤◌, Bool, true, false, List, [], ◌∷◌, Option, Some, None, refl, sym, subst, ap, ◌∙◌, ◌⊎◌, inl, inr}
use Rattle.js_core.specs.Tree as tree
use Rattle.js_core.specs.Tree.{exprs_of, holes_of, fields_of, stmts_of}
use Rattle.js_core.specs.Height.{expr_height}
use Rattle.js_core.specs.declared.token.Punct.{Punct}
use Rattle.js_core.specs.declared.token.Punct.TheVariants as p
use Rattle.js_core.specs.declared.keyword.Keyword.{Keyword}
use Rattle.js_core.specs.declared.keyword.Keyword.TheVariants as kw
use Rattle.js_grammar.specs.declared.sign.Sign.{Sign}
use Rattle.js_grammar.specs.declared.sign.Sign.TheVariants.{Mark, Word}
use Rattle.js_grammar.specs.Symbols.{Symbol, sign, identifier, unused, number, text, Lexeme, field_name, sign_at}
use Rattle.js_grammar.specs.Operators.{Level, sequence, assignment}
use Rattle.js_grammar.specs.Parser.{Parser, Outcome, tail, sees, sees_comma, taken, divided}
use Rattle.js_grammar.specs.Phrases.{Phrase, mark, word, Name, name, Listed, Many, Divided, by_comma, by_close}
use Rattle.js_grammar.specs.Expressions.{Element, absent, present, Field, field, Arguments, Procedure, procedure, Primary, this_value, null_value, true_value, false_value, named, numeral, string, array, object, grouped, anonymous, function}
use Rattle.js_grammar.specs.ExpressionReader as reader
use Rattle.js_grammar.specs.ExpressionReader.{comes_before, identifier_of, identifier_at, maybe_identifier, maybe_by, atom_of}
use Rattle.js_grammar.proofs.Heights.{Fits}
use Rattle.js_grammar.proofs.ListShapes.{name_shorter}
use Rattle.js_grammar.proofs.ExpressionShapes.{element_shorter, field_shorter}
use Rattle.js_grammar.proofs.Holds.{Holds, ok, err, then_holds, either_holds, held, signed, seen, expect_holds, taken_holds, limit_holds}
use Rattle.js_grammar.proofs.ListsHold.{listed_holds, many_holds}
use Rattle.js_grammar.proofs.Sound.{Sound}

name_by : (s : Symbol) (l : Bool) (z : List Lexeme) (w : List ℕ) → identifier_of s ≡ Some w → Name ((s, l) ∷ z) z w
name_by (identifier v) l z w e = let same : v ≡ w = cc in subst (λ n. Name ((identifier v, l) ∷ z) z n) same name
name_by (sign s) l z w e = absurd (cc)
name_by (unused s) l z w e = absurd (cc)
name_by (number s) l z w e = absurd (cc)
name_by (text s) l z w e = absurd (cc)

pub name_is : (x z : List Lexeme) (w : List ℕ) → Name x z w → (l : Bool) × (x ≡ (identifier w, l) ∷ z)
name_is x z w (name {l = l}) = (l, refl)

pub name_holds : (x : List Lexeme) → Holds (λ w z. Name x z w) (taken identifier_of x)
name_holds x = held (λ w z h. subst (λ v. Name v z w) (sym h.2) (name_by h.0 h.1 z w h.3)) (taken_holds identifier_of x)

pub formals_hold : (x : List Lexeme) → Holds (λ found z. Listed {I = Unit {0}} (λ u. Name) x z found) (reader.formal_names x)
unfolding reader.formal_names
formals_hold x =
    held (λ found z h. h.0)
    (listed_holds {I = Unit {0}} (λ u. Name) (taken identifier_of) (λ w. Unit {0}) (λ u z. Unit {0}) (λ y. held (λ w z h. (tt, h, tt, tt)) (name_holds y)) (λ u. name_shorter) x)

divided_holds : (close : Punct) (x : List Lexeme) → Holds (λ u z. Divided close x z) (divided (Mark close) x)
unfolding divided
divided_holds close x =
    either_holds (sees_comma x)
    (λ e. let c = seen (Mark p.Comma) x e in ok (subst (λ v. Divided close v (tail x)) (sym c.1) by_comma))
    (λ n. either_holds (sees (Mark close) x)
    (λ e. let c = seen (Mark close) x e in ok (subst (λ v. Divided close v v) (sym c.1) by_close))
    (λ e. err))

pub maybe_holds : (x : List Lexeme) → Holds (λ own z. ((l : Bool) × (w : List ℕ) × (own ≡ Some w) × (x ≡ (identifier w, l) ∷ z)) ⊎ ((own ≡ None) × (x ≡ z))) (maybe_identifier x)
unfolding maybe_identifier
maybe_holds [] = ok (inr (refl, refl))
maybe_holds (t ∷ ts) = by t.0 t.1 ts
  where
    by : (s : Symbol) (l : Bool) (ts : List Lexeme) → Holds (λ own z. ((k : Bool) × (w : List ℕ) × (own ≡ Some w) × ((s, l) ∷ ts ≡ (identifier w, k) ∷ z)) ⊎ ((own ≡ None) × ((s, l) ∷ ts ≡ z))) (maybe_by (identifier_of s) ((s, l) ∷ ts))
    by (identifier w) l ts = ok (inl (l, w, refl, refl))
    by (sign s) l ts = ok (inr (refl, refl))
    by (unused s) l ts = ok (inr (refl, refl))
    by (number s) l ts = ok (inr (refl, refl))
    by (text s) l ts = ok (inr (refl, refl))

module _ (limit : ℕ) (exp : Bool → Level → Parser tree.Expr) (body : Parser (List tree.Stmt)) (Exp : Bool → Level → Bool → Phrase tree.Expr) (Body : Phrase (List tree.Stmt)) (inner : Sound limit exp body Exp Body) where
  element_holds : (x : List Lexeme) → comes_before p.RightBracket x ≡ true → Holds (λ a z. Element Exp Body x z a) (reader.element limit exp body x)
  unfolding reader.element
  element_holds x go =
      either_holds (sees_comma x)
      (λ e. let c = seen (Mark p.Comma) x e in ok (subst (λ v. Element Exp Body v (tail x) None) (sym c.1) absent))
      (λ e. then_holds _ (inner.assignments true x) (λ a y h. then_holds _ (divided_holds p.RightBracket y) (λ u z d. ok (present h.1 d))))

  field_holds : (x : List Lexeme) → comes_before p.RightBrace x ≡ true → Holds (λ f z. Field Exp Body x z f) (reader.field limit exp body x)
  unfolding reader.field
  field_holds x go =
      then_holds _ (taken_holds field_name x) (λ w y h.
      then_holds _ (expect_holds (Mark p.Colon) y) (λ u v c.
      then_holds _ (inner.assignments true v) (λ a t k.
      then_holds _ (divided_holds p.RightBrace t) (λ u z d.
      ok (subst (λ q. Field Exp Body q z (w, a)) (sym (h.2 ∙ ap (λ q. (h.0, h.1) ∷ q) c.1)) (field h.3 k.1 d))))))

  array_holds : (l : Bool) (x : List Lexeme) → Holds (λ a z. Primary Exp Body (mark p.LeftBracket l ∷ x) z a × Fits limit a) (reader.array limit exp body x)
  unfolding reader.array
  array_holds l x =
      then_holds _ (many_holds (Element Exp Body) (reader.element limit exp body) (comes_before p.RightBracket) (λ a. Unit {0}) (λ y e. held (λ a z h. (h, tt)) (element_holds y e)) (element_shorter Exp Body inner.shorter inner.body_shorter) x) (λ found y h.
      then_holds _ (expect_holds (Mark p.RightBracket) y) (λ u z c.
      limit_holds (λ a z. Primary Exp Body (mark p.LeftBracket l ∷ x) z a × Fits limit a) limit (expr_height (tree.list (holes_of found))) (tree.list (holes_of found)) z
      (λ le. (array (subst (λ v. Many (Element Exp Body) x v found) c.1 h.0), le))))

  object_holds : (l : Bool) (x : List Lexeme) → Holds (λ a z. Primary Exp Body (mark p.LeftBrace l ∷ x) z a × Fits limit a) (reader.object limit exp body x)
  unfolding reader.object
  object_holds l x =
      then_holds _ (many_holds (Field Exp Body) (reader.field limit exp body) (comes_before p.RightBrace) (λ a. Unit {0}) (λ y e. held (λ a z h. (h, tt)) (field_holds y e)) (field_shorter Exp Body inner.shorter inner.body_shorter) x) (λ found y h.
      then_holds _ (expect_holds (Mark p.RightBrace) y) (λ u z c.
      limit_holds (λ a z. Primary Exp Body (mark p.LeftBrace l ∷ x) z a × Fits limit a) limit (expr_height (tree.literal (fields_of found))) (tree.literal (fields_of found)) z
      (λ le. (object (subst (λ v. Many (Field Exp Body) x v found) c.1 h.0), le))))

  group_holds : (l : Bool) (x : List Lexeme) → Holds (λ a z. Primary Exp Body (mark p.LeftParenthesis l ∷ x) z a × Fits limit a) (reader.group limit exp body x)
  unfolding reader.group
  group_holds l x =
      then_holds _ (inner.sequences true x) (λ a y h.
      then_holds _ (expect_holds (Mark p.RightParenthesis) y) (λ u z c.
      ok (grouped (subst (λ v. Exp true sequence h.0 x v a) c.1 h.1), h.2)))

  pub procedure_holds : (own : Option (List ℕ)) (x : List Lexeme) → Holds (λ c z. Procedure Exp Body own x z c) (reader.procedure limit exp body own x)
  unfolding reader.procedure
  procedure_holds own x =
      then_holds _ (expect_holds (Mark p.LeftParenthesis) x) (λ u v c.
      then_holds _ (formals_hold v) (λ formals w h.
      then_holds _ (expect_holds (Mark p.LeftBrace) w) (λ u t d.
      then_holds _ (inner.bodies t) (λ found y k.
      then_holds _ (expect_holds (Mark p.RightBrace) y) (λ u z e.
      ok (subst (λ q. Procedure Exp Body own q z (tree.code own formals (stmts_of found))) (sym c.1)
      (procedure (subst (λ q. Listed {I = Unit {0}} (λ u. Name) v q formals) d.1 h) (subst (λ q. Body t q found) e.1 k))))))))

  function_holds : (l : Bool) (x : List Lexeme) → Holds (λ a z. Primary Exp Body (word kw.Function l ∷ x) z a × Fits limit a) (reader.function limit exp body x)
  unfolding reader.function
  function_holds l x =
      then_holds _ (maybe_holds x) (λ own y h.
      then_holds _ (procedure_holds own y) (λ c z k.
      limit_holds (λ a z. Primary Exp Body (word kw.Function l ∷ x) z a × Fits limit a) limit (expr_height (tree.func c)) (tree.func c) z
      (λ le. (by own y c z h k, le))))
    where
      by : (own : Option (List ℕ)) (y : List Lexeme) (c : tree.Code) (z : List Lexeme) → ((j : Bool) × (w : List ℕ) × (own ≡ Some w) × (x ≡ (identifier w, j) ∷ y)) ⊎ ((own ≡ None) × (x ≡ y)) → Procedure Exp Body own y z c → Primary Exp Body (word kw.Function l ∷ x) z (tree.func c)
      by own y c z (inl h) k = subst (λ v. Primary Exp Body (word kw.Function l ∷ v) z (tree.func c)) (sym h.3) (function (subst (λ o. Procedure Exp Body o y z c) h.2 k))
      by own y c z (inr h) k = subst (λ v. Primary Exp Body (word kw.Function l ∷ v) z (tree.func c)) (sym h.1) (anonymous (subst (λ o. Procedure Exp Body o y z c) h.0 k))

  atom_by : (s : Symbol) (l : Bool) (z : List Lexeme) (a : tree.Expr) → atom_of s ≡ Some a → Primary Exp Body ((s, l) ∷ z) z a × Fits limit a
  atom_by (identifier w) l z a e = let same : tree.name w ≡ a = cc in subst (λ b. Primary Exp Body ((identifier w, l) ∷ z) z b × Fits limit b) same (named, inner.some)
  atom_by (number n) l z a e = let same : tree.num n ≡ a = cc in subst (λ b. Primary Exp Body ((number n, l) ∷ z) z b × Fits limit b) same (numeral, inner.some)
  atom_by (text t) l z a e = let same : tree.text t ≡ a = cc in subst (λ b. Primary Exp Body ((text t, l) ∷ z) z b × Fits limit b) same (string, inner.some)
  atom_by (sign s) l z a e = absurd (cc)
  atom_by (unused w) l z a e = absurd (cc)

  pub primary_holds : (x : List Lexeme) → Holds (λ a z. Primary Exp Body x z a × Fits limit a) (reader.primary limit exp body x)
  unfolding reader.primary
  primary_holds x = by_sign (sign_at x) refl
    where
      plainly : Holds (λ a z. Primary Exp Body x z a × Fits limit a) (taken atom_of x)
      plainly = held (λ a z h. subst (λ v. Primary Exp Body v z a × Fits limit a) (sym h.2) (atom_by h.0 h.1 z a h.3)) (taken_holds atom_of x)

      constant : (m : Keyword) (a : tree.Expr) → sign_at x ≡ Some (Word m) → expr_height a ≡ 1 → ((l : Bool) → Primary Exp Body (word m l ∷ tail x) (tail x) a) → Holds (λ a z. Primary Exp Body x z a × Fits limit a) (Some (a, tail x))
      constant m a i e k = let c = signed x (Word m) i in let le : Fits limit a = subst (λ n. n ≤ limit) (sym e) inner.some in ok (subst (λ v. Primary Exp Body v (tail x) a) (sym c.1) (k c.0), le)

      behind : (m : Sign) (r : Outcome tree.Expr) → sign_at x ≡ Some m → ((l : Bool) → Holds (λ a z. Primary Exp Body ((sign m, l) ∷ tail x) z a × Fits limit a) r) → Holds (λ a z. Primary Exp Body x z a × Fits limit a) r
      behind m r i k = let c = signed x m i in held (λ a z h. subst (λ v. Primary Exp Body v z a × Fits limit a) (sym c.1) h) (k c.0)

      by_sign : (s : Option Sign) → sign_at x ≡ s → Holds (λ a z. Primary Exp Body x z a × Fits limit a) (reader.primary_by limit exp body s x)
      by_sign None i = plainly
      by_sign (Some (Word kw.This)) i = constant kw.This tree.this i refl (λ l. this_value)
      by_sign (Some (Word kw.Null)) i = constant kw.Null tree.null i refl (λ l. null_value)
      by_sign (Some (Word kw.True)) i = constant kw.True (tree.bool true) i refl (λ l. true_value)
      by_sign (Some (Word kw.False)) i = constant kw.False (tree.bool false) i refl (λ l. false_value)
      by_sign (Some (Word kw.Function)) i = behind (Word kw.Function) _ i (λ l. function_holds l (tail x))
      by_sign (Some (Mark p.LeftBracket)) i = behind (Mark p.LeftBracket) _ i (λ l. array_holds l (tail x))
      by_sign (Some (Mark p.LeftBrace)) i = behind (Mark p.LeftBrace) _ i (λ l. object_holds l (tail x))
      by_sign (Some (Mark p.LeftParenthesis)) i = behind (Mark p.LeftParenthesis) _ i (λ l. group_holds l (tail x))
      by_sign (Some (Word _)) i = plainly
      by_sign (Some (Mark _)) i = plainly

  pub arguments_hold : (x : List Lexeme) → Holds (λ found z. Arguments Exp Body x z found) (reader.arguments limit exp body x)
  unfolding reader.arguments
  arguments_hold x =
      held (λ found z h. h.0)
      (listed_holds (λ g. Exp true assignment g) (exp true assignment) (Fits limit) (λ g z. Unit {0}) (λ y. held (λ a z h. (h.0, h.1, h.2, tt)) (inner.assignments true y)) (inner.shorter true assignment) x)
