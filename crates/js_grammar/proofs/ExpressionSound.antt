-- What is read as an expression is one in the grammar.
use Rattle.std.proofs.Common.{◌≡◌, ℕ, Bool, true, false, List, [], ◌∷◌, Option, Some, None, refl, subst, arith}
use Rattle.js_core.specs.Tree as tree
use Rattle.js_core.specs.Tree.{exprs_of}
use Rattle.js_core.specs.Height.{expr_height}
use Rattle.js_core.specs.declared.token.Punct.TheVariants as p
use Rattle.js_core.specs.declared.operators.BinaryOp.{BinaryOp}
use Rattle.js_grammar.specs.declared.sign.Sign.TheVariants.{Mark}
use Rattle.js_grammar.specs.Symbols.{Lexeme, sign_at}
use Rattle.js_grammar.specs.Operators.{Level, sequence, assignment, climbs, Prefix, prefix_of, assignment_of}
use Rattle.js_grammar.specs.Parser.{Parser, tail}
use Rattle.js_grammar.specs.Phrases.{Phrase, mark, Separated}
use Rattle.js_grammar.specs.Expressions.{sequence_of, grouped, is_primary, LeftHandSide, Unary, is_postfix, Binary, Assignment, is_binary, chosen, assigned, Sequence, sequenced}
use Rattle.js_grammar.specs.ExpressionReader as reader
use Rattle.js_grammar.proofs.Heights.{Each, Fits}
use Rattle.js_grammar.proofs.ExpressionShapes.{assignment_shorter}
use Rattle.js_grammar.proofs.Holds.{Holds, ok, then_holds, held, expect_holds, eat_holds, limit_holds, signed_by_table}
use Rattle.js_grammar.proofs.ListsHold.{separated_rest, separated_holds}
use Rattle.js_grammar.proofs.Stops.{Quiet}
use Rattle.js_grammar.proofs.Sound.{Sound, Found}
use Rattle.js_grammar.proofs.LeftSound.{Left, suffixes_hold, left_of, left_holds, postfix_holds, operated_holds}
use Rattle.js_grammar.proofs.BinarySound.{Climbed, lower, operations_hold}

module _ (limit : ℕ) (exp : Bool → Level → Parser tree.Expr) (body : Parser (List tree.Stmt)) (Exp : Bool → Level → Bool → Phrase tree.Expr) (Body : Phrase (List tree.Stmt)) (inner : Sound limit exp body Exp Body) where
  -- an assignment expression, behind which no operator comes
  abbrev pub One : Bool → List Lexeme → tree.Expr → List Lexeme → Type 0
  One inn x a z = (g : Bool) × Assignment Exp Body inn g x z a × Fits limit a × Quiet g z × (climbs inn 1 (sign_at z) ≡ false)

  choice_holds : (inn : Bool) (x y : List Lexeme) (a : tree.Expr) → Climbed limit exp body Exp Body inner inn 1 x a y × (climbs inn 1 (sign_at y) ≡ false) → Holds (One inn x) (reader.choice limit exp body inn a y)
  unfolding reader.choice
  choice_holds inn x y a h =
      let first = lower limit exp body Exp Body inner 1 h.0.0 h.0.3 h.0.2 in
      eat_holds (Mark p.QuestionMark) y _
      (λ l e.
      then_holds _ (inner.assignments true (tail y)) (λ b v k.
      then_holds _ (expect_holds (Mark p.Colon) v) (λ u w c.
      then_holds _ (inner.assignments inn w) (λ d z j.
      limit_holds (One inn x) limit (expr_height (tree.conditional a b d)) (tree.conditional a b d) z
      (λ le. (j.0, chosen (subst (λ q. Binary Exp Body inn 1 h.0.1 x q a) e first) (subst (λ q. Exp true assignment k.0 (tail y) q b) c.1 k.1) j.1, le, j.3, j.4))))))
      (λ n. ok (h.0.1, is_binary first, h.0.4, h.0.5, h.1))

  rest_holds : (inn : Bool) (x y : List Lexeme) (g : Bool) (a : tree.Expr) → Unary Exp Body g x y a → Fits limit a → Quiet g y → Holds (One inn x) (reader.rest limit exp body inn a y)
  unfolding reader.rest
  rest_holds inn x y g a h f q =
      then_holds _ (operations_hold limit exp body Exp Body inner inn 1 x y g a (omega arith) h f q) (λ b v k. choice_holds inn x v b k)

  pub assigned_holds : (inn : Bool) (x y : List Lexeme) (a : tree.Expr) → Left limit exp body Exp Body inner true x a y → Holds (One inn x) (reader.assigned limit exp body inn a y)
  unfolding reader.assigned
  assigned_holds inn x y a h = by (assignment_of (sign_at y)) refl
    where
      by : (o : Option (Option BinaryOp)) → assignment_of (sign_at y) ≡ o → Holds (One inn x) (reader.assigned_by limit exp body inn a o y)
      by None e = then_holds _ (postfix_holds limit exp body Exp Body inner x y a h) (λ b v k. rest_holds inn x v k.0 b (is_postfix k.1) k.2 k.3)
      by (Some f) e =
          let c = signed_by_table assignment_of y f refl e in
          then_holds _ (inner.assignments inn (tail y)) (λ b z k.
          limit_holds (One inn x) limit (expr_height (tree.assign f a b)) (tree.assign f a b) z
          (λ le. (k.0, assigned (subst (λ v. LeftHandSide Exp Body true x v a) c.2 h.0) c.3 k.1, le, k.3, k.4)))

  pub one_holds : (inn : Bool) (x : List Lexeme) → Holds (One inn x) (reader.one limit exp body inn x)
  unfolding reader.one
  one_holds inn x = by (prefix_of (sign_at x)) refl
    where
      by : (o : Option Prefix) → prefix_of (sign_at x) ≡ o → Holds (One inn x) (reader.assignment_by limit exp body inn o x)
      by None e = then_holds _ (left_holds limit exp body Exp Body inner true x) (λ a y h. assigned_holds inn x y a h)
      by (Some f) e = then_holds _ (operated_holds limit exp body Exp Body inner x f e) (λ a y h. rest_holds inn x y h.0 a h.1 h.2 h.3)

  abbrev pub All : Bool → List Lexeme → tree.Expr → List Lexeme → Type 0
  All inn x a z = (g : Bool) × Sequence Exp Body inn g x z a × Fits limit a × Quiet g z × (climbs inn 1 (sign_at z) ≡ false)

  joined_holds : (inn : Bool) (x : List Lexeme) (found : List tree.Expr) (z : List Lexeme) (g : Bool) → Separated (Assignment Exp Body inn) g x z found → Each (Fits limit) found → Quiet g z → climbs inn 1 (sign_at z) ≡ false → Holds (All inn x) (reader.joined limit exp body found z)
  joined_holds inn x [] z g h f q c = limit_holds _ limit (expr_height (sequence_of [])) (sequence_of []) z (λ le. (g, sequenced h, le, q, c))
  joined_holds inn x (a ∷ []) z g h f q c = ok (g, sequenced h, f.0, q, c)
  joined_holds inn x (a ∷ b ∷ more) z g h f q c = limit_holds _ limit (expr_height (sequence_of (a ∷ b ∷ more))) (sequence_of (a ∷ b ∷ more)) z (λ le. (g, sequenced h, le, q, c))

  pub all_holds : (inn : Bool) (x : List Lexeme) → Holds (All inn x) (reader.all limit exp body inn x)
  unfolding reader.all
  all_holds inn x =
      then_holds _ (separated_holds (Assignment Exp Body inn) (reader.one limit exp body inn) (Fits limit) (λ g z. Quiet g z × (climbs inn 1 (sign_at z) ≡ false)) (λ y. held (λ a z h. (h.0, h.1, h.2, (h.3, h.4))) (one_holds inn y)) (assignment_shorter Exp Body inner.shorter inner.body_shorter inn) x)
      (λ found z h. joined_holds inn x found z h.0 h.1 h.2 h.3.0 h.3.1)

  -- an expression whose first assignment expression has been read
  pub all_from_holds : (inn : Bool) (x y : List Lexeme) (a : tree.Expr) → One inn x a y → Holds (All inn x) (reader.all_from limit exp body inn a y)
  unfolding reader.all_from
  all_from_holds inn x y a h =
      then_holds _ (separated_rest (Assignment Exp Body inn) (reader.one limit exp body inn) (Fits limit) (λ g z. Quiet g z × (climbs inn 1 (sign_at z) ≡ false)) (λ y. held (λ a z h. (h.0, h.1, h.2, (h.3, h.4))) (one_holds inn y)) (assignment_shorter Exp Body inner.shorter inner.body_shorter inn) x y a (h.0, h.1, h.2, (h.3, h.4)))
      (λ found z k. joined_holds inn x found z k.0 k.1 k.2 k.3.0 k.3.1)

  -- an expression that begins with a group, whose inside has been read
  pub closing_holds : (l : Bool) (x y : List Lexeme) (a : tree.Expr) → Found limit Exp true sequence 1 x a y → Holds (All true (mark p.LeftParenthesis l ∷ x)) (reader.closing limit exp body a y)
  unfolding reader.closing
  closing_holds l x y a h =
      then_holds _ (expect_holds (Mark p.RightParenthesis) y) (λ u z c.
      let group = is_primary (grouped (subst (λ v. Exp true sequence h.0 x v a) c.1 h.1)) in
      then_holds _ (suffixes_hold limit exp body Exp Body inner true (mark p.LeftParenthesis l ∷ x) a z (false, group, (λ t. absurd (cc)), h.2)) (λ b v k.
      then_holds _ (assigned_holds true (mark p.LeftParenthesis l ∷ x) v b (left_of limit exp body Exp Body inner true (mark p.LeftParenthesis l ∷ x) v b k.0 k.1)) (λ d w m.
      all_from_holds true (mark p.LeftParenthesis l ∷ x) w d m)))
