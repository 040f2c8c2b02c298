-- What is read as a left-hand side or a unary expression is one in the grammar.
use Rattle.std.proofs.Common.{◌≡◌, ℕ, ◌<◌, Bool, true, false, List, [], ◌∷◌, length, Option, Some, None, refl, sym, subst, ap, ◌∙◌, arith}
use Rattle.js_core.specs.Tree as tree
use Rattle.js_core.specs.Tree.{exprs_of}
use Rattle.js_core.specs.Height.{expr_height}
use Rattle.js_core.specs.declared.token.Punct.TheVariants as p
use Rattle.js_core.specs.declared.keyword.Keyword.TheVariants as kw
use Rattle.js_grammar.specs.declared.sign.Sign.{Sign}
use Rattle.js_grammar.specs.declared.sign.Sign.TheVariants.{Mark, Word}
use Rattle.js_grammar.specs.Symbols.{Symbol, sign, identifier, unused, number, text, Lexeme, member_name, sign_of, sign_at}
use Rattle.js_grammar.specs.Operators.{Level, sequence, member, is_suffix, Prefix, prefix_of, prefixed, step_of}
use Rattle.js_grammar.specs.Parser.{Parser, and_then, tail, sees}
use Rattle.js_grammar.specs.Phrases.{Phrase, mark, word}
use Rattle.js_grammar.specs.Expressions.{Member, is_primary, dotted, indexed, called, constructed, LeftHandSide, is_member, is_call, constructed_plainly, Postfix, is_left, stepped, Unary, is_postfix, operated}
use Rattle.js_grammar.specs.ExpressionReader as reader
use Rattle.js_grammar.specs.ExpressionReader.{has_suffix, in_line, step_at}
use Rattle.js_grammar.proofs.Heights.{Fits}
use Rattle.js_grammar.proofs.ExpressionShapes.{arguments_shorter}
use Rattle.js_grammar.proofs.Holds.{Holds, ok, err, then_holds, held, signed, expect_holds, eat_holds, taken_holds, limit_holds, repeat_holds, signed_by_table}
use Rattle.js_grammar.proofs.Signs.{all_suffixes}
use Rattle.js_grammar.proofs.Stops.{Quiet}
use Rattle.js_grammar.proofs.Sound.{Sound}
use Rattle.js_grammar.proofs.PrimarySound.{primary_holds, arguments_hold}

-- a step in the same line
in_line_is : (o : Option Bool) (l : Bool) (up : Bool) → in_line o l ≡ Some up → (l ≡ false) × (o ≡ Some up)
in_line_is None l up e = absurd (cc)
in_line_is (Some v) true up e = absurd (cc)
in_line_is (Some v) false up e = (refl, e)

step_by : (s : Symbol) (l : Bool) (ts : List Lexeme) (up : Bool) → in_line (step_of (sign_of s)) l ≡ Some up → (m : Sign) × ((s, l) ∷ ts ≡ (sign m, false) ∷ ts) × (step_of (Some m) ≡ Some up)
step_by (sign m) l ts up e = let h = in_line_is (step_of (Some m)) l up e in (m, ap (λ b. (sign m, b) ∷ ts) h.0, h.1)
step_by (identifier w) l ts up e = absurd (cc)
step_by (unused w) l ts up e = absurd (cc)
step_by (number w) l ts up e = absurd (cc)
step_by (text w) l ts up e = absurd (cc)

step_is : (x : List Lexeme) (up : Bool) → step_at x ≡ Some up → (m : Sign) × (x ≡ (sign m, false) ∷ tail x) × (step_of (Some m) ≡ Some up)
step_is [] up e = absurd (cc)
step_is (t ∷ ts) up e = step_by t.0 t.1 ts up e

module _ (limit : ℕ) (exp : Bool → Level → Parser tree.Expr) (body : Parser (List tree.Stmt)) (Exp : Bool → Level → Bool → Phrase tree.Expr) (Body : Phrase (List tree.Stmt)) (inner : Sound limit exp body Exp Body) where
  -- a member or call expression, the latter where calls may stand
  abbrev pub Chain : Bool → List Lexeme → tree.Expr → List Lexeme → Type 0
  Chain calls start a x = (c : Bool) × Member Exp Body c start x a × (c ≡ true → calls ≡ true) × Fits limit a

  abbrev Longer : Bool → List Lexeme → List Lexeme → tree.Expr → List Lexeme → Type 0
  Longer calls start x b y = Chain calls start b y × (length y < length x)

  dotted_holds : (calls l : Bool) (start x : List Lexeme) (a : tree.Expr) → x ≡ mark p.Dot l ∷ tail x → Chain calls start a x → Holds (Longer calls start x) (reader.dotted limit exp body a (tail x))
  unfolding reader.dotted
  dotted_holds calls l start x a e h =
      let len = ap length e in
      then_holds _ (taken_holds member_name (tail x)) (λ w y k.
      let len2 = ap length k.2 in
      limit_holds (Longer calls start x) limit (expr_height (tree.member a w)) (tree.member a w) y
      (λ le. let lt : length y < length x = omega arith in
      ((h.0, dotted (subst (λ v. Member Exp Body h.0 start (mark p.Dot l ∷ v) a) k.2 (subst (λ v. Member Exp Body h.0 start v a) e h.1)) k.3, h.2, le), lt)))

  indexed_holds : (calls l : Bool) (start x : List Lexeme) (a : tree.Expr) → x ≡ mark p.LeftBracket l ∷ tail x → Chain calls start a x → Holds (Longer calls start x) (reader.indexed limit exp body a (tail x))
  unfolding reader.indexed
  indexed_holds calls l start x a e h =
      let len = ap length e in
      then_holds _ (inner.sequences true (tail x)) (λ b y k.
      then_holds _ (expect_holds (Mark p.RightBracket) y) (λ u z c.
      let len2 = ap length c.1 in
      let a1 = inner.shorter true sequence k.0 (tail x) y b k.1 in
      limit_holds (Longer calls start x) limit (expr_height (tree.index a b)) (tree.index a b) z
      (λ le. let lt : length z < length x = omega arith in
      ((h.0, indexed (subst (λ v. Member Exp Body h.0 start v a) e h.1) (subst (λ v. Exp true sequence k.0 (tail x) v b) c.1 k.1), h.2, le), lt))))

  called_holds : (calls l : Bool) (start x : List Lexeme) (a : tree.Expr) → calls ≡ true → x ≡ mark p.LeftParenthesis l ∷ tail x → Chain calls start a x → Holds (Longer calls start x) (reader.called limit exp body a (tail x))
  unfolding reader.called
  called_holds calls l start x a t e h =
      let len = ap length e in
      then_holds _ (arguments_hold limit exp body Exp Body inner (tail x)) (λ found z k.
      let a1 = arguments_shorter Exp Body inner.shorter inner.body_shorter k in
      limit_holds (Longer calls start x) limit (expr_height (tree.call a (exprs_of found))) (tree.call a (exprs_of found)) z
      (λ le. let lt : length z < length x = omega arith in
      ((true, called (subst (λ v. Member Exp Body h.0 start v a) e h.1) k, (λ c. t), le), lt)))

  suffix_holds : (calls : Bool) (start : List Lexeme) (a : tree.Expr) (x : List Lexeme) → has_suffix calls x ≡ true → Chain calls start a x → Holds (Longer calls start x) (reader.suffix limit exp body a x)
  unfolding reader.suffix
  suffix_holds calls start a x go h = by_sign (sign_at x) refl go
    where
      by_sign : (s : Option Sign) → sign_at x ≡ s → is_suffix calls s ≡ true → Holds (Longer calls start x) (reader.suffix_by limit exp body a s x)
      by_sign None i g = err
      by_sign (Some (Mark p.Dot)) i g = let c = signed x (Mark p.Dot) i in dotted_holds calls c.0 start x a c.1 h
      by_sign (Some (Mark p.LeftBracket)) i g = let c = signed x (Mark p.LeftBracket) i in indexed_holds calls c.0 start x a c.1 h
      by_sign (Some (Mark p.LeftParenthesis)) i g = let c = signed x (Mark p.LeftParenthesis) i in called_holds calls c.0 start x a g c.1 h
      by_sign (Some (Mark _)) i g = err
      by_sign (Some (Word _)) i g = err

  pub suffixes_hold : (calls : Bool) (start : List Lexeme) (a : tree.Expr) (x : List Lexeme) → Chain calls start a x → Holds (λ b y. Chain calls start b y × (is_suffix calls (sign_at y) ≡ false)) (reader.suffixes limit exp body calls a x)
  unfolding reader.suffixes
  suffixes_hold calls start a x h =
      held (λ b y k. (k.0, k.1 refl)) (repeat_holds (has_suffix calls) (reader.suffix limit exp body) (Chain calls start) (suffix_holds calls start) (length x) a x (omega arith) h)

  -- a left-hand side: where calls may not stand and an opening parenthesis comes, it is a member expression
  abbrev pub Left : Bool → List Lexeme → tree.Expr → List Lexeme → Type 0
  Left calls x a z = LeftHandSide Exp Body calls x z a × Fits limit a × (is_suffix calls (sign_at z) ≡ false) × (sees (Mark p.LeftParenthesis) z ≡ true → calls ≡ false → Member Exp Body false x z a)

  pub left_of : (calls : Bool) (x z : List Lexeme) (a : tree.Expr) → Chain calls x a z → is_suffix calls (sign_at z) ≡ false → Left calls x a z
  left_of calls x z a h s = by h.0 h.1 h.2
    where
      by : (c : Bool) → Member Exp Body c x z a → (c ≡ true → calls ≡ true) → Left calls x a z
      by false m e = (is_member m, h.3, s, λ i n. m)
      by true m e = (subst (λ c. LeftHandSide Exp Body c x z a) (sym (e refl)) (is_call m), h.3, s, λ i n. let f : true ≡ false = sym (e refl) ∙ n in absurd (cc))

  constructed_holds : (calls l : Bool) (x : List Lexeme) → Holds (Left calls (word kw.New l ∷ x)) (reader.constructed limit exp body calls x)
  unfolding reader.constructed sees
  constructed_holds calls l x =
      then_holds _ (inner.callees x) (λ a y h. eat_holds (Mark p.LeftParenthesis) y _
      (λ k e.
      let callee = h.4 (subst (λ v. sees (Mark p.LeftParenthesis) v ≡ true) (sym e) refl) in
      then_holds _ (arguments_hold limit exp body Exp Body inner (tail y)) (λ found v i.
      then_holds _
      (limit_holds (λ b z. Chain calls (word kw.New l ∷ x) b z) limit (expr_height (tree.construct a (exprs_of found))) (tree.construct a (exprs_of found)) v
      (λ le. (false, constructed (subst (λ q. Exp true member h.0 x q a) e callee) i, (λ t. absurd (cc)), le)))
      (λ b t c. held (λ b z k. left_of calls (word kw.New l ∷ x) z b k.0 k.1) (suffixes_hold calls (word kw.New l ∷ x) b t c))))
      (λ n. limit_holds (Left calls (word kw.New l ∷ x)) limit (expr_height (tree.construct a (exprs_of []))) (tree.construct a (exprs_of [])) y
      (λ le. (constructed_plainly h.1, le, all_suffixes calls (sign_at y) h.3 n, λ t f. absurd (cc)))))

  pub left_holds : (calls : Bool) (x : List Lexeme) → Holds (Left calls x) (reader.left limit exp body calls x)
  unfolding reader.left
  left_holds calls x = by_sign (sign_at x) refl
    where
      plainly : Holds (Left calls x) (and_then (reader.primary limit exp body x) (reader.suffixes limit exp body calls))
      plainly =
          then_holds _ (primary_holds limit exp body Exp Body inner x) (λ a y h.
          held (λ b z k. left_of calls x z b k.0 k.1) (suffixes_hold calls x a y (false, is_primary h.0, (λ t. absurd (cc)), h.1)))

      by_sign : (s : Option Sign) → sign_at x ≡ s → Holds (Left calls x) (reader.left_by limit exp body calls s x)
      by_sign None i = plainly
      by_sign (Some (Word kw.New)) i = let c = signed x (Word kw.New) i in subst (λ v. Holds (Left calls v) (reader.constructed limit exp body calls (tail x))) (sym c.1) (constructed_holds calls c.0 (tail x))
      by_sign (Some (Word _)) i = plainly
      by_sign (Some (Mark _)) i = plainly

  -- ---- postfix and unary expressions

  pub postfix_holds : (x y : List Lexeme) (a : tree.Expr) → Left true x a y → Holds (λ b z. (g : Bool) × Postfix Exp Body g x z b × Fits limit b × Quiet g z) (reader.postfix limit exp body a y)
  unfolding reader.postfix
  postfix_holds x y a h = by_step (step_at y) refl
    where
      by_step : (o : Option Bool) → step_at y ≡ o → Holds (λ b z. (g : Bool) × Postfix Exp Body g x z b × Fits limit b × Quiet g z) (reader.postfix_by limit exp body a o y)
      by_step None e = ok (true, is_left h.0, h.1, λ t. (h.2, e))
      by_step (Some up) e =
          let c = step_is y up e in
          limit_holds (λ b z. (g : Bool) × Postfix Exp Body g x z b × Fits limit b × Quiet g z) limit (expr_height (tree.update up false a)) (tree.update up false a) (tail y)
          (λ le. (false, stepped (subst (λ v. LeftHandSide Exp Body true x v a) c.1 h.0) c.2, le, λ t. absurd (cc)))

  pub operated_holds : (x : List Lexeme) (f : Prefix) → prefix_of (sign_at x) ≡ Some f → Holds (λ b z. (g : Bool) × Unary Exp Body g x z b × Fits limit b × Quiet g z) (reader.operated limit exp body f (tail x))
  unfolding reader.operated
  operated_holds x f e =
      let c = signed_by_table prefix_of x f refl e in
      then_holds _ (inner.binaries true 11 (tail x) (omega arith)) (λ a y h.
      limit_holds (λ b z. (g : Bool) × Unary Exp Body g x z b × Fits limit b × Quiet g z) limit (expr_height (prefixed f a)) (prefixed f a) y
      (λ le. (h.0, subst (λ v. Unary Exp Body h.0 v y (prefixed f a)) (sym c.2) (operated c.3 h.1), le, h.3)))

  pub unary_holds : (x : List Lexeme) → Holds (λ b z. (g : Bool) × Unary Exp Body g x z b × Fits limit b × Quiet g z) (reader.unary limit exp body x)
  unfolding reader.unary
  unary_holds x = by_prefix (prefix_of (sign_at x)) refl
    where
      by_prefix : (o : Option Prefix) → prefix_of (sign_at x) ≡ o → Holds (λ b z. (g : Bool) × Unary Exp Body g x z b × Fits limit b × Quiet g z) (reader.unary_by limit exp body o x)
      by_prefix None e = then_holds _ (left_holds true x) (λ a y h. held (λ b z k. (k.0, is_postfix k.1, k.2, k.3)) (postfix_holds x y a h))
      by_prefix (Some f) e = operated_holds x f e
