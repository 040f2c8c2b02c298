-- Left-hand sides are read as the grammar has them.
use Rattle.std.proofs.Common.{◌≡◌, ℕ, zero, suc, ◌<◌, ◌≤◌, Bool, true, false, List, [], ◌∷◌, length, Some, None, refl, ◌∙◌, arith}
use Rattle.js_core.specs.Tree as tree
use Rattle.js_core.specs.Tree.{exprs_of}
use Rattle.js_core.specs.Height.{expr_height}
use Rattle.js_core.specs.declared.token.Punct.TheVariants as p
use Rattle.js_core.specs.declared.keyword.Keyword.TheVariants as kw
use Rattle.js_grammar.specs.Symbols.{Symbol, Lexeme, member_name, sign_at}
use Rattle.js_grammar.specs.Operators.{Level, sequence, construction, member, is_suffix, prefix_of}
use Rattle.js_grammar.specs.Parser.{Parser, Outcome, sees, expect, eat, taken, repeat}
use Rattle.js_grammar.specs.Phrases.{Phrase, mark, word}
use Rattle.js_grammar.specs.Expressions.{Arguments, Primary, this_value, null_value, true_value, false_value, named, numeral, string, array, object, grouped, anonymous, function, Member, is_primary, dotted, indexed, called, constructed, LeftHandSide, is_member, is_call, constructed_plainly}
use Rattle.js_grammar.specs.ExpressionReader as reader
use Rattle.js_grammar.specs.ExpressionReader.{has_suffix}
use Rattle.js_grammar.proofs.Heights.{Fits}
use Rattle.js_grammar.proofs.ExpressionShapes.{arguments_shorter, member_shorter}
use Rattle.js_grammar.proofs.Steps.{then_reads, kept, stays}
use Rattle.js_grammar.proofs.Signs.{fewer_suffixes, no_call}
use Rattle.js_grammar.proofs.Inner.{Inner}
use Rattle.js_grammar.proofs.PrimaryReads.{primary_reads, arguments_read}

module _ (limit : ℕ) (exp : Bool → Level → Parser tree.Expr) (body : Parser (List tree.Stmt)) (Exp : Bool → Level → Bool → Phrase tree.Expr) (Body : Phrase (List tree.Stmt)) (bound : ℕ) (inner : Inner limit exp body Exp Body bound) where
  -- one more suffix, and then those behind it
  unfoldable pub Rest : Bool → tree.Expr → List Lexeme → Outcome tree.Expr → Type 0
  Rest calls a z r = (n : ℕ) → length z ≤ n → repeat (has_suffix calls) (reader.suffix limit exp body) n a z ≡ r

  pub dot_step : (calls l k : Bool) (s : Symbol) (w : List ℕ) (z : List Lexeme) (a : tree.Expr) (r : Outcome tree.Expr) → member_name s ≡ Some w → Fits limit (tree.member a w) → Rest calls (tree.member a w) z r → Rest calls a (mark p.Dot l ∷ (s, k) ∷ z) r
  unfolding Rest reader.suffix reader.dotted taken
  dot_step calls l k s w z a r e f h zero le = absurd (omega arith)
  dot_step calls l k s w z a r e f h (suc m) le =
      then_reads {r = reader.suffix limit exp body a (mark p.Dot l ∷ (s, k) ∷ z)} _ (rw e (kept limit (expr_height (tree.member a w)) (tree.member a w) z f)) (h m (omega arith))

  pub index_step : (calls g l k : Bool) (y z : List Lexeme) (a b : tree.Expr) (r : Outcome tree.Expr) → Exp true sequence g y (mark p.RightBracket k ∷ z) b → length y < bound → Fits limit (tree.index a b) → Rest calls (tree.index a b) z r → Rest calls a (mark p.LeftBracket l ∷ y) r
  unfolding Rest reader.suffix reader.indexed expect sees
  index_step calls g l k y z a b r i lt f h zero le = absurd (omega arith)
  index_step calls g l k y z a b r i lt f h (suc m) le =
      let a1 = inner.shorter true sequence g y (mark p.RightBracket k ∷ z) b i in
      then_reads {r = reader.suffix limit exp body a (mark p.LeftBracket l ∷ y)} _
      (then_reads _ (inner.reads true sequence g y (mark p.RightBracket k ∷ z) b i lt (omega arith) ((λ e. (refl, refl)), refl, refl, refl)) (kept limit (expr_height (tree.index a b)) (tree.index a b) z f))
      (h m (omega arith))

  pub call_step : (calls l : Bool) (y z : List Lexeme) (a : tree.Expr) (found : List tree.Expr) (r : Outcome tree.Expr) → calls ≡ true → Arguments Exp Body y z found → length y < bound → Fits limit (tree.call a (exprs_of found)) → Rest calls (tree.call a (exprs_of found)) z r → Rest calls a (mark p.LeftParenthesis l ∷ y) r
  unfolding Rest reader.suffix reader.called
  call_step calls l y z a found r e i lt f h zero le = absurd (omega arith)
  call_step calls l y z a found r e i lt f h (suc m) le =
      let a1 = arguments_shorter Exp Body inner.shorter inner.body_shorter i in
      rw e (then_reads {r = reader.suffix limit exp body a (mark p.LeftParenthesis l ∷ y)} _
      (then_reads _ (arguments_read limit exp body Exp Body bound inner i lt (omega arith)) (kept limit (expr_height (tree.call a (exprs_of found))) (tree.call a (exprs_of found)) z f))
      (h m (omega arith)))

  primary_first : (calls : Bool) {x y : List Lexeme} {a : tree.Expr} (r : Outcome tree.Expr) → Primary Exp Body x y a → length x < suc bound → Fits limit a → Rest calls a y r → reader.left limit exp body calls x ≡ r
  unfolding Rest reader.left reader.suffixes
  primary_first calls {y = y} r this_value lt f k = then_reads _ (primary_reads limit exp body Exp Body bound inner this_value lt f) (k (length y) (omega arith))
  primary_first calls {y = y} r null_value lt f k = then_reads _ (primary_reads limit exp body Exp Body bound inner null_value lt f) (k (length y) (omega arith))
  primary_first calls {y = y} r true_value lt f k = then_reads _ (primary_reads limit exp body Exp Body bound inner true_value lt f) (k (length y) (omega arith))
  primary_first calls {y = y} r false_value lt f k = then_reads _ (primary_reads limit exp body Exp Body bound inner false_value lt f) (k (length y) (omega arith))
  primary_first calls {y = y} r named lt f k = then_reads _ (primary_reads limit exp body Exp Body bound inner named lt f) (k (length y) (omega arith))
  primary_first calls {y = y} r numeral lt f k = then_reads _ (primary_reads limit exp body Exp Body bound inner numeral lt f) (k (length y) (omega arith))
  primary_first calls {y = y} r string lt f k = then_reads _ (primary_reads limit exp body Exp Body bound inner string lt f) (k (length y) (omega arith))
  primary_first calls {y = y} r (array h) lt f k = then_reads _ (primary_reads limit exp body Exp Body bound inner (array h) lt f) (k (length y) (omega arith))
  primary_first calls {y = y} r (object h) lt f k = then_reads _ (primary_reads limit exp body Exp Body bound inner (object h) lt f) (k (length y) (omega arith))
  primary_first calls {y = y} r (grouped h) lt f k = then_reads _ (primary_reads limit exp body Exp Body bound inner (grouped h) lt f) (k (length y) (omega arith))
  primary_first calls {y = y} r (anonymous h) lt f k = then_reads _ (primary_reads limit exp body Exp Body bound inner (anonymous h) lt f) (k (length y) (omega arith))
  primary_first calls {y = y} r (function h) lt f k = then_reads _ (primary_reads limit exp body Exp Body bound inner (function h) lt f) (k (length y) (omega arith))

  -- `new` with arguments
  built : (calls g l k : Bool) (x y z : List Lexeme) (a : tree.Expr) (found : List tree.Expr) (r : Outcome tree.Expr) → Exp true member g x (mark p.LeftParenthesis k ∷ y) a → Arguments Exp Body y z found → length x < bound → Fits limit (tree.construct a (exprs_of found)) → Rest calls (tree.construct a (exprs_of found)) z r → reader.left limit exp body calls (word kw.New l ∷ x) ≡ r
  unfolding Rest reader.left reader.constructed reader.suffixes eat sees
  built calls g l k x y z a found r h i lt f rest =
      let a1 = inner.shorter true member g x (mark p.LeftParenthesis k ∷ y) a h in
      then_reads _ (inner.same x ∙ inner.reads true member g x (mark p.LeftParenthesis k ∷ y) a h lt (omega arith) refl)
      (then_reads _ (arguments_read limit exp body Exp Body bound inner i (omega arith) (omega arith))
      (then_reads _ (kept limit (expr_height (tree.construct a (exprs_of found))) (tree.construct a (exprs_of found)) z f)
      (rest (length z) (omega arith))))

  member_from : {c : Bool} {x y : List Lexeme} {a : tree.Expr} (calls : Bool) (r : Outcome tree.Expr) → Member Exp Body c x y a → (c ≡ true → calls ≡ true) → length x < suc bound → Fits limit a → Rest calls a y r → reader.left limit exp body calls x ≡ r
  unfolding Rest
  member_from calls r (is_primary h) e lt f k = primary_first calls r h lt f k
  member_from calls r (dotted {l = l} {k = j} {s = s} {w = w} {z = z} {a = a} h n) e lt f k =
      member_from calls r h e lt (omega arith) (dot_step calls l j s w z a r n f k)
  member_from calls r (indexed {g = g} {l = l} {k = j} {y = y} {z = z} {a = a} {b = b} h i) e lt f k =
      let a1 = member_shorter Exp Body inner.shorter inner.body_shorter h in
      member_from calls r h e lt (omega arith) (index_step calls g l j y z a b r i (omega arith) f k)
  member_from calls r (called {l = l} {y = y} {z = z} {a = a} {found = found} h i) e lt f k =
      let a1 = member_shorter Exp Body inner.shorter inner.body_shorter h in
      member_from calls r h (λ c. e refl) lt (omega arith) (call_step calls l y z a found r (e refl) i (omega arith) f k)
  member_from calls r (constructed {g = g} {l = l} {k = j} {x = x} {y = y} {z = z} {a = a} {found = found} h i) e lt f k = built calls g l j x y z a found r h i (omega arith) f k

  pub left_reads : (calls : Bool) {x z : List Lexeme} {a : tree.Expr} → LeftHandSide Exp Body calls x z a → length x < suc bound → Fits limit a → is_suffix true (sign_at z) ≡ false → reader.left limit exp body calls x ≡ Some (a, z)
  unfolding Rest reader.left reader.constructed eat sees
  left_reads calls {z = z} {a = a} (is_member h) lt f s =
      member_from calls (Some (a, z)) h (λ e. absurd (cc)) lt f (λ m le. stays (has_suffix calls) (reader.suffix limit exp body) m a z (fewer_suffixes calls (sign_at z) s))
  left_reads calls {z = z} {a = a} (is_call h) lt f s =
      member_from true (Some (a, z)) h (λ e. refl) lt f (λ m le. stays (has_suffix true) (reader.suffix limit exp body) m a z s)
  left_reads calls {z = z} (constructed_plainly {g = g} {x = x} {a = a} h) lt f s =
      then_reads _ (inner.reads true construction g x z a h (omega arith) (omega arith) s)
      (rw (no_call (sign_at z) s) (kept limit (expr_height (tree.construct a (exprs_of []))) (tree.construct a (exprs_of [])) z f))

  -- a member expression, behind which a call may stand
  pub member_reads : {x z : List Lexeme} {a : tree.Expr} → Member Exp Body false x z a → length x < suc bound → Fits limit a → is_suffix false (sign_at z) ≡ false → reader.left limit exp body false x ≡ Some (a, z)
  unfolding Rest
  member_reads {z = z} {a = a} h lt f s =
      member_from false (Some (a, z)) h (λ e. e) lt f (λ m le. stays (has_suffix false) (reader.suffix limit exp body) m a z s)

-- what a left-hand side begins with is no prefix operator
module _ (Exp : Bool → Level → Bool → Phrase tree.Expr) (Body : Phrase (List tree.Stmt)) where
  member_no_prefix : {c : Bool} {x z : List Lexeme} {a : tree.Expr} → Member Exp Body c x z a → prefix_of (sign_at x) ≡ None
  member_no_prefix (is_primary this_value) = refl
  member_no_prefix (is_primary null_value) = refl
  member_no_prefix (is_primary true_value) = refl
  member_no_prefix (is_primary false_value) = refl
  member_no_prefix (is_primary named) = refl
  member_no_prefix (is_primary numeral) = refl
  member_no_prefix (is_primary string) = refl
  member_no_prefix (is_primary (array h)) = refl
  member_no_prefix (is_primary (object h)) = refl
  member_no_prefix (is_primary (grouped h)) = refl
  member_no_prefix (is_primary (anonymous h)) = refl
  member_no_prefix (is_primary (function h)) = refl
  member_no_prefix (dotted h e) = member_no_prefix h
  member_no_prefix (indexed h i) = member_no_prefix h
  member_no_prefix (called h i) = member_no_prefix h
  member_no_prefix (constructed h i) = refl

  pub left_no_prefix : {calls : Bool} {x z : List Lexeme} {a : tree.Expr} → LeftHandSide Exp Body calls x z a → prefix_of (sign_at x) ≡ None
  left_no_prefix (is_member h) = member_no_prefix h
  left_no_prefix (is_call h) = member_no_prefix h
  left_no_prefix (constructed_plainly h) = refl
