-- An expression that begins with a group is read as the grammar has it, where the inside of the group is.
use Rattle.std.proofs.Common.{◌≡◌, ℕ, suc, ◌<◌, ◌≤◌, Bool, true, false, List, [], ◌∷◌, ◌++◌, length, Some, None, refl, sym, ap, ◌∙◌, arith}
use Rattle.js_core.specs.Tree as tree
use Rattle.js_core.specs.Tree.{exprs_of, stmts_of}
use Rattle.js_core.specs.Height.{expr_height, exprs_height, stmts_height}
use Rattle.js_core.specs.declared.token.Punct.TheVariants as p
use Rattle.js_grammar.specs.declared.sign.Sign.TheVariants.{Mark}
use Rattle.js_grammar.specs.Symbols.{Lexeme, sign_at}
use Rattle.js_grammar.specs.Operators.{Level, sequence, assignment, binary, climbs, level_of, is_suffix, assignment_of}
use Rattle.js_grammar.specs.Parser.{Parser, Outcome, and_then, sees, sees_comma, expect, eat, repeat, added_behind_comma}
use Rattle.js_grammar.specs.Phrases.{Phrase, mark, Separated, only, further}
use Rattle.js_grammar.specs.Expressions.{sequence_of, grouped, Member, is_primary, dotted, indexed, called, LeftHandSide, is_member, is_call, Postfix, is_left, stepped, Unary, is_postfix, operated, Binary, is_unary, tighter, combines, Assignment, is_binary, chosen, assigned, Sequence, sequenced}
use Rattle.js_grammar.specs.ExpressionReader as reader
use Rattle.js_grammar.specs.ExpressionReader.{has_suffix, has_operator}
use Rattle.js_grammar.proofs.Heights.{Each, each_but_last, Fits}
use Rattle.js_grammar.proofs.ExpressionShapes.{member_shorter, left_shorter, binary_shorter, assignment_shorter}
use Rattle.js_grammar.proofs.ListShapes.{separated_shorter}
use Rattle.js_grammar.proofs.ListsRead.{one_more}
use Rattle.js_grammar.proofs.Signs.{no_tighter, not_above, infix_no_assignment, step_no_suffix, step_no_assignment, assignment_no_suffix, no_assignment, no_question}
use Rattle.js_grammar.proofs.Steps.{then_reads, kept, stays}
use Rattle.js_grammar.proofs.Stops.{Quiet, Stops}
use Rattle.js_grammar.proofs.Inner.{Inner}
use Rattle.js_grammar.proofs.LeftReads.{Rest, dot_step, index_step, call_step}
use Rattle.js_grammar.proofs.BinaryReads.{combined_fits, operator_quiet, operation_step}
use Rattle.js_grammar.proofs.ExpressionReads.{sequence_fits, assignment_reads, joined_reads}
use Rattle.js_grammar.proofs.LowerExpressions.{combined_lower, IsLower, items_lower, no_items, arguments_kept, assignment_lower}

pub then_then : {A B C : Type 0} (o : Outcome A) (f : A → Parser B) (g : B → Parser C) → and_then (and_then o f) g ≡ and_then o (λ a i. and_then (f a i) g)
then_then None f g = refl
then_then (Some q) f g = refl

module _ (limit : ℕ) (exp : Bool → Level → Parser tree.Expr) (body : Parser (List tree.Stmt)) where
  -- the left-hand side that begins with a group
  head : Outcome tree.Expr → Outcome tree.Expr
  head group = and_then group (λ a i. and_then (expect (Mark p.RightParenthesis) i) (λ u. reader.suffixes limit exp body true a))

  closing_is : (group : Outcome tree.Expr) → and_then group (reader.closing limit exp body) ≡ and_then (and_then (head group) (reader.assigned limit exp body true)) (reader.all_from limit exp body true)
  unfolding head reader.closing
  closing_is None = refl
  closing_is (Some q) = by (expect (Mark p.RightParenthesis) q.1)
    where
      by : (o : Outcome (Unit {0})) → and_then o (λ u i. and_then (reader.suffixes limit exp body true q.0 i) (λ t j. and_then (reader.assigned limit exp body true t j) (reader.all_from limit exp body true))) ≡ and_then (and_then (and_then o (λ u. reader.suffixes limit exp body true q.0)) (reader.assigned limit exp body true)) (reader.all_from limit exp body true)
      by None = refl
      by (Some r) = sym (then_then (reader.suffixes limit exp body true q.0 r.1) (reader.assigned limit exp body true) (reader.all_from limit exp body true))

-- `Exp` and `Body` are what stands inside by the grammar, and the others what of it is read: what is lower. The group begins
-- with `(` before the lexemes `start`.
module _ (limit : ℕ) (exp : Bool → Level → Parser tree.Expr) (body : Parser (List tree.Stmt)) (Exp : Bool → Level → Bool → Phrase tree.Expr) (Body : Phrase (List tree.Stmt)) (shorter : (inn : Bool) (level : Level) (g : Bool) (x z : List Lexeme) (a : tree.Expr) → Exp inn level g x z a → length z < length x) (body_shorter : (x z : List Lexeme) (found : List tree.Stmt) → Body x z found → length z ≤ length x) (LowExp : Bool → Level → Bool → Phrase tree.Expr) (LowBody : Phrase (List tree.Stmt)) (bound : ℕ) (inner : Inner limit exp body LowExp LowBody bound) (most : ℕ) (lower : (inn : Bool) (level : Level) (g : Bool) (x z : List Lexeme) (a : tree.Expr) → Exp inn level g x z a → expr_height a < most → LowExp inn level g x z a) (lower_body : (x z : List Lexeme) (found : List tree.Stmt) → Body x z found → stmts_height (stmts_of found) < most → LowBody x z found) (l : Bool) (start : List Lexeme) (short : length start < bound) (group : Outcome tree.Expr) (group_reads : (k g : Bool) (z : List Lexeme) (a : tree.Expr) → Exp true sequence g start (mark p.RightParenthesis k ∷ z) a → expr_height a ≤ most → Fits limit a → group ≡ Some (a, mark p.RightParenthesis k ∷ z)) where
  member_behind : {c : Bool} {z : List Lexeme} {a : tree.Expr} (r : Outcome tree.Expr) → Member Exp Body c (mark p.LeftParenthesis l ∷ start) z a → expr_height a ≤ most → Fits limit a → Rest limit exp body LowExp LowBody bound inner true a z r → head limit exp body group ≡ r
  unfolding head Rest reader.suffixes expect sees
  member_behind r (is_primary (grouped {g = g} {k = k} {z = z} {a = a} h)) le f rest =
      then_reads _ (group_reads k g z a h le f) (rest (length z) (omega arith))
  member_behind r (dotted {l = j} {k = k} {s = s} {w = w} {z = z} {a = a} h e) le f rest =
      member_behind r h (omega arith) (omega arith) (dot_step limit exp body LowExp LowBody bound inner true j k s w z a r e f rest)
  member_behind r (indexed {g = g} {l = j} {k = k} {y = y} {z = z} {a = a} {b = b} h i) le f rest =
      let a1 = member_shorter Exp Body shorter body_shorter h in
      member_behind r h (omega arith) (omega arith) (index_step limit exp body LowExp LowBody bound inner true g j k y z a b r (lower true sequence g y (mark p.RightBracket k ∷ z) b i (omega arith)) (omega arith) f rest)
  member_behind r (called {l = j} {y = y} {z = z} {a = a} {found = found} h i) le f rest =
      let a1 = member_shorter Exp Body shorter body_shorter h in
      let m = exprs_height (exprs_of found) in
      member_behind r h (omega arith) (omega arith) (call_step limit exp body LowExp LowBody bound inner true j y z a found r refl (arguments_kept Exp Body LowExp LowBody most lower lower_body m (omega arith) i (omega arith)) (omega arith) f rest)

  left_behind : {z : List Lexeme} {a : tree.Expr} → LeftHandSide Exp Body true (mark p.LeftParenthesis l ∷ start) z a → expr_height a ≤ most → Fits limit a → is_suffix true (sign_at z) ≡ false → head limit exp body group ≡ Some (a, z)
  unfolding Rest
  left_behind {z = z} {a = a} (is_member h) le f s = member_behind (Some (a, z)) h le f (λ m le. stays (has_suffix true) (reader.suffix limit exp body) m a z s)
  left_behind {z = z} {a = a} (is_call h) le f s = member_behind (Some (a, z)) h le f (λ m le. stays (has_suffix true) (reader.suffix limit exp body) m a z s)

  postfix_behind : {g : Bool} {z : List Lexeme} {a : tree.Expr} → Postfix Exp Body g (mark p.LeftParenthesis l ∷ start) z a → expr_height a ≤ most → Fits limit a → Quiet g z → assignment_of (sign_at z) ≡ None → and_then (head limit exp body group) (reader.assigned limit exp body true) ≡ reader.rest limit exp body true a z
  unfolding reader.postfix reader.assigned
  postfix_behind (is_left h) le f q n = then_reads _ (left_behind h le f (q refl).0) (rw n (rw ((q refl).1) refl))
  postfix_behind (stepped {s = s} {up = up} {z = z} {a = a} h e) le f q n =
      then_reads _ (left_behind h (omega arith) (omega arith) (step_no_suffix s e))
      (rw (step_no_assignment s e) (rw e (then_reads _ (kept limit (expr_height (tree.update up false a)) (tree.update up false a) z f) refl)))

  unary_behind : {g : Bool} {z : List Lexeme} {a : tree.Expr} → Unary Exp Body g (mark p.LeftParenthesis l ∷ start) z a → expr_height a ≤ most → Fits limit a → Quiet g z → assignment_of (sign_at z) ≡ None → and_then (head limit exp body group) (reader.assigned limit exp body true) ≡ reader.rest limit exp body true a z
  unary_behind (is_postfix h) le f q n = postfix_behind h le f q n
  unary_behind (operated e h) le f q n = absurd (cc)

  binary_behind : {m : ℕ} {g : Bool} {y : List Lexeme} {a : tree.Expr} (r : Outcome tree.Expr) → Binary Exp Body true m g (mark p.LeftParenthesis l ∷ start) y a → 1 ≤ m → expr_height a ≤ most → Fits limit a → Quiet g y → climbs true (suc m) (sign_at y) ≡ false → assignment_of (sign_at y) ≡ None → ((k : ℕ) → length y ≤ k → repeat (has_operator true 1) (reader.operation limit exp body true) k a y ≡ r) → and_then (head limit exp body group) (reader.assigned limit exp body true) ≡ and_then r (reader.choice limit exp body true)
  unfolding reader.operations reader.rest
  binary_behind r (is_unary {z = z} h) low le f q c n k = unary_behind h le f q n ∙ ap (λ o. and_then o (reader.choice limit exp body true)) (k (length z) (omega arith))
  binary_behind r (tighter {n = m} {z = z} h) low le f q c n k = binary_behind r h (omega arith) le f q (no_tighter true (suc m) (sign_at z) c) n k
  binary_behind r (combines {g = g} {h = j} {l = i} {s = s} {f = o} {y = y} {z = z} {a = a} {b = b} e h t) low le f q c n k =
      let a1 = binary_shorter Exp Body shorter body_shorter h in
      let lt = combined_lower o a b most le in
      let left : expr_height a < most = lt.0 in
      binary_behind r h low (omega arith) (combined_fits limit o a b f).0 (operator_quiet true s i g y e) (rw e (not_above (level_of o))) (infix_no_assignment true s e)
      (λ m less. operation_step limit exp body LowExp LowBody bound inner true 1 s o j i y z a b r m e low (lower true (binary (suc (level_of o))) j y z b t lt.1) (omega arith) f q c less k)

  levels_behind : {g : Bool} {z : List Lexeme} {a : tree.Expr} → Binary Exp Body true 1 g (mark p.LeftParenthesis l ∷ start) z a → expr_height a ≤ most → Fits limit a → Quiet g z → climbs true 1 (sign_at z) ≡ false → assignment_of (sign_at z) ≡ None → and_then (head limit exp body group) (reader.assigned limit exp body true) ≡ reader.choice limit exp body true a z
  levels_behind {z = z} {a = a} h le f q c n =
      binary_behind (Some (a, z)) h (omega arith) le f q (no_tighter true 1 (sign_at z) c) n (λ m less. stays (has_operator true 1) (reader.operation limit exp body true) m a z c)

  assignment_behind : (g : Bool) (z : List Lexeme) (a : tree.Expr) → Assignment Exp Body true g (mark p.LeftParenthesis l ∷ start) z a → expr_height a ≤ most → Fits limit a → Stops true assignment g z → and_then (head limit exp body group) (reader.assigned limit exp body true) ≡ Some (a, z)
  unfolding reader.assigned reader.choice eat expect sees
  assignment_behind g z a (is_binary h) le f s = levels_behind h le f s.0 s.1 (no_assignment (sign_at z) s.2) ∙ no_choice
    where
      no_choice : reader.choice limit exp body true a z ≡ Some (a, z)
      no_choice = rw (no_question (sign_at z) s.2) refl
  assignment_behind g z e (chosen {g = i} {h = j} {k = k} {y = y} {v = v} {a = a} {b = b} {c = c} h u w) le f s =
      let a1 = binary_shorter Exp Body shorter body_shorter h in
      let a2 = shorter true assignment j y (mark p.Colon k ∷ v) b u in
      levels_behind h (omega arith) (omega arith) (λ e. (refl, refl)) refl refl
      ∙ then_reads _ (inner.reads true assignment j y (mark p.Colon k ∷ v) b (lower true assignment j y (mark p.Colon k ∷ v) b u (omega arith)) (omega arith) (omega arith) ((λ e. (refl, refl)), refl, refl))
      (then_reads _ (inner.reads true assignment g v z c (lower true assignment g v z c w (omega arith)) (omega arith) (omega arith) s)
      (kept limit (expr_height (tree.conditional a b c)) (tree.conditional a b c) z f))
  assignment_behind g z e (assigned {s = o} {f = t} {y = y} {a = a} {b = b} h n u) le f s =
      let a1 = left_shorter Exp Body shorter body_shorter h in
      then_reads _ (left_behind h (omega arith) (omega arith) (assignment_no_suffix o n))
      (rw n (then_reads _ (inner.reads true assignment g y z b (lower true assignment g y z b u (omega arith)) (omega arith) (omega arith) s)
      (kept limit (expr_height (tree.assign t a b)) (tree.assign t a b) z f)))

  -- ---- the assignment expressions with commas between them

  Lower : tree.Expr → Type 0
  Lower a = IsLower most a × Fits limit a

  separated_behind : {g : Bool} {y : List Lexeme} {found : List tree.Expr} (r : Outcome (List tree.Expr)) → Separated (Assignment Exp Body true) g (mark p.LeftParenthesis l ∷ start) y found → Each Lower found → Stops true assignment g y → ((m : ℕ) → length y ≤ m → repeat sees_comma (added_behind_comma (reader.one limit exp body true)) m found y ≡ r) → and_then (and_then (head limit exp body group) (reader.assigned limit exp body true)) (reader.more_items limit exp body true) ≡ r
  unfolding Lower
  separated_behind r (only {i = g} {z = z} {a = a} h) f s k =
      let low : expr_height a < most = f.0.0 in
      then_reads _ (assignment_behind g z a h (omega arith) f.0.1 s) (k (length z) (omega arith))
  separated_behind r (further {i = g} {j = j} {l = c} {y = y} {z = z} {found = found} {a = a} h e) f s k =
      let fits = each_but_last Lower found a f in
      let a1 = separated_shorter (Assignment Exp Body true) (assignment_shorter Exp Body shorter body_shorter true) h in
      separated_behind r h fits.0 ((λ e. (refl, refl)), refl, refl)
      (λ m less. one_more (Assignment LowExp LowBody true) (reader.one limit exp body true) (Fits limit) (Stops true assignment) (suc bound) (assignment_reads limit exp body LowExp LowBody bound inner true) (assignment_shorter LowExp LowBody inner.shorter inner.body_shorter true) (λ i l y. ((λ e. (refl, refl)), refl, refl)) c y z found a r m (assignment_lower Exp Body LowExp LowBody most lower lower_body true j y z a e fits.1.0) (omega arith) fits.1.1 s less k)

  both : (found : List tree.Expr) → Each (IsLower most) found → Each (Fits limit) found → Each Lower found
  unfolding Lower
  both [] h k = tt
  both (a ∷ rest) h k = ((h.0, k.0), both rest h.1 k.1)

  items_behind : {g : Bool} {z : List Lexeme} {found : List tree.Expr} → Separated (Assignment Exp Body true) g (mark p.LeftParenthesis l ∷ start) z found → expr_height (sequence_of found) ≤ most → Fits limit (sequence_of found) → Stops true sequence g z → and_then (and_then (head limit exp body group) (reader.assigned limit exp body true)) (reader.more_items limit exp body true) ≡ Some (found, z)
  items_behind {z = z} (only {i = g} {a = a} h) le f s =
      then_reads _ (assignment_behind g z a h le f (s.0, s.1, s.2)) (stays sees_comma (added_behind_comma (reader.one limit exp body true)) (length z) (a ∷ []) z s.3)
  items_behind (further {found = []} h e) le f s = no_items h refl
  items_behind {z = z} (further {found = c ∷ rest} {a = a} h e) le f s =
      let found = (c ∷ rest) ++ a ∷ [] in
      separated_behind (Some (found, z)) (further h e) (both found (items_lower most c rest a le) (sequence_fits limit found f)) (s.0, s.1, s.2) (λ m less. stays sees_comma (added_behind_comma (reader.one limit exp body true)) m found z s.3)

  pub sequence_behind : {g : Bool} {z : List Lexeme} {a : tree.Expr} → Sequence Exp Body true g (mark p.LeftParenthesis l ∷ start) z a → expr_height a ≤ most → Fits limit a → Stops true sequence g z → and_then group (reader.closing limit exp body) ≡ Some (a, z)
  unfolding reader.all_from
  sequence_behind {z = z} (sequenced {found = found} h) le f s =
      closing_is limit exp body group
      ∙ sym (then_then (and_then (head limit exp body group) (reader.assigned limit exp body true)) (reader.more_items limit exp body true) (reader.joined limit exp body))
      ∙ then_reads _ (items_behind h le f s) (joined_reads limit exp body LowExp LowBody bound inner found z f)
