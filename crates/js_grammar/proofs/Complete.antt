-- Scripts are read as the grammar has them, however deep they nest.
use Rattle.std.specs.Prelude.{if◌then◌else◌}
use Rattle.std.proofs.Common.{◌≡◌, ℕ, zero, suc, ◌+◌, ◌*◌, ◌<◌, ◌≤◌, Bool, true, false, List, [], ◌∷◌, length, Some, refl, sym, subst, ap, arith}
use Rattle.js_core.specs.Tree as tree
use Rattle.js_core.specs.Tree.{stmts_of}
use Rattle.js_core.specs.Height.{expr_height, stmt_height, stmts_height}
use Rattle.js_core.specs.declared.token.Token.{Token}
use Rattle.js_core.specs.declared.token.Punct.TheVariants as p
use Rattle.js_grammar.specs.Symbols.{Lexeme, lexemes, sign_at}
use Rattle.js_grammar.specs.declared.sign.Sign.TheVariants.{Mark}
use Rattle.js_grammar.specs.Operators.{Level, sequence, assignment, binary, construction, member}
use Rattle.js_grammar.specs.Parser.{Parser, and_then, sees, tail}
use Rattle.js_grammar.specs.Phrases.{Phrase, mark}
use Rattle.js_grammar.specs.Expressions.{AtLevel, Sequence}
use Rattle.js_grammar.specs.ExpressionReader.{at_level, closing}
use Rattle.js_grammar.specs.Statements.{body_of, Statement, block}
use Rattle.js_grammar.specs.Scripts.{Nested, Derives}
use Rattle.js_grammar.specs.Scripts as part
use Rattle.js_grammar.specs.StatementReader.{has_more}
use Rattle.js_grammar.specs.ScriptReader.{inside, room_of, whole, read_script}
use Rattle.js_grammar.specs.ScriptReader as what
use Rattle.js_grammar.proofs.Beginnings.{can_begin}
use Rattle.js_grammar.proofs.Heights.{Fits}
use Rattle.js_grammar.proofs.StatementHeights.{StatementFits}
use Rattle.js_grammar.proofs.ExpressionShapes.{level_shorter, level_begins}
use Rattle.js_grammar.proofs.StatementShapes.{is_behind, statement_shorter, elements_shorter, statement_begins}
use Rattle.js_grammar.proofs.Stops.{Stops}
use Rattle.js_grammar.proofs.Inner.{Inner}
use Rattle.js_grammar.proofs.InnerStatements.{InnerStatements}
use Rattle.js_grammar.proofs.ExpressionReads.{level_reads}
use Rattle.js_grammar.proofs.StatementReads.{statement_reads, elements_read}
use Rattle.js_grammar.proofs.Holds.{seen}
use Rattle.js_grammar.proofs.LowerExpressions.{level_kept}
use Rattle.js_grammar.proofs.LowerStatements.{braced_lower, statement_lower, elements_lower}
use Rattle.js_grammar.proofs.GroupReads.{sequence_behind}

-- what parts take and begin with
pub record Shapes (depth : ℕ) : Type 0 where
  pub shorter : (inn : Bool) (level : Level) (g : Bool) (x z : List Lexeme) (a : tree.Expr) → Nested depth (part.expression inn level g) x z a → length z < length x
  pub body_shorter : (x z : List Lexeme) (found : List tree.Stmt) → Nested depth part.body x z found → length z ≤ length x
  pub statement_shorter : (x z : List Lexeme) (s : tree.Stmt) → Nested depth part.statement x z s → length z < length x
  pub begins : (inn : Bool) (level : Level) (g : Bool) (x z : List Lexeme) (a : tree.Expr) → Nested depth (part.expression inn level g) x z a → can_begin (sign_at x) ≡ true
  pub statement_begins : (x z : List Lexeme) (s : tree.Stmt) → Nested depth part.statement x z s → is_behind (sign_at x) ≡ false

pub shapes : (depth : ℕ) → Shapes depth
shapes zero =
    record {
      shorter = λ inn level g x z a h. absurd h;
      body_shorter = λ x z found h. absurd h;
      statement_shorter = λ x z s h. absurd h;
      begins = λ inn level g x z a h. absurd h;
      statement_begins = λ x z s h. absurd h;
    }
shapes (suc depth) =
    let i = shapes depth in
    record {
      shorter = level_shorter (λ inn level g. Nested depth (part.expression inn level g)) (Nested depth part.body) i.shorter i.body_shorter;
      body_shorter = elements_shorter (λ inn level g. Nested depth (part.expression inn level g)) (Nested depth part.body) (Nested depth part.statement) i.shorter i.body_shorter i.statement_shorter;
      statement_shorter = statement_shorter (λ inn level g. Nested depth (part.expression inn level g)) (Nested depth part.body) (Nested depth part.statement) i.shorter i.body_shorter i.statement_shorter;
      begins = level_begins (λ inn level g. Nested depth (part.expression inn level g)) (Nested depth part.body);
      statement_begins = statement_begins (λ inn level g. Nested depth (part.expression inn level g)) (Nested depth part.body) (Nested depth part.statement);
    }

-- how deep the parts of an expression nest at most, and it with them, but for groups with which they begin
abbrev pub need : Level → Bool → tree.Expr → ℕ
need sequence true a = 2 * expr_height a + 1
need level inn a = 2 * expr_height a + 2

abbrev pub need_statement : tree.Stmt → ℕ
need_statement (tree.block found) = 2 * stmt_height (tree.block found) + 1
need_statement s = 2 * stmt_height s + 2

abbrev pub need_body : List tree.Stmt → ℕ
need_body found = 2 * stmts_height (stmts_of found) + 2

-- no expression needs more, and a group no more than that but one
need_most : (level : Level) (inn : Bool) (a : tree.Expr) → need level inn a ≤ 2 * expr_height a + 2
need_most sequence true a = omega arith
need_most sequence false a = omega arith
need_most assignment inn a = omega arith
need_most (binary n) inn a = omega arith
need_most construction inn a = omega arith
need_most member inn a = omega arith

statement_need_most : (s : tree.Stmt) → need_statement s ≤ 2 * stmt_height s + 2
statement_need_most (tree.block found) = omega arith
statement_need_most _ = omega arith

-- a block that is the body of a statement is as high as that
body_need : (s : tree.Stmt) (most room : ℕ) → stmts_height (body_of s) < most → 2 * most + 1 ≤ room → need_statement s ≤ room
body_need (tree.block found) most room lt le = omega arith
body_need _ most room lt le = omega arith

-- parts of fewer lexemes than the depth are read, where there is room for their own parts
pub record Complete (limit fuel depth : ℕ) : Type 0 where
  pub reads : (room : ℕ) (inn : Bool) (level : Level) (g : Bool) (x z : List Lexeme) (a : tree.Expr) → Nested depth (part.expression inn level g) x z a → need level inn a ≤ room → length x < fuel → Fits limit a → Stops inn level g z → inside limit room fuel (what.expression inn level) x ≡ Some (a, z)
  pub body_reads : (room : ℕ) (x z : List Lexeme) (found : List tree.Stmt) → Nested depth part.body x z found → need_body found ≤ room → length x < fuel → stmts_height (stmts_of found) ≤ limit → has_more z ≡ false → inside limit room fuel what.body x ≡ Some (found, z)
  pub statement_reads : (room : ℕ) (x z : List Lexeme) (s : tree.Stmt) → Nested depth part.statement x z s → need_statement s ≤ room → length x < fuel → StatementFits limit s → inside limit room fuel what.statement x ≡ Some (s, z)

-- a constructor is read as a member expression is
same_readers : (limit room fuel : ℕ) (x : List Lexeme) → inside limit room fuel (what.expression true construction) x ≡ inside limit room fuel (what.expression true member) x
unfolding inside
same_readers limit room zero x = refl
same_readers limit zero (suc fuel) x = refl
same_readers limit (suc room) (suc fuel) x = refl

-- what the grammar has inside, where there is room for it
module _ (depth room : ℕ) where
  abbrev pub Exp : Bool → Level → Bool → Phrase tree.Expr
  Exp inn level g x z a = Nested depth (part.expression inn level g) x z a × (need level inn a ≤ room)

  abbrev pub Body : Phrase (List tree.Stmt)
  Body x z found = Nested depth part.body x z found × (need_body found ≤ room)

  abbrev pub Stm : Phrase tree.Stmt
  Stm x z s = Nested depth part.statement x z s × (need_statement s ≤ room)

module _ (limit fuel depth : ℕ) (inner : Complete limit fuel depth) (room : ℕ) where
  abbrev exp : Bool → Level → Parser tree.Expr
  exp inn level = inside limit room fuel (what.expression inn level)

  abbrev raw : Bool → Level → Bool → Phrase tree.Expr
  raw inn level g = Nested depth (part.expression inn level g)

  inner_of : Inner limit exp (inside limit room fuel what.body) (Exp depth room) (Body depth room) fuel
  inner_of =
      let s = shapes depth in
      record {
        reads = λ inn level g x z a h. inner.reads room inn level g x z a h.0 h.1;
        same = same_readers limit room fuel;
        body_reads = λ l x z found h lt f. inner.body_reads room x (mark p.RightBrace l ∷ z) found h.0 h.1 lt f refl;
        shorter = λ inn level g x z a h. s.shorter inn level g x z a h.0;
        body_shorter = λ x z found h. s.body_shorter x z found h.0;
        begins = λ inn level g x z a h. s.begins inn level g x z a h.0;
      }

  statements_of : InnerStatements limit (inside limit room fuel what.statement) (Stm depth room) fuel
  statements_of =
      let s = shapes depth in
      record {
        reads = λ x z t h. inner.statement_reads room x z t h.0 h.1;
        shorter = λ x z t h. s.statement_shorter x z t h.0;
        begins = λ x z t h. s.statement_begins x z t h.0;
      }

  -- ---- expressions

  lower : (most : ℕ) → 2 * most ≤ room → (inn : Bool) (level : Level) (g : Bool) (x z : List Lexeme) (a : tree.Expr) → raw inn level g x z a → expr_height a < most → Exp depth room inn level g x z a
  lower most le inn level g x z a h lt = let n = need_most level inn a in (h, omega arith)

  lower_body : (most : ℕ) → 2 * most ≤ room → (x z : List Lexeme) (found : List tree.Stmt) → Nested depth part.body x z found → stmts_height (stmts_of found) < most → Body depth room x z found
  lower_body most le x z found h lt = (h, omega arith)

  abbrev GroupsIn : ℕ → List Lexeme → Type 0
  GroupsIn most x = (l k g : Bool) (y z : List Lexeme) (a : tree.Expr) → x ≡ mark p.LeftParenthesis l ∷ y → raw true sequence g y (mark p.RightParenthesis k ∷ z) a → expr_height a ≤ most → Exp depth room true sequence g y (mark p.RightParenthesis k ∷ z) a

  plainly : (inn : Bool) (level : Level) (g : Bool) (x z : List Lexeme) (a : tree.Expr) → AtLevel raw (Nested depth part.body) inn level g x z a → 2 * expr_height a ≤ room → GroupsIn (expr_height a) x → length x < suc fuel → Fits limit a → Stops inn level g z → at_level limit exp (inside limit room fuel what.body) inn level x ≡ Some (a, z)
  plainly inn level g x z a h le groups lt f s =
      let n = expr_height a in
      level_reads limit exp (inside limit room fuel what.body) (Exp depth room) (Body depth room) fuel inner_of inn level g x z a
      (level_kept raw (Nested depth part.body) (Exp depth room) (Body depth room) n (lower n le) (lower_body n le) n (omega arith) inn level g x z a groups h (omega arith)) lt f s

  -- where no group is opened, there is room for the inside of each
  with_room : (most : ℕ) (x : List Lexeme) → 2 * most + 1 ≤ room → GroupsIn most x
  with_room most x le l k g y z a e h lt = (h, omega arith)

  without : (most : ℕ) (x : List Lexeme) → sees (Mark p.LeftParenthesis) x ≡ false → GroupsIn most x
  unfolding sees
  without most x n l k g y z a e h lt = let f = rw e at n in absurd (cc)

  -- an expression that begins with a group
  opened : (g : Bool) (x z : List Lexeme) (a : tree.Expr) → Sequence raw (Nested depth part.body) true g x z a → 2 * expr_height a ≤ room → length x < suc fuel → Fits limit a → Stops true sequence g z → sees (Mark p.LeftParenthesis) x ≡ true → and_then (inside limit (suc room) fuel (what.expression true sequence) (tail x)) (closing limit exp (inside limit room fuel what.body)) ≡ Some (a, z)
  unfolding sees
  opened g x z a h le lt f s e =
      let c = seen (Mark p.LeftParenthesis) x e in
      let n = expr_height a in
      let shape = shapes depth in
      let len = ap length c.1 in
      sequence_behind limit exp (inside limit room fuel what.body) raw (Nested depth part.body) shape.shorter shape.body_shorter (Exp depth room) (Body depth room) fuel inner_of n (lower n le) (lower_body n le) c.0 (tail x) (omega arith) (inside limit (suc room) fuel (what.expression true sequence) (tail x))
      (λ k j y b i low fits. inner.reads (suc room) true sequence j (tail x) (mark p.RightParenthesis k ∷ y) b i (omega arith) (omega arith) fits ((λ e. (refl, refl)), refl, refl, refl))
      (subst (λ v. Sequence raw (Nested depth part.body) true g v z a) c.1 h) (omega arith) f s

  sequence_reads : (inn g : Bool) (x z : List Lexeme) (a : tree.Expr) → Sequence raw (Nested depth part.body) inn g x z a → need sequence inn a ≤ suc room → length x < suc fuel → Fits limit a → Stops inn sequence g z → inside limit (suc room) (suc fuel) (what.expression inn sequence) x ≡ Some (a, z)
  unfolding inside
  sequence_reads false g x z a h le lt f s = plainly false sequence g x z a h (omega arith) (with_room (expr_height a) x (omega arith)) lt f s
  sequence_reads true g x z a h le lt f s = by (sees (Mark p.LeftParenthesis) x) refl
    where
      by : (b : Bool) → sees (Mark p.LeftParenthesis) x ≡ b → (if b then and_then (inside limit (suc room) fuel (what.expression true sequence) (tail x)) (closing limit exp (inside limit room fuel what.body)) else at_level limit exp (inside limit room fuel what.body) true sequence x) ≡ Some (a, z)
      by true e = opened g x z a h (omega arith) lt f s e
      by false e = plainly true sequence g x z a h (omega arith) (without (expr_height a) x e) lt f s

  expression_reads : (inn : Bool) (level : Level) (g : Bool) (x z : List Lexeme) (a : tree.Expr) → Nested (suc depth) (part.expression inn level g) x z a → need level inn a ≤ suc room → length x < suc fuel → Fits limit a → Stops inn level g z → inside limit (suc room) (suc fuel) (what.expression inn level) x ≡ Some (a, z)
  unfolding inside
  expression_reads inn sequence g x z a h le lt f s = sequence_reads inn g x z a h le lt f s
  expression_reads inn assignment g x z a h le lt f s = plainly inn assignment g x z a h (omega arith) (with_room (expr_height a) x (omega arith)) lt f s
  expression_reads inn (binary n) g x z a h le lt f s = plainly inn (binary n) g x z a h (omega arith) (with_room (expr_height a) x (omega arith)) lt f s
  expression_reads inn construction g x z a h le lt f s = plainly inn construction g x z a h (omega arith) (with_room (expr_height a) x (omega arith)) lt f s
  expression_reads inn member g x z a h le lt f s = plainly inn member g x z a h (omega arith) (with_room (expr_height a) x (omega arith)) lt f s

  -- ---- statements

  item : (most : ℕ) → 2 * most ≤ room → (x z : List Lexeme) (s : tree.Stmt) → Nested depth part.statement x z s → stmt_height s < most → Stm depth room x z s
  item most le x z s h lt = let n = statement_need_most s in (h, omega arith)

  body_of_other : (most : ℕ) → 2 * most + 1 ≤ room → (x z : List Lexeme) (s : tree.Stmt) → Nested depth part.statement x z s → stmts_height (body_of s) < most → Stm depth room x z s
  body_of_other most le x z s h lt = (h, body_need s most room lt le)

  inner_group : (most : ℕ) → 2 * most + 1 ≤ room → (g : Bool) (x z : List Lexeme) (a : tree.Expr) → raw true sequence g x z a → expr_height a < most → Exp depth room true sequence g x z a
  inner_group most le g x z a h lt = (h, omega arith)

  inner_part : (most : ℕ) → 2 * most + 1 ≤ room → (inn : Bool) (level : Level) (g : Bool) (x z : List Lexeme) (a : tree.Expr) → raw inn level g x z a → expr_height a + 2 ≤ most → Exp depth room inn level g x z a
  inner_part most le inn level g x z a h lt = let n = need_most level inn a in (h, omega arith)

  inner_body : (most : ℕ) → 2 * most + 1 ≤ room → (x z : List Lexeme) (found : List tree.Stmt) → Nested depth part.body x z found → stmts_height (stmts_of found) + 2 ≤ most → Body depth room x z found
  inner_body most le x z found h lt = (h, omega arith)

  statement_by : (x z : List Lexeme) (s : tree.Stmt) → Statement raw (Nested depth part.body) (Nested depth part.statement) x z s → need_statement s ≤ suc room → Statement (Exp depth room) (Body depth room) (Stm depth room) x z s
  statement_by x z s (block {found = found} h) le =
      let n = stmt_height (tree.block (stmts_of found)) in
      block (braced_lower raw (Nested depth part.body) (Nested depth part.statement) (Exp depth room) (Body depth room) (Stm depth room) n (item n (omega arith)) h (omega arith))
  statement_by x z s h le = other x z s h (omega arith)
    where
      other : (x z : List Lexeme) (s : tree.Stmt) → Statement raw (Nested depth part.body) (Nested depth part.statement) x z s → 2 * stmt_height s + 1 ≤ room → Statement (Exp depth room) (Body depth room) (Stm depth room) x z s
      other x z s h le =
          let n = stmt_height s in
          statement_lower raw (Nested depth part.body) (Nested depth part.statement) (Exp depth room) (Body depth room) (Stm depth room) n (inner_part n le) (inner_group n le) (inner_body n le) (item n (omega arith)) (body_of_other n le) h (omega arith)

  statements_read : (x z : List Lexeme) (s : tree.Stmt) → Nested (suc depth) part.statement x z s → need_statement s ≤ suc room → length x < suc fuel → StatementFits limit s → inside limit (suc room) (suc fuel) what.statement x ≡ Some (s, z)
  unfolding inside
  statements_read x z s h le lt f =
      statement_reads limit exp (inside limit room fuel what.body) (inside limit room fuel what.statement) (Exp depth room) (Body depth room) (Stm depth room) fuel inner_of statements_of x z s (statement_by x z s h le) lt f

  bodies_read : (x z : List Lexeme) (found : List tree.Stmt) → Nested (suc depth) part.body x z found → need_body found ≤ suc room → length x < suc fuel → stmts_height (stmts_of found) ≤ limit → has_more z ≡ false → inside limit (suc room) (suc fuel) what.body x ≡ Some (found, z)
  unfolding inside
  bodies_read x z found h le lt f e =
      let n = stmts_height (stmts_of found) in
      let enough : 2 * n + 1 ≤ room = omega arith in
      elements_read limit exp (inside limit room fuel what.body) (inside limit room fuel what.statement) (Exp depth room) (Body depth room) (Stm depth room) fuel inner_of statements_of
      (elements_lower raw (Nested depth part.body) (Nested depth part.statement) (Exp depth room) (Body depth room) (Stm depth room) n (inner_part n enough) (inner_group n enough) (inner_body n enough) (item n (omega arith)) (body_of_other n enough) h (omega arith)) lt f e

-- each needs some room
need_some : (level : Level) (inn : Bool) (a : tree.Expr) → need level inn a ≤ 0 → ⊥
need_some sequence true a h = omega arith
need_some sequence false a h = omega arith
need_some assignment inn a h = omega arith
need_some (binary n) inn a h = omega arith
need_some construction inn a h = omega arith
need_some member inn a h = omega arith

statement_need_some : (s : tree.Stmt) → need_statement s ≤ 0 → ⊥
statement_need_some (tree.block found) h = omega arith
statement_need_some _ h = omega arith

one_deeper : (limit fuel depth : ℕ) → Complete limit fuel depth → Complete limit (suc fuel) (suc depth)
one_deeper limit fuel depth inner =
    record {
      reads = λ room inn level g x z a h le lt f s. expressions room inn level g x z a h le lt f s;
      body_reads = λ room x z found h le lt f e. bodies room x z found h le lt f e;
      statement_reads = λ room x z s h le lt f. statements room x z s h le lt f;
    }
  where
    expressions : (room : ℕ) (inn : Bool) (level : Level) (g : Bool) (x z : List Lexeme) (a : tree.Expr) → Nested (suc depth) (part.expression inn level g) x z a → need level inn a ≤ room → length x < suc fuel → Fits limit a → Stops inn level g z → inside limit room (suc fuel) (what.expression inn level) x ≡ Some (a, z)
    expressions zero inn level g x z a h le lt f s = absurd (need_some level inn a le)
    expressions (suc room) inn level g x z a h le lt f s = expression_reads limit fuel depth inner room inn level g x z a h le lt f s

    bodies : (room : ℕ) (x z : List Lexeme) (found : List tree.Stmt) → Nested (suc depth) part.body x z found → need_body found ≤ room → length x < suc fuel → stmts_height (stmts_of found) ≤ limit → has_more z ≡ false → inside limit room (suc fuel) what.body x ≡ Some (found, z)
    bodies zero x z found h le lt f e = absurd (omega arith)
    bodies (suc room) x z found h le lt f e = bodies_read limit fuel depth inner room x z found h le lt f e

    statements : (room : ℕ) (x z : List Lexeme) (s : tree.Stmt) → Nested (suc depth) part.statement x z s → need_statement s ≤ room → length x < suc fuel → StatementFits limit s → inside limit room (suc fuel) what.statement x ≡ Some (s, z)
    statements zero x z s h le lt f = absurd (statement_need_some s le)
    statements (suc room) x z s h le lt f = statements_read limit fuel depth inner room x z s h le lt f

pub complete : (limit fuel depth : ℕ) → Complete limit fuel depth
complete limit fuel zero =
    record {
      reads = λ room inn level g x z a h le lt f s. absurd h;
      body_reads = λ room x z found h le lt f e. absurd h;
      statement_reads = λ room x z s h le lt f. absurd h;
    }
complete limit zero (suc depth) =
    record {
      reads = λ room inn level g x z a h le lt f s. absurd (omega arith);
      body_reads = λ room x z found h le lt f e. absurd (omega arith);
      statement_reads = λ room x z s h le lt f. absurd (omega arith);
    }
complete limit (suc fuel) (suc depth) = one_deeper limit fuel depth (complete limit fuel depth)

lexemes_length : (tokens : List Token) → length (lexemes tokens) ≡ length tokens
lexemes_length [] = refl
lexemes_length (t ∷ ts) = ap (λ n. suc n) (lexemes_length ts)

pub script_read : (limit : ℕ) (tokens : List Token) (script : tree.Stmts) → Derives tokens script → stmts_height script ≤ limit → read_script limit tokens ≡ Some script
unfolding read_script
script_read limit tokens script h le =
    let len = lexemes_length tokens in
    let fits : stmts_height (stmts_of h.1) ≤ limit = subst (λ s. stmts_height s ≤ limit) (sym h.3) le in
    let all = complete limit (suc (length tokens)) h.0 in
    rw (all.body_reads (room_of limit) (lexemes tokens) [] h.1 h.2 (omega arith) (omega arith) fits refl) (ap (λ s. Some s) h.3)
