-- Expressions are read as the grammar has them.
use Rattle.std.proofs.Common.{◌≡◌, ℕ, suc, ◌<◌, Bool, true, false, List, [], ◌∷◌, length, Some, None, refl, ◌∙◌, arith}
use Rattle.js_core.specs.Tree as tree
use Rattle.js_core.specs.Tree.{exprs_of}
use Rattle.js_core.specs.Height.{expr_height}
use Rattle.js_core.specs.declared.token.Punct.TheVariants as p
use Rattle.js_grammar.specs.Symbols.{Lexeme, sign_at}
use Rattle.js_grammar.specs.Operators.{Level, sequence, assignment, binary, construction, member, climbs, assignment_of}
use Rattle.js_grammar.specs.Parser.{Parser, and_then, sees, expect, eat}
use Rattle.js_grammar.specs.Phrases.{Phrase, mark}
use Rattle.js_grammar.specs.Expressions.{sequence_of, Binary, Assignment, is_binary, chosen, assigned, Sequence, sequenced, AtLevel}
use Rattle.js_grammar.specs.ExpressionReader as reader
use Rattle.js_grammar.specs.ExpressionReader.{has_operator}
use Rattle.js_grammar.proofs.Heights.{Each, Fits, exprs_fit}
use Rattle.js_grammar.proofs.ExpressionShapes.{left_shorter, binary_shorter, assignment_shorter}
use Rattle.js_grammar.proofs.Steps.{then_reads, kept, stays}
use Rattle.js_grammar.proofs.ListsRead.{separated_reads}
use Rattle.js_grammar.proofs.Signs.{no_tighter, infix_no_assignment, assignment_no_suffix, no_assignment, no_question}
use Rattle.js_grammar.proofs.Stops.{Quiet, Stops}
use Rattle.js_grammar.proofs.Inner.{Inner}
use Rattle.js_grammar.proofs.LeftReads.{left_reads, left_no_prefix, member_reads}
use Rattle.js_grammar.proofs.BinaryReads.{unary_begins, binary_from, climb_reads}

pub sequence_fits : (limit : ℕ) (found : List tree.Expr) → Fits limit (sequence_of found) → Each (Fits limit) found
sequence_fits limit [] f = tt
sequence_fits limit (a ∷ []) f = (f, tt)
sequence_fits limit (a ∷ b ∷ rest) f = exprs_fit limit (a ∷ b ∷ rest) (omega arith)

module _ (limit : ℕ) (exp : Bool → Level → Parser tree.Expr) (body : Parser (List tree.Stmt)) (Exp : Bool → Level → Bool → Phrase tree.Expr) (Body : Phrase (List tree.Stmt)) (bound : ℕ) (inner : Inner limit exp body Exp Body bound) where
  -- a binary expression that begins an assignment expression, and is no target
  first_reads : (inn : Bool) {g : Bool} {x z : List Lexeme} {a : tree.Expr} → Binary Exp Body inn 1 g x z a → length x < suc bound → Fits limit a → Quiet g z → climbs inn 1 (sign_at z) ≡ false → assignment_of (sign_at z) ≡ None → reader.one limit exp body inn x ≡ reader.choice limit exp body inn a z
  unfolding reader.rest
  first_reads inn {x = x} {z = z} {a = a} h lt t q c n =
      binary_from limit exp body Exp Body bound inner inn 1 x (reader.one limit exp body inn x) (λ r. and_then r (reader.choice limit exp body inn)) (λ y. assignment_of (sign_at y) ≡ None) (λ s l y f e. infix_no_assignment inn s e)
      (λ g y b u f k o. unary_begins limit exp body Exp Body bound inner inn u lt f k o)
      (Some (a, z)) h (omega arith) lt t q (no_tighter inn 1 (sign_at z) c) n
      (λ m le. stays (has_operator inn 1) (reader.operation limit exp body inn) m a z c)

  pub assignment_reads : (inn g : Bool) (x z : List Lexeme) (a : tree.Expr) → Assignment Exp Body inn g x z a → length x < suc bound → Fits limit a → Stops inn assignment g z → reader.one limit exp body inn x ≡ Some (a, z)
  unfolding reader.one reader.assigned reader.choice eat expect sees
  assignment_reads inn g x z a (is_binary h) lt t s =
      first_reads inn h lt t s.0 s.1 (no_assignment (sign_at z) s.2) ∙ no_choice
    where
      no_choice : reader.choice limit exp body inn a z ≡ Some (a, z)
      no_choice = rw (no_question (sign_at z) s.2) refl
  assignment_reads inn g x z e (chosen {g = i} {h = j} {l = l} {k = k} {y = y} {v = v} {a = a} {b = b} {c = c} h u w) lt t s =
      let a1 = binary_shorter Exp Body inner.shorter inner.body_shorter h in
      let a2 = inner.shorter true assignment j y (mark p.Colon k ∷ v) b u in
      first_reads inn h lt (omega arith) (λ e. (refl, refl)) refl refl
      ∙ then_reads _ (inner.reads true assignment j y (mark p.Colon k ∷ v) b u (omega arith) (omega arith) ((λ e. (refl, refl)), refl, refl))
      (then_reads _ (inner.reads inn assignment g v z c w (omega arith) (omega arith) s)
      (kept limit (expr_height (tree.conditional a b c)) (tree.conditional a b c) z t))
  assignment_reads inn g x z e (assigned {s = o} {f = f} {y = y} {a = a} {b = b} h n u) lt t s =
      let a1 = left_shorter Exp Body inner.shorter inner.body_shorter h in
      rw (left_no_prefix Exp Body h)
      (then_reads _ (left_reads limit exp body Exp Body bound inner true h lt (omega arith) (assignment_no_suffix o n))
      (rw n (then_reads _ (inner.reads inn assignment g y z b u (omega arith) (omega arith) s)
      (kept limit (expr_height (tree.assign f a b)) (tree.assign f a b) z t))))

  pub joined_reads : (found : List tree.Expr) (z : List Lexeme) → Fits limit (sequence_of found) → reader.joined limit exp body found z ≡ Some (sequence_of found, z)
  joined_reads [] z f = kept limit (expr_height (sequence_of [])) (sequence_of []) z f
  joined_reads (a ∷ []) z f = refl
  joined_reads (a ∷ b ∷ rest) z f = kept limit (expr_height (sequence_of (a ∷ b ∷ rest))) (sequence_of (a ∷ b ∷ rest)) z f

  pub sequence_reads : (inn g : Bool) (x z : List Lexeme) (a : tree.Expr) → Sequence Exp Body inn g x z a → length x < suc bound → Fits limit a → Stops inn sequence g z → reader.all limit exp body inn x ≡ Some (a, z)
  unfolding reader.all
  sequence_reads inn g x z a (sequenced {found = found} h) lt t s =
      then_reads _ (separated_reads (Assignment Exp Body inn) (reader.one limit exp body inn) (Fits limit) (Stops inn assignment) (suc bound) (assignment_reads inn) (assignment_shorter Exp Body inner.shorter inner.body_shorter inn) (λ i l y. ((λ e. (refl, refl)), refl, refl)) h lt (sequence_fits limit found t) (s.0, s.1, s.2) s.3) (joined_reads found z t)

  pub level_reads : (inn : Bool) (level : Level) (g : Bool) (x z : List Lexeme) (a : tree.Expr) → AtLevel Exp Body inn level g x z a → length x < suc bound → Fits limit a → Stops inn level g z → reader.at_level limit exp body inn level x ≡ Some (a, z)
  level_reads inn sequence g x z a h lt t s = sequence_reads inn g x z a h lt t s
  level_reads inn assignment g x z a h lt t s = assignment_reads inn g x z a h lt t s
  level_reads inn (binary n) g x z a h lt t s = climb_reads limit exp body Exp Body bound inner inn n h lt t s.0 s.1
  level_reads inn construction g x z a h lt t s = left_reads limit exp body Exp Body bound inner false h lt t s
  level_reads inn member g x z a h lt t s = member_reads limit exp body Exp Body bound inner h lt t s
