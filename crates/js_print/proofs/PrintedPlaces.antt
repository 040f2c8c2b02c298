-- What printing an expression gives, and then the same in a place.
use Rattle.std.proofs.Common.{◌≡◌, ℕ, ◌≤◌, Bool, true, false, List, ◌∷◌, refl, subst, ◌∙◌}
use Rattle.std.specs.Prelude.{not, if◌then◌else◌}
use Rattle.std.proofs.lemmas.Bool.{and_parts, not-true}
use Rattle.js_core.specs.Tree as tree
use Rattle.js_core.specs.declared.token.TokenKind.{TokenKind}
use Rattle.js_core.specs.declared.token.Punct.TheVariants as punct
use Rattle.js_grammar.specs.declared.operators.Level.TheVariants as level
use Rattle.js_grammar.specs.Phrases.{mark}
use Rattle.js_grammar.specs.Expressions.{grouped, is_primary}
use Rattle.js_grammar.specs.Scripts.{expression}
use Rattle.js_print.specs.declared.lexeme.Lexeme.{Lexeme}
use Rattle.js_print.specs.declared.place.Place.{Place}
use Rattle.js_print.specs.declared.place.Place.TheVariants.{Operand, Base, Constructor, Part, Whole, Statement}
use Rattle.js_print.specs.Lexemes.{expr_lexemes}
use Rattle.js_print.specs.Places.{is_simple, is_number, is_name, is_comma, is_in_test, is_braced, begins_as_statement, is_bare, placed, parenthesised}
use Rattle.js_print.proofs.PrintedSymbols.{Keeps, before_both, Opens, opens, AreKept, kept_both}
use Rattle.js_print.proofs.PrintedReads.{Exp, Body, Members, Assignments, Sequences, Reads, read_as, inside, binary_of_member, assignment_of_member, sequence_of_assignment}

-- a binary `in` stands only where `in` is an operator
abbrev pub Suits : Bool → tree.Expr → Type 0
Suits inn a = is_in_test a ≡ true → inn ≡ true

suits_any : (inn : Bool) (a : tree.Expr) → is_in_test a ≡ false → Suits inn a
suits_any inn a e f = absurd (cc)

simple_opens : (a : tree.Expr) → is_simple a ≡ true → begins_as_statement a ≡ false
simple_opens (tree.literal fs) e = absurd (cc)
simple_opens (tree.func c) e = absurd (cc)
simple_opens (tree.comma es) e = absurd (cc)
simple_opens _ e = refl

one_opens : (a : tree.Expr) → is_comma a ≡ false → begins_as_statement a ≡ is_braced a
one_opens (tree.comma es) e = absurd (cc)
one_opens _ e = refl

module _ (Ok : TokenKind → Type 0) (keeps : Keeps Ok) where
  pub record Printed (a : tree.Expr) : Type 0 where
    pub kept : AreKept Ok (expr_lexemes a)
    pub opening : Opens (begins_as_statement a) (expr_lexemes a)
    pub whole : (g : Bool) × ((inn : Bool) → Suits inn a → Reads (Sequences inn g) (expr_lexemes a) a)
    pub part : is_comma a ≡ false → (g : Bool) × ((inn : Bool) → Suits inn a → Reads (Assignments inn g) (expr_lexemes a) a)
    pub left : is_simple a ≡ true → (c : Bool) × (is_name a ≡ true → c ≡ false) × Reads (Members c) (expr_lexemes a) a

  pub of_assignment : (a : tree.Expr) (g : Bool) → is_simple a ≡ false → AreKept Ok (expr_lexemes a) → Opens (begins_as_statement a) (expr_lexemes a) → ((inn : Bool) → Suits inn a → Reads (Assignments inn g) (expr_lexemes a) a) → Printed a
  of_assignment a g e kept opening r =
      record {
        kept = kept;
        opening = opening;
        whole = (g, λ inn s. read_as (Sequences inn g) (λ d x z h. sequence_of_assignment (Exp d) (Body d) inn h) (r inn s));
        part = λ c. (g, r);
        left = λ t. absurd (cc);
      }

  pub of_member : (a : tree.Expr) (c : Bool) → (is_name a ≡ true → c ≡ false) → AreKept Ok (expr_lexemes a) → Opens (begins_as_statement a) (expr_lexemes a) → Reads (Members c) (expr_lexemes a) a → Printed a
  of_member a c n kept opening r =
      record {
        kept = kept;
        opening = opening;
        whole = (true, λ inn s. read_as (Sequences inn true) (λ d x z h. sequence_of_assignment (Exp d) (Body d) inn (assignment_of_member (Exp d) (Body d) inn c h)) r);
        part = λ e. (true, λ inn s. read_as (Assignments inn true) (λ d x z h. assignment_of_member (Exp d) (Body d) inn c h) r);
        left = λ t. (c, n, r);
      }

  -- ---- in a place

  pub in_parentheses : {a : tree.Expr} → Printed a → Reads (Members false) (parenthesised (expr_lexemes a)) a
  in_parentheses {a} p = record { room = r.room; read = λ d z le. rw before_both (is_primary (grouped (r.read d (mark punct.RightParenthesis false ∷ z) le))) }
    where
      r : Reads (λ d. Exp d true level.Sequence p.whole.0) (expr_lexemes a) a
      r = inside (expression true level.Sequence p.whole.0) (p.whole.1 true (λ e. refl))

  pub placed_kept : (place : Place) {a : tree.Expr} → Printed a → AreKept Ok (placed place a (expr_lexemes a))
  placed_kept place {a} p = by (is_bare place a)
    where
      by : (b : Bool) → AreKept Ok (if b then expr_lexemes a else parenthesised (expr_lexemes a))
      by true = p.kept
      by false = (keeps.marks punct.LeftParenthesis, kept_both Ok (expr_lexemes a) _ p.kept (keeps.marks punct.RightParenthesis, tt))

  placed_opens : (place : Place) (excluded : Bool) {a : tree.Expr} → (is_bare place a ≡ true → excluded ≡ false → begins_as_statement a ≡ false) → Printed a → Opens excluded (placed place a (expr_lexemes a))
  placed_opens place excluded {a} f p = by (is_bare place a) refl
    where
      weaker : {xs : List Lexeme} → (excluded ≡ false → begins_as_statement a ≡ false) → Opens (begins_as_statement a) xs → Opens excluded xs
      weaker f (opens c e) = opens c (λ x. e (f x))

      by : (b : Bool) → is_bare place a ≡ b → Opens excluded (if b then expr_lexemes a else parenthesised (expr_lexemes a))
      by true e = weaker (f e) p.opening
      by false e = opens refl (λ x. refl)

  pub operand_opens : {a : tree.Expr} → Printed a → Opens false (placed Operand a (expr_lexemes a))
  operand_opens {a} p = placed_opens Operand false (λ e x. simple_opens a e) p

  pub base_opens : {a : tree.Expr} → Printed a → Opens false (placed Base a (expr_lexemes a))
  base_opens {a} p = placed_opens Base false (λ e x. simple_opens a (and_parts (is_simple a) (not (is_number a)) e).0) p

  pub part_opens : {a : tree.Expr} → Printed a → Opens (is_braced a) (placed Part a (expr_lexemes a))
  part_opens {a} p = placed_opens Part (is_braced a) (λ e x. one_opens a (not-true (is_comma a) (and_parts (not (is_in_test a)) (not (is_comma a)) e).1) ∙ x) p

  pub whole_opens : {a : tree.Expr} → Printed a → Opens true (placed Whole a (expr_lexemes a))
  whole_opens {a} p = placed_opens Whole true (λ e x. absurd (cc)) p

  pub statement_opens : {a : tree.Expr} → Printed a → Opens false (placed Statement a (expr_lexemes a))
  statement_opens {a} p = placed_opens Statement false (λ e x. not-true (begins_as_statement a) (and_parts (not (is_in_test a)) (not (begins_as_statement a)) e).1) p

  pub operand : {a : tree.Expr} → Printed a → (c : Bool) × Reads (Members c) (placed Operand a (expr_lexemes a)) a
  operand {a} p = by (is_simple a) refl
    where
      by : (b : Bool) → is_simple a ≡ b → (c : Bool) × Reads (Members c) (if b then expr_lexemes a else parenthesised (expr_lexemes a)) a
      by true e = let r = p.left e in (r.0, r.2)
      by false e = (false, in_parentheses p)

  pub base : {a : tree.Expr} → Printed a → (c : Bool) × Reads (Members c) (placed Base a (expr_lexemes a)) a
  base {a} p = by (is_bare Base a) refl
    where
      by : (b : Bool) → is_bare Base a ≡ b → (c : Bool) × Reads (Members c) (if b then expr_lexemes a else parenthesised (expr_lexemes a)) a
      by true e = let r = p.left (and_parts (is_simple a) (not (is_number a)) e).0 in (r.0, r.2)
      by false e = (false, in_parentheses p)

  name_simple : (a : tree.Expr) → is_name a ≡ true → is_simple a ≡ true
  name_simple (tree.name x) e = refl
  name_simple (tree.num x) e = absurd (cc)
  name_simple _ e = absurd (cc)

  pub constructor : {a : tree.Expr} → Printed a → Reads (Members false) (placed Constructor a (expr_lexemes a)) a
  constructor {a} p = by (is_name a) refl
    where
      by : (b : Bool) → is_name a ≡ b → Reads (Members false) (if b then expr_lexemes a else parenthesised (expr_lexemes a)) a
      by true e = let r = p.left (name_simple a e) in subst (λ c. Reads (Members c) (expr_lexemes a) a) (r.1 e) r.2
      by false e = in_parentheses p

  pub part_of : {a : tree.Expr} → Printed a → (g : Bool) × ((inn : Bool) → Reads (Assignments inn g) (placed Part a (expr_lexemes a)) a)
  part_of {a} p = by (is_bare Part a) refl
    where
      by : (b : Bool) → is_bare Part a ≡ b → (g : Bool) × ((inn : Bool) → Reads (Assignments inn g) (if b then expr_lexemes a else parenthesised (expr_lexemes a)) a)
      by true e =
          let h = and_parts (not (is_in_test a)) (not (is_comma a)) e in
          let r = p.part (not-true (is_comma a) h.1) in
          (r.0, λ inn. r.1 inn (suits_any inn a (not-true (is_in_test a) h.0)))
      by false e = (true, λ inn. read_as (Assignments inn true) (λ d x z h. assignment_of_member (Exp d) (Body d) inn false h) (in_parentheses p))

  grouped_whole : (inn : Bool) {a : tree.Expr} → Printed a → (g : Bool) × Reads (Sequences inn g) (parenthesised (expr_lexemes a)) a
  grouped_whole inn p = (true, read_as (Sequences inn true) (λ d x z h. sequence_of_assignment (Exp d) (Body d) inn (assignment_of_member (Exp d) (Body d) inn false h)) (in_parentheses p))

  pub whole_of : (inn : Bool) {a : tree.Expr} → Printed a → (g : Bool) × Reads (Sequences inn g) (placed Whole a (expr_lexemes a)) a
  whole_of inn {a} p = by (is_bare Whole a) refl
    where
      by : (b : Bool) → is_bare Whole a ≡ b → (g : Bool) × Reads (Sequences inn g) (if b then expr_lexemes a else parenthesised (expr_lexemes a)) a
      by true e = (p.whole.0, p.whole.1 inn (suits_any inn a (not-true (is_in_test a) e)))
      by false e = grouped_whole inn p

  pub statement_of : {a : tree.Expr} → Printed a → (g : Bool) × Reads (Sequences true g) (placed Statement a (expr_lexemes a)) a
  statement_of {a} p = by (is_bare Statement a) refl
    where
      by : (b : Bool) → is_bare Statement a ≡ b → (g : Bool) × Reads (Sequences true g) (if b then expr_lexemes a else parenthesised (expr_lexemes a)) a
      by true e = (p.whole.0, p.whole.1 true (λ f. refl))
      by false e = grouped_whole true p

  -- ---- in a place inside another expression

  pub operand_inside : (inn : Bool) (n : ℕ) → n ≤ 11 → {a : tree.Expr} → Printed a → Reads (λ d. Exp d inn (level.Binary n) true) (placed Operand a (expr_lexemes a)) a
  operand_inside inn n le p = let r = operand p in inside (expression inn (level.Binary n) true) (read_as _ (λ d x z h. binary_of_member (Exp d) (Body d) inn n r.0 le h) r.1)

  pub operand_part : (inn : Bool) {a : tree.Expr} → Printed a → Reads (λ d. Exp d inn level.Assignment true) (placed Operand a (expr_lexemes a)) a
  operand_part inn p = let r = operand p in inside (expression inn level.Assignment true) (read_as (Assignments inn true) (λ d x z h. assignment_of_member (Exp d) (Body d) inn r.0 h) r.1)

  pub part_inside : {a : tree.Expr} → Printed a → (g : Bool) × ((inn : Bool) → Reads (λ d. Exp d inn level.Assignment g) (placed Part a (expr_lexemes a)) a)
  part_inside p = let r = part_of p in (r.0, λ inn. inside (expression inn level.Assignment r.0) (r.1 inn))

  -- as a whole expression
  pub part_whole : {a : tree.Expr} → Printed a → (g : Bool) × Reads (Sequences true g) (placed Part a (expr_lexemes a)) a
  part_whole p = let r = part_of p in (r.0, read_as (Sequences true r.0) (λ d x z h. sequence_of_assignment (Exp d) (Body d) true h) (r.1 true))

  pub part_alone : {a : tree.Expr} → Printed a → (g : Bool) × Reads (λ d. Exp d true level.Sequence g) (placed Part a (expr_lexemes a)) a
  part_alone p = let r = part_whole p in (r.0, inside (expression true level.Sequence r.0) r.1)
