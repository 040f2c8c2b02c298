-- Each form of expression is printed as one that is read.
use Rattle.std.proofs.Common.{◌≡◌, ℕ, suc, ℤ, ◌+◌, ◌≤◌, Bool, true, false, List, [], ◌∷◌, ◌++◌, Option, Some, None, refl, sym, subst, ap, arith}
use Rattle.js_core.specs.Tree as tree
use Rattle.js_core.specs.Tree.{exprs_of, holes_of, fields_of, stmts_of, code}
use Rattle.js_core.specs.declared.operators.UnaryOp.{UnaryOp}
use Rattle.js_core.specs.declared.operators.UnaryOp.TheVariants as op1
use Rattle.js_core.specs.declared.operators.BinaryOp.{BinaryOp}
use Rattle.js_core.specs.declared.operators.BinaryOp.TheVariants as op2
use Rattle.js_core.specs.declared.token.TokenKind.{TokenKind}
use Rattle.js_core.specs.declared.token.TokenKind.TheVariants as kind
use Rattle.js_core.specs.declared.token.Punct.TheVariants as punct
use Rattle.js_core.specs.declared.keyword.Keyword.TheVariants as keyword
use Rattle.js_grammar.specs.declared.sign.Sign.{Sign}
use Rattle.js_grammar.specs.declared.sign.Sign.TheVariants as signs
use Rattle.js_grammar.specs.declared.operators.Level.TheVariants as level
use Rattle.js_grammar.specs.declared.operators.Infix.{Infix}
use Rattle.js_grammar.specs.declared.operators.Infix.TheVariants as infixes
use Rattle.js_grammar.specs.declared.operators.Prefix.{Prefix}
use Rattle.js_grammar.specs.declared.operators.Prefix.TheVariants as prefixes
use Rattle.js_grammar.specs.Symbols as symbols
use Rattle.js_grammar.specs.Symbols.{Symbol, sign, identifier, symbol_of, member_name, sign_of, sign_at}
use Rattle.js_grammar.specs.Operators.{combined, prefixed, infix_of, level_of, assignment_of}
use Rattle.js_grammar.specs.Endings.{is_excluded}
use Rattle.js_grammar.specs.Phrases.{mark}
use Rattle.js_grammar.specs.Expressions.{sequence_of, Procedure, procedure, this_value, null_value, true_value, false_value, named, numeral, string, array, object, anonymous, function, Member, is_primary, dotted, indexed, called, constructed, stepped, Unary, is_postfix, operated, Binary, combines, is_binary, chosen, assigned, sequenced}
use Rattle.js_grammar.specs.Scripts.{expression, body, Nested}
use Rattle.js_grammar.proofs.Callers.{can_begin}
use Rattle.js_print.specs.declared.lexeme.Lexeme.{Lexeme}
use Rattle.js_print.specs.declared.lexeme.Lexeme.TheVariants.{Keyword, Name, Punct}
use Rattle.js_print.specs.declared.place.Place.TheVariants.{Operand, Base, Constructor, Part}
use Rattle.js_print.specs.Lexemes.{maybe_name, names, expr_lexemes, parts_lexemes, holes_lexemes, fields_lexemes, code_lexemes, stmts_lexemes}
use Rattle.js_print.specs.Operators.{unary_lexeme, update_punct, binary_lexeme, assign_punct}
use Rattle.js_print.specs.Places.{begins_as_statement, placed, parenthesised, braced}
use Rattle.js_print.specs.ReadBack.{kind_of}
use Rattle.js_print.proofs.PrintedSymbols.{Keeps, before, before_both, Opens, opens, opens_both, AreKept, kept_both, IsIdentifier, IsName}
use Rattle.js_print.proofs.PrintedSigns.{infix_sign, prefix_sign, prefix_opens, step_prefix, step_opens, step_sign}
use Rattle.js_print.proofs.PrintedReads.{Exp, Body, Members, Assignments, Reads, Each, inside, left_of_member, lower, binary_of_unary, binary_of_member}
use Rattle.js_print.proofs.PrintedPlaces.{Printed, of_assignment, of_member, placed_kept, operand_opens, base_opens, part_opens, operand, base, constructor, operand_inside, operand_part, part_of, part_inside, part_alone}
use Rattle.js_print.proofs.PrintedLists.{parts_kept, parts_read, arguments_kept, arguments_read, names_kept, formals_read, PrintedHole, holes_kept, holes_read, PrintedField, fields_kept, fields_read}

-- a sign that stands behind a part of a statement alone
abbrev pub is_branch : Option Sign → Bool
is_branch (Some (signs.Word keyword.Else)) = true
is_branch (Some (signs.Word keyword.Finally)) = true
is_branch s = false

levels : (f : Infix) → (1 ≤ level_of f) × (suc (level_of f) ≤ 11)
levels infixes.Either = (omega arith, omega arith)
levels infixes.Both = (omega arith, omega arith)
levels (infixes.Operation op2.Mul) = (omega arith, omega arith)
levels (infixes.Operation _) = (omega arith, omega arith)

binary_opens : (op : BinaryOp) (a b : tree.Expr) {xs : List Lexeme} → Opens false xs → Opens (begins_as_statement (tree.binary op a b)) xs
binary_opens op2.Within a b h = h
binary_opens _ a b h = h

module _ (Ok : TokenKind → Type 0) (keeps : Keeps Ok) where
  unary_kept : (op : UnaryOp) → Ok (kind_of (unary_lexeme op))
  unary_kept op1.Delete = keeps.words keyword.Delete
  unary_kept op1.Void = keeps.words keyword.Void
  unary_kept op1.Typeof = keeps.words keyword.Typeof
  unary_kept op1.Plus = keeps.marks punct.PlusSign
  unary_kept op1.Minus = keeps.marks punct.MinusSign
  unary_kept op1.BitNot = keeps.marks punct.Tilde
  unary_kept op1.Not = keeps.marks punct.ExclamationMark

  binary_kept : (op : BinaryOp) → Ok (kind_of (binary_lexeme op))
  binary_kept op2.InstanceOf = keeps.words keyword.InstanceOf
  binary_kept op2.Within = keeps.words keyword.In
  binary_kept _ = keeps.marks _

  -- ---- atoms

  pub printed_this : Printed Ok keeps tree.this
  printed_this = of_member Ok keeps tree.this false (λ e. refl) (keeps.words keyword.This, tt) (opens refl (λ e. refl)) (record { room = 0; read = λ d z le. is_primary this_value })

  pub printed_null : Printed Ok keeps tree.null
  printed_null = of_member Ok keeps tree.null false (λ e. refl) (keeps.words keyword.Null, tt) (opens refl (λ e. refl)) (record { room = 0; read = λ d z le. is_primary null_value })

  pub printed_bool : (b : Bool) → Printed Ok keeps (tree.bool b)
  printed_bool true = of_member Ok keeps (tree.bool true) false (λ e. refl) (keeps.words keyword.True, tt) (opens refl (λ e. refl)) (record { room = 0; read = λ d z le. is_primary true_value })
  printed_bool false = of_member Ok keeps (tree.bool false) false (λ e. refl) (keeps.words keyword.False, tt) (opens refl (λ e. refl)) (record { room = 0; read = λ d z le. is_primary false_value })

  pub name_opens : {w : List ℕ} → IsIdentifier Ok w → (xs : List Lexeme) → Opens false (Name w ∷ xs)
  name_opens h xs = opens (ap (λ s. can_begin (sign_of s)) h.0) (λ e. ap (λ s. is_excluded (sign_of s)) h.0)

  pub printed_name : {w : List ℕ} → IsIdentifier Ok w → Printed Ok keeps (tree.name w)
  printed_name {w} h = of_member Ok keeps (tree.name w) false (λ e. refl) (h.1, tt) (name_opens h []) (record { room = 0; read = λ d z le. subst (λ s. Member (Exp d) (Body d) false ((s, false) ∷ z) z (tree.name w)) (sym h.0) (is_primary named) })

  pub printed_number : {n : Option ℤ} → Ok (kind.Number n) → Printed Ok keeps (tree.num n)
  printed_number {n} h = of_member Ok keeps (tree.num n) false (λ e. refl) (h, tt) (opens refl (λ e. refl)) (record { room = 0; read = λ d z le. is_primary numeral })

  pub printed_text : {t : List ℕ} → Ok (kind.Text t) → Printed Ok keeps (tree.text t)
  printed_text {t} h = of_member Ok keeps (tree.text t) false (λ e. refl) (h, tt) (opens refl (λ e. refl)) (record { room = 0; read = λ d z le. is_primary string })

  -- ---- literals

  pub printed_list : (es : List (Option tree.Expr)) → Each (PrintedHole Ok keeps) es → Printed Ok keeps (tree.list (holes_of es))
  printed_list es h =
      let r = holes_read Ok keeps es h in
      of_member Ok keeps (tree.list (holes_of es)) false (λ e. refl)
      (keeps.marks punct.LeftBracket, kept_both Ok (holes_lexemes (holes_of es)) _ (holes_kept Ok keeps es h) (keeps.marks punct.RightBracket, tt))
      (opens refl (λ e. refl))
      (record { room = r.room; read = λ d z le. rw before_both (is_primary (array (r.read d z le))) })

  pub printed_literal : (fs : List (List ℕ × tree.Expr)) → Each (PrintedField Ok keeps) fs → Printed Ok keeps (tree.literal (fields_of fs))
  printed_literal fs h =
      let r = fields_read Ok keeps fs h in
      of_member Ok keeps (tree.literal (fields_of fs)) false (λ e. refl)
      (keeps.marks punct.LeftBrace, kept_both Ok (fields_lexemes (fields_of fs)) _ (fields_kept Ok keeps fs h) (keeps.marks punct.RightBrace, tt))
      (opens refl (λ e. absurd (cc)))
      (record { room = r.room; read = λ d z le. rw before_both (is_primary (object (r.read d z le))) })

  -- ---- functions

  -- what stands between the braces of a function, or a script
  pub record PrintedBody (found : List tree.Stmt) : Type 0 where
    pub kept : AreKept Ok (stmts_lexemes (stmts_of found))
    pub room : ℕ
    pub read : (d : ℕ) (z : List symbols.Lexeme) → room ≤ d → is_branch (sign_at z) ≡ false → Nested d body (before (stmts_lexemes (stmts_of found)) z) z found

  -- a function of this name, or of none
  pub record PrintedCode (own : Option (List ℕ)) (c : tree.Code) : Type 0 where
    pub rest : List Lexeme
    pub same : code_lexemes c ≡ Keyword keyword.Function ∷ (maybe_name own ++ rest)
    pub kept : AreKept Ok rest
    pub reads : Reads (λ d. Procedure (Exp d) (Body d) own) rest c

  pub printed_code : (own : Option (List ℕ)) {formals : List (List ℕ)} {found : List tree.Stmt} → Each (IsIdentifier Ok) formals → PrintedBody found → PrintedCode own (code own formals (stmts_of found))
  printed_code own {formals} {found} h b =
      record {
        rest = parenthesised (names formals) ++ braced (stmts_lexemes (stmts_of found));
        same = refl;
        kept =
            kept_both Ok (parenthesised (names formals)) _
            (keeps.marks punct.LeftParenthesis, kept_both Ok (names formals) _ (names_kept Ok keeps formals h) (keeps.marks punct.RightParenthesis, tt))
            (keeps.marks punct.LeftBrace, kept_both Ok (stmts_lexemes (stmts_of found)) _ b.kept (keeps.marks punct.RightBrace, tt));
        reads = record { room = b.room; read = reads };
      }
    where
      reads : (d : ℕ) (z : List symbols.Lexeme) → b.room ≤ d → Procedure (Exp d) (Body d) own (before (parenthesised (names formals) ++ braced (stmts_lexemes (stmts_of found))) z) z (code own formals (stmts_of found))
      reads d z le =
          rw (before_both (parenthesised (names formals)) (braced (stmts_lexemes (stmts_of found))) z, before_both (names formals) (Punct punct.RightParenthesis ∷ []) (before (braced (stmts_lexemes (stmts_of found))) z), before_both (stmts_lexemes (stmts_of found)) (Punct punct.RightBrace ∷ []) z)
          (procedure (formals_read Ok keeps formals h _) (b.read d (mark punct.RightBrace false ∷ z) le refl))

  pub printed_anonymous : {c : tree.Code} → PrintedCode None c → Printed Ok keeps (tree.func c)
  printed_anonymous {c} p =
      of_member Ok keeps (tree.func c) false (λ e. refl)
      (subst (AreKept Ok) (sym p.same) (keeps.words keyword.Function, p.kept))
      (subst (Opens true) (sym p.same) (opens refl (λ e. absurd (cc))))
      (subst (λ xs. Reads (Members false) xs (tree.func c)) (sym p.same) (record { room = p.reads.room; read = λ d z le. is_primary (anonymous (p.reads.read d z le)) }))

  pub printed_function : {w : List ℕ} {c : tree.Code} → IsIdentifier Ok w → PrintedCode (Some w) c → Printed Ok keeps (tree.func c)
  printed_function {w} {c} h p =
      of_member Ok keeps (tree.func c) false (λ e. refl)
      (subst (AreKept Ok) (sym p.same) (keeps.words keyword.Function, (h.1, p.kept)))
      (subst (Opens true) (sym p.same) (opens refl (λ e. absurd (cc))))
      (subst (λ xs. Reads (Members false) xs (tree.func c)) (sym p.same) (record { room = p.reads.room; read = λ d z le. subst (λ s. Member (Exp d) (Body d) false ((sign (signs.Word keyword.Function), false) ∷ (s, false) ∷ before p.rest z) z (tree.func c)) (sym h.0) (is_primary (function (p.reads.read d z le))) }))

  -- ---- members and calls

  pub printed_member : {a : tree.Expr} {w : List ℕ} → Printed Ok keeps a → IsName Ok w → Printed Ok keeps (tree.member a w)
  printed_member {a} {w} p h =
      let r = base Ok keeps p in
      of_member Ok keeps (tree.member a w) r.0 (λ e. absurd (cc))
      (kept_both Ok (placed Base a (expr_lexemes a)) _ (placed_kept Ok keeps Base p) (keeps.marks punct.Dot, (h.1, tt)))
      (opens_both _ (base_opens Ok keeps p))
      (record { room = r.1.room; read = λ d z le. rw before_both (dotted (r.1.read d _ le) h.0) })

  pub printed_index : {a b : tree.Expr} → Printed Ok keeps a → Printed Ok keeps b → Printed Ok keeps (tree.index a b)
  printed_index {a} {b} p q =
      let r = base Ok keeps p in
      let s = part_alone Ok keeps q in
      of_member Ok keeps (tree.index a b) r.0 (λ e. absurd (cc))
      (kept_both Ok (placed Base a (expr_lexemes a)) _ (placed_kept Ok keeps Base p) (keeps.marks punct.LeftBracket, kept_both Ok (placed Part b (expr_lexemes b)) _ (placed_kept Ok keeps Part q) (keeps.marks punct.RightBracket, tt)))
      (opens_both _ (base_opens Ok keeps p))
      (record { room = r.1.room + s.1.room; read = λ d z le. rw (before_both (placed Base a (expr_lexemes a)), before_both (placed Part b (expr_lexemes b))) (indexed (r.1.read d _ (omega arith)) (s.1.read d (mark punct.RightBracket false ∷ z) (omega arith))) })

  pub printed_call : {a : tree.Expr} (es : List tree.Expr) → Printed Ok keeps a → Each (Printed Ok keeps) es → Printed Ok keeps (tree.call a (exprs_of es))
  printed_call {a} es p h =
      let r = operand Ok keeps p in
      let s = arguments_read Ok keeps es h in
      of_member Ok keeps (tree.call a (exprs_of es)) true (λ e. absurd (cc))
      (kept_both Ok (placed Operand a (expr_lexemes a)) _ (placed_kept Ok keeps Operand p) (keeps.marks punct.LeftParenthesis, arguments_kept Ok keeps es h))
      (opens_both _ (operand_opens Ok keeps p))
      (record { room = r.1.room + s.room; read = λ d z le. rw (before_both (placed Operand a (expr_lexemes a)) (parenthesised (parts_lexemes (exprs_of es))) z) (called (r.1.read d _ (omega arith)) (s.read d z (omega arith))) })

  pub printed_construct : {a : tree.Expr} (es : List tree.Expr) → Printed Ok keeps a → Each (Printed Ok keeps) es → Printed Ok keeps (tree.construct a (exprs_of es))
  printed_construct {a} es p h =
      let r = inside (expression true level.Member true) (constructor Ok keeps p) in
      let s = arguments_read Ok keeps es h in
      of_member Ok keeps (tree.construct a (exprs_of es)) false (λ e. refl)
      (keeps.words keyword.New, kept_both Ok (placed Constructor a (expr_lexemes a)) _ (placed_kept Ok keeps Constructor p) (keeps.marks punct.LeftParenthesis, arguments_kept Ok keeps es h))
      (opens refl (λ e. refl))
      (record { room = r.room + s.room; read = λ d z le. rw (before_both (placed Constructor a (expr_lexemes a)) (parenthesised (parts_lexemes (exprs_of es))) z) (constructed (r.read d _ (omega arith)) (s.read d z (omega arith))) })

  -- ---- operators

  pub printed_unary : (op : UnaryOp) {a : tree.Expr} → Printed Ok keeps a → Printed Ok keeps (tree.unary op a)
  printed_unary op {a} p =
      let r = operand_inside Ok keeps true 11 (omega arith) p in
      let s = prefix_sign op in
      of_assignment Ok keeps (tree.unary op a) true refl
      (unary_kept op, placed_kept Ok keeps Operand p)
      (prefix_opens op _)
      (λ inn t. record { room = r.room; read = λ d z le. is_binary (binary_of_unary (Exp d) (Body d) inn 1 (omega arith) (subst (λ v. Unary (Exp d) (Body d) true ((v, false) ∷ before (placed Operand a (expr_lexemes a)) z) z (tree.unary op a)) (sym s.1) (operated s.2 (r.read d z le)))) })

  pub printed_step : (up : Bool) {a : tree.Expr} → Printed Ok keeps a → Printed Ok keeps (tree.update up true a)
  printed_step up {a} p =
      let r = operand_inside Ok keeps true 11 (omega arith) p in
      of_assignment Ok keeps (tree.update up true a) true refl
      (keeps.marks (update_punct up), placed_kept Ok keeps Operand p)
      (step_opens up _)
      (λ inn t. record { room = r.room; read = λ d z le. is_binary (binary_of_unary (Exp d) (Body d) inn 1 (omega arith) (operated (step_prefix up) (r.read d z le))) })

  pub printed_stepped : (up : Bool) {a : tree.Expr} → Printed Ok keeps a → Printed Ok keeps (tree.update up false a)
  printed_stepped up {a} p =
      let r = operand Ok keeps p in
      of_assignment Ok keeps (tree.update up false a) false refl
      (kept_both Ok (placed Operand a (expr_lexemes a)) _ (placed_kept Ok keeps Operand p) (keeps.marks (update_punct up), tt))
      (opens_both _ (operand_opens Ok keeps p))
      (λ inn t. record { room = r.1.room; read = λ d z le. rw before_both (is_binary (binary_of_unary (Exp d) (Body d) inn 1 (omega arith) (is_postfix (stepped (left_of_member (Exp d) (Body d) r.0 (r.1.read d _ le)) (step_sign up))))) })

  -- an operator between two operands
  infix_reads : (f : Infix) (x : Lexeme) {a b : tree.Expr} → Printed Ok keeps a → Printed Ok keeps b → (inn : Bool) → (s : Sign) × (symbol_of (kind_of x) ≡ sign s) × (infix_of inn (Some s) ≡ Some f) → Reads (Assignments inn true) (placed Operand a (expr_lexemes a) ++ x ∷ placed Operand b (expr_lexemes b)) (combined f a b)
  infix_reads f x {a} {b} p q inn s =
      let few = levels f in
      let r = operand Ok keeps p in
      let t = operand_inside Ok keeps inn (suc (level_of f)) few.1 q in
      record { room = r.1.room + t.room; read = λ d z le. rw before_both (is_binary (lower (Exp d) (Body d) inn 1 (level_of f) few.0 (subst (λ v. Binary (Exp d) (Body d) inn (level_of f) true (before (placed Operand a (expr_lexemes a)) ((v, false) ∷ before (placed Operand b (expr_lexemes b)) z)) z (combined f a b)) (sym s.1) (combines s.2 (binary_of_member (Exp d) (Body d) inn (level_of f) r.0 (omega arith) (r.1.read d _ (omega arith))) (t.read d z (omega arith)))))) }

  infix_kept : (x : Lexeme) {a b : tree.Expr} → Printed Ok keeps a → Printed Ok keeps b → Ok (kind_of x) → AreKept Ok (placed Operand a (expr_lexemes a) ++ x ∷ placed Operand b (expr_lexemes b))
  infix_kept x {a} p q k = kept_both Ok (placed Operand a (expr_lexemes a)) _ (placed_kept Ok keeps Operand p) (k, placed_kept Ok keeps Operand q)

  pub printed_binary : (op : BinaryOp) {a b : tree.Expr} → Printed Ok keeps a → Printed Ok keeps b → Printed Ok keeps (tree.binary op a b)
  printed_binary op {a} {b} p q =
      of_assignment Ok keeps (tree.binary op a b) true refl
      (infix_kept (binary_lexeme op) p q (binary_kept op))
      (binary_opens op a b (opens_both _ (operand_opens Ok keeps p)))
      (λ inn t. infix_reads (infixes.Operation op) (binary_lexeme op) p q inn (infix_sign inn op a b t))

  pub printed_and : {a b : tree.Expr} → Printed Ok keeps a → Printed Ok keeps b → Printed Ok keeps (tree.logical_and a b)
  printed_and {a} {b} p q =
      of_assignment Ok keeps (tree.logical_and a b) true refl
      (infix_kept (Punct punct.DoubleAmpersand) p q (keeps.marks punct.DoubleAmpersand))
      (opens_both _ (operand_opens Ok keeps p))
      (λ inn t. infix_reads infixes.Both (Punct punct.DoubleAmpersand) p q inn (signs.Mark punct.DoubleAmpersand, refl, refl))

  pub printed_or : {a b : tree.Expr} → Printed Ok keeps a → Printed Ok keeps b → Printed Ok keeps (tree.logical_or a b)
  printed_or {a} {b} p q =
      of_assignment Ok keeps (tree.logical_or a b) true refl
      (infix_kept (Punct punct.DoubleVerticalBar) p q (keeps.marks punct.DoubleVerticalBar))
      (opens_both _ (operand_opens Ok keeps p))
      (λ inn t. infix_reads infixes.Either (Punct punct.DoubleVerticalBar) p q inn (signs.Mark punct.DoubleVerticalBar, refl, refl))

  pub printed_infix : (f : Infix) {a b : tree.Expr} → Printed Ok keeps a → Printed Ok keeps b → Printed Ok keeps (combined f a b)
  printed_infix infixes.Either p q = printed_or p q
  printed_infix infixes.Both p q = printed_and p q
  printed_infix (infixes.Operation op) p q = printed_binary op p q

  pub printed_prefix : (f : Prefix) {a : tree.Expr} → Printed Ok keeps a → Printed Ok keeps (prefixed f a)
  printed_prefix (prefixes.Operator op) p = printed_unary op p
  printed_prefix (prefixes.Step up) p = printed_step up p

  pub printed_conditional : {a b c : tree.Expr} → Printed Ok keeps a → Printed Ok keeps b → Printed Ok keeps c → Printed Ok keeps (tree.conditional a b c)
  printed_conditional {a} {b} {c} p q r =
      let s = operand Ok keeps p in
      let t = operand_part Ok keeps true q in
      of_assignment Ok keeps (tree.conditional a b c) true refl
      (kept_both Ok (placed Operand a (expr_lexemes a)) _ (placed_kept Ok keeps Operand p) (keeps.marks punct.QuestionMark, kept_both Ok (placed Operand b (expr_lexemes b)) _ (placed_kept Ok keeps Operand q) (keeps.marks punct.Colon, placed_kept Ok keeps Operand r)))
      (opens_both _ (operand_opens Ok keeps p))
      (λ inn u.
      let v = operand_part Ok keeps inn r in
      record { room = s.1.room + (t.room + v.room); read = λ d z le. rw (before_both (placed Operand a (expr_lexemes a)), before_both (placed Operand b (expr_lexemes b))) (chosen (binary_of_member (Exp d) (Body d) inn 1 s.0 (omega arith) (s.1.read d _ (omega arith))) (t.read d _ (omega arith)) (v.read d z (omega arith))) })

  pub printed_assign : (f : Option BinaryOp) {a b : tree.Expr} → assignment_of (Some (signs.Mark (assign_punct f))) ≡ Some f → Printed Ok keeps a → Printed Ok keeps b → Printed Ok keeps (tree.assign f a b)
  printed_assign f {a} {b} e p q =
      let s = operand Ok keeps p in
      let t = part_inside Ok keeps q in
      of_assignment Ok keeps (tree.assign f a b) t.0 refl
      (kept_both Ok (placed Operand a (expr_lexemes a)) _ (placed_kept Ok keeps Operand p) (keeps.marks (assign_punct f), placed_kept Ok keeps Part q))
      (opens_both _ (operand_opens Ok keeps p))
      (λ inn u. record { room = s.1.room + (t.1 inn).room; read = λ d z le. rw before_both (assigned (left_of_member (Exp d) (Body d) s.0 (s.1.read d _ (omega arith))) e ((t.1 inn).read d z (omega arith))) })

  -- ---- expressions with commas between them

  pub printed_sequence : (a : tree.Expr) (es : List tree.Expr) → Printed Ok keeps a → Each (Printed Ok keeps) es → Printed Ok keeps (sequence_of (a ∷ es))
  printed_sequence a [] p h = p
  printed_sequence a (b ∷ es) p h =
      let r = parts_read Ok keeps (λ inn d g. Assignments inn g d) (λ a p. part_of Ok keeps p) a (b ∷ es) p h in
      record {
        kept = parts_kept Ok keeps (a ∷ b ∷ es) (p, h);
        opening = opens_both _ (part_opens Ok keeps p);
        whole = (r.0, λ inn s. record { room = (r.1 inn).room; read = λ d z le. sequenced ((r.1 inn).read d z le) });
        part = λ e. absurd (cc);
        left = λ e. absurd (cc);
      }
