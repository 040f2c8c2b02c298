-- The parts of an expression are lower than it, but for the inside of a group with which it begins.
use Rattle.std.proofs.Common.{◌≡◌, ℕ, suc, ◌<◌, ◌≤◌, Bool, true, List, [], ◌∷◌, ◌++◌, Option, refl, arith}
use Rattle.js_core.specs.Tree as tree
use Rattle.js_core.specs.Tree.{exprs_of, holes_of, fields_of, stmts_of}
use Rattle.js_core.specs.Height.{expr_height, exprs_height, holes_height, fields_height, code_height, stmts_height}
use Rattle.js_core.specs.declared.token.Punct.TheVariants as p
use Rattle.js_grammar.specs.Symbols.{Lexeme}
use Rattle.js_grammar.specs.Operators.{Level, sequence, assignment, binary, construction, member, Infix, either, both, operation, level_of, combined, Prefix, operator, step, prefixed}
use Rattle.js_grammar.specs.Phrases.{Phrase, mark, Separated, only, further}
use Rattle.js_grammar.specs.Expressions.{sequence_of, Element, absent, present, Field, field, Arguments, Procedure, procedure, Primary, this_value, null_value, true_value, false_value, named, numeral, string, array, object, grouped, anonymous, function, Member, is_primary, dotted, indexed, called, constructed, LeftHandSide, is_member, is_call, constructed_plainly, Postfix, is_left, stepped, Unary, is_postfix, operated, Binary, is_unary, tighter, combines, Assignment, is_binary, chosen, assigned, Sequence, sequenced, AtLevel}
use Rattle.js_grammar.proofs.Heights.{Each, Fits, exprs_fit, HoleFits, holes_fit, fields_fit}
use Rattle.js_grammar.proofs.LowerLists.{many_kept, separated_kept, listed_kept}

pub prefixed_lower : (f : Prefix) (a : tree.Expr) (n : ℕ) → expr_height (prefixed f a) ≤ n → expr_height a < n
prefixed_lower (operator f) a n h = omega arith
prefixed_lower (step up) a n h = omega arith

pub combined_lower : (f : Infix) (a b : tree.Expr) (n : ℕ) → expr_height (combined f a b) ≤ n → (expr_height a < n) × (expr_height b < n)
combined_lower either a b n h = (omega arith, omega arith)
combined_lower both a b n h = (omega arith, omega arith)
combined_lower (operation f) a b n h = (omega arith, omega arith)

abbrev pub IsLower : ℕ → tree.Expr → Type 0
IsLower n a = expr_height a < n

all_lower : (n : ℕ) (es : List tree.Expr) → exprs_height (exprs_of es) < n → Each (IsLower n) es
all_lower n [] h = tt
all_lower n (e ∷ es) h = (omega arith, all_lower n es (omega arith))

-- where there are two or more, a comma joins them
pub items_lower : (n : ℕ) (e : tree.Expr) (es : List tree.Expr) (a : tree.Expr) → expr_height (sequence_of ((e ∷ es) ++ a ∷ [])) ≤ n → Each (IsLower n) ((e ∷ es) ++ a ∷ [])
items_lower n e [] a h = all_lower n (e ∷ a ∷ []) (omega arith)
items_lower n e (b ∷ rest) a h = all_lower n (e ∷ b ∷ (rest ++ a ∷ [])) (omega arith)

-- there is one item or more
pub no_items : {A I R : Type 0} {Item : I → Phrase A} {i : I} {x z : List Lexeme} {found : List A} → Separated Item i x z found → found ≡ [] → R
no_items (only h) e = absurd (cc)
no_items (further {found = []} h i) e = absurd (cc)
no_items (further {found = c ∷ rest} h i) e = absurd (cc)

module _ (Exp : Bool → Level → Bool → Phrase tree.Expr) (Body : Phrase (List tree.Stmt)) (LowExp : Bool → Level → Bool → Phrase tree.Expr) (LowBody : Phrase (List tree.Stmt)) (bound : ℕ) (lower : (inn : Bool) (level : Level) (g : Bool) (x z : List Lexeme) (a : tree.Expr) → Exp inn level g x z a → expr_height a < bound → LowExp inn level g x z a) (lower_body : (x z : List Lexeme) (found : List tree.Stmt) → Body x z found → stmts_height (stmts_of found) < bound → LowBody x z found) where
  -- the inside of a group with which these lexemes begin, and which need be no lower
  abbrev pub Groups : ℕ → List Lexeme → Type 0
  Groups n x = (l k g : Bool) (y z : List Lexeme) (a : tree.Expr) → x ≡ mark p.LeftParenthesis l ∷ y → Exp true sequence g y (mark p.RightParenthesis k ∷ z) a → expr_height a ≤ n → LowExp true sequence g y (mark p.RightParenthesis k ∷ z) a

  element_kept : (n : ℕ) → n < bound → (x z : List Lexeme) (o : Option tree.Expr) → Element Exp Body x z o → HoleFits n o → Element LowExp LowBody x z o
  element_kept n lt x z o absent f = absent
  element_kept n lt x z o (present {g = g} {y = y} {a = a} h d) f = present (lower true assignment g x y a h (omega arith)) d

  field_kept : (n : ℕ) → n < bound → (x z : List Lexeme) (e : List ℕ × tree.Expr) → Field Exp Body x z e → Fits n e.1 → Field LowExp LowBody x z e
  field_kept n lt x z e (field {g = g} {x = v} {y = y} {a = a} i h d) f = field i (lower true assignment g v y a h (omega arith)) d

  pub arguments_kept : (n : ℕ) → n < bound → {x z : List Lexeme} {found : List tree.Expr} → Arguments Exp Body x z found → exprs_height (exprs_of found) ≤ n → Arguments LowExp LowBody x z found
  arguments_kept n lt {found = found} h le =
      listed_kept (λ g. Exp true assignment g) (λ g. LowExp true assignment g) (Fits n) (λ g x z a e f. lower true assignment g x z a e (omega arith)) h (exprs_fit n found le)

  pub procedure_kept : {own : Option (List ℕ)} {x z : List Lexeme} {c : tree.Code} → Procedure Exp Body own x z c → code_height c < bound → Procedure LowExp LowBody own x z c
  procedure_kept (procedure {j = j} {y = y} {z = z} {body = body} h b) lt = procedure h (lower_body y (mark p.RightBrace j ∷ z) body b lt)

  primary_kept : (n : ℕ) → n ≤ bound → {x z : List Lexeme} {a : tree.Expr} → Groups n x → Primary Exp Body x z a → expr_height a ≤ n → Primary LowExp LowBody x z a
  primary_kept n le groups this_value f = this_value
  primary_kept n le groups null_value f = null_value
  primary_kept n le groups true_value f = true_value
  primary_kept n le groups false_value f = false_value
  primary_kept n le groups named f = named
  primary_kept n le groups numeral f = numeral
  primary_kept n le groups string f = string
  primary_kept n le groups (array {found = found} h) f =
      let m = holes_height (holes_of found) in
      array (many_kept (Element Exp Body) (Element LowExp LowBody) (HoleFits m) (element_kept m (omega arith)) h (holes_fit m found (omega arith)))
  primary_kept n le groups (object {found = found} h) f =
      let m = fields_height (fields_of found) in
      object (many_kept (Field Exp Body) (Field LowExp LowBody) (λ e. Fits m e.1) (field_kept m (omega arith)) h (fields_fit m found (omega arith)))
  primary_kept n le groups (grouped {g = g} {l = l} {k = k} {x = y} {z = z} {a = a} h) f = grouped (groups l k g y z a refl h f)
  primary_kept n le groups (anonymous h) f = anonymous (procedure_kept h (omega arith))
  primary_kept n le groups (function h) f = function (procedure_kept h (omega arith))

  member_kept : (n : ℕ) → n ≤ bound → {c : Bool} {x z : List Lexeme} {a : tree.Expr} → Groups n x → Member Exp Body c x z a → expr_height a ≤ n → Member LowExp LowBody c x z a
  member_kept n le groups (is_primary h) f = is_primary (primary_kept n le groups h f)
  member_kept n le groups (dotted h e) f = dotted (member_kept n le groups h (omega arith)) e
  member_kept n le groups (indexed {g = g} {k = k} {y = y} {z = z} {b = b} h i) f =
      indexed (member_kept n le groups h (omega arith)) (lower true sequence g y (mark p.RightBracket k ∷ z) b i (omega arith))
  member_kept n le groups (called {found = found} h i) f =
      let m = exprs_height (exprs_of found) in
      called (member_kept n le groups h (omega arith)) (arguments_kept m (omega arith) i (omega arith))
  member_kept n le groups (constructed {g = g} {k = k} {x = v} {y = y} {a = a} {found = found} h i) f =
      let m = exprs_height (exprs_of found) in
      constructed (lower true member g v (mark p.LeftParenthesis k ∷ y) a h (omega arith)) (arguments_kept m (omega arith) i (omega arith))

  pub left_kept : (n : ℕ) → n ≤ bound → {calls : Bool} {x z : List Lexeme} {a : tree.Expr} → Groups n x → LeftHandSide Exp Body calls x z a → expr_height a ≤ n → LeftHandSide LowExp LowBody calls x z a
  left_kept n le groups (is_member h) f = is_member (member_kept n le groups h f)
  left_kept n le groups (is_call h) f = is_call (member_kept n le groups h f)
  left_kept n le groups (constructed_plainly {g = g} {x = v} {z = z} {a = a} h) f = constructed_plainly (lower true construction g v z a h (omega arith))

  postfix_kept : (n : ℕ) → n ≤ bound → {g : Bool} {x z : List Lexeme} {a : tree.Expr} → Groups n x → Postfix Exp Body g x z a → expr_height a ≤ n → Postfix LowExp LowBody g x z a
  postfix_kept n le groups (is_left h) f = is_left (left_kept n le groups h f)
  postfix_kept n le groups (stepped h e) f = stepped (left_kept n le groups h (omega arith)) e

  unary_kept : (n : ℕ) → n ≤ bound → {g : Bool} {x z : List Lexeme} {a : tree.Expr} → Groups n x → Unary Exp Body g x z a → expr_height a ≤ n → Unary LowExp LowBody g x z a
  unary_kept n le groups (is_postfix h) f = is_postfix (postfix_kept n le groups h f)
  unary_kept n le groups (operated {g = g} {f = o} {x = v} {z = z} {a = a} e h) f =
      let lt = prefixed_lower o a n f in
      operated e (lower true (binary 11) g v z a h (omega arith))

  binary_kept : (n : ℕ) → n ≤ bound → {inn : Bool} {m : ℕ} {g : Bool} {x z : List Lexeme} {a : tree.Expr} → Groups n x → Binary Exp Body inn m g x z a → expr_height a ≤ n → Binary LowExp LowBody inn m g x z a
  binary_kept n le groups (is_unary h) f = is_unary (unary_kept n le groups h f)
  binary_kept n le groups (tighter h) f = tighter (binary_kept n le groups h f)
  binary_kept n le {inn} groups (combines {h = j} {f = o} {y = y} {z = z} {a = a} {b = b} e h i) f =
      let lt = combined_lower o a b n f in
      let left : expr_height a < n = lt.0 in
      let right : expr_height b < n = lt.1 in
      combines e (binary_kept n le groups h (omega arith)) (lower inn (binary (suc (level_of o))) j y z b i (omega arith))

  pub assignment_kept : (n : ℕ) → n ≤ bound → {inn g : Bool} {x z : List Lexeme} {a : tree.Expr} → Groups n x → Assignment Exp Body inn g x z a → expr_height a ≤ n → Assignment LowExp LowBody inn g x z a
  assignment_kept n le groups (is_binary h) f = is_binary (binary_kept n le groups h f)
  assignment_kept n le {inn} groups (chosen {h = i} {j = j} {k = k} {y = y} {v = v} {z = z} {b = b} {c = c} h u w) f =
      chosen (binary_kept n le groups h (omega arith)) (lower true assignment i y (mark p.Colon k ∷ v) b u (omega arith)) (lower inn assignment j v z c w (omega arith))
  assignment_kept n le {inn} groups (assigned {g = g} {y = y} {z = z} {b = b} h e u) f =
      assigned (left_kept n le groups h (omega arith)) e (lower inn assignment g y z b u (omega arith))

  -- an assignment expression that is a part
  pub assignment_lower : (inn g : Bool) (x z : List Lexeme) (a : tree.Expr) → Assignment Exp Body inn g x z a → expr_height a < bound → Assignment LowExp LowBody inn g x z a
  assignment_lower inn g x z a h lt =
      assignment_kept (expr_height a) (omega arith) (λ l k g y z b e i f. lower true sequence g y (mark p.RightParenthesis k ∷ z) b i (omega arith)) h (omega arith)

  sequence_by : (n : ℕ) → n ≤ bound → {inn g : Bool} {x z : List Lexeme} {found : List tree.Expr} → Groups n x → Separated (Assignment Exp Body inn) g x z found → expr_height (sequence_of found) ≤ n → Separated (Assignment LowExp LowBody inn) g x z found
  sequence_by n le groups (only h) f = only (assignment_kept n le groups h f)
  sequence_by n le {inn} groups (further {found = []} {a = a} h e) f = no_items h refl
  sequence_by n le {inn} groups (further {found = c ∷ rest} {a = a} h e) f =
      separated_kept (Assignment Exp Body inn) (Assignment LowExp LowBody inn) (IsLower n) (λ g x z b i lt. assignment_lower inn g x z b i (omega arith)) (further h e) (items_lower n c rest a f)

  pub sequence_kept : (n : ℕ) → n ≤ bound → {inn g : Bool} {x z : List Lexeme} {a : tree.Expr} → Groups n x → Sequence Exp Body inn g x z a → expr_height a ≤ n → Sequence LowExp LowBody inn g x z a
  sequence_kept n le groups (sequenced h) f = sequenced (sequence_by n le groups h f)

  pub level_kept : (n : ℕ) → n ≤ bound → (inn : Bool) (level : Level) (g : Bool) (x z : List Lexeme) (a : tree.Expr) → Groups n x → AtLevel Exp Body inn level g x z a → expr_height a ≤ n → AtLevel LowExp LowBody inn level g x z a
  level_kept n le inn sequence g x z a groups h f = sequence_kept n le groups h f
  level_kept n le inn assignment g x z a groups h f = assignment_kept n le groups h f
  level_kept n le inn (binary m) g x z a groups h f = binary_kept n le groups h f
  level_kept n le inn construction g x z a groups h f = left_kept n le groups h f
  level_kept n le inn member g x z a groups h f = member_kept n le groups h f
