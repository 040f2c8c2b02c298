-- What an expression takes, and what it begins with.
use Rattle.std.proofs.Common.{◌≡◌, ℕ, suc, ◌<◌, ◌≤◌, Bool, true, List, ◌∷◌, length, Option, Some, refl, arith}
use Rattle.js_core.specs.Tree as tree
use Rattle.js_core.specs.declared.token.Punct.TheVariants as p
use Rattle.js_core.specs.declared.keyword.Keyword.TheVariants as kw
use Rattle.js_grammar.specs.declared.sign.Sign.{Sign}
use Rattle.js_grammar.specs.declared.sign.Sign.TheVariants.{Mark, Word}
use Rattle.js_grammar.specs.Symbols.{Lexeme, sign_at}
use Rattle.js_grammar.specs.Operators.{Level, sequence, assignment, binary, construction, member, level_of, prefix_of, Prefix}
use Rattle.js_grammar.specs.Phrases.{Phrase, mark, Name, Separated, only, further}
use Rattle.js_grammar.specs.Expressions.{Element, absent, present, Field, field, Arguments, Procedure, procedure, Primary, this_value, null_value, true_value, false_value, named, numeral, string, array, object, grouped, anonymous, function, Member, is_primary, dotted, indexed, called, constructed, LeftHandSide, is_member, is_call, constructed_plainly, Postfix, is_left, stepped, Unary, is_postfix, operated, Binary, is_unary, tighter, combines, Assignment, is_binary, chosen, assigned, Sequence, sequenced, AtLevel}
use Rattle.js_grammar.proofs.Beginnings.{can_begin}
use Rattle.js_grammar.proofs.ListShapes.{name_shorter, separated_shorter, listed_shorter, many_shorter, divided_shorter}

module _ (Exp : Bool → Level → Bool → Phrase tree.Expr) (Body : Phrase (List tree.Stmt)) (shorter : (inn : Bool) (level : Level) (g : Bool) (x z : List Lexeme) (a : tree.Expr) → Exp inn level g x z a → length z < length x) (body_shorter : (x z : List Lexeme) (found : List tree.Stmt) → Body x z found → length z ≤ length x) where
  pub arguments_shorter : {x z : List Lexeme} {found : List tree.Expr} → Arguments Exp Body x z found → length z < length x
  arguments_shorter h = listed_shorter (λ g. Exp true assignment g) (shorter true assignment) h

  pub element_shorter : (x z : List Lexeme) (a : Option tree.Expr) → Element Exp Body x z a → length z < length x
  element_shorter x z a absent = omega arith
  element_shorter x z a (present {g = g} {y = y} {a = b} h d) = let a1 = shorter true assignment g x y b h in let a2 = divided_shorter d in omega arith

  pub field_shorter : (x z : List Lexeme) (a : List ℕ × tree.Expr) → Field Exp Body x z a → length z < length x
  field_shorter x z a (field {g = g} {x = x'} {y = y} {a = b} e h d) = let a1 = shorter true assignment g x' y b h in let a2 = divided_shorter d in omega arith

  pub procedure_shorter : {own : Option (List ℕ)} {x z : List Lexeme} {c : tree.Code} → Procedure Exp Body own x z c → length z < length x
  procedure_shorter (procedure {k = k} {j = j} {y = y} {z = z} {body = body} h b) =
      let a1 = listed_shorter (λ (u : Unit {0}). Name) (λ u. name_shorter) h in
      let a2 = body_shorter y (mark p.RightBrace j ∷ z) body b in
      omega arith

  pub primary_shorter : {x z : List Lexeme} {a : tree.Expr} → Primary Exp Body x z a → length z < length x
  primary_shorter this_value = omega arith
  primary_shorter null_value = omega arith
  primary_shorter true_value = omega arith
  primary_shorter false_value = omega arith
  primary_shorter named = omega arith
  primary_shorter numeral = omega arith
  primary_shorter string = omega arith
  primary_shorter (array h) = let a1 = many_shorter (Element Exp Body) element_shorter h in omega arith
  primary_shorter (object h) = let a1 = many_shorter (Field Exp Body) field_shorter h in omega arith
  primary_shorter (grouped {g = g} {k = k} {x = x} {z = z} {a = a} h) = let a1 = shorter true sequence g x (mark p.RightParenthesis k ∷ z) a h in omega arith
  primary_shorter (anonymous h) = let a1 = procedure_shorter h in omega arith
  primary_shorter (function h) = let a1 = procedure_shorter h in omega arith

  pub member_shorter : {c : Bool} {x z : List Lexeme} {a : tree.Expr} → Member Exp Body c x z a → length z < length x
  member_shorter (is_primary h) = primary_shorter h
  member_shorter (dotted h e) = let a1 = member_shorter h in omega arith
  member_shorter (indexed {g = g} {k = k} {y = y} {z = z} {b = b} h i) = let a1 = member_shorter h in let a2 = shorter true sequence g y (mark p.RightBracket k ∷ z) b i in omega arith
  member_shorter (called h i) = let a1 = member_shorter h in let a2 = arguments_shorter i in omega arith
  member_shorter (constructed {g = g} {k = k} {x = x} {y = y} {a = a} h i) = let a1 = shorter true member g x (mark p.LeftParenthesis k ∷ y) a h in let a2 = arguments_shorter i in omega arith

  pub left_shorter : {calls : Bool} {x z : List Lexeme} {a : tree.Expr} → LeftHandSide Exp Body calls x z a → length z < length x
  left_shorter (is_member h) = member_shorter h
  left_shorter (is_call h) = member_shorter h
  left_shorter (constructed_plainly {g = g} {x = x} {z = z} {a = a} h) = let a1 = shorter true construction g x z a h in omega arith

  pub postfix_shorter : {g : Bool} {x z : List Lexeme} {a : tree.Expr} → Postfix Exp Body g x z a → length z < length x
  postfix_shorter (is_left h) = left_shorter h
  postfix_shorter (stepped h e) = let a1 = left_shorter h in omega arith

  pub unary_shorter : {g : Bool} {x z : List Lexeme} {a : tree.Expr} → Unary Exp Body g x z a → length z < length x
  unary_shorter (is_postfix h) = postfix_shorter h
  unary_shorter (operated {g = g} {x = x} {z = z} {a = a} e h) = let a1 = shorter true (binary 11) g x z a h in omega arith

  pub binary_shorter : {inn : Bool} {n : ℕ} {g : Bool} {x z : List Lexeme} {a : tree.Expr} → Binary Exp Body inn n g x z a → length z < length x
  binary_shorter (is_unary h) = unary_shorter h
  binary_shorter (tighter h) = binary_shorter h
  binary_shorter {inn} (combines {h = g} {f = f} {y = y} {z = z} {b = b} e h i) = let a1 = binary_shorter h in let a2 = shorter inn (binary (suc (level_of f))) g y z b i in omega arith

  pub assignment_shorter : (inn : Bool) (g : Bool) (x z : List Lexeme) (a : tree.Expr) → Assignment Exp Body inn g x z a → length z < length x
  assignment_shorter inn g x z a (is_binary h) = binary_shorter h
  assignment_shorter inn g x z a (chosen {h = h'} {j = j} {k = k} {y = y} {v = v} {b = b} {c = c} h i l) = let a1 = binary_shorter h in let a2 = shorter true assignment h' y (mark p.Colon k ∷ v) b i in let a3 = shorter inn assignment j v z c l in omega arith
  assignment_shorter inn g x z a (assigned {y = y} {b = b} h e i) = let a1 = left_shorter h in let a2 = shorter inn assignment g y z b i in omega arith

  pub sequence_shorter : {inn g : Bool} {x z : List Lexeme} {a : tree.Expr} → Sequence Exp Body inn g x z a → length z < length x
  sequence_shorter {inn} (sequenced h) = separated_shorter (Assignment Exp Body inn) (assignment_shorter inn) h

  pub level_shorter : (inn : Bool) (level : Level) (g : Bool) (x z : List Lexeme) (a : tree.Expr) → AtLevel Exp Body inn level g x z a → length z < length x
  level_shorter inn sequence g x z a h = sequence_shorter h
  level_shorter inn assignment g x z a h = assignment_shorter inn g x z a h
  level_shorter inn (binary n) g x z a h = binary_shorter h
  level_shorter inn construction g x z a h = left_shorter h
  level_shorter inn member g x z a h = member_shorter h

begins_by : (s : Sign) {f : Prefix} → prefix_of (Some s) ≡ Some f → can_begin (Some s) ≡ true
begins_by (Word kw.Delete) e = refl
begins_by (Word kw.Void) e = refl
begins_by (Word kw.Typeof) e = refl
begins_by (Mark p.PlusSign) e = refl
begins_by (Mark p.MinusSign) e = refl
begins_by (Mark p.Tilde) e = refl
begins_by (Mark p.ExclamationMark) e = refl
begins_by (Mark p.PlusPlus) e = refl
begins_by (Mark p.MinusMinus) e = refl
begins_by (Word _) e = absurd (cc)
begins_by (Mark _) e = absurd (cc)

module _ (Exp : Bool → Level → Bool → Phrase tree.Expr) (Body : Phrase (List tree.Stmt)) where
  pub primary_begins : {x z : List Lexeme} {a : tree.Expr} → Primary Exp Body x z a → can_begin (sign_at x) ≡ true
  primary_begins this_value = refl
  primary_begins null_value = refl
  primary_begins true_value = refl
  primary_begins false_value = refl
  primary_begins named = refl
  primary_begins numeral = refl
  primary_begins string = refl
  primary_begins (array h) = refl
  primary_begins (object h) = refl
  primary_begins (grouped h) = refl
  primary_begins (anonymous h) = refl
  primary_begins (function h) = refl

  pub member_begins : {c : Bool} {x z : List Lexeme} {a : tree.Expr} → Member Exp Body c x z a → can_begin (sign_at x) ≡ true
  member_begins (is_primary h) = primary_begins h
  member_begins (dotted h e) = member_begins h
  member_begins (indexed h i) = member_begins h
  member_begins (called h i) = member_begins h
  member_begins (constructed h i) = refl

  pub left_begins : {calls : Bool} {x z : List Lexeme} {a : tree.Expr} → LeftHandSide Exp Body calls x z a → can_begin (sign_at x) ≡ true
  left_begins (is_member h) = member_begins h
  left_begins (is_call h) = member_begins h
  left_begins (constructed_plainly h) = refl

  pub unary_begins : {g : Bool} {x z : List Lexeme} {a : tree.Expr} → Unary Exp Body g x z a → can_begin (sign_at x) ≡ true
  unary_begins (is_postfix (is_left h)) = left_begins h
  unary_begins (is_postfix (stepped h e)) = left_begins h
  unary_begins (operated {s = s} e h) = begins_by s e

  pub binary_begins : {inn : Bool} {n : ℕ} {g : Bool} {x z : List Lexeme} {a : tree.Expr} → Binary Exp Body inn n g x z a → can_begin (sign_at x) ≡ true
  binary_begins (is_unary h) = unary_begins h
  binary_begins (tighter h) = binary_begins h
  binary_begins (combines e h i) = binary_begins h

  pub assignment_begins : {inn g : Bool} {x z : List Lexeme} {a : tree.Expr} → Assignment Exp Body inn g x z a → can_begin (sign_at x) ≡ true
  assignment_begins (is_binary h) = binary_begins h
  assignment_begins (chosen h i j) = binary_begins h
  assignment_begins (assigned h e i) = left_begins h

  pub separated_begins : {inn g : Bool} {x z : List Lexeme} {found : List tree.Expr} → Separated (Assignment Exp Body inn) g x z found → can_begin (sign_at x) ≡ true
  separated_begins (only h) = assignment_begins h
  separated_begins (further h i) = separated_begins h

  pub sequence_begins : {inn g : Bool} {x z : List Lexeme} {a : tree.Expr} → Sequence Exp Body inn g x z a → can_begin (sign_at x) ≡ true
  sequence_begins (sequenced h) = separated_begins h

  pub level_begins : (inn : Bool) (level : Level) (g : Bool) (x z : List Lexeme) (a : tree.Expr) → AtLevel Exp Body inn level g x z a → can_begin (sign_at x) ≡ true
  level_begins inn sequence g x z a h = sequence_begins h
  level_begins inn assignment g x z a h = assignment_begins h
  level_begins inn (binary n) g x z a h = binary_begins h
  level_begins inn construction g x z a h = left_begins h
  level_begins inn member g x z a h = member_begins h
