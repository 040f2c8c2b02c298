-- The tree of a derived expression is that of an expression.
use Rattle.std.proofs.Common.{◌≡◌, ℕ, Bool, true, false, List, [], ◌∷◌, ◌++◌, Option, Some, None, refl, ap, ◌∙◌}
use Rattle.std.specs.Prelude.{IsTrue, ◌&&◌}
use Rattle.std.specs.List.{list_all}
use Rattle.js_core.specs.Tree as tree
use Rattle.js_core.specs.Tree.{exprs_of, maybe_expr, holes_of, fields_of, stmts_of}
use Rattle.js_core.specs.declared.operators.BinaryOp.{BinaryOp}
use Rattle.js_core.specs.declared.operators.BinaryOp.TheVariants as op
use Rattle.js_core.specs.declared.token.TokenKind.TheVariants as kind
use Rattle.js_core.specs.declared.token.Punct.{Punct}
use Rattle.js_core.specs.declared.token.Punct.TheVariants as p
use Rattle.js_lexer.specs.Written.{can_be_written}
use Rattle.js_grammar.specs.declared.sign.Sign.{Sign}
use Rattle.js_grammar.specs.declared.sign.Sign.TheVariants.{Mark, Word}
use Rattle.js_grammar.specs.Operators.{Level, sequence, assignment, binary, construction, member, Infix, either, both, operation, Prefix, operator, step, combined, prefixed, assignment_of}
use Rattle.js_grammar.specs.Symbols.{Lexeme}
use Rattle.js_grammar.specs.Phrases.{Phrase, Name, name, Separated, only, further, Listed, nothing, something, Many, none, more, Divided, by_comma, by_close}
use Rattle.js_grammar.specs.Expressions.{sequence_of, Element, absent, present, Field, field, Arguments, Procedure, procedure, Primary, this_value, null_value, true_value, false_value, named, numeral, string, array, object, grouped, anonymous, function, Member, is_primary, dotted, indexed, called, constructed, LeftHandSide, is_member, is_call, constructed_plainly, Postfix, is_left, stepped, Unary, is_postfix, operated, Binary, is_unary, tighter, combines, Assignment, is_binary, chosen, assigned, Sequence, sequenced, AtLevel}
use Rattle.js_grammar.specs.Syntax.{is_identifier, is_maybe_identifier, assigns, IsExpr, AreExprs, IsMaybeExpr, AreHoles, AreFields, IsCode, AreStmts}
use Rattle.js_grammar.proofs.GivenSymbols.{AreGiven, given_identifier, given_number, given_text, given_name, given_field}
use Rattle.js_grammar.proofs.Heights.{Each}
use Rattle.js_grammar.proofs.ListsHold.{each_with}

abbrev pub IsFilled : {A : Type 0} → List A → Type 0
IsFilled [] = ⊥
IsFilled (a ∷ rest) = Unit {0}

filled_with : {A : Type 0} (found : List A) (a : A) → IsFilled (found ++ a ∷ [])
filled_with [] a = tt
filled_with (b ∷ bs) a = tt

-- ---- lists

-- behind what is derived from the symbols of tokens stand such symbols again
abbrev pub Makes : {A : Type 0} → (A → Type 0) → Phrase A → Type 0
Makes {A} P Item = (x z : List Lexeme) (a : A) → Item x z a → AreGiven x → P a × AreGiven z

pub many_make : {A : Type 0} {P : A → Type 0} (Item : Phrase A) → Makes P Item → {x z : List Lexeme} {found : List A} → Many Item x z found → AreGiven x → Each P found × AreGiven z
many_make Item item none g = (tt, g)
many_make {P = P} Item item (more {found = found} {a = a} h k) g =
    let r = many_make Item item h g in
    let s = item _ _ a k r.1 in
    (each_with P found a r.0 s.0, s.1)

pub separated_make : {A I : Type 0} {P : A → Type 0} (Item : I → Phrase A) → ((i : I) → Makes P (Item i)) → {i : I} {x z : List Lexeme} {found : List A} → Separated Item i x z found → AreGiven x → Each P found × IsFilled found × AreGiven z
separated_make Item item (only {i = i} {a = a} h) g = let s = item i _ _ a h g in ((s.0, tt), tt, s.1)
separated_make {P = P} Item item (further {j = j} {found = found} {a = a} h k) g =
    let r = separated_make Item item h g in
    let s = item j _ _ a k r.2.1 in
    (each_with P found a r.0 s.0, filled_with found a, s.1)

listed_make : {A I : Type 0} {P : A → Type 0} (Item : I → Phrase A) → ((i : I) → Makes P (Item i)) → {x z : List Lexeme} {found : List A} → Listed Item x z found → AreGiven x → Each P found × AreGiven z
listed_make Item item nothing g = (tt, g.1)
listed_make Item item (something h) g = let r = separated_make Item item h g in (r.0, r.2.1)

divided_given : {close : Punct} {x z : List Lexeme} → Divided close x z → AreGiven x → AreGiven z
divided_given by_comma g = g.1
divided_given by_close g = g

name_makes : Makes (λ w. IsTrue (is_identifier w)) Name
name_makes x z w name g = (given_identifier g.0, g.1)

-- ---- lists as parts of a tree

abbrev pub IsHole : Option tree.Expr → Type 0
IsHole o = IsMaybeExpr (maybe_expr o)

are_exprs : (es : List tree.Expr) → Each IsExpr es → AreExprs (exprs_of es)
are_exprs [] h = tt
are_exprs (e ∷ es) h = (h.0, are_exprs es h.1)

are_holes : (es : List (Option tree.Expr)) → Each IsHole es → AreHoles (holes_of es)
are_holes [] h = tt
are_holes (e ∷ es) h = (h.0, are_holes es h.1)

IsField : List ℕ × tree.Expr → Type 0
IsField f = IsTrue (can_be_written (kind.Text f.0)) × IsExpr f.1

are_fields : (fs : List (List ℕ × tree.Expr)) → Each IsField fs → AreFields (fields_of fs)
unfolding IsField
are_fields [] h = tt
are_fields (f ∷ fs) h = (h.0.0, h.0.1, are_fields fs h.1)

all_identifiers : (ws : List (List ℕ)) → Each (λ w. IsTrue (is_identifier w)) ws → list_all is_identifier ws ≡ true
all_identifiers [] h = refl
all_identifiers (w ∷ ws) h = ap (λ b. b && list_all is_identifier ws) h.0 ∙ all_identifiers ws h.1

-- ---- operators

assignment_assigns : (s : Sign) (f : Option BinaryOp) → assignment_of (Some s) ≡ Some f → assigns f ≡ true
assignment_assigns s None e = refl
assignment_assigns s (Some op.Mul) e = refl
assignment_assigns s (Some op.Div) e = refl
assignment_assigns s (Some op.Rem) e = refl
assignment_assigns s (Some op.Add) e = refl
assignment_assigns s (Some op.Sub) e = refl
assignment_assigns s (Some op.Shl) e = refl
assignment_assigns s (Some op.Shr) e = refl
assignment_assigns s (Some op.Ushr) e = refl
assignment_assigns s (Some op.BitAnd) e = refl
assignment_assigns s (Some op.BitXor) e = refl
assignment_assigns s (Some op.BitOr) e = refl
assignment_assigns (Mark p.SimpleAssign) (Some f) e = absurd (cc)
assignment_assigns (Mark p.PlusAssign) (Some f) e = absurd (cc)
assignment_assigns (Mark p.MinusAssign) (Some f) e = absurd (cc)
assignment_assigns (Mark p.StarAssign) (Some f) e = absurd (cc)
assignment_assigns (Mark p.SlashAssign) (Some f) e = absurd (cc)
assignment_assigns (Mark p.PercentAssign) (Some f) e = absurd (cc)
assignment_assigns (Mark p.ShiftLeftAssign) (Some f) e = absurd (cc)
assignment_assigns (Mark p.ShiftRightAssign) (Some f) e = absurd (cc)
assignment_assigns (Mark p.ShiftRightUnsignedAssign) (Some f) e = absurd (cc)
assignment_assigns (Mark p.AmpersandAssign) (Some f) e = absurd (cc)
assignment_assigns (Mark p.VerticalBarAssign) (Some f) e = absurd (cc)
assignment_assigns (Mark p.CaretAssign) (Some f) e = absurd (cc)
assignment_assigns (Mark _) (Some f) e = absurd (cc)
assignment_assigns (Word _) (Some f) e = absurd (cc)

is_combined : (f : Infix) (a b : tree.Expr) → IsExpr a → IsExpr b → IsExpr (combined f a b)
is_combined either a b h k = (h, k)
is_combined both a b h k = (h, k)
is_combined (operation f) a b h k = (h, k)

is_prefixed : (f : Prefix) (a : tree.Expr) → IsExpr a → IsExpr (prefixed f a)
is_prefixed (operator f) a h = h
is_prefixed (step up) a h = h

is_sequence : (found : List tree.Expr) → Each IsExpr found → IsFilled found → IsExpr (sequence_of found)
is_sequence [] h f = absurd f
is_sequence (a ∷ []) h f = h.0
is_sequence (a ∷ b ∷ es) h f = (refl, are_exprs (a ∷ b ∷ es) h)

-- ---- phrases

-- what is known of the expressions and bodies that stand inside another
pub record SyntaxInside (E : Bool → Level → Bool → Phrase tree.Expr) (B : Phrase (List tree.Stmt)) : Type 0 where
  pub expressions : (inn : Bool) (l : Level) (g : Bool) → Makes IsExpr (E inn l g)
  pub bodies : Makes (λ found. AreStmts true (stmts_of found)) B

module _ (E : Bool → Level → Bool → Phrase tree.Expr) (B : Phrase (List tree.Stmt)) (inner : SyntaxInside E B) where
  element_makes : Makes IsHole (Element E B)
  element_makes x z a absent g = (tt, g.1)
  element_makes x z a (present {a = b} h k) g = let r = inner.expressions true assignment _ _ _ b h g in (r.0, divided_given k r.1)

  field_makes : Makes IsField (Field E B)
  unfolding IsField
  field_makes x z a (field {a = b} e h k) g = let r = inner.expressions true assignment _ _ _ b h g.1.1 in ((given_field g.0 e, r.0), divided_given k r.1)

  arguments_make : {x z : List Lexeme} {found : List tree.Expr} → Arguments E B x z found → AreGiven x → Each IsExpr found × AreGiven z
  arguments_make h g = listed_make (λ g. E true assignment g) (inner.expressions true assignment) h g

  pub procedure_makes : (own : Option (List ℕ)) → is_maybe_identifier own ≡ true → Makes IsCode (Procedure E B own)
  procedure_makes own e x z c (procedure {formals = formals} {body = found} h k) g =
      let r = listed_make {I = Unit {0}} (λ u. Name) (λ u. name_makes) h g.1 in
      let s = inner.bodies _ _ found k r.1.1 in
      ((e, all_identifiers formals r.0, s.0), s.1.1)

  primary_makes : Makes IsExpr (Primary E B)
  primary_makes x z a this_value g = (tt, g.1)
  primary_makes x z a null_value g = (tt, g.1)
  primary_makes x z a true_value g = (tt, g.1)
  primary_makes x z a false_value g = (tt, g.1)
  primary_makes x z a named g = (given_identifier g.0, g.1)
  primary_makes x z a numeral g = (given_number g.0, g.1)
  primary_makes x z a string g = (given_text g.0, g.1)
  primary_makes x z a (array {found = found} h) g = let r = many_make (Element E B) element_makes h g.1 in (are_holes found r.0, r.1.1)
  primary_makes x z a (object {found = found} h) g = let r = many_make (Field E B) field_makes h g.1 in (are_fields found r.0, r.1.1)
  primary_makes x z a (grouped h) g = let r = inner.expressions true sequence _ _ _ a h g.1 in (r.0, r.1.1)
  primary_makes x z a (anonymous {c = c} h) g = procedure_makes None refl _ _ c h g.1
  primary_makes x z a (function {w = w} {c = c} h) g = procedure_makes (Some w) (given_identifier g.1.0) _ _ c h g.1.1

  member_makes : (c : Bool) → Makes IsExpr (Member E B c)
  member_makes c x z a (is_primary h) g = primary_makes x z a h g
  member_makes c x z a (dotted {a = b} h e) g =
      let r = member_makes _ _ _ b h g in
      ((r.0, given_name r.1.1.0 e), r.1.1.1)
  member_makes c x z a (indexed {a = b} {b = k} h i) g =
      let r = member_makes _ _ _ b h g in
      let s = inner.expressions true sequence _ _ _ k i r.1.1 in
      ((r.0, s.0), s.1.1)
  member_makes c x z a (called {a = b} {found = found} h i) g =
      let r = member_makes _ _ _ b h g in
      let s = arguments_make i r.1.1 in
      ((r.0, are_exprs found s.0), s.1)
  member_makes c x z a (constructed {a = b} {found = found} h i) g =
      let r = inner.expressions true member _ _ _ b h g.1 in
      let s = arguments_make i r.1.1 in
      ((r.0, are_exprs found s.0), s.1)

  pub left_makes : (calls : Bool) → Makes IsExpr (LeftHandSide E B calls)
  left_makes calls x z a (is_member h) g = member_makes false x z a h g
  left_makes calls x z a (is_call h) g = member_makes true x z a h g
  left_makes calls x z a (constructed_plainly {a = b} h) g = let r = inner.expressions true construction _ _ _ b h g.1 in ((r.0, tt), r.1)

  postfix_makes : (grows : Bool) → Makes IsExpr (Postfix E B grows)
  postfix_makes grows x z a (is_left h) g = left_makes true x z a h g
  postfix_makes grows x z a (stepped {a = b} h e) g = let r = left_makes true _ _ b h g in (r.0, r.1.1)

  unary_makes : (grows : Bool) → Makes IsExpr (Unary E B grows)
  unary_makes grows x z a (is_postfix h) g = postfix_makes grows x z a h g
  unary_makes grows x z a (operated {f = f} {a = b} e h) g = let r = inner.expressions true (binary 11) _ _ _ b h g.1 in (is_prefixed f b r.0, r.1)

  binary_makes : (inn : Bool) (n : ℕ) (grows : Bool) → Makes IsExpr (Binary E B inn n grows)
  binary_makes inn n grows x z a (is_unary h) g = unary_makes grows x z a h g
  binary_makes inn n grows x z a (tighter h) g = binary_makes inn _ grows x z a h g
  binary_makes inn n grows x z a (combines {f = f} {a = b} {b = c} e h k) g =
      let r = binary_makes inn _ _ _ _ b h g in
      let s = inner.expressions inn _ _ _ _ c k r.1.1 in
      (is_combined f b c r.0 s.0, s.1)

  pub assignment_makes : (inn grows : Bool) → Makes IsExpr (Assignment E B inn grows)
  assignment_makes inn grows x z a (is_binary h) g = binary_makes inn 1 grows x z a h g
  assignment_makes inn grows x z a (chosen {a = b} {b = c} {c = e} h i k) g =
      let r = binary_makes inn 1 _ _ _ b h g in
      let s = inner.expressions true assignment _ _ _ c i r.1.1 in
      let t = inner.expressions inn assignment _ _ _ e k s.1.1 in
      ((r.0, s.0, t.0), t.1)
  assignment_makes inn grows x z a (assigned {s = s} {f = f} {a = b} {b = c} h e k) g =
      let r = left_makes true _ _ b h g in
      let t = inner.expressions inn assignment _ _ _ c k r.1.1 in
      ((assignment_assigns s f e, r.0, t.0), t.1)

  pub sequence_makes : (inn grows : Bool) → Makes IsExpr (Sequence E B inn grows)
  sequence_makes inn grows x z a (sequenced {found = found} h) g =
      let r = separated_make (Assignment E B inn) (assignment_makes inn) h g in
      (is_sequence found r.0 r.1, r.2)

  pub level_makes : (inn : Bool) (l : Level) (grows : Bool) → Makes IsExpr (AtLevel E B inn l grows)
  level_makes inn sequence grows = sequence_makes inn grows
  level_makes inn assignment grows = assignment_makes inn grows
  level_makes inn (binary n) grows = binary_makes inn n grows
  level_makes inn construction grows = left_makes false
  level_makes inn member grows = member_makes false
