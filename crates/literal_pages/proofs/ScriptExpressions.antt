-- The tree of an expression that literal symbols have is literal.
use Rattle.std.proofs.Common.{ℕ, ◌+◌, ◌≤◌, Bool, true, false, List, [], ◌∷◌, ◌++◌, length, length-append, Option, Some, None, arith}
use Rattle.js_core.specs.Tree as tree
use Rattle.js_core.specs.Tree.{exprs_of, maybe_expr, holes_of, fields_of, stmts_of}
use Rattle.js_core.specs.declared.token.Punct.{Punct}
use Rattle.js_grammar.specs.declared.operators.Infix.{Infix}
use Rattle.js_grammar.specs.declared.operators.Infix.TheVariants.{Either as either, Both as both, Operation as operation}
use Rattle.js_grammar.specs.declared.operators.Level.{Level}
use Rattle.js_grammar.specs.declared.operators.Level.TheVariants.{Sequence as sequence, Assignment as assignment, Binary as binary, Construction as construction, Member as member}
use Rattle.js_grammar.specs.declared.operators.Prefix.{Prefix}
use Rattle.js_grammar.specs.declared.operators.Prefix.TheVariants.{Operator as operator, Step as step}
use Rattle.js_grammar.specs.Operators.{combined, prefixed}
use Rattle.js_grammar.specs.Symbols.{Lexeme}
use Rattle.js_grammar.specs.Phrases.{Phrase, Name, name, Separated, only, further, Listed, nothing, something, Many, none, more, Divided, by_comma, by_close}
use Rattle.js_grammar.specs.Expressions.{sequence_of, Element, absent, present, Field, field, Arguments, Procedure, procedure, Primary, this_value, null_value, true_value, false_value, named, numeral, string, array, object, grouped, anonymous, function, Member, is_primary, dotted, indexed, called, constructed, LeftHandSide, is_member, is_call, constructed_plainly, Postfix, is_left, stepped, Unary, is_postfix, operated, Binary, is_unary, tighter, combines, Assignment, is_binary, chosen, assigned, Sequence, sequenced, AtLevel}
use Rattle.literal_values.specs.Trees.{LiteralCode, LiteralExpr, LiteralExprs, LiteralFields, LiteralHoles, LiteralMaybeExpr, LiteralStmts}
use Rattle.literal_values.specs.Values.{AreTexts, IsName, IsText, MaybeText}
use Rattle.literal_values.proofs.Callers.{name_text}
use Rattle.literal_pages.proofs.ScriptSymbols.{AreLiteral, field_literal, member_literal}

-- ---- lists

abbrev pub Each : {A : Type 0} (P : A → Type 0) → List A → Type 0
Each P [] = Unit {0}
Each P (a ∷ rest) = P a × Each P rest

each_with : {A : Type 0} (P : A → Type 0) (found : List A) (a : A) → Each P found → P a → Each P (found ++ a ∷ [])
each_with P [] a h k = (k, tt)
each_with P (b ∷ bs) a h k = (h.0, each_with P bs a h.1 k)

-- behind what is derived from the symbols of tokens stand such symbols again
abbrev pub Makes : {A : Type 0} → (A → Type 0) → Phrase A → Type 0
Makes {A} P Item = (x z : List Lexeme) (a : A) → Item x z a → AreLiteral x → P a × AreLiteral z

pub many_make : {A : Type 0} {P : A → Type 0} (Item : Phrase A) → Makes P Item → {x z : List Lexeme} {found : List A} → Many Item x z found → AreLiteral x → Each P found × AreLiteral z
many_make Item item none g = (tt, g)
many_make {P = P} Item item (more {found = found} {a = a} h k) g =
    let r = many_make Item item h g in
    let s = item _ _ a k r.1 in
    (each_with P found a r.0 s.0, s.1)

pub separated_make : {A I : Type 0} {P : A → Type 0} (Item : I → Phrase A) → ((i : I) → Makes P (Item i)) → {i : I} {x z : List Lexeme} {found : List A} → Separated Item i x z found → AreLiteral x → Each P found × AreLiteral z
separated_make Item item (only {i = i} {a = a} h) g = let s = item i _ _ a h g in ((s.0, tt), s.1)
separated_make {P = P} Item item (further {j = j} {found = found} {a = a} h k) g =
    let r = separated_make Item item h g in
    let s = item j _ _ a k r.1.1 in
    (each_with P found a r.0 s.0, s.1)

listed_make : {A I : Type 0} {P : A → Type 0} (Item : I → Phrase A) → ((i : I) → Makes P (Item i)) → {x z : List Lexeme} {found : List A} → Listed Item x z found → AreLiteral x → Each P found × AreLiteral z
listed_make Item item nothing g = (tt, g.1)
listed_make Item item (something h) g = let r = separated_make Item item h g in (r.0, r.1.1)

divided_literal : {close : Punct} {x z : List Lexeme} → Divided close x z → AreLiteral x → AreLiteral z
divided_literal by_comma g = g.1
divided_literal by_close g = g

name_makes : Makes IsName Name
name_makes x z w name g = (g.0.0, g.1)

-- ---- as many names as stand between parentheses

names_count : {i : Unit {0}} {x z : List Lexeme} {found : List (List ℕ)} → Separated {I = Unit {0}} (λ u. Name) i x z found → length found + length z ≤ length x
names_count (only name) = omega arith
names_count (further {found = found} {a = a} h name) = let l = names_count h in let m = length-append found (a ∷ []) in omega arith

formals_count : {x z : List Lexeme} {found : List (List ℕ)} → Listed {I = Unit {0}} (λ u. Name) x z found → length found ≤ length x
formals_count nothing = omega arith
formals_count (something h) = let l = names_count h in omega arith

-- ---- lists as parts of a tree

abbrev pub IsHole : Option tree.Expr → Type 0
IsHole o = LiteralMaybeExpr (maybe_expr o)

are_exprs : (es : List tree.Expr) → Each LiteralExpr es → LiteralExprs (exprs_of es)
are_exprs [] h = tt
are_exprs (e ∷ es) h = (h.0, are_exprs es h.1)

are_holes : (es : List (Option tree.Expr)) → Each IsHole es → LiteralHoles (holes_of es)
are_holes [] h = tt
are_holes (e ∷ es) h = (h.0, are_holes es h.1)

IsField : List ℕ × tree.Expr → Type 0
IsField f = IsText f.0 × LiteralExpr f.1

are_fields : (fs : List (List ℕ × tree.Expr)) → Each IsField fs → LiteralFields (fields_of fs)
unfolding IsField
are_fields [] h = tt
are_fields (f ∷ fs) h = (h.0.0, h.0.1, are_fields fs h.1)

are_texts : (ws : List (List ℕ)) → Each IsName ws → AreTexts ws
are_texts [] h = tt
are_texts (w ∷ ws) h = (name_text w h.0, are_texts ws h.1)

-- ---- operators

is_combined : (f : Infix) (a b : tree.Expr) → LiteralExpr a → LiteralExpr b → LiteralExpr (combined f a b)
is_combined either a b h k = (h, k)
is_combined both a b h k = (h, k)
is_combined (operation f) a b h k = (h, k)

is_prefixed : (f : Prefix) (a : tree.Expr) → LiteralExpr a → LiteralExpr (prefixed f a)
is_prefixed (operator f) a h = h
is_prefixed (step up) a h = h

is_sequence : (found : List tree.Expr) → Each LiteralExpr found → LiteralExpr (sequence_of found)
is_sequence [] h = tt
is_sequence (a ∷ []) h = h.0
is_sequence (a ∷ b ∷ es) h = are_exprs (a ∷ b ∷ es) h

-- ---- phrases

-- what is known of the expressions and bodies that stand inside another
pub record LiteralInside (E : Bool → Level → Bool → Phrase tree.Expr) (B : Phrase (List tree.Stmt)) : Type 0 where
  pub expressions : (inn : Bool) (l : Level) (g : Bool) → Makes LiteralExpr (E inn l g)
  pub bodies : Makes (λ found. LiteralStmts (stmts_of found)) B

module _ (E : Bool → Level → Bool → Phrase tree.Expr) (B : Phrase (List tree.Stmt)) (inner : LiteralInside E B) where
  element_makes : Makes IsHole (Element E B)
  element_makes x z a absent g = (tt, g.1)
  element_makes x z a (present {a = b} h k) g = let r = inner.expressions true assignment _ _ _ b h g in (r.0, divided_literal k r.1)

  field_makes : Makes IsField (Field E B)
  unfolding IsField
  field_makes x z a (field {a = b} e h k) g = let r = inner.expressions true assignment _ _ _ b h g.1.1 in ((field_literal _ _ g.0.0 e, r.0), divided_literal k r.1)

  arguments_make : {x z : List Lexeme} {found : List tree.Expr} → Arguments E B x z found → AreLiteral x → Each LiteralExpr found × AreLiteral z
  arguments_make h g = listed_make (λ g. E true assignment g) (inner.expressions true assignment) h g

  pub procedure_makes : (own : Option (List ℕ)) → MaybeText own → Makes LiteralCode (Procedure E B own)
  procedure_makes own e x z c (procedure {formals = formals} {body = found} h k) g =
      let l = formals_count h in
      let m = g.0.1 in
      let r = listed_make {I = Unit {0}} (λ u. Name) (λ u. name_makes) h g.1 in
      let s = inner.bodies _ _ found k r.1.1 in
      ((e, are_texts formals r.0, omega arith, s.0), s.1.1)

  primary_makes : Makes LiteralExpr (Primary E B)
  primary_makes x z a this_value g = (tt, g.1)
  primary_makes x z a null_value g = (tt, g.1)
  primary_makes x z a true_value g = (tt, g.1)
  primary_makes x z a false_value g = (tt, g.1)
  primary_makes x z a named g = (g.0.0, g.1)
  primary_makes x z a numeral g = (g.0.0.0, g.1)
  primary_makes x z a string g = (g.0.0, g.1)
  primary_makes x z a (array {found = found} h) g = let r = many_make (Element E B) element_makes h g.1 in (are_holes found r.0, r.1.1)
  primary_makes x z a (object {found = found} h) g = let r = many_make (Field E B) field_makes h g.1 in (are_fields found r.0, r.1.1)
  primary_makes x z a (grouped h) g = let r = inner.expressions true sequence _ _ _ a h g.1 in (r.0, r.1.1)
  primary_makes x z a (anonymous {c = c} h) g = procedure_makes None tt _ _ c h g.1
  primary_makes x z a (function {w = w} {c = c} h) g = procedure_makes (Some w) (name_text w g.1.0.0) _ _ c h g.1.1

  member_makes : (c : Bool) → Makes LiteralExpr (Member E B c)
  member_makes c x z a (is_primary h) g = primary_makes x z a h g
  member_makes c x z a (dotted {a = b} h e) g =
      let r = member_makes _ _ _ b h g in
      ((r.0, member_literal _ _ r.1.1.0.0 e), r.1.1.1)
  member_makes c x z a (indexed {a = b} {b = k} h i) g =
      let r = member_makes _ _ _ b h g in
      let s = inner.expressions true sequence _ _ _ k i r.1.1 in
      ((r.0, s.0), s.1.1)
  member_makes c x z a (called {a = b} {found = found} h i) g =
      let r = member_makes _ _ _ b h g in
      let s = arguments_make i r.1.1 in
      ((r.0, are_exprs found s.0), s.1)
  member_makes c x z a (constructed {a = b} {found = found} h i) g =
      let r = inner.expressions true member _ _ _ b h g.1 in
      let s = arguments_make i r.1.1 in
      ((r.0, are_exprs found s.0), s.1)

  pub left_makes : (calls : Bool) → Makes LiteralExpr (LeftHandSide E B calls)
  left_makes calls x z a (is_member h) g = member_makes false x z a h g
  left_makes calls x z a (is_call h) g = member_makes true x z a h g
  left_makes calls x z a (constructed_plainly {a = b} h) g = let r = inner.expressions true construction _ _ _ b h g.1 in ((r.0, tt), r.1)

  postfix_makes : (grows : Bool) → Makes LiteralExpr (Postfix E B grows)
  postfix_makes grows x z a (is_left h) g = left_makes true x z a h g
  postfix_makes grows x z a (stepped {a = b} h e) g = let r = left_makes true _ _ b h g in (r.0, r.1.1)

  unary_makes : (grows : Bool) → Makes LiteralExpr (Unary E B grows)
  unary_makes grows x z a (is_postfix h) g = postfix_makes grows x z a h g
  unary_makes grows x z a (operated {f = f} {a = b} e h) g = let r = inner.expressions true (binary 11) _ _ _ b h g.1 in (is_prefixed f b r.0, r.1)

  binary_makes : (inn : Bool) (n : ℕ) (grows : Bool) → Makes LiteralExpr (Binary E B inn n grows)
  binary_makes inn n grows x z a (is_unary h) g = unary_makes grows x z a h g
  binary_makes inn n grows x z a (tighter h) g = binary_makes inn _ grows x z a h g
  binary_makes inn n grows x z a (combines {f = f} {a = b} {b = c} e h k) g =
      let r = binary_makes inn _ _ _ _ b h g in
      let s = inner.expressions inn _ _ _ _ c k r.1.1 in
      (is_combined f b c r.0 s.0, s.1)

  pub assignment_makes : (inn grows : Bool) → Makes LiteralExpr (Assignment E B inn grows)
  assignment_makes inn grows x z a (is_binary h) g = binary_makes inn 1 grows x z a h g
  assignment_makes inn grows x z a (chosen {a = b} {b = c} {c = e} h i k) g =
      let r = binary_makes inn 1 _ _ _ b h g in
      let s = inner.expressions true assignment _ _ _ c i r.1.1 in
      let t = inner.expressions inn assignment _ _ _ e k s.1.1 in
      ((r.0, s.0, t.0), t.1)
  assignment_makes inn grows x z a (assigned {s = s} {f = f} {a = b} {b = c} h e k) g =
      let r = left_makes true _ _ b h g in
      let t = inner.expressions inn assignment _ _ _ c k r.1.1 in
      ((r.0, t.0), t.1)

  pub sequence_makes : (inn grows : Bool) → Makes LiteralExpr (Sequence E B inn grows)
  sequence_makes inn grows x z a (sequenced {found = found} h) g =
      let r = separated_make (Assignment E B inn) (assignment_makes inn) h g in
      (is_sequence found r.0, r.1)

  pub level_makes : (inn : Bool) (l : Level) (grows : Bool) → Makes LiteralExpr (AtLevel E B inn l grows)
  level_makes inn sequence grows = sequence_makes inn grows
  level_makes inn assignment grows = assignment_makes inn grows
  level_makes inn (binary n) grows = binary_makes inn n grows
  level_makes inn construction grows = left_makes false
  level_makes inn member grows = member_makes false
