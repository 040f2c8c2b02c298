-- Printed lists of expressions and of names are read.
use Rattle.std.proofs.Common.{ℕ, ◌+◌, Bool, true, false, List, [], ◌∷◌, ◌++◌, Option, Some, None, refl, sym, subst, arith}
use Rattle.js_core.specs.Tree as tree
use Rattle.js_core.specs.Tree.{exprs_of, holes_of, fields_of}
use Rattle.js_core.specs.declared.token.TokenKind.{TokenKind}
use Rattle.js_core.specs.declared.token.TokenKind.TheVariants as kind
use Rattle.js_core.specs.declared.token.Punct.TheVariants as punct
use Rattle.js_grammar.specs.declared.operators.Level.TheVariants as level
use Rattle.js_grammar.specs.Symbols as symbols
use Rattle.js_grammar.specs.Symbols.{symbol_of}
use Rattle.js_grammar.specs.Phrases.{Phrase, mark, Name as Identifier, name as one_name, Separated, only, Listed, nothing, something, Many, none, by_comma, by_close}
use Rattle.js_grammar.specs.Expressions.{Element, absent, present, Field, field, Arguments}
use Rattle.js_print.specs.declared.lexeme.Lexeme.TheVariants.{Punct}
use Rattle.js_print.specs.declared.place.Place.TheVariants.{Part}
use Rattle.js_print.specs.Lexemes.{expr_lexemes, parts_lexemes, holes_lexemes, fields_lexemes, names}
use Rattle.js_print.specs.Places.{placed}
use Rattle.js_print.proofs.PrintedSymbols.{Keeps, before, before_both, AreKept, kept_both, IsIdentifier}
use Rattle.js_print.proofs.PrintedReads.{Exp, Body, Reads, ReadsUpTo, Each, many_first, separated_first}
use Rattle.js_print.proofs.PrintedPlaces.{Printed, placed_kept, part_inside}

module _ (Ok : TokenKind → Type 0) (keeps : Keeps Ok) where
  -- ---- expressions with commas between them

  pub parts_kept : (es : List tree.Expr) → Each (Printed Ok keeps) es → AreKept Ok (parts_lexemes (exprs_of es))
  parts_kept [] h = tt
  parts_kept (a ∷ []) h = kept_both Ok (placed Part a (expr_lexemes a)) [] (placed_kept Ok keeps Part h.0) tt
  parts_kept (a ∷ b ∷ es) h = kept_both Ok (placed Part a (expr_lexemes a)) _ (placed_kept Ok keeps Part h.0) (keeps.marks punct.Comma, parts_kept (b ∷ es) h.1)

  -- each is read as an item
  pub parts_read : (Item : Bool → ℕ → Bool → Phrase tree.Expr) → ((a : tree.Expr) → Printed Ok keeps a → (g : Bool) × ((inn : Bool) → Reads (λ d. Item inn d g) (placed Part a (expr_lexemes a)) a)) → (a : tree.Expr) (es : List tree.Expr) → Printed Ok keeps a → Each (Printed Ok keeps) es → (g : Bool) × ((inn : Bool) → Reads (λ d. Separated (Item inn d) g) (parts_lexemes (exprs_of (a ∷ es))) (a ∷ es))
  parts_read Item item a [] p h =
      let r = item a p in
      (r.0, λ inn. record { room = (r.1 inn).room; read = λ d z le. rw before_both (only ((r.1 inn).read d z le)) })
  parts_read Item item a (b ∷ es) p h =
      let r = item a p in
      let s = parts_read Item item b es h.0 h.1 in
      (s.0, λ inn. record { room = (r.1 inn).room + (s.1 inn).room; read = λ d z le. rw before_both (separated_first (Item inn d) ((r.1 inn).read d _ (omega arith)) ((s.1 inn).read d z (omega arith))) })

  pub arguments_kept : (es : List tree.Expr) → Each (Printed Ok keeps) es → AreKept Ok (parts_lexemes (exprs_of es) ++ Punct punct.RightParenthesis ∷ [])
  arguments_kept es h = kept_both Ok (parts_lexemes (exprs_of es)) _ (parts_kept es h) (keeps.marks punct.RightParenthesis, tt)

  pub arguments_read : (es : List tree.Expr) → Each (Printed Ok keeps) es → Reads (λ d. Arguments (Exp d) (Body d)) (parts_lexemes (exprs_of es) ++ Punct punct.RightParenthesis ∷ []) es
  arguments_read [] h = record { room = 0; read = λ d z le. nothing }
  arguments_read (a ∷ es) h =
      let r = parts_read (λ inn d g. Exp d inn level.Assignment g) (λ a p. part_inside Ok keeps p) a es h.0 h.1 in
      record { room = (r.1 true).room; read = λ d z le. rw before_both (something ((r.1 true).read d (mark punct.RightParenthesis false ∷ z) le)) }

  -- ---- names with commas between them

  pub name_read : {w : List ℕ} → IsIdentifier Ok w → (z : List symbols.Lexeme) → Identifier ((symbol_of (kind.Word w), false) ∷ z) z w
  name_read {w} h z = subst (λ s. Identifier ((s, false) ∷ z) z w) (sym h.0) one_name

  pub names_kept : (ws : List (List ℕ)) → Each (IsIdentifier Ok) ws → AreKept Ok (names ws)
  names_kept [] h = tt
  names_kept (w ∷ []) h = (h.0.1, tt)
  names_kept (w ∷ v ∷ ws) h = (h.0.1, (keeps.marks punct.Comma, names_kept (v ∷ ws) h.1))

  names_read : (w : List ℕ) (ws : List (List ℕ)) → IsIdentifier Ok w → Each (IsIdentifier Ok) ws → (z : List symbols.Lexeme) → Separated {I = Unit {0}} (λ u. Identifier) tt (before (names (w ∷ ws)) z) z (w ∷ ws)
  names_read w [] p h z = only (name_read p z)
  names_read w (v ∷ ws) p h z = separated_first (λ u. Identifier) {i = tt} (name_read p _) (names_read v ws h.0 h.1 z)

  pub formals_read : (ws : List (List ℕ)) → Each (IsIdentifier Ok) ws → (z : List symbols.Lexeme) → Listed {I = Unit {0}} (λ u. Identifier) (before (names ws) (mark punct.RightParenthesis false ∷ z)) z ws
  formals_read [] h z = nothing
  formals_read (w ∷ ws) h z = something (names_read w ws h.0 h.1 (mark punct.RightParenthesis false ∷ z))

  -- ---- the elements of an array literal

  abbrev pub PrintedHole : Option tree.Expr → Type 0
  PrintedHole None = Unit {0}
  PrintedHole (Some a) = Printed Ok keeps a

  pub holes_kept : (es : List (Option tree.Expr)) → Each PrintedHole es → AreKept Ok (holes_lexemes (holes_of es))
  holes_kept [] h = tt
  holes_kept (None ∷ es) h = (keeps.marks punct.Comma, holes_kept es h.1)
  holes_kept (Some a ∷ []) h = kept_both Ok (placed Part a (expr_lexemes a)) [] (placed_kept Ok keeps Part h.0) tt
  holes_kept (Some a ∷ b ∷ es) h = kept_both Ok (placed Part a (expr_lexemes a)) _ (placed_kept Ok keeps Part h.0) (keeps.marks punct.Comma, holes_kept (b ∷ es) h.1)

  pub holes_read : (es : List (Option tree.Expr)) → Each PrintedHole es → ReadsUpTo punct.RightBracket (λ d. Many (Element (Exp d) (Body d))) (holes_lexemes (holes_of es)) es
  holes_read [] h = record { room = 0; read = λ d z le. none }
  holes_read (None ∷ es) h = let s = holes_read es h.1 in record { room = s.room; read = λ d z le. many_first absent (s.read d z le) }
  holes_read (Some a ∷ []) h =
      let r = part_inside Ok keeps h.0 in
      record { room = (r.1 true).room; read = λ d z le. rw before_both (many_first (present ((r.1 true).read d (mark punct.RightBracket false ∷ z) le) by_close) none) }
  holes_read (Some a ∷ b ∷ es) h =
      let r = part_inside Ok keeps h.0 in
      let s = holes_read (b ∷ es) h.1 in
      record { room = (r.1 true).room + s.room; read = λ d z le. rw before_both (many_first (present ((r.1 true).read d _ (omega arith)) by_comma) (s.read d z (omega arith))) }

  -- ---- the names and values of an object literal

  abbrev pub PrintedField : List ℕ × tree.Expr → Type 0
  PrintedField f = Ok (kind.Text f.0) × Printed Ok keeps f.1

  pub fields_kept : (fs : List (List ℕ × tree.Expr)) → Each PrintedField fs → AreKept Ok (fields_lexemes (fields_of fs))
  fields_kept [] h = tt
  fields_kept (f ∷ []) h = (h.0.0, (keeps.marks punct.Colon, kept_both Ok (placed Part f.1 (expr_lexemes f.1)) [] (placed_kept Ok keeps Part h.0.1) tt))
  fields_kept (f ∷ g ∷ fs) h = (h.0.0, (keeps.marks punct.Colon, kept_both Ok (placed Part f.1 (expr_lexemes f.1)) _ (placed_kept Ok keeps Part h.0.1) (keeps.marks punct.Comma, fields_kept (g ∷ fs) h.1)))

  pub fields_read : (fs : List (List ℕ × tree.Expr)) → Each PrintedField fs → ReadsUpTo punct.RightBrace (λ d. Many (Field (Exp d) (Body d))) (fields_lexemes (fields_of fs)) fs
  fields_read [] h = record { room = 0; read = λ d z le. none }
  fields_read (f ∷ []) h =
      let r = part_inside Ok keeps h.0.1 in
      record { room = (r.1 true).room; read = λ d z le. rw before_both (many_first (field refl ((r.1 true).read d (mark punct.RightBrace false ∷ z) le) by_close) none) }
  fields_read (f ∷ g ∷ fs) h =
      let r = part_inside Ok keeps h.0.1 in
      let s = fields_read (g ∷ fs) h.1 in
      record { room = (r.1 true).room + s.room; read = λ d z le. rw before_both (many_first (field refl ((r.1 true).read d _ (omega arith)) by_comma) (s.read d z (omega arith))) }
