-- What is read as declarations, braces or a condition is that in the grammar.
use Rattle.std.proofs.Common.{◌≡◌, ℕ, Bool, true, List, [], ◌∷◌, ◌++◌, Some, None, refl, sym, subst, ap, ◌∙◌}
use Rattle.js_core.specs.Tree as tree
use Rattle.js_core.specs.declared.syntax.Declarator.{Declarator}
use Rattle.js_core.specs.declared.token.Punct.{Punct}
use Rattle.js_core.specs.declared.token.Punct.TheVariants as p
use Rattle.js_grammar.specs.declared.sign.Sign.TheVariants.{Mark}
use Rattle.js_grammar.specs.Symbols.{identifier, Lexeme}
use Rattle.js_grammar.specs.Operators.{Level}
use Rattle.js_grammar.specs.Parser.{Parser, tail, sees, separated}
use Rattle.js_grammar.specs.Phrases.{Phrase, mark, Separated, only, further, Many}
use Rattle.js_grammar.specs.Expressions.{Sequence}
use Rattle.js_grammar.specs.Endings.{Ending, after_expression, after_name}
use Rattle.js_grammar.specs.Statements.{Declaration, bare, initialised, Braced, braced, Maybe, missing, present}
use Rattle.js_grammar.specs.StatementReader as reader
use Rattle.js_grammar.specs.StatementReader.{has_more}
use Rattle.js_grammar.proofs.StatementHeights.{StatementFits}
use Rattle.js_grammar.proofs.StatementShapes.{declaration_shorter}
use Rattle.js_grammar.proofs.Holds.{Holds, ok, then_holds, either_holds, held, expect_holds, eat_holds}
use Rattle.js_grammar.proofs.ListsHold.{separated_holds, many_holds}
use Rattle.js_grammar.proofs.Sound.{Sound}
use Rattle.js_grammar.proofs.SoundStatements.{SoundStatements}
use Rattle.js_grammar.proofs.PrimarySound.{name_is, name_holds}
use Rattle.js_grammar.proofs.ExpressionSound.{one_holds, all_holds}
use Rattle.js_grammar.proofs.EndsHold.{ReadToEnd}

-- ---- a list of one

module _ {A I : Type 0} (Item : I → Phrase A) where
  some_found : {i : I} {x z : List Lexeme} {found : List A} → Separated Item i x z found → found ≡ [] → ⊥
  some_found (only h) e = absurd (cc)
  some_found (further {found = found} {a = a} h k) e = by found a e
    where
      by : (found : List A) (a : A) → found ++ a ∷ [] ≡ [] → ⊥
      by [] a e = absurd (cc)
      by (b ∷ bs) a e = absurd (cc)

  pub single : {i : I} {x z : List Lexeme} {found : List A} (d : A) → Separated Item i x z found → found ≡ d ∷ [] → Item i x z d
  single d (only {i = i} {x = x} {z = z} {a = a} h) e = let same : a ≡ d = cc in subst (Item i x z) same h
  single d (further {found = found} {a = a} h k) e = absurd (by found a (some_found h) e)
    where
      by : (found : List A) (a : A) → (found ≡ [] → ⊥) → found ++ a ∷ [] ≡ d ∷ [] → ⊥
      by [] a n e = n refl
      by (b ∷ []) a n e = absurd (cc)
      by (b ∷ c ∷ bs) a n e = absurd (cc)

module _ (Exp : Bool → Level → Bool → Phrase tree.Expr) (Body : Phrase (List tree.Stmt)) (Stm : Phrase tree.Stmt) where
  -- a declarator without initialiser is its name
  pub bare_name : {inn : Bool} {e : Ending} {x z : List Lexeme} {d : Declarator} → Declaration Exp Body Stm inn e x z d → d.value ≡ None → (l : Bool) × (x ≡ (identifier d.name, l) ∷ z)
  bare_name (bare {l = l}) n = (l, refl)
  bare_name (initialised h) n = absurd (cc)

module _ (limit : ℕ) (exp : Bool → Level → Parser tree.Expr) (body : Parser (List tree.Stmt)) (statement : Parser tree.Stmt) (Exp : Bool → Level → Bool → Phrase tree.Expr) (Body : Phrase (List tree.Stmt)) (Stm : Phrase tree.Stmt) (inner : Sound limit exp body Exp Body) (stm : SoundStatements limit statement Stm) where
  abbrev Declared : Bool → List Lexeme → Declarator → List Lexeme → Type 0
  Declared inn x d z = (e : Ending) × Declaration Exp Body Stm inn e x z d × Unit {0} × ReadToEnd e z

  declaration_holds : (inn : Bool) (x : List Lexeme) → Holds (Declared inn x) (reader.declaration limit exp body statement inn x)
  unfolding reader.declaration reader.declared_by
  declaration_holds inn x =
      then_holds _ (name_holds x) (λ w y h.
      let n = name_is x y w h in
      eat_holds (Mark p.SimpleAssign) y _
      (λ l e. then_holds _ (one_holds limit exp body Exp Body inner inn (tail y)) (λ a z k.
      ok (after_expression k.0, subst (λ v. Declaration Exp Body Stm inn (after_expression k.0) v z (record { name = w; value = Some a })) (sym (n.1 ∙ ap (λ v. (identifier w, n.0) ∷ v) e)) (initialised k.1), tt, k.3)))
      (λ e. ok (after_name, subst (λ v. Declaration Exp Body Stm inn after_name v y (record { name = w; value = None })) (sym n.1) bare, tt, tt)))

  pub declarations_hold : (inn : Bool) (x : List Lexeme) → Holds (λ found z. (e : Ending) × Separated (Declaration Exp Body Stm inn) e x z found × ReadToEnd e z) (separated (reader.declaration limit exp body statement inn) x)
  declarations_hold inn x =
      held (λ found z h. (h.0, h.1, h.3))
      (separated_holds (Declaration Exp Body Stm inn) (reader.declaration limit exp body statement inn) (λ d. Unit {0}) ReadToEnd (declaration_holds inn) (declaration_shorter Exp Body Stm inner.shorter inner.body_shorter stm.shorter inn) x)

  pub braced_holds : (x : List Lexeme) → Holds (λ found z. Braced Exp Body Stm x z found) (reader.braced limit exp body statement x)
  unfolding reader.braced
  braced_holds x =
      then_holds _ (expect_holds (Mark p.LeftBrace) x) (λ u y c.
      then_holds _ (many_holds Stm statement has_more (StatementFits limit) (λ x e. stm.holds x) stm.shorter y) (λ found v h.
      then_holds _ (expect_holds (Mark p.RightBrace) v) (λ u z d.
      ok (subst (λ q. Braced Exp Body Stm q z found) (sym c.1) (braced (subst (λ q. Many Stm y q found) d.1 h.0))))))

  -- ( Expression )
  pub condition_holds : (x : List Lexeme) → Holds (λ a z. (l : Bool) × (y : List Lexeme) × (x ≡ mark p.LeftParenthesis l ∷ y) × (g : Bool) × (k : Bool) × Sequence Exp Body true g y (mark p.RightParenthesis k ∷ z) a) (reader.condition limit exp body statement x)
  unfolding reader.condition
  condition_holds x =
      then_holds _ (expect_holds (Mark p.LeftParenthesis) x) (λ u y c.
      then_holds _ (all_holds limit exp body Exp Body inner true y) (λ a v h.
      then_holds _ (expect_holds (Mark p.RightParenthesis) v) (λ u z d.
      ok (c.0, y, c.1, h.0, d.0, subst (λ q. Sequence Exp Body true h.0 y q a) d.1 h.1))))

  pub maybe_holds : (close : Punct) (x : List Lexeme) → Holds (λ a z. Maybe Exp Body Stm x z a) (reader.maybe_before limit exp body statement close x)
  unfolding reader.maybe_before
  maybe_holds close x =
      either_holds (sees (Mark close) x)
      (λ e. ok missing)
      (λ e. then_holds _ (all_holds limit exp body Exp Body inner true x) (λ a z h. ok (present h.1)))
