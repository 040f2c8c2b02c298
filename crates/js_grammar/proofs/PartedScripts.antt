-- A script is derived from its symbols also where line ends are put between them.
use Rattle.std.proofs.Common.{◌≡◌, ℕ, zero, suc, Bool, true, false, List, [], ◌∷◌, Option, Some, refl, sym, subst, ap, ◌∙◌}
use Rattle.std.specs.Prelude.{not, ◌||◌, ◌&&◌}
use Rattle.js_core.specs.Tree as tree
use Rattle.js_core.specs.declared.token.Punct.TheVariants as p
use Rattle.js_core.specs.declared.keyword.Keyword.{Keyword}
use Rattle.js_core.specs.declared.keyword.Keyword.TheVariants as kw
use Rattle.js_grammar.specs.declared.sign.Sign.TheVariants.{Mark, Word}
use Rattle.js_grammar.specs.Endings.{Ending, after_expression, after_all, may_end, continues, is_right_brace, same_line, is_excluded}
use Rattle.js_grammar.specs.LineEnds.{is_closing, begins_operand, others_of, parted, opening, LineEndsAreHarmless}
use Rattle.js_grammar.specs.Operators.{Level}
use Rattle.js_grammar.specs.Symbols.{Symbol, Lexeme, sign, identifier, unused, number, text, lexemes, sign_of, sign_at, is_sign}
use Rattle.js_grammar.specs.Phrases.{Phrase, Many}
use Rattle.js_grammar.specs.Expressions.{Sequence}
use Rattle.js_grammar.specs.Statements.{End, semicolon, automatic, Declaration, bare, initialised, Braced, braced, Maybe, missing, present, Init, nothing, variables, expression, Case, case, default, Statement, block, variable, empty, expressed, conditional, alternative, do_while, while, for_loop, for_in, for_in_variable, continue, break, return, return_value, throw, try_catch, try_finally, try_both, switch, Element, is_statement, declaration}
use Rattle.js_grammar.specs.Scripts as parts
use Rattle.js_grammar.specs.Scripts.{Nested, Derives}
use Rattle.js_grammar.proofs.Beginnings.{can_begin}
use Rattle.js_grammar.proofs.ExpressionShapes.{sequence_begins}
use Rattle.js_grammar.proofs.PartedExpressions.{Parts, Parted, ClosedBefore, NoOperand, many_parted, separated_parted, PartedInside, procedure_parted, left_parted, assignment_parted, sequence_parted, level_parted}

-- ---- symbols

same_sign : (ls : List Bool) (b : Symbol) (z : List Lexeme) → sign_at (parted ls b z) ≡ sign_at z
same_sign ls b [] = refl
same_sign ls b (t ∷ ts) = refl

raised : (r l q n : Bool) → (r || (l && n)) ≡ true → (r || ((l || q) && n)) ≡ true
raised true l q n e = refl
raised false true q n e = e
raised false false q n e = absurd (cc)

still_ends : (e : Ending) (ls : List Bool) (b : Symbol) (z : List Lexeme) → may_end e z ≡ true → may_end e (parted ls b z) ≡ true
still_ends e ls b [] h = refl
still_ends e ls b (t ∷ ts) h = let s = sign_of t.0 in raised (is_right_brace s) t.1 _ (not (is_sign (Mark p.Semicolon) s || continues e s)) h

begin_closed : (s : Symbol) → can_begin (sign_of s) ≡ true → is_closing s ≡ false
begin_closed (sign (Mark p.RightBrace)) e = absurd (cc)
begin_closed (sign (Mark _)) e = refl
begin_closed (sign (Word _)) e = refl
begin_closed (identifier _) e = refl
begin_closed (unused _) e = refl
begin_closed (number _) e = refl
begin_closed (text _) e = refl

not_or : (l : Bool) → not l ≡ true → not (l || false) ≡ true
not_or true e = absurd (cc)
not_or false e = refl

-- no line end is put between a reserved word and an expression
stays : (w : Keyword) (ls : List Bool) (x : List Lexeme) → can_begin (sign_at x) ≡ true → same_line x ≡ true → same_line (parted ls (sign (Word w)) x) ≡ true
stays w ls [] c e = absurd (cc)
stays w ls (t ∷ ts) c e = rw (begin_closed t.0 c) (not_or t.1 e)

-- ---- ends

end_parted : (e : Ending) (ls : List Bool) (b : Symbol) (x z : List Lexeme) → End e x z → Parts {A = Unit {0}} (λ x z u. End e x z) ls b x z tt
end_parted e ls b x z semicolon = record { last = sign (Mark p.Semicolon); left = others_of ls; item = semicolon }
end_parted e ls b x z (automatic m) = record { last = b; left = ls; item = automatic (still_ends e ls b x m) }

brace_rests : (s : Symbol) → is_right_brace (sign_of s) ≡ true → begins_operand s ≡ false
brace_rests (sign (Mark p.RightBrace)) e = refl
brace_rests (sign (Mark _)) e = absurd (cc)
brace_rests (sign (Word _)) e = absurd (cc)
brace_rests s e = absurd (cc)

ended : (r l q o : Bool) → (r || (l && q)) ≡ true → (r ≡ true → o ≡ false) → (o && not l) ≡ false
ended true l q o e f = ap (λ (b : Bool). b && not l) (f refl)
ended false true q true e f = refl
ended false true q false e f = refl
ended false false q o e f = absurd (cc)

-- where a semicolon stands or may be missing, no operand comes in the same line
may_end_rests : (e : Ending) (z : List Lexeme) → may_end e z ≡ true → NoOperand z
may_end_rests e [] m = refl
may_end_rests e (t ∷ ts) m = let s = sign_of t.0 in ended (is_right_brace s) t.1 (not (is_sign (Mark p.Semicolon) s || continues e s)) (begins_operand t.0) m (brace_rests t.0)

end_rests : {e : Ending} {x z : List Lexeme} → End e x z → NoOperand x
end_rests semicolon = refl
end_rests {e} (automatic {z = z} m) = may_end_rests e z m

-- ---- phrases

module _ (E : Bool → Level → Bool → Phrase tree.Expr) (B : Phrase (List tree.Stmt)) (S : Phrase tree.Stmt) (inner : PartedInside E B) (statements : Parted S) where
  declaration_parted : (inn : Bool) (e : Ending) → ClosedBefore NoOperand (Declaration E B S inn e)
  declaration_parted inn e ls b x z c n (bare {w = w}) = record { last = identifier w; left = others_of ls; item = bare; closed = refl }
  declaration_parted inn e ls b x z c n (initialised {g = g} {x = x'} {a = a} h) =
      let r = assignment_parted E B inner inn g (others_of (others_of ls)) (sign (Mark p.SimpleAssign)) x' z a n h in
      record { last = r.last; left = r.left; item = initialised r.item; closed = r.closed }

  braced_parted : Parted (Braced E B S)
  braced_parted ls b x z found (braced {k = k} {x = x'} h) =
      let r = many_parted S statements (others_of ls) (sign (Mark p.LeftBrace)) x' ((sign (Mark p.RightBrace), k) ∷ z) found h in
      record { last = sign (Mark p.RightBrace); left = others_of r.left; item = braced r.item }

  maybe_parted : (ls : List Bool) (b : Symbol) (x z : List Lexeme) (o : Option tree.Expr) → NoOperand z → Maybe E B S x z o → Parts (Maybe E B S) ls b x z o
  maybe_parted ls b x z o n missing = record { last = b; left = ls; item = missing }
  maybe_parted ls b x z o n (present {g = g} {a = a} h) = let r = sequence_parted E B inner true g ls b x z a n h in record { last = r.last; left = r.left; item = present r.item }

  init_parted : (ls : List Bool) (b : Symbol) (x z : List Lexeme) (i : tree.ForInit) → NoOperand z → Init E B S x z i → Parts (Init E B S) ls b x z i
  init_parted ls b x z i n nothing = record { last = b; left = ls; item = nothing }
  init_parted ls b x z i n (variables {e = e} {x = x'} {found = found} h) =
      let r = separated_parted (Declaration E B S false) (declaration_parted false) e (others_of ls) (sign (Word kw.Var)) x' z found n h in
      record { last = r.last; left = r.left; item = variables r.item }
  init_parted ls b x z i n (expression {g = g} {a = a} h) = let r = sequence_parted E B inner false g ls b x z a n h in record { last = r.last; left = r.left; item = expression r.item }

  case_parted : Parted (Case E B S)
  case_parted ls b x z c (case {g = g} {k = k} {x = x'} {y = y} {a = a} {found = found} h i) =
      let r = sequence_parted E B inner true g (others_of ls) (sign (Word kw.Case)) x' ((sign (Mark p.Colon), k) ∷ y) a refl h in
      let s = many_parted S statements (others_of r.left) (sign (Mark p.Colon)) y z found i in
      record { last = s.last; left = s.left; item = case r.item s.item }
  case_parted ls b x z c (default {x = x'} {found = found} h) =
      let s = many_parted S statements (others_of (others_of ls)) (sign (Mark p.Colon)) x' z found h in
      record { last = s.last; left = s.left; item = default s.item }

  -- `( Expression )`, behind the `(`
  header : (g j : Bool) (ls : List Bool) (x y : List Lexeme) (a : tree.Expr) → Sequence E B true g x ((sign (Mark p.RightParenthesis), j) ∷ y) a → Parts (Sequence E B true g) ls (sign (Mark p.LeftParenthesis)) x ((sign (Mark p.RightParenthesis), j) ∷ y) a
  header g j ls x y a h = let r = sequence_parted E B inner true g ls (sign (Mark p.LeftParenthesis)) x ((sign (Mark p.RightParenthesis), j) ∷ y) a refl h in record { last = r.last; left = r.left; item = r.item }

  statement_parted : Parted (Statement E B S)
  statement_parted ls b x z t (block {found = found} h) = let r = braced_parted ls b x z found h in record { last = r.last; left = r.left; item = block r.item }
  statement_parted ls b x z t (variable {e = e} {x = x'} {y = y} {found = found} h k) =
      let r = separated_parted (Declaration E B S true) (declaration_parted true) e (others_of ls) (sign (Word kw.Var)) x' y found (end_rests k) h in
      let s = end_parted e r.left r.last y z k in
      record { last = s.last; left = s.left; item = variable r.item s.item }
  statement_parted ls b x z t empty = record { last = sign (Mark p.Semicolon); left = others_of ls; item = empty }
  statement_parted ls b x z t (expressed {g = g} {y = y} {a = a} e h k) =
      let r = sequence_parted E B inner true g ls b x y a (end_rests k) h in
      let s = end_parted (after_expression g) r.left r.last y z k in
      record { last = s.last; left = s.left; item = expressed (ap is_excluded (same_sign ls b x) ∙ e) r.item s.item }
  statement_parted ls b x z t (conditional {g = g} {j = j} {x = x'} {y = y} {a = a} {s = u} h k e) =
      let r = header g j (others_of (others_of ls)) x' y a h in
      let s = statements (others_of r.left) (sign (Mark p.RightParenthesis)) y z u k in
      record { last = s.last; left = s.left; item = conditional r.item s.item (ap (is_sign (Word kw.Else)) (same_sign s.left s.last z) ∙ e) }
  statement_parted ls b x z t (alternative {g = g} {j = j} {i = i} {x = x'} {y = y} {v = v} {a = a} {s = u} {t = w} h k m) =
      let r = header g j (others_of (others_of ls)) x' y a h in
      let s = statements (others_of r.left) (sign (Mark p.RightParenthesis)) y ((sign (Word kw.Else), i) ∷ v) u k in
      let n = statements (others_of s.left) (sign (Word kw.Else)) v z w m in
      record { last = n.last; left = n.left; item = alternative r.item s.item n.item }
  statement_parted ls b x z t (do_while {g = g} {k = k} {j = j} {i = i} {x = x'} {y = y} {v = v} {a = a} {s = u} h h' e) =
      let s = statements (others_of ls) (sign (Word kw.Do)) x' ((sign (Word kw.While), k) ∷ (sign (Mark p.LeftParenthesis), j) ∷ y) u h in
      let r = header g i (others_of (others_of s.left)) y v a h' in
      let n = end_parted after_all (others_of r.left) (sign (Mark p.RightParenthesis)) v z e in
      record { last = n.last; left = n.left; item = do_while s.item r.item n.item }
  statement_parted ls b x z t (while {g = g} {j = j} {x = x'} {y = y} {a = a} {s = u} h k) =
      let r = header g j (others_of (others_of ls)) x' y a h in
      let s = statements (others_of r.left) (sign (Mark p.RightParenthesis)) y z u k in
      record { last = s.last; left = s.left; item = while r.item s.item }
  statement_parted ls b x z t (for_loop {j = j} {i = i} {h = h'} {x = x'} {y = y} {v = v} {u = u} {init = init} {test = test} {next = next} {s = w} f m n k) =
      let r = init_parted (others_of (others_of ls)) (sign (Mark p.LeftParenthesis)) x' ((sign (Mark p.Semicolon), j) ∷ y) init refl f in
      let q = maybe_parted (others_of r.left) (sign (Mark p.Semicolon)) y ((sign (Mark p.Semicolon), i) ∷ v) test refl m in
      let o = maybe_parted (others_of q.left) (sign (Mark p.Semicolon)) v ((sign (Mark p.RightParenthesis), h') ∷ u) next refl n in
      let s = statements (others_of o.left) (sign (Mark p.RightParenthesis)) u z w k in
      record { last = s.last; left = s.left; item = for_loop r.item q.item o.item s.item }
  statement_parted ls b x z t (for_in {g = g} {j = j} {i = i} {x = x'} {y = y} {v = v} {a = a} {o = o} {s = u} h h' k) =
      let r = left_parted E B inner true (others_of (others_of ls)) (sign (Mark p.LeftParenthesis)) x' ((sign (Word kw.In), j) ∷ y) a h in
      let q = sequence_parted E B inner true g (others_of r.left) (sign (Word kw.In)) y ((sign (Mark p.RightParenthesis), i) ∷ v) o refl h' in
      let s = statements (others_of q.left) (sign (Mark p.RightParenthesis)) v z u k in
      record { last = s.last; left = s.left; item = for_in r.item q.item s.item }
  statement_parted ls b x z t (for_in_variable {g = g} {m = m} {w = w} {y = y} {v = v} {o = o} {s = u} h k) =
      let q = sequence_parted E B inner true g (others_of (others_of (others_of (others_of (others_of ls))))) (sign (Word kw.In)) y ((sign (Mark p.RightParenthesis), m) ∷ v) o refl h in
      let s = statements (others_of q.left) (sign (Mark p.RightParenthesis)) v z u k in
      record { last = s.last; left = s.left; item = for_in_variable q.item s.item }
  statement_parted ls b x z t (continue {x = x'} e) = let n = end_parted after_all (others_of ls) (sign (Word kw.Continue)) x' z e in record { last = n.last; left = n.left; item = continue n.item }
  statement_parted ls b x z t (break {x = x'} e) = let n = end_parted after_all (others_of ls) (sign (Word kw.Break)) x' z e in record { last = n.last; left = n.left; item = break n.item }
  statement_parted ls b x z t (return {x = x'} e) = let n = end_parted after_all (others_of ls) (sign (Word kw.Return)) x' z e in record { last = n.last; left = n.left; item = return n.item }
  statement_parted ls b x z t (return_value {g = g} {x = x'} {y = y} {a = a} l h e) =
      let r = sequence_parted E B inner true g (others_of ls) (sign (Word kw.Return)) x' y a (end_rests e) h in
      let n = end_parted (after_expression g) r.left r.last y z e in
      record { last = n.last; left = n.left; item = return_value (stays kw.Return (others_of ls) x' (sequence_begins E B h) l) r.item n.item }
  statement_parted ls b x z t (throw {g = g} {x = x'} {y = y} {a = a} l h e) =
      let r = sequence_parted E B inner true g (others_of ls) (sign (Word kw.Throw)) x' y a (end_rests e) h in
      let n = end_parted (after_expression g) r.left r.last y z e in
      record { last = n.last; left = n.left; item = throw (stays kw.Throw (others_of ls) x' (sequence_begins E B h) l) r.item n.item }
  statement_parted ls b x z t (try_catch {k = k} {j = j} {i = i} {h = h'} {w = w} {x = x'} {y = y} {b = f} {c = c} h m e) =
      let r = braced_parted (others_of ls) (sign (Word kw.Try)) x' ((sign (Word kw.Catch), k) ∷ (sign (Mark p.LeftParenthesis), j) ∷ (identifier w, i) ∷ (sign (Mark p.RightParenthesis), h') ∷ y) f h in
      let s = braced_parted (others_of (others_of (others_of (others_of r.left)))) (sign (Mark p.RightParenthesis)) y z c m in
      record { last = s.last; left = s.left; item = try_catch r.item s.item (ap (is_sign (Word kw.Finally)) (same_sign s.left s.last z) ∙ e) }
  statement_parted ls b x z t (try_finally {k = k} {x = x'} {y = y} {b = f} {d = d} h m) =
      let r = braced_parted (others_of ls) (sign (Word kw.Try)) x' ((sign (Word kw.Finally), k) ∷ y) f h in
      let s = braced_parted (others_of r.left) (sign (Word kw.Finally)) y z d m in
      record { last = s.last; left = s.left; item = try_finally r.item s.item }
  statement_parted ls b x z t (try_both {k = k} {j = j} {i = i} {h = h'} {m = m'} {w = w} {x = x'} {y = y} {v = v} {b = f} {c = c} {d = d} h m n) =
      let r = braced_parted (others_of ls) (sign (Word kw.Try)) x' ((sign (Word kw.Catch), k) ∷ (sign (Mark p.LeftParenthesis), j) ∷ (identifier w, i) ∷ (sign (Mark p.RightParenthesis), h') ∷ y) f h in
      let s = braced_parted (others_of (others_of (others_of (others_of r.left)))) (sign (Mark p.RightParenthesis)) y ((sign (Word kw.Finally), m') ∷ v) c m in
      let q = braced_parted (others_of s.left) (sign (Word kw.Finally)) v z d n in
      record { last = q.last; left = q.left; item = try_both r.item s.item q.item }
  statement_parted ls b x z t (switch {g = g} {j = j} {i = i} {h = h'} {x = x'} {y = y} {a = a} {found = found} h k e) =
      let r = header g j (others_of (others_of ls)) x' ((sign (Mark p.LeftBrace), i) ∷ y) a h in
      let s = many_parted (Case E B S) case_parted (others_of (others_of r.left)) (sign (Mark p.LeftBrace)) y ((sign (Mark p.RightBrace), h') ∷ z) found k in
      record { last = sign (Mark p.RightBrace); left = others_of s.left; item = switch r.item s.item e }

  element_parted : Parted (Element E B S)
  element_parted ls b x z s (is_statement h) = let r = statement_parted ls b x z s h in record { last = r.last; left = r.left; item = is_statement r.item }
  element_parted ls b x z s (declaration {w = w} {x = x'} {c = c} h) =
      let r = procedure_parted E B inner (Some w) (others_of (others_of ls)) (identifier w) x' z c h in
      record { last = r.last; left = r.left; item = declaration r.item }

  body_parted : Parted (Many (Element E B S))
  body_parted = many_parted (Element E B S) element_parted

-- ---- however deep

abbrev Exp : ℕ → Bool → Level → Bool → Phrase tree.Expr
Exp d = λ inn level grows. Nested d (parts.expression inn level grows)

record Deep (d : ℕ) : Type 0 where
  inner : PartedInside (Exp d) (Nested d parts.body)
  statements : Parted (Nested d parts.statement)

all : (d : ℕ) → Deep d
all zero =
    record {
      inner = record { expressions = λ inn l g ls b x z a n h. absurd h; bodies = λ ls b x z found h. absurd h };
      statements = λ ls b x z s h. absurd h;
    }
all (suc d) =
    let i = all d in
    record {
      inner = record {
        expressions = λ inn l g ls b x z a n h. let r = level_parted (Exp d) (Nested d parts.body) i.inner inn l g ls b x z a n h in record { last = r.last; left = r.left; item = r.item; closed = r.closed };
        bodies = λ ls b x z found h. let r = body_parted (Exp d) (Nested d parts.body) (Nested d parts.statement) i.inner i.statements ls b x z found h in record { last = r.last; left = r.left; item = r.item };
      };
      statements = λ ls b x z s h. let r = statement_parted (Exp d) (Nested d parts.body) (Nested d parts.statement) i.inner i.statements ls b x z s h in record { last = r.last; left = r.left; item = r.item };
    }

pub line_ends_are_harmless : LineEndsAreHarmless
line_ends_are_harmless ls tokens again script h same =
    let i = (all h.0).inner in
    let r = i.bodies ls opening (lexemes tokens) [] h.1 h.2 in
    (h.0, h.1, subst (λ x. Nested h.0 parts.body x [] h.1) (sym same) r.item, h.3)
