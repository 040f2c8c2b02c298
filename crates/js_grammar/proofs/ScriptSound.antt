-- What is read as a script is one in the grammar.
use Rattle.std.proofs.Common.{◌≡◌, ℕ, zero, suc, ◌≤◌, Bool, true, false, List, [], ◌∷◌, length, Some, None, refl, sym, subst, arith}
use Rattle.js_core.specs.Tree as tree
use Rattle.js_core.specs.Tree.{stmts_of}
use Rattle.js_core.specs.Height.{stmt_height, stmts_height}
use Rattle.js_core.specs.declared.token.Token.{Token}
use Rattle.js_grammar.specs.Symbols.{Lexeme, lexemes}
use Rattle.js_core.specs.declared.token.Punct.TheVariants as p
use Rattle.js_grammar.specs.declared.sign.Sign.TheVariants.{Mark}
use Rattle.js_grammar.specs.ExpressionReader.{closing}
use Rattle.js_grammar.specs.Operators.{Level, sequence, assignment, binary, construction}
use Rattle.js_grammar.specs.Parser.{Outcome, tail, sees}
use Rattle.js_grammar.specs.Scripts.{Nested, Derives, ScriptOf}
use Rattle.js_grammar.specs.Scripts as part
use Rattle.js_grammar.specs.ScriptReader.{Inside, inside, room_of, whole, read_script}
use Rattle.js_grammar.specs.ScriptReader as what
use Rattle.js_grammar.proofs.Heights.{Each}
use Rattle.js_grammar.proofs.StatementHeights.{StatementFits}
use Rattle.js_grammar.proofs.Holds.{Holds, ok, err, then_holds, either_holds, held, seen}
use Rattle.js_grammar.proofs.Sound.{Sound, Found}
use Rattle.js_grammar.proofs.SoundStatements.{SoundStatements}
use Rattle.js_grammar.proofs.LeftSound.{left_holds}
use Rattle.js_grammar.proofs.BinarySound.{climb_holds}
use Rattle.js_grammar.proofs.ExpressionSound.{one_holds, all_holds, closing_holds}
use Rattle.js_grammar.proofs.StatementSound.{statement_holds, elements_hold}
use Rattle.js_grammar.proofs.Complete.{shapes}

-- the parts that are read nest less deep than the second number
pub record SoundParts (limit room depth : ℕ) : Type 0 where
  pub expressions : Sound limit (λ inn level. inside limit room depth (what.expression inn level)) (inside limit room depth what.body) (λ inn level g. Nested depth (part.expression inn level g)) (Nested depth part.body)
  pub statements : SoundStatements limit (inside limit room depth what.statement) (Nested depth part.statement)
  pub bodies : (x : List Lexeme) → Holds (λ found z. Nested depth part.body x z found × Each (StatementFits limit) found) (inside limit room depth what.body x)

module _ (limit room depth : ℕ) (inner : SoundParts limit room depth) (groups : SoundParts limit (suc room) depth) where
  sequences_hold : (inn : Bool) (x : List Lexeme) → Holds (Found limit (λ inn level g. Nested (suc depth) (part.expression inn level g)) inn sequence 1 x) (inside limit (suc room) (suc depth) (what.expression inn sequence) x)
  unfolding inside
  sequences_hold false x = all_holds limit (λ inn level. inside limit room depth (what.expression inn level)) (inside limit room depth what.body) (λ inn level g. Nested depth (part.expression inn level g)) (Nested depth part.body) inner.expressions false x
  sequences_hold true x =
      let e = λ (inn : Bool) (level : Level). inside limit room depth (what.expression inn level) in
      let Exp = λ (inn : Bool) (level : Level) (g : Bool). Nested depth (part.expression inn level g) in
      either_holds (sees (Mark p.LeftParenthesis) x)
      (λ s.
      let c = seen (Mark p.LeftParenthesis) x s in
      then_holds _ (groups.expressions.sequences true (tail x)) (λ a y h.
      subst (λ v. Holds (Found limit (λ inn level g. Nested (suc depth) (part.expression inn level g)) true sequence 1 v) (closing limit e (inside limit room depth what.body) a y)) (sym c.1)
      (closing_holds limit e (inside limit room depth what.body) Exp (Nested depth part.body) inner.expressions c.0 (tail x) y a h)))
      (λ s. all_holds limit e (inside limit room depth what.body) Exp (Nested depth part.body) inner.expressions true x)

  one_deeper : SoundParts limit (suc room) (suc depth)
  unfolding inside
  one_deeper =
      let e = λ (inn : Bool) (level : Level). inside limit room depth (what.expression inn level) in
      let Exp = λ (inn : Bool) (level : Level) (g : Bool). Nested depth (part.expression inn level g) in
      let b = inside limit room depth what.body in
      let Body = Nested depth part.body in
      let s = inside limit room depth what.statement in
      let Stm = Nested depth part.statement in
      let shape = shapes (suc depth) in
      record {
        expressions = record {
          some = inner.expressions.some;
          sequences = sequences_hold;
          assignments = one_holds limit e b Exp Body inner.expressions;
          binaries = climb_holds limit e b Exp Body inner.expressions;
          callees = λ x. held (λ a z h. (true, h.0, h.1, h.2, λ i. h.3 i refl)) (left_holds limit e b Exp Body inner.expressions false x);
          bodies = λ x. held (λ found z h. h.0) (elements_hold limit e b s Exp Body Stm inner.expressions inner.statements x);
          shorter = shape.shorter;
          body_shorter = shape.body_shorter;
        };
        statements = record {
          holds = statement_holds limit e b s Exp Body Stm inner.expressions inner.statements;
          shorter = shape.statement_shorter;
        };
        bodies = elements_hold limit e b s Exp Body Stm inner.expressions inner.statements;
      }

module _ (limit : ℕ) (some : 1 ≤ limit) where
  -- nothing is read where there is no room
  pub nothing : (room depth : ℕ) → ((what : Inside) (x : List Lexeme) → inside limit room depth what x ≡ None) → SoundParts limit room depth
  nothing room depth none =
      let shape = shapes depth in
      record {
        expressions = record {
          some = some;
          sequences = λ inn x. rw (none (what.expression inn sequence) x) err;
          assignments = λ inn x. rw (none (what.expression inn assignment) x) err;
          binaries = λ inn n x le. rw (none (what.expression inn (binary n)) x) err;
          callees = λ x. rw (none (what.expression true construction) x) err;
          bodies = λ x. rw (none what.body x) err;
          shorter = shape.shorter;
          body_shorter = shape.body_shorter;
        };
        statements = record {
          holds = λ x. rw (none what.statement x) err;
          shorter = shape.statement_shorter;
        };
        bodies = λ x. rw (none what.body x) err;
      }

  no_depth : (room : ℕ) (what : Inside) (x : List Lexeme) → inside limit room zero what x ≡ None
  unfolding inside
  no_depth room what x = refl

  no_room : (depth : ℕ) (what : Inside) (x : List Lexeme) → inside limit zero depth what x ≡ None
  unfolding inside
  no_room zero what x = refl
  no_room (suc depth) what x = refl

  pub sound : (room depth : ℕ) → SoundParts limit room depth
  sound room zero = nothing room zero (no_depth room)
  sound zero (suc depth) = nothing zero (suc depth) (no_room (suc depth))
  sound (suc room) (suc depth) = one_deeper limit room depth (sound room depth) (sound (suc room) depth)

all_fit : (limit : ℕ) (found : List tree.Stmt) → Each (StatementFits limit) found → stmts_height (stmts_of found) ≤ limit
all_fit limit [] h = omega arith
all_fit limit (s ∷ rest) h =
    let first : stmt_height s ≤ limit = h.0 in
    let later = all_fit limit rest h.1 in
    omega arith

pub script_found : (limit : ℕ) (tokens : List Token) (script : tree.Stmts) → 1 ≤ limit → read_script limit tokens ≡ Some script → ScriptOf limit tokens script
unfolding read_script
script_found limit tokens script some e = by (inside limit (room_of limit) (suc (length tokens)) what.body (lexemes tokens)) ((sound limit some (room_of limit) (suc (length tokens))).bodies (lexemes tokens)) e
  where
    by : (r : Outcome (List tree.Stmt)) → Holds (λ found z. Nested (suc (length tokens)) part.body (lexemes tokens) z found × Each (StatementFits limit) found) r → whole r ≡ Some script → ScriptOf limit tokens script
    by None h e = absurd (cc)
    by (Some (found, [])) (ok h) e =
        let same : stmts_of found ≡ script = cc in
        ((suc (length tokens), found, h.0, same), subst (λ s. stmts_height s ≤ limit) same (all_fit limit found h.1))
    by (Some (found, t ∷ ts)) h e = absurd (cc)
