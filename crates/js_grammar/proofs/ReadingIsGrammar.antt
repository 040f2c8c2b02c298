-- Reading is the grammar: what is read, what is refused, and that there is one tree.
use Rattle.std.proofs.Common.{◌≡◌, List, Option, Some, None, sym, ◌∙◌, ◌+◌, arith}
use Rattle.js_core.specs.Tree as tree
use Rattle.js_core.specs.Height.{stmts_height}
use Rattle.js_core.specs.declared.token.Token.{Token}
use Rattle.js_grammar.specs.Scripts.{Derives, ScriptOf, height_limit}
use Rattle.js_grammar.specs.ScriptReader.{read_script}
use Rattle.js_grammar.proofs.Complete.{script_read}
use Rattle.js_grammar.proofs.ScriptSound.{script_found}

same_some : (s t : tree.Stmts) → ◌≡◌ {A = Option tree.Stmts} (Some s) (Some t) → s ≡ t
same_some s t e = cc

-- what is read is a script of the tokens, no higher than the limit
pub read_is_derived : (tokens : List Token) (script : tree.Stmts) → read_script height_limit tokens ≡ Some script → ScriptOf height_limit tokens script
read_is_derived tokens script e = script_found height_limit tokens script (omega arith) e

-- and each such script is read
pub derived_is_read : (tokens : List Token) (script : tree.Stmts) → ScriptOf height_limit tokens script → read_script height_limit tokens ≡ Some script
derived_is_read tokens script h = script_read height_limit tokens script h.0 h.1

some_is_not_none : (s : tree.Stmts) (r : Option tree.Stmts) → r ≡ None → r ≡ Some s → ⊥
some_is_not_none s r e f = absurd (cc)

-- tokens that are refused have no such script
pub refused_is_none : (tokens : List Token) → read_script height_limit tokens ≡ None → (script : tree.Stmts) → ScriptOf height_limit tokens script → ⊥
refused_is_none tokens e script h = some_is_not_none script (read_script height_limit tokens) e (derived_is_read tokens script h)

-- tokens have at most one script, of whatever height
pub one_script : (tokens : List Token) (s t : tree.Stmts) → Derives tokens s → Derives tokens t → s ≡ t
one_script tokens s t h k =
    same_some s t (sym (script_read (stmts_height s + stmts_height t) tokens s h (omega arith)) ∙ script_read (stmts_height s + stmts_height t) tokens t k (omega arith))
