-- Scripts that are read one after the other.
use Rattle.std.proofs.Common.{◌≡◌, ℕ, suc, ◌+◌, List, [], ◌∷◌, ◌++◌, length, refl, sym, ap, ◌∙◌, subst, append_assoc, append-nil}
use Rattle.std.proofs.lemmas.List.Elements.{All-append, All-cons, All-nil}
use Rattle.js_core.specs.Tree as tree
use Rattle.page_check.specs.Accept.{AreNotScripts, ArePageScripts, IsNotScript, IsPageScript, IsScriptRefusal}
use Rattle.page_check.specs.Rules.{AllKeepRules, KeepsRules}
use Rattle.js_core.specs.declared.memory.Failure.{Failure}
use Rattle.page_check.specs.declared.page.Refusal.{Refusal}
use Rattle.js_core.specs.declared.memory.Failure.TheVariants.{Cause, OutOfMemory}
use Rattle.page_check.specs.declared.page.Kind.{Kind}

-- of the texts of a page, all but the rest are read as these scripts
pub record ReadUntil (kind : Kind) (texts rest : List (List ℕ)) (scripts : List tree.Stmts) : Type 0 where
  pub before : List (List ℕ)
  pub split : texts ≡ before ++ rest
  pub read : ArePageScripts kind before scripts
  pub rules : AllKeepRules kind scripts

pub nothing_read : (kind : Kind) (texts : List (List ℕ)) → ReadUntil kind texts texts []
nothing_read kind texts = record { before = []; split = refl; read = tt; rules = All-nil (KeepsRules kind) }

one_more : (kind : Kind) (before : List (List ℕ)) (scripts : List tree.Stmts) (text : List ℕ) (script : tree.Stmts) → ArePageScripts kind before scripts
    → IsPageScript kind text script → ArePageScripts kind (before ++ (text ∷ [])) (scripts ++ (script ∷ []))
one_more kind [] [] text script h is = (is, tt)
one_more kind (t ∷ ts) (x ∷ xs) text script h is = (h.0, one_more kind ts xs text script h.1 is)
one_more kind [] (x ∷ xs) text script h is = absurd h
one_more kind (t ∷ ts) [] text script h is = absurd h

pub one_read : (kind : Kind) (texts rest behind : List (List ℕ)) (scripts : List tree.Stmts) (text : List ℕ) (script : tree.Stmts) → ReadUntil kind texts rest scripts
    → rest ≡ text ∷ behind → IsPageScript kind text script → KeepsRules kind script → ReadUntil kind texts behind (scripts ++ (script ∷ []))
one_read kind texts rest behind scripts text script so e is keeps = record {
  before = so.before ++ (text ∷ []);
  split = so.split ∙ ap (λ (ts : List (List ℕ)). so.before ++ ts) e ∙ sym (append_assoc so.before (text ∷ []) behind);
  read = one_more kind so.before scripts text script so.read is;
  rules = All-append (KeepsRules kind) scripts (script ∷ []) so.rules (All-cons (KeepsRules kind) script [] keeps (All-nil (KeepsRules kind)));
}

pub all_read : (kind : Kind) (texts rest : List (List ℕ)) (scripts : List tree.Stmts) → ReadUntil kind texts rest scripts → rest ≡ [] → ArePageScripts kind texts scripts
all_read kind texts rest scripts so e =
    subst (λ (ts : List (List ℕ)). ArePageScripts kind ts scripts) (sym (so.split ∙ ap (λ (ts : List (List ℕ)). so.before ++ ts) e ∙ append-nil so.before)) so.read

as_many : (kind : Kind) (texts : List (List ℕ)) (scripts : List tree.Stmts) → ArePageScripts kind texts scripts → length texts ≡ length scripts
as_many kind [] [] h = refl
as_many kind (t ∷ ts) (x ∷ xs) h = ap suc (as_many kind ts xs h.1)
as_many kind [] (x ∷ xs) h = absurd h
as_many kind (t ∷ ts) [] h = absurd h

pub none_read : (kind : Kind) (texts rest behind : List (List ℕ)) (scripts : List tree.Stmts) (text : List ℕ) (number : ℕ) (fault : Failure Refusal)
    → ReadUntil kind texts rest scripts → rest ≡ text ∷ behind → number ≡ length scripts + 1 → IsNotScript kind number text fault → AreNotScripts kind texts fault
none_read kind texts rest behind scripts text number (Cause r) so e n off = record {
  before = so.before;
  scripts = scripts;
  read = so.read;
  text = text;
  behind = behind;
  split = so.split ∙ ap (λ (ts : List (List ℕ)). so.before ++ ts) e;
  off = subst (λ (k : ℕ). IsScriptRefusal kind k text r) (n ∙ ap (λ (k : ℕ). k + 1) (sym (as_many kind so.before scripts so.read))) off;
}
none_read kind texts rest behind scripts text number OutOfMemory so e n off = tt
