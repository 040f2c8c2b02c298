-- No list of texts of scripts is without an answer.
use Rattle.std.proofs.Common.{◌≡◌, ℕ, suc, ◌+◌, List, [], ◌∷◌, length, refl, ap, subst, arith}
use Rattle.js_core.specs.Tree as tree
use Rattle.page_check.specs.Accept.{ArePageScripts, IsPageScript, IsRefusedFrom, IsScriptRefusal}
use Rattle.page_check.specs.declared.page.Kind.{Kind}
use Rattle.page_check.specs.declared.page.Refusal.{Refusal}
use Rattle.page_check.proofs.SomeScript.{some_script}

-- the foremost of texts is refused
foremost_refused : (kind : Kind) (k : ℕ) (text : List ℕ) (texts : List (List ℕ)) (r : Refusal) → IsScriptRefusal kind k text r → IsRefusedFrom kind k (text ∷ texts) r
foremost_refused kind k text texts r off =
    let same : k ≡ length {A = List ℕ} [] + k = omega arith in
    record { before = []; scripts = []; read = tt; text = text; behind = texts; split = refl; off = subst (λ (n : ℕ). IsScriptRefusal kind n text r) same off }

-- one behind the foremost is refused
refused_later : (kind : Kind) (k : ℕ) (text : List ℕ) (texts : List (List ℕ)) (script : tree.Stmts) (r : Refusal) → IsPageScript kind text script
    → IsRefusedFrom kind (suc k) texts r → IsRefusedFrom kind k (text ∷ texts) r
refused_later kind k text texts script r read h =
    let same : length h.before + suc k ≡ length (text ∷ h.before) + k = omega arith in
    record {
      before = text ∷ h.before;
      scripts = script ∷ h.scripts;
      read = (read, h.read);
      text = h.text;
      behind = h.behind;
      split = ap (λ (ts : List (List ℕ)). text ∷ ts) h.split;
      off = subst (λ (n : ℕ). IsScriptRefusal kind n h.text r) same h.off;
    }

pub some_scripts : (kind : Kind) (k : ℕ) (texts : List (List ℕ)) → ((scripts : List tree.Stmts) → ¬ ArePageScripts kind texts scripts)
    → ((r : Refusal) → ¬ IsRefusedFrom kind k texts r) → ⊥
some_scripts kind k [] no_scripts no_cause = no_scripts [] tt
some_scripts kind k (text ∷ texts) no_scripts no_cause =
    some_script kind k text
    (λ script read. some_scripts kind (suc k) texts (λ scripts reads. no_scripts (script ∷ scripts) (read, reads))
    (λ r h. no_cause r (refused_later kind k text texts script r read h)))
    (λ r off. no_cause r (foremost_refused kind k text texts r off))
