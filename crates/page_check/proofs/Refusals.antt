-- Why a page is accepted or refused, from what the parts of its reading say.
use Rattle.std.proofs.Common.{◌≡◌, ℕ, ◌+◌, List, length, subst}
use Rattle.dom_tree.specs.Node.{Nodes}
use Rattle.js_core.specs.Text.{utf16_of}
use Rattle.js_core.specs.Tree as tree
use Rattle.js_core.specs.declared.memory.Failure.{Failure}
use Rattle.js_core.specs.declared.memory.Failure.TheVariants.{Cause, OutOfMemory}
use Rattle.page_check.specs.Accept.{AreNotScripts, ArePageScripts, IsAcceptedAt, IsNotAccepted, IsRefused, IsRefusedFrom, IsRefusedScript, IsScriptRefusal, kind_of, texts_of}
use Rattle.page_check.specs.declared.page.Kind.{Kind}
use Rattle.page_check.specs.declared.page.Refusal.{Refusal}
use Rattle.page_check.specs.declared.page.Refusal.TheVariants.{NotUtf8, NotPage}
use Rattle.page_reader.specs.declared.page.Place.{Place}
use Rattle.page_reader.specs.declared.page.ScriptText.{ScriptText}
use Rattle.page_reader.specs.Bytes.{IsPageOf}
use Rattle.page_reader.specs.Replacing.{places_of}
use Rattle.page_reader.specs.Text.{mark_size}

-- no refusal of texts is one of no script
is_refused : (bytes : List ℕ) (kind : Kind) (k : ℕ) (text : List ℕ) (r : Refusal) → IsScriptRefusal kind k text r → IsRefusedScript bytes r → IsRefused bytes r
is_refused bytes kind k text NotUtf8 off h = absurd off
is_refused bytes kind k text NotPage off h = absurd off
is_refused bytes kind k text r off h = h

pub refused_script : (bytes : List ℕ) (nodes : Nodes) (texts : List ScriptText) (r : Refusal) → IsPageOf bytes nodes texts
    → IsRefusedFrom (kind_of bytes) 1 (texts_of texts) r → IsRefused bytes r
refused_script bytes nodes texts r is off =
    is_refused bytes (kind_of bytes) (length off.before + 1) off.text r off.off (record { nodes = nodes; texts = texts; is_page = is; off = off })

pub not_accepted : (bytes : List ℕ) (kind : Kind) (nodes : Nodes) (texts : List ScriptText) (fault : Failure Refusal) → kind ≡ kind_of bytes → IsPageOf bytes nodes texts
    → AreNotScripts kind (texts_of texts) fault → IsNotAccepted bytes fault
not_accepted bytes kind nodes texts (Cause r) e is off =
    refused_script bytes nodes texts r is (subst (λ (k : Kind). IsRefusedFrom k 1 (texts_of texts) r) e off)
not_accepted bytes kind nodes texts OutOfMemory e is off = tt

pub accepted_at : (bytes : List ℕ) (kind : Kind) (nodes : Nodes) (texts : List ScriptText) (scripts : List tree.Stmts) (start : ℕ) (places : List Place)
    → kind ≡ kind_of bytes → IsPageOf bytes nodes texts → start ≡ mark_size (utf16_of bytes) → places ≡ places_of texts → ArePageScripts kind (texts_of texts) scripts
    → IsAcceptedAt bytes (record { page = record { kind = kind; nodes = nodes; scripts = scripts }; start = start; places = places })
accepted_at bytes kind nodes texts scripts start places e is s p read = record {
  accepted = record { texts = texts; is_page = is; of_kind = e; read = read };
  start = s;
  placed = p;
}
