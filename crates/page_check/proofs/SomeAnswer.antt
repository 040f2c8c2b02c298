-- No bytes are without an answer.
use Rattle.std.proofs.Common.{ℕ, List, refl}
use Rattle.dom_tree.specs.Node.{Nodes}
use Rattle.page_check.specs.Accept.{IsAccepted, IsRefused, kind_of, texts_of}
use Rattle.page_check.specs.Rules.{Page}
use Rattle.page_check.specs.declared.page.Refusal.{Refusal}
use Rattle.page_check.specs.declared.page.Refusal.TheVariants.{NotUtf8, NotPage}
use Rattle.page_reader.specs.declared.page.ScriptText.{ScriptText}
use Rattle.page_reader.specs.Bytes.{IsPageOf}
use Rattle.page_check.proofs.Refusals.{refused_script}
use Rattle.page_check.proofs.SomeList.{some_scripts}

module _ (bytes : List ℕ) (no_page : (page : Page) → ¬ IsAccepted bytes page) (no_cause : (r : Refusal) → ¬ IsRefused bytes r) where
  not_read : (nodes : Nodes) (texts : List ScriptText) → ¬ IsPageOf bytes nodes texts
  not_read nodes texts is =
      some_scripts (kind_of bytes) 1 (texts_of texts)
      (λ scripts read. no_page (record { kind = kind_of bytes; nodes = nodes; scripts = scripts }) (record { texts = texts; is_page = is; of_kind = refl; read = read }))
      (λ r off. no_cause r (refused_script bytes nodes texts r is off))

  pub some_answer : ⊥
  some_answer = no_cause NotUtf8 (λ utf8. no_cause NotPage (utf8, not_read))
