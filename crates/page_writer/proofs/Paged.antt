-- A saved page by its parts: what stands before the lines of its statements, the lines, and what stands after them.
use Rattle.std.proofs.Common.{◌≡◌, ◌∙◌, ap, ℕ, List, ◌++◌, append_assoc, codes}
use Rattle.rebuild_plan.specs.declared.statement.Rebuild.{Rebuild}
use Rattle.page_writer.specs.Page.{lines, page_of, script_tail}

abbrev pub page_head : List ℕ
page_head = codes "<!--imagen 1--><html><script>\"use strict\";try{throw[];}catch($$){\ndocument.removeChild(document.documentElement);\n"

abbrev pub page_tail : List ℕ
page_tail = codes "}</script></html>"

pub page_parts : (rs : List Rebuild) → page_of rs ≡ page_head ++ (lines rs ++ page_tail)
page_parts rs =
    let close : List ℕ = codes "</script>" in
    let end : List ℕ = codes "</html>" in
    ap (λ l. page_head ++ l)
    (ap (λ l. l ++ end) (append_assoc (lines rs) script_tail close) ∙ append_assoc (lines rs) (script_tail ++ close) end)
