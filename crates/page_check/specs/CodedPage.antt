-- How the logic stores a page.
use Rattle.std.specs.Prelude.{◌≡◌, Bool, true, false, List, refl}
use Rattle.std.specs.Coded.{Coded, code_by, coded_bool, coded_list, coded×}
use Rattle.dom_tree.specs.contracts.dom.Dom as dom
use Rattle.dom_tree.specs.Node.{Nodes}
use Rattle.js_core.specs.Codes.{coded_stmts}
use Rattle.js_core.specs.Tree.{Stmts}
use Rattle.page_check.specs.Rules.{Page}
use Rattle.page_check.specs.declared.page.Kind.{Kind}
use Rattle.page_check.specs.declared.page.Kind.TheVariants.{Plain, Form}

abbrev pub is_form : Kind → Bool
is_form Plain = false
is_form Form = true

abbrev pub kind_where : Bool → Kind
kind_where true = Form
kind_where false = Plain

abbrev pub same_kind : (kind : Kind) → kind_where (is_form kind) ≡ kind
same_kind Plain = refl
same_kind Form = refl

abbrev pub coded_page : Coded Page
coded_page =
    code_by (Bool × (Nodes × List Stmts)) (coded× coded_bool (coded× dom.the_row.coded (coded_list coded_stmts))) (λ p. (is_form p.kind, (p.nodes, p.scripts)))
    (λ t. record { kind = kind_where t.0; nodes = t.1.0; scripts = t.1.1 }) (λ p. λ i. record { kind = same_kind p.kind i; nodes = p.nodes; scripts = p.scripts })
