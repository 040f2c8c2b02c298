-- How the logic stores rows.
use Rattle.std.specs.Prelude.{ℕ, List, refl}
use Rattle.std.specs.Coded.{Coded, code_by, coded_ℕ, coded_list, coded×}
use Rattle.code_table.specs.declared.kind.Kind.{Kind}
use Rattle.code_table.specs.contracts.kind.Kind as kind
use Rattle.code_table.specs.Rows.{Row}

abbrev pub coded_rows : Coded (List Row)
coded_rows =
    coded_list (code_by (Kind × List ℕ) (coded× kind.the_row.coded (coded_list coded_ℕ)) (λ r. (r.kind, r.parts)) (λ p. record { kind = p.0; parts = p.1 }) (λ r. refl))
