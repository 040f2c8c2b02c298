-- How the logic stores places, and names with their holders.
use Rattle.std.specs.Prelude.{ℕ, Option, refl}
use Rattle.std.specs.Coded.{Coded, code_by, coded_ℕ, coded_list, coded_option, coded×}
use Rattle.js_core.specs.Codes.{coded_code}
use Rattle.js_core.specs.Tree as tree
use Rattle.js_values.specs.contracts.ids.EnvId as env
use Rattle.js_values.specs.contracts.ids.ObjId as object
use Rattle.js_values.specs.contracts.value.Value as one
use Rattle.js_values.specs.declared.ids.EnvId.{EnvId}
use Rattle.js_values.specs.declared.value.Value.{Value}
use Rattle.page_meaning.specs.Loops.{Listed}
use Rattle.page_frames.specs.Where.{Where}

abbrev pub coded_where : Coded Where
coded_where =
    code_by (tree.Code × (ℕ × (Option EnvId × Value))) (coded× coded_code (coded× coded_ℕ (coded× (coded_option env.the_row.coded) one.the_row.coded)))
    (λ f. (f.code, (f.node, (f.env, f.this)))) (λ t. record { code = t.0; node = t.1.0; env = t.1.1.0; this = t.1.1.1 }) (λ f. refl)

abbrev pub coded_listed : Coded Listed
coded_listed = coded_list (coded× (coded_option object.the_row.coded) (coded_list coded_ℕ))
