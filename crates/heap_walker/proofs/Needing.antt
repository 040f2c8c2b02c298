-- The names that a function needs, whether its tree has its name or not.
use Rattle.std.proofs.Common.{◌≡◌, ap}
use Rattle.code_table.specs.Declarations.{name_of, unnamed}
use Rattle.js_core.specs.Tree as tree
use Rattle.js_core.specs.Tree.{code}
use Rattle.scope_analysis.specs.Needs.{needed_variables}
use Rattle.scope_analysis.specs.Names.{code_body, code_formals}

pub needed_of : (c d : tree.Code) → unnamed d ≡ unnamed c → needed_variables (code (name_of c) (code_formals d) (code_body d)) ≡ needed_variables c
needed_of (code x formals body) (code y others rest) same = ap (λ (e : tree.Code). needed_variables (code x (code_formals e) (code_body e))) same
