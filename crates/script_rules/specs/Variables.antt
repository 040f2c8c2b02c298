-- What the tables of a function's variables say of each name.
use Rattle.std.specs.Prelude.{◌≡◌, ℕ, List, bytes_eq}
use Rattle.indexmap.specs.IndexSet.{contains}
use Rattle.script_rules.specs.declared.scope_tests.Variables.{Variables}
use Rattle.scope_analysis.specs.Names.{is_among}

-- these are the function's formals and the names that its body declares
abbrev pub Tells : Variables → List (List ℕ) → List (List ℕ) → Type 0
Tells v formals declared = record {
  formals : (x : List ℕ) → contains bytes_eq v.formals x ≡ is_among x formals;
  declared : (x : List ℕ) → contains bytes_eq v.declared x ≡ is_among x declared;
}
