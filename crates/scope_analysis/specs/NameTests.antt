-- The tests that names are put to.
use Rattle.std.specs.Prelude.{ℕ, Bool, List}
use Rattle.scope_analysis.specs.declared.name_test.NameTest.{NameTest}
use Rattle.scope_analysis.specs.declared.name_test.NameTest.TheVariants as test
use Rattle.scope_analysis.specs.Identifiers.{is_restricted, is_reserved}

abbrev pub fits : NameTest → List ℕ → Bool
fits test.IsRestricted x = is_restricted x
fits test.IsReserved x = is_reserved x
