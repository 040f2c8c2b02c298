-- The worked examples have the values that they say, each by computing.
use Rattle.std.proofs.Common.{◌≡◌, true, false, refl, length}
use Rattle.std.specs.List.{list_all, list_any}
use Rattle.global_names.specs.Names.{global_names, names_global}
use Rattle.global_names.specs.Worked.{names, other_names}

pub names_are_global : (length global_names ≡ 27) × (list_all names_global names ≡ true) × (list_any names_global other_names ≡ false)
unfolding global_names
names_are_global = (refl, refl, refl)
