-- The statements that set a node's attributes again, in order, from none: they are the same list, where names are folded and no two are the same.
use Rattle.std.specs.Prelude.{◌≡◌, true, [], ◌∷◌}
use Rattle.std.specs.List.{list_all}
use Rattle.dom_tree.specs.Attributes.{Pairs, has_distinct_names, with_value_of}
use Rattle.dom_tree.specs.Name.{folded, is_folded_name}

abbrev pub set_all : Pairs → Pairs → Pairs
set_all [] acc = acc
set_all (a ∷ as') acc = set_all as' (with_value_of (folded a.0) a.1 acc)

abbrev pub AttributesAreRebuilt : Type 0
AttributesAreRebuilt = (attributes : Pairs) → list_all (λ a. is_folded_name a.0) attributes ≡ true → has_distinct_names attributes ≡ true → set_all attributes [] ≡ attributes
