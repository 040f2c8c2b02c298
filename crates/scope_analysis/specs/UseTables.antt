-- What is kept of the uses of a piece: each name that is used, in the order in which the names are used, with what all uses of it do.
use Rattle.std.specs.Prelude.{ℕ, Bool, false, ◌||◌, ◌&&◌, List, [], ◌∷◌, bytes_eq, if◌then◌else◌}
use Rattle.std.specs.Option.{unwrap_or}
use Rattle.std.specs.Map.{lookup}
use Rattle.scope_analysis.specs.declared.use_table.NameUses.{NameUses}
use Rattle.scope_analysis.specs.Uses.{Use}

abbrev pub Noted : Type 0
Noted = List (List ℕ × NameUses)

-- what one use does
abbrev pub one_use : Use → NameUses
one_use u = record { crosses = u.crosses; assigns = u.assigns; again = false }

-- what uses of a name do, and then others of it
abbrev pub and_more : NameUses → NameUses → NameUses
and_more a b = record { crosses = a.crosses || b.crosses; assigns = a.assigns || b.assigns; again = (a.assigns && b.assigns) || (a.again || b.again) }

abbrev pub with_name : Noted → List ℕ → NameUses → Noted
with_name [] x more = (x, more) ∷ []
with_name (e ∷ es) x more = if bytes_eq x e.0 then (e.0, and_more e.1 more) ∷ es else e ∷ with_name es x more

abbrev pub noted : Noted → List Use → Noted
noted es [] = es
noted es (u ∷ us) = noted (with_name es u.name (one_use u)) us

-- what the uses of a piece do
abbrev pub table_of : List Use → Noted
table_of us = noted [] us

-- all that was noted is noted behind what was noted before
abbrev pub joined : Noted → Noted → Noted
joined es [] = es
joined es (f ∷ fs) = joined (with_name es f.0 f.1) fs

-- uses of a name, as they are seen from round a scope that is a function or none
abbrev pub seen_from : Bool → NameUses → NameUses
seen_from is_function uses = record { crosses = is_function || uses.crosses; assigns = uses.assigns; again = uses.again }

-- what is left to the scopes round one that declares the names which pass the test
abbrev pub left_by : Bool → (List ℕ → Bool) → Noted → Noted
left_by is_function declares [] = []
left_by is_function declares (e ∷ es) =
    if declares e.0 then left_by is_function declares es else ((e.0, seen_from is_function e.1) ∷ left_by is_function declares es)

abbrev pub no_uses : NameUses
no_uses = record { crosses = false; assigns = false; again = false }

-- what the uses of the name do
abbrev pub uses_in : Noted → List ℕ → NameUses
uses_in es x = unwrap_or (lookup (bytes_eq x) es) no_uses
