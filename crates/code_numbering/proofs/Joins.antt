-- The rows of parts that follow others.
use Rattle.std.proofs.Common.{◌≡◌, ℕ, List, [], ◌∷◌, ◌++◌, length, refl}
use Rattle.code_table.specs.Kind.{node_kind}
use Rattle.code_table.specs.Node.{Parts, no_parts, then_part, then_none, join}
use Rattle.code_table.specs.Rows.{Row, no_number, with_parts, with_numbers}

pub parts_join : (rows : List Row) (p q : Parts) → with_parts rows (join p q) ≡ with_parts (with_parts rows p) q
parts_join rows no_parts q = refl
parts_join rows (then_part n inside p) q =
    parts_join (with_parts rows inside ++ record { kind = node_kind n; parts = with_numbers rows [] inside } ∷ []) p q
parts_join rows (then_none p) q = parts_join rows p q

pub numbers_join : (rows : List Row) (numbers : List ℕ) (p q : Parts) → with_numbers rows numbers (join p q) ≡ with_numbers (with_parts rows p) (with_numbers rows numbers p) q
numbers_join rows numbers no_parts q = refl
numbers_join rows numbers (then_part n inside p) q =
    numbers_join (with_parts rows inside ++ record { kind = node_kind n; parts = with_numbers rows [] inside } ∷ []) (numbers ++ length (with_parts rows inside) ∷ []) p q
numbers_join rows numbers (then_none p) q = numbers_join rows (numbers ++ no_number ∷ []) p q
