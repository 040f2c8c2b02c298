-- Nodes that are numbered become entries, the last one first.
use Rattle.std.proofs.Common.{◌≡◌, refl, sym, ap, ◌∙◌, ◌+◌, ◌*◌, ◌<◌, ◌≤◌, List, [], ◌∷◌, ◌++◌, length, map, reverse, arith}
use Rattle.std.proofs.lemmas.List.{map-append, reverse-append}
use Rattle.js_core.specs.Sizes.{code_size}
use Rattle.js_core.specs.Tree as tree
use Rattle.code_table.specs.declared.code.FunctionCode.TheDeep.{deep-Kind}
use Rattle.code_table.specs.declared.entry.Entry.{Entry}
use Rattle.code_numbering.specs.declared.rows.Numbered.{Numbered}
use Rattle.code_table.specs.Falls.{deepest, rows_deepest}
use Rattle.code_numbering.specs.Numbered.{known, numbered_row}
use Rattle.code_table.specs.Rows.{Row, rows_of}
use Rattle.code_table.specs.Table.{row_of}

no_more : (rows : List Row) → rows ++ [] ≡ rows
no_more [] = refl
no_more (r ∷ rs) = ap (λ ss. r ∷ ss) (no_more rs)

in_between : (xs : List Row) (r : Row) (ys : List Row) → (xs ++ r ∷ []) ++ ys ≡ xs ++ r ∷ ys
in_between [] r ys = refl
in_between (x ∷ xs) r ys = ap (λ zs. x ∷ zs) (in_between xs r ys)

reversed_rows : (es : List Entry) → map row_of (reverse es) ≡ reverse (map row_of es)
reversed_rows [] = refl
reversed_rows (e ∷ es) =
    let here = reversed_rows es in
    rw (reverse-append (e ∷ []) es, map-append row_of (reverse es) (e ∷ []), here, reverse-append (row_of e ∷ []) (map row_of es)) refl

pub none_finished : (ns : List Numbered) (es : List Entry) → es ≡ [] → map numbered_row ns ++ reverse (map row_of es) ≡ map numbered_row ns
none_finished ns es e = rw e (no_more (map numbered_row ns))

pub one_finished : (olds ns : List Numbered) (x : Numbered) (es fs : List Entry) (e : Entry) (all : List Row) → olds ≡ ns ++ x ∷ [] → fs ≡ es ++ e ∷ [] → row_of e ≡ numbered_row x
    → map numbered_row olds ++ reverse (map row_of es) ≡ all → map numbered_row ns ++ reverse (map row_of fs) ≡ all
one_finished olds ns x es fs e all popped pushed same h =
    let k : (map numbered_row ns ++ numbered_row x ∷ []) ++ reverse (map row_of es) ≡ all = rw (popped, map-append numbered_row ns (x ∷ [])) at h in
    rw (pushed, map-append row_of es (e ∷ []), reverse-append (map row_of es) (row_of e ∷ []), same)
    (sym (in_between (map numbered_row ns) (numbered_row x) (reverse (map row_of es))) ∙ k)

pub all_finished : (ns : List Numbered) (es fs : List Entry) (all : List Row) → length ns ≡ 0 → fs ≡ reverse es → map numbered_row ns ++ reverse (map row_of es) ≡ all → map row_of fs ≡ all
all_finished [] es fs all none turned h = rw turned (reversed_rows es ∙ h)
all_finished (n ∷ ns) es fs all none turned h = absurd (omega (arith, none))

in_rows : (xs : List Row) (r : Row) (ys : List Row) → deep-Kind r.kind ≤ deepest (xs ++ r ∷ ys)
in_rows [] r ys = omega arith
in_rows (x ∷ xs) r ys = let g = in_rows xs r ys in omega (arith, g)

pub smaller_node : (olds ns : List Numbered) (x : Numbered) (es : List Entry) (all : List Row) → olds ≡ ns ++ x ∷ [] → map numbered_row olds ++ reverse (map row_of es) ≡ all
    → 4 * deep-Kind (known x.kind) < 4 * deepest all + 1
smaller_node olds ns x es all popped h =
    let k : (map numbered_row ns ++ numbered_row x ∷ []) ++ reverse (map row_of es) ≡ all = rw (popped, map-append numbered_row ns (x ∷ [])) at h in
    let seam : map numbered_row ns ++ numbered_row x ∷ reverse (map row_of es) ≡ all =
    sym (in_between (map numbered_row ns) (numbered_row x) (reverse (map row_of es))) ∙ k in
    let g = in_rows (map numbered_row ns) (numbered_row x) (reverse (map row_of es)) in
    rw (← seam) (omega (arith, g))

pub smaller_rows : (ns : List Numbered) (rows : List Row) (c : tree.Code) → map numbered_row ns ≡ rows → rows ≡ rows_of c → 4 * deepest (map numbered_row ns) + 1 < 4 * code_size c + 2
smaller_rows ns rows c same is = let g = rows_deepest c in rw (same, is) (omega (arith, g))
