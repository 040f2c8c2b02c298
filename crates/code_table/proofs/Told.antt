-- The rows of a code tell of its nodes.
use Rattle.std.proofs.Common.{◌≡◌, ℕ, zero, suc, ◌<◌, ◌≤◌, List, [], ◌∷◌, ◌++◌, length, Option, Some, None, refl, ap, sym, ◌∙◌, append_assoc, append-nil, arith, subst, length-append}
use Rattle.std.specs.Prelude.{map, slice_get, is_some, true, false}
use Rattle.js_core.specs.Tree as tree
use Rattle.code_table.specs.declared.entry.Entry.{Entry}
use Rattle.code_table.specs.Kind.{node_kind, kind_of}
use Rattle.code_table.specs.Node.{Node, block_node, Parts, no_parts, then_part, then_none, part, parts_in, parts_of, pick, and_child, part_count, nodes_in, nodes_of, node_at, body_of, stmts_parts}
use Rattle.code_table.specs.Rows.{Row, no_number, with_parts, with_numbers, rows_of}
use Rattle.code_table.specs.Table.{Tells, kind_in, part_in, count_in, number_in, row_of}
use Rattle.code_table.proofs.Forms.{Formed, code_formed}

-- the number stands for this node, or for none
abbrev Points : List Node → ℕ → Option Node → Type 0
Points ns j None = j ≡ no_number
Points ns j (Some n) = slice_get ns j ≡ Some n

abbrev AllPoint : List Node → List ℕ → List (Option Node) → Type 0
AllPoint ns [] [] = Unit {0}
AllPoint ns (j ∷ js) (m ∷ ms) = Points ns j m × AllPoint ns js ms
AllPoint ns _ _ = ⊥

-- the rows tell of these nodes, whose parts are among all
abbrev Fits : List Node → List Row → List Node → Type 0
Fits all [] [] = Unit {0}
Fits all (r ∷ rs) (n ∷ ns) = (r.kind ≡ node_kind n) × AllPoint all r.parts (parts_of n) × Fits all rs ns
Fits all _ _ = ⊥

get_more : (ns ms : List Node) (j : ℕ) (n : Node) → slice_get ns j ≡ Some n → slice_get (ns ++ ms) j ≡ Some n
get_more [] ms j n e = cc
get_more (m ∷ ns) ms zero n e = e
get_more (m ∷ ns) ms (suc j) n e = get_more ns ms j n e

get_here : (ns : List Node) (n : Node) → slice_get (ns ++ n ∷ []) (length ns) ≡ Some n
get_here [] n = refl
get_here (m ∷ ns) n = get_here ns n

points_more : (ns ms : List Node) (j : ℕ) (o : Option Node) → Points ns j o → Points (ns ++ ms) j o
points_more ns ms j None h = h
points_more ns ms j (Some n) h = get_more ns ms j n h

all_point_more : (ns ms : List Node) (js : List ℕ) (os : List (Option Node)) → AllPoint ns js os → AllPoint (ns ++ ms) js os
all_point_more ns ms [] [] h = tt
all_point_more ns ms [] (o ∷ os) h = absurd h
all_point_more ns ms (j ∷ js) [] h = absurd h
all_point_more ns ms (j ∷ js) (o ∷ os) h = (points_more ns ms j o h.0, all_point_more ns ms js os h.1)

point_pushed : (ns : List Node) (js : List ℕ) (os : List (Option Node)) (j : ℕ) (o : Option Node) → AllPoint ns js os → Points ns j o → AllPoint ns (js ++ j ∷ []) (os ++ o ∷ [])
point_pushed ns [] [] j o h g = (g, tt)
point_pushed ns [] (p ∷ os) j o h g = absurd h
point_pushed ns (i ∷ js) [] j o h g = absurd h
point_pushed ns (i ∷ js) (p ∷ os) j o h g = (h.0, point_pushed ns js os j o h.1 g)

fits_more : (all ms : List Node) (rs : List Row) (ns : List Node) → Fits all rs ns → Fits (all ++ ms) rs ns
fits_more all ms [] [] h = tt
fits_more all ms [] (n ∷ ns) h = absurd h
fits_more all ms (r ∷ rs) [] h = absurd h
fits_more all ms (r ∷ rs) (n ∷ ns) h = (h.0, all_point_more all ms r.parts (parts_of n) h.1, fits_more all ms rs ns h.2)

fit_pushed : (all : List Node) (rs : List Row) (ns : List Node) (r : Row) (n : Node) → Fits all rs ns → r.kind ≡ node_kind n → AllPoint all r.parts (parts_of n) → Fits all (rs ++ r ∷ []) (ns ++ n ∷ [])
fit_pushed all [] [] r n h k p = (k, p, tt)
fit_pushed all [] (m ∷ ns) r n h k p = absurd h
fit_pushed all (s ∷ rs) [] r n h k p = absurd h
fit_pushed all (s ∷ rs) (m ∷ ns) r n h k p = (h.0, h.1, fit_pushed all rs ns r n h.2 k p)

pushed_length : (rows : List Row) (r : Row) (ns : List Node) (n : Node) → length rows ≡ length ns → length (rows ++ r ∷ []) ≡ length (ns ++ n ∷ [])
pushed_length rows r ns n e = rw (length-append rows (r ∷ []), length-append ns (n ∷ []), e) refl

regroup : (ns fs ms : List Node) (n : Node) → ((ns ++ fs) ++ n ∷ []) ++ ms ≡ ns ++ (fs ++ n ∷ ms)
regroup ns fs ms n = simp append_assoc

same_length : (rows : List Row) (ns : List Node) (p : Parts) → length rows ≡ length ns → length (with_parts rows p) ≡ length (ns ++ nodes_in p)
same_length rows ns no_parts e = rw (append-nil ns) e
same_length rows ns (then_part n inside p) e =
    let r : Row = record { kind = node_kind n; parts = with_numbers rows [] inside } in
    rw (← regroup ns (nodes_in inside) (nodes_in p) n)
    (same_length (with_parts rows inside ++ r ∷ []) ((ns ++ nodes_in inside) ++ n ∷ []) p
    (pushed_length (with_parts rows inside) r (ns ++ nodes_in inside) n (same_length rows ns inside e)))
same_length rows ns (then_none p) e = same_length rows ns p e

numbers_point : (rows : List Row) (ns : List Node) (p : Parts) (js : List ℕ) (os : List (Option Node)) → length rows ≡ length ns → AllPoint ns js os → AllPoint (ns ++ nodes_in p) (with_numbers rows js p) (os ++ parts_in p)
numbers_point rows ns no_parts js os e h = rw (append-nil ns, append-nil os) h
numbers_point rows ns (then_part n inside p) js os e h =
    let r : Row = record { kind = node_kind n; parts = with_numbers rows [] inside } in
    let front = ns ++ nodes_in inside in
    let same : length (with_parts rows inside) ≡ length front = same_length rows ns inside e in
    let before : AllPoint (front ++ n ∷ []) js os = all_point_more front (n ∷ []) js os (all_point_more ns (nodes_in inside) js os h) in
    let here : slice_get (front ++ n ∷ []) (length (with_parts rows inside)) ≡ Some n = rw same (get_here front n) in
    let done : AllPoint ((front ++ n ∷ []) ++ nodes_in p) (with_numbers (with_parts rows inside ++ r ∷ []) (js ++ length (with_parts rows inside) ∷ []) p) ((os ++ Some n ∷ []) ++ parts_in p) =
    numbers_point (with_parts rows inside ++ r ∷ []) (front ++ n ∷ []) p (js ++ length (with_parts rows inside) ∷ []) (os ++ Some n ∷ [])
    (pushed_length (with_parts rows inside) r front n same)
    (point_pushed (front ++ n ∷ []) js os (length (with_parts rows inside)) (Some n) before here) in
    let P : List Node → Type 0 = λ all. AllPoint all (with_numbers (with_parts rows inside ++ r ∷ []) (js ++ length (with_parts rows inside) ∷ []) p) ((os ++ Some n ∷ []) ++ parts_in p) in
    let Q : List (Option Node) → Type 0 = λ all. AllPoint (ns ++ (nodes_in inside ++ n ∷ nodes_in p)) (with_numbers (with_parts rows inside ++ r ∷ []) (js ++ length (with_parts rows inside) ∷ []) p) all in
    subst Q (append_assoc os (Some n ∷ []) (parts_in p)) (subst P (regroup ns (nodes_in inside) (nodes_in p) n) done)
numbers_point rows ns (then_none p) js os e h =
    let Q : List (Option Node) → Type 0 = λ all. AllPoint (ns ++ nodes_in p) (with_numbers rows (js ++ no_number ∷ []) p) all in
    subst Q (append_assoc os (None ∷ []) (parts_in p)) (numbers_point rows ns p (js ++ no_number ∷ []) (os ++ None ∷ []) e (point_pushed ns js os no_number None h refl))

rows_fit : (rows : List Row) (ns : List Node) (p : Parts) → Formed p → length rows ≡ length ns → Fits ns rows ns → Fits (ns ++ nodes_in p) (with_parts rows p) (ns ++ nodes_in p)
rows_fit rows ns no_parts g e h = rw (append-nil ns) h
rows_fit rows ns (then_part n inside p) g e h =
    let r : Row = record { kind = node_kind n; parts = with_numbers rows [] inside } in
    let front = ns ++ nodes_in inside in
    let same : length (with_parts rows inside) ≡ length front = same_length rows ns inside e in
    let before : Fits (front ++ n ∷ []) (with_parts rows inside) front = fits_more front (n ∷ []) (with_parts rows inside) front (rows_fit rows ns inside g.1 e h) in
    let O : List (Option Node) → Type 0 = λ os. AllPoint front (with_numbers rows [] inside) os in
    let points : AllPoint front (with_numbers rows [] inside) (parts_of n) = subst O g.0 (numbers_point rows ns inside [] [] e tt) in
    let pushed : Fits (front ++ n ∷ []) (with_parts rows inside ++ r ∷ []) (front ++ n ∷ []) =
    fit_pushed (front ++ n ∷ []) (with_parts rows inside) front r n before refl (all_point_more front (n ∷ []) (with_numbers rows [] inside) (parts_of n) points) in
    let P : List Node → Type 0 = λ all. Fits all (with_parts (with_parts rows inside ++ r ∷ []) p) all in
    subst P (regroup ns (nodes_in inside) (nodes_in p) n) (rows_fit (with_parts rows inside ++ r ∷ []) (front ++ n ∷ []) p g.2 (pushed_length (with_parts rows inside) r front n same) pushed)
rows_fit rows ns (then_none p) g e h = rows_fit rows ns p g e h

past : (ns : List Node) (j : ℕ) → length ns ≤ j → slice_get ns j ≡ None
past [] j h = refl
past (n ∷ ns) zero h = absurd (omega arith)
past (n ∷ ns) (suc j) h = past ns j (omega arith)

points_tell : (all : List Node) (js : List ℕ) (os : List (Option Node)) (i : ℕ) → length all ≤ no_number → AllPoint all js os → slice_get all (number_in (slice_get js i)) ≡ pick os i
points_tell all [] [] i l h = past all no_number l
points_tell all [] (o ∷ os) i l h = absurd h
points_tell all (j ∷ js) [] i l h = absurd h
points_tell all (j ∷ js) (None ∷ os) zero l h = rw h.0 (past all no_number l)
points_tell all (j ∷ js) (Some n ∷ os) zero l h = h.0
points_tell all (j ∷ js) (o ∷ os) (suc i) l h = points_tell all js os i l h.1

points_count : (all : List Node) (js : List ℕ) (os : List (Option Node)) → AllPoint all js os → length js ≡ length os
points_count all [] [] h = refl
points_count all [] (o ∷ os) h = absurd h
points_count all (j ∷ js) [] h = absurd h
points_count all (j ∷ js) (o ∷ os) h = ap suc (points_count all js os h.1)

fits_tell : (all : List Node) (es : List Entry) (ns : List Node) (k : ℕ) → length all ≤ no_number → Fits all (map row_of es) ns → (kind_in (slice_get es k) ≡ kind_of (slice_get ns k)) × ((i : ℕ) → slice_get all (part_in (slice_get es k) i) ≡ and_child (slice_get ns k) i) × (count_in (slice_get es k) ≡ part_count (slice_get ns k))
fits_tell all [] [] k l h = (refl, (λ i. past all no_number l), refl)
fits_tell all [] (n ∷ ns) k l h = absurd h
fits_tell all (e ∷ es) [] k l h = absurd h
fits_tell all (e ∷ es) (n ∷ ns) zero l h = (h.0, (λ i. points_tell all e.parts.items (parts_of n) i l h.1), points_count all e.parts.items (parts_of n) h.1)
fits_tell all (e ∷ es) (n ∷ ns) (suc k) l h = fits_tell all es ns k l h.2

map_length : (es : List Entry) → length (map row_of es) ≡ length es
map_length [] = refl
map_length (e ∷ es) = ap suc (map_length es)

pub counted : (c : tree.Code) → length (rows_of c) ≡ length (nodes_of c)
counted c = same_length [] [] (part (block_node (body_of c)) (stmts_parts (body_of c))) refl

pub told : (c : tree.Code) (es : List Entry) (k : ℕ) → map row_of es ≡ rows_of c → length es ≤ no_number → Tells c (slice_get es k) k
unfolding node_at
told c es k e l =
    let p = part (block_node (body_of c)) (stmts_parts (body_of c)) in
    let few : length (nodes_of c) ≤ no_number = omega (arith, map_length es, ap length e, counted c) in
    let P : List Row → Type 0 = λ rows. Fits (nodes_of c) rows (nodes_of c) in
    let t = fits_tell (nodes_of c) es (nodes_of c) k few (subst P (sym e) (rows_fit [] [] p (code_formed c) refl tt)) in
    record { kind = t.0; parts = t.1; count = t.2 }

last_node : (ns : List Node) (n : Node) (k : ℕ) → k ≡ length ns → slice_get (ns ++ n ∷ []) k ≡ Some n
last_node ns n k e = rw e (get_here ns n)

pub body_last : (c : tree.Code) (k : ℕ) → k ≡ length (with_parts [] (stmts_parts (body_of c))) → node_at c k ≡ Some (block_node (body_of c))
unfolding node_at
body_last c k e = last_node (nodes_in (stmts_parts (body_of c))) (block_node (body_of c)) k (e ∙ same_length [] [] (stmts_parts (body_of c)) refl)

pub node_count : (c : tree.Code) (es : List Entry) → map row_of es ≡ rows_of c → length es ≡ length (nodes_of c)
node_count c es e = sym (map_length es) ∙ (ap length e ∙ counted c)

get_there : (ns : List Node) (j : ℕ) → j < length ns → is_some (slice_get ns j) ≡ true
get_there [] j h = absurd (omega arith)
get_there (n ∷ ns) zero h = refl
get_there (n ∷ ns) (suc j) h = get_there ns j (omega arith)

pub is_there : (c : tree.Code) (j : ℕ) → j < length (nodes_of c) → is_some (node_at c j) ≡ true
unfolding node_at
is_there c j h = get_there (nodes_of c) j h

pub is_past : (c : tree.Code) (j : ℕ) → length (nodes_of c) ≤ j → is_some (node_at c j) ≡ false
unfolding node_at
is_past c j h = rw (past (nodes_of c) j h) refl
