-- What frames weigh.
use Rattle.std.proofs.Common.{◌≡◌, ℕ, zero, suc, ◌+◌, ◌*◌, ◌≤◌, ◌<◌, ◌++◌, List, [], ◌∷◌, Option, Some, None, length, true, is_some, slice_get, refl, arith, le_trans, le_refl, length-append, mul-le-mul_right}
use Rattle.code_table.specs.Node.{Node, block_node, Parts, no_parts, then_part, then_none, part, parts_in, pick, and_child, inside, nodes_in, nodes_of, node_at, body_of, stmts_parts}
use Rattle.js_core.specs.Tree as tree
use Rattle.page_frames.specs.declared.meter.Meter.{Meter}
use Rattle.page_frames.specs.declared.meter.Next.{Next}
use Rattle.page_frames.specs.declared.meter.Next.TheVariants.{Give, Go, Enter, Then, Stopped}
use Rattle.page_frames.specs.Laws.{PartsArePaid}
use Rattle.page_frames.specs.Step.{Lighter}
use Rattle.page_frames.specs.Weight.{HasFewNodes, costs, cost, costs_from, parts_from, spare, weigh, heavy, load}
use Rattle.page_frames.proofs.Forms.{Formed, code_formed, node_formed}

more_load : (a b n : ℕ) → a ≤ b → load n a ≤ load n b
more_load a b n h = omega (arith, h)

-- where more may be weighed
pub no_heavier : (a b : ℕ) (m : Meter) (next : Next) (m' : Meter) → a ≤ b → Lighter a m next m' → Lighter b m next m'
no_heavier a b m (Give s) m' h l = l
no_heavier a b m (Go f s) m' h l = le_trans l (more_load a b m.steps h)
no_heavier a b m (Enter x) m' h l = le_trans l (more_load a b m.steps h)
no_heavier a b m (Then f x) m' h l = le_trans l (more_load a b m.steps h)
no_heavier a b m Stopped m' h l = l

-- ---- the parts of a node

spare_falls : (k : ℕ) → k < 8 → spare k ≡ 2 + spare (suc k)
spare_falls k h = omega (arith, h)

spare_less : (k : ℕ) → spare (suc k) ≤ spare k
spare_less k = omega arith

next_costs : (p : Parts) (k : ℕ) → costs_from p (suc k) ≤ costs_from p k
next_costs no_parts zero = omega arith
next_costs no_parts (suc k) = omega arith
next_costs (then_part n i p) zero = omega arith
next_costs (then_part n i p) (suc k) = next_costs p k
next_costs (then_none p) zero = le_refl (costs p)
next_costs (then_none p) (suc k) = next_costs p k

next_parts : (at : Option Node) (k : ℕ) → parts_from at (suc k) ≤ parts_from at k
next_parts None k = omega arith
next_parts (Some n) k = next_costs (inside n) k

-- fewer parts weigh no more
pub weigh_less : (at : Option Node) (k : ℕ) → weigh at (suc k) ≤ weigh at k
weigh_less at k = omega (arith, next_parts at k, spare_less k)

part_costs : (p : Parts) (k : ℕ) → Formed p → cost (pick (parts_in p) k) + costs_from p (suc k) ≤ costs_from p k
part_costs no_parts zero f = omega arith
part_costs no_parts (suc k) f = omega arith
part_costs (then_part n i p) zero f = rw (← f.0) (omega arith)
part_costs (then_part n i p) (suc k) f = part_costs p k f.2
part_costs (then_none p) zero f = omega arith
part_costs (then_none p) (suc k) f = part_costs p k f

there_costs : (p : Parts) (k : ℕ) → Formed p → is_some (pick (parts_in p) k) ≡ true → 2 + (cost (pick (parts_in p) k) + costs_from p (suc k)) ≤ costs_from p k
there_costs no_parts k f h = cc
there_costs (then_part n i p) zero f h = rw (← f.0) (omega arith)
there_costs (then_part n i p) (suc k) f h = there_costs p k f.2 h
there_costs (then_none p) zero f h = cc
there_costs (then_none p) (suc k) f h = there_costs p k f h

child_costs : (at : Option Node) (k : ℕ) → cost (and_child at k) + parts_from at (suc k) ≤ parts_from at k
child_costs None k = omega arith
child_costs (Some n) k = part_costs (inside n) k (node_formed n)

-- a frame that waits for one of the first parts, and the part
pub early_part : (at : Option Node) (k : ℕ) → k < 8 → suc (weigh at (suc k)) + suc (cost (and_child at k)) ≤ weigh at k
early_part at k h = omega (arith, child_costs at k, spare_falls k h)

-- and for a part that is there
pub there_part : (at : Option Node) (k : ℕ) → is_some (and_child at k) ≡ true → suc (weigh at (suc k)) + suc (cost (and_child at k)) ≤ weigh at k
there_part None k h = cc
there_part (Some n) k h = omega (arith, there_costs (inside n) k (node_formed n) h, spare_less k)

pub parts_are_paid : PartsArePaid
parts_are_paid = (early_part, there_part)

-- a node pays for all its parts
pub begin_weigh : (at : Option Node) → is_some at ≡ true → 2 + weigh at 0 ≤ cost at
begin_weigh None h = cc
begin_weigh (Some n) h = omega arith

-- ---- the nodes of a code

abbrev Each : ℕ → List Node → Type 0
Each b [] = Unit {0}
Each b (n ∷ ns) = (cost (Some n) ≤ b) × Each b ns

each_more : (b : ℕ) (ns ms : List Node) → Each b ns → Each b ms → Each b (ns ++ ms)
each_more b [] ms h g = g
each_more b (n ∷ ns) ms h g = (h.0, each_more b ns ms h.1 g)

each_le : (a b : ℕ) (ns : List Node) → a ≤ b → Each a ns → Each b ns
each_le a b [] l h = tt
each_le a b (n ∷ ns) l h = (le_trans h.0 l, each_le a b ns l h.1)

each_at : (b : ℕ) (ns : List Node) (k : ℕ) → Each b ns → cost (slice_get ns k) ≤ b
each_at b [] k h = omega arith
each_at b (n ∷ ns) zero h = h.0
each_at b (n ∷ ns) (suc k) h = each_at b ns k h.1

nodes_within : (p : Parts) → Formed p → Each (costs p) (nodes_in p)
nodes_within no_parts f = tt
nodes_within (then_part n i p) f =
    let total = 24 + costs i + costs p in
    let here : cost (Some n) ≤ total = rw (← f.0) (omega arith) in
    each_more total (nodes_in i) (n ∷ nodes_in p) (each_le (costs i) total (nodes_in i) (omega arith) (nodes_within i f.1))
    (here, each_le (costs p) total (nodes_in p) (omega arith) (nodes_within p f.2))
nodes_within (then_none p) f = nodes_within p f

costs_count : (p : Parts) → costs p ≡ 24 * length (nodes_in p)
costs_count no_parts = refl
costs_count (then_part n i p) = omega (arith, costs_count i, costs_count p, length-append (nodes_in i) (n ∷ nodes_in p))
costs_count (then_none p) = costs_count p

abbrev whole_body : tree.Code → Parts
whole_body c = part (block_node (body_of c)) (stmts_parts (body_of c))

node_light : (c : tree.Code) (k : ℕ) → HasFewNodes c → cost (node_at c k) ≤ 103079215104
unfolding node_at
node_light c k h =
    omega (arith, each_at (costs (whole_body c)) (nodes_of c) k (nodes_within (whole_body c) (code_formed c)), costs_count (whole_body c), h.few)

is_heavy : 18446744073709551616 ≤ heavy
unfolding heavy
is_heavy = omega arith

parts_small : (at : Option Node) (k : ℕ) → parts_from at k ≤ cost at
parts_small None k = omega arith
parts_small (Some n) k = omega (arith, less (inside n) k)
  where
    less : (p : Parts) (k : ℕ) → costs_from p k ≤ costs p
    less p zero = le_refl (costs p)
    less no_parts (suc k) = omega arith
    less (then_part n i p) (suc k) = omega (arith, less p k)
    less (then_none p) (suc k) = less p k

weigh_small : (at : Option Node) (k : ℕ) → weigh at k ≤ 20 + cost at
weigh_small at k = omega (arith, parts_small at k)

child_small : (at : Option Node) (k : ℕ) → cost (and_child at k) ≤ cost at
child_small at k = omega (arith, child_costs at k, parts_small at k)

-- a step pays for whatever a node may run
pub node_paid : (c : tree.Code) (k i j l : ℕ) → HasFewNodes c → suc (weigh (node_at c k) i + weigh (node_at c k) j) + suc (cost (and_child (node_at c k) l)) ≤ heavy
node_paid c k i j l h =
    omega (arith, is_heavy, node_light c k h, weigh_small (node_at c k) i, weigh_small (node_at c k) j, child_small (node_at c k) l)

pub weigh_paid : (c : tree.Code) (k i l : ℕ) → HasFewNodes c → suc (weigh (node_at c k) i) + suc (cost (and_child (node_at c k) l)) ≤ heavy
weigh_paid c k i l h = omega (arith, is_heavy, node_light c k h, weigh_small (node_at c k) i, child_small (node_at c k) l)

-- and for a call
pub body_paid : (c : tree.Code) (k : ℕ) → HasFewNodes c → suc 0 + suc (cost (node_at c k)) ≤ heavy
body_paid c k h = omega (arith, is_heavy, node_light c k h)

paid_for : (n k a w : ℕ) → suc n ≤ k → w ≤ heavy → load n w ≤ load k a
paid_for n k a w more h = omega (arith, h, mul-le-mul_right heavy more)

-- what a step pays for, or more than one
pub steps_pay : (w a : ℕ) (m m1 : Meter) (next : Next) (m' : Meter) → suc m1.steps ≤ m.steps → w ≤ heavy → Lighter w m1 next m' → Lighter a m next m'
steps_pay w a m m1 (Give s) m' e h l = omega (arith, e, l)
steps_pay w a m m1 (Go f s) m' e h l = le_trans l (paid_for m1.steps m.steps a w e h)
steps_pay w a m m1 (Enter x) m' e h l = le_trans l (paid_for m1.steps m.steps a w e h)
steps_pay w a m m1 (Then f x) m' e h l = le_trans l (paid_for m1.steps m.steps a w e h)
steps_pay w a m m1 Stopped m' e h l = l

pub step_pays : (w a : ℕ) (m m1 : Meter) (next : Next) (m' : Meter) → m.steps ≡ suc m1.steps → w ≤ heavy → Lighter w m1 next m' → Lighter a m next m'
step_pays w a m m1 next m' e h l = steps_pay w a m m1 next m' (omega (arith, e)) h l

fewer_load : (n k w : ℕ) → n ≤ k → load n w ≤ load k w
fewer_load n k w less = omega (arith, mul-le-mul_right heavy less)

-- where more steps are left
pub lighter_before : (w : ℕ) (m m1 : Meter) (next : Next) (m' : Meter) → m1.steps ≤ m.steps → Lighter w m1 next m' → Lighter w m next m'
lighter_before w m m1 (Give s) m' less l = le_trans l less
lighter_before w m m1 (Go f s) m' less l = le_trans l (fewer_load m1.steps m.steps w less)
lighter_before w m m1 (Enter x) m' less l = le_trans l (fewer_load m1.steps m.steps w less)
lighter_before w m m1 (Then f x) m' less l = le_trans l (fewer_load m1.steps m.steps w less)
lighter_before w m m1 Stopped m' less l = l
