-- Statements in turn, and declared names in turn.
use Rattle.std.proofs.Common.{◌≡◌, refl, ap, ◌∙◌, ℕ, zero, suc, ◌+◌, ◌<◌, ◌≤◌, Option, Some, None, Result, Ok, Err, IfOk, true, is_some, length, le_refl, arith}
use Rattle.code_table.specs.Kind.{kind_of}
use Rattle.code_table.specs.Node.{Node, and_child, declarators_parts, part_count, parts_in, pick, stmt_node, stmts_parts}
use Rattle.code_table.specs.declared.kind.Kind.{Kind}
use Rattle.code_table.specs.declared.kind.Kind.TheVariants.{Block, Discard, Var}
use Rattle.js_core.specs.Tree as tree
use Rattle.js_core.specs.Tree.{no_stmts, then_stmt, no_declarators, then_declarator, no_expr, one_expr, var}
use Rattle.page_meaning.specs.declared.signal.Signal.{Signal}
use Rattle.page_meaning.specs.declared.signal.Signal.TheVariants.{Value as Val, Thrown, Return, Break, Continue}
use Rattle.page_meaning.specs.Act.{Act, Calls, Outcome, Ended, Stopped, also, done, nothing, on_value, then_on}
use Rattle.page_meaning.specs.Calls.{calls_at}
use Rattle.page_meaning.specs.Names.{Here}
use Rattle.page_meaning.specs.Statements.{exec_all, exec_declarators}
use Rattle.page_meaning.specs.Store.{Store}
use Rattle.page_frames.specs.declared.meter.Meter.{Meter}
use Rattle.page_frames.specs.declared.meter.Next.{Next}
use Rattle.page_frames.specs.declared.meter.Next.TheVariants.{Give}
use Rattle.page_frames.specs.Parts.{drop_declarators, drop_stmts, mean_node, part}
use Rattle.page_frames.specs.RestStatements.{declarators_from, stmts_from}
use Rattle.page_frames.specs.Start.{start_of}
use Rattle.page_frames.specs.Step.{Leads}
use Rattle.page_frames.specs.Weight.{cost, weigh}
use Rattle.page_frames.specs.Where.{Where, here_of, numbered, spot_node}
use Rattle.page_frames.proofs.Callers.{begin_weigh, begins_by_kind, early_part, no_heavier, there_part}
use Rattle.step_parts.specs.Running.{Awaits, AwaitsNode}
use Rattle.step_parts.proofs.Callers.{IsBlock, block_shape, body, braced, var_shape}
use Rattle.step_stmt.proofs.Ending.{ended}

-- ---- statements

stmts_there : (ss : tree.Stmts) (k : ℕ) → k < length (parts_in (stmts_parts ss)) → is_some (pick (parts_in (stmts_parts ss)) k) ≡ true
stmts_there no_stmts k h = absurd (omega (arith, h))
stmts_there (then_stmt s ss) zero h = refl
stmts_there (then_stmt s ss) (suc k) h = stmts_there ss k (omega (arith, h))

stmts_next : (calls : Calls) (here : Here) (ss : tree.Stmts) (k : ℕ) → k < length (parts_in (stmts_parts ss))
    → exec_all calls here (drop_stmts ss k) ≡ also (mean_node calls here (pick (parts_in (stmts_parts ss)) k)) (λ _. exec_all calls here (drop_stmts ss (suc k)))
stmts_next calls here no_stmts k h = absurd (omega (arith, h))
stmts_next calls here (then_stmt s ss) zero h = refl
stmts_next calls here (then_stmt s ss) (suc k) h = stmts_next calls here ss k (omega (arith, h))

stmts_end : (calls : Calls) (here : Here) (ss : tree.Stmts) (k : ℕ) → length (parts_in (stmts_parts ss)) ≤ k → exec_all calls here (drop_stmts ss k) ≡ done
stmts_end calls here no_stmts zero h = refl
stmts_end calls here no_stmts (suc k) h = stmts_end calls here no_stmts k (omega arith)
stmts_end calls here (then_stmt s ss) zero h = absurd (omega (arith, h))
stmts_end calls here (then_stmt s ss) (suc k) h = stmts_end calls here ss k (omega (arith, h))

block_there : (at : Option Node) (k : ℕ) → IsBlock at → k < part_count at → is_some (and_child at k) ≡ true
block_there at k (body ss) h = stmts_there ss k h
block_there at k (braced ss) h = stmts_there ss k h

block_next : (calls : Calls) (here : Here) (at : Option Node) (k : ℕ) → IsBlock at → k < part_count at → stmts_from calls here at k ≡ also (part calls here at k) (λ _. stmts_from calls here at (suc k))
block_next calls here at k (body ss) h = stmts_next calls here ss k h
block_next calls here at k (braced ss) h = stmts_next calls here ss k h

block_end : (calls : Calls) (here : Here) (at : Option Node) (k : ℕ) → IsBlock at → part_count at ≤ k → stmts_from calls here at k ≡ done
block_end calls here at k (body ss) h = stmts_end calls here ss k h
block_end calls here at k (braced ss) h = stmts_end calls here ss k h

pub block_runs : {E : Type 0} (f : Where) (k : ℕ) (w : Store) (m : Meter) (r : Result Next E) → kind_of (spot_node f) ≡ Block → k < part_count (spot_node f) → IfOk r (λ n. Awaits f k None k w m n)
    → IfOk r (λ n. Leads (stmts_from (calls_at m.depth) (here_of f) (spot_node f) k) (weigh (spot_node f) k) w m n w m)
block_runs f k w m (Err x) e h g = g
block_runs f k w m (Ok n) e h g = let a : Awaits f k None k w m n = g in record {
  follows = ap (λ (a : Act). a.run w m.steps) (block_next (calls_at m.depth) (here_of f) (spot_node f) k (block_shape (spot_node f) e) h) ∙ (rw e at (a.follows));
  levels = a.levels;
  lighter = no_heavier _ _ m n m (there_part (spot_node f) k (block_there (spot_node f) k (block_shape (spot_node f) e) h)) (rw e at (a.lighter));
}

pub block_ends : (f : Where) (k : ℕ) (w : Store) (m : Meter) → kind_of (spot_node f) ≡ Block → part_count (spot_node f) ≤ k
    → Leads (stmts_from (calls_at m.depth) (here_of f) (spot_node f) k) (weigh (spot_node f) k) w m (Give nothing) w m
block_ends f k w m e h = ended _ nothing _ w m (block_end (calls_at m.depth) (here_of f) (spot_node f) k (block_shape (spot_node f) e) h)

-- what is done with the value of an expression before the block goes on does nothing
same_discarded : (o : Outcome Signal) (next : Act) → then_on (then_on o (on_value (λ _. done))) (on_value (λ _. next)) ≡ then_on o (on_value (λ _. next))
same_discarded (Ended (Val v) w k) next = refl
same_discarded (Ended (Thrown v) w k) next = refl
same_discarded (Ended (Return v) w k) next = refl
same_discarded (Ended Break w k) next = refl
same_discarded (Ended Continue w k) next = refl
same_discarded (Stopped w) next = refl

discards : (calls : Calls) (here : Here) (at : Option Node) (next : Act) (w : Store) (n : ℕ) → kind_of at ≡ Discard
    → (also (mean_node calls here at) (λ _. next)).run w n ≡ (also (part calls here at 0) (λ _. next)).run w n
discards calls here at next w n e =
    ap (λ o. then_on o (on_value (λ _. next))) (begins_by_kind calls here at w n ∙ ap (λ (q : Kind). (start_of calls here at q).run w n) e) ∙ same_discarded ((part calls here at 0).run w n) next

discard_weight : (at : Option Node) → kind_of at ≡ Discard → cost (and_child at 0) ≤ cost at
discard_weight at e = omega (arith, early_part at 0 (omega arith), begin_weigh at (is_there at e))
  where
    is_there : (at : Option Node) → kind_of at ≡ Discard → is_some at ≡ true
    is_there None e = cc e
    is_there (Some n) e = refl

-- the expression of a statement runs in its place
pub expression_awaits : {E : Type 0} (f : Where) (k j i : ℕ) (w : Store) (m : Meter) (r : Result Next E) → kind_of (spot_node f) ≡ Block → spot_node (numbered f j) ≡ and_child (spot_node f) k
    → kind_of (spot_node (numbered f j)) ≡ Discard → spot_node (numbered f i) ≡ and_child (spot_node (numbered f j)) 0 → IfOk r (λ n. AwaitsNode f k None (spot_node (numbered f i)) w m n)
    → IfOk r (λ n. Awaits f k None k w m n)
expression_awaits f k j i w m (Err x) b e d p h = h
expression_awaits f k j i w m (Ok n) b e d p h =
    let at : Option Node = and_child (spot_node f) k in
    let q : kind_of at ≡ Discard = rw e at d in
    let a : AwaitsNode f k None (and_child at 0) w m n = rw (p, e) at h in record {
      follows = rw b (discards (calls_at m.depth) (here_of f) at (stmts_from (calls_at m.depth) (here_of f) (spot_node f) (suc k)) w m.steps q ∙ (rw b at (a.follows)));
      levels = a.levels;
      lighter = no_heavier _ _ m n m (omega (arith, discard_weight at q)) a.lighter;
    }

-- ---- declared names

names_there : (ds : tree.Declarators) (k : ℕ) → k < length (parts_in (declarators_parts ds)) → is_some (pick (parts_in (declarators_parts ds)) k) ≡ true
names_there no_declarators k h = absurd (omega (arith, h))
names_there (then_declarator x no_expr ds) k h = names_there ds k h
names_there (then_declarator x (one_expr e) ds) zero h = refl
names_there (then_declarator x (one_expr e) ds) (suc k) h = names_there ds k (omega (arith, h))

-- a name without initialiser does nothing
names_next : (calls : Calls) (here : Here) (ds : tree.Declarators) (k : ℕ) (w : Store) (n : ℕ) → k < length (parts_in (declarators_parts ds))
    → (exec_declarators calls here (drop_declarators ds k)).run w n
    ≡ (also (mean_node calls here (pick (parts_in (declarators_parts ds)) k)) (λ _. exec_declarators calls here (drop_declarators ds (suc k)))).run w n
names_next calls here no_declarators k w n h = absurd (omega (arith, h))
names_next calls here (then_declarator x no_expr ds) zero w n h = names_next calls here ds zero w n h
names_next calls here (then_declarator x no_expr ds) (suc k) w n h = names_next calls here ds (suc k) w n h
names_next calls here (then_declarator x (one_expr e) ds) zero w n h = refl
names_next calls here (then_declarator x (one_expr e) ds) (suc k) w n h = names_next calls here ds k w n (omega (arith, h))

names_end : (calls : Calls) (here : Here) (ds : tree.Declarators) (k : ℕ) (w : Store) (n : ℕ) → length (parts_in (declarators_parts ds)) ≤ k → (exec_declarators calls here (drop_declarators ds k)).run w n ≡ (done).run w n
names_end calls here no_declarators zero w n h = refl
names_end calls here no_declarators (suc k) w n h = names_end calls here no_declarators k w n (omega arith)
names_end calls here (then_declarator x no_expr ds) zero w n h = names_end calls here ds zero w n h
names_end calls here (then_declarator x no_expr ds) (suc k) w n h = names_end calls here ds (suc k) w n h
names_end calls here (then_declarator x (one_expr e) ds) zero w n h = absurd (omega (arith, h))
names_end calls here (then_declarator x (one_expr e) ds) (suc k) w n h = names_end calls here ds k w n (omega (arith, h))

var_there : (at : Option Node) (ds : tree.Declarators) (k : ℕ) → at ≡ Some (stmt_node (var ds)) → k < part_count at → is_some (and_child at k) ≡ true
var_there at ds k s h = rw s (names_there ds k (rw s at h))

var_next : (calls : Calls) (here : Here) (at : Option Node) (ds : tree.Declarators) (k : ℕ) (w : Store) (n : ℕ) → at ≡ Some (stmt_node (var ds)) → k < part_count at
    → (declarators_from calls here at k).run w n ≡ (also (part calls here at k) (λ _. declarators_from calls here at (suc k))).run w n
var_next calls here at ds k w n s h = rw s (names_next calls here ds k w n (rw s at h))

var_end : (calls : Calls) (here : Here) (at : Option Node) (ds : tree.Declarators) (k : ℕ) (w : Store) (n : ℕ) → at ≡ Some (stmt_node (var ds)) → part_count at ≤ k
    → (declarators_from calls here at k).run w n ≡ (done).run w n
var_end calls here at ds k w n s h = rw s (names_end calls here ds k w n (rw s at h))

pub names_run : {E : Type 0} (f : Where) (k : ℕ) (w : Store) (m : Meter) (r : Result Next E) → kind_of (spot_node f) ≡ Var → k < part_count (spot_node f) → IfOk r (λ n. Awaits f k None k w m n)
    → IfOk r (λ n. Leads (declarators_from (calls_at m.depth) (here_of f) (spot_node f) k) (weigh (spot_node f) k) w m n w m)
names_run f k w m (Err x) e h g = g
names_run f k w m (Ok n) e h g = let a : Awaits f k None k w m n = g in let v = var_shape (spot_node f) e in record {
  follows = var_next (calls_at m.depth) (here_of f) (spot_node f) v.0 k w m.steps v.1 h ∙ (rw e at (a.follows));
  levels = a.levels;
  lighter = no_heavier _ _ m n m (there_part (spot_node f) k (var_there (spot_node f) v.0 k v.1 h)) (rw e at (a.lighter));
}

pub names_done : (f : Where) (k : ℕ) (w : Store) (m : Meter) → kind_of (spot_node f) ≡ Var → part_count (spot_node f) ≤ k
    → Leads (declarators_from (calls_at m.depth) (here_of f) (spot_node f) k) (weigh (spot_node f) k) w m (Give nothing) w m
names_done f k w m e h = let v = var_shape (spot_node f) e in record {
  follows = var_end (calls_at m.depth) (here_of f) (spot_node f) v.0 k w m.steps v.1 h;
  levels = refl;
  lighter = le_refl m.steps;
}
