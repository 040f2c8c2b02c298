-- Targets of a for-in.
use Rattle.std.proofs.Common.{◌≡◌, refl, ap, ◌∙◌, ℕ, suc, ◌+◌, ◌≤◌, List, Option, Some, None, Result, IfOk, arith, le_refl}
use Rattle.code_table.specs.Kind.{kind_of}
use Rattle.code_table.specs.Node.{Node, and_child, expr_node, stmt_node, block_node, declarator_node}
use Rattle.code_table.specs.declared.kind.Kind.{Kind}
use Rattle.code_table.specs.declared.kind.Kind.TheVariants.{Name, Member, Index, Nothing}
use Rattle.js_core.specs.declared.operators.UnaryOp.TheVariants.{Delete, Typeof}
use Rattle.js_core.specs.Tree as tree
use Rattle.js_core.specs.Tree.{name, member, index, call, unary, update, assign, var, function, expr, empty, block, if_else, do_while, while, for, for_in, continue, break, return, throw, try, switch}
use Rattle.js_values.specs.declared.value.Value.{Value}
use Rattle.page_meaning.specs.declared.signal.Signal.TheVariants.{Value as Val}
use Rattle.page_meaning.specs.Act.{Act, Calls, also, give, on_value, then_on}
use Rattle.page_meaning.specs.Calls.{calls_at}
use Rattle.page_meaning.specs.Expressions.{assign_to}
use Rattle.page_meaning.specs.Names.{Here, assign_name}
use Rattle.page_meaning.specs.Store.{Store}
use Rattle.page_frames.specs.declared.frame.Begin.TheVariants as begin
use Rattle.page_frames.specs.declared.frame.Frame.TheVariants as frame
use Rattle.page_frames.specs.declared.meter.Meter.{Meter}
use Rattle.page_frames.specs.declared.meter.Next.{Next}
use Rattle.page_frames.specs.declared.meter.Next.TheVariants.{Give, Go, Then}
use Rattle.page_frames.specs.Parts.{mean_node, mean_target, part}
use Rattle.page_frames.specs.Rest.{rest_target}
use Rattle.page_frames.specs.RestProperties.{put_target, rest_target_member}
use Rattle.page_frames.specs.Step.{Begins, Leads}
use Rattle.page_frames.specs.Weight.{cost, weigh, weigh_target}
use Rattle.page_frames.specs.Where.{Where, here_of, numbered, spot_node}
use Rattle.page_frames.proofs.Callers.{begin_weigh, early_part}
use Rattle.page_state.specs.Does.{Does}
use Rattle.step_assign.specs.Targets.{start_target}
use Rattle.step_assign.specs.Waiting.{RunsTarget, TargetGoes}
use Rattle.step_parts.proofs.Callers.{leads_as, there_is}

by_expr : (calls : Calls) (here : Here) (e : tree.Expr) (v : Value) → assign_to calls here e v ≡ start_target calls here (Some (expr_node e)) (kind_of (Some (expr_node e))) v
by_expr calls here (call (member e x) es) v = refl
by_expr calls here (call (index a b) es) v = refl
by_expr calls here (call f es) v = refl
by_expr calls here (unary Delete (member e x)) v = refl
by_expr calls here (unary Delete (index a b)) v = refl
by_expr calls here (unary Delete e) v = refl
by_expr calls here (unary Typeof (name x)) v = refl
by_expr calls here (unary Typeof e) v = refl
by_expr calls here (unary op e) v = refl
by_expr calls here (update up prefix (name x)) v = refl
by_expr calls here (update up prefix (member e x)) v = refl
by_expr calls here (update up prefix (index a b)) v = refl
by_expr calls here (update up prefix e) v = refl
by_expr calls here (assign op (name x) b) v = refl
by_expr calls here (assign op (member e x) b) v = refl
by_expr calls here (assign op (index a b) c) v = refl
by_expr calls here (assign op a b) v = refl
by_expr calls here e v = refl

by_stmt : (calls : Calls) (here : Here) (s : tree.Stmt) (v : Value) → give v ≡ start_target calls here (Some (stmt_node s)) (kind_of (Some (stmt_node s))) v
by_stmt calls here (var ds) v = refl
by_stmt calls here (function c) v = refl
by_stmt calls here (expr e) v = refl
by_stmt calls here empty v = refl
by_stmt calls here (block ss) v = refl
by_stmt calls here (if_else e a b) v = refl
by_stmt calls here (do_while a e) v = refl
by_stmt calls here (while e a) v = refl
by_stmt calls here (for i t l a) v = refl
by_stmt calls here (for_in declared t e a) v = refl
by_stmt calls here continue v = refl
by_stmt calls here break v = refl
by_stmt calls here (return e) v = refl
by_stmt calls here (throw e) v = refl
by_stmt calls here (try a c l) v = refl
by_stmt calls here (switch e cs) v = refl

-- the kind of a node says how it takes a value
pub targets_by_kind : (calls : Calls) (here : Here) (at : Option Node) (v : Value) → mean_target calls here at v ≡ start_target calls here at (kind_of at) v
targets_by_kind calls here None v = refl
targets_by_kind calls here (Some (expr_node e)) v = by_expr calls here e v
targets_by_kind calls here (Some (stmt_node s)) v = by_stmt calls here s v
targets_by_kind calls here (Some (block_node ss)) v = refl
targets_by_kind calls here (Some (declarator_node x e)) v = refl

abbrev target_part : Where → Value → Option Value → ℕ → ℕ → Act
target_part f v base k d = also (part (calls_at d) (here_of f) (spot_node f) k) (rest_target (calls_at d) (here_of f) (spot_node f) (kind_of (spot_node f)) v base)

abbrev target_cost : Where → Option Value → ℕ → ℕ
target_cost f base k = suc (weigh_target (spot_node f) base) + suc (cost (and_child (spot_node f) k))

-- a part of a target runs as a frame, or is read at once
pub target_then : (f : Where) (v : Value) (base : Option Value) (k j : ℕ) (w : Store) (m : Meter) → spot_node (numbered f j) ≡ and_child (spot_node f) k
    → RunsTarget f v base k w m (Then (frame.Target (record { spot = f; value = v; base = base })) (begin.Node (numbered f j)))
target_then f v base k j w m e = record { follows = rw (← e) refl; levels = refl; lighter = rw (← e) (omega arith) }

pub target_on : (f : Where) (v : Value) (base : Option Value) (k j : ℕ) (w : Store) (m : Meter) (u : Value) → spot_node (numbered f j) ≡ and_child (spot_node f) k
    → Does (λ calls. mean_node calls (here_of f) (spot_node (numbered f j))) w (Val u) w
    → RunsTarget f v base k w m (Go (frame.Target (record { spot = f; value = v; base = base })) (Val u))
target_on f v base k j w m u e p = record {
  follows = ap (λ o. then_on o (on_value (rest_target (calls_at m.depth) (here_of f) (spot_node f) (kind_of (spot_node f)) v base))) (rw e at (p.is (calls_at m.depth) m.steps));
  levels = refl;
  lighter = omega arith;
}

starts : (f : Where) (q : Kind) (v : Value) (s : Store) (m : Meter) → kind_of (spot_node f) ≡ q
    → (mean_target (calls_at m.depth) (here_of f) (spot_node f) v).run s m.steps ≡ (start_target (calls_at m.depth) (here_of f) (spot_node f) q v).run s m.steps
starts f q v s m e =
    ap (λ (a : Act). a.run s m.steps) (targets_by_kind (calls_at m.depth) (here_of f) (spot_node f) v)
    ∙ ap (λ (y : Kind). (start_target (calls_at m.depth) (here_of f) (spot_node f) y v).run s m.steps) e

-- a name takes the value at once
pub name_target : {E : Type 0} (f : Where) (x : List ℕ) (v : Value) (s t : Store) (m : Meter) (r : Result Next E) → kind_of (spot_node f) ≡ Name x
    → IfOk r (λ n. Leads (assign_name (here_of f) x v) (cost (spot_node f)) s m n t m) → IfOk r (λ n. Begins (begin.Target f v) s m n t m)
name_target f x v s t m r e h =
    leads_as (mean_target (calls_at m.depth) (here_of f) (spot_node f) v) (assign_name (here_of f) x v) (cost (spot_node f)) (cost (spot_node f)) s t m m r
    (starts f (Name x) v s m e) (le_refl (cost (spot_node f))) h

base_paid : (at : Option Node) → (kind_of at ≡ Nothing → ⊥) → suc (weigh at 1) + suc (cost (and_child at 0)) ≤ cost at
base_paid at h = omega (arith, begin_weigh at (there_is at h), early_part at 0 (omega arith))

-- a property waits for its base
pub base_waits : {E : Type 0} (f : Where) (q : Kind) (v : Value) (s : Store) (m : Meter) (r : Result Next E) → kind_of (spot_node f) ≡ q → (q ≡ Nothing → ⊥)
    → start_target (calls_at m.depth) (here_of f) (spot_node f) q v ≡ also (part (calls_at m.depth) (here_of f) (spot_node f) 0) (rest_target (calls_at m.depth) (here_of f) (spot_node f) q v None)
    → IfOk r (λ n. RunsTarget f v None 0 s m n) → IfOk r (λ n. Begins (begin.Target f v) s m n s m)
base_waits f q v s m r e z b h =
    leads_as (mean_target (calls_at m.depth) (here_of f) (spot_node f) v) (target_part f v None 0 m.depth) (target_cost f None 0) (cost (spot_node f)) s s m m r
    (starts f q v s m e ∙ ap (λ (a : Act). a.run s m.steps) b ∙ rw e refl) (base_paid (spot_node f) (rw e z)) h

other_start : (calls : Calls) (here : Here) (at : Option Node) (q : Kind) (v : Value) → ((x : List ℕ) → q ≡ Name x → ⊥) → ((x : List ℕ) → q ≡ Member x → ⊥) → (q ≡ Index → ⊥)
    → start_target calls here at q v ≡ give v
other_start calls here at (Name x) v a b c = absurd (a x refl)
other_start calls here at (Member x) v a b c = absurd (b x refl)
other_start calls here at Index v a b c = absurd (c refl)
other_start calls here at q v a b c = refl

-- what is no target gives the value back
pub no_target : (f : Where) (q : Kind) (v : Value) (s : Store) (m : Meter) → kind_of (spot_node f) ≡ q → ((x : List ℕ) → q ≡ Name x → ⊥) → ((x : List ℕ) → q ≡ Member x → ⊥) → (q ≡ Index → ⊥)
    → Begins (begin.Target f v) s m (Give (Val v)) s m
no_target f q v s m e a b c = record {
  follows = starts f q v s m e ∙ ap (λ (y : Act). y.run s m.steps) (other_start (calls_at m.depth) (here_of f) (spot_node f) q v a b c);
  levels = refl;
  lighter = le_refl m.steps;
}

other_rest : (calls : Calls) (here : Here) (at : Option Node) (q : Kind) (v : Value) (base : Option Value) (u : Value) → ((x : List ℕ) → q ≡ Member x → ⊥) → (q ≡ Index → ⊥)
    → rest_target calls here at q v base u ≡ give u
other_rest calls here at (Member x) v base u b c = absurd (b x refl)
other_rest calls here at Index v base u b c = absurd (c refl)
other_rest calls here at q v base u b c = refl

pub no_part : (f : Where) (q : Kind) (v : Value) (base : Option Value) (u : Value) (s : Store) (m : Meter) → kind_of (spot_node f) ≡ q → ((x : List ℕ) → q ≡ Member x → ⊥) → (q ≡ Index → ⊥)
    → TargetGoes f v base u s m (Give (Val u)) s
no_part f q v base u s m e b c = record {
  follows = rw e (ap (λ (y : Act). y.run s m.steps) (other_rest (calls_at m.depth) (here_of f) (spot_node f) q v base u b c));
  levels = refl;
  lighter = le_refl m.steps;
}

-- a property waits for its key
pub key_waits : {E : Type 0} (f : Where) (v base : Value) (s : Store) (m : Meter) (r : Result Next E) → kind_of (spot_node f) ≡ Index
    → IfOk r (λ n. RunsTarget f v (Some base) 1 s m n)
    → IfOk r (λ n. TargetGoes f v None base s m n s)
key_waits f v base s m r e h =
    leads_as (rest_target (calls_at m.depth) (here_of f) (spot_node f) (kind_of (spot_node f)) v None base) (target_part f v (Some base) 1 m.depth) (target_cost f (Some base) 1)
    (weigh (spot_node f) 1) s s m m r (rw e refl) (early_part (spot_node f) 1 (omega arith)) h

-- a property by its name, and one by its key
pub member_target : {E : Type 0} (f : Where) (x : List ℕ) (v : Value) (base : Option Value) (u : Value) (s t : Store) (m : Meter) (r : Result Next E) → kind_of (spot_node f) ≡ Member x
    → IfOk r (λ n. Leads (rest_target_member (calls_at m.depth) x v u) (weigh_target (spot_node f) base) s m n t m)
    → IfOk r (λ n. TargetGoes f v base u s m n t)
member_target f x v base u s t m r e h = rw e h

pub index_target : {E : Type 0} (f : Where) (v base key : Value) (s t : Store) (m : Meter) (r : Result Next E) → kind_of (spot_node f) ≡ Index
    → IfOk r (λ n. Leads (put_target (calls_at m.depth) v base key) (weigh (spot_node f) 2) s m n t m)
    → IfOk r (λ n. TargetGoes f v (Some base) key s m n t)
index_target f v base key s t m r e h = rw e h
