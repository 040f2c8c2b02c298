-- Names that are assigned or declared.
use Rattle.std.proofs.Common.{◌≡◌, refl, ap, ◌∙◌, ℕ, suc, ◌+◌, ◌≤◌, List, Option, Some, None, Result, IfOk, arith}
use Rattle.code_table.specs.Kind.{kind_of}
use Rattle.code_table.specs.Node.{Node, and_child}
use Rattle.code_table.specs.declared.kind.Kind.{Kind}
use Rattle.code_table.specs.declared.kind.Kind.TheVariants.{AssignName, Declarator, Nothing}
use Rattle.js_core.specs.declared.operators.BinaryOp.{BinaryOp}
use Rattle.js_values.specs.declared.ids.EnvId.{EnvId}
use Rattle.js_values.specs.declared.value.Value.{Value}
use Rattle.page_meaning.specs.declared.reference.Reference.{Reference}
use Rattle.page_meaning.specs.declared.signal.Signal.TheVariants.{Value as Val}
use Rattle.page_meaning.specs.Act.{Act, Calls, also, bind, on_value, then_on, give}
use Rattle.page_meaning.specs.Calls.{calls_at}
use Rattle.page_meaning.specs.Names.{Here, read, resolve}
use Rattle.page_meaning.specs.Store.{Store}
use Rattle.page_frames.specs.declared.frame.Begin.TheVariants as begin
use Rattle.page_frames.specs.declared.frame.Frame.TheVariants as frame
use Rattle.page_frames.specs.declared.meter.Meter.{Meter}
use Rattle.page_frames.specs.declared.meter.Next.{Next}
use Rattle.page_frames.specs.declared.meter.Next.TheVariants.{Then}
use Rattle.page_frames.specs.Parts.{mean_node, part}
use Rattle.page_frames.specs.Rest.{rest_name}
use Rattle.page_frames.specs.Start.{start_of}
use Rattle.page_frames.specs.Step.{Leads, Opens}
use Rattle.page_frames.specs.Weight.{cost, weigh}
use Rattle.page_frames.specs.Where.{Where, here_of, numbered, spot_node}
use Rattle.page_frames.proofs.Callers.{begin_weigh, begins_by_kind, early_part}
use Rattle.page_state.specs.Does.{Does}
use Rattle.step_assign.specs.Waiting.{ReadsThenRuns, RunsRight}
use Rattle.step_parts.proofs.Callers.{also_leads, leads_as, there_is}

-- the right side is paid
right_paid : (at : Option Node) → suc (weigh at 1) + suc (cost (and_child at 0)) ≤ weigh at 0
right_paid at = early_part at 0 (omega arith)

pub right_then : (f : Where) (ref : Reference) (old : Option Value) (j : ℕ) (w : Store) (m : Meter) → spot_node (numbered f j) ≡ and_child (spot_node f) 0
    → RunsRight f ref old w m (Then (frame.Name (record { spot = f; reference = ref; old = old })) (begin.Node (numbered f j))) w
right_then f ref old j w m e = record { follows = rw (← e) refl; levels = refl; lighter = rw e (omega (arith, right_paid (spot_node f))) }

-- a right side that is read at once
pub right_put : {E : Type 0} (f : Where) (ref : Reference) (old : Option Value) (j : ℕ) (v : Value) (s t : Store) (m : Meter) (r : Result Next E) → spot_node (numbered f j) ≡ and_child (spot_node f) 0
    → Does (λ calls. mean_node calls (here_of f) (spot_node (numbered f j))) s (Val v) s
    → IfOk r (λ n. Leads (rest_name (calls_at m.depth) (kind_of (spot_node f)) ref old v) (weigh (spot_node f) 0) s m n t m) → IfOk r (λ n. RunsRight f ref old s m n t)
right_put f ref old j v s t m r e d h =
    also_leads (λ calls. part calls (here_of f) (spot_node f) 0) (rest_name (calls_at m.depth) (kind_of (spot_node f)) ref old) v (weigh (spot_node f) 0) s s t m m r (rw e at d) h

-- a name that is resolved begins
opens_resolved : {E : Type 0} (f : Where) (q : Kind) (x : List ℕ) (k : Reference → Act) (ref : Reference) (s t : Store) (m : Meter) (r : Result Next E) → kind_of (spot_node f) ≡ q
    → (q ≡ Nothing → ⊥) → start_of (calls_at m.depth) (here_of f) (spot_node f) q ≡ bind (resolve (here_of f) x) k → Does (λ _. resolve (here_of f) x) s ref s
    → IfOk r (λ n. Leads (k ref) (weigh (spot_node f) 0) s m n t m) → IfOk r (λ n. Opens f s m n t m)
opens_resolved f q x k ref s t m r e z b d h =
    let here : Here = here_of f in
    let calls : Calls = calls_at m.depth in
    let paid : 2 + weigh (spot_node f) 0 ≤ cost (spot_node f) = begin_weigh (spot_node f) (there_is (spot_node f) (rw e z)) in
    leads_as (mean_node calls here (spot_node f)) (k ref) (weigh (spot_node f) 0) (cost (spot_node f)) s t m m r
    (begins_by_kind calls here (spot_node f) s m.steps ∙ ap (λ (y : Kind). (start_of calls here (spot_node f) y).run s m.steps) e ∙ ap (λ (a : Act). a.run s m.steps) b
    ∙ ap (λ o. then_on o k) (d.is calls m.steps)) (omega (arith, paid)) h

-- an assignment, and one with an operator
pub assigned_opens : {E : Type 0} (f : Where) (x : List ℕ) (ref : Reference) (s t : Store) (m : Meter) (r : Result Next E) (env : Option EnvId) → kind_of (spot_node f) ≡ AssignName None x
    → env ≡ f.env → ((here : Here) → here.env ≡ env → Does (λ _. resolve here x) s ref s)
    → IfOk r (λ n. RunsRight f ref None s m n t) → IfOk r (λ n. Opens f s m n t m)
assigned_opens f x ref s t m r env e i d h =
    opens_resolved f (AssignName None x) x (λ y. also (part (calls_at m.depth) (here_of f) (spot_node f) 0) (rest_name (calls_at m.depth) (AssignName None x) y None)) ref s t m r e
    (λ z. cc) refl (d (here_of f) (rw i refl)) (rw e at h)

pub operated_opens : {E : Type 0} (f : Where) (op : BinaryOp) (x : List ℕ) (ref : Reference) (s t : Store) (m : Meter) (r : Result Next E) (env : Option EnvId)
    → kind_of (spot_node f) ≡ AssignName (Some op) x → env ≡ f.env → ((here : Here) → here.env ≡ env → Does (λ _. resolve here x) s ref s)
    → IfOk r (λ n. ReadsThenRuns f op x ref s m n t)
    → IfOk r (λ n. Opens f s m n t m)
operated_opens f op x ref s t m r env e i d h =
    opens_resolved f (AssignName (Some op) x) x
    (λ y. also (read x y) (λ old. also (part (calls_at m.depth) (here_of f) (spot_node f) 0) (rest_name (calls_at m.depth) (AssignName (Some op) x) y (Some old)))) ref s t m r e
    (λ z. cc) refl (d (here_of f) (rw i refl)) h

-- a declared name
pub declared_opens : {E : Type 0} (f : Where) (x : List ℕ) (ref : Reference) (s t : Store) (m : Meter) (r : Result Next E) (env : Option EnvId) → kind_of (spot_node f) ≡ Declarator x
    → env ≡ f.env → ((here : Here) → here.env ≡ env → Does (λ _. resolve here x) s ref s)
    → IfOk r (λ n. RunsRight f ref None s m n t) → IfOk r (λ n. Opens f s m n t m)
declared_opens f x ref s t m r env e i d h =
    opens_resolved f (Declarator x) x (λ y. also (part (calls_at m.depth) (here_of f) (spot_node f) 0) (rest_name (calls_at m.depth) (Declarator x) y None)) ref s t m r e
    (λ z. cc) refl (d (here_of f) (rw i refl)) (rw e at h)

-- the old value was read, and the right side runs
pub read_waits : {E : Type 0} (f : Where) (op : BinaryOp) (x : List ℕ) (ref : Reference) (old : Value) (s t u : Store) (m : Meter) (r : Result Next E)
    → kind_of (spot_node f) ≡ AssignName (Some op) x → Does (λ _. read x ref) s (Val old) t
    → IfOk r (λ n. RunsRight f ref (Some old) t m n u)
    → IfOk r (λ n. ReadsThenRuns f op x ref s m n u)
read_waits f op x ref old s t u m r e d h =
    also_leads (λ _. read x ref) (λ v. also (part (calls_at m.depth) (here_of f) (spot_node f) 0) (rest_name (calls_at m.depth) (AssignName (Some op) x) ref (Some v))) old
    (weigh (spot_node f) 0) s t u m m r d (rw e at h)

-- a name of another kind gives what its right side gives
pub other_name : (calls : Calls) (q : Kind) (ref : Reference) (old : Option Value) (v : Value) → ((op : Option BinaryOp) (x : List ℕ) → q ≡ AssignName op x → ⊥)
    → ((x : List ℕ) → q ≡ Declarator x → ⊥) → rest_name calls q ref old v ≡ give v
other_name calls (AssignName op x) ref old v a b = absurd (a op x refl)
other_name calls (Declarator x) ref old v a b = absurd (b x refl)
other_name calls q ref old v a b = refl

pub other_gives : (q : Kind) (f : Where) (ref : Reference) (old : Option Value) (v : Value) (s : Store) → q ≡ kind_of (spot_node f) → ((op : Option BinaryOp) (x : List ℕ) → q ≡ AssignName op x → ⊥)
    → ((x : List ℕ) → q ≡ Declarator x → ⊥) → Does (λ calls. rest_name calls (kind_of (spot_node f)) ref old v) s (Val v) s
other_gives q f ref old v s e a b = rw (← e) (record { is = λ calls n. ap (λ (y : Act). y.run s n) (other_name calls q ref old v a b) })
