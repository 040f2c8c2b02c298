-- The arguments of a call, from the left.
use Rattle.std.proofs.Common.{◌≡◌, refl, sym, ap, ◌∙◌, ℕ, zero, suc, ◌+◌, ◌≤◌, true, false, List, [], ◌∷◌, ◌++◌, length, Option, Some, Result, Ok, Err, IfOk, is_some, arith}
use Rattle.code_table.specs.Kind.{call_kind, kind_of}
use Rattle.code_table.specs.Node.{Node, expr_node, exprs_parts, parts_in, pick, and_child}
use Rattle.js_core.specs.Tree as tree
use Rattle.js_core.specs.Tree.{member, index, call, construct, no_exprs, then_expr}
use Rattle.js_values.specs.declared.value.Value.{Value}
use Rattle.page_meaning.specs.declared.signal.Signal.{Signal}
use Rattle.page_meaning.specs.declared.signal.Signal.TheVariants.{Value as Val, Thrown, Return, Break, Continue}
use Rattle.page_meaning.specs.Act.{Act, Calls, Outcome, Ended, Stopped, also, on_value, then_on}
use Rattle.page_meaning.specs.Calls.{calls_at}
use Rattle.page_meaning.specs.Expressions.{eval_args}
use Rattle.page_meaning.specs.Names.{Here}
use Rattle.page_meaning.specs.Store.{Store}
use Rattle.page_frames.specs.declared.frame.Begin.TheVariants as begin
use Rattle.page_frames.specs.declared.frame.CallFrame.{CallFrame}
use Rattle.page_frames.specs.declared.meter.Meter.{Meter}
use Rattle.page_frames.specs.declared.meter.Next.{Next}
use Rattle.page_frames.specs.declared.meter.Next.TheVariants.{Enter}
use Rattle.page_frames.specs.Parts.{drop_exprs, mean_node, part}
use Rattle.page_frames.specs.Rest.{rest_value}
use Rattle.page_frames.specs.RestCalls.{args_from, mean_call, one_more_arg}
use Rattle.page_frames.specs.Step.{Goes, Leads}
use Rattle.page_frames.specs.Weight.{cost, weigh, weigh_value}
use Rattle.page_frames.specs.Where.{Where, here_of, spot_node}
use Rattle.page_frames.proofs.Callers.{no_heavier, there_part}
use Rattle.step_parts.specs.Families.{family_of}
use Rattle.step_parts.specs.declared.family.Family.TheVariants.{Call}
use Rattle.step_parts.proofs.Callers.{IsCall, called, built, call_shape}
use Rattle.step_call.specs.Arguments.{arg_part, is_new}

-- what comes after a value is the same by its runs
same_values : (o : Outcome Signal) (f g : Value → Act) → ((v : Value) (w : Store) (n : ℕ) → (f v).run w n ≡ (g v).run w n) → then_on o (on_value f) ≡ then_on o (on_value g)
same_values (Ended (Val v) w n) f g e = e v w n
same_values (Ended (Thrown v) w n) f g e = refl
same_values (Ended (Return v) w n) f g e = refl
same_values (Ended Break w n) f g e = refl
same_values (Ended Continue w n) f g e = refl
same_values (Stopped w) f g e = refl

length_pushed : (args : List Value) (v : Value) → length (args ++ v ∷ []) ≡ suc (length args)
length_pushed [] v = refl
length_pushed (a ∷ args) v = ap suc (length_pushed args v)

-- ---- expressions in turn

-- one more expression is evaluated
eval_there : (calls : Calls) (here : Here) (es : tree.Exprs) (k : ℕ) (got : List Value) (f : List Value → Act) → true ≡ is_some (pick (parts_in (exprs_parts es)) k)
    → eval_args calls here (drop_exprs es k) got f ≡ also (mean_node calls here (pick (parts_in (exprs_parts es)) k)) (λ v. eval_args calls here (drop_exprs es (suc k)) (got ++ v ∷ []) f)
eval_there calls here no_exprs k got f h = cc h
eval_there calls here (then_expr e es) zero got f h = refl
eval_there calls here (then_expr e es) (suc k) got f h = eval_there calls here es k got f h

none_dropped : (k : ℕ) → drop_exprs no_exprs k ≡ no_exprs
none_dropped zero = refl
none_dropped (suc k) = none_dropped k

-- and after the last, what is done with them
eval_none : (calls : Calls) (here : Here) (es : tree.Exprs) (k : ℕ) (got : List Value) (f : List Value → Act) → false ≡ is_some (pick (parts_in (exprs_parts es)) k)
    → eval_args calls here (drop_exprs es k) got f ≡ f got
eval_none calls here no_exprs k got f h = ap (λ es. eval_args calls here es got f) (none_dropped k)
eval_none calls here (then_expr e es) zero got f h = cc h
eval_none calls here (then_expr e es) (suc k) got f h = eval_none calls here es k got f h

-- ---- the arguments of a call

abbrev args_of : Option Node → tree.Exprs
args_of (Some (expr_node (call f es))) = es
args_of (Some (expr_node (construct f es))) = es
args_of at = no_exprs

abbrev finish : Calls → Option Node → Value → Value → List Value → Act
finish calls (Some (expr_node (construct f es))) callee this args = calls.construct callee args
finish calls at callee this args = calls.call callee this args

args_are : (calls : Calls) (here : Here) (at : Option Node) (t c : Value) (args : List Value) → IsCall at
    → args_from calls here at (t ∷ c ∷ args) ≡ eval_args calls here (drop_exprs (args_of at) (length args)) args (finish calls at c t)
args_are calls here at t c args (called f es) = refl
args_are calls here at t c args (built f es) = refl

called_part : (f : tree.Expr) (es : tree.Exprs) (t c : Value) (args : List Value)
    → and_child (Some (expr_node (call f es))) (arg_part (call_kind f) (t ∷ c ∷ args)) ≡ pick (parts_in (exprs_parts es)) (length args)
called_part (member e x) es t c args = refl
called_part (index a b) es t c args = refl
called_part f es t c args = refl

-- the part that is the next argument
part_is : (at : Option Node) (t c : Value) (args : List Value) → IsCall at → and_child at (arg_part (kind_of at) (t ∷ c ∷ args)) ≡ pick (parts_in (exprs_parts (args_of at))) (length args)
part_is at t c args (called f es) = called_part f es t c args
part_is at t c args (built f es) = refl

called_more : (calls : Calls) (here : Here) (f : tree.Expr) (es : tree.Exprs) (turn : ℕ) (t c : Value) (args : List Value) (v : Value)
    → rest_value calls here (Some (expr_node (call f es))) (call_kind f) turn (t ∷ c ∷ args) v ≡ one_more_arg calls here (Some (expr_node (call f es))) (t ∷ c ∷ args) v
called_more calls here (member e x) es turn t c args v = refl
called_more calls here (index a b) es turn t c args v = refl
called_more calls here f es turn t c args v = refl

-- a value is one more argument
more_is : (calls : Calls) (here : Here) (at : Option Node) (turn : ℕ) (t c : Value) (args : List Value) (v : Value) → IsCall at
    → rest_value calls here at (kind_of at) turn (t ∷ c ∷ args) v ≡ one_more_arg calls here at (t ∷ c ∷ args) v
more_is calls here at turn t c args v (called f es) = called_more calls here f es turn t c args v
more_is calls here at turn t c args v (built f es) = refl

called_weight : (at : Option Node) (f : tree.Expr) (turn : ℕ) (t c : Value) (args : List Value) → weigh_value at (call_kind f) turn (t ∷ c ∷ args) ≡ weigh at (suc (arg_part (call_kind f) (t ∷ c ∷ args)))
called_weight at (member e x) turn t c args = refl
called_weight at (index a b) turn t c args = refl
called_weight at f turn t c args = refl

-- what waits for an argument may yet run the later ones
arg_weight : (at : Option Node) (turn : ℕ) (t c : Value) (args : List Value) → IsCall at → weigh_value at (kind_of at) turn (t ∷ c ∷ args) ≡ weigh at (suc (arg_part (kind_of at) (t ∷ c ∷ args)))
arg_weight at turn t c args (called f es) = called_weight (Some (expr_node (call f es))) f turn t c args
arg_weight at turn t c args (built f es) = refl

called_pushed : (at : Option Node) (f : tree.Expr) (turn : ℕ) (t : Value) (got : List Value) (v : Value) → weigh at (arg_part (call_kind f) ((t ∷ got) ++ v ∷ [])) ≡ weigh_value at (call_kind f) turn (t ∷ got)
called_pushed at (member e x) turn t got v = ap (weigh at) (length_pushed got v)
called_pushed at (index a b) turn t got v = ap (λ k. weigh at (suc k)) (length_pushed got v)
called_pushed at f turn t got v = ap (weigh at) (length_pushed got v)

pushed_weight : (at : Option Node) (turn : ℕ) (t : Value) (got : List Value) (v : Value) → IsCall at → weigh at (arg_part (kind_of at) ((t ∷ got) ++ v ∷ [])) ≡ weigh_value at (kind_of at) turn (t ∷ got)
pushed_weight at turn t got v (called f es) = called_pushed (Some (expr_node (call f es))) f turn t got v
pushed_weight at turn t got v (built f es) = ap (weigh (Some (expr_node (construct f es)))) (length_pushed got v)

called_begins : (calls : Calls) (f : tree.Expr) (t c : Value) (args : List Value) → calls.call c t args ≡ mean_call calls (is_new (call_kind f)) c t args
called_begins calls (member e x) t c args = refl
called_begins calls (index a b) t c args = refl
called_begins calls f t c args = refl

finish_is : (calls : Calls) (at : Option Node) (t c : Value) (args : List Value) → IsCall at → finish calls at c t args ≡ mean_call calls (is_new (kind_of at)) c t args
finish_is calls at t c args (called f es) = called_begins calls f t c args
finish_is calls at t c args (built f es) = refl

-- with one more argument
grown : (calls : Calls) (here : Here) (at : Option Node) (turn : ℕ) (t c : Value) (args : List Value) (v : Value) → IsCall at
    → rest_value calls here at (kind_of at) turn (t ∷ c ∷ args) v ≡ eval_args calls here (drop_exprs (args_of at) (suc (length args))) (args ++ v ∷ []) (finish calls at c t)
grown calls here at turn t c args v i =
    more_is calls here at turn t c args v i ∙ args_are calls here at t c (args ++ v ∷ []) i
    ∙ ap (λ k. eval_args calls here (drop_exprs (args_of at) k) (args ++ v ∷ []) (finish calls at c t)) (length_pushed args v)

-- the next argument is a part of its own
args_next : (calls : Calls) (here : Here) (at : Option Node) (turn : ℕ) (t c : Value) (args : List Value) (w : Store) (n : ℕ) → IsCall at → true ≡ is_some (and_child at (arg_part (kind_of at) (t ∷ c ∷ args)))
    → (args_from calls here at (t ∷ c ∷ args)).run w n ≡ (also (part calls here at (arg_part (kind_of at) (t ∷ c ∷ args))) (rest_value calls here at (kind_of at) turn (t ∷ c ∷ args))).run w n
args_next calls here at turn t c args w n i h =
    let next : Value → Act = λ v. eval_args calls here (drop_exprs (args_of at) (suc (length args))) (args ++ v ∷ []) (finish calls at c t) in
    let there : true ≡ is_some (pick (parts_in (exprs_parts (args_of at))) (length args)) = h ∙ ap is_some (part_is at t c args i) in
    ap (λ (a : Act). a.run w n) (args_are calls here at t c args i ∙ eval_there calls here (args_of at) (length args) args (finish calls at c t) there)
    ∙ ap (λ (o : Option Node). (also (mean_node calls here o) next).run w n) (sym (part_is at t c args i))
    ∙ same_values ((part calls here at (arg_part (kind_of at) (t ∷ c ∷ args))).run w n) next (rest_value calls here at (kind_of at) turn (t ∷ c ∷ args))
    (λ v u m. ap (λ (a : Act). a.run u m) (sym (grown calls here at turn t c args v i)))

-- the call begins after the last
args_done : (calls : Calls) (here : Here) (at : Option Node) (t c : Value) (args : List Value) → IsCall at → false ≡ is_some (and_child at (arg_part (kind_of at) (t ∷ c ∷ args)))
    → args_from calls here at (t ∷ c ∷ args) ≡ mean_call calls (is_new (kind_of at)) c t args
args_done calls here at t c args i h =
    args_are calls here at t c args i ∙ eval_none calls here (args_of at) (length args) args (finish calls at c t) (h ∙ ap is_some (part_is at t c args i))
    ∙ finish_is calls at t c args i

-- ---- steps

next_weight : (at : Option Node) (turn : ℕ) (t c : Value) (args : List Value) → IsCall at → true ≡ is_some (and_child at (arg_part (kind_of at) (t ∷ c ∷ args)))
    → suc (weigh_value at (kind_of at) turn (t ∷ c ∷ args)) + suc (cost (and_child at (arg_part (kind_of at) (t ∷ c ∷ args)))) ≤ weigh at (arg_part (kind_of at) (t ∷ c ∷ args))
next_weight at turn t c args i h = rw (arg_weight at turn t c args i) (there_part at (arg_part (kind_of at) (t ∷ c ∷ args)) (sym h))

next_runs : (f : Where) (turn : ℕ) (t c : Value) (args : List Value) (w : Store) (m : Meter) (n : Next) → IsCall (spot_node f) → true ≡ is_some (and_child (spot_node f) (arg_part (kind_of (spot_node f)) (t ∷ c ∷ args)))
    → Goes f (kind_of (spot_node f)) turn (t ∷ c ∷ args) (arg_part (kind_of (spot_node f)) (t ∷ c ∷ args)) w m n
    → Leads (args_from (calls_at m.depth) (here_of f) (spot_node f) (t ∷ c ∷ args)) (weigh (spot_node f) (arg_part (kind_of (spot_node f)) (t ∷ c ∷ args))) w m n w m
next_runs f turn t c args w m n i h a = record {
  follows = args_next (calls_at m.depth) (here_of f) (spot_node f) turn t c args w m.steps i h ∙ a.follows;
  levels = a.levels;
  lighter = no_heavier _ _ m n m (next_weight (spot_node f) turn t c args i h) a.lighter;
}

-- the next argument runs
pub arg_runs : {E : Type 0} (f : Where) (turn : ℕ) (got : List Value) (k : ℕ) (w : Store) (m : Meter) (r : Result Next E) → family_of (kind_of (spot_node f)) ≡ Call → 2 ≤ length got → k ≡ arg_part (kind_of (spot_node f)) got
    → true ≡ is_some (and_child (spot_node f) k) → IfOk r (λ n. Goes f (kind_of (spot_node f)) turn got k w m n)
    → IfOk r (λ n. Leads (args_from (calls_at m.depth) (here_of f) (spot_node f) got) (weigh (spot_node f) (arg_part (kind_of (spot_node f)) got)) w m n w m)
arg_runs f turn got k w m (Err x) q l e h g = g
arg_runs f turn [] k w m (Ok n) q l e h g = absurd (omega arith)
arg_runs f turn (t ∷ []) k w m (Ok n) q l e h g = absurd (omega arith)
arg_runs f turn (t ∷ c ∷ args) k w m (Ok n) q l e h g = next_runs f turn t c args w m n (call_shape (spot_node f) q) (rw e at h) (rw e at g)

-- there is none, and the call begins
pub call_begins : (f : Where) (got : List Value) (k : ℕ) (x : CallFrame) (w : Store) (m : Meter) → family_of (kind_of (spot_node f)) ≡ Call → k ≡ arg_part (kind_of (spot_node f)) got
    → false ≡ is_some (and_child (spot_node f) k) → x.construct ≡ is_new (kind_of (spot_node f)) → got ≡ x.this ∷ x.callee ∷ x.args
    → Leads (args_from (calls_at m.depth) (here_of f) (spot_node f) got) (weigh (spot_node f) (arg_part (kind_of (spot_node f)) got)) w m (Enter (begin.Call x)) w m
call_begins f got k x w m q e h n g =
    let absent : false ≡ is_some (and_child (spot_node f) (arg_part (kind_of (spot_node f)) (x.this ∷ x.callee ∷ x.args))) = rw (e, g) at h in rw g (record {
      follows = rw n (ap (λ (a : Act). a.run w m.steps) (args_done (calls_at m.depth) (here_of f) (spot_node f) x.this x.callee x.args (call_shape (spot_node f) q) absent));
      levels = refl;
      lighter = omega arith;
    })

-- one more argument, and then the next
pub arg_pushed : {E : Type 0} (f : Where) (turn : ℕ) (got all : List Value) (v : Value) (w : Store) (m : Meter) (r : Result Next E) → family_of (kind_of (spot_node f)) ≡ Call → 1 ≤ length got → all ≡ got ++ v ∷ []
    → IfOk r (λ n. Leads (args_from (calls_at m.depth) (here_of f) (spot_node f) all) (weigh (spot_node f) (arg_part (kind_of (spot_node f)) all)) w m n w m)
    → IfOk r (λ n. Leads (one_more_arg (calls_at m.depth) (here_of f) (spot_node f) got v) (weigh_value (spot_node f) (kind_of (spot_node f)) turn got) w m n w m)
arg_pushed f turn [] all v w m r q l e h = absurd (omega arith)
arg_pushed f turn (t ∷ got) all v w m r q l e h = rw (← pushed_weight (spot_node f) turn t got v (call_shape (spot_node f) q)) (rw e at h)
