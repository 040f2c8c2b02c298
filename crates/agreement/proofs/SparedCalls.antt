-- A function that is called at once: nothing refers to it, so that the naming does not have it (sections 11.2.3 and 13.2.1).
use Rattle.std.proofs.Common.{◌≡◌, inl, inr, refl, sym, ap, subst, ◌∙◌, ℕ, true, false, ◌||◌, List, [], ◌∷◌, ◌++◌, Option, None, length, arith}
use Rattle.std.specs.Prelude.{IsTrue}
use Rattle.std.proofs.lemmas.Bool.{and_parts}
use Rattle.js_core.specs.Tree as tree
use Rattle.js_core.specs.Tree.{call, code, func, no_exprs, then_expr}
use Rattle.js_values.specs.declared.ids.EnvId.{EnvId}
use Rattle.js_values.specs.declared.value.Value.{Value}
use Rattle.js_values.specs.declared.value.Value.TheVariants.{Object, Undefined}
use Rattle.object_heap.proofs.Callers.{kinds_steps}
use Rattle.object_heap.specs.Chain.{object_at}
use Rattle.object_heap.specs.Environment.{no_environment}
use Rattle.object_heap.specs.Heap.{Contents}
use Rattle.object_heap.specs.Laws.{IsSameKind, after_steps}
use Rattle.object_heap.specs.Object.{is_event}
use Rattle.object_heap.specs.declared.object.Class.{Class}
use Rattle.object_heap.specs.declared.object.Class.TheVariants as class
use Rattle.object_shapes.proofs.Callers as shapes
use Rattle.page_meaning.specs.Act.{Act, Calls, Ended, LeadsTo, Outcome, Stopped, on_value, then_on}
use Rattle.page_meaning.specs.Expressions.{eval, eval_args}
use Rattle.page_meaning.specs.Functions.{function_steps}
use Rattle.page_meaning.specs.Kept.{Keeps, keeps_all, keeps_on}
use Rattle.page_meaning.specs.Names.{Here}
use Rattle.page_meaning.specs.Store.{Store, with_heap}
use Rattle.page_meaning.proofs.Callers.{heap_of_steps}
use Rattle.page_meaning.specs.declared.signal.Signal.{Signal}
use Rattle.page_meaning.specs.declared.signal.Signal.TheVariants as signal
use Rattle.scope_analysis.specs.Names.{own_name}
use Rattle.instrumenter.specs.Around.{Around, callee, opened_fields}
use Rattle.instrumenter.specs.Fields.{expression_fields}
use Rattle.instrumenter.specs.Opening.{open_expr, open_function}
use Rattle.heap_relations.proofs.Callers as heap
use Rattle.heap_relations.proofs.Callers.{larger_more, larger_same}
use Rattle.heap_relations.specs.Naming.{Frame, Larger, Reaches, World}
use Rattle.agreement.proofs.Called.{calls_up}
use Rattle.agreement.proofs.Closures.{closed_code}
use Rattle.agreement.proofs.Constants.{function_made_class, kept_beside, objects_reach, ready_up}
use Rattle.agreement.proofs.EqualTrees.{trees_up}
use Rattle.agreement.proofs.Functions.{functions_sound}
use Rattle.agreement.proofs.Operands.{ContinuesAll}
use Rattle.agreement.proofs.Spared.{is_spared}
use Rattle.agreement.specs.Acts.{Agrees, StoreRel}
use Rattle.agreement.specs.Opened.{HereRel, PageCallsRel, callee_stands, code_stands, expr_stands, opened_code}

pub page_calls_up : {V W : World} {c d : Calls} → Larger V W → PageCallsRel V c d → PageCallsRel W c d
page_calls_up l k = record { calls = calls_up l k.calls; left = k.left; right = k.right; enter = λ X j. k.enter X (larger_more l j) }

-- ---- arguments, in whose evaluation nothing is undone

args_run : (c : Calls) (here : Here) (es : tree.Exprs) (vs : List Value) (f g : List Value → Act) (s : Store) (n : ℕ)
    → ((u : Store) (m : ℕ) (ws : List Value) → Keeps s u → (f ws).run u m ≡ (g ws).run u m) → (eval_args c here es vs f).run s n ≡ (eval_args c here es vs g).run s n
args_run c here no_exprs vs f g s n same = same s n vs (keeps_all s)
args_run c here (then_expr e es) vs f g s n same = by ((eval c here e).run s n) ((eval c here e).leads s n) (λ v t m later. args_run c here es (vs ++ v ∷ []) f g t m later)
  where
    by : (o : Outcome Signal) → LeadsTo s n o
        → ((v : Value) (t : Store) (m : ℕ) → ((u : Store) (k : ℕ) (ws : List Value) → Keeps t u → (f ws).run u k ≡ (g ws).run u k) → (eval_args c here es (vs ++ v ∷ []) f).run t m ≡ (eval_args c here es (vs ++ v ∷ []) g).run t m)
        → then_on o (on_value (λ v. eval_args c here es (vs ++ v ∷ []) f)) ≡ then_on o (on_value (λ v. eval_args c here es (vs ++ v ∷ []) g))
    by (Ended (signal.Value v) t m) led go = go v t m (λ u k ws kept. same u k ws (keeps_on s t u led.1 kept))
    by (Ended (signal.Thrown v) t m) led go = refl
    by (Ended (signal.Return v) t m) led go = refl
    by (Ended signal.Break t m) led go = refl
    by (Ended signal.Continue t m) led go = refl
    by (Stopped t) led go = refl

-- ---- the function

abbrev with_made : Store → tree.Code → Option EnvId → Store
with_made s c env = with_heap s (after_steps s.heap (function_steps c env (length s.heap.objects)))

-- it is still what it was
class_later : (s : Store) (c : tree.Code) (env : Option EnvId) (u : Store) → Keeps (with_made s c env) u → (object_at u.heap.objects (length s.heap.objects)).class ≡ class.Page c env
class_later s c env u kept =
    let made = with_made s c env in
    let k = length s.heap.objects in
    let is : (object_at made.heap.objects k).class ≡ class.Page c env = function_made_class s.heap c env in
    let steps = heap_of_steps made kept.steps in
    let same : u.heap ≡ after_steps made.heap steps.0 = ap (λ (t : Store). t.heap) kept.is ∙ steps.1 in
    let kind = (kinds_steps made.heap steps.0 k (objects_reach s.heap c env).1).0 in
    by (subst (λ (h : Contents). IsSameKind (object_at h.objects k).class (object_at made.heap.objects k).class) (sym same) kind) is
  where
    by : {d e : Class} → IsSameKind d e → e ≡ class.Page c env → d ≡ class.Page c env
    by (inl same) is = same ∙ is
    by (inr both) is = absurd (never both.1 is)
      where
        never : {e : Class} → IsTrue (is_event e) → e ≡ class.Page c env → ⊥
        never event is = let wrong : is_event (class.Page c env) ≡ true = ap is_event (sym is) ∙ event in cc wrong

-- both are made, and nothing that is named sees it
made_rel : {W : World} {s t : Store} → StoreRel W s t → (c d : tree.Code) (e f : Option EnvId) → StoreRel W (with_made s c e) (with_made t d f)
made_rel {W = W} {s = s} {t = t} g c d e f =
    let one = objects_reach s.heap c e in
    let two = objects_reach t.heap d f in
    let same : Reaches no_environment s.heap.environments s.heap.environments = record { longer = omega arith; at = λ i h. refl } in
    let other : Reaches no_environment t.heap.environments t.heap.environments = record { longer = omega arith; at = λ i h. refl } in
    record {
      heap = heap.others W s.heap t.heap (with_made s c e).heap (with_made t d f).heap g.heap one.0 two.0 same other
          (functions_sound s.heap c e g.heap.left) (functions_sound t.heap d f g.heap.right);
      lines = g.lines;
      host = g.host;
      built_ins = g.built_ins;
      shaped = shapes.function_shaped s c e g.heap.left g.shaped;
      kept = kept_beside g.kept c e (λ j m n. (g.heap.objects.inside j m n).0);
    }

-- ---- the call

pub spared_call_rel : {V : World} (c d : Calls) (around : Around) (n : ℕ) (fs : List Frame) (a b : Here) (e : tree.Expr) (es us : tree.Exprs) → PageCallsRel V c d → (h : HereRel V around fs a b)
    → is_spared h.trees.demand e ≡ true → callee_stands h.trees.demand n fs e (expr_stands h.trees.demand n fs e) ≡ true
    → ((W : World) → Larger V W → (f g : List Value → Act) → ContinuesAll W f g → Agrees W (eval_args c a es [] f) (eval_args d b us [] g))
    → Agrees V (eval c a (call e es)) (eval d b (call (callee around e (open_expr around n e)) us))
spared_call_rel c d around n fs a b (func (code None formals body)) es us calls h is stands go = record {
  run = λ W l s t m g.
      let k = code None formals body in
      let D = h.trees.demand in
      let r = code None formals (open_function around n (opened_fields around.opens (expression_fields k)) (own_name k) k) in
      let same : r ≡ opened_code D.opens n fs k = closed_code around n D.opens false fs None formals body h.opens h.fields in
      let asked = (and_parts (D.spares k || D.asks fs k) (code_stands D n fs k) stands).1 in
      let left = args_run c a es [] (c.call (Object (record { 0 = length s.heap.objects })) Undefined) (calls.left.entry k a.env) (with_made s k a.env) m
      (λ u q ws kept. calls.left.same u q (length s.heap.objects) k a.env ws (class_later s k a.env u kept))
      in
      let right = args_run d b us [] (d.call (Object (record { 0 = length t.heap.objects })) Undefined) (calls.right.entry r b.env) (with_made t r b.env) m
      (λ u q ws kept. calls.right.same u q (length t.heap.objects) r b.env ws (class_later t r b.env u kept))
      in
      let more : ContinuesAll W (calls.left.entry k a.env) (calls.right.entry r b.env) = λ X j vs ws hs.
      let up = larger_more l j in
      subst (λ z. Agrees X (calls.left.entry k a.env vs) (calls.right.entry z b.env ws)) (sym same)
      (calls.enter X up (trees_up up h.trees) n fs k a.env b.env (heap.round_up up h.round) (ready_up up h.ready) asked hs)
      in
      rw (left, right) ((go W l (calls.left.entry k a.env) (calls.right.entry r b.env) more).run W larger_same (with_made s k a.env) (with_made t r b.env) m (made_rel g k r a.env b.env));
}
spared_call_rel c d around n fs a b e es us calls h is stands go = absurd (cc is)
