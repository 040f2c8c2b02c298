-- Rows ask what `this` and the arguments are, and go on with it, or throw.
use Rattle.std.proofs.Common.{◌≡◌, refl, sym, subst, ◌<◌, Bool, true, false, Option, Some, None, Result, Ok, Err, length, is_some, if◌then◌else◌}
use Rattle.std.specs.Prelude.{OnOk}
use Rattle.std.specs.Result.{IsErr, IsErrAnd}
use Rattle.std.proofs.lemmas.Bool.{ltb-true}
use Rattle.std.proofs.lemmas.Option.{same_Some}
use Rattle.js_core.specs.declared.memory.Failure.{Failure}
use Rattle.js_core.specs.Text.{Text}
use Rattle.js_values.specs.declared.ids.NodeId.{NodeId}
use Rattle.js_values.specs.declared.ids.ObjId.{ObjId}
use Rattle.js_values.specs.declared.throw.Throw.TheVariants.{WrongArgument}
use Rattle.js_values.specs.declared.value.Value.{Value}
use Rattle.js_values.specs.declared.value.Value.TheVariants as value
use Rattle.dom_tree.specs.declared.content.Kind.{Kind}
use Rattle.dom_tree.specs.Node.{Nodes, kind_at}
use Rattle.dom_tree.specs.Steps.{is_there}
use Rattle.object_heap.specs.declared.object.Class.{Class}
use Rattle.object_heap.specs.declared.object.Class.TheVariants as class
use Rattle.object_heap.specs.declared.object.EventParts.{EventParts}
use Rattle.page_meaning.specs.declared.signal.Signal.TheVariants.{Value as Val}
use Rattle.page_meaning.specs.Act.{Act, Calls, also, asking, choose}
use Rattle.page_meaning.specs.Calls.{calls_at}
use Rattle.page_meaning.specs.Classes.{class_of, is_function}
use Rattle.page_meaning.specs.Convert.{text_in, to_text}
use Rattle.page_meaning.specs.Errors.{raise}
use Rattle.page_meaning.specs.FunctionRows.{is_callable}
use Rattle.page_meaning.specs.NodeRows.{node_in, object_in, on_event, on_kind, on_node, or_wrong, parts_in, with_callback}
use Rattle.page_meaning.specs.Store.{Store}
use Rattle.page_state.specs.Does.{Does, Gives, Raises, itself}
use Rattle.page_state.specs.Finding.{Finds, IsFound, IsWrong, event_of, function_of, if_kind, node_of, node_of_kind, object_if}
use Rattle.page_state.proofs.Callers.{also_gives, asked_gives, found_gives, wrong_raises}
use Rattle.dom_host.specs.Rows.{IsThere}

-- ---- what is found is there

there_in : (t : Nodes) (c : Option Class) (k : NodeId) → node_in t c ≡ Some k → k.0 < length t
there_in t (Some (class.Node j)) k h = by (is_there t j) refl h
  where
    by : (b : Bool) → is_there t j ≡ b → (if b then Some j else None) ≡ Some k → k.0 < length t
    by true e g = subst (λ m. m.0 < length t) (same_Some j k g) (ltb-true j.0 (length t) e)
    by false e g = cc g
there_in t c k h = cc h

pub found_there : (v : Value) (s t : Store) (k : NodeId) → IsFound (node_of s v) s k t → IsThere t k
found_there v s t k f = subst (λ w. IsThere w k) (sym f.same) (there_in s.host.nodes (class_of s v) k f.found)

-- ---- kinds of nodes

kind_found : (test : Kind → Bool) (s : Store) (o : Option NodeId) (k : NodeId) → if_kind test s o ≡ Some k → (o ≡ Some k) × (test (kind_at s.host.nodes k.0) ≡ true)
kind_found test s None k h = cc h
kind_found test s (Some j) k h = by (test (kind_at s.host.nodes j.0)) refl h
  where
    by : (b : Bool) → test (kind_at s.host.nodes j.0) ≡ b → (if b then Some j else None) ≡ Some k → (Some j ≡ Some k) × (test (kind_at s.host.nodes k.0) ≡ true)
    by true e g = (g, subst (λ m. test (kind_at s.host.nodes m.0) ≡ true) (same_Some j k g) e)
    by false e g = cc g

pub kind_is : (test : Kind → Bool) (v : Value) (s t : Store) (k : NodeId) → IsFound (node_of_kind test s v) s k t → test (kind_at t.host.nodes k.0) ≡ true
kind_is test v s t k f = subst (λ w. test (kind_at w.host.nodes k.0) ≡ true) (sym f.same) (kind_found test s (node_of s v) k f.found).1

pub node_is : (test : Kind → Bool) (v : Value) (s t : Store) (k : NodeId) → IsFound (node_of_kind test s v) s k t → IsFound (node_of s v) s k t
node_is test v s t k f = record { found = (kind_found test s (node_of s v) k f.found).0; same = f.same }

if_found : (test : Kind → Bool) (s : Store) (o : Option NodeId) (k : NodeId) → o ≡ Some k → test (kind_at s.host.nodes k.0) ≡ true → if_kind test s o ≡ Some k
if_found test s o k h e = rw (h, e)

if_other : (test : Kind → Bool) (s : Store) (o : Option NodeId) (k : NodeId) → o ≡ Some k → test (kind_at s.host.nodes k.0) ≡ false → if_kind test s o ≡ None
if_other test s o k h e = rw (h, e)

-- a node of the kind, one of another, and no node
pub of_kind : (test : Kind → Bool) (v : Value) (s t : Store) (k : NodeId) → IsFound (node_of s v) s k t → test (kind_at t.host.nodes k.0) ≡ true → IsFound (node_of_kind test s v) s k t
of_kind test v s t k f h =
    record { found = if_found test s (node_of s v) k f.found (subst (λ w. test (kind_at w.host.nodes k.0) ≡ true) f.same h); same = f.same }

pub of_other : (test : Kind → Bool) (v : Value) (s t u : Store) (k : NodeId) (e : Failure Value) → IsFound (node_of s v) s k t → test (kind_at t.host.nodes k.0) ≡ false
    → Raises (λ _. raise WrongArgument) t u e → IsWrong (node_of_kind test s v) s e u
of_other test v s t u k e f h r =
    record {
      none = if_other test s (node_of s v) k f.found (subst (λ w. test (kind_at w.host.nodes k.0) ≡ false) f.same h);
      raised = subst (λ w. Raises (λ _. raise WrongArgument) w u e) f.same r;
    }

no_kind : (test : Kind → Bool) (v : Value) (s t : Store) (e : Failure Value) → IsWrong (node_of s v) s e t → IsWrong (node_of_kind test s v) s e t
no_kind test v s t e k = record { none = rw k.none; raised = k.raised }

-- what is wrong is handed on
pub wrong_on : (test : Kind → Bool) (v : Value) (s t : Store) (e : Failure Value) (r : Result NodeId (Failure Value))
    → IsWrong (node_of s v) s e t → IsErr r × IsErrAnd r (λ d. d ≡ e) → Finds (node_of_kind test s v) s t r
wrong_on test v s t e (Ok k) w h = cc (h.0)
wrong_on test v s t e (Err x) w h = rw (h.1) (no_kind test v s t e w)

-- ---- rows that go on

pub node_gives : {B : Type 0} (v : Value) (g : Calls → NodeId → Act) (f : B → Value) (k : NodeId) (s t u : Store) (r : Result B (Failure Value))
    → IsFound (node_of s v) s k t → Gives f (λ c. g c k) t u r → Gives f (λ c. on_node v (g c)) s u r
node_gives v g f k s t u r h d = found_gives f (λ w. node_of w v) g k s t u r h d

pub kind_gives : {B : Type 0} (test : Kind → Bool) (v : Value) (g : Calls → NodeId → Act) (f : B → Value) (k : NodeId) (s t u : Store) (r : Result B (Failure Value))
    → IsFound (node_of_kind test s v) s k t → Gives f (λ c. g c k) t u r → Gives f (λ c. on_kind test v (g c)) s u r
kind_gives test v g f k s t u r h d =
    node_gives v (λ c j. asking (λ w. test (kind_at w.host.nodes j.0)) (λ b. choose b (g c j) (raise WrongArgument))) f k s t u r (node_is test v s t k h)
    (asked_gives (λ w. test (kind_at w.host.nodes k.0)) (λ c b. choose b (g c k) (raise WrongArgument)) f t u r
    (subst (λ b. Gives f (λ c. choose b (g c k) (raise WrongArgument)) t u r) (sym (kind_is test v s t k h)) d))

pub event_gives : {B : Type 0} (v : Value) (g : Calls → ObjId → Act) (f : B → Value) (at : ObjId) (s t u : Store) (r : Result B (Failure Value))
    → IsFound (event_of s v) s at t → Gives f (λ c. g c at) t u r → Gives f (λ c. on_event v (λ a parts. g c a)) s u r
event_gives {B} v g f at s t u r h d = by (parts_in (class_of s v)) refl h.found
  where
    by : (o : Option EventParts) → parts_in (class_of s v) ≡ o → object_if (is_some o) v ≡ Some at → Gives f (λ c. on_event v (λ a parts. g c a)) s u r
    by None e q = cc q
    by (Some parts) e q =
        found_gives f (λ w. parts_in (class_of w v)) (λ c p. or_wrong (λ a. g c a) (object_in v)) parts s t u r (record { found = e; same = h.same })
        (subst (λ o. Gives f (λ c. or_wrong (λ a. g c a) o) t u r) (sym q) d)

pub callback_gives : {B : Type 0} (v : Value) (g : Calls → ObjId → Act) (f : B → Value) (at : ObjId) (s t u : Store) (r : Result B (Failure Value))
    → IsFound (function_of s v) s at t → Gives f (λ c. g c at) t u r → Gives f (λ c. with_callback v (g c)) s u r
callback_gives {B} v g f at s t u r h d = by (is_function (class_of s v)) refl h.found
  where
    by : (b : Bool) → is_function (class_of s v) ≡ b → object_if b v ≡ Some at → Gives f (λ c. with_callback v (g c)) s u r
    by false e q = cc q
    by true e q =
        asked_gives (is_callable v) (λ c b. choose b (or_wrong (g c) (object_in v)) (raise WrongArgument)) f s u r
        (subst (λ b. Gives f (λ c. choose b (or_wrong (g c) (object_in v)) (raise WrongArgument)) s u r) (sym e)
        (subst (λ o. Gives f (λ c. or_wrong (g c) o) s u r) (sym q) (subst (λ w. Gives f (λ c. g c at) w u r) h.same d)))

pub text_gives : {B : Type 0} (v : Value) (g : Calls → Text → Act) (f : B → Value) (x : Text) (s t u : Store) (r : Result B (Failure Value))
    → Does (λ c. to_text c v) s (Val (value.Text x)) t → Gives f (λ c. g c x) t u r → Gives f (λ c. also (to_text c v) (λ y. g c (text_in y))) s u r
text_gives v g f x s t u r d e = also_gives (λ c. to_text c v) (λ c y. g c (text_in y)) f (value.Text x) s t u r d e

-- ---- rows that throw

pub node_raises : (v : Value) (g : Calls → NodeId → Act) (s t : Store) (e : Failure Value) → IsWrong (node_of s v) s e t → Raises (λ c. on_node v (g c)) s t e
node_raises v g s t e w = wrong_raises (λ q. node_of q v) g s t e w

pub kind_raises : (test : Kind → Bool) (v : Value) (g : Calls → NodeId → Act) (s t : Store) (e : Failure Value)
    → IsWrong (node_of_kind test s v) s e t → Raises (λ c. on_kind test v (g c)) s t e
kind_raises test v g s t e w = by (node_of s v) refl w.none
  where
    rest : Calls → NodeId → Act
    rest c j = asking (λ q. test (kind_at q.host.nodes j.0)) (λ b. choose b (g c j) (raise WrongArgument))

    by : (o : Option NodeId) → node_of s v ≡ o → if_kind test s o ≡ None → Raises (λ c. on_kind test v (g c)) s t e
    by None h q = node_raises v (λ c j. asking (λ p. test (kind_at p.host.nodes j.0)) (λ b. choose b (g c j) (raise WrongArgument))) s t e (record { none = h; raised = w.raised })
    by (Some j) h q = under (test (kind_at s.host.nodes j.0)) refl q
      where
        under : (b : Bool) → test (kind_at s.host.nodes j.0) ≡ b → (if b then Some j else None) ≡ None → Raises (λ c. on_kind test v (g c)) s t e
        under true a z = cc z
        under false a z =
            node_gives v (λ c i. asking (λ p. test (kind_at p.host.nodes i.0)) (λ b. choose b (g c i) (raise WrongArgument))) itself j s s t (Err e) (record { found = h; same = refl })
            (asked_gives (λ p. test (kind_at p.host.nodes j.0)) (λ c b. choose b (g c j) (raise WrongArgument)) itself s t (Err e)
            (subst (λ b. Raises (λ c. choose b (g c j) (raise WrongArgument)) s t e) (sym a) w.raised))

pub event_raises : (v : Value) (g : Calls → ObjId → Act) (s t : Store) (e : Failure Value) → IsWrong (event_of s v) s e t → Raises (λ c. on_event v (λ a parts. g c a)) s t e
event_raises v g s t e w = by (parts_in (class_of s v)) refl w.none
  where
    by : (o : Option EventParts) → parts_in (class_of s v) ≡ o → object_if (is_some o) v ≡ None → Raises (λ c. on_event v (λ a parts. g c a)) s t e
    by None h q = wrong_raises (λ p. parts_in (class_of p v)) (λ c p. or_wrong (λ a. g c a) (object_in v)) s t e (record { none = h; raised = w.raised })
    by (Some parts) h q =
        found_gives itself (λ p. parts_in (class_of p v)) (λ c p. or_wrong (λ a. g c a) (object_in v)) parts s s t (Err e) (record { found = h; same = refl })
        (subst (λ o. Raises (λ c. or_wrong (λ a. g c a) o) s t e) (sym q) w.raised)

pub callback_raises : (v : Value) (g : Calls → ObjId → Act) (s t : Store) (e : Failure Value) → IsWrong (function_of s v) s e t → Raises (λ c. with_callback v (g c)) s t e
callback_raises v g s t e w = by (is_function (class_of s v)) refl w.none
  where
    go : (b : Bool) → is_function (class_of s v) ≡ b → Raises (λ c. choose b (or_wrong (g c) (object_in v)) (raise WrongArgument)) s t e → Raises (λ c. with_callback v (g c)) s t e
    go b h d =
        asked_gives (is_callable v) (λ c a. choose a (or_wrong (g c) (object_in v)) (raise WrongArgument)) itself s t (Err e)
        (subst (λ a. Raises (λ c. choose a (or_wrong (g c) (object_in v)) (raise WrongArgument)) s t e) (sym h) d)

    by : (b : Bool) → is_function (class_of s v) ≡ b → object_if b v ≡ None → Raises (λ c. with_callback v (g c)) s t e
    by false h q = go false h w.raised
    by true h q = go true h (subst (λ o. Raises (λ c. or_wrong (g c) o) s t e) (sym q) w.raised)

-- and the fault is handed on
pub fails : {B : Type 0} (act : Calls → Act) (f : B → Value) (s t : Store) (e : Failure Value) (r : Result B (Failure Value))
    → Raises act s t e → IsErr r × IsErrAnd r (λ d. d ≡ e) → Gives f act s t r
fails act f s t e (Ok b) d h = cc (h.0)
fails act f s t e (Err x) d h = rw (h.1) d

-- ---- a text that a value is converted to changes nothing

pub text_same : (v : Value) (s t : Store) (x : Text) → Does (λ c. to_text c v) s (Val (value.Text x)) t → t ≡ s
text_same (value.Object at) s t x d = cc (d.is (calls_at 0) 0)
text_same v s t x d = cc (d.is (calls_at 0) 0)

pub texts_same : (v : Value) (s t : Store) (r : Result Text (Failure Value)) → Gives (λ x. value.Text x) (λ c. to_text c v) s t r → OnOk r (t ≡ s)
texts_same v s t (Ok x) d = text_same v s t x d
texts_same v s t (Err e) d = tt
