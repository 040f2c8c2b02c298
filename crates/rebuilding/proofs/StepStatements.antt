-- Each statement of nodes, events, listeners and timers is one step of the page, where it is not refused.
use Rattle.std.proofs.Common.{◌≡◌, refl, ap, ◌∙◌, ℕ, suc, max, Bool, true, false, ◌<◌, ◌≤◌, pos, nat_le, List, [], ◌∷◌, Some, None, codes, length}
use Rattle.js_core.specs.Tree as tree
use Rattle.js_core.specs.Tree.{assign, bool, call, expr, member, name, no_exprs, num, text, then_expr}
use Rattle.js_values.specs.declared.built_in.BuiltIn.TheVariants as built_in
use Rattle.js_values.specs.declared.ids.NodeId.{NodeId}
use Rattle.js_values.specs.declared.ids.ObjId.{ObjId}
use Rattle.js_values.specs.declared.value.Value.{Value}
use Rattle.js_values.specs.declared.value.Value.TheVariants as value
use Rattle.dom_tree.specs.Change.{insertion_error, removal_error}
use Rattle.dom_tree.specs.Name.{folded, is_name}
use Rattle.dom_tree.specs.Node.{is_document, is_element, kind_at}
use Rattle.dom_tree.specs.Steps.{inserts, is_there, sets_attribute, sets_value, takes_out}
use Rattle.dom_tree.specs.declared.content.Kind.{Kind}
use Rattle.dom_tree.specs.declared.content.Kind.TheVariants as kind
use Rattle.object_heap.specs.Laws.{gives_parts}
use Rattle.object_heap.specs.Laws as heap
use Rattle.object_heap.specs.declared.object.Class.TheVariants as class
use Rattle.object_heap.specs.declared.object.EventParts.{EventParts}
use Rattle.page_host.specs.Host.{object_of_node}
use Rattle.page_host.specs.HostNames.{has_at_node, is_handler}
use Rattle.page_host.specs.Steps.{clears, in_nodes, listens, starts}
use Rattle.page_host.specs.declared.host_name.HostName.TheVariants.{Value as HasValue}
use Rattle.page_meaning.specs.Act.{Ended, Outcome, also, give, nothing, on_value, then_on}
use Rattle.page_meaning.specs.Calls.{calls_at}
use Rattle.page_meaning.specs.Classes.{class_at, is_callable_class, is_node_class}
use Rattle.page_meaning.specs.Events.{after_event, begins, initialises, may_begin, rests}
use Rattle.page_meaning.specs.Expressions.{assigned, eval}
use Rattle.page_meaning.specs.HostNames.{hosted}
use Rattle.page_meaning.specs.HostPuts.{put_member}
use Rattle.page_meaning.specs.Names.{Here}
use Rattle.page_meaning.specs.NodeRows.{listener_of}
use Rattle.page_meaning.specs.Places.{at_place, function_at}
use Rattle.page_meaning.specs.Properties.{with_properties}
use Rattle.page_meaning.specs.Reading.{seen_at}
use Rattle.page_meaning.specs.Statements.{exec}
use Rattle.page_meaning.specs.Steps.{after_step, in_event, in_host, makes_event, makes_node}
use Rattle.page_meaning.specs.Store.{Store, with_heap}
use Rattle.page_meaning.specs.declared.signal.Signal.{Signal}
use Rattle.page_meaning.specs.declared.signal.Signal.TheVariants.{Value as Val}
use Rattle.timer_queue.specs.Timers.{least_free, timer_limit}
use Rattle.rebuilding.proofs.HostCalls.{HasMethod, IsNative, Reads, ReadsAll, function_runs, method_runs, next_read, none_read, statement_ran}
use Rattle.rebuilding.proofs.HostRows.{appended, attribute_set, comment_made, element_made, event_made, initialised, interval_started, listened, removed, text_made, timeout_started, timer_cleared, value_set}
use Rattle.rebuilding.proofs.QuietDispatch.{dispatched_quietly}

-- the object is that of the node, which is there
pub record IsNodeAt (s : Store) (at : ObjId) (k : NodeId) : Type 0 where
  pub class : class_at s at ≡ class.Node k
  pub there : is_there s.host.nodes k ≡ true

abbrev pub whole : ℕ → tree.Expr
whole i = num (Some (pos i))

module _ (here : Here) (d : ℕ) (s : Store) (n : ℕ) where
  abbrev Is : tree.Expr → Value → Type 0
  Is e v = Reads here d s n e v

  -- the statement ends by itself, with this page and so many steps left
  abbrev pub RunsTo : tree.Expr → Store → ℕ → Type 0
  RunsTo e t k = (exec (calls_at (suc d)) here (expr e)).run s (suc n) ≡ Ended nothing t k

  one_read : (e : tree.Expr) (v : Value) → Is e v → ReadsAll here d s n (then_expr e no_exprs) (v ∷ [])
  one_read e v h = next_read here d s n e v no_exprs [] h (none_read here d s n)

  two_read : (e f : tree.Expr) (v w : Value) → Is e v → Is f w → ReadsAll here d s n (then_expr e (then_expr f no_exprs)) (v ∷ w ∷ [])
  two_read e f v w h g = next_read here d s n e v (then_expr f no_exprs) (w ∷ []) h (one_read f w g)

  three_read : (e f g : tree.Expr) (u v w : Value) → Is e u → Is f v → Is g w → ReadsAll here d s n (then_expr e (then_expr f (then_expr g no_exprs))) (u ∷ v ∷ w ∷ [])
  three_read e f g u v w h i j = next_read here d s n e u (then_expr f (then_expr g no_exprs)) (v ∷ w ∷ []) h (two_read f g v w i j)

  -- ---- nodes

  pub append_runs : (p c : tree.Expr) (at to : ObjId) (k l : NodeId) → Is p (value.Object at) → Is c (value.Object to) → HasMethod s at (codes "appendChild") built_in.NodePrototypeAppendChild
      → IsNodeAt s at k → IsNodeAt s to l → insertion_error s.host.nodes k l None ≡ None
      → RunsTo (call (member p (codes "appendChild")) (then_expr c no_exprs)) (after_step s (in_host (in_nodes (inserts k l None)))) n
  append_runs p c at to k l base arg has one two none =
      statement_ran here d s n (call (member p (codes "appendChild")) (then_expr c no_exprs)) (value.Object to) (after_step s (in_host (in_nodes (inserts k l None)))) n
      (method_runs here d s n p at (codes "appendChild") built_in.NodePrototypeAppendChild (then_expr c no_exprs) (value.Object to ∷ []) base has (one_read c (value.Object to) arg)
      ∙ appended (calls_at d) s n at to k l one.class one.there two.class two.there none)

  -- the frame's nodes are taken out of the document
  pub remove_runs : (p c : tree.Expr) (at to : ObjId) (k l : NodeId) → Is p (value.Object at) → Is c (value.Object to) → HasMethod s at (codes "removeChild") built_in.NodePrototypeRemoveChild
      → IsNodeAt s at k → IsNodeAt s to l → removal_error s.host.nodes k l ≡ None
      → RunsTo (call (member p (codes "removeChild")) (then_expr c no_exprs)) (after_step s (in_host (in_nodes (takes_out l)))) n
  remove_runs p c at to k l base arg has one two none =
      statement_ran here d s n (call (member p (codes "removeChild")) (then_expr c no_exprs)) (value.Object to) (after_step s (in_host (in_nodes (takes_out l)))) n
      (method_runs here d s n p at (codes "removeChild") built_in.NodePrototypeRemoveChild (then_expr c no_exprs) (value.Object to ∷ []) base has (one_read c (value.Object to) arg)
      ∙ removed (calls_at d) s n at to k l one.class one.there two.class two.there none)

  pub attribute_runs : (e : tree.Expr) (at : ObjId) (k : NodeId) (x v : List ℕ) → Is e (value.Object at) → HasMethod s at (codes "setAttribute") built_in.NodePrototypeSetAttribute
      → IsNodeAt s at k → is_element (kind_at s.host.nodes k.0) ≡ true → is_handler (folded x) ≡ false → is_name x ≡ true
      → RunsTo (call (member e (codes "setAttribute")) (then_expr (text x) (then_expr (text v) no_exprs))) (after_step s (in_host (in_nodes (sets_attribute k x v)))) n
  attribute_runs e at k x v base has one element plain named =
      statement_ran here d s n (call (member e (codes "setAttribute")) (then_expr (text x) (then_expr (text v) no_exprs))) value.Undefined (after_step s (in_host (in_nodes (sets_attribute k x v)))) n
      (method_runs here d s n e at (codes "setAttribute") built_in.NodePrototypeSetAttribute (then_expr (text x) (then_expr (text v) no_exprs)) (value.Text x ∷ value.Text v ∷ []) base has
      (two_read (text x) (text v) (value.Text x) (value.Text v) refl refl)
      ∙ attribute_set (calls_at d) s n at k x v one.class one.there element plain named)

  -- no call is made, so no step is taken
  pub value_runs : (e : tree.Expr) (at : ObjId) (k : NodeId) (t : List ℕ) → Is e (value.Object at) → class_at s at ≡ class.Node k → has_at_node s.host.nodes k HasValue ≡ true
      → seen_at s at (codes "value") HasValue ≡ Some (hosted (class.Node k))
      → RunsTo (assign None (member e (codes "value")) (text t)) (after_step s (in_host (in_nodes (sets_value k t)))) (suc n)
  value_runs e at k t base is has seen =
      statement_ran here d s n (assign None (member e (codes "value")) (text t)) (value.Text t) (after_step s (in_host (in_nodes (sets_value k t)))) (suc n)
      (ap (λ (o : Outcome Signal). then_on o (on_value (λ b. also (with_properties b) (λ u. also (eval (calls_at (suc d)) here (text t)) (assigned (put_member (calls_at (suc d)) u (codes "value"))))))) base
      ∙ ap (λ (o : Outcome Signal). then_on o (on_value (λ u. give (value.Text t)))) (value_set (calls_at (suc d)) s (suc n) at k t is has seen))

  pub listen_runs : (e f : tree.Expr) (at to : ObjId) (k : NodeId) (x : List ℕ) (capture : Bool) → Is e (value.Object at) → Is f (value.Object to)
      → HasMethod s at (codes "addEventListener") built_in.NodePrototypeAddEventListener → IsNodeAt s at k → is_callable_class (class_at s to) ≡ true
      → RunsTo (call (member e (codes "addEventListener")) (then_expr (text x) (then_expr f (then_expr (bool capture) no_exprs)))) (after_step s (in_host (listens (listener_of k x to capture)))) n
  listen_runs e f at to k x capture base arg has one callable =
      let es = then_expr (text x) (then_expr f (then_expr (bool capture) no_exprs)) in
      statement_ran here d s n (call (member e (codes "addEventListener")) es) value.Undefined (after_step s (in_host (listens (listener_of k x to capture)))) n
      (method_runs here d s n e at (codes "addEventListener") built_in.NodePrototypeAddEventListener es (value.Text x ∷ value.Object to ∷ value.Bool capture ∷ []) base has
      (three_read (text x) f (bool capture) (value.Text x) (value.Object to) (value.Bool capture) refl arg refl)
      ∙ listened (calls_at d) s n at to k x capture one.class one.there callable)

  -- ---- new nodes and events, as values

  abbrev pub MakesNode : tree.Expr → Kind → Type 0
  MakesNode e k = (eval (calls_at (suc d)) here e).run s (suc n) ≡ Ended (Val (value.Object (at_place (length s.heap.objects)))) (after_step s (makes_node k)) n

  module _ (e : tree.Expr) (at : ObjId) (k : NodeId) (base : Is e (value.Object at)) (one : IsNodeAt s at k) (document : is_document (kind_at s.host.nodes k.0) ≡ true) where
    pub element_runs : (x : List ℕ) → HasMethod s at (codes "createElement") built_in.NodePrototypeCreateElement → is_name x ≡ true
        → MakesNode (call (member e (codes "createElement")) (then_expr (text x) no_exprs)) (kind.Element (folded x))
    element_runs x has named =
        method_runs here d s n e at (codes "createElement") built_in.NodePrototypeCreateElement (then_expr (text x) no_exprs) (value.Text x ∷ []) base has (one_read (text x) (value.Text x) refl)
        ∙ element_made (calls_at d) s n at k x one.class one.there document named

    pub text_runs : (x : List ℕ) → HasMethod s at (codes "createTextNode") built_in.NodePrototypeCreateTextNode
        → MakesNode (call (member e (codes "createTextNode")) (then_expr (text x) no_exprs)) (kind.Text x)
    text_runs x has =
        method_runs here d s n e at (codes "createTextNode") built_in.NodePrototypeCreateTextNode (then_expr (text x) no_exprs) (value.Text x ∷ []) base has (one_read (text x) (value.Text x) refl)
        ∙ text_made (calls_at d) s n at k x one.class one.there document

    pub comment_runs : (x : List ℕ) → HasMethod s at (codes "createComment") built_in.NodePrototypeCreateComment
        → MakesNode (call (member e (codes "createComment")) (then_expr (text x) no_exprs)) (kind.Comment x)
    comment_runs x has =
        method_runs here d s n e at (codes "createComment") built_in.NodePrototypeCreateComment (then_expr (text x) no_exprs) (value.Text x ∷ []) base has (one_read (text x) (value.Text x) refl)
        ∙ comment_made (calls_at d) s n at k x one.class one.there document

    pub event_runs : HasMethod s at (codes "createEvent") built_in.NodePrototypeCreateEvent
        → (eval (calls_at (suc d)) here (call (member e (codes "createEvent")) (then_expr (text (codes "Event")) no_exprs))).run s (suc n)
        ≡ Ended (Val (value.Object (at_place (length s.heap.objects)))) (after_step s makes_event) n
    event_runs has =
        method_runs here d s n e at (codes "createEvent") built_in.NodePrototypeCreateEvent (then_expr (text (codes "Event")) no_exprs) (value.Text (codes "Event") ∷ []) base has
        (one_read (text (codes "Event")) (value.Text (codes "Event")) refl)
        ∙ event_made (calls_at d) s n at k one.class one.there document

  -- ---- events

  pub init_runs : (e : tree.Expr) (at : ObjId) (parts : EventParts) (x : List ℕ) (bubbles cancelable : Bool) → Is e (value.Object at)
      → HasMethod s at (codes "initEvent") built_in.EventPrototypeInitEvent → class_at s at ≡ class.Event parts
      → RunsTo (call (member e (codes "initEvent")) (then_expr (text x) (then_expr (bool bubbles) (then_expr (bool cancelable) no_exprs)))) (after_step s (in_event at (initialises x bubbles cancelable))) n
  init_runs e at parts x bubbles cancelable base has is =
      let es = then_expr (text x) (then_expr (bool bubbles) (then_expr (bool cancelable) no_exprs)) in
      statement_ran here d s n (call (member e (codes "initEvent")) es) value.Undefined (after_step s (in_event at (initialises x bubbles cancelable))) n
      (method_runs here d s n e at (codes "initEvent") built_in.EventPrototypeInitEvent es (value.Text x ∷ value.Bool bubbles ∷ value.Bool cancelable ∷ []) base has
      (three_read (text x) (bool bubbles) (bool cancelable) (value.Text x) (value.Bool bubbles) (value.Bool cancelable) refl refl refl)
      ∙ initialised (calls_at d) s n at parts x bubbles cancelable is)

  -- an event that was initialised, where nobody listens
  pub dispatch_runs : (e f : tree.Expr) (at to : ObjId) (k : NodeId) (parts : EventParts) → Is e (value.Object at) → Is f (value.Object to)
      → HasMethod s at (codes "dispatchEvent") built_in.NodePrototypeDispatchEvent → IsNodeAt s at k → class_at s to ≡ class.Event parts → may_begin parts ≡ true → parts.phase ≤ 3
      → to.0 < length s.heap.objects → s.host.listeners ≡ [] → is_node_class s.host.nodes (class_at s (object_of_node s.host.objects k)) ≡ true
      → RunsTo (call (member e (codes "dispatchEvent")) (then_expr f no_exprs))
      (with_heap s (heap.after_step s.heap (gives_parts to.0 (λ p. after_event rests (after_event (begins (object_of_node s.host.objects k)) p))))) n
  dispatch_runs e f at to k parts base arg has one is may low inside none fits =
      statement_ran here d s n (call (member e (codes "dispatchEvent")) (then_expr f no_exprs)) (value.Bool true)
      (with_heap s (heap.after_step s.heap (gives_parts to.0 (λ p. after_event rests (after_event (begins (object_of_node s.host.objects k)) p))))) n
      (method_runs here d s n e at (codes "dispatchEvent") built_in.NodePrototypeDispatchEvent (then_expr f no_exprs) (value.Object to ∷ []) base has (one_read f (value.Object to) arg)
      ∙ dispatched_quietly to (calls_at d) s n at k parts one.class one.there is may low inside none fits)

  -- ---- timers

  abbrev pub IsFunction : List ℕ → ObjId → Type 0
  IsFunction x at = Is (name x) (value.Object at)

  pub timeout_runs : (f : tree.Expr) (at : ObjId) (rest : ℕ) → IsFunction (codes "setTimeout") (function_at built_in.SetTimeout) → IsNative s built_in.SetTimeout → Is f (value.Object at)
      → is_callable_class (class_at s at) ≡ true → nat_le timer_limit (length s.host.timers) ≡ false
      → RunsTo (call (name (codes "setTimeout")) (then_expr f (then_expr (whole rest) no_exprs))) (after_step s (in_host (starts rest None at))) n
  timeout_runs f at rest held native arg callable room =
      let es = then_expr f (then_expr (whole rest) no_exprs) in
      statement_ran here d s n (call (name (codes "setTimeout")) es) (value.Num (Some (pos (least_free s.host.timers)))) (after_step s (in_host (starts rest None at))) n
      (function_runs here d s n (codes "setTimeout") built_in.SetTimeout es (value.Object at ∷ value.Num (Some (pos rest)) ∷ []) held native
      (two_read f (whole rest) (value.Object at) (value.Num (Some (pos rest))) arg refl)
      ∙ timeout_started (calls_at d) s n at rest callable room)

  pub interval_runs : (f : tree.Expr) (at : ObjId) (rest period : ℕ) → IsFunction (codes "setIntervalFrom") (function_at built_in.SetIntervalFrom) → IsNative s built_in.SetIntervalFrom
      → Is f (value.Object at) → is_callable_class (class_at s at) ≡ true → nat_le timer_limit (length s.host.timers) ≡ false
      → RunsTo (call (name (codes "setIntervalFrom")) (then_expr f (then_expr (whole rest) (then_expr (whole period) no_exprs)))) (after_step s (in_host (starts rest (Some (max 1 period)) at))) n
  interval_runs f at rest period held native arg callable room =
      let es = then_expr f (then_expr (whole rest) (then_expr (whole period) no_exprs)) in
      statement_ran here d s n (call (name (codes "setIntervalFrom")) es) (value.Num (Some (pos (least_free s.host.timers)))) (after_step s (in_host (starts rest (Some (max 1 period)) at))) n
      (function_runs here d s n (codes "setIntervalFrom") built_in.SetIntervalFrom es (value.Object at ∷ value.Num (Some (pos rest)) ∷ value.Num (Some (pos period)) ∷ []) held native
      (three_read f (whole rest) (whole period) (value.Object at) (value.Num (Some (pos rest))) (value.Num (Some (pos period))) arg refl refl)
      ∙ interval_started (calls_at d) s n at rest period callable room)

  pub clear_runs : (id : ℕ) → IsFunction (codes "clearTimeout") (function_at built_in.ClearTimeout) → IsNative s built_in.ClearTimeout
      → RunsTo (call (name (codes "clearTimeout")) (then_expr (whole id) no_exprs)) (after_step s (in_host (clears id))) n
  clear_runs id held native =
      statement_ran here d s n (call (name (codes "clearTimeout")) (then_expr (whole id) no_exprs)) value.Undefined (after_step s (in_host (clears id))) n
      (function_runs here d s n (codes "clearTimeout") built_in.ClearTimeout (then_expr (whole id) no_exprs) (value.Num (Some (pos id)) ∷ []) held native
      (one_read (whole id) (value.Num (Some (pos id))) refl)
      ∙ timer_cleared (calls_at d) s n id)
