-- What the rows of nodes, events and timers do where nothing is refused: one step of the page (DOM Level 2 Core and Events; HTML, timers).
use Rattle.std.proofs.Common.{◌≡◌, refl, ap, ◌∙◌, ℕ, max, Bool, true, false, pos, nat_le, List, [], ◌∷◌, Option, Some, None, codes, length, if◌then◌else◌}
use Rattle.js_values.specs.declared.built_in.BuiltIn.TheVariants as built_in
use Rattle.js_values.specs.declared.ids.NodeId.{NodeId}
use Rattle.js_values.specs.declared.ids.ObjId.{ObjId}
use Rattle.js_values.specs.declared.throw.Throw.TheVariants.{CannotSet, InvalidCharacter, OutOfRange, WrongArgument}
use Rattle.js_values.specs.declared.value.Value.TheVariants as value
use Rattle.dom_tree.specs.Change.{insertion_error, removal_error}
use Rattle.dom_tree.specs.Name.{folded, is_name}
use Rattle.dom_tree.specs.Node.{is_document, is_element, kind_at}
use Rattle.dom_tree.specs.Steps.{inserts, is_there, sets_attribute, sets_value, takes_out}
use Rattle.dom_tree.specs.declared.content.Kind.{Kind}
use Rattle.dom_tree.specs.declared.content.Kind.TheVariants as kind
use Rattle.dom_tree.specs.declared.fault.DomError.{DomError}
use Rattle.object_heap.specs.declared.object.Class.TheVariants as class
use Rattle.object_heap.specs.declared.object.EventParts.{EventParts}
use Rattle.page_host.specs.HostNames.{has_at_node, host_name, is_handler}
use Rattle.page_host.specs.Steps.{clears, in_nodes, listens, starts}
use Rattle.page_host.specs.declared.host_name.HostName.{HostName}
use Rattle.page_host.specs.declared.host_name.HostName.TheVariants.{Value as HasValue}
use Rattle.page_meaning.specs.Act.{Act, Calls, Ended, asking, bind, choose, done, nothing}
use Rattle.page_meaning.specs.Classes.{class_at, is_callable_class}
use Rattle.page_meaning.specs.Errors.{raise}
use Rattle.page_meaning.specs.Events.{initialises}
use Rattle.page_meaning.specs.HostNames.{Seen, has_host_name, hosted}
use Rattle.page_meaning.specs.HostPuts.{host_puts, put_member, put_named, put_seen, stepped}
use Rattle.page_meaning.specs.NodeRows.{change_event, change_listeners, create_element, create_event, insert, listener_of, new_node, node_in, node_row, on_kind, on_node, or_wrong, parts_in, remove, set_attribute, unless_refused, with_text}
use Rattle.page_meaning.specs.Places.{at_place}
use Rattle.page_meaning.specs.Primitives.{changes_host}
use Rattle.page_meaning.specs.Reading.{seen_at}
use Rattle.page_meaning.specs.Steps.{after_step, in_event, in_host, makes_event, makes_node}
use Rattle.page_meaning.specs.Store.{Store}
use Rattle.page_meaning.specs.TimerRows.{start, started, timer_row, with_time}
use Rattle.page_meaning.specs.declared.signal.Signal.TheVariants.{Value as Val}
use Rattle.timer_queue.specs.Timers.{least_free, timer_limit}

module _ (calls : Calls) (s : Store) (n : ℕ) where
  -- ---- the node that a value is

  node_found : (at : ObjId) (k : NodeId) → class_at s at ≡ class.Node k → is_there s.host.nodes k ≡ true → node_in s.host.nodes (Some (class_at s at)) ≡ Some k
  node_found at k is there = ap (λ c. node_in s.host.nodes (Some c)) is ∙ ap (λ b. if b then Some k else None) there

  pub on_node_run : (at : ObjId) (k : NodeId) (f : NodeId → Act) → class_at s at ≡ class.Node k → is_there s.host.nodes k ≡ true
      → (on_node (value.Object at) f).run s n ≡ (f k).run s n
  on_node_run at k f is there = ap (λ o. (or_wrong f o).run s n) (node_found at k is there)

  on_kind_run : (test : Kind → Bool) (at : ObjId) (k : NodeId) (f : NodeId → Act) → class_at s at ≡ class.Node k → is_there s.host.nodes k ≡ true
      → test (kind_at s.host.nodes k.0) ≡ true → (on_kind test (value.Object at) f).run s n ≡ (f k).run s n
  on_kind_run test at k f is there fits =
      on_node_run at k (λ l. asking (λ t. test (kind_at t.host.nodes l.0)) (λ b. choose b (f l) (raise WrongArgument))) is there
      ∙ ap (λ b. (choose b (f k) (raise WrongArgument)).run s n) fits

  -- ---- nodes

  pub appended : (at to : ObjId) (p c : NodeId) → class_at s at ≡ class.Node p → is_there s.host.nodes p ≡ true → class_at s to ≡ class.Node c → is_there s.host.nodes c ≡ true
      → insertion_error s.host.nodes p c None ≡ None
      → (node_row calls built_in.NodePrototypeAppendChild (value.Object at) (value.Object to ∷ [])).run s n
      ≡ Ended (Val (value.Object to)) (after_step s (in_host (in_nodes (inserts p c None)))) n
  appended at to p c is there has stands none =
      on_node_run at p (λ k. on_node (value.Object to) (λ l. insert k l None (value.Object to))) is there
      ∙ on_node_run to c (λ l. insert p l None (value.Object to)) has stands
      ∙ ap (λ (e : Option DomError). (unless_refused e (inserts p c None) (value.Object to)).run s n) none

  pub removed : (at to : ObjId) (p c : NodeId) → class_at s at ≡ class.Node p → is_there s.host.nodes p ≡ true → class_at s to ≡ class.Node c → is_there s.host.nodes c ≡ true
      → removal_error s.host.nodes p c ≡ None
      → (node_row calls built_in.NodePrototypeRemoveChild (value.Object at) (value.Object to ∷ [])).run s n
      ≡ Ended (Val (value.Object to)) (after_step s (in_host (in_nodes (takes_out c)))) n
  removed at to p c is there has stands none =
      on_node_run at p (λ k. on_node (value.Object to) (λ l. remove k l (value.Object to))) is there
      ∙ on_node_run to c (λ l. remove p l (value.Object to)) has stands
      ∙ ap (λ (e : Option DomError). (unless_refused e (takes_out c) (value.Object to)).run s n) none

  pub attribute_set : (at : ObjId) (k : NodeId) (x v : List ℕ) → class_at s at ≡ class.Node k → is_there s.host.nodes k ≡ true → is_element (kind_at s.host.nodes k.0) ≡ true
      → is_handler (folded x) ≡ false → is_name x ≡ true
      → (node_row calls built_in.NodePrototypeSetAttribute (value.Object at) (value.Text x ∷ value.Text v ∷ [])).run s n
      ≡ Ended nothing (after_step s (in_host (in_nodes (sets_attribute k x v)))) n
  attribute_set at k x v is there element plain named =
      on_kind_run is_element at k (λ l. with_text calls (value.Text x ∷ value.Text v ∷ []) 0 (λ y. with_text calls (value.Text x ∷ value.Text v ∷ []) 1 (set_attribute l y))) is there element
      ∙ ap (λ b. (choose b (raise WrongArgument) (choose (is_name x) (stepped (sets_attribute k x v)) (raise InvalidCharacter))).run s n) plain
      ∙ ap (λ b. (choose b (stepped (sets_attribute k x v)) (raise InvalidCharacter)).run s n) named

  -- `value` of an input or a textarea
  value_named : host_name (codes "value") ≡ Some HasValue
  unfolding host_name
  value_named = refl

  pub value_set : (at : ObjId) (k : NodeId) (t : List ℕ) → class_at s at ≡ class.Node k → has_at_node s.host.nodes k HasValue ≡ true
      → seen_at s at (codes "value") HasValue ≡ Some (hosted (class.Node k))
      → (put_member calls (value.Object at) (codes "value") (value.Text t)).run s n ≡ Ended nothing (after_step s (in_host (in_nodes (sets_value k t)))) n
  value_set at k t is has seen =
      ap (λ (o : Option HostName). (put_named calls at (codes "value") (value.Text t) o).run s n) value_named
      ∙ ap (λ (o : Option Seen). (put_seen calls at (codes "value") HasValue (value.Text t) o).run s n) seen
      ∙ ap (λ b. (choose b (asking (λ u. class_at u at) (host_puts calls HasValue (value.Text t))) (raise CannotSet)).run s n) (ap (λ c. has_host_name s.host.nodes c HasValue) is ∙ has)
      ∙ ap (λ c. (host_puts calls HasValue (value.Text t) c).run s n) is

  pub listened : (at f : ObjId) (k : NodeId) (x : List ℕ) (capture : Bool) → class_at s at ≡ class.Node k → is_there s.host.nodes k ≡ true → is_callable_class (class_at s f) ≡ true
      → (node_row calls built_in.NodePrototypeAddEventListener (value.Object at) (value.Text x ∷ value.Object f ∷ value.Bool capture ∷ [])).run s n
      ≡ Ended nothing (after_step s (in_host (listens (listener_of k x f capture)))) n
  listened at f k x capture is there callable =
      on_node_run at k (λ l. change_listeners listens calls l (value.Text x ∷ value.Object f ∷ value.Bool capture ∷ [])) is there
      ∙ ap (λ b. (choose b (or_wrong (λ g. bind (changes_host (listens (listener_of k x g capture))) (λ _. done)) (Some f)) (raise WrongArgument)).run s n) callable

  -- ---- new nodes

  pub element_made : (at : ObjId) (k : NodeId) (x : List ℕ) → class_at s at ≡ class.Node k → is_there s.host.nodes k ≡ true → is_document (kind_at s.host.nodes k.0) ≡ true
      → is_name x ≡ true
      → (node_row calls built_in.NodePrototypeCreateElement (value.Object at) (value.Text x ∷ [])).run s n
      ≡ Ended (Val (value.Object (at_place (length s.heap.objects)))) (after_step s (makes_node (kind.Element (folded x)))) n
  element_made at k x is there document named =
      on_kind_run is_document at k (λ l. with_text calls (value.Text x ∷ []) 0 create_element) is there document
      ∙ ap (λ b. (choose b (new_node (kind.Element (folded x))) (raise InvalidCharacter)).run s n) named

  pub text_made : (at : ObjId) (k : NodeId) (x : List ℕ) → class_at s at ≡ class.Node k → is_there s.host.nodes k ≡ true → is_document (kind_at s.host.nodes k.0) ≡ true
      → (node_row calls built_in.NodePrototypeCreateTextNode (value.Object at) (value.Text x ∷ [])).run s n
      ≡ Ended (Val (value.Object (at_place (length s.heap.objects)))) (after_step s (makes_node (kind.Text x))) n
  text_made at k x is there document = on_kind_run is_document at k (λ l. with_text calls (value.Text x ∷ []) 0 (λ y. new_node (kind.Text y))) is there document

  pub comment_made : (at : ObjId) (k : NodeId) (x : List ℕ) → class_at s at ≡ class.Node k → is_there s.host.nodes k ≡ true → is_document (kind_at s.host.nodes k.0) ≡ true
      → (node_row calls built_in.NodePrototypeCreateComment (value.Object at) (value.Text x ∷ [])).run s n
      ≡ Ended (Val (value.Object (at_place (length s.heap.objects)))) (after_step s (makes_node (kind.Comment x))) n
  comment_made at k x is there document = on_kind_run is_document at k (λ l. with_text calls (value.Text x ∷ []) 0 (λ y. new_node (kind.Comment y))) is there document

  -- ---- events

  pub event_made : (at : ObjId) (k : NodeId) → class_at s at ≡ class.Node k → is_there s.host.nodes k ≡ true → is_document (kind_at s.host.nodes k.0) ≡ true
      → (node_row calls built_in.NodePrototypeCreateEvent (value.Object at) (value.Text (codes "Event") ∷ [])).run s n
      ≡ Ended (Val (value.Object (at_place (length s.heap.objects)))) (after_step s makes_event) n
  event_made at k is there document = on_kind_run is_document at k (λ l. with_text calls (value.Text (codes "Event") ∷ []) 0 create_event) is there document

  pub initialised : (at : ObjId) (e : EventParts) (x : List ℕ) (bubbles cancelable : Bool) → class_at s at ≡ class.Event e
      → (node_row calls built_in.EventPrototypeInitEvent (value.Object at) (value.Text x ∷ value.Bool bubbles ∷ value.Bool cancelable ∷ [])).run s n
      ≡ Ended nothing (after_step s (in_event at (initialises x bubbles cancelable))) n
  initialised at e x bubbles cancelable is =
      ap (λ c. (or_wrong (λ (parts : EventParts). or_wrong (λ o. with_text calls (value.Text x ∷ value.Bool bubbles ∷ value.Bool cancelable ∷ []) 0 (λ y. change_event o (initialises y bubbles cancelable))) (Some at)) (parts_in (Some c))).run s n) is

  -- ---- timers

  not_full : (delay : ℕ) (period : Option ℕ) (f : ObjId) → nat_le timer_limit (length s.host.timers) ≡ false
      → (start delay period f).run s n ≡ Ended (Val (value.Num (Some (pos (least_free s.host.timers))))) (after_step s (in_host (starts delay period f))) n
  not_full delay period f room = ap (λ b. (choose b (raise OutOfRange) (started delay period f)).run s n) room

  pub timeout_started : (f : ObjId) (rest : ℕ) → is_callable_class (class_at s f) ≡ true → nat_le timer_limit (length s.host.timers) ≡ false
      → (timer_row calls built_in.SetTimeout (value.Object f ∷ value.Num (Some (pos rest)) ∷ [])).run s n
      ≡ Ended (Val (value.Num (Some (pos (least_free s.host.timers))))) (after_step s (in_host (starts rest None f))) n
  timeout_started f rest callable room =
      ap (λ b. (choose b (or_wrong (λ g. with_time calls (value.Object f ∷ value.Num (Some (pos rest)) ∷ []) 1 (λ delay. start delay None g)) (Some f)) (raise WrongArgument)).run s n) callable
      ∙ not_full rest None f room

  pub interval_started : (f : ObjId) (rest period : ℕ) → is_callable_class (class_at s f) ≡ true → nat_le timer_limit (length s.host.timers) ≡ false
      → (timer_row calls built_in.SetIntervalFrom (value.Object f ∷ value.Num (Some (pos rest)) ∷ value.Num (Some (pos period)) ∷ [])).run s n
      ≡ Ended (Val (value.Num (Some (pos (least_free s.host.timers))))) (after_step s (in_host (starts rest (Some (max 1 period)) f))) n
  interval_started f rest period callable room =
      ap (λ b. (choose b (or_wrong (λ g. with_time calls (value.Object f ∷ value.Num (Some (pos rest)) ∷ value.Num (Some (pos period)) ∷ []) 1
      (λ delay. with_time calls (value.Object f ∷ value.Num (Some (pos rest)) ∷ value.Num (Some (pos period)) ∷ []) 2 (λ p. start delay (Some (max 1 p)) g))) (Some f)) (raise WrongArgument)).run s n) callable
      ∙ not_full rest (Some (max 1 period)) f room

  pub timer_cleared : (id : ℕ) → (timer_row calls built_in.ClearTimeout (value.Num (Some (pos id)) ∷ [])).run s n ≡ Ended nothing (after_step s (in_host (clears id))) n
  timer_cleared id = refl
