-- What is done to nodes, listeners and timers at once.
use Rattle.std.proofs.Common.{◌≡◌, refl, sym, ap, subst, ◌∙◌, ◌≤◌, ℕ, zero, suc, Bool, true, false, not, ◌&&◌, List, [], ◌∷◌, ◌++◌, Option, Some, None, Result, Ok, Err, is_some, length, map, nat_lt, reverse, if◌then◌else◌, arith}
use Rattle.std.specs.Option.{is_none}
use Rattle.std.specs.Prelude.{OnErr}
use Rattle.std.proofs.lemmas.Bool.{and_parts}
use Rattle.std.proofs.lemmas.Bool.Decides.{nat_tests}
use Rattle.std.proofs.lemmas.List.{get_or_past}
use Rattle.js_core.specs.Text.{Text}
use Rattle.js_core.specs.declared.memory.Failure.{Failure}
use Rattle.js_values.specs.declared.ids.NodeId.{NodeId}
use Rattle.js_values.specs.declared.ids.ObjId.{ObjId}
use Rattle.js_values.specs.declared.throw.Throw.TheVariants.{InvalidCharacter, WrongArgument}
use Rattle.js_values.specs.declared.value.Value.{Value}
use Rattle.js_values.specs.declared.value.Value.TheVariants.{Undefined}
use Rattle.dom_tree.specs.declared.content.Kind.{Kind}
use Rattle.dom_tree.specs.declared.content.Kind.TheVariants.{Element}
use Rattle.dom_tree.proofs.Callers.{folded_name}
use Rattle.dom_tree.specs.declared.fault.DomError.{DomError}
use Rattle.dom_tree.specs.Change.{insertion_error, replacement_error}
use Rattle.dom_tree.specs.Name.{folded, is_name}
use Rattle.dom_tree.specs.Node.{Nodes, above_within, kind_at, no_node, nodes_above}
use Rattle.dom_tree.specs.Sound.{takes_value}
use Rattle.dom_tree.specs.Steps.{inserts, is_there, replaces, sets_attribute, sets_value}
use Rattle.object_heap.specs.declared.object.Class.TheVariants.{Node}
use Rattle.object_heap.specs.Heap.{made, new_object}
use Rattle.object_heap.specs.Object.{Object}
use Rattle.page_host.specs.declared.host_name.HostName.TheVariants.{Value as HasValue}
use Rattle.page_host.specs.declared.listener.Listener.{Listener}
use Rattle.page_host.specs.declared.path.Phase.TheVariants.{AtTarget}
use Rattle.page_host.specs.Answers.{answer_of}
use Rattle.page_host.specs.Host.{Host}
use Rattle.page_host.specs.HostNames.{has_at_node, is_handler}
use Rattle.page_host.specs.Paths.{event_path, in_phase, path_over}
use Rattle.page_host.specs.Steps.{after_host, in_nodes, listens, may_be_made, starts, with_new_node}
use Rattle.page_meaning.specs.Classes.{class_at, is_callable_class}
use Rattle.page_meaning.specs.HostPuts.{stepped}
use Rattle.page_meaning.specs.NodeRows.{set_attribute}
use Rattle.page_meaning.specs.Pages.{with_input}
use Rattle.page_meaning.specs.Places.{at_place, node_prototype}
use Rattle.page_meaning.specs.Primitives.{changes_host, make_node}
use Rattle.page_meaning.specs.Act.{Act, Ended, choose}
use Rattle.page_meaning.specs.Steps.{with_node_object}
use Rattle.page_meaning.specs.Store.{Store, with_both, with_heap, with_host}
use Rattle.page_meaning.specs.declared.signal.Signal.TheVariants.{Value as Val}
use Rattle.page_meaning.specs.Errors.{raise}
use Rattle.page_state.specs.Does.{Does, Raises}

-- ---- new nodes

-- the host has it, and then the heap its object
pub node_made : (s t u : Store) (k : Kind) (at new : ObjId) (node : NodeId) → may_be_made k ≡ true → at.0 ≡ length s.heap.objects → node.0 ≡ length s.host.nodes
    → t ≡ with_host s (with_new_node s.host k at) → new.0 ≡ length t.heap.objects → u ≡ with_heap t (made t.heap (new_object (Node node) (Some node_prototype)))
    → Does (λ _. make_node k) s new u
node_made s t u k at new node fit first place host next heap = record { is = λ c n. (λ j. Ended (sym given j) (sym all j) n) }
  where
    here : ObjId
    here = at_place (length s.heap.objects)

    this : NodeId
    this = record { 0 = length s.host.nodes }

    object : NodeId → Object
    object n = new_object (Node n) (Some node_prototype)

    given : new ≡ here
    given = λ j. record { 0 = (next ∙ ap (λ (x : Store). length x.heap.objects) host) j }

    all : u ≡ with_both s (with_node_object s k) (with_new_node s.host k here)
    all =
        heap
        ∙ ap (λ (x : Store). with_heap x (made x.heap (object node))) host
        ∙ ap (λ m. with_both s (made s.heap (object m)) (with_new_node s.host k at)) (λ j. record { 0 = place j })
        ∙ ap (λ a. with_both s (made s.heap (object this)) (with_new_node s.host k a)) (λ j. record { 0 = first j })
        ∙ ap (λ (b : Bool). with_both s (if b then made s.heap (object this) else s.heap) (with_new_node s.host k here)) (sym fit)

-- an element, whose name is in lower case
pub element_fits : (x : Text) → is_name x ≡ true → may_be_made (Element (folded x)) ≡ true
element_fits x h = rw (folded_name x h) refl

-- ---- nodes that are refused

pub none_inserted : (h : Host) (p c : NodeId) (before : Option NodeId) (r : Result (Unit {0}) DomError)
    → r ≡ answer_of (insertion_error h.nodes p c before) → OnErr r (after_host h (in_nodes (inserts p c before)) ≡ h)
none_inserted h p c before (Ok u) e = tt
none_inserted h p c before (Err e) same = by (insertion_error h.nodes p c before) refl
  where
    by : (o : Option DomError) → insertion_error h.nodes p c before ≡ o → after_host h (in_nodes (inserts p c before)) ≡ h
    by None g = cc (rw g at same)
    by (Some d) g = by_there (is_there h.nodes c) refl
      where
        by_there : (b : Bool) → is_there h.nodes c ≡ b → after_host h (in_nodes (inserts p c before)) ≡ h
        by_there true f = rw (f, g) refl
        by_there false f = rw f refl

pub none_replaced : (h : Host) (p c old : NodeId) (r : Result (Unit {0}) DomError)
    → r ≡ answer_of (replacement_error h.nodes p c old) → OnErr r (after_host h (in_nodes (replaces p c old)) ≡ h)
none_replaced h p c old (Ok u) e = tt
none_replaced h p c old (Err e) same = by (replacement_error h.nodes p c old) refl
  where
    by : (o : Option DomError) → replacement_error h.nodes p c old ≡ o → after_host h (in_nodes (replaces p c old)) ≡ h
    by None g = cc (rw g at same)
    by (Some d) g = by_there (is_there h.nodes c) refl
      where
        by_there : (b : Bool) → is_there h.nodes c ≡ b → after_host h (in_nodes (replaces p c old)) ≡ h
        by_there true f = rw (f, g) refl
        by_there false f = rw f refl

-- ---- attributes

abbrev named_only : NodeId → Text → Text → Act
named_only k x v = choose (is_name x) (stepped (sets_attribute k x v)) (raise InvalidCharacter)

pub attribute_refused : (k : NodeId) (x v : Text) (s t : Store) (e : Failure Value) → is_handler (folded x) ≡ true → Raises (λ _. raise WrongArgument) s t e
    → Raises (λ _. set_attribute k x v) s t e
attribute_refused k x v s t e h r = subst (λ b. Raises (λ _. choose b (raise WrongArgument) (named_only k x v)) s t e) (sym h) r

pub attribute_unnamed : (k : NodeId) (x v : Text) (s t : Store) (e : Failure Value) → is_handler (folded x) ≡ false → is_name x ≡ false
    → Raises (λ _. raise InvalidCharacter) s t e → Raises (λ _. set_attribute k x v) s t e
attribute_unnamed k x v s t e h g r =
    subst (λ b. Raises (λ _. choose b (raise WrongArgument) (named_only k x v)) s t e) (sym h)
    (subst (λ b. Raises (λ _. choose b (stepped (sets_attribute k x v)) (raise InvalidCharacter)) s t e) (sym g) r)

pub attribute_set : (k : NodeId) (x v : Text) (s : Store) (h : Host) → is_handler (folded x) ≡ false → is_name x ≡ true
    → h ≡ after_host s.host (in_nodes (sets_attribute k x v)) → Does (λ _. set_attribute k x v) s (Val Undefined) (with_host s h)
attribute_set k x v s h plain named same =
    subst (λ b. Does (λ _. choose b (raise WrongArgument) (named_only k x v)) s (Val Undefined) (with_host s h)) (sym plain)
    (subst (λ b. Does (λ _. choose b (stepped (sets_attribute k x v)) (raise InvalidCharacter)) s (Val Undefined) (with_host s h)) (sym named)
    (record { is = λ c n. rw same refl }))

-- ---- values of inputs

none_there : (t : Nodes) (k : NodeId) → is_there t k ≡ false → takes_value (kind_at t k.0) ≡ false
none_there t k h =
    let past : length t ≤ k.0 = grind (arith, nat_tests) in
    ap (λ n. takes_value n.content.kind) (get_or_past t k.0 no_node past)

pub no_input : (s : Store) (k : NodeId) (x : Text) → has_at_node s.host.nodes k HasValue ≡ false → s ≡ with_input x k s
no_input s k x h = by (is_there s.host.nodes k) refl
  where
    by : (b : Bool) → is_there s.host.nodes k ≡ b → s ≡ with_input x k s
    by true e = let none : takes_value (kind_at s.host.nodes k.0) ≡ false = rw e at h in rw none refl
    by false e = rw (none_there s.host.nodes k e) refl

-- ---- listeners

pub none_called : (s : Store) (l : Listener) → is_callable_class (class_at s l.call) ≡ false → Does (λ _. changes_host (listens l)) s tt s
none_called s l h = record { is = λ c n. rw h refl }

pub no_listener : (s : Store) (l : Listener) → is_there s.host.nodes l.node ≡ false → Does (λ _. changes_host (listens l)) s tt s
no_listener s l h = by (is_callable_class (class_at s l.call)) refl
  where
    by : (b : Bool) → is_callable_class (class_at s l.call) ≡ b → Does (λ _. changes_host (listens l)) s tt s
    by true e = record { is = λ c n. rw (e, h) refl }
    by false e = none_called s l e

-- where what is to be called can be
pub callable_step : (s : Store) (l : Listener) (h : Host) → is_callable_class (class_at s l.call) ≡ true → h ≡ after_host s.host (listens l)
    → Does (λ _. changes_host (listens l)) s tt (with_host s h)
callable_step s l h e same = record { is = λ c n. rw (e, same) refl }

-- ---- the way of an event at a node that is not there

none_above : (t : Nodes) (n : ℕ) → above_within t n None ≡ []
none_above t zero = refl
none_above t (suc n) = refl

pub way_of_none : (t : Nodes) (k : NodeId) (bubbles : Bool) → length t ≤ k.0 → in_phase AtTarget k ∷ [] ≡ event_path t k bubbles
way_of_none t k bubbles past = by bubbles
  where
    none : nodes_above t k ≡ []
    none = ap (λ n. above_within t (length t) n.parent) (get_or_past t k.0 no_node past) ∙ none_above t (length t)

    by : (b : Bool) → in_phase AtTarget k ∷ [] ≡ event_path t k b
    by true = ap (λ l. path_over l k true) (sym none)
    by false = ap (λ l. path_over l k false) (sym none)

-- ---- timers

pub timer_started : (s : Store) (delay : ℕ) (period : Option ℕ) (f : ObjId) (h : Host) → is_callable_class (class_at s f) ≡ true → h ≡ after_host s.host (starts delay period f)
    → Does (λ _. changes_host (starts delay period f)) s tt (with_host s h)
timer_started s delay period f h e same = record { is = λ c n. rw (e, same) refl }

pub is_due_at : {A : Type 0} (o : Option A) (b : Bool) → is_none o ≡ not b → b ≡ is_some o
is_due_at None true h = cc h
is_due_at None false h = refl
is_due_at (Some a) true h = refl
is_due_at (Some a) false h = cc h
