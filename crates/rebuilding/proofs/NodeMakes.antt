-- The makers of nodes and of events: the object is the next one, and a node is the next one of the host.
use Rattle.std.proofs.Common.{◌≡◌, ◌⊎◌, inl, inr, refl, sym, ap, subst, ◌∙◌, ℕ, suc, ◌+◌, ◌<◌, ◌≤◌, Bool, true, List, [], ◌∷◌, Some, length, le_refl, length-append, arith, if◌then◌else◌}
use Rattle.std.proofs.lemmas.Bool.{and_from, and_parts, cases_lt, lt-ltb}
use Rattle.std.proofs.lemmas.List.{get_or_append_left, get_or_push}
use Rattle.std.specs.Option.{ForSome}
use Rattle.js_values.specs.declared.ids.ObjId.{ObjId}
use Rattle.js_values.specs.declared.value.Value.TheVariants.{Object as Reference}
use Rattle.dom_tree.specs.Content.{new_content}
use Rattle.dom_tree.specs.Name.{folded, is_folded_name, is_name}
use Rattle.dom_tree.specs.Node.{Nodes, is_document, kind_at, with_new}
use Rattle.dom_tree.specs.declared.content.Kind.{Kind}
use Rattle.dom_tree.specs.declared.content.Kind.TheVariants as kind
use Rattle.object_heap.proofs.Callers.{new_fit, object_last, settled_same}
use Rattle.object_heap.specs.Chain.{object_at}
use Rattle.object_heap.specs.Heap.{Contents, made, with_new_object}
use Rattle.object_heap.specs.Object.{Object, target_of}
use Rattle.object_heap.specs.declared.object.Class.TheVariants as class
use Rattle.page_host.specs.Host.{Host, no_object, object_of_node, with_node}
use Rattle.page_host.specs.Sound as host
use Rattle.page_host.specs.Steps.{may_be_made, with_new_node}
use Rattle.page_host.proofs.Callers.{new_nodes_stay}
use Rattle.page_meaning.specs.Act.{Ended, Outcome}
use Rattle.page_meaning.specs.Calls.{calls_at}
use Rattle.page_meaning.specs.Expressions.{eval}
use Rattle.page_meaning.specs.Places.{at_place, document, event_prototype, node_prototype}
use Rattle.page_meaning.specs.Steps.{after_step, event_object, makes_event, makes_node, node_object}
use Rattle.page_meaning.specs.Store.{Store, with_both, with_heap}
use Rattle.page_meaning.specs.declared.signal.Signal.{Signal}
use Rattle.page_meaning.specs.declared.signal.Signal.TheVariants.{Value as Val}
use Rattle.page_writer.specs.Frame.{nth_node}
use Rattle.page_writer.specs.References.{document_expr}
use Rattle.page_writer.specs.Statements.{maker_expr}
use Rattle.rebuild_plan.specs.declared.statement.Maker.{Maker}
use Rattle.rebuild_plan.specs.declared.statement.Maker.TheVariants.{Element, Text, Comment, Event}
use Rattle.rebuilding.specs.Running.{CanMake, IsMade, made_host}
use Rattle.rebuilding.specs.Scene.{IsHosting, IsRunning, Scene, inside}
use Rattle.rebuilding.proofs.HostCalls.{Reads}
use Rattle.rebuilding.proofs.HostMethods as methods
use Rattle.rebuilding.proofs.Making.{Makes}
use Rattle.rebuilding.proofs.Placed.{event_low, node_low}
use Rattle.rebuilding.proofs.Staying.{hosting_stays, low_there, made_there, none_below, running_made, some_below, stays_made}
use Rattle.rebuilding.proofs.StepStatements.{IsNodeAt, comment_runs, element_runs, event_runs, text_runs}

-- ---- the host with one node more

first_there : (t : Nodes) → is_document (kind_at t 0) ≡ true → 0 < length t
first_there [] e = cc e
first_there (n ∷ ns) e = omega arith

module _ (s : Store) (k : Kind) (may : may_be_made k ≡ true) where
  abbrev next : Contents
  next = with_new_object s.heap (node_object s)

  abbrev at : ObjId
  at = at_place (length s.heap.objects)

  abbrev joined : Host
  joined = with_node s.host (with_new s.host.nodes (new_content k)) at

  is_joined : with_new_node s.host k at ≡ joined
  is_joined = ap (λ b. if b then joined else s.host) may

  objects_joined : IsHosting s.heap s.host → (j : ℕ) → j < length joined.nodes
      → (object_at next.objects (object_of_node joined.objects (nth_node j)).0).class ≡ class.Node (nth_node j)
  objects_joined is j low = by (cases_lt j (length s.host.nodes))
    where
      long : length joined.nodes ≡ length s.host.nodes + 1
      long = length-append s.host.nodes _

      kept : IsHosting next s.host
      kept = hosting_stays s.heap next s.host (stays_made s.heap (node_object s)) is

      by : (j < length s.host.nodes) ⊎ (length s.host.nodes ≤ j) → (object_at next.objects (object_of_node joined.objects (nth_node j)).0).class ≡ class.Node (nth_node j)
      by (inl old) =
          ap (λ (q : ObjId). (object_at next.objects q.0).class) (get_or_append_left s.host.objects (at ∷ []) no_object j (omega (arith, old, is.sound.objects)))
          ∙ kept.objects j old
      by (inr new) =
          let last : j ≡ length s.host.nodes = omega (arith, new, low, long) in
          ap (λ (q : ObjId). (object_at next.objects q.0).class) (get_or_push s.host.objects at no_object j (omega (arith, last, is.sound.objects)))
          ∙ ap (λ (o : Object). o.class) (object_last s.heap.objects (node_object s))
          ∙ ap (λ n. class.Node (nth_node n)) (sym last)

  pub node_hosting : IsHosting s.heap s.host → IsHosting next (with_new_node s.host k at)
  node_hosting is = subst (λ g. IsHosting next g) (sym is_joined) (record {
    sound = subst (λ g. host.IsSound g) is_joined (new_nodes_stay s.host k at is.sound);
    objects = objects_joined is;
    clock = is.clock;
  })

-- ---- what is made

module _ (c : Scene) (s : Store) (sites : List ℕ) (r : IsRunning c s.heap sites) (n : ℕ) where
  -- an object without properties, whose prototype is built in
  fresh_same : (o : Object) → ForSome o.proto (λ p. p.0 < length s.heap.objects) → ForSome (target_of o.class) (λ t. t.0 < length s.heap.objects)
      → made s.heap o ≡ with_new_object s.heap o
  fresh_same o proto target = ap (with_new_object s.heap) (settled_same (length s.heap.objects) o proto target)

  node_there : ForSome (Some node_prototype) (λ q. q.0 < length s.heap.objects)
  node_there = some_below node_prototype (length s.heap.objects) (low_there c s.heap sites r node_prototype.0 node_low)

  event_there : ForSome (Some event_prototype) (λ q. q.0 < length s.heap.objects)
  event_there = some_below event_prototype (length s.heap.objects) (low_there c s.heap sites r event_prototype.0 event_low)

  node_makes : (m : Maker) (k : Kind) (out : Outcome Signal) → may_be_made k ≡ true
      → out ≡ Ended (Val (Reference (at_place (length s.heap.objects)))) (after_step s (makes_node k)) n
      → IsMade c s.heap s.host (with_new_object s.heap (node_object s)) sites (length s.heap.objects) m (node_object s)
      → with_new_node s.host k (at_place (length s.heap.objects)) ≡ made_host s.host m (length s.heap.objects)
      → Makes c s sites m (suc n) out
  node_makes m k out may ran is_made same =
      let o = node_object s in
      let g = with_new_node s.host k (at_place (length s.heap.objects)) in
      record {
        after = with_new_object s.heap o;
        host = g;
        has_host = same;
        place = length s.heap.objects;
        left = n;
        steps = omega arith;
        ends = ran
            ∙ ap (λ (b : Bool). Ended (Val (Reference (at_place (length s.heap.objects)))) (with_both s (if b then made s.heap o else s.heap) g) n) may
            ∙ ap (λ (h : Contents). Ended (Val (Reference (at_place (length s.heap.objects)))) (with_both s h g) n)
            (fresh_same o node_there (none_below (length s.heap.objects)));
        young = le_refl (length s.heap.objects);
        there = made_there s.heap o;
        object = subst (λ p. IsMade c s.heap s.host (with_new_object s.heap o) sites (length s.heap.objects) m p) (sym (object_last s.heap.objects o)) is_made;
        stays = stays_made s.heap o;
        running = running_made c s.heap sites o r (new_fit o.class (Some node_prototype)) node_there (none_below (length s.heap.objects));
        hosting = node_hosting s k may;
      }

  event_makes : (out : Outcome Signal) → out ≡ Ended (Val (Reference (at_place (length s.heap.objects)))) (after_step s makes_event) n
      → Makes c s sites Event (suc n) out
  event_makes out ran = record {
    after = with_new_object s.heap event_object;
    host = s.host;
    has_host = refl;
    place = length s.heap.objects;
    left = n;
    steps = omega arith;
    ends = ran ∙ ap (λ (h : Contents). Ended (Val (Reference (at_place (length s.heap.objects)))) (with_heap s h) n)
        (fresh_same event_object event_there (none_below (length s.heap.objects)));
    young = le_refl (length s.heap.objects);
    there = made_there s.heap event_object;
    object = object_last s.heap.objects event_object;
    stays = stays_made s.heap event_object;
    running = running_made c s.heap sites event_object r (new_fit event_object.class (Some event_prototype)) event_there (none_below (length s.heap.objects));
    hosting = hosting_stays s.heap (with_new_object s.heap event_object) s.host (stays_made s.heap event_object);
  }

  module _ (d : ℕ) (is : IsHosting s.heap s.host) (read : Reads (inside c) d s n document_expr (Reference document)) where
    first : is_document (kind_at s.host.nodes 0) ≡ true
    first = is.sound.nodes.document 0

    here : IsNodeAt s document (nth_node 0)
    here = record { class = r.own.document.class; there = lt-ltb 0 (length s.host.nodes) (first_there s.host.nodes first) }

    abbrev Made : Maker → Type 0
    Made m = Makes c s sites m (suc n) ((eval (calls_at (suc d)) (inside c) (maker_expr m)).run s (suc n))

    pub element_made : (x : List ℕ) → CanMake s.heap sites (Element x) → Made (Element x)
    element_made x (named, same, lacks) =
        node_makes (Element x) (kind.Element (folded x)) _ (and_from (is_folded_name (folded x)) true (ap is_folded_name same ∙ named) refl)
        (element_runs (inside c) d s n document_expr document (nth_node 0) read here first x
        (methods.creates_element s r.place.sound.prototypes r.own.objects document r.own.document.proto lacks) (and_parts (is_name x) _ named).0)
        refl (ap (λ y. with_new_node s.host (kind.Element y) (at_place (length s.heap.objects))) same)

    pub text_made : (x : List ℕ) → CanMake s.heap sites (Text x) → Made (Text x)
    text_made x lacks =
        node_makes (Text x) (kind.Text x) _ refl
        (text_runs (inside c) d s n document_expr document (nth_node 0) read here first x
        (methods.creates_text s r.place.sound.prototypes r.own.objects document r.own.document.proto lacks)) refl refl

    pub comment_made : (x : List ℕ) → CanMake s.heap sites (Comment x) → Made (Comment x)
    comment_made x lacks =
        node_makes (Comment x) (kind.Comment x) _ refl
        (comment_runs (inside c) d s n document_expr document (nth_node 0) read here first x
        (methods.creates_comment s r.place.sound.prototypes r.own.objects document r.own.document.proto lacks)) refl refl

    pub event_made : CanMake s.heap sites Event → Made Event
    event_made lacks =
        event_makes _ (event_runs (inside c) d s n document_expr document (nth_node 0) read here first
        (methods.creates_event s r.place.sound.prototypes r.own.objects document r.own.document.proto lacks))
