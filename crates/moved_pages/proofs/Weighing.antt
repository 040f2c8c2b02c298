-- What a page weighs can be read off what is saved of it: pages of which the same is saved weigh the same.
use Rattle.std.proofs.Common.{◌≡◌, refl, sym, ap, ◌∙◌, ℕ, Bool, true, false, ◌&&◌, List, [], ◌∷◌, Option, Some, None, length, bytes_eq}
use Rattle.dom_tree.specs.Node.{node_at}
use Rattle.dom_tree.specs.declared.content.Kind.{Kind}
use Rattle.dom_tree.specs.declared.content.Kind.TheVariants as kind
use Rattle.heap_walker.specs.Things.{globals_of, heard_at, needs_of}
use Rattle.heap_walker.specs.Weight.{Load, arguments_load, attributes_load, class_load, code_load, document_load, greatest, has_made_length, kind_load, listeners_load, load, load_of, needs_load, object_load, props_load, set_load, text_load, thing_load, things_load, timers_load, together, units, value_load, value_units, written}
use Rattle.js_values.specs.declared.ids.NodeId.{NodeId}
use Rattle.js_values.specs.declared.ids.ObjId.{ObjId}
use Rattle.js_values.specs.declared.value.Value.{Value}
use Rattle.js_values.specs.declared.value.Value.TheVariants.{Object as Reference}
use Rattle.object_heap.specs.Chain.{object_at}
use Rattle.object_heap.specs.Define.{length_name}
use Rattle.object_heap.specs.Object.{Object}
use Rattle.object_heap.specs.Property.{Props}
use Rattle.object_heap.specs.declared.object.Class.{Class}
use Rattle.object_heap.specs.declared.object.Class.TheVariants as class
use Rattle.page_host.specs.declared.listener.Listener.{Listener}
use Rattle.page_meaning.specs.Places.{document}
use Rattle.page_meaning.specs.Store.{Store}
use Rattle.rebuild_plan.specs.Compact.{Compact, Thing, compact, maker_as, moved_needs, moved_props, moved_value, moved_values, thing_of, things_at}
use Rattle.rebuild_plan.specs.Events.{SavedEvent, event_as}
use Rattle.rebuild_plan.specs.Nodes.{SavedListener, SavedNode, moved_listeners, node_as, node_maker, node_of}
use Rattle.rebuild_plan.specs.Timers.{moved_timers}
use Rattle.rebuild_plan.specs.declared.statement.Maker.{Maker}
use Rattle.rebuild_plan.specs.declared.statement.Maker.TheVariants as made
use Rattle.timer_queue.specs.declared.timer.Live.{Live}

-- ---- what is saved, weighed

abbrev saved_listeners_load : List SavedListener → Load
saved_listeners_load [] = load 0 0
saved_listeners_load (l ∷ ls) = together (load 1 (units (length l.kind))) (saved_listeners_load ls)

-- a node whose kind weighs so much
abbrev node_sum : Load → SavedNode → Load
node_sum kind n = together (together kind (together (attributes_load n.attributes) (set_load n.value))) (saved_listeners_load n.listeners)

abbrev saved_event_load : Option SavedEvent → Load
saved_event_load None = load 0 0
saved_event_load (Some e) = text_load e.kind

-- what is made, besides its properties. The document is a node that is not made
abbrev maker_load : Maker → SavedNode → Option SavedEvent → Load
maker_load (made.Func c needs) n e = together (code_load c) (needs_load needs)
maker_load (made.Bind target this args) n e = together (value_load this) (arguments_load args)
maker_load (made.Element name) n e = node_sum (text_load name) n
maker_load (made.Text text) n e = node_sum (text_load text) n
maker_load (made.Comment text) n e = node_sum (text_load text) n
maker_load (made.Plain proto) n e = node_sum (load 0 0) n
maker_load made.Event n e = saved_event_load e
maker_load m n e = load 0 0

abbrev gets_length : Maker → Bool
gets_length (made.Func c needs) = true
gets_length (made.Bind target this args) = true
gets_length m = false

abbrev saved_load : Thing → Load
saved_load t = together (maker_load t.maker t.node t.event) (props_load (written (gets_length t.maker) t.props))

abbrev saved_things_load : List Thing → Load
saved_things_load [] = load 0 0
saved_things_load (t ∷ ts) = together (together (load 1 0) (saved_load t)) (saved_things_load ts)

abbrev compact_load : Compact → Load
compact_load c = together (props_load c.globals) (together (saved_load c.document) (together (timers_load c.timers) (saved_things_load c.things)))

-- ---- places weigh nothing

module _ (things : List ℕ) where
  same_units : (v : Value) → value_units (moved_value things v) ≡ value_units v
  same_units (Reference at) = refl
  same_units v = refl

  same_needs : (ns : List (List ℕ × Value)) → needs_load (moved_needs things ns) ≡ needs_load ns
  same_needs [] = refl
  same_needs (n ∷ ns) = rw (same_needs ns, same_units n.1) refl

  same_arguments : (vs : List Value) → arguments_load (moved_values things vs) ≡ arguments_load vs
  same_arguments [] = refl
  same_arguments (v ∷ vs) = rw (same_arguments vs, same_units v) refl

  same_props : (ps : Props) → props_load (moved_props things ps) ≡ props_load ps
  same_props [] = refl
  same_props (e ∷ es) = rw (same_props es, same_units e.1.value) refl

  same_written : (made : Bool) (ps : Props) → props_load (written made (moved_props things ps)) ≡ props_load (written made ps)
  same_written made [] = refl
  same_written made (e ∷ es) = by (made && bytes_eq e.0 length_name) refl (same_written made es)
    where
      by : (c : Bool) → (made && bytes_eq e.0 length_name) ≡ c → props_load (written made (moved_props things es)) ≡ props_load (written made es)
          → props_load (written made (moved_props things (e ∷ es))) ≡ props_load (written made (e ∷ es))
      by true is others = rw is others
      by false is others = rw is (rw (others, same_units e.1.value) refl)

  same_listeners : (ls : List Listener) → saved_listeners_load (moved_listeners things ls) ≡ listeners_load ls
  same_listeners [] = refl
  same_listeners (l ∷ ls) = rw (same_listeners ls) refl

  same_greatest : (clock : ℕ) (ts : List Live) → greatest (moved_timers things clock ts) ≡ greatest ts
  same_greatest clock [] = refl
  same_greatest clock (t ∷ ts) = rw (same_greatest clock ts) refl

  same_count : (clock : ℕ) (ts : List Live) → length (moved_timers things clock ts) ≡ length ts
  same_count clock [] = refl
  same_count clock (t ∷ ts) = rw (same_count clock ts) refl

  same_timers : (clock : ℕ) (ts : List Live) → timers_load (moved_timers things clock ts) ≡ timers_load ts
  same_timers clock ts = rw (same_count clock ts, same_greatest clock ts) refl

  -- ---- things

  same_length : (s : Store) (proto : Option ObjId) (c : Class) → gets_length (maker_as s things proto c) ≡ has_made_length c
  same_length s proto (class.Node k) = by_kind (node_at s.host.nodes k.0).content.kind
    where
      by_kind : (d : Kind) → gets_length (node_maker things proto d) ≡ false
      by_kind kind.Document = refl
      by_kind (kind.Element name) = refl
      by_kind (kind.Text text) = refl
      by_kind (kind.Comment text) = refl
  same_length s proto c = refl

  same_node : (s : Store) (proto : Option ObjId) (k : NodeId) → maker_load (maker_as s things proto (class.Node k)) (node_of s.host things k) None ≡ class_load s (class.Node k)
  same_node s proto k = by_kind (node_at s.host.nodes k.0).content.kind
    where
      attributes : Load
      attributes = attributes_load (node_at s.host.nodes k.0).content.attributes

      value : Load
      value = set_load (node_at s.host.nodes k.0).content.value

      summed : (d : Load) → node_sum d (node_of s.host things k) ≡ together (together d (together attributes value)) (listeners_load (heard_at k.0 s.host.listeners))
      summed d = ap (λ ls. together (together d (together attributes value)) ls) (same_listeners (heard_at k.0 s.host.listeners))

      by_kind : (d : Kind) → maker_load (node_maker things proto d) (node_of s.host things k) None
          ≡ together (together (kind_load d) (together attributes value)) (listeners_load (heard_at k.0 s.host.listeners))
      by_kind kind.Document = summed (load 0 0)
      by_kind (kind.Element name) = summed (text_load name)
      by_kind (kind.Text text) = summed (text_load text)
      by_kind (kind.Comment text) = summed (text_load text)

  same_class : (s : Store) (proto : Option ObjId) (c : Class) → maker_load (maker_as s things proto c) (node_as s.host things c) (event_as things c) ≡ class_load s c
  same_class s proto (class.Page c env) = rw (same_needs (needs_of s env c)) refl
  same_class s proto (class.Bound target this args) = rw (same_units this, same_arguments args) refl
  same_class s proto (class.Node k) = same_node s proto k
  same_class s proto (class.Event parts) = refl
  same_class s proto c = refl

  same_thing : (s : Store) (o : Object) → saved_load (thing_of s things o) ≡ object_load s o
  same_thing s o = rw (same_class s o.proto o.class, same_length s o.proto o.class, same_written (has_made_length o.class) o.props) refl

  same_things : (s : Store) (ks : List ℕ) → saved_things_load (things_at s things ks) ≡ things_load s ks
  same_things s [] = refl
  same_things s (k ∷ ks) =
      ap (λ l. together (together (load 1 0) l) (saved_things_load (things_at s things ks))) (same_thing s (object_at s.heap.objects k))
      ∙ ap (λ l. together (thing_load s (object_at s.heap.objects k)) l) (same_things s ks)

  same_load : (s : Store) → compact_load (compact s things) ≡ load_of s things
  same_load s =
      ap (λ l. together l (together (saved_load document_thing) (together timers rest))) (same_props (globals_of s))
      ∙ ap (λ l. together globals (together l (together timers rest))) (same_thing s (object_at s.heap.objects document.0))
      ∙ ap (λ l. together globals (together (document_load s) (together l rest))) (same_timers s.host.clock s.host.timers)
      ∙ ap (λ l. together globals (together (document_load s) (together (timers_load s.host.timers) l))) (same_things s things)
    where
      document_thing : Thing
      document_thing = thing_of s things (object_at s.heap.objects document.0)

      globals : Load
      globals = props_load (globals_of s)

      timers : Load
      timers = timers_load (moved_timers things s.host.clock s.host.timers)

      rest : Load
      rest = saved_things_load (things_at s things things)

-- ---- pages of which the same is saved

pub loads_are_same : (s t : Store) (ks js : List ℕ) → compact s ks ≡ compact t js → load_of s ks ≡ load_of t js
loads_are_same s t ks js same = sym (same_load ks s) ∙ ap compact_load same ∙ same_load js t
