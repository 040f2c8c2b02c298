-- Methods that nodes and events have from their prototypes, in a page whose built-in objects are as they were.
use Rattle.std.proofs.Common.{◌≡◌, refl, ap, ◌∙◌, ℕ, ◌<◌, List, Option, Some, None, codes, arith}
use Rattle.std.specs.Option.{option_map}
use Rattle.js_values.specs.declared.built_in.BuiltIn.{BuiltIn}
use Rattle.js_values.specs.declared.built_in.BuiltIn.TheVariants as built_in
use Rattle.js_values.specs.declared.ids.ObjId.{ObjId}
use Rattle.js_values.specs.declared.value.Value.TheVariants.{Object as Reference}
use Rattle.object_heap.proofs.Callers.{property_on}
use Rattle.object_heap.specs.Chain.{AreOlder, first_found, get_property, object_at}
use Rattle.object_heap.specs.Object.{Object}
use Rattle.object_heap.specs.Property.{hidden, own_property}
use Rattle.object_heap.specs.declared.object.Class.TheVariants.{Native}
use Rattle.object_heap.specs.declared.property.Prop.{Prop}
use Rattle.page_host.specs.HostNames.{host_name}
use Rattle.page_meaning.specs.Places.{built_in_count, event_prototype, event_prototype_place, function_at, function_place, node_prototype, node_prototype_place}
use Rattle.page_meaning.specs.Pristine.{built_ins}
use Rattle.page_meaning.specs.Store.{Store}
use Rattle.rebuilding.proofs.HostCalls.{HasMethod, IsNative}

-- the prototype has the method, by a name that is none of the host's, and the method is the built-in function
record IsHeld (prototype : ℕ) (x : List ℕ) (which : BuiltIn) : Type 0 where
  plain : host_name x ≡ None
  held : own_property (object_at built_ins prototype).props x ≡ Some (hidden (Reference (function_at which)))
  native : (object_at built_ins (function_place which)).class ≡ Native which
  low : function_place which < built_in_count
  positive : 0 < function_place which

module _ (s : Store) (older : AreOlder s.heap.objects) (stand : (k : ℕ) → 0 < k → k < built_in_count → object_at s.heap.objects k ≡ object_at built_ins k) where
  pub native_there : (which : BuiltIn) → (object_at built_ins (function_place which)).class ≡ Native which → 0 < function_place which → function_place which < built_in_count → IsNative s which
  native_there which native positive low = ap (λ (o : Object). o.class) (stand (function_place which) positive low) ∙ native

  method_from : (at : ObjId) (p : ObjId) (x : List ℕ) (which : BuiltIn) → 0 < p.0 → p.0 < built_in_count → own_property (object_at s.heap.objects at.0).props x ≡ None
      → (object_at s.heap.objects at.0).proto ≡ Some p → IsHeld p.0 x which → HasMethod s at x which
  method_from at p x which first last none proto h = record {
    plain = h.plain;
    got = ap (option_map (λ (q : Prop). q.value))
        (property_on s.heap.objects at.0 x older
        ∙ (λ i. first_found (none i) (proto i) (λ q. get_property s.heap.objects q x))
        ∙ property_on s.heap.objects p.0 x older
        ∙ ap (λ (o : Option Prop). first_found o (object_at s.heap.objects p.0).proto (λ q. get_property s.heap.objects q x))
        (ap (λ (o : Object). own_property o.props x) (stand p.0 first last) ∙ h.held));
    native = native_there which h.native h.positive h.low;
  }

  -- ---- nodes

  module _ (at : ObjId) (proto : (object_at s.heap.objects at.0).proto ≡ Some node_prototype) where
    of_node : (x : List ℕ) (which : BuiltIn) → own_property (object_at s.heap.objects at.0).props x ≡ None → IsHeld node_prototype.0 x which → HasMethod s at x which
    unfolding built_in_count node_prototype_place
    of_node x which none h = method_from at node_prototype x which (omega arith) (omega arith) none proto h

    abbrev Lacks : List ℕ → Type 0
    Lacks x = own_property (object_at s.heap.objects at.0).props x ≡ None

    pub appends : Lacks (codes "appendChild") → HasMethod s at (codes "appendChild") built_in.NodePrototypeAppendChild
    unfolding built_in_count node_prototype_place function_place host_name
    appends none = of_node (codes "appendChild") built_in.NodePrototypeAppendChild none (record { plain = refl; held = refl; native = refl; low = omega arith; positive = omega arith })

    pub removes : Lacks (codes "removeChild") → HasMethod s at (codes "removeChild") built_in.NodePrototypeRemoveChild
    unfolding built_in_count node_prototype_place function_place host_name
    removes none = of_node (codes "removeChild") built_in.NodePrototypeRemoveChild none (record { plain = refl; held = refl; native = refl; low = omega arith; positive = omega arith })

    pub sets_attribute : Lacks (codes "setAttribute") → HasMethod s at (codes "setAttribute") built_in.NodePrototypeSetAttribute
    unfolding built_in_count node_prototype_place function_place host_name
    sets_attribute none = of_node (codes "setAttribute") built_in.NodePrototypeSetAttribute none (record { plain = refl; held = refl; native = refl; low = omega arith; positive = omega arith })

    pub adds_listener : Lacks (codes "addEventListener") → HasMethod s at (codes "addEventListener") built_in.NodePrototypeAddEventListener
    unfolding built_in_count node_prototype_place function_place host_name
    adds_listener none = of_node (codes "addEventListener") built_in.NodePrototypeAddEventListener none (record { plain = refl; held = refl; native = refl; low = omega arith; positive = omega arith })

    pub dispatches : Lacks (codes "dispatchEvent") → HasMethod s at (codes "dispatchEvent") built_in.NodePrototypeDispatchEvent
    unfolding built_in_count node_prototype_place function_place host_name
    dispatches none = of_node (codes "dispatchEvent") built_in.NodePrototypeDispatchEvent none (record { plain = refl; held = refl; native = refl; low = omega arith; positive = omega arith })

    pub creates_element : Lacks (codes "createElement") → HasMethod s at (codes "createElement") built_in.NodePrototypeCreateElement
    unfolding built_in_count node_prototype_place function_place host_name
    creates_element none = of_node (codes "createElement") built_in.NodePrototypeCreateElement none (record { plain = refl; held = refl; native = refl; low = omega arith; positive = omega arith })

    pub creates_text : Lacks (codes "createTextNode") → HasMethod s at (codes "createTextNode") built_in.NodePrototypeCreateTextNode
    unfolding built_in_count node_prototype_place function_place host_name
    creates_text none = of_node (codes "createTextNode") built_in.NodePrototypeCreateTextNode none (record { plain = refl; held = refl; native = refl; low = omega arith; positive = omega arith })

    pub creates_comment : Lacks (codes "createComment") → HasMethod s at (codes "createComment") built_in.NodePrototypeCreateComment
    unfolding built_in_count node_prototype_place function_place host_name
    creates_comment none = of_node (codes "createComment") built_in.NodePrototypeCreateComment none (record { plain = refl; held = refl; native = refl; low = omega arith; positive = omega arith })

    pub creates_event : Lacks (codes "createEvent") → HasMethod s at (codes "createEvent") built_in.NodePrototypeCreateEvent
    unfolding built_in_count node_prototype_place function_place host_name
    creates_event none = of_node (codes "createEvent") built_in.NodePrototypeCreateEvent none (record { plain = refl; held = refl; native = refl; low = omega arith; positive = omega arith })

  -- ---- events

  pub initialises : (at : ObjId) → (object_at s.heap.objects at.0).proto ≡ Some event_prototype → own_property (object_at s.heap.objects at.0).props (codes "initEvent") ≡ None
      → HasMethod s at (codes "initEvent") built_in.EventPrototypeInitEvent
  unfolding built_in_count event_prototype_place function_place host_name
  initialises at proto none =
      method_from at event_prototype (codes "initEvent") built_in.EventPrototypeInitEvent (omega arith) (omega arith) none proto
      (record { plain = refl; held = refl; native = refl; low = omega arith; positive = omega arith })

  -- ---- functions of timers

  pub is_set_timeout : IsNative s built_in.SetTimeout
  unfolding built_in_count function_place
  is_set_timeout = native_there built_in.SetTimeout refl (omega arith) (omega arith)

  pub is_set_interval_from : IsNative s built_in.SetIntervalFrom
  unfolding built_in_count function_place
  is_set_interval_from = native_there built_in.SetIntervalFrom refl (omega arith) (omega arith)

  pub is_clear_timeout : IsNative s built_in.ClearTimeout
  unfolding built_in_count function_place
  is_clear_timeout = native_there built_in.ClearTimeout refl (omega arith) (omega arith)
