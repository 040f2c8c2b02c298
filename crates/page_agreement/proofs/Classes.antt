-- Things that are made alike have the same class, and corresponding prototypes.
use Rattle.std.specs.Prelude.{unwrap_or}
use Rattle.std.proofs.Common.{◌≡◌, refl, sym, ap, subst, ◌∙◌, ℕ, ◌<◌, true, false, true≢false, nat_eq, List, [], ◌∷◌, ◌++◌, Option, Some, None, arith}
use Rattle.dom_tree.specs.Node.{is_document, kind_at}
use Rattle.dom_tree.specs.declared.content.Kind.{Kind}
use Rattle.dom_tree.specs.declared.content.Kind.TheVariants as kind
use Rattle.heap_relations.specs.Related.{ClassRel, Links, Maybe, ObjectIds, array, bound, event, fault, node, page, plain, some}
use Rattle.heap_walker.specs.Things.{class_links, host_links}
use Rattle.js_core.specs.Tree.{Code}
use Rattle.js_values.specs.declared.ids.NodeId.{NodeId}
use Rattle.js_values.specs.declared.ids.ObjId.{ObjId}
use Rattle.js_values.specs.declared.throw.ErrorKind.{ErrorKind}
use Rattle.js_values.specs.declared.throw.ErrorKind.TheVariants as error
use Rattle.js_values.specs.declared.value.Value.{Value}
use Rattle.object_heap.specs.Object.{Object}
use Rattle.object_heap.specs.declared.object.Class.{Class}
use Rattle.object_heap.specs.declared.object.Class.TheVariants as class
use Rattle.object_heap.specs.declared.object.EventParts.{EventParts}
use Rattle.object_shapes.specs.Links.{proto_links, value_links, values_links}
use Rattle.object_shapes.specs.Shapes.{HasShape}
use Rattle.page_meaning.specs.Places.{array_prototype, built_in_count, error_prototype, error_prototype_place, event_prototype, function_prototype, node_prototype, range_error_prototype_place, reference_error_prototype_place, type_error_prototype_place}
use Rattle.page_meaning.specs.Store.{Store}
use Rattle.rebuild_plan.specs.Compact.{kind_of, maker_as, moved, moved_value, place_of}
use Rattle.rebuild_plan.specs.Events.{event_as, event_of}
use Rattle.rebuild_plan.specs.Nodes.{node_maker}
use Rattle.rebuild_plan.specs.declared.statement.Maker.{Maker}
use Rattle.rebuild_plan.specs.declared.statement.Maker.TheVariants as made
use Rattle.rebuilding.proofs.Callers.{AreKnown, IsKnown, IsResting, array_low, error_low, event_low, event_rel, function_low, head_in, left_known, node_low, proto_rel, right_known, value_rel, values_rel}
use Rattle.page_agreement.specs.Agree.{Corresponds, NodesCorrespond, built_in, links_by, pairs}

-- ---- what a maker tells

abbrev pub class_tag : Class → ℕ
class_tag class.Plain = 0
class_tag class.List = 1
class_tag class.Fault = 2
class_tag (class.Page c env) = 3
class_tag (class.Bound target this args) = 4
class_tag (class.Node k) = 5
class_tag (class.Event parts) = 6
class_tag c = 7

abbrev pub maker_tag : Maker → ℕ
maker_tag (made.Plain proto) = 0
maker_tag made.List = 1
maker_tag (made.Fault k) = 2
maker_tag (made.Func c needs) = 3
maker_tag (made.Bind target this args) = 4
maker_tag (made.Element name) = 5
maker_tag (made.Text text) = 5
maker_tag (made.Comment text) = 5
maker_tag made.Event = 6

-- what scripts make is told by its maker, and no document is made
pub tag_told : (s : Store) (ks : List ℕ) (o : Object) (proto : Option ObjId) (c : Class) → HasShape s o c
    → ((k : NodeId) → c ≡ class.Node k → is_document (kind_at s.host.nodes k.0) ≡ false) → maker_tag (maker_as s ks proto c) ≡ class_tag c
tag_told s ks o proto class.Plain shape out = refl
tag_told s ks o proto class.List shape out = refl
tag_told s ks o proto class.Fault shape out = refl
tag_told s ks o proto (class.Page c env) shape out = refl
tag_told s ks o proto (class.Bound target this args) shape out = refl
tag_told s ks o proto (class.Node k) shape out = by (kind_at s.host.nodes k.0) (out k refl)
  where
    by : (x : Kind) → is_document x ≡ false → maker_tag (node_maker ks proto x) ≡ 5
    by kind.Document e = absurd (true≢false e)
    by (kind.Element name) e = refl
    by (kind.Text text) e = refl
    by (kind.Comment text) e = refl
tag_told s ks o proto (class.Event parts) shape out = refl
tag_told s ks o proto class.Math shape out = absurd shape
tag_told s ks o proto class.Window shape out = absurd shape
tag_told s ks o proto (class.Native which) shape out = absurd shape

abbrev proto_told : Maker → Option ObjId
proto_told (made.Plain proto) = proto
proto_told m = None

abbrev kind_told : Maker → ErrorKind
kind_told (made.Fault k) = k
kind_told m = error.Plain

abbrev code_told : Code → Maker → Code
code_told d (made.Func c needs) = c
code_told d m = d

abbrev pub needs_told : Maker → List (List ℕ × Value)
needs_told (made.Func c needs) = needs
needs_told m = []

abbrev target_told : ObjId → Maker → ObjId
target_told at (made.Bind target this args) = target
target_told at m = at

abbrev this_told : Value → Maker → Value
this_told v (made.Bind target this args) = this
this_told v m = v

abbrev args_told : Maker → List Value
args_told (made.Bind target this args) = args
args_told m = []

-- the kind of an error is told by its prototype
kind_back : (k : ErrorKind) → kind_of (Some (error_prototype k)) ≡ k
unfolding error_prototype_place range_error_prototype_place reference_error_prototype_place type_error_prototype_place
kind_back error.Plain = refl
kind_back error.Type = refl
kind_back error.Range = refl
kind_back error.Reference = refl

-- nodes of one maker are of one kind
pub kinds_same : (ks js : List ℕ) (p q : Option ObjId) (x y : Kind) → node_maker ks p x ≡ node_maker js q y → x ≡ y
kinds_same ks js p q kind.Document kind.Document e = refl
kinds_same ks js p q (kind.Element x) (kind.Element y) e = cc e
kinds_same ks js p q (kind.Text x) (kind.Text y) e = cc e
kinds_same ks js p q (kind.Comment x) (kind.Comment y) e = cc e
kinds_same ks js p q x y e = absurd (cc e)

-- ---- both

module _ (s t : Store) (ks js : List ℕ)
    (same_place : (a b : ℕ) → IsKnown ks a → IsKnown js b → place_of ks a ≡ place_of js b → Corresponds (pairs ks js) a b) where
  abbrev L : Links
  L = links_by (pairs ks js) s t

  pub record AreAlike (c d : Class) (p q : Option ObjId) : Type 0 where
    pub class : ClassRel (links_by (pairs ks js) s t) c d
    pub proto : Maybe (ObjectIds (links_by (pairs ks js) s t)) p q

  -- a prototype that is built in
  pub built_proto : (p q : Option ObjId) (at : ObjId) → p ≡ Some at → q ≡ Some at → at.0 < built_in_count → Maybe (ObjectIds (links_by (pairs ks js) s t)) p q
  built_proto p q at one two low =
      subst (λ x. Maybe (ObjectIds L) x q) (sym one)
      (subst (λ x. Maybe (ObjectIds L) (Some at) x) (sym two) (some (record { linked = built_in refl (omega (arith, low)) })))

  pub alike : (o p : Object) (c d : Class) → HasShape s o c → HasShape t p d → nat_eq (class_tag c) (class_tag d) ≡ true
      → maker_as s ks o.proto c ≡ maker_as t js p.proto d → event_as ks c ≡ event_as js d → AreKnown ks (proto_links o.proto) → AreKnown js (proto_links p.proto)
      → AreKnown ks (class_links s c) → AreKnown js (class_links t d) → AreKnown ks (host_links s.host c) → AreKnown js (host_links t.host d)
      → ((k l : NodeId) → c ≡ class.Node k → d ≡ class.Node l → NodesCorrespond (pairs ks js) s t k.0 l.0)
      → ((e : EventParts) → c ≡ class.Event e → IsResting e) → ((e : EventParts) → d ≡ class.Event e → IsResting e) → AreAlike c d o.proto p.proto
  alike o p class.Plain class.Plain shape form tags maker told above over one two host tenant nodes rests rest =
      record { class = plain; proto = proto_rel L ks js same_place o.proto p.proto (ap proto_told maker) above over }
  alike o p class.List class.List shape form tags maker told above over one two host tenant nodes rests rest =
      record { class = array; proto = built_proto o.proto p.proto array_prototype shape.0 form.0 array_low }
  alike o p class.Fault class.Fault shape form tags maker told above over one two host tenant nodes rests rest =
      let kinds : kind_of o.proto ≡ kind_of p.proto = ap kind_told maker in
      let same : shape.kind ≡ form.kind =
      sym (kind_back shape.kind) ∙ ap kind_of (sym shape.is) ∙ kinds ∙ ap kind_of form.is ∙ kind_back form.kind
      in
      record {
        class = fault;
        proto = built_proto o.proto p.proto (error_prototype shape.kind) shape.is (form.is ∙ ap (λ k. Some (error_prototype k)) (sym same)) (error_low shape.kind);
      }
  alike o p (class.Page source env) (class.Page other round) shape form tags maker told above over one two host tenant nodes rests rest =
      record { class = page (ap (code_told source) maker); proto = built_proto o.proto p.proto function_prototype shape.0 form.0 function_low }
  alike o p (class.Bound a this args) (class.Bound b that rests_of) shape form tags maker told above over one two host tenant nodes rests rest =
      let xs : List ℕ = value_links this ++ values_links args in
      let ys : List ℕ = value_links that ++ values_links rests_of in
      let left : AreKnown ks xs = right_known ks (a.0 ∷ []) xs one in
      let right : AreKnown js ys = right_known js (b.0 ∷ []) ys two in
      record {
        class = bound (same_place a.0 b.0 (one a.0 (head_in a.0 xs)) (two b.0 (head_in b.0 ys)) (ap (λ m. (target_told (moved ks a) m).0) maker))
            (value_rel L ks js same_place this that (ap (this_told (moved_value ks this)) maker) (left_known ks (value_links this) (values_links args) left)
            (left_known js (value_links that) (values_links rests_of) right))
            (values_rel L ks js same_place args rests_of (ap args_told maker) (right_known ks (value_links this) (values_links args) left)
            (right_known js (value_links that) (values_links rests_of) right));
        proto = built_proto o.proto p.proto function_prototype shape.0 form.0 function_low;
      }
  alike o p (class.Node k) (class.Node l) shape form tags maker told above over one two host tenant nodes rests rest =
      record { class = node (nodes k l refl refl); proto = built_proto o.proto p.proto node_prototype shape.0 form.0 node_low }
  alike o p (class.Event e) (class.Event f) shape form tags maker told above over one two host tenant nodes rests rest =
      record {
        class = event (event_rel L ks js same_place e f (rests e refl) (rest f refl) (ap (λ x. unwrap_or x (event_of ks e)) told) host tenant);
        proto = built_proto o.proto p.proto event_prototype shape.0 form.0 event_low;
      }
  alike o p class.Math d shape form tags maker told above over one two host tenant nodes rests rest = absurd shape
  alike o p class.Window d shape form tags maker told above over one two host tenant nodes rests rest = absurd shape
  alike o p (class.Native which) d shape form tags maker told above over one two host tenant nodes rests rest = absurd shape
  alike o p c d shape form tags maker told above over one two host tenant nodes rests rest = absurd (true≢false (sym tags))
