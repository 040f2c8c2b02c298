-- What a put does in both pages, where a name may be one of the host's (section 8.7.2; DOM Level 2 Core).
use Rattle.std.proofs.Common.{refl, subst, ℕ, List, [], ◌∷◌, Option, Some, None, length}
use Rattle.js_core.specs.Text.{Text}
use Rattle.js_values.specs.declared.ids.NodeId.{NodeId}
use Rattle.js_values.specs.declared.ids.ObjId.{ObjId}
use Rattle.js_values.specs.declared.throw.Throw.TheVariants.{CannotSet}
use Rattle.js_values.specs.declared.value.Value.{Value}
use Rattle.js_values.specs.declared.value.Value.TheVariants as value
use Rattle.dom_tree.specs.Content.{has_text}
use Rattle.dom_tree.specs.declared.content.Kind.{Kind}
use Rattle.dom_tree.specs.declared.content.Kind.TheVariants as kind
use Rattle.dom_tree.specs.Steps.{empties, inserts}
use Rattle.object_heap.specs.declared.object.Class.{Class}
use Rattle.page_host.specs.declared.host_name.HostName.{HostName}
use Rattle.page_host.specs.declared.host_name.HostName.TheVariants as name
use Rattle.page_host.specs.HostNames.{host_name, text_step}
use Rattle.page_meaning.specs.Act.{Calls}
use Rattle.page_meaning.specs.Convert.{text_in}
use Rattle.page_meaning.specs.HostNames.{Seen}
use Rattle.page_meaning.specs.HostPuts.{fill, host_puts, node_puts, put_attribute, put_content, put_member, put_named, put_seen, put_text, stepped, text_or_empty}
use Rattle.heap_relations.proofs.Callers.{larger_more}
use Rattle.heap_relations.specs.Naming.{Named, World, named}
use Rattle.heap_relations.specs.Related.{ClassRel, Maybe, ValueRel, array, bound, event, fault, math, native, node, none, null, num, object, page, plain, some, text, truth, undefined, window}
use Rattle.host_relations.proofs.Callers as host
use Rattle.host_relations.proofs.Callers.{linked_up}
use Rattle.host_relations.specs.Linked.{Linked}
use Rattle.host_relations.specs.NodeSteps.{NodeStepRel, empties_rel, inserts_rel, sets_attribute_rel, sets_text_rel, sets_value_rel}
use Rattle.agreement.specs.Acts.{Agrees, Equal}
use Rattle.agreement.proofs.Acts.{also_rel, asking_rel, bind_rel, choose_rel, then_rel}
use Rattle.agreement.proofs.Heap.{class_rel, named_up, value_up}
use Rattle.agreement.proofs.HostReads.{SeenRel, has_host_name_same, held_rel, hosted_rel, seen_at_rel}
use Rattle.agreement.proofs.HostSteps.{changes_nodes_rel, stepped_rel}
use Rattle.agreement.proofs.NewNodes.{node_made}
use Rattle.agreement.proofs.OnNodes.{on_text_rel}
use Rattle.agreement.proofs.Properties.{put_in_rel}
use Rattle.agreement.proofs.Values.{done_rel, give_rel, raise_rel, to_text_rel}

-- ---- texts

text_or_empty_rel : {V : World} {v w : Value} (c d : Calls) → ValueRel (named V) v w → Agrees V (text_or_empty c v) (text_or_empty d w)
text_or_empty_rel c d null = give_rel text
text_or_empty_rel {v = v} c d undefined = to_text_rel {v = v} c d undefined
text_or_empty_rel {v = v} c d truth = to_text_rel {v = v} c d truth
text_or_empty_rel {v = v} c d num = to_text_rel {v = v} c d num
text_or_empty_rel {v = v} c d text = to_text_rel {v = v} c d text
text_or_empty_rel c d (object {a = a} {b = b} n) = to_text_rel c d (object {a = a} {b = b} n)

text_step_rel : {W : World} (k l : NodeId) (n : HostName) (x : Text) → Linked W k.0 l.0 → NodeStepRel W (text_step k n x) (text_step l n x)
text_step_rel k l name.Id x i = sets_attribute_rel i
text_step_rel k l name.ClassName x i = sets_attribute_rel i
text_step_rel k l name.Value x i = sets_value_rel i
text_step_rel k l n x i = sets_text_rel i

put_step_rel : {V : World} {v w : Value} (k l : NodeId) (n : HostName) → Linked V k.0 l.0 → ValueRel (named V) v w
    → Agrees V (stepped (text_step k n (text_in v))) (stepped (text_step l n (text_in w)))
put_step_rel k l n i h =
    on_text_rel (λ x. stepped (text_step k n x)) (λ x. stepped (text_step l n x)) h (λ x. stepped_rel {x = text_step k n x} {y = text_step l n x} (λ W m. text_step_rel k l n x (linked_up m i)))

put_text_rel : {V : World} {v w : Value} (c d : Calls) (k l : NodeId) (n : HostName) → Linked V k.0 l.0 → ValueRel (named V) v w → Agrees V (put_text c k n v) (put_text d l n w)
put_text_rel c d k l n i h = also_rel (text_or_empty_rel c d h) (λ W m x y r. put_step_rel k l n (linked_up m i) r)

put_attribute_rel : {V : World} {v w : Value} (c d : Calls) (k l : NodeId) (n : HostName) → Linked V k.0 l.0 → ValueRel (named V) v w → Agrees V (put_attribute c k n v) (put_attribute d l n w)
put_attribute_rel c d k l n i h = also_rel (to_text_rel c d h) (λ W m x y r. put_step_rel k l n (linked_up m i) r)

-- ---- the text of an element

-- the new node has the next place on either side
fill_rel : {V : World} (k l : NodeId) (x : Text) → Linked V k.0 l.0 → Agrees V (fill k x) (fill l x)
fill_rel k l [] i = done_rel
fill_rel k l (u ∷ us) i = record {
  run = λ W m s t n g.
      let one : NodeId = record { 0 = length s.host.nodes } in
      let two : NodeId = record { 0 = length t.host.nodes } in
      then_rel (node_made g (kind.Text (u ∷ us)) refl n) (λ X j a b r.
      stepped_rel {x = inserts k one None} {y = inserts l two None} (λ Y o. inserts_rel (linked_up (larger_more m (larger_more j o)) i) (linked_up o r.node) none));
}

put_content_rel : {V : World} {v w : Value} (c d : Calls) (k l : NodeId) (e : Kind) → Linked V k.0 l.0 → ValueRel (named V) v w → Agrees V (put_content c k v e) (put_content d l w e)
put_content_rel c d k l kind.Document i h = done_rel
put_content_rel c d k l (kind.Element x) i h =
    also_rel (text_or_empty_rel c d h) (λ W m v w r.
    bind_rel {R = Equal} (changes_nodes_rel {x = empties k} {y = empties l} (λ X j. empties_rel (linked_up (larger_more m j) i))) (λ X j a b e.
    on_text_rel (fill k) (fill l) (value_up j r) (λ x. fill_rel k l x (linked_up (larger_more m j) i))))
put_content_rel c d k l (kind.Text x) i h = put_text_rel c d k l name.TextContent i h
put_content_rel c d k l (kind.Comment x) i h = put_text_rel c d k l name.TextContent i h

-- ---- host names

node_puts_rel : {V : World} {v w : Value} (c d : Calls) (k l : NodeId) (n : HostName) (e : Kind) → Linked V k.0 l.0 → ValueRel (named V) v w → Agrees V (node_puts c k n v e) (node_puts d l n w e)
node_puts_rel c d k l name.NodeValue e i h = choose_rel (has_text e) _ refl (put_text_rel c d k l name.NodeValue i h) done_rel
node_puts_rel c d k l name.TextContent e i h = put_content_rel c d k l e i h
node_puts_rel c d k l name.Id e i h = put_attribute_rel c d k l name.Id i h
node_puts_rel c d k l name.ClassName e i h = put_attribute_rel c d k l name.ClassName i h
node_puts_rel c d k l name.Value e i h = put_text_rel c d k l name.Value i h
node_puts_rel c d k l name.Data e i h = put_text_rel c d k l name.Data i h
node_puts_rel c d k l n e i h = raise_rel CannotSet

host_puts_rel : {V : World} {v w : Value} {x y : Class} (c d : Calls) (n : HostName) → ValueRel (named V) v w → ClassRel (named V) x y → Agrees V (host_puts c n v x) (host_puts d n w y)
host_puts_rel {v = v} {w = w} c d n h (node {m = k} {n = l} i) =
    asking_rel {R = Equal} (λ W m s t g. host.kinds_same g.host {k = k} {l = l} (linked_up m i)) (λ W m e f q.
    subst (λ z. Agrees W (node_puts c k n v e) (node_puts d l n w z)) q (node_puts_rel c d k l n e (linked_up m i) (value_up m h)))
host_puts_rel c d n h plain = raise_rel CannotSet
host_puts_rel c d n h array = raise_rel CannotSet
host_puts_rel c d n h (page i) = raise_rel CannotSet
host_puts_rel c d n h native = raise_rel CannotSet
host_puts_rel c d n h (bound i j is) = raise_rel CannotSet
host_puts_rel c d n h fault = raise_rel CannotSet
host_puts_rel c d n h math = raise_rel CannotSet
host_puts_rel c d n h window = raise_rel CannotSet
host_puts_rel c d n h (event i) = raise_rel CannotSet

put_seen_rel : {V : World} {v w : Value} {o p : Option Seen} (c d : Calls) (a b : ObjId) (x : Text) (n : HostName) → Named V a.0 b.0 → ValueRel (named V) v w → Maybe (SeenRel V) o p
    → Agrees V (put_seen c a x n v o) (put_seen d b x n w p)
put_seen_rel c d a b x n i h none = put_in_rel a b i x h
put_seen_rel c d a b x n i h (some (held_rel r)) = put_in_rel a b i x h
put_seen_rel c d a b x n i h (some (hosted_rel r)) =
    asking_rel {R = Equal} (λ W l s t g. has_host_name_same g n (class_rel g a.0 b.0 (named_up l i))) (λ W l y z e. choose_rel y z e
    (asking_rel {R = λ X. ClassRel (named X)} (λ X j s t g. class_rel g a.0 b.0 (named_up (larger_more l j) i)) (λ X j y z q. host_puts_rel c d n (value_up (larger_more l j) h) q)) (raise_rel CannotSet))

put_named_rel : {V : World} {v w : Value} (c d : Calls) (a b : ObjId) (x : Text) (o : Option HostName) → Named V a.0 b.0 → ValueRel (named V) v w → Agrees V (put_named c a x v o) (put_named d b x w o)
put_named_rel c d a b x None i h = put_in_rel a b i x h
put_named_rel c d a b x (Some n) i h =
    asking_rel {R = λ W. Maybe (SeenRel W)} (λ W l s t g. seen_at_rel g a b (named_up l i) x n) (λ W l o p r. put_seen_rel c d a b x n (named_up l i) (value_up l h) r)

pub put_member_rel : {V : World} {v w a b : Value} (c d : Calls) → ValueRel (named V) a b → (x : List ℕ) → ValueRel (named V) v w → Agrees V (put_member c a x v) (put_member d b x w)
put_member_rel c d undefined x h = raise_rel CannotSet
put_member_rel c d null x h = raise_rel CannotSet
put_member_rel c d truth x h = raise_rel CannotSet
put_member_rel c d num x h = raise_rel CannotSet
put_member_rel c d text x h = raise_rel CannotSet
put_member_rel {a = value.Object a} {b = value.Object b} c d (object n) x h = put_named_rel c d a b x (host_name x) n h
