-- Puts to references, and to host names.
use Rattle.std.proofs.Common.{[]}
use Rattle.std.specs.Prelude.{◌∷◌, Option, Some, None, codes, refl}
use Rattle.js_core.specs.Text.{Text as Units}
use Rattle.js_values.specs.declared.ids.NodeId.{NodeId}
use Rattle.js_values.specs.declared.ids.ObjId.{ObjId}
use Rattle.js_values.specs.declared.throw.Throw.TheVariants.{CannotSet}
use Rattle.js_values.specs.declared.value.Value.{Value}
use Rattle.js_values.specs.declared.value.Value.TheVariants as value
use Rattle.dom_tree.specs.declared.content.Kind.{Kind}
use Rattle.dom_tree.specs.declared.content.Kind.TheVariants as kind
use Rattle.dom_tree.specs.Content.{has_text}
use Rattle.dom_tree.specs.Steps.{NodeStep, empties, inserts}
use Rattle.object_heap.specs.declared.object.Class.{Class}
use Rattle.object_heap.specs.declared.object.Class.TheVariants as class
use Rattle.page_host.specs.declared.host_name.HostName.{HostName}
use Rattle.page_host.specs.declared.host_name.HostName.TheVariants.{NodeValue, TextContent, Id, ClassName, Value as HasValue, Data}
use Rattle.page_host.specs.HostNames.{host_name, text_step}
use Rattle.page_meaning.specs.Act.{Calls}
use Rattle.page_meaning.specs.Convert.{text_in}
use Rattle.page_meaning.specs.Classes.{class_at}
use Rattle.page_meaning.specs.HostNames.{Seen, has_host_name, held, hosted}
use Rattle.page_meaning.specs.HostPuts.{fill, host_puts, node_puts, put_attribute, put_content, put_member, put_named, put_seen, put_text, stepped, text_or_empty}
use Rattle.literal_values.proofs.Callers.{no_text, text_in_units, text_seen}
use Rattle.literal_values.specs.Nodes.{LiteralNodeStep}
use Rattle.literal_values.specs.Values.{IsBounded, IsText}
use Rattle.written_pages.proofs.Acts.{also_is, asking_any, bind_is, choose_is, done_is, give_is}
use Rattle.written_pages.proofs.Converting.{to_text_is}
use Rattle.written_pages.proofs.Primitives.{changes_nodes_is, make_node_is, raise_is}
use Rattle.written_pages.proofs.Properties.{put_in_is}
use Rattle.written_pages.specs.Acts.{CallsAre, Writes}

-- the nodes change
pub nodes_step_is : (g : NodeStep) → LiteralNodeStep g → Writes (stepped g)
nodes_step_is g h = bind_is (changes_nodes_is g h) (λ u p. done_is)

text_step_literal : (k : NodeId) (n : HostName) (x : Units) → IsText x → LiteralNodeStep (text_step k n x)
text_step_literal k Id x h = (text_seen (codes "id") refl, h)
text_step_literal k ClassName x h = (text_seen (codes "class") refl, h)
text_step_literal k HasValue x h = h
text_step_literal k n x h = h

text_or_empty_is : {calls : Calls} → CallsAre calls → (v : Value) → IsBounded v → Writes (text_or_empty calls v)
text_or_empty_is c value.Null h = give_is (value.Text []) no_text
text_or_empty_is c value.Undefined h = to_text_is c value.Undefined h
text_or_empty_is c (value.Bool b) h = to_text_is c (value.Bool b) h
text_or_empty_is c (value.Num n) h = to_text_is c (value.Num n) h
text_or_empty_is c (value.Text t) h = to_text_is c (value.Text t) h
text_or_empty_is c (value.Object at) h = to_text_is c (value.Object at) h

put_text_is : {calls : Calls} → CallsAre calls → (k : NodeId) (n : HostName) (v : Value) → IsBounded v → Writes (put_text calls k n v)
put_text_is c k n v h = also_is (text_or_empty_is c v h) (λ x p. nodes_step_is (text_step k n (text_in x)) (text_step_literal k n (text_in x) (text_in_units x p)))

put_attribute_is : {calls : Calls} → CallsAre calls → (k : NodeId) (n : HostName) (v : Value) → IsBounded v → Writes (put_attribute calls k n v)
put_attribute_is c k n v h = also_is (to_text_is c v h) (λ x p. nodes_step_is (text_step k n (text_in x)) (text_step_literal k n (text_in x) (text_in_units x p)))

fill_is : (k : NodeId) (t : Units) → IsText t → Writes (fill k t)
fill_is k [] h = done_is
fill_is k (u ∷ us) h = asking_any (λ c. bind_is (make_node_is (kind.Text (u ∷ us)) h) (λ at p. nodes_step_is (inserts k c None) tt))

put_content_is : {calls : Calls} → CallsAre calls → (k : NodeId) (v : Value) (e : Kind) → IsBounded v → Writes (put_content calls k v e)
put_content_is c k v kind.Document h = done_is
put_content_is c k v (kind.Element name) h =
    also_is (text_or_empty_is c v h) (λ x p. bind_is (changes_nodes_is (empties k) tt) (λ u q. fill_is k (text_in x) (text_in_units x p)))
put_content_is c k v (kind.Text old) h = put_text_is c k TextContent v h
put_content_is c k v (kind.Comment old) h = put_text_is c k TextContent v h

node_puts_is : {calls : Calls} → CallsAre calls → (k : NodeId) (n : HostName) (v : Value) (e : Kind) → IsBounded v → Writes (node_puts calls k n v e)
node_puts_is c k NodeValue v e h = choose_is (has_text e) (put_text_is c k NodeValue v h) done_is
node_puts_is c k TextContent v e h = put_content_is c k v e h
node_puts_is c k Id v e h = put_attribute_is c k Id v h
node_puts_is c k ClassName v e h = put_attribute_is c k ClassName v h
node_puts_is c k HasValue v e h = put_text_is c k HasValue v h
node_puts_is c k Data v e h = put_text_is c k Data v h
node_puts_is c k n v e h = raise_is CannotSet tt

host_puts_is : {calls : Calls} → CallsAre calls → (n : HostName) (v : Value) (d : Class) → IsBounded v → Writes (host_puts calls n v d)
host_puts_is c n v (class.Node k) h = asking_any (λ e. node_puts_is c k n v e h)
host_puts_is c n v d h = raise_is CannotSet tt

put_seen_is : {calls : Calls} → CallsAre calls → (at : ObjId) (x : Units) (n : HostName) (v : Value) (o : Option Seen) → IsText x → IsBounded v
    → Writes (put_seen calls at x n v o)
put_seen_is c at x n v (Some (hosted d)) h k =
    asking_any {f = λ s. has_host_name s.host.nodes (class_at s at) n} (λ own.
    choose_is own (asking_any {f = λ s. class_at s at} (λ e. host_puts_is c n v e k)) (raise_is CannotSet tt))
put_seen_is c at x n v (Some (held p)) h k = put_in_is at x v h k
put_seen_is c at x n v None h k = put_in_is at x v h k

put_named_is : {calls : Calls} → CallsAre calls → (at : ObjId) (x : Units) (v : Value) (o : Option HostName) → IsText x → IsBounded v
    → Writes (put_named calls at x v o)
put_named_is c at x v (Some n) h k = asking_any (λ o. put_seen_is c at x n v o h k)
put_named_is c at x v None h k = put_in_is at x v h k

pub put_member_is : {calls : Calls} → CallsAre calls → (base : Value) (x : Units) (v : Value) → IsText x → IsBounded v → Writes (put_member calls base x v)
put_member_is c (value.Object at) x v h k = put_named_is c at x v (host_name x) h k
put_member_is c base x v h k = raise_is CannotSet tt
