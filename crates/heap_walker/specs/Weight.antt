-- What a page weighs that is saved: how many things, properties, arguments, needed variables, attributes, listeners and timers there are, and how
-- long their texts are.
use Rattle.std.specs.Prelude.{◌≡◌, ℕ, ◌+◌, ◌*◌, ◌^◌, ◌-◌, Bool, true, false, List, [], ◌∷◌, ◌&&◌, Option, Some, None, min, max, length, bytes_eq, if◌then◌else◌}
use Rattle.dom_tree.specs.Attributes.{Pairs}
use Rattle.dom_tree.specs.Node.{node_at}
use Rattle.dom_tree.specs.declared.content.Content.{Content}
use Rattle.dom_tree.specs.declared.content.Kind.{Kind}
use Rattle.dom_tree.specs.declared.content.Kind.TheVariants as kind
use Rattle.js_core.specs.Tree as tree
use Rattle.js_print.specs.Printing.{code_text}
use Rattle.js_values.specs.declared.value.Value.{Value}
use Rattle.js_values.specs.declared.value.Value.TheVariants.{Text}
use Rattle.object_heap.specs.Chain.{object_at}
use Rattle.object_heap.specs.Define.{length_name}
use Rattle.object_heap.specs.Object.{Object}
use Rattle.object_heap.specs.Property.{Props}
use Rattle.object_heap.specs.declared.object.Class.{Class}
use Rattle.object_heap.specs.declared.object.Class.TheVariants.{Bound, Event, Node, Page}
use Rattle.js_values.specs.declared.ids.NodeId.{NodeId}
use Rattle.page_host.specs.Host.{Host}
use Rattle.page_host.specs.declared.listener.Listener.{Listener}
use Rattle.page_meaning.specs.Places.{document}
use Rattle.page_meaning.specs.Store.{Store}
use Rattle.timer_queue.specs.declared.timer.Live.{Live}
use Rattle.heap_walker.specs.Things.{IsWalk, globals_of, heard_at, needs_of}
use Rattle.heap_walker.specs.declared.weight.Weight.{Weight}

-- ---- sums without a bound

-- things, and bytes of text
pub record Load : Type 0 where
  pub things : ℕ
  pub text : ℕ

abbrev pub load : ℕ → ℕ → Load
load things text = record { things = things; text = text }

abbrev pub together : Load → Load → Load
together a b = load (a.things + b.things) (a.text + b.text)

-- a unit of a text can take six bytes, as `\u` and four digits
abbrev pub units : ℕ → ℕ
units n = 6 * n

abbrev pub value_units : Value → ℕ
value_units (Text t) = length t
value_units v = 0

-- a value that is no thing of its own
abbrev pub value_load : Value → Load
value_load v = load 0 (units (value_units v))

-- one that has a name, as a property and a needed variable have it
abbrev pub named_load : List ℕ → Value → Load
named_load x v = load 1 (units (length x + value_units v))

abbrev pub props_load : Props → Load
props_load [] = load 0 0
props_load (e ∷ es) = together (named_load e.0 e.1.value) (props_load es)

abbrev pub needs_load : List (List ℕ × Value) → Load
needs_load [] = load 0 0
needs_load (n ∷ ns) = together (named_load n.0 n.1) (needs_load ns)

abbrev pub argument_load : Value → Load
argument_load v = load 1 (units (value_units v))

abbrev pub arguments_load : List Value → Load
arguments_load [] = load 0 0
arguments_load (v ∷ vs) = together (argument_load v) (arguments_load vs)

-- the printed code of a function
abbrev pub code_load : tree.Code → Load
code_load c = load 0 (length (code_text c))

-- ---- nodes

-- a text that is no thing of its own
abbrev pub text_load : List ℕ → Load
text_load t = load 0 (units (length t))

abbrev pub kind_load : Kind → Load
kind_load kind.Document = load 0 0
kind_load (kind.Element name) = text_load name
kind_load (kind.Text text) = text_load text
kind_load (kind.Comment text) = text_load text

abbrev pub set_load : Option (List ℕ) → Load
set_load None = load 0 0
set_load (Some text) = text_load text

abbrev pub attribute_load : List ℕ × List ℕ → Load
attribute_load a = load 1 (units (length a.0 + length a.1))

abbrev pub attributes_load : Pairs → Load
attributes_load [] = load 0 0
attributes_load (a ∷ as') = together (attribute_load a) (attributes_load as')

abbrev pub content_load : Content → Load
content_load c = together (kind_load c.kind) (together (attributes_load c.attributes) (set_load c.value))

abbrev pub listener_load : Listener → Load
listener_load l = load 1 (units (length l.kind))

abbrev pub listeners_load : List Listener → Load
listeners_load [] = load 0 0
listeners_load (l ∷ ls) = together (listener_load l) (listeners_load ls)

-- a node with its listeners
abbrev pub node_load : Host → NodeId → Load
node_load h k = together (content_load (node_at h.nodes k.0).content) (listeners_load (heard_at k.0 h.listeners))

-- ---- things

-- what an object is besides its properties
abbrev pub class_load : Store → Class → Load
class_load s (Page c env) = together (code_load c) (needs_load (needs_of s env c))
class_load s (Bound target this args) = together (value_load this) (arguments_load args)
class_load s (Node k) = node_load s.host k
class_load s (Event parts) = text_load parts.kind
class_load s c = load 0 0

-- the `length` of these is not written
abbrev pub has_made_length : Class → Bool
has_made_length (Page c env) = true
has_made_length (Bound target this args) = true
has_made_length c = false

-- the own properties that are written
abbrev pub written : Bool → Props → Props
written made [] = []
written made (e ∷ es) = if made && bytes_eq e.0 length_name then written made es else (e ∷ written made es)

abbrev pub written_of : Object → Props
written_of o = written (has_made_length o.class) o.props

abbrev pub object_load : Store → Object → Load
object_load s o = together (class_load s o.class) (props_load (written_of o))

abbrev pub thing_load : Store → Object → Load
thing_load s o = together (load 1 0) (object_load s o)

abbrev pub things_load : Store → List ℕ → Load
things_load s [] = load 0 0
things_load s (k ∷ ks) = together (thing_load s (object_at s.heap.objects k)) (things_load s ks)

-- ---- the page

-- the greatest id of a live timer
abbrev pub greatest : List Live → ℕ
greatest [] = 0
greatest (t ∷ ts) = max t.id (greatest ts)

-- each timer, and each id up to the greatest
abbrev pub timers_load : List Live → Load
timers_load ts = load (length ts + greatest ts) 0

-- the document is no thing, but what it has is saved
abbrev pub document_load : Store → Load
document_load s = object_load s (object_at s.heap.objects document.0)

-- all that is saved, where these things can be reached
abbrev pub load_of : Store → List ℕ → Load
load_of s ks = together (props_load (globals_of s)) (together (document_load s) (together (timers_load s.host.timers) (things_load s ks)))

-- ---- what is told of them: a sum above 2^64 - 1 is told as that

abbrev pub bounded : ℕ → ℕ
bounded n = min n (2 ^ 64 - 1)

abbrev pub told : Load → Weight
told l = record { things = bounded l.things; text = bounded l.text }

-- so much joins a weight
abbrev pub Adds : Weight → Weight → Load → Type 0
Adds old new more = (l : Load) → old ≡ told l → new ≡ told (together l more)

-- the weight of what can be reached
pub record IsWeight (s : Store) (weight : Weight) : Type 0 where
  pub things : List ℕ
  pub walked : IsWalk s things
  pub sums : weight ≡ told (load_of s things)
