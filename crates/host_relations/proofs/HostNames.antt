-- What linked nodes read at host names.
use Rattle.std.proofs.Common.{◌≡◌, ap, subst, ℕ, Bool, true, false, nat_le, length, if◌then◌else◌, List, [], Option, Some, None, Ok, Err, unwrap_or, codes}
use Rattle.js_core.specs.Text.{Text}
use Rattle.js_values.specs.declared.ids.NodeId.{NodeId}
use Rattle.js_values.specs.declared.throw.Throw.TheVariants.{TextTooLong}
use Rattle.js_values.specs.declared.value.Value.TheVariants as values
use Rattle.dom_tree.specs.Attributes.{value_of}
use Rattle.dom_tree.specs.Content.{is_named}
use Rattle.dom_tree.specs.declared.content.Kind.{Kind}
use Rattle.dom_tree.specs.declared.content.Kind.TheVariants as kind
use Rattle.dom_tree.specs.DomText.{text_content}
use Rattle.dom_tree.specs.Node.{children_at, is_element, kind_at, node_at}
use Rattle.dom_tree.specs.Sound.{document_element, elements_of}
use Rattle.dom_tree.specs.Trees.{first_named}
use Rattle.page_host.specs.declared.host_name.HostName.{HostName}
use Rattle.page_host.specs.declared.host_name.HostName.TheVariants as name
use Rattle.page_host.specs.Host.{Host, document_of}
use Rattle.page_host.specs.HostNames.{attribute_at, body_in, content_text, has_at_node, node_has, node_reads, node_value, owner, text_limit, text_or_long, text_or_null, value_at}
use Rattle.heap_relations.specs.Naming.{Named, World, named}
use Rattle.heap_relations.specs.Related.{Each, Maybe, ValueRel, each, no_more, none, null, num, object, some, text, undefined}
use Rattle.host_relations.proofs.LinkedLists.{filters, firsts}
use Rattle.host_relations.proofs.NodeReads as nodes
use Rattle.host_relations.proofs.NodeSteps.{both_there}
use Rattle.host_relations.specs.HostNames.{HostNamesAgree, ReadRel, fails, reads}
use Rattle.host_relations.specs.Hosts.{HostRel}
use Rattle.host_relations.specs.Linked.{Linked}
use Rattle.host_relations.specs.NodeLaws.{ReadsAgree}
use Rattle.host_relations.specs.Nodes.{NodeIds}
use Rattle.host_relations.specs.Timers.{Clocks}

module _ (c : Clocks) (W : World) (h g : Host) (q : HostRel c W h g) where
  abbrev Ids : NodeId → NodeId → Type 0
  Ids = NodeIds (Linked W)

  at : (k l : NodeId) → Linked W k.0 l.0 → ReadsAgree (Linked W) h.nodes g.nodes k l
  at k l n = nodes.reads (Linked W) h.nodes g.nodes q.nodes q.left.trees q.right.trees k l n

  same_kind : (k l : ℕ) → Linked W k l → kind_at h.nodes k ≡ kind_at g.nodes l
  same_kind k l n = ap (λ c. c.kind) (q.nodes.at k l n).content

  has_same : (k l : NodeId) (x : HostName) → Linked W k.0 l.0 → has_at_node h.nodes k x ≡ has_at_node g.nodes l x
  has_same k l x n = let there = both_there (Linked W) h.nodes g.nodes k l q.nodes n in rw (there.0, there.1) (ap (λ e. node_has e x) (same_kind k.0 l.0 n))

  node_value_rel : {o p : Option NodeId} → Maybe Ids o p → ValueRel (named W) (node_value h.objects o) (node_value g.objects p)
  node_value_rel none = null
  node_value_rel (some m) = object (q.objects _ _ m.linked)

  text_rel : (o : Option Text) → ValueRel (named W) (text_or_null o) (text_or_null o)
  text_rel None = null
  text_rel (Some x) = text

  long_rel : (x y : Text) → x ≡ y → ReadRel W (text_or_long x) (text_or_long y)
  long_rel x y e = subst (λ z. ReadRel W (text_or_long x) (text_or_long z)) e (by (nat_le (length x) text_limit))
    where
      by : (b : Bool) → ReadRel W (if b then Ok (values.Text x) else Err TextTooLong) (if b then Ok (values.Text x) else Err TextTooLong)
      by true = reads text
      by false = fails

  first_named_rel : (x : Text) (cs ds : List NodeId) → Each Ids cs ds → Maybe Ids (first_named h.nodes x cs) (first_named g.nodes x ds)
  first_named_rel x _ _ no_more = none
  first_named_rel x _ _ (each {a = c} {b = d} {xs = cs} {ys = ds} m ms) = by (is_named x (kind_at h.nodes c.0)) (is_named x (kind_at g.nodes d.0)) (ap (is_named x) (same_kind c.0 d.0 m.linked)) (first_named_rel x cs ds ms)
    where
      by : (a b : Bool) → a ≡ b → Maybe Ids (first_named h.nodes x cs) (first_named g.nodes x ds) → Maybe Ids (if a then Some c else first_named h.nodes x cs) (if b then Some d else first_named g.nodes x ds)
      by true true e later = some m
      by false false e later = later
      by true false e later = absurd (cc)
      by false true e later = absurd (cc)

  top_rel : Maybe Ids (document_element h.nodes) (document_element g.nodes)
  top_rel =
      let kids = (q.nodes.at 0 0 q.nodes.document).children in
      firsts (Linked W) q.nodes.same (elements_of h.nodes) (elements_of g.nodes)
      (filters (Linked W) q.nodes.same (λ e. is_element (kind_at h.nodes e.0)) (λ e. is_element (kind_at g.nodes e.0)) (children_at h.nodes 0) (children_at g.nodes 0) (λ e f i. ap is_element (same_kind e.0 f.0 i.linked)) kids)

  body_rel : {o p : Option NodeId} → Maybe Ids o p → Maybe Ids (body_in h.nodes o) (body_in g.nodes p)
  body_rel none = none
  body_rel (some {a = c} {b = d} m) = first_named_rel (codes "body") (children_at h.nodes c.0) (children_at g.nodes d.0) (q.nodes.at c.0 d.0 m.linked).children

  document_rel : Named W (document_of h.objects).0 (document_of g.objects).0
  document_rel = q.objects (record { 0 = 0 }) (record { 0 = 0 }) q.nodes.document

  owner_rel : (e : Kind) → ValueRel (named W) (owner h.objects e) (owner g.objects e)
  owner_rel kind.Document = null
  owner_rel (kind.Element x) = object document_rel
  owner_rel (kind.Text x) = object document_rel
  owner_rel (kind.Comment x) = object document_rel

  content_rel : (k l : NodeId) (e : Kind) → text_content h.nodes k ≡ text_content g.nodes l → ReadRel W (content_text h.nodes k e) (content_text g.nodes l e)
  content_rel k l kind.Document same = reads null
  content_rel k l (kind.Element x) same = long_rel _ _ same
  content_rel k l (kind.Text x) same = reads text
  content_rel k l (kind.Comment x) same = reads text

  same_attribute : (k l : NodeId) (x : Text) → Linked W k.0 l.0 → attribute_at h.nodes k x ≡ attribute_at g.nodes l x
  same_attribute k l x n = ap (λ c. value_of x c.attributes) (q.nodes.at k.0 l.0 n).content

  value_rel : (k l : NodeId) (o : Option Text) (e : Kind) → Linked W k.0 l.0 → ReadRel W (value_at h.nodes k o e) (value_at g.nodes l o e)
  value_rel k l (Some x) e n = reads text
  value_rel k l None e n = by (is_named (codes "input") e)
    where
      by : (b : Bool) → ReadRel W (if b then Ok (values.Text (unwrap_or (attribute_at h.nodes k (codes "value")) [])) else text_or_long (text_content h.nodes k))
          (if b then Ok (values.Text (unwrap_or (attribute_at g.nodes l (codes "value")) [])) else text_or_long (text_content g.nodes l))
      by true = rw (same_attribute k l (codes "value") n) (reads text)
      by false = long_rel _ _ (at k l n).joined

  pub node_reads_rel : (k l : NodeId) (x : HostName) → Linked W k.0 l.0 → ReadRel W (node_reads h k x) (node_reads g l x)
  node_reads_rel k l name.NodeType n = rw (same_kind k.0 l.0 n) (reads num)
  node_reads_rel k l name.NodeName n = rw (same_kind k.0 l.0 n) (reads text)
  node_reads_rel k l name.NodeValue n = rw (same_kind k.0 l.0 n) (reads (text_rel _))
  node_reads_rel k l name.ParentNode n = reads (node_value_rel (at k l n).parent)
  node_reads_rel k l name.FirstChild n = reads (node_value_rel (at k l n).first)
  node_reads_rel k l name.LastChild n = reads (node_value_rel (at k l n).last)
  node_reads_rel k l name.PreviousSibling n = reads (node_value_rel (at k l n).previous)
  node_reads_rel k l name.NextSibling n = reads (node_value_rel (at k l n).next)
  node_reads_rel k l name.OwnerDocument n = rw (same_kind k.0 l.0 n) (reads (owner_rel _))
  node_reads_rel k l name.TextContent n = rw (same_kind k.0 l.0 n) (content_rel k l _ (at k l n).joined)
  node_reads_rel k l name.TagName n = rw (same_kind k.0 l.0 n) (reads text)
  node_reads_rel k l name.Id n = rw (same_attribute k l (codes "id") n) (reads text)
  node_reads_rel k l name.ClassName n = rw (same_attribute k l (codes "class") n) (reads text)
  node_reads_rel k l name.Value n = rw (ap (λ c. c.value) (q.nodes.at k.0 l.0 n).content, same_kind k.0 l.0 n) (value_rel k l (node_at g.nodes l.0).content.value (kind_at g.nodes l.0) n)
  node_reads_rel k l name.Data n = rw (same_kind k.0 l.0 n) (reads (text_rel _))
  node_reads_rel k l name.DocumentElement n = reads (node_value_rel top_rel)
  node_reads_rel k l name.Body n = reads (node_value_rel (body_rel top_rel))
  node_reads_rel k l name.EventType n = reads undefined
  node_reads_rel k l name.Target n = reads undefined
  node_reads_rel k l name.CurrentTarget n = reads undefined
  node_reads_rel k l name.EventPhase n = reads undefined
  node_reads_rel k l name.Bubbles n = reads undefined
  node_reads_rel k l name.Cancelable n = reads undefined
  node_reads_rel k l name.TimeStamp n = reads undefined

pub host_names_agree : HostNamesAgree
host_names_agree c W h g k l x q n = (has_same c W h g q k l x n, node_reads_rel c W h g q k l x n)
