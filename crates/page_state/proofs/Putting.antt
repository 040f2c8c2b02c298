-- Puts to host names, part by part.
use Rattle.std.proofs.Common.{◌≡◌, refl, sym, ap, subst, ◌∙◌, ℕ, ◌+◌, Bool, true, false, List, [], ◌∷◌, ◌⊎◌, inl, inr, length, nat_eq, Option, Some, None, Result, Ok, Err}
use Rattle.std.proofs.lemmas.List.{length_push}
use Rattle.std.specs.Prelude.{OnOk}
use Rattle.js_core.specs.declared.memory.Failure.{Failure}
use Rattle.js_core.specs.declared.memory.Failure.TheVariants as fault
use Rattle.js_values.specs.declared.ids.NodeId.{NodeId}
use Rattle.js_values.specs.declared.ids.ObjId.{ObjId}
use Rattle.js_values.specs.declared.throw.Throw.TheVariants.{CannotSet}
use Rattle.js_values.specs.declared.value.Value.{Value}
use Rattle.js_values.specs.declared.value.Value.TheVariants as value
use Rattle.dom_tree.specs.declared.content.Kind.{Kind}
use Rattle.dom_tree.specs.declared.content.Kind.TheVariants as kind
use Rattle.dom_tree.specs.Steps.{NodeStep, empties, inserts}
use Rattle.dom_tree.proofs.Callers.{steps_stay_sound}
use Rattle.object_heap.specs.declared.object.Class.{Class}
use Rattle.object_heap.specs.declared.object.Class.TheVariants as class
use Rattle.page_host.specs.declared.host_name.HostName.{HostName}
use Rattle.page_host.specs.HostNames.{host_name}
use Rattle.page_host.specs.declared.host_name.HostName.TheVariants.{Id, ClassName, Value as HasValue, Data}
use Rattle.page_host.specs.Steps.{in_nodes}
use Rattle.page_meaning.specs.declared.signal.Signal.TheVariants.{Value as Val}
use Rattle.page_meaning.specs.Act.{Act, ActOf, Calls, Ended, Outcome, Stopped, bind, done, nothing}
use Rattle.page_meaning.specs.Classes.{class_at}
use Rattle.page_meaning.specs.Convert.{to_text}
use Rattle.page_meaning.specs.Errors.{raise}
use Rattle.page_meaning.specs.HostNames.{Seen, has_host_name, held, hosted}
use Rattle.page_meaning.specs.HostPuts.{fill, host_puts, node_puts, put_member, put_named, put_seen, stepped, text_or_empty}
use Rattle.page_meaning.specs.Primitives.{changes_nodes, make_node, next_place}
use Rattle.page_meaning.specs.Properties.{put_in}
use Rattle.page_meaning.specs.Reading.{seen_at}
use Rattle.page_meaning.specs.Steps.{after_step, in_host, makes_node}
use Rattle.page_meaning.specs.Store.{Store}
use Rattle.page_state.specs.declared.puts.Taking.{Taking}
use Rattle.page_state.specs.declared.puts.Taking.TheVariants.{Attribute, Text}
use Rattle.page_state.specs.Does.{Does, Gives, Raises, itself}
use Rattle.page_state.specs.Puts.{own_puts, takes}
use Rattle.page_state.specs.Sights.{Shows}
use Rattle.page_state.specs.declared.sight.Sight.{Sight}
use Rattle.page_state.specs.declared.sight.Sight.TheVariants as sight
use Rattle.page_state.proofs.Does.{asked_does, asked_gives, bind_does}

-- ---- an act that is done at once leaves one page

abbrev no_calls : Calls
no_calls = record { call = λ f this args. done; construct = λ f args. done }

abbrev page_in : {A : Type 0} → Outcome A → Store
page_in (Ended a s n) = s
page_in (Stopped s) = s

pub comes_to : {A : Type 0} (act : Calls → ActOf A) (s t u : Store) (a b : A) → Does act s a t → ((calls : Calls) → (act calls).run s 0 ≡ Ended b u 0) → t ≡ u
comes_to act s t u a b d e = ap page_in (sym (d.is no_calls 0) ∙ e no_calls)

-- one node more
pub text_node_more : (x : List ℕ) (at : ObjId) (s t : Store) → Does (λ _. make_node (kind.Text x)) s at t → length t.host.nodes ≡ length s.host.nodes + 1
text_node_more x at s t d =
    ap (λ (w : Store). length w.host.nodes) (comes_to (λ _. make_node (kind.Text x)) s t (after_step s (makes_node (kind.Text x))) at (next_place s.heap) d (λ c. refl))
    ∙ length_push s.host.nodes _

-- as many nodes
pub emptied_long : (k : NodeId) (s t : Store) → Does (λ _. changes_nodes (empties k)) s tt t → length t.host.nodes ≡ length s.host.nodes
emptied_long k s t d =
    ap (λ (w : Store). length w.host.nodes) (comes_to (λ _. changes_nodes (empties k)) s t (after_step s (in_host (in_nodes (empties k)))) tt tt d (λ c. refl))
    ∙ (steps_stay_sound s.host.nodes (empties k)).long

-- a conversion to a text that is done leaves the page
text_kept : (v : Value) (x : List ℕ) (s t : Store) → Does (λ calls. to_text calls v) s (Val (value.Text x)) t → t ≡ s
text_kept (value.Object at) x s t d = let e = d.is no_calls 0 in cc e
text_kept v x s t d = sym (ap page_in (d.is no_calls 0))

pub same_after_text : (v : Value) (s t : Store) (r : Result (List ℕ) (Failure Value)) → Gives value.Text (λ calls. to_text calls v) s t r → OnOk r (t ≡ s)
same_after_text v s t (Ok x) g = text_kept v x s t g
same_after_text v s t (Err e) g = tt

pub empty_gives : (v : Value) (s t : Store) (r : Result (List ℕ) (Failure Value)) → (v ≡ value.Null → ⊥) → Gives value.Text (λ calls. to_text calls v) s t r → Gives value.Text (λ calls. text_or_empty calls v) s t r
empty_gives value.Null s t r h g = absurd (h refl)
empty_gives v s t r h g = g

-- ---- what is put on a node

pub stepped_does : (g : NodeStep) (s t : Store) → Does (λ _. changes_nodes g) s tt t → Does (λ _. stepped g) s nothing t
stepped_does g s t d = bind_does (λ _. changes_nodes g) (λ _ _. done) tt nothing s t t d (record { is = λ c n. refl })

-- a text that is not empty gets its node
pub filled : (k c : NodeId) (x : List ℕ) (at : ObjId) (s t u : Store) → nat_eq (length x) 0 ≡ false → c.0 ≡ length s.host.nodes → Does (λ _. make_node (kind.Text x)) s at t
    → Does (λ _. changes_nodes (inserts k c None)) t tt u → Does (λ _. fill k x) s nothing u
filled k c [] at s t u h is made put = cc h
filled k c (y ∷ ys) at s t u h is made put =
    asked_does (λ w. record { 0 = length w.host.nodes }) (λ _ b. bind (make_node (kind.Text (y ∷ ys))) (λ _. stepped (inserts k b None))) nothing s u
    (bind_does (λ _. make_node (kind.Text (y ∷ ys))) (λ _ _. stepped (inserts k (record { 0 = length s.host.nodes }) None)) at nothing s t u made
    (stepped_does (inserts k (record { 0 = length s.host.nodes }) None) t u (subst (λ m. Does (λ _. changes_nodes (inserts k (record { 0 = m }) None)) t tt u) is put)))

pub attribute_taken : (n : HostName) (e : Kind) (calls : Calls) (k : NodeId) (v : Value) → (n ≡ Id) ⊎ (n ≡ ClassName) → node_puts calls k n v e ≡ takes calls k n v Attribute
attribute_taken n e calls k v (inl is) = rw is refl
attribute_taken n e calls k v (inr is) = rw is refl

pub text_taken : (n : HostName) (e : Kind) (calls : Calls) (k : NodeId) (v : Value) → (n ≡ HasValue) ⊎ (n ≡ Data) → node_puts calls k n v e ≡ takes calls k n v Text
text_taken n e calls k v (inl is) = rw is refl
text_taken n e calls k v (inr is) = rw is refl

-- the put is what its first part says
pub taken_gives : (n : HostName) (d e : Kind) (w : Taking) (k : NodeId) (v : Value) (s t : Store) (r : Result Value (Failure Value)) → d ≡ e
    → ((calls : Calls) → node_puts calls k n v d ≡ takes calls k n v w) → Gives itself (λ calls. takes calls k n v w) s t r → Gives itself (λ calls. node_puts calls k n v e) s t r
taken_gives n d e w k v s t (Ok b) same h g = record { is = λ c m. ap (λ q. (node_puts c k n v q).run s m) (sym same) ∙ ap (λ (a : Act). a.run s m) (h c) ∙ g.is c m }
taken_gives n d e w k v s t (Err (fault.Cause b)) same h g = record { is = λ c m. ap (λ q. (node_puts c k n v q).run s m) (sym same) ∙ ap (λ (a : Act). a.run s m) (h c) ∙ g.is c m }
taken_gives n d e w k v s t (Err fault.OutOfMemory) same h g = tt

-- ---- what is put on an object

-- an object that is no node takes none
pub no_node : (c : Class) (n : HostName) (v : Value) (s t : Store) (e : Failure Value) → ((k : NodeId) → c ≡ class.Node k → ⊥) → Raises (λ _. raise CannotSet) s t e → Raises (λ calls. host_puts calls n v c) s t e
no_node (class.Node k) n v s t e h r = absurd (h k refl)
no_node c n v s t e h r = r

module _ (at : ObjId) (n : HostName) (v : Value) (s t : Store) where
  pub own_taken : (own : Bool) (r : Result Value (Failure Value)) → true ≡ own → Gives itself (λ calls. host_puts calls n v (class_at s at)) s t r → Gives itself (λ calls. own_puts calls at n v own) s t r
  own_taken own r is g = subst (λ b. Gives itself (λ calls. own_puts calls at n v b) s t r) is (asked_gives (λ w. class_at w at) (λ calls. host_puts calls n v) itself s t r g)

  pub own_refused : (own : Bool) (e : Failure Value) → false ≡ own → Raises (λ _. raise CannotSet) s t e → Raises (λ calls. own_puts calls at n v own) s t e
  own_refused own e is r = subst (λ b. Raises (λ calls. own_puts calls at n v b) s t e) is r

  module _ (x : List ℕ) (r : Result Value (Failure Value)) where
    seen_gives : (o : Option Seen) → seen_at s at x n ≡ o → Gives itself (λ calls. put_seen calls at x n v o) s t r → Gives itself (λ calls. put_named calls at x v (Some n)) s t r
    seen_gives o e g =
        asked_gives (λ w. seen_at w at x n) (λ calls. put_seen calls at x n v) itself s t r (subst (λ p. Gives itself (λ calls. put_seen calls at x n v p) s t r) (sym e) g)

    -- nothing is hosted above
    pub put_unhosted : (shown : Sight) → (shown ≡ sight.Nothing) ⊎ (shown ≡ sight.Held) → Shows s at x (seen_at s at x n) shown → Gives itself (λ _. put_in at x v) s t r
        → Gives itself (λ calls. put_named calls at x v (Some n)) s t r
    put_unhosted shown (inl is) h g = seen_gives None (subst (λ w. Shows s at x (seen_at s at x n) w) is h) g
    put_unhosted shown (inr is) h g = let k = subst (λ w. Shows s at x (seen_at s at x n) w) is h in seen_gives (Some (held k.prop)) k.seen g

    pub put_hosted : (c : Class) → seen_at s at x n ≡ Some (hosted c) → Gives itself (λ calls. own_puts calls at n v (has_host_name s.host.nodes (class_at s at) n)) s t r
        → Gives itself (λ calls. put_named calls at x v (Some n)) s t r
    put_hosted c e g = seen_gives (Some (hosted c)) e (asked_gives (λ w. has_host_name w.host.nodes (class_at w at) n) (λ calls. own_puts calls at n v) itself s t r g)

-- a name that is none of the host's is put as any other
pub put_plain_name : (at : ObjId) (x : List ℕ) (v : Value) (s t : Store) (r : Result Value (Failure Value)) → None ≡ host_name x → Gives itself (λ _. put_in at x v) s t r
    → Gives itself (λ calls. put_member calls (value.Object at) x v) s t r
put_plain_name at x v s t r e g = subst (λ o. Gives itself (λ calls. put_named calls at x v o) s t r) e g
