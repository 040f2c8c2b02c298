-- What a chain of prototypes shows of a host name.
use Rattle.std.proofs.Common.{◌≡◌, refl, sym, ap, subst, ◌∙◌, ℕ, zero, suc, Bool, true, false, List, Option, Some, None, is_some}
use Rattle.std.specs.Option.{option_map}
use Rattle.js_values.specs.declared.ids.ObjId.{ObjId}
use Rattle.dom_tree.specs.Node.{Nodes}
use Rattle.object_heap.specs.declared.object.Class.{Class}
use Rattle.object_heap.specs.declared.property.Prop.{Prop}
use Rattle.object_heap.specs.Chain.{AreOlder, first_found, found, found_within, get_property, object_at}
use Rattle.object_heap.specs.Object.{Object}
use Rattle.object_heap.specs.Property.{own_property}
use Rattle.object_heap.proofs.Callers.{found_on, property_on}
use Rattle.page_host.specs.declared.host_name.HostName.{HostName}
use Rattle.page_meaning.specs.Classes.{class_at}
use Rattle.page_meaning.specs.HostNames.{Seen, has_host_name, held, hosted, see}
use Rattle.page_meaning.specs.Reading.{seen_at}
use Rattle.page_meaning.specs.Store.{Store}
use Rattle.page_state.specs.Sights.{IsHeld}

is_none : {A : Type 0} (o : Option A) → is_some o ≡ false → o ≡ None
is_none None h = refl
is_none (Some a) h = cc h

module _ (t : Nodes) (x : List ℕ) (n : HostName) (o : Object) where
  see_hosted : has_host_name t o.class n ≡ true → see t x n o ≡ Some (hosted o.class)
  see_hosted h = rw h refl

  see_held : (p : Prop) → has_host_name t o.class n ≡ false → own_property o.props x ≡ Some p → see t x n o ≡ Some (held p)
  see_held p h e = rw (h, e) refl

  see_none : has_host_name t o.class n ≡ false → own_property o.props x ≡ None → see t x n o ≡ None
  see_none h e = rw (h, e) refl

-- ---- up the chain

module _ (s : Store) (x : List ℕ) (n : HostName) where
  -- no object below this one shows anything
  pub record Climb (from at : ObjId) : Type 0 where
    pub seen : seen_at s from x n ≡ seen_at s at x n
    pub got : get_property s.heap.objects from.0 x ≡ get_property s.heap.objects at.0 x

  pub climb_begins : (from : ObjId) → Climb from from
  climb_begins from = record { seen = refl; got = refl }

  -- the object shows it, or else its prototype
  seen_on : (at : ObjId) → AreOlder s.heap.objects
      → seen_at s at x n ≡ first_found (see s.host.nodes x n (object_at s.heap.objects at.0)) (object_at s.heap.objects at.0).proto (λ q. found (see s.host.nodes x n) s.heap.objects q)
  seen_on at ages = found_on (see s.host.nodes x n) s.heap.objects at.0 ages

  module _ (from at : ObjId) (ages : AreOlder s.heap.objects) (g : Climb from at) where
    pub shows_hosted : has_host_name s.host.nodes (class_at s at) n ≡ true → seen_at s from x n ≡ Some (hosted (class_at s at))
    shows_hosted h =
        let o = object_at s.heap.objects at.0 in
        g.seen ∙ seen_on at ages ∙ ap (λ w. first_found w o.proto (λ q. found (see s.host.nodes x n) s.heap.objects q)) (see_hosted s.host.nodes x n o h)

    pub shows_held : has_host_name s.host.nodes (class_at s at) n ≡ false → is_some (own_property (object_at s.heap.objects at.0).props x) ≡ true → IsHeld s from x (seen_at s from x n)
    shows_held h there = by_case (own_property (object_at s.heap.objects at.0).props x) refl there
      where
        by_case : (own : Option Prop) → own_property (object_at s.heap.objects at.0).props x ≡ own → is_some own ≡ true → IsHeld s from x (seen_at s from x n)
        by_case None e some = cc some
        by_case (Some p) e some =
            let o = object_at s.heap.objects at.0 in
            record {
              prop = p;
              seen = g.seen ∙ seen_on at ages ∙ ap (λ w. first_found w o.proto (λ q. found (see s.host.nodes x n) s.heap.objects q)) (see_held s.host.nodes x n o p h e);
              got = ap (option_map (λ (q : Prop). q.value)) (g.got ∙ property_on s.heap.objects at.0 x ages ∙ ap (λ w. first_found w o.proto (λ q. get_property s.heap.objects q x)) e);
            }

    pub shows_nothing : has_host_name s.host.nodes (class_at s at) n ≡ false → is_some (own_property (object_at s.heap.objects at.0).props x) ≡ false → (object_at s.heap.objects at.0).proto ≡ None → seen_at s from x n ≡ None
    shows_nothing h none last =
        let o = object_at s.heap.objects at.0 in
        g.seen ∙ seen_on at ages ∙ ap (λ w. first_found w o.proto (λ q. found (see s.host.nodes x n) s.heap.objects q)) (see_none s.host.nodes x n o h (is_none _ none))
        ∙ ap (λ p. first_found None p (λ q. found (see s.host.nodes x n) s.heap.objects q)) last

    pub climb_on : (above : ObjId) → has_host_name s.host.nodes (class_at s at) n ≡ false → is_some (own_property (object_at s.heap.objects at.0).props x) ≡ false
        → (object_at s.heap.objects at.0).proto ≡ Some above → Climb from above
    climb_on above h none up =
        let o = object_at s.heap.objects at.0 in
        let own = is_none (own_property o.props x) none in
        record {
          seen =
              g.seen ∙ seen_on at ages ∙ ap (λ w. first_found w o.proto (λ q. found (see s.host.nodes x n) s.heap.objects q)) (see_none s.host.nodes x n o h own)
              ∙ ap (λ p. first_found None p (λ q. found (see s.host.nodes x n) s.heap.objects q)) up;
          got =
              g.got ∙ property_on s.heap.objects at.0 x ages ∙ ap (λ w. first_found w o.proto (λ q. get_property s.heap.objects q x)) own
              ∙ ap (λ p. first_found None p (λ q. get_property s.heap.objects q x)) up;
        }

-- ---- an object that is shown has the name itself

module _ (t : Nodes) (x : List ℕ) (n : HostName) (c : Class) where
  here_has : (o : Object) → see t x n o ≡ Some (hosted c) → has_host_name t c n ≡ true
  here_has o e = by_case (has_host_name t o.class n) refl
    where
      by_own : (own : Option Prop) → option_map held own ≡ Some (hosted c) → has_host_name t c n ≡ true
      by_own None f = cc f
      by_own (Some p) f = cc f

      by_case : (b : Bool) → has_host_name t o.class n ≡ b → has_host_name t c n ≡ true
      by_case true h =
          let f : Some (hosted o.class) ≡ Some (hosted c) = sym (see_hosted t x n o h) ∙ e in
          let same : o.class ≡ c = cc f in
          subst (λ d. has_host_name t d n ≡ true) same h
      by_case false h = by_own (own_property o.props x) (rw h at e)

  first_has : (own : Option Seen) (proto : Option ObjId) (up : ℕ → Option Seen) → (own ≡ Some (hosted c) → has_host_name t c n ≡ true)
      → ((q : ObjId) → up q.0 ≡ Some (hosted c) → has_host_name t c n ≡ true) → first_found own proto up ≡ Some (hosted c) → has_host_name t c n ≡ true
  first_has (Some w) proto up h above e = h e
  first_has None None up h above e = cc e
  first_has None (Some q) up h above e = above q e

  within_has : (objects : List Object) (m k : ℕ) → found_within (see t x n) objects m k ≡ Some (hosted c) → has_host_name t c n ≡ true
  within_has objects zero k e = cc e
  within_has objects (suc m) k e =
      first_has (see t x n (object_at objects k)) (object_at objects k).proto (λ q. found_within (see t x n) objects m q) (here_has (object_at objects k)) (λ q. within_has objects m q.0) e

pub hosted_has : (s : Store) (at : ObjId) (x : List ℕ) (n : HostName) (c : Class) → seen_at s at x n ≡ Some (hosted c) → has_host_name s.host.nodes c n ≡ true
hosted_has s at x n c e = within_has s.host.nodes x n c s.heap.objects (suc at.0) at.0 e
