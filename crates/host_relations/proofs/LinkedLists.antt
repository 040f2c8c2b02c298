-- Lists of linked nodes.
use Rattle.std.proofs.Common.{◌≡◌, refl, ℕ, Bool, true, false, cond, nat_eq, find, if◌then◌else◌, filter, List, ◌∷◌, Option, Some}
use Rattle.std.specs.List.{list_any}
use Rattle.js_values.specs.declared.ids.NodeId.{NodeId}
use Rattle.dom_tree.specs.Change.{put_before, without}
use Rattle.dom_tree.specs.Node.{first_of, has, is_this, last_from, one_before, rest_after}
use Rattle.heap_relations.specs.Related.{Each, Maybe, each, no_more, none, some}
use Rattle.host_relations.specs.Nodes.{NodeIds}

module _ (N : ℕ → ℕ → Type 0) (same : (a b c d : ℕ) → N a b → N c d → nat_eq a c ≡ nat_eq b d) where
  abbrev Ids : NodeId → NodeId → Type 0
  Ids = NodeIds N

  pub same_has : (k l : ℕ) (cs ds : List NodeId) → N k l → Each Ids cs ds → has k cs ≡ has l ds
  same_has k l _ _ n no_more = refl
  same_has k l _ _ n (each {a = c} {b = d} {xs = cs} {ys = ds} h hs) = rw (same k l c.0 d.0 n h.linked, same_has k l cs ds n hs) refl

  pub same_this : (k l : ℕ) (c d : Option NodeId) → N k l → Maybe Ids c d → is_this k c ≡ is_this l d
  same_this k l _ _ n none = refl
  same_this k l _ _ n (some {a = c} {b = d} h) = same k l c.0 d.0 n h.linked

  pub less : (k l : ℕ) (cs ds : List NodeId) → N k l → Each Ids cs ds → Each Ids (without k cs) (without l ds)
  less k l _ _ n no_more = no_more
  less k l _ _ n (each {a = c} {b = d} {xs = cs} {ys = ds} h hs) = by (nat_eq k c.0) (nat_eq l d.0) (same k l c.0 d.0 n h.linked) (less k l cs ds n hs)
    where
      by : (a b : Bool) → a ≡ b → Each Ids (without k cs) (without l ds) → Each Ids (cond a cs (c ∷ without k cs)) (cond b ds (d ∷ without l ds))
      by true true e later = hs
      by false false e later = each h later
      by true false e later = absurd (cc)
      by false true e later = absurd (cc)

  pub more : (before after : Option NodeId) (x y : NodeId) (cs ds : List NodeId) → Maybe Ids before after → Ids x y → Each Ids cs ds → Each Ids (put_before before x cs) (put_before after y ds)
  more before after x y _ _ b n no_more = each n no_more
  more before after x y _ _ b n (each {a = c} {b = d} {xs = cs} {ys = ds} h hs) = by (is_this c.0 before) (is_this d.0 after) (same_this c.0 d.0 before after h.linked b) (more before after x y cs ds b n hs)
    where
      by : (e f : Bool) → e ≡ f → Each Ids (put_before before x cs) (put_before after y ds)
          → Each Ids (cond e (x ∷ c ∷ cs) (c ∷ put_before before x cs)) (cond f (y ∷ d ∷ ds) (d ∷ put_before after y ds))
      by true true e later = each n (each h hs)
      by false false e later = each h later
      by true false e later = absurd (cc)
      by false true e later = absurd (cc)

  pub firsts : (cs ds : List NodeId) → Each Ids cs ds → Maybe Ids (first_of cs) (first_of ds)
  firsts _ _ no_more = none
  firsts _ _ (each {a = c} {b = d} {xs = cs} {ys = ds} h hs) = some h

  pub lasts : (before after : Option NodeId) (cs ds : List NodeId) → Maybe Ids before after → Each Ids cs ds → Maybe Ids (last_from before cs) (last_from after ds)
  lasts before after _ _ b no_more = b
  lasts before after _ _ b (each {a = c} {b = d} {xs = cs} {ys = ds} h hs) = lasts (Some c) (Some d) cs ds (some h) hs

  pub rests : (k l : ℕ) (cs ds : List NodeId) → N k l → Each Ids cs ds → Each Ids (rest_after k cs) (rest_after l ds)
  rests k l _ _ n no_more = no_more
  rests k l _ _ n (each {a = c} {b = d} {xs = cs} {ys = ds} h hs) = by (nat_eq k c.0) (nat_eq l d.0) (same k l c.0 d.0 n h.linked) (rests k l cs ds n hs)
    where
      by : (a b : Bool) → a ≡ b → Each Ids (rest_after k cs) (rest_after l ds) → Each Ids (cond a cs (rest_after k cs)) (cond b ds (rest_after l ds))
      by true true e later = hs
      by false false e later = later
      by true false e later = absurd (cc)
      by false true e later = absurd (cc)

  pub befores : (before after : Option NodeId) (k l : ℕ) (cs ds : List NodeId) → Maybe Ids before after → N k l → Each Ids cs ds → Maybe Ids (one_before before k cs) (one_before after l ds)
  befores before after k l _ _ b n no_more = none
  befores before after k l _ _ b n (each {a = c} {b = d} {xs = cs} {ys = ds} h hs) = by (nat_eq k c.0) (nat_eq l d.0) (same k l c.0 d.0 n h.linked) (befores (Some c) (Some d) k l cs ds (some h) n hs)
    where
      by : (e f : Bool) → e ≡ f → Maybe Ids (one_before (Some c) k cs) (one_before (Some d) l ds) → Maybe Ids (cond e before (one_before (Some c) k cs)) (cond f after (one_before (Some d) l ds))
      by true true e later = b
      by false false e later = later
      by true false e later = absurd (cc)
      by false true e later = absurd (cc)

  pub anys : (p q : NodeId → Bool) (cs ds : List NodeId) → ((c d : NodeId) → Ids c d → p c ≡ q d) → Each Ids cs ds → list_any p cs ≡ list_any q ds
  anys p q _ _ e no_more = refl
  anys p q _ _ e (each {a = c} {b = d} {xs = cs} {ys = ds} h hs) = rw (e c d h, anys p q cs ds e hs) refl

  pub finds : (p q : NodeId → Bool) (cs ds : List NodeId) → ((c d : NodeId) → Ids c d → p c ≡ q d) → Each (Ids) cs ds → Maybe (Ids) (find p cs) (find q ds)
  finds p q _ _ e no_more = none
  finds p q _ _ e (each {a = c} {b = d} {xs = cs} {ys = ds} h hs) = by (p c) (q d) (e c d h) (finds p q cs ds e hs)
    where
      by : (x y : Bool) → x ≡ y → Maybe (Ids) (find p cs) (find q ds) → Maybe (Ids) (cond x (Some c) (find p cs)) (cond y (Some d) (find q ds))
      by true true s later = some h
      by false false s later = later
      by true false s later = absurd (cc)
      by false true s later = absurd (cc)

  -- those that pass tests that agree
  pub filters : (p q : NodeId → Bool) (cs ds : List NodeId) → ((c d : NodeId) → Ids c d → p c ≡ q d) → Each Ids cs ds → Each Ids (filter p cs) (filter q ds)
  filters p q _ _ e no_more = no_more
  filters p q _ _ e (each {a = c} {b = d} {xs = cs} {ys = ds} h hs) = by (p c) (q d) (e c d h) (filters p q cs ds e hs)
    where
      by : (x y : Bool) → x ≡ y → Each Ids (filter p cs) (filter q ds) → Each Ids (if x then c ∷ filter p cs else filter p cs) (if y then d ∷ filter q ds else filter q ds)
      by true true s later = each h later
      by false false s later = later
      by true false s later = absurd (cc)
      by false true s later = absurd (cc)
