-- Listeners of linked nodes.
use Rattle.std.proofs.Common.{◌≡◌, refl, sym, ap, ◌∙◌, ℕ, Bool, true, false, not, ◌||◌, nat_eq, filter, if◌then◌else◌, List, [], ◌∷◌, ◌++◌}
use Rattle.heap_relations.specs.Related.{Each, each, no_more}
use Rattle.heap_relations.specs.Naming.{Named, World}
use Rattle.host_relations.specs.Linked.{Linked}
use Rattle.host_relations.specs.Hosts.{ListenerRel, ListenersRel, heard_at}
use Rattle.page_host.specs.declared.listener.Listener.{Listener}
use Rattle.page_host.specs.Listeners.{is_registered, is_same_listener, with_listener, without_listener}

-- those of linked nodes that pass tests that agree
pub passed : {W : World} (p q : Listener → Bool) (ls ms : List Listener) → ((l m : Listener) → ListenerRel W l m → p l ≡ q m) → Each (ListenerRel W) ls ms → Each (ListenerRel W) (filter p ls) (filter q ms)
passed p q _ _ same no_more = no_more
passed {W = W} p q _ _ same (each {a = l} {b = m} {xs = ls} {ys = ms} h hs) = by (p l) (q m) (same l m h) (passed p q ls ms same hs)
  where
    by : (b d : Bool) → b ≡ d → Each (ListenerRel W) (filter p ls) (filter q ms) → Each (ListenerRel W) (if b then l ∷ filter p ls else filter p ls) (if d then m ∷ filter q ms else filter q ms)
    by true true e later = each h later
    by false false e later = later
    by true false e later = absurd (cc)
    by false true e later = absurd (cc)

-- one filter after another, in either order
filters : (p q : Listener → Bool) (ls : List Listener) → filter p (filter q ls) ≡ filter q (filter p ls)
filters p q [] = refl
filters p q (l ∷ ls) = by (p l) (q l) refl refl (filters p q ls)
  where
    by : (b d : Bool) → p l ≡ b → q l ≡ d → filter p (filter q ls) ≡ filter q (filter p ls)
        → filter p (if d then l ∷ filter q ls else filter q ls) ≡ filter q (if b then l ∷ filter p ls else filter p ls)
    by true true e f later = rw (e, f) (ap (λ k. l ∷ k) later)
    by true false e f later = rw f later
    by false true e f later = rw e later
    by false false e f later = later

pub appends : (p : Listener → Bool) (ls ms : List Listener) → filter p (ls ++ ms) ≡ filter p ls ++ filter p ms
appends p [] ms = refl
appends p (l ∷ ls) ms = by (p l) (appends p ls ms)
  where
    by : (b : Bool) → filter p (ls ++ ms) ≡ filter p ls ++ filter p ms → (if b then l ∷ filter p (ls ++ ms) else filter p (ls ++ ms)) ≡ (if b then l ∷ filter p ls else filter p ls) ++ filter p ms
    by true later = ap (λ k. l ∷ k) later
    by false later = later

joined : {W : World} (ls ms ks js : List Listener) → Each (ListenerRel W) ls ms → Each (ListenerRel W) ks js → Each (ListenerRel W) (ls ++ ks) (ms ++ js)
joined _ _ ks js no_more k = k
joined _ _ ks js (each {a = l} {b = m} {xs = ls} {ys = ms} h hs) k = each h (joined ls ms ks js hs k)

-- a registration of another node is none of this one's: so it is judged among those of its node
pub same_here : (l : Listener) (ls : List Listener) → is_registered ls l ≡ is_registered (heard_at l.node.0 ls) l
same_here l [] = refl
same_here l (m ∷ ls) = by (nat_eq l.node.0 m.node.0) refl (same_here l ls)
  where
    by : (b : Bool) → nat_eq l.node.0 m.node.0 ≡ b → is_registered ls l ≡ is_registered (heard_at l.node.0 ls) l
        → (is_same_listener l m || is_registered ls l) ≡ is_registered (if b then m ∷ heard_at l.node.0 ls else heard_at l.node.0 ls) l
    by true e later = ap (λ c. is_same_listener l m || c) later
    by false e later = rw e later

module _ (W : World) (objects : (a b c d : ℕ) → Named W a b → Named W c d → nat_eq a c ≡ nat_eq b d) (nodes : (a b c d : ℕ) → Linked W a b → Linked W c d → nat_eq a c ≡ nat_eq b d) where
  pub same_test : (k j l m : Listener) → ListenerRel W k j → ListenerRel W l m → is_same_listener k l ≡ is_same_listener j m
  same_test k j l m r s = rw (nodes k.node.0 j.node.0 l.node.0 m.node.0 r.node s.node, objects k.call.0 j.call.0 l.call.0 m.call.0 r.call s.call, r.kind, s.kind, r.capture, s.capture) refl

  pub same_any : (k j : Listener) (ls ms : List Listener) → ListenerRel W k j → Each (ListenerRel W) ls ms → is_registered ls k ≡ is_registered ms j
  same_any k j _ _ r no_more = refl
  same_any k j _ _ r (each {a = l} {b = m} {xs = ls} {ys = ms} h hs) = rw (same_test k j l m r h, same_any k j ls ms r hs) refl

  pub registered : (k j : Listener) (ls ms : List Listener) → ListenerRel W k j → ListenersRel W ls ms → is_registered ls k ≡ is_registered ms j
  registered k j ls ms r h = same_here k ls ∙ same_any k j (heard_at k.node.0 ls) (heard_at j.node.0 ms) r (h k.node.0 j.node.0 r.node) ∙ sym (same_here j ms)

  -- a registration is added at the end of those of its node, and of no other node
  pub listening_rel : (k j : Listener) (ls ms : List Listener) → ListenerRel W k j → ListenersRel W ls ms → ListenersRel W (with_listener ls k) (with_listener ms j)
  listening_rel k j ls ms r h a b n = by (is_registered ls k) (is_registered ms j) (registered k j ls ms r h)
    where
      one : (c d : Bool) → c ≡ d → Each (ListenerRel W) (if c then k ∷ [] else []) (if d then j ∷ [] else [])
      one true true e = each r no_more
      one false false e = no_more
      one true false e = absurd (cc)
      one false true e = absurd (cc)

      by : (c d : Bool) → c ≡ d → Each (ListenerRel W) (heard_at a (if c then ls else ls ++ k ∷ [])) (heard_at b (if d then ms else ms ++ j ∷ []))
      by true true e = h a b n
      by false false e =
          rw (appends (λ l. nat_eq a l.node.0) ls (k ∷ []), appends (λ m. nat_eq b m.node.0) ms (j ∷ []))
          (joined (heard_at a ls) (heard_at b ms) (heard_at a (k ∷ [])) (heard_at b (j ∷ [])) (h a b n) (one (nat_eq a k.node.0) (nat_eq b j.node.0) (nodes a b k.node.0 j.node.0 n r.node)))
      by true false e = absurd (cc)
      by false true e = absurd (cc)

  pub forgetting_rel : (k j : Listener) (ls ms : List Listener) → ListenerRel W k j → ListenersRel W ls ms → ListenersRel W (without_listener ls k) (without_listener ms j)
  forgetting_rel k j ls ms r h a b n =
      rw (filters (λ l. nat_eq a l.node.0) (λ l. not (is_same_listener k l)) ls, filters (λ m. nat_eq b m.node.0) (λ m. not (is_same_listener j m)) ms)
      (passed (λ l. not (is_same_listener k l)) (λ m. not (is_same_listener j m)) (heard_at a ls) (heard_at b ms) (λ l m s. ap not (same_test k j l m r s)) (h a b n))
