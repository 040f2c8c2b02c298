-- Listeners that are added again, node by node.
use Rattle.std.proofs.Common.{◌≡◌, refl, sym, ap, subst, ◌∙◌, ℕ, Bool, true, false, not, ◌||◌, nat_eq, if◌then◌else◌, List, [], ◌∷◌, ◌++◌, append_assoc}
use Rattle.std.proofs.lemmas.Bool.{and_parts, eqb-true}
use Rattle.js_values.specs.declared.ids.NodeId.{NodeId}
use Rattle.dom_tree.proofs.Callers.{eq_refl}
use Rattle.dom_tree.specs.Node.{has, is_distinct}
use Rattle.host_relations.proofs.Distinct.{AreNew, passed_new}
use Rattle.host_relations.proofs.Hearing.{appends, same_here}
use Rattle.host_relations.specs.Heard.{ListenersAreRebuilt, added, all_added}
use Rattle.host_relations.specs.Hosts.{heard_at}
use Rattle.page_host.specs.Listeners.{is_registered, with_listener}
use Rattle.page_host.specs.declared.listener.Listener.{Listener}

end : (l : List Listener) → l ++ [] ≡ l
end [] = refl
end (x ∷ l) = ap (λ m. x ∷ m) (end l)

-- what is added to those of a node
abbrev pub with_more : (ℕ → List Listener) → ℕ → List Listener → ℕ → List Listener
with_more f k m j = f j ++ (if nat_eq j k then m else [])

-- all of them are of the node
abbrev pub AreOf : ℕ → List Listener → Type 0
AreOf k [] = Unit {0}
AreOf k (l ∷ ls) = (l.node.0 ≡ k) × AreOf k ls

one_added : (f : ℕ → List Listener) (l : Listener) (k : ℕ) (acc : List Listener) → l.node.0 ≡ k → ((j : ℕ) → heard_at j acc ≡ f j) → is_registered (f k) l ≡ false
    → (j : ℕ) → heard_at j (with_listener acc l) ≡ with_more f k (l ∷ []) j
one_added f l k acc e h new j =
    let absent : is_registered acc l ≡ false = same_here l acc ∙ ap (λ z. is_registered z l) (ap (λ i. heard_at i acc) e ∙ h k) ∙ new in
    rw (absent, appends (λ m. nat_eq j m.node.0) acc (l ∷ []), h j, e) refl

pub all_of_node : (f : ℕ → List Listener) (k : ℕ) (m before acc : List Listener) → AreOf k m → AreNew before m → f k ≡ before → ((j : ℕ) → heard_at j acc ≡ f j)
    → (j : ℕ) → heard_at j (added m acc) ≡ with_more f k m j
all_of_node f k [] before acc of new at h j = h j ∙ sym (ap (λ l. f j ++ l) (both (nat_eq j k)) ∙ end (f j))
  where
    nothing : List Listener
    nothing = []

    both : (b : Bool) → (if b then nothing else nothing) ≡ nothing
    both true = refl
    both false = refl
all_of_node f k (l ∷ m) before acc of new at h j =
    all_of_node (with_more f k (l ∷ [])) k m (before ++ l ∷ []) (with_listener acc l) of.1 new.1
    (rw (eq_refl k, at) refl) (one_added f l k acc of.0 h (ap (λ z. is_registered z l) at ∙ new.0)) j
    ∙ append_assoc (f j) (if nat_eq j k then l ∷ [] else []) (if nat_eq j k then m else []) ∙ ap (λ x. f j ++ x) (seam (nat_eq j k))
  where
    seam : (b : Bool) → (if b then l ∷ [] else []) ++ (if b then m else []) ≡ (if b then l ∷ m else [])
    seam true = refl
    seam false = refl

pub heard_of : (k : ℕ) (ls : List Listener) → AreOf k (heard_at k ls)
heard_of k [] = tt
heard_of k (l ∷ ls) = by (nat_eq k l.node.0) refl (heard_of k ls)
  where
    by : (b : Bool) → nat_eq k l.node.0 ≡ b → AreOf k (heard_at k ls) → AreOf k (if b then l ∷ heard_at k ls else heard_at k ls)
    by true e later = (sym (eqb-true k l.node.0 e), later)
    by false e later = later

-- what all nodes have: those of the list their listeners, and others what they had
all_nodes : (ls : List Listener) (ks : List NodeId) (acc : List Listener) (f : ℕ → List Listener) → ((j : ℕ) → heard_at j acc ≡ f j) → is_distinct ks ≡ true
    → ((j : ℕ) → has j ks ≡ true → f j ≡ []) → ((k : ℕ) → AreNew [] (heard_at k ls)) → (j : ℕ)
    → heard_at j (all_added ls ks acc) ≡ (if has j ks then heard_at j ls else f j)
all_nodes ls [] acc f h distinct none new j = h j
all_nodes ls (k ∷ ks) acc f h distinct none new j =
    let parts = and_parts (not (has k.0 ks)) (is_distinct ks) distinct in
    let g : ℕ → List Listener = with_more f k.0 (heard_at k.0 ls) in
    let begun : f k.0 ≡ [] = none k.0 (first k ks) in
    let rest : heard_at j (all_added ls ks (added (heard_at k.0 ls) acc)) ≡ (if has j ks then heard_at j ls else g j) =
    all_nodes ls ks (added (heard_at k.0 ls) acc) g (all_of_node f k.0 (heard_at k.0 ls) [] acc (heard_of k.0 ls) (new k.0) begun h) parts.1
    (λ i there. later i there parts.0 (none i (behind i there)) (nat_eq i k.0) refl) new j
    in
    rest ∙ by (nat_eq j k.0) (has j ks) refl refl parts.0 begun
  where
    first : (k : NodeId) (ks : List NodeId) → has k.0 (k ∷ ks) ≡ true
    first k ks = rw (eq_refl k.0) refl

    behind : (i : ℕ) → has i ks ≡ true → has i (k ∷ ks) ≡ true
    behind i there = go (nat_eq i k.0)
      where
        go : (b : Bool) → (b || has i ks) ≡ true
        go true = refl
        go false = there

    later : (i : ℕ) → has i ks ≡ true → not (has k.0 ks) ≡ true → f i ≡ [] → (b : Bool) → nat_eq i k.0 ≡ b → f i ++ (if b then heard_at k.0 ls else []) ≡ []
    later i there fresh e true s = let bad : has k.0 ks ≡ true = subst (λ x. has x ks ≡ true) (eqb-true i k.0 s) there in absurd (cc)
    later i there fresh e false s = end (f i) ∙ e

    by : (a b : Bool) → nat_eq j k.0 ≡ a → has j ks ≡ b → not (has k.0 ks) ≡ true → f k.0 ≡ []
        → (if b then heard_at j ls else f j ++ (if a then heard_at k.0 ls else [])) ≡ (if a || b then heard_at j ls else f j)
    by true true e g fresh begun = refl
    by true false e g fresh begun =
        ap (λ i. f i ++ heard_at k.0 ls) (eqb-true j k.0 e) ∙ ap (λ l. l ++ heard_at k.0 ls) begun ∙ ap (λ i. heard_at i ls) (sym (eqb-true j k.0 e))
    by false true e g fresh begun = refl
    by false false e g fresh begun = end (f j)

pub listeners_are_rebuilt : ListenersAreRebuilt
listeners_are_rebuilt ls ks distinct new j there = all_nodes ls ks [] (λ i. []) (λ i. refl) distinct (λ i h. refl) (λ k. passed_new (λ l. nat_eq k l.node.0) ls new) j ∙ rw there refl
