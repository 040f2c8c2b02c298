-- Lists of listeners by the places of nodes.
use Rattle.std.proofs.Common.{◌≡◌, refl, sym, ap, ◌∙◌, ℕ, zero, suc, ◌<◌, Bool, true, false, List, [], ◌∷◌, ◌++◌, append_assoc, length, nat_eq, slice_set}
use Rattle.std.proofs.lemmas.Bool.{eq-eqb, eqb-true}
use Rattle.std.proofs.lemmas.List.{get_or-set_other, get_or-set_same}
use Rattle.std.specs.Prelude.{if◌then◌else◌}
use Rattle.page_host.specs.declared.listener.Listener.{Listener}
use Rattle.heap_walker.specs.Heard.{group_at, with_heard}
use Rattle.heap_walker.specs.Things.{heard_at}

-- one more list without listeners changes nothing
pub group_pushed : (gs : List (List Listener)) (g : List Listener) (k : ℕ) → g ≡ [] → group_at (gs ++ g ∷ []) k ≡ group_at gs k
group_pushed [] g zero none = none
group_pushed [] g (suc k) none = refl
group_pushed (h ∷ gs) g zero none = refl
group_pushed (h ∷ gs) g (suc k) none = group_pushed gs g k none

-- another list at a place
pub group_set : (gs : List (List Listener)) (p k : ℕ) (g : List Listener) → p < length gs → group_at (slice_set gs p g) k ≡ (if nat_eq k p then g else group_at gs k)
group_set gs p k g inside = by (nat_eq k p) refl
  where
    by : (b : Bool) → nat_eq k p ≡ b → group_at (slice_set gs p g) k ≡ (if nat_eq k p then g else group_at gs k)
    by true e = rw e (ap (group_at (slice_set gs p g)) (eqb-true k p e) ∙ get_or-set_same gs p g [] inside)
    by false e = rw e (get_or-set_other gs p k g [] (apart e))
      where
        apart : nat_eq k p ≡ false → k ≡ p → ⊥
        apart other same = let both : true ≡ false = sym (eq-eqb k p same) ∙ other in cc both

-- the listener joins the list of its node
pub group_heard : (old gs : List (List Listener)) (l : Listener) (k : ℕ) → ((j : ℕ) → group_at gs j ≡ group_at old j) → l.node.0 < length gs
    → group_at (slice_set gs l.node.0 (group_at gs l.node.0 ++ l ∷ [])) k ≡ with_heard k (group_at old k) l
group_heard old gs l k same inside = group_set gs l.node.0 k (group_at gs l.node.0 ++ l ∷ []) inside ∙ by (nat_eq k l.node.0) refl
  where
    by : (b : Bool) → nat_eq k l.node.0 ≡ b
        → (if nat_eq k l.node.0 then (group_at gs l.node.0 ++ l ∷ []) else group_at gs k) ≡ with_heard k (group_at old k) l
    by true e = rw e (ap (λ x. x ++ l ∷ []) (ap (group_at gs) (sym (at e)) ∙ same k))
      where
        at : nat_eq k l.node.0 ≡ true → k ≡ l.node.0
        at = eqb-true k l.node.0
    by false e = rw e (same k)

-- the listeners of a node, of which one may be the next
pub heard_next : (k : ℕ) (g h : List Listener) (l : Listener) (ls all : List Listener) → h ≡ with_heard k g l → all ≡ l ∷ ls → h ++ heard_at k ls ≡ g ++ heard_at k all
heard_next k g h l ls all joined whole = ap (λ x. x ++ heard_at k ls) joined ∙ by (nat_eq k l.node.0) refl ∙ ap (λ r. g ++ heard_at k r) (sym whole)
  where
    by : (b : Bool) → nat_eq k l.node.0 ≡ b → with_heard k g l ++ heard_at k ls ≡ g ++ heard_at k (l ∷ ls)
    by true e = rw e (append_assoc g (l ∷ []) (heard_at k ls))
    by false e = rw e refl
