-- A phase that changes of the host, node by node, one part of each: what it is of the document and of each thing that is a node, and that it stays of others.
use Rattle.std.proofs.Common.{◌≡◌, ◌⊎◌, inl, inr, refl, sym, ap, subst, ◌∙◌, ℕ, suc, ◌<◌, ◌≤◌, List, [], ◌++◌, append_assoc, length, arith}
use Rattle.std.proofs.lemmas.Bool.{cases_eq}
use Rattle.object_heap.specs.Chain.{object_at}
use Rattle.object_heap.specs.Heap.{Contents}
use Rattle.page_host.specs.Host.{Host}
use Rattle.page_meaning.specs.Places.{document}
use Rattle.page_meaning.specs.Store.{Store}
use Rattle.rebuild_plan.specs.Compact.{compact, thing_at, things_at}
use Rattle.rebuild_plan.specs.Plan as plan
use Rattle.rebuild_plan.specs.declared.phase.Phase.{Phase}
use Rattle.rebuild_plan.specs.declared.statement.Rebuild.{Rebuild}
use Rattle.rebuilding.specs.Rebuilt.{Succeeds, nth}
use Rattle.rebuilding.specs.Scene.{IsHosting, IsRunning, Scene}
use Rattle.rebuilding.proofs.EachHost.{each_host}
use Rattle.rebuilding.proofs.OwnObjects.{IsNodeOn, OwnObjects, no_document, node_same, nodes_apart}

-- the thing with this number is a node, or nothing is said of it
pub data IsAt (h : Contents) (p : Phase) (s : Store) (things sites : List ℕ) (n : ℕ) : Type 0 where
  at_node : (k : ℕ) → IsNodeOn h (nth sites n) k → IsAt h p s things sites n
  at_other : ((k : ℕ) → IsNodeOn h (nth sites n) k → ⊥) → plan.statements_of p (plan.thing_place n) (thing_at s things (nth things n)) ≡ []
      → IsAt h p s things sites n

module _ (c : Scene) (End : Contents → Host → List ℕ → Type 0) (h : Contents) (s : Store) (things sites : List ℕ) (p : Phase) (running : IsRunning c h sites)
    (count : length sites ≡ length things) (A : Type 0) (look : Host → ℕ → A) (first : Host) (keeps : Host → Type 0)
    (of_document : A) (wanted : ℕ → A) (own : OwnObjects h first sites) where
  -- the statements for the node: the host has the part wanted afterwards, and those of other nodes stay
  abbrev pub NodeSucceeds : ℕ → A → List Rebuild → Type 0
  NodeSucceeds k want qs =
      (g : Host) (rs : List Rebuild) → IsHosting h g → keeps g → look g k ≡ look first k
      → ((j : Host) → IsHosting h j → keeps j → look j k ≡ want → ((i : ℕ) → (i ≡ k → ⊥) → look j i ≡ look g i) → Succeeds c End h j sites rs)
      → Succeeds c End h g sites (qs ++ rs)

  -- when so many things are done
  pub record NodesDone (n : ℕ) (g : Host) : Type 0 where
    pub kept : keeps g
    pub first_node : look g 0 ≡ of_document
    pub done : (m k : ℕ) → m < n → m < length things → IsNodeOn h (nth sites m) k → look g k ≡ wanted m
    pub left : (m k : ℕ) → n ≤ m → m < length things → IsNodeOn h (nth sites m) k → look g k ≡ look first k
    -- nodes that are no things
    pub others : (k : ℕ) → (k ≡ 0 → ⊥) → ((m : ℕ) → m < length things → IsNodeOn h (nth sites m) k → ⊥) → look g k ≡ look first k

  module _ (kinds : (n : ℕ) → n < length things → IsAt h p s things sites n)
      (one : (n k : ℕ) → n < length things → IsNodeOn h (nth sites n) k
      → NodeSucceeds k (wanted n) (plan.statements_of p (plan.thing_place n) (thing_at s things (nth things n)))) where
    within : (n : ℕ) → n < length things → n < length sites
    within n inside = omega (arith, inside, count)

    step : (n : ℕ) (g : Host) (rs : List Rebuild) → n < length things → IsHosting h g → NodesDone n g
        → ((j : Host) → IsHosting h j → NodesDone (suc n) j → Succeeds c End h j sites rs)
        → Succeeds c End h g sites (plan.statements_of p (plan.thing_place n) (thing_at s things (nth things n)) ++ rs)
    step n g rs inside hosting is later = by (kinds n inside)
      where
        more : (j : Host) (k : ℕ) → IsNodeOn h (nth sites n) k → keeps j → look j k ≡ wanted n → ((i : ℕ) → (i ≡ k → ⊥) → look j i ≡ look g i) → NodesDone (suc n) j
        more j k on kept here stays = record {
          kept = kept;
          first_node = stays 0 (λ same. no_document c h first sites n k running own (within n inside) on (sym same)) ∙ is.first_node;
          done = λ m l low below there. done_at m l below there (cases_eq m n) low;
          left =
              λ m l high below there. stays l
              (λ same. nodes_apart c h first sites m n l k running own (within m below) (within n inside) (λ e. omega (arith, e, high)) there on same)
              ∙ is.left m l (omega (arith, high)) below there;
          others = λ l positive none. stays l (λ same. none n inside (subst (λ q. IsNodeOn h (nth sites n) q) (sym same) on)) ∙ is.others l positive none;
        }
          where
            done_at : (m l : ℕ) → m < length things → IsNodeOn h (nth sites m) l → (m ≡ n) ⊎ (m ≡ n → ⊥) → m < suc n → look j l ≡ wanted m
            done_at m l below there (inl same) low =
                let equal : l ≡ k = node_same (sym there ∙ ap (λ q. (object_at h.objects (nth sites q)).class) same ∙ on) in
                ap (look j) equal ∙ here ∙ ap wanted (sym same)
            done_at m l below there (inr other) low =
                stays l (λ same. nodes_apart c h first sites m n l k running own (within m below) (within n inside) other there on same)
                ∙ is.done m l (omega (arith, low, other)) below there

        same_still : ((k : ℕ) → IsNodeOn h (nth sites n) k → ⊥) → NodesDone (suc n) g
        same_still none = record {
          kept = is.kept;
          first_node = is.first_node;
          done = λ m l low below there. done_at m l low below there (cases_eq m n);
          left = λ m l high below there. is.left m l (omega (arith, high)) below there;
          others = is.others;
        }
          where
            done_at : (m l : ℕ) → m < suc n → m < length things → IsNodeOn h (nth sites m) l → (m ≡ n) ⊎ (m ≡ n → ⊥) → look g l ≡ wanted m
            done_at m l low below there (inl same) = absurd (none l (subst (λ q. IsNodeOn h (nth sites q) l) same there))
            done_at m l low below there (inr other) = is.done m l (omega (arith, low, other)) below there

        by : IsAt h p s things sites n → Succeeds c End h g sites (plan.statements_of p (plan.thing_place n) (thing_at s things (nth things n)) ++ rs)
        by (at_node k on) =
            one n k inside on g rs hosting is.kept (is.left n k (omega arith) inside on) (λ j now kept here stays. later j now (more j k on kept here stays))
        by (at_other none nothing) =
            subst (λ qs. Succeeds c End h g sites (qs ++ rs)) (sym nothing) (later g hosting (same_still none))

    -- the document first, then each thing
    pub whole_phase : (rs : List Rebuild) → NodeSucceeds 0 of_document (plan.statements_of p document (thing_at s things document.0))
        → IsHosting h first → keeps first
        → ((j : Host) → IsHosting h j → NodesDone (length things) j → Succeeds c End h j sites rs)
        → Succeeds c End h first sites (plan.whole p (compact s things) ++ rs)
    whole_phase rs document_first hosting kept later =
        subst (Succeeds c End h first sites) (sym (append_assoc mine others rs))
        (document_first first (others ++ rs) hosting kept refl
        (λ j now keeps_j here stays. each_host c End h s things sites p NodesDone step j rs now
        (record {
          kept = keeps_j;
          first_node = here;
          done = λ m k low below on. absurd (omega (arith, low));
          left = λ m k high below on. stays k (λ same. no_document c h first sites m k running own (within m below) on same);
          others = λ k positive none. stays k positive;
        })
        later))
      where
        mine : List Rebuild
        mine = plan.statements_of p document (thing_at s things document.0)

        others : List Rebuild
        others = plan.each p 0 (things_at s things things)
