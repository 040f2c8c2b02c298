-- A phase goes through all things, where its statements succeed for each.
use Rattle.std.proofs.Common.{◌≡◌, ◌⊎◌, inl, inr, sym, ap, subst, ◌∙◌, ℕ, suc, ◌+◌, ◌<◌, ◌≤◌, nat_lt, List, [], ◌∷◌, ◌++◌, append_assoc, length, arith, if◌then◌else◌}
use Rattle.std.proofs.lemmas.Bool.{cases_lt, cond-false, cond-true, le-ltb, lt-ltb}
use Rattle.object_heap.specs.Chain.{object_at}
use Rattle.object_heap.specs.Heap.{Contents}
use Rattle.object_heap.specs.Object.{Object}
use Rattle.object_heap.specs.Property.{Props}
use Rattle.page_meaning.specs.Store.{Store}
use Rattle.rebuild_plan.specs.Compact.{Thing, thing_of, things_at}
use Rattle.rebuild_plan.specs.declared.statement.Rebuild.{Rebuild}
use Rattle.rebuilding.specs.Rebuilt.{Succeeds, nth}
use Rattle.rebuilding.specs.Scene.{IsRunning, Scene, IsHosting}
use Rattle.rebuilding.proofs.Going.{Allowed, Going}
use Rattle.rebuilding.proofs.Phase.{Phase, phase_next, phase_same}
use Rattle.page_host.specs.Host.{Host}
use Rattle.rebuilding.proofs.Basics.{one_on}

-- the first n things have become what they are to be
abbrev pub mixed : (ℕ → Object) → (ℕ → Object) → ℕ → ℕ → Object
mixed before after n m = if nat_lt m n then after m else before m

mixed_last : (before after : ℕ → Object) (n m : ℕ) → m < n → after m ≡ mixed before after n m
mixed_last before after n m low = sym (cond-true (nat_lt m n) (after m) (before m) (lt-ltb m n low))

mixed_first : (before after : ℕ → Object) (n m : ℕ) → n ≤ m → mixed before after n m ≡ before m
mixed_first before after n m high = cond-false (nat_lt m n) (after m) (before m) (le-ltb m n high)

mixed_other : (before after : ℕ → Object) (n m : ℕ) → (m ≡ n → ⊥) → mixed before after (suc n) m ≡ mixed before after n m
mixed_other before after n m other = by (cases_lt m n)
  where
    by : (m < n) ⊎ (n ≤ m) → mixed before after (suc n) m ≡ mixed before after n m
    by (inl low) = sym (mixed_last before after (suc n) m (omega (arith, low))) ∙ mixed_last before after n m low
    by (inr high) = mixed_first before after (suc n) m (omega (arith, high, other)) ∙ sym (mixed_first before after n m high)

-- what the statements for one thing do
abbrev pub StepSucceeds : Scene → (Contents → Host → List ℕ → Type 0) → Store → List ℕ → List ℕ → Host → (ℕ → Object) → (ℕ → Object) → (ℕ → Thing → List Rebuild)
    → Type 0
StepSucceeds c End s things sites w before after one =
    (n : ℕ) (h : Contents) (rs : List Rebuild) → n < length things → IsRunning c h sites → IsHosting h w → object_at h.objects (nth sites n) ≡ before n
    → Allowed (length sites) (one n (thing_of s things (object_at s.heap.objects (nth things n))) ++ rs)
    → ((i : Contents) → Going c h i w sites (nth sites n) (after n) → Allowed (length sites) rs → Succeeds c End i w sites rs)
    → Succeeds c End h w sites (one n (thing_of s things (object_at s.heap.objects (nth things n))) ++ rs)

module _ (c : Scene) (End : Contents → Host → List ℕ → Type 0) (s : Store) (things sites : List ℕ) (g : Contents) (w : Host) (own : Props) (root : Object) (before after : ℕ → Object)
    (all : ℕ → List Thing → List Rebuild) (one : ℕ → Thing → List Rebuild)
    (opens : (n : ℕ) (t : Thing) (ts : List Thing) → all n (t ∷ ts) ≡ one n t ++ all (suc n) ts) (none : (n : ℕ) → all n [] ≡ [])
    (step : StepSucceeds c End s things sites w before after one) (count : length sites ≡ length things) where
  pub each_succeeds : (ks : List ℕ) (n : ℕ) (h : Contents) (rs : List Rebuild) → n + length ks ≡ length things
      → ((j : ℕ) → j < length ks → nth ks j ≡ nth things (n + j))
      → Phase c g h w sites own root (mixed before after n) → Allowed (length sites) (all n (things_at s things ks) ++ rs)
      → ((i : Contents) → Phase c g i w sites own root after → Allowed (length sites) rs → Succeeds c End i w sites rs)
      → Succeeds c End h w sites (all n (things_at s things ks) ++ rs)
  each_succeeds [] n h rs total at phase allowed later =
      subst (λ (xs : List Rebuild). Succeeds c End h w sites (xs ++ rs)) (sym (none n))
      (later h (phase_same c g h w sites own root (mixed before after n) after phase
      (λ m inside. mixed_last before after n m (omega (arith, inside, total, count))))
      (subst (λ (xs : List Rebuild). Allowed (length sites) (xs ++ rs)) (none n) allowed))
  each_succeeds (k ∷ ks) n h rs total at phase allowed later =
      let thing : ℕ → Thing = λ j. thing_of s things (object_at s.heap.objects j) in
      let others : List Rebuild = all (suc n) (things_at s things ks) in
      let none_more : n + 0 ≡ n = omega arith in
      let here : k ≡ nth things n = at 0 (omega arith) ∙ ap (nth things) none_more in
      let inside : n < length things = omega (arith, total) in
      let within : n < length sites = omega (arith, inside, count) in
      let are : all n (things_at s things (k ∷ ks)) ++ rs ≡ one n (thing (nth things n)) ++ (others ++ rs) =
      ap (λ (xs : List Rebuild). xs ++ rs) (opens n (thing k) (things_at s things ks)) ∙ append_assoc (one n (thing k)) others rs
      ∙ ap (λ j. one n (thing j) ++ (others ++ rs)) here
      in
      subst (Succeeds c End h w sites) (sym are)
      (step n h (others ++ rs) inside phase.running phase.hosting (phase.things n within ∙ mixed_first before after n n (omega arith))
      (subst (Allowed (length sites)) are allowed)
      (λ i now more. each_succeeds ks (suc n) i rs (omega (arith, total))
      (λ j there. at (suc j) (omega (arith, there)) ∙ ap (nth things) (one_on n j))
      (phase_next c g h i w sites own root (mixed before after n) (mixed before after (suc n)) n (after n) phase within now
      (sym (mixed_last before after (suc n) n (omega arith))) (λ m other. mixed_other before after n m other))
      more later))
