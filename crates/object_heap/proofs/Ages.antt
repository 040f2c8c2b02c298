-- Links from a place to an older one stay so.
use Rattle.std.proofs.Common.{◌≡◌, ◌⊎◌, inl, inr, sym, ap, ◌∙◌, ℕ, ◌<◌, ◌≤◌, List, [], ◌∷◌, ◌++◌, Option, Some, None, length, length-append, slice_index_or, slice_set, arith}
use Rattle.std.proofs.Math.ListN.{get_or-append}
use Rattle.std.proofs.Math.Seq.{get_or-append_seam}
use Rattle.std.proofs.lemmas.Bool.{cases_eq, cases_order}
use Rattle.std.proofs.lemmas.List.{get_or-set_same, get_or-set_other, get_or_past}
use Rattle.std.specs.Option.{ForSome}

module _ {X L : Type 0} (d : X) (link : X → Option L) (age : L → ℕ) where
  -- each link leads to an older place
  abbrev pub Leads : List X → Type 0
  Leads xs = (k : ℕ) → ForSome (link (slice_index_or xs k d)) (λ l. age l < k)

  pub leads_push : link d ≡ None → (xs : List X) (x : X) → Leads xs → ForSome (link x) (λ l. age l < length xs) → Leads (xs ++ x ∷ [])
  leads_push none xs x leads new k l e = by (cases_order k (length xs))
    where
      by : (k ≡ length xs) ⊎ ((k < length xs) ⊎ (length xs < k)) → age l < k
      by (inl same) =
          let here : slice_index_or (xs ++ x ∷ []) k d ≡ x = ap (λ i. slice_index_or (xs ++ x ∷ []) i d) same ∙ get_or-append_seam xs x [] d in
          let older : age l < length xs = new l (ap link (sym here) ∙ e) in
          omega (arith, older, same)
      by (inr (inl before)) = leads k l (ap link (sym (get_or-append xs (x ∷ []) d k before)) ∙ e)
      by (inr (inr after)) =
          let long : length (xs ++ x ∷ []) ≤ k = omega (arith, length-append xs (x ∷ []), after) in
          let missing : None ≡ Some l = sym none ∙ ap link (sym (get_or_past (xs ++ x ∷ []) k d long)) ∙ e in
          cc missing

  pub leads_set : (xs : List X) (i : ℕ) (x : X) → i < length xs → Leads xs → link x ≡ link (slice_index_or xs i d) → Leads (slice_set xs i x)
  leads_set xs i x there leads same k l e = by (cases_eq k i)
    where
      by : (k ≡ i) ⊎ (k ≡ i → ⊥) → age l < k
      by (inl here) =
          let at : slice_index_or (slice_set xs i x) k d ≡ x = ap (λ j. slice_index_or (slice_set xs i x) j d) here ∙ get_or-set_same xs i x d there in
          let older : age l < i = leads i l (sym same ∙ ap link (sym at) ∙ e) in
          omega (arith, older, here)
      by (inr other) = leads k l (ap link (sym (get_or-set_other xs i k x d other)) ∙ e)
