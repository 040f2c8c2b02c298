-- Places that are tried one after another, upwards and downwards.
use Rattle.std.proofs.Common.{◌≡◌, ap, ◌∙◌, ℕ, zero, suc, ◌+◌, ◌-◌, ◌<◌, ◌≤◌, Bool, true, false, [], ◌∷◌, ◌++◌, Some, None, arith}
use Rattle.std.specs.Prelude.{cond, reverse, find}
use Rattle.std.specs.List.{range_with_len}
use Rattle.std.proofs.lemmas.List.{reverse-append}

module _ (p : ℕ → Bool) where
  -- the places from k up to n
  next_up : (k n : ℕ) → k ≤ n → find p (range_with_len k (suc n - k)) ≡ cond (p k) (Some k) (find p (range_with_len (k + 1) (suc n - (k + 1))))
  next_up k n h =
      let more : suc n - k ≡ suc (n - k) = omega arith in
      let fewer : n - k ≡ suc n - (k + 1) = omega arith in
      ap (λ m. find p (range_with_len k m)) more ∙ ap (λ m. cond (p k) (Some k) (find p (range_with_len (k + 1) m))) fewer

  pub found_up : (k n : ℕ) → k ≤ n → p k ≡ true → find p (range_with_len k (suc n - k)) ≡ Some k
  found_up k n h e = next_up k n h ∙ ap (λ b. cond b (Some k) (find p (range_with_len (k + 1) (suc n - (k + 1))))) e

  pub passed_up : (k n : ℕ) → k ≤ n → p k ≡ false → find p (range_with_len k (suc n - k)) ≡ find p (range_with_len (k + 1) (suc n - (k + 1)))
  passed_up k n h e = next_up k n h ∙ ap (λ b. cond b (Some k) (find p (range_with_len (k + 1) (suc n - (k + 1))))) e

  pub none_up : (k n : ℕ) → n < k → find p (range_with_len k (suc n - k)) ≡ None
  none_up k n h = let no_more : suc n - k ≡ 0 = omega arith in ap (λ m. find p (range_with_len k m)) no_more

range_more : (a n : ℕ) → range_with_len a (suc n) ≡ range_with_len a n ++ ((a + n) ∷ [])
range_more a zero = let same : a ≡ a + 0 = omega arith in ap (λ k. k ∷ []) same
range_more a (suc n) =
    let same : a + 1 + n ≡ a + suc n = omega arith in
    ap (λ xs. a ∷ xs) (range_more (a + 1) n) ∙ ap (λ k. a ∷ (range_with_len (a + 1) n ++ k ∷ [])) same

-- the places from k - 1 down to 0
reversed : (k : ℕ) → reverse (range_with_len 0 (suc k)) ≡ k ∷ reverse (range_with_len 0 k)
reversed k =
    let same : 0 + k ≡ k = omega arith in
    ap reverse (range_more 0 k) ∙ reverse-append (range_with_len 0 k) ((0 + k) ∷ []) ∙ ap (λ j. j ∷ reverse (range_with_len 0 k)) same

module _ (p : ℕ → Bool) where
  next_down : (k : ℕ) → 0 < k → find p (reverse (range_with_len 0 k)) ≡ cond (p (k - 1)) (Some (k - 1)) (find p (reverse (range_with_len 0 (k - 1))))
  next_down k h =
      let more : k ≡ suc (k - 1) = omega arith in
      ap (λ m. find p (reverse (range_with_len 0 m))) more ∙ ap (find p) (reversed (k - 1))

  pub found_down : (k : ℕ) → 0 < k → p (k - 1) ≡ true → find p (reverse (range_with_len 0 k)) ≡ Some (k - 1)
  found_down k h e = next_down k h ∙ ap (λ b. cond b (Some (k - 1)) (find p (reverse (range_with_len 0 (k - 1))))) e

  pub passed_down : (k : ℕ) → 0 < k → p (k - 1) ≡ false → find p (reverse (range_with_len 0 k)) ≡ find p (reverse (range_with_len 0 (k - 1)))
  passed_down k h e = next_down k h ∙ ap (λ b. cond b (Some (k - 1)) (find p (reverse (range_with_len 0 (k - 1))))) e

  pub none_down : (k : ℕ) → (0 < k → ⊥) → find p (reverse (range_with_len 0 k)) ≡ None
  none_down k h = let no_more : k ≡ 0 = omega arith in ap (λ m. find p (reverse (range_with_len 0 m))) no_more
