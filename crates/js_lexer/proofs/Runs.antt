-- Longest runs of units of a class.
use Rattle.std.proofs.Common.{◌≡◌, ◌∙◌, ℕ, ◌+◌, Bool, true, false, cond, List, [], ◌∷◌, ◌++◌, take, drop, refl, sym, ap, suc, arith}
use Rattle.std.specs.List.{prefix_len, list_all}
use Rattle.std.proofs.lemmas.Bool.{and_parts}
use Rattle.js_lexer.specs.Characters.{begins_with}

-- units of a class that no more of it follow
pub record Run (class : ℕ → Bool) (text units rest : List ℕ) : Type 0 where
  pub joined : text ≡ units ++ rest
  pub each : list_all class units ≡ true
  pub ends : begins_with class rest ≡ false

module _ (class : ℕ → Bool) where
  take_one_more : (n : ℕ) (u : ℕ) (us : List ℕ) → take (1 + n) (u ∷ us) ≡ u ∷ take n us
  take_one_more n u us = let e : 1 + n ≡ suc n = omega arith in rw e

  drop_one_more : (n : ℕ) (u : ℕ) (us : List ℕ) → drop (1 + n) (u ∷ us) ≡ drop n us
  drop_one_more n u us = let e : 1 + n ≡ suc n = omega arith in rw e

  split : (text : List ℕ) → text ≡ take (prefix_len class text) text ++ drop (prefix_len class text) text
  split [] = refl
  split (u ∷ us) = by_case (class u) (prefix_len class us) (split us)
    where
      by_case : (b : Bool) (n : ℕ) → us ≡ take n us ++ drop n us → (u ∷ us) ≡ take (cond b (1 + n) 0) (u ∷ us) ++ drop (cond b (1 + n) 0) (u ∷ us)
      by_case true n h = rw (take_one_more n u us, drop_one_more n u us) (ap (λ v. u ∷ v) h)
      by_case false n h = refl

  passes : (text : List ℕ) → list_all class (take (prefix_len class text) text) ≡ true
  passes [] = refl
  passes (u ∷ us) = by_case (class u) refl (passes us)
    where
      by_case : (b : Bool) → class u ≡ b → list_all class (take (prefix_len class us) us) ≡ true → list_all class (take (cond b (1 + prefix_len class us) 0) (u ∷ us)) ≡ true
      by_case true e h = rw (take_one_more (prefix_len class us) u us, e) h
      by_case false e h = refl

  stops : (text : List ℕ) → begins_with class (drop (prefix_len class text) text) ≡ false
  stops [] = refl
  stops (u ∷ us) = by_case (class u) refl (stops us)
    where
      by_case : (b : Bool) → class u ≡ b → begins_with class (drop (prefix_len class us) us) ≡ false → begins_with class (drop (cond b (1 + prefix_len class us) 0) (u ∷ us)) ≡ false
      by_case true e h = rw (drop_one_more (prefix_len class us) u us) h
      by_case false e h = e

  -- each text begins with a longest run
  pub run_of : (text units rest : List ℕ) (n : ℕ) → n ≡ prefix_len class text → units ≡ take n text → rest ≡ drop n text → Run class text units rest
  run_of text units rest n e t d = record {
    joined = rw (t, d, e) (split text);
    each = rw (t, e) (passes text);
    ends = rw (d, e) (stops text);
  }

  -- and with one alone
  pub same_run : (units rest units' rest' : List ℕ) → units ++ rest ≡ units' ++ rest' → list_all class units ≡ true → list_all class units' ≡ true → begins_with class rest ≡ false → begins_with class rest' ≡ false → (units ≡ units') × (rest ≡ rest')
  same_run [] rest [] rest' e a b x y = (refl, e)
  same_run [] rest (v ∷ vs) rest' e a b x y =
      let yes : class v ≡ true = (and_parts (class v) (list_all class vs) b).0 in
      let no_more : begins_with class (v ∷ vs ++ rest') ≡ false = sym (ap (begins_with class) e) ∙ x in
      absurd (cc)
  same_run (u ∷ us) rest [] rest' e a b x y =
      let yes : class u ≡ true = (and_parts (class u) (list_all class us) a).0 in
      let no_more : begins_with class (u ∷ us ++ rest) ≡ false = ap (begins_with class) e ∙ y in
      absurd (cc)
  same_run (u ∷ us) rest (v ∷ vs) rest' e a b x y =
      let head : u ≡ v = cc in let tails : us ++ rest ≡ vs ++ rest' = cc in
      let more = same_run us rest vs rest' tails (and_parts (class u) (list_all class us) a).1 (and_parts (class v) (list_all class vs) b).1 x y in
      (ap (λ w. w ∷ us) head ∙ ap (λ ws. v ∷ ws) more.0, more.1)

  pub one_run : (text units rest units' rest' : List ℕ) → Run class text units rest → Run class text units' rest' → (units ≡ units') × (rest ≡ rest')
  one_run text units rest units' rest' r s = same_run units rest units' rest' (sym r.joined ∙ s.joined) r.each s.each r.ends s.ends
