-- Places in a page's text and in its file's bytes.
use Rattle.std.proofs.Common.{◌≡◌, ◌∙◌, ℕ, ◌+◌, ◌-◌, ◌≤◌, ◌<◌, ◌==◌, Bool, true, false, cond, List, [], ◌∷◌, refl, sym, ap, arith}
use Rattle.std.proofs.lemmas.Bool.Decides.{nat_tests}
use Rattle.page_reader.specs.Text.{bytes_before, is_half, less_unit, size_of, unit_size, units_behind}

less_le : (b : Bool) (n m : ℕ) → n ≤ m → cond b n (n - 1) ≤ cond b m (m - 1)
less_le true n m h = h
less_le false n m h = omega arith

less_sub : (b : Bool) (n m : ℕ) → 0 < n → n ≤ m → cond b m (m - 1) - cond b n (n - 1) ≡ m - n
less_sub true n m s h = refl
less_sub false n m s h = omega arith

is_zero : (n : ℕ) → (n == 0) ≡ true → n ≡ 0
is_zero n e = grind (arith, nat_tests)

is_some : (n : ℕ) → (n == 0) ≡ false → 0 < n
is_some n e = grind (arith, nat_tests)

pub not_zero : (n : ℕ) → 0 < n → (n == 0) ≡ false
not_zero n h = grind (arith, nat_tests)

pub behind_more : (us : List ℕ) (n m : ℕ) → n ≤ m → units_behind (units_behind us n) (m - n) ≡ units_behind us m
behind_more [] n m h = refl
behind_more (u ∷ us) n m h = by_case (n == 0) refl (behind_more us (less_unit u us n) (less_unit u us m) (less_le (is_half u us) n m h))
  where
    by_case : (b : Bool) → (n == 0) ≡ b → units_behind (units_behind us (less_unit u us n)) (less_unit u us m - less_unit u us n) ≡ units_behind us (less_unit u us m) → units_behind (cond b (u ∷ us) (units_behind us (less_unit u us n))) (m - n) ≡ units_behind (u ∷ us) m
    by_case true e more = let z = is_zero n e in let same : m - n ≡ m = omega arith in ap (units_behind (u ∷ us)) same
    by_case false e more =
        let s = is_some n e in
        let t : 0 < m = omega arith in
        ap (units_behind (units_behind us (less_unit u us n))) (sym (less_sub (is_half u us) n m s h)) ∙ more ∙ rw (not_zero m t) refl

pub bytes_more : (us : List ℕ) (n m : ℕ) → n ≤ m → bytes_before us n + bytes_before (units_behind us n) (m - n) ≡ bytes_before us m
bytes_more [] n m h = refl
bytes_more (u ∷ us) n m h = by_case (n == 0) refl (bytes_more us (less_unit u us n) (less_unit u us m) (less_le (is_half u us) n m h))
  where
    by_case : (b : Bool) → (n == 0) ≡ b → bytes_before us (less_unit u us n) + bytes_before (units_behind us (less_unit u us n)) (less_unit u us m - less_unit u us n) ≡ bytes_before us (less_unit u us m) → cond b 0 (unit_size u + bytes_before us (less_unit u us n)) + bytes_before (cond b (u ∷ us) (units_behind us (less_unit u us n))) (m - n) ≡ bytes_before (u ∷ us) m
    by_case true e more = let z = is_zero n e in let same : m - n ≡ m = omega arith in let g = ap (bytes_before (u ∷ us)) same in omega (arith, g)
    by_case false e more =
        let s = is_some n e in
        let t : 0 < m = omega arith in
        let same = ap (bytes_before (units_behind us (less_unit u us n))) (less_sub (is_half u us) n m s h) in
        let right : bytes_before (u ∷ us) m ≡ unit_size u + bytes_before us (less_unit u us m) = rw (not_zero m t) refl in
        omega (arith, more, same, right)

-- what is passed and what stands behind it are all
pub size_split : (us : List ℕ) (n : ℕ) → bytes_before us n + size_of (units_behind us n) ≡ size_of us
size_split [] n = refl
size_split (u ∷ us) n = by_case (n == 0) (size_split us (less_unit u us n))
  where
    by_case : (b : Bool) → bytes_before us (less_unit u us n) + size_of (units_behind us (less_unit u us n)) ≡ size_of us → cond b 0 (unit_size u + bytes_before us (less_unit u us n)) + size_of (cond b (u ∷ us) (units_behind us (less_unit u us n))) ≡ size_of (u ∷ us)
    by_case true more = omega arith
    by_case false more = omega (arith, more)

pub before_le : (us : List ℕ) (n : ℕ) → bytes_before us n ≤ size_of us
before_le us n = let s = size_split us n in omega arith

-- Nothing is passed yet

pub behind_none : (us : List ℕ) (n : ℕ) → n ≡ 0 → units_behind us n ≡ us
behind_none [] n e = refl
behind_none (u ∷ us) n e = rw e refl

pub bytes_none : (us : List ℕ) (n : ℕ) → n ≡ 0 → bytes_before us n ≡ 0
bytes_none [] n e = refl
bytes_none (u ∷ us) n e = rw e refl

-- Where going on ends

pub ends_behind : (rest all : List ℕ) (left count : ℕ) → left ≡ 0 → units_behind rest left ≡ units_behind all count → rest ≡ units_behind all count
ends_behind rest all left count z e = sym (behind_none rest left z) ∙ e

pub ends_bytes : (rest all : List ℕ) (left count bytes : ℕ) → left ≡ 0 → bytes + bytes_before rest left ≡ bytes_before all count → bytes ≡ bytes_before all count
ends_bytes rest all left count bytes z e = let n = bytes_none rest left z in omega (arith, n, e)

-- Going on from what stands behind some units

pub rest_short : (us rest : List ℕ) (n limit : ℕ) → rest ≡ units_behind us n → size_of us < limit → size_of rest < limit
rest_short us rest n limit e h = let s = size_split us n in let g = ap size_of e in omega (arith, s, g, h)

pub at_rest : (us rest behind : List ℕ) (passed place : ℕ) → rest ≡ units_behind us passed → passed ≤ place → behind ≡ units_behind rest (place - passed) → behind ≡ units_behind us place
at_rest us rest behind passed place r h e = e ∙ ap (λ x. units_behind x (place - passed)) r ∙ behind_more us passed place h

pub at_bytes : (us rest : List ℕ) (passed place bytes more : ℕ) → rest ≡ units_behind us passed → bytes ≡ bytes_before us passed → passed ≤ place → more ≡ bytes_before rest (place - passed) → bytes + more ≡ bytes_before us place
at_bytes us rest passed place bytes more r b h e =
    let m = e ∙ ap (λ x. bytes_before x (place - passed)) r in
    let all = bytes_more us passed place h in
    omega (arith, b, m, all)

pub bytes_short : (us : List ℕ) (place limit bytes : ℕ) → bytes ≡ bytes_before us place → size_of us < limit → bytes < limit
bytes_short us place limit bytes e h = let s = before_le us place in omega (arith, e, s, h)

pub place_short : (us : List ℕ) (place limit bytes skipped : ℕ) → bytes ≡ bytes_before us place → skipped + size_of us < limit → skipped + bytes < limit
place_short us place limit bytes skipped e h = let s = before_le us place in omega (arith, e, s, h)
