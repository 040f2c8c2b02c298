-- The parts of a text, one after another.
use Rattle.std.proofs.Common.{◌≡◌, sym, ap, ◌∙◌, ℕ, suc, ◌+◌, ◌-◌, ◌<◌, ◌≤◌, List, [], ◌∷◌, ◌++◌, length, map, min, take, drop, Some, None, append_assoc, arith}
use Rattle.std.proofs.lemmas.List.{take-append-le, take-map, take_min}
use Rattle.page_meaning.specs.StringRows.{cut_at, first_place, parts_between}

-- where one more part may be cut
unfolds : (x rest : List ℕ) (n k : ℕ) → k < n → parts_between (n - k) x rest ≡ cut_at rest (length x) (first_place rest x 0) (λ r. parts_between (n - (k + 1)) x r)
unfolds x rest n k h =
    let more : n - k ≡ suc (n - (k + 1)) = omega arith in
    ap (λ m. parts_between m x rest) more

pub one_cut : (parts parts' : List (List ℕ)) (x rest : List ℕ) (n k limit place : ℕ) (all : List (List ℕ)) → k < n → Some place ≡ first_place rest x 0 → parts' ≡ parts ++ take place rest ∷ []
    → take limit (parts ++ parts_between (n - k) x rest) ≡ all → take limit (parts' ++ parts_between (n - (k + 1)) x (drop (place + length x) rest)) ≡ all
one_cut parts parts' x rest n k limit place all h found e inv =
    let one = unfolds x rest n k h ∙ ap (λ o. cut_at rest (length x) o (λ r. parts_between (n - (k + 1)) x r)) (sym found) in
    rw (e, append_assoc) (ap (λ ps. take limit (parts ++ ps)) (sym one) ∙ inv)

pub no_cut : (parts : List (List ℕ)) (x rest : List ℕ) (n k limit : ℕ) (all : List (List ℕ)) → k < n → None ≡ first_place rest x 0
    → take limit (parts ++ parts_between (n - k) x rest) ≡ all → take limit (parts ++ rest ∷ []) ≡ all
no_cut parts x rest n k limit all h found inv =
    let one = unfolds x rest n k h ∙ ap (λ o. cut_at rest (length x) o (λ r. parts_between (n - (k + 1)) x r)) (sym found) in
    ap (λ ps. take limit (parts ++ ps)) (sym one) ∙ inv

-- as many parts as there may be
pub enough : (parts more other : List (List ℕ)) (limit : ℕ) (all : List (List ℕ)) → limit ≤ length parts → take limit (parts ++ more) ≡ all → take limit (parts ++ other) ≡ all
enough parts more other limit all h inv = take-append-le limit parts other h ∙ sym (take-append-le limit parts more h) ∙ inv

-- no unit is left for a cut
pub all_cut : (parts : List (List ℕ)) (x rest : List ℕ) (n k limit : ℕ) (all : List (List ℕ)) → n ≤ k → take limit (parts ++ parts_between (n - k) x rest) ≡ all → take limit (parts ++ rest ∷ []) ≡ all
all_cut parts x rest n k limit all h inv =
    let no_more : 0 ≡ n - k = omega arith in
    ap (λ m. take limit (parts ++ parts_between m x rest)) no_more ∙ inv

-- each unit for itself, as many as there may be
pub all_units : {A : Type 0} (f : ℕ → A) (t : List ℕ) (limit count end : ℕ) → end ≡ min limit (length t) → count ≤ end → end ≤ count → map f (take count t) ≡ take limit (map f t)
all_units f t limit count end e low high =
    let same : count ≡ end = omega arith in
    ap (λ n. map f (take n t)) (same ∙ e) ∙ ap (map f) (take_min limit t) ∙ sym (take-map f limit t)
