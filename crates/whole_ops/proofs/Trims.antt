-- White space round a text.
use Rattle.std.proofs.Common.{◌≡◌, ℕ, ◌-◌, ◌≤◌, Bool, true, not, List, [], ◌∷◌, ◌++◌, length, take, drop, reverse, sym, ap, ◌∙◌, arith, length-drop, append_assoc}
use Rattle.std.specs.List.{list_all}
use Rattle.std.proofs.lemmas.List.{take-append-drop, reverse-append, reverse-reverse, length-reverse, drop_at}
use Rattle.std.proofs.lemmas.Bool.{and_parts, not-true}
use Rattle.whole_ops.specs.Grammar.{AreWhiteSpace}
use Rattle.whole_ops.specs.WhiteSpace.{is_str_white_space, behind, trimmed}
use Rattle.whole_ops.proofs.EachUnit.{all-reverse}
use Rattle.whole_ops.proofs.Spans.{taken, taken-behind, taken_pass, behind_no, behind-append, behind_all, behind_apart}

-- the text without its last units
pub take_reversed : (xs : List ℕ) (k : ℕ) → k ≤ length xs → take (length xs - k) xs ≡ reverse (drop k (reverse xs))
take_reversed xs k h =
    let n = length xs - k in
    let parts : reverse xs ≡ reverse (drop n xs) ++ reverse (take n xs) = ap reverse (sym (take-append-drop n xs)) ∙ reverse-append (take n xs) (drop n xs) in
    let last : length (reverse (drop n xs)) ≡ k = omega (arith, length-reverse (drop n xs), length-drop n xs) in
    let rest : drop k (reverse xs) ≡ reverse (take n xs) = rw parts (drop_at (reverse (drop n xs)) (reverse (take n xs)) k last) in
    sym (ap reverse rest ∙ reverse-reverse (take n xs))

abbrev pub is_within : ℕ → Bool
is_within u = not (is_str_white_space u)

trimmed_behind : (within after : List ℕ) → list_all is_within within ≡ true → AreWhiteSpace after → reverse (behind is_str_white_space (reverse (behind is_str_white_space (within ++ after)))) ≡ within
trimmed_behind [] after h space = rw (behind_all is_str_white_space after space)
trimmed_behind (u ∷ us) after h space =
    let within = u ∷ us in
    let from_first : behind is_str_white_space (within ++ after) ≡ within ++ after =
    behind_no is_str_white_space u (us ++ after) (not-true (is_str_white_space u) (and_parts (is_within u) (list_all is_within us) h).0) in
    let from_last : behind is_str_white_space (reverse (within ++ after)) ≡ reverse within =
    ap (behind is_str_white_space) (reverse-append within after)
    ∙ behind-append is_str_white_space (reverse after) (reverse within) (all-reverse is_str_white_space after space)
    ∙ behind_apart is_str_white_space (reverse within) (all-reverse is_within within h) in
    ap (λ t. reverse (behind is_str_white_space (reverse t))) from_first ∙ ap reverse from_last ∙ reverse-reverse within

-- nothing is left of white space alone
pub trimmed_all : (t : List ℕ) → AreWhiteSpace t → trimmed t ≡ []
unfolding trimmed
trimmed_all t space = rw (behind_all is_str_white_space t space)

-- what has no white space stands between white space
pub trimmed_between : (before within after : List ℕ) → AreWhiteSpace before → list_all is_within within ≡ true → AreWhiteSpace after → trimmed (before ++ within ++ after) ≡ within
unfolding trimmed
trimmed_between before within after first h last =
    ap (λ t. reverse (behind is_str_white_space (reverse t)))
    (ap (behind is_str_white_space) (append_assoc before within after) ∙ behind-append is_str_white_space before (within ++ after) first)
    ∙ trimmed_behind within after h last

-- a text is what is left of it with white space round it
pub record IsTrimmed (t : List ℕ) : Type 0 where
  pub before : List ℕ
  pub after : List ℕ
  pub first : AreWhiteSpace before
  pub last : AreWhiteSpace after
  pub joined : t ≡ before ++ trimmed t ++ after

pub trimmed_parts : (t : List ℕ) → IsTrimmed t
unfolding trimmed
trimmed_parts t =
    let rest = behind is_str_white_space t in
    let after = reverse (taken is_str_white_space (reverse rest)) in
    let split : rest ≡ reverse (behind is_str_white_space (reverse rest)) ++ after =
    sym (reverse-reverse rest) ∙ ap reverse (taken-behind is_str_white_space (reverse rest))
    ∙ reverse-append (taken is_str_white_space (reverse rest)) (behind is_str_white_space (reverse rest)) in
    record {
      before = taken is_str_white_space t;
      after = after;
      first = taken_pass is_str_white_space t;
      last = all-reverse is_str_white_space (taken is_str_white_space (reverse rest)) (taken_pass is_str_white_space (reverse rest));
      joined = taken-behind is_str_white_space t ∙ ap (λ u. taken is_str_white_space t ++ u) split
          ∙ sym (append_assoc (taken is_str_white_space t) (reverse (behind is_str_white_space (reverse rest))) after);
    }
