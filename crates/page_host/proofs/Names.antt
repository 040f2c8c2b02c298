-- Host names by their lengths.
use Rattle.std.proofs.Common.{◌≡◌, ℕ, ◌∷◌, [], Bool, true, false, None, length, nat_eq, bytes_eq, refl, sym, ap, ◌∙◌, arith}
use Rattle.std.proofs.lemmas.Bool.Decides.{nat_tests}
use Rattle.std.proofs.lemmas.Slice.Eq.{bytes_eq-Decides}
use Rattle.js_core.specs.Text.{Text}
use Rattle.page_host.specs.HostNames.{Named, host_name, host_names, name_among, of_length}

unlike : (n k : ℕ) → (n ≡ k → ⊥) → nat_eq n k ≡ false
unlike n k h = grind (arith, nat_tests, h)

is_itself : (n : ℕ) → nat_eq n n ≡ true
is_itself n = grind (arith, nat_tests)

-- texts of other lengths differ
differ : (x y : Text) → nat_eq (length x) (length y) ≡ false → bytes_eq x y ≡ false
differ x y h = by_case (bytes_eq x y) refl where
  by_case : (b : Bool) → bytes_eq x y ≡ b → b ≡ false
  by_case false e = refl
  by_case true e = absurd (cc (sym (is_itself (length x)) ∙ ap (λ z. nat_eq (length x) (length z)) ((bytes_eq-Decides x y).0 e) ∙ h))

-- the text is looked for among those of its length alone
pub by_length : (ns : Named) (x : Text) → name_among ns x ≡ name_among (of_length (length x) ns) x
by_length [] x = refl
by_length (n ∷ ns) x = by_case (nat_eq (length x) (length n.0)) refl (by_length ns x) where
  by_case : (b : Bool) → nat_eq (length x) (length n.0) ≡ b → name_among ns x ≡ name_among (of_length (length x) ns) x → name_among (n ∷ ns) x ≡ name_among (of_length (length x) (n ∷ ns)) x
  by_case true e h = rw (e, h)
  by_case false e h = rw (e, differ x n.0 e, h)

-- where its length is known
pub so_long : (x s : Text) (n : ℕ) → s ≡ x → length s ≡ n → host_name x ≡ name_among (of_length n host_names) x
unfolding host_name
so_long x s n e h = by_length host_names x ∙ ap (λ k. name_among (of_length k host_names) x) (ap length (sym e) ∙ h)

-- none of them is as long
abbrev NoneSoLong : ℕ → Named → Type 0
NoneSoLong n [] = Unit {0}
NoneSoLong n (m ∷ ns) = (nat_eq n (length m.0) ≡ false) × NoneSoLong n ns

none_among : (ns : Named) (x : Text) (n : ℕ) → NoneSoLong n ns → name_among (of_length n ns) x ≡ None
none_among [] x n h = refl
none_among (m ∷ ns) x n h = rw (h.0, none_among ns x n h.1)

none_so_long : (n : ℕ)
    → nat_eq n 2 ≡ false → nat_eq n 4 ≡ false → nat_eq n 5 ≡ false → nat_eq n 6 ≡ false → nat_eq n 7 ≡ false → nat_eq n 8 ≡ false
    → nat_eq n 9 ≡ false → nat_eq n 10 ≡ false → nat_eq n 11 ≡ false → nat_eq n 13 ≡ false → nat_eq n 15 ≡ false
    → NoneSoLong n host_names
none_so_long n a b c d e f g h i j k =
    (f, (f, (g, (h, (h, (g, (k, (i, (j, (i, (e, (a, (g, (c, (b, (k, (b, (b, (d, (j, (h, (e, (h, (g, tt))))))))))))))))))))))))

pub of_no_length : (x s : Text) → s ≡ x
    → (length s ≡ 2 → ⊥) → (length s ≡ 4 → ⊥) → (length s ≡ 5 → ⊥) → (length s ≡ 6 → ⊥) → (length s ≡ 7 → ⊥) → (length s ≡ 8 → ⊥)
    → (length s ≡ 9 → ⊥) → (length s ≡ 10 → ⊥) → (length s ≡ 11 → ⊥) → (length s ≡ 13 → ⊥) → (length s ≡ 15 → ⊥)
    → None ≡ host_name x
of_no_length x s z a b c d e f g h i j k =
    sym (so_long x s (length s) z refl
    ∙ none_among host_names x (length s) (none_so_long (length s) (unlike _ _ a) (unlike _ _ b) (unlike _ _ c) (unlike _ _ d) (unlike _ _ e) (unlike _ _ f)
    (unlike _ _ g) (unlike _ _ h) (unlike _ _ i) (unlike _ _ j) (unlike _ _ k)))
