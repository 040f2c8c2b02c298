-- What a table says of the names that were put into it.
use Rattle.std.proofs.Common.{◌≡◌, ◌≤◌, ◌-◌, ℕ, Bool, true, false, List, [], ◌∷◌, ◌||◌, length, get_or, take, drop, refl, sym, arith, bytes_eq}
use Rattle.std.proofs.lemmas.Grind.{common_steps}
use Rattle.std.proofs.lemmas.Slice.Eq.{bytes_eq-Decides}
use Rattle.std.proofs.lemmas.List.Folds.{list_any-append}
use Rattle.std.proofs.Math.Bool.{or-false, or_assoc}
use Rattle.indexmap.specs.IndexSet.{insert_key}
use Rattle.scope_analysis.specs.Names.{is_among}

stays_among : (x v : List ℕ) (ks : List (List ℕ)) → is_among v ks ≡ true → is_among x ks ≡ (is_among x ks || (bytes_eq x v || false))
stays_among x v ks e = by_case (bytes_eq x v) refl
  where
    by_case : (b : Bool) → bytes_eq x v ≡ b → is_among x ks ≡ (is_among x ks || (bytes_eq x v || false))
    by_case true p = rw ((bytes_eq-Decides x v).0 p, e) refl
    by_case false p = rw (p) (sym (or-false (is_among x ks)))

-- a name that is put into a table
pub among_inserted : (ks : List (List ℕ)) (v x : List ℕ) → is_among x (insert_key bytes_eq ks v) ≡ (is_among x ks || (bytes_eq x v || false))
among_inserted ks v x = by_case (is_among v ks) refl
  where
    by_case : (b : Bool) → is_among v ks ≡ b → is_among x (insert_key bytes_eq ks v) ≡ (is_among x ks || (bytes_eq x v || false))
    by_case true p = rw (p) (stays_among x v ks p)
    by_case false p = rw (p) (list_any-append (bytes_eq x) ks (v ∷ []))

-- the next name of a list is put into a table
pub next_among : (x v : List ℕ) (ks new rest : List (List ℕ)) (whole : Bool) → 1 ≤ length rest → v ≡ get_or rest 0 v → new ≡ insert_key bytes_eq ks v → (is_among x ks || is_among x rest) ≡ whole → (is_among x new || is_among x (take (length rest - 1) (drop 1 rest))) ≡ whole
next_among x v ks new [] whole h is put left = absurd (omega arith)
next_among x v ks new (y ∷ ys) whole h is put left =
    let here : is_among x new ≡ (is_among x ks || (bytes_eq x y || false)) = rw (put, among_inserted ks v x, is) refl in
    let moved = or_assoc (is_among x ks) (bytes_eq x y) (is_among x ys) in
    rw (here, or-false (bytes_eq x y)) (grind (arith, common_steps, moved))
