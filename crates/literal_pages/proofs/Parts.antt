-- Parts of the text of a page: of 16-bit units, and no longer than a page.
use Rattle.std.proofs.Common.{ℕ, zero, suc, ◌+◌, ◌≤◌, ◌≡◌, List, [], ◌∷◌, ◌++◌, take, drop, length, length-append, refl, arith}
use Rattle.dom_tree.specs.Name.{folded}
use Rattle.literal_values.specs.Values.{IsName, IsText, longest_name}
use Rattle.literal_values.proofs.Callers.{name_text}
use Rattle.literal_pages.proofs.InUnits.{InUnits, all_units, dropped_units, folded_units, left_units, right_units, taken_units}

pub record IsPart (us : List ℕ) : Type 0 where
  pub units : InUnits us
  pub short : length us ≤ longest_name

pub part_name : (us : List ℕ) → IsPart us → IsName us
part_name us h = (all_units us h.units, h.short)

pub part_text : (us : List ℕ) → IsPart us → IsText us
part_text us h = name_text us (part_name us h)

pub empty_part : IsPart []
empty_part = record { units = refl; short = omega arith }

-- ---- what is shorter

pub dropped_count : (k : ℕ) (us : List ℕ) → length (drop k us) ≤ length us
dropped_count zero us = omega arith
dropped_count (suc k) [] = omega arith
dropped_count (suc k) (u ∷ us) = let l = dropped_count k us in omega arith

-- a text is cut in two
pub halves : (k : ℕ) (us : List ℕ) → length (take k us) + length (drop k us) ≡ length us
halves zero us = omega arith
halves (suc k) [] = omega arith
halves (suc k) (u ∷ us) = let l = halves k us in omega arith

folded_count : (us : List ℕ) → length (folded us) ≤ length us
folded_count [] = omega arith
folded_count (u ∷ us) = let l = folded_count us in omega arith

-- what a part gives is one where it is no longer
pub shorter_part : (us vs : List ℕ) → IsPart us → InUnits vs → length vs ≤ length us → IsPart vs
shorter_part us vs h units l = let short = h.short in record { units = units; short = omega arith }

pub dropped_part : (k : ℕ) (us : List ℕ) → IsPart us → IsPart (drop k us)
dropped_part k us h = shorter_part us (drop k us) h (dropped_units k us h.units) (dropped_count k us)

pub taken_part : (k : ℕ) (us : List ℕ) → IsPart us → IsPart (take k us)
taken_part k us h = let l = halves k us in shorter_part us (take k us) h (taken_units k us h.units) (omega arith)

pub left_part : (us vs : List ℕ) → IsPart (us ++ vs) → IsPart us
left_part us vs h = let l = length-append us vs in shorter_part (us ++ vs) us h (left_units us vs h.units) (omega arith)

pub right_part : (us vs : List ℕ) → IsPart (us ++ vs) → IsPart vs
right_part us vs h = let l = length-append us vs in shorter_part (us ++ vs) vs h (right_units us vs h.units) (omega arith)

pub folded_part : (us : List ℕ) → IsPart us → IsPart (folded us)
folded_part us h = shorter_part us (folded us) h (folded_units us h.units) (folded_count us)
