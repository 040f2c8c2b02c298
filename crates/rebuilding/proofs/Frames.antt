-- The code of a function at rest fits in the frame round it.
use Rattle.std.proofs.Common.{◌≡◌, refl, sym, ap, ◌∙◌, ℕ, Bool, true, false, true≢false, not, ◌&&◌, ◌||◌, List, [], ◌∷◌, ◌++◌, Option, Some, None, IsTrue, bytes_eq, map, if◌then◌else◌}
use Rattle.std.proofs.lemmas.Bool.{and_from, or_from, or_left, or_parts, or_right}
use Rattle.std.proofs.lemmas.List.Folds.{list_any-append}
use Rattle.js_core.specs.Tree as tree
use Rattle.js_core.specs.Tree.{code}
use Rattle.js_values.specs.declared.ids.EnvId.{EnvId}
use Rattle.heap_walker.specs.Still.{IsFunctionAtRest, other_names, wrapped}
use Rattle.page_meaning.specs.Store.{Store}
use Rattle.early_rules.specs.EarlyRules.{early_rule}
use Rattle.script_rules.specs.Form.{in_form}
use Rattle.early_rules.specs.FormNodes.{is_declaration}
use Rattle.scope_analysis.specs.Needs.{needed_variables}
use Rattle.scope_analysis.specs.Names.{bound_names, is_among, maybe_name}
use Rattle.scope_analysis.specs.Nodes.{stmts_any}
use Rattle.scope_analysis.specs.Uses.{Use, crossing, is_assigned, leaving_function, stmts_uses}
use Rattle.heap_relations.specs.Naming.{Absent, Fixed, Frame, Itself, Sealed, Unused, resolve, resolved}
use Rattle.agreement.specs.Trees.{code_fits, entry_frame, is_reached}
use Rattle.rebuilding.specs.Frames.{is_own, is_sealed, round_frame}
use Rattle.rebuilding.proofs.Entries.{binds, entry_binds}
use Rattle.rebuilding.proofs.Pieces.{stmts_stand}
use Rattle.rebuilding.proofs.Uses.{Apt, are_reached, kept_bound, kept_reached, reaches}
use Rattle.agreement.proofs.Callers.{same_name}
use Rattle.rebuilding.proofs.Wrapped.{declares_none, left_are_others, names_left, needed_unassigned, own_unassigned}

-- ---- names in the frame round it

-- its own name and what it needs are fixed
pub round_sealed : (c : tree.Code) (y : List ℕ) → is_sealed c y ≡ true → resolve (round_frame c ∷ []) y ≡ Fixed
round_sealed c y h = by_case (is_sealed c y) h
  where
    by_case : (b : Bool) → b ≡ true → resolved (if b then Sealed else (if is_among y (other_names c) then Absent else Unused)) 0 Itself ≡ Fixed
    by_case true e = refl
    by_case false e = absurd (true≢false (sym e))

-- its other names are themselves
pub round_other : (c : tree.Code) (y : List ℕ) → is_sealed c y ≡ false → is_among y (other_names c) ≡ true
    → resolve (round_frame c ∷ []) y ≡ Itself
round_other c y h k = by_case (is_sealed c y) (is_among y (other_names c)) h k
  where
    by_case : (a b : Bool) → a ≡ false → b ≡ true → resolved (if a then Sealed else (if b then Absent else Unused)) 0 Itself ≡ Itself
    by_case true b e f = absurd (true≢false e)
    by_case false true e f = refl
    by_case false false e f = absurd (true≢false (sym f))

-- ---- uses

and_other : (a b : Bool) → (a && b) ≡ false → b ≡ true → a ≡ false
and_other true b h e = sym e ∙ h
and_other false b h e = refl

own_among : (x : Option (List ℕ)) (y : List ℕ) → is_own x y ≡ false → is_among y (maybe_name x) ≡ false
own_among None y h = refl
own_among (Some z) y h = or_from _ _ h refl

abbrev names_of : List Use → List (List ℕ)
names_of us = map (λ u. u.name) us

-- a use that is not bound is left, and others are
use_left : (bound : List (List ℕ)) (u : Use) (us : List Use) → is_among u.name bound ≡ false
    → is_among u.name (names_of (leaving_function bound (u ∷ us))) ≡ true
use_left bound u us h = by_case (is_among u.name bound) h
  where
    by_case : (b : Bool) → b ≡ false
        → is_among u.name (names_of (if b then leaving_function bound us else (crossing u ∷ leaving_function bound us))) ≡ true
    by_case true e = absurd (true≢false e)
    by_case false e = or_left _ _ (same_name u.name)

more_left : (bound : List (List ℕ)) (u : Use) (us : List Use) (y : List ℕ) → is_among y (names_of (leaving_function bound us)) ≡ true
    → is_among y (names_of (leaving_function bound (u ∷ us))) ≡ true
more_left bound u us y h = by_case (is_among u.name bound)
  where
    by_case : (b : Bool) → is_among y (names_of (if b then leaving_function bound us else (crossing u ∷ leaving_function bound us))) ≡ true
    by_case true = h
    by_case false = or_right _ _ h

-- the code of one function
module _ (x : Option (List ℕ)) (formals : List (List ℕ)) (body : tree.Stmts) where
  abbrev whole : tree.Code
  whole = code x formals body

  abbrev bound : List (List ℕ)
  bound = bound_names whole

  abbrev round : List Frame
  round = round_frame whole ∷ []

  abbrev inside : List Frame
  inside = entry_frame formals body ∷ round

  -- all that is bound, with its own name
  abbrev all_bound : List (List ℕ)
  all_bound = maybe_name x ++ bound

  -- it is bound inside, or is sealed and not assigned to, or one of the other names
  use_reached : stmts_any is_declaration body ≡ false → (u : Use) (b sealed : Bool) → is_among u.name bound ≡ b → is_sealed whole u.name ≡ sealed
      → (b ≡ false → sealed ≡ true → u.assigns ≡ false)
      → (b ≡ false → sealed ≡ false → is_among u.name (other_names whole) ≡ true) → reaches inside u ≡ true
  use_reached plain u true sealed e o f g =
      ap (is_reached u.assigns) (kept_bound (binds formals body u.name) 0 (resolve round u.name) (entry_binds formals body u.name plain e))
  use_reached plain u false true e o f g =
      kept_reached u.assigns (binds formals body u.name) 0 (resolve round u.name)
      (ap (is_reached u.assigns) (round_sealed whole u.name o) ∙ ap not (f refl refl))
  use_reached plain u false false e o f g =
      kept_reached u.assigns (binds formals body u.name) 0 (resolve round u.name)
      (ap (is_reached u.assigns) (round_other whole u.name o (g refl refl)))

  neither : (y : List ℕ) → is_among y bound ≡ false → is_own x y ≡ false → is_among y all_bound ≡ false
  neither y e o = list_any-append (bytes_eq y) (maybe_name x) bound ∙ or_from _ _ (own_among x y o) e

  -- among uses that do not assign to its own name, and of which those that it leaves do not assign to what it needs
  sealed_unassigned : (u : Use) (us : List Use)
      → ((y : List ℕ) → is_among y bound ≡ false → is_own x y ≡ true → is_assigned y (u ∷ us) ≡ false)
      → ((y : List ℕ) → is_among y (needed_variables whole) ≡ true → is_assigned y (leaving_function all_bound (u ∷ us)) ≡ false)
      → is_among u.name bound ≡ false → is_sealed whole u.name ≡ true → u.assigns ≡ false
  sealed_unassigned u us f n e sealed = by (is_own x u.name) refl sealed
    where
      left_use : (b : Bool) → b ≡ false
          → is_assigned u.name (if b then leaving_function all_bound us else (crossing u ∷ leaving_function all_bound us)) ≡ false
          → u.assigns ≡ false
      left_use true o h = absurd (true≢false o)
      left_use false o h = and_other _ _ (or_parts _ _ h).0 (same_name u.name)

      by : (own : Bool) → is_own x u.name ≡ own → (own || is_among u.name (needed_variables whole)) ≡ true → u.assigns ≡ false
      by true o h = and_other _ _ (or_parts _ _ (f u.name e o)).0 (same_name u.name)
      by false o h = left_use (is_among u.name all_bound) (neither u.name e o) (n u.name h)

  -- the uses that are left of the others are among those of all
  others_left : (u : Use) (us : List Use) (y : List ℕ) → is_assigned y (leaving_function all_bound (u ∷ us)) ≡ false
      → is_assigned y (leaving_function all_bound us) ≡ false
  others_left u us y h = by (is_among u.name all_bound) h
    where
      by : (b : Bool) → is_assigned y (if b then leaving_function all_bound us else (crossing u ∷ leaving_function all_bound us)) ≡ false
          → is_assigned y (leaving_function all_bound us) ≡ false
      by true k = k
      by false k = (or_parts _ _ k).1

  uses_reached : stmts_any is_declaration body ≡ false → (us : List Use)
      → ((y : List ℕ) → is_among y bound ≡ false → is_own x y ≡ true → is_assigned y us ≡ false)
      → ((y : List ℕ) → is_among y (needed_variables whole) ≡ true → is_assigned y (leaving_function all_bound us) ≡ false)
      → ((y : List ℕ) → is_among y (names_of (leaving_function all_bound us)) ≡ true → is_among y (names_left whole) ≡ true)
      → are_reached inside us ≡ true
  uses_reached plain [] f n g = refl
  uses_reached plain (u ∷ us) f n g =
      and_from _ _
      (use_reached plain u (is_among u.name bound) (is_sealed whole u.name) refl refl (λ e s. sealed_unassigned u us f n e s) other)
      (uses_reached plain us (λ y e o. (or_parts _ _ (f y e o)).1) (λ y h. others_left u us y (n y h))
      (λ y h. g y (more_left all_bound u us y h)))
    where
      other : is_among u.name bound ≡ false → is_sealed whole u.name ≡ false → is_among u.name (other_names whole) ≡ true
      other e s =
          let parts = or_parts (is_own x u.name) (is_among u.name (needed_variables whole)) s in
          left_are_others whole u.name (g u.name (use_left all_bound u us (neither u.name e parts.0))) parts.1

-- ---- the whole function

pub fits_round_in_form : (c : tree.Code) → IsTrue (in_form (wrapped c)) → early_rule (wrapped c) ≡ None
    → code_fits (round_frame c ∷ []) c ≡ true
fits_round_in_form (code x formals body) formed early =
    let c = code x formals body in
    let plain = declares_none x formals body formed in
    let uses = uses_reached x formals body plain (stmts_uses body) (own_unassigned x formals body early) (needed_unassigned c formed) (λ y h. h) in
    let apt : Apt (entry_frame formals body ∷ round_frame c ∷ []) (stmts_uses body) (stmts_any is_declaration body) =
    record { reached = uses; plain = plain } in
    stmts_stand body apt

-- what a page at rest knows of each of its functions is enough
pub fits_at_rest : {s : Store} {k : ℕ} {env : Option EnvId} (c : tree.Code) → IsFunctionAtRest s k c env
    → code_fits (round_frame c ∷ []) c ≡ true
fits_at_rest c h = fits_round_in_form c h.formed h.orderly
