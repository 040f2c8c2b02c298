-- Uses of names that are reached from inside a function or a catch clause, where those that it leaves are reached from round it.
use Rattle.std.proofs.Common.{◌≡◌, refl, sym, ap, ◌∙◌, ℕ, Bool, true, false, true≢false, ◌||◌, List, [], ◌∷◌, ◌++◌, Option, Some, None, bytes_eq, if◌then◌else◌}
use Rattle.std.specs.List.{list_all}
use Rattle.std.proofs.lemmas.Bool.{and_from, and_parts, or_left, or_parts}
use Rattle.std.proofs.lemmas.List.Folds.{list_all-append, list_any-append}
use Rattle.js_core.specs.Tree as tree
use Rattle.js_core.specs.Tree.{code}
use Rattle.early_rules.specs.FormNodes.{is_declaration}
use Rattle.scope_analysis.specs.Names.{bound_names, is_among, maybe_name}
use Rattle.scope_analysis.specs.Nodes.{stmts_any}
use Rattle.scope_analysis.specs.Uses.{Use, crossing, leaving_clause, leaving_function, stmts_uses}
use Rattle.heap_relations.specs.Naming.{Frame, Itself, Place, resolve, resolved}
use Rattle.agreement.specs.Trees.{entry_frame, frame_of, free_where, is_reached, own_frames}
use Rattle.rebuilding.proofs.Entries.{binds, entry_binds}

-- ---- uses that are reached

abbrev pub reaches : List Frame → Use → Bool
reaches fs u = is_reached u.assigns (resolve fs u.name)

abbrev pub are_reached : List Frame → List Use → Bool
are_reached fs us = list_all (reaches fs) us

-- the uses of a piece are reached in these frames, and no function is declared in it
pub record Apt (fs : List Frame) (us : List Use) (declares : Bool) : Type 0 where
  pub reached : are_reached fs us ≡ true
  pub plain : declares ≡ false

-- the parts of a piece
pub left : {fs : List Frame} {us : List Use} {b : Bool} (vs : List Use) (c : Bool) → Apt fs (us ++ vs) (b || c) → Apt fs us b
left {fs = fs} {us = us} {b = b} vs c h = record {
  reached = (and_parts (are_reached fs us) (are_reached fs vs) (sym (list_all-append (reaches fs) us vs) ∙ h.reached)).0;
  plain = (or_parts b c h.plain).0;
}

pub right : {fs : List Frame} {vs : List Use} {c : Bool} (us : List Use) (b : Bool) → Apt fs (us ++ vs) (b || c) → Apt fs vs c
right {fs = fs} {vs = vs} {c = c} us b h = record {
  reached = (and_parts (are_reached fs us) (are_reached fs vs) (sym (list_all-append (reaches fs) us vs) ∙ h.reached)).1;
  plain = (or_parts b c h.plain).1;
}

pub one : {fs : List Frame} {u : Use} {us : List Use} {b : Bool} → Apt fs (u ∷ us) b → reaches fs u ≡ true
one {fs = fs} {u = u} {us = us} h = (and_parts (reaches fs u) (are_reached fs us) h.reached).0

pub rest : {fs : List Frame} {u : Use} {us : List Use} {b : Bool} → Apt fs (u ∷ us) b → Apt fs us b
rest {fs = fs} {u = u} {us = us} h = record { reached = (and_parts (reaches fs u) (are_reached fs us) h.reached).1; plain = h.plain }

-- ---- a frame more

pub kept_bound : (b : Bool) (k : ℕ) (p : Place) → b ≡ true → resolved (free_where b) k p ≡ Itself
kept_bound true k p e = refl
kept_bound false k p e = absurd (true≢false (sym e))

pub kept_itself : (b : Bool) (k : ℕ) (p : Place) → p ≡ Itself → resolved (free_where b) k p ≡ Itself
kept_itself true k p e = refl
kept_itself false k p e = e

pub kept_reached : (assigns b : Bool) (k : ℕ) (p : Place) → is_reached assigns p ≡ true → is_reached assigns (resolved (free_where b) k p) ≡ true
kept_reached assigns true k p h = refl
kept_reached assigns false k p h = h

own_bound : (x : Option (List ℕ)) (fs : List Frame) (y : List ℕ) → is_among y (maybe_name x) ≡ true → resolve (own_frames x fs) y ≡ Itself
own_bound None fs y h = absurd (true≢false (sym h))
own_bound (Some x) fs y h = kept_bound (is_among y (x ∷ [])) 0 (resolve fs y) h

own_reached : (x : Option (List ℕ)) (fs : List Frame) (assigns : Bool) (y : List ℕ) → is_reached assigns (resolve fs y) ≡ true
    → is_reached assigns (resolve (own_frames x fs) y) ≡ true
own_reached None fs assigns y h = h
own_reached (Some x) fs assigns y h = kept_reached assigns (is_among y (x ∷ [])) 0 (resolve fs y) h

-- ---- functions and catch clauses inside

-- some code binds these names, and leaves all else to the frames round it
module _ (fs gs : List Frame) where
  through_function : (bound : List (List ℕ)) → ((y : List ℕ) → is_among y bound ≡ true → resolve gs y ≡ Itself)
      → ((assigns : Bool) (y : List ℕ) → is_reached assigns (resolve fs y) ≡ true → is_reached assigns (resolve gs y) ≡ true)
      → (us : List Use) → are_reached fs (leaving_function bound us) ≡ true → are_reached gs us ≡ true
  through_function bound binds keeps [] h = refl
  through_function bound binds keeps (u ∷ us) h = by_case (is_among u.name bound) refl h (through_function bound binds keeps us)
    where
      by_case : (b : Bool) → is_among u.name bound ≡ b
          → are_reached fs (if b then leaving_function bound us else (crossing u ∷ leaving_function bound us)) ≡ true
          → (are_reached fs (leaving_function bound us) ≡ true → are_reached gs us ≡ true) → are_reached gs (u ∷ us) ≡ true
      by_case true e k r = and_from _ _ (ap (is_reached u.assigns) (binds u.name e)) (r k)
      by_case false e k r = let p = and_parts _ _ k in and_from _ _ (keeps u.assigns u.name p.0) (r p.1)

through_clause : (x : List ℕ) (fs : List Frame) (us : List Use) → are_reached fs (leaving_clause x us) ≡ true
    → are_reached (frame_of (x ∷ []) ∷ fs) us ≡ true
through_clause x fs [] h = refl
through_clause x fs (u ∷ us) h = by_case (bytes_eq u.name x) refl h (through_clause x fs us)
  where
    by_case : (b : Bool) → bytes_eq u.name x ≡ b → are_reached fs (if b then leaving_clause x us else (u ∷ leaving_clause x us)) ≡ true
        → (are_reached fs (leaving_clause x us) ≡ true → are_reached (frame_of (x ∷ []) ∷ fs) us ≡ true)
        → are_reached (frame_of (x ∷ []) ∷ fs) (u ∷ us) ≡ true
    by_case true e k r =
        let bound : is_among u.name (x ∷ []) ≡ true = or_left _ _ e in
        and_from _ _ (ap (is_reached u.assigns) (kept_bound (is_among u.name (x ∷ [])) 0 (resolve fs u.name) bound)) (r k)
    by_case false e k r =
        let p = and_parts _ _ k in
        and_from _ _ (kept_reached u.assigns (is_among u.name (x ∷ [])) 0 (resolve fs u.name) p.0) (r p.1)

pub left_of_or : (a b : Bool) → (a || b) ≡ true → b ≡ false → a ≡ true
left_of_or true b h e = refl
left_of_or false b h e = sym e ∙ h

-- a function expression binds its own name too
function_binds : (x : Option (List ℕ)) (formals : List (List ℕ)) (body : tree.Stmts) (fs : List Frame) → stmts_any is_declaration body ≡ false
    → (y : List ℕ) → is_among y (maybe_name x ++ bound_names (code x formals body)) ≡ true
    → resolve (entry_frame formals body ∷ own_frames x fs) y ≡ Itself
function_binds x formals body fs none y h = by_case (is_among y (bound_names (code x formals body))) refl
  where
    by_case : (b : Bool) → is_among y (bound_names (code x formals body)) ≡ b → resolve (entry_frame formals body ∷ own_frames x fs) y ≡ Itself
    by_case true e =
        kept_bound (binds formals body y) 0 (resolve (own_frames x fs) y) (entry_binds formals body y none e)
    by_case false e =
        let parts = list_any-append (bytes_eq y) (maybe_name x) (bound_names (code x formals body)) in
        let own : is_among y (maybe_name x) ≡ true = left_of_or _ _ (sym parts ∙ h) e in
        kept_itself (binds formals body y) 0 (resolve (own_frames x fs) y) (own_bound x fs y own)

pub inside_function : {fs : List Frame} (x : Option (List ℕ)) (formals : List (List ℕ)) (body : tree.Stmts)
    → Apt fs (leaving_function (maybe_name x ++ bound_names (code x formals body)) (stmts_uses body)) (stmts_any is_declaration body)
    → Apt (entry_frame formals body ∷ own_frames x fs) (stmts_uses body) (stmts_any is_declaration body)
inside_function {fs = fs} x formals body h = record {
  reached =
      through_function fs (entry_frame formals body ∷ own_frames x fs) (maybe_name x ++ bound_names (code x formals body))
      (function_binds x formals body fs h.plain) keeps (stmts_uses body) h.reached;
  plain = h.plain;
}
  where
    keeps : (assigns : Bool) (y : List ℕ) → is_reached assigns (resolve fs y) ≡ true
        → is_reached assigns (resolve (entry_frame formals body ∷ own_frames x fs) y) ≡ true
    keeps assigns y k =
        kept_reached assigns (binds formals body y) 0 (resolve (own_frames x fs) y) (own_reached x fs assigns y k)

pub inside_clause : {fs : List Frame} {declares : Bool} (x : List ℕ) (ss : tree.Stmts) → Apt fs (leaving_clause x (stmts_uses ss)) declares
    → Apt (frame_of (x ∷ []) ∷ fs) (stmts_uses ss) declares
inside_clause {fs = fs} x ss h = record { reached = through_clause x fs (stmts_uses ss) h.reached; plain = h.plain }
