-- A function or a catch clause of a plain script may be opened, and its body is a piece of one in its frame.
use Rattle.std.proofs.Common.{◌≡◌, ◌∙◌, refl, ℕ, suc, ◌+◌, ◌<◌, ◌^◌, Bool, true, false, not, ◌&&◌, ◌||◌, nat_lt, List, [], ◌∷◌, ◌++◌, Option, Some, None, bytes_eq, is_some, arith, if◌then◌else◌}
use Rattle.std.specs.List.{list_any}
use Rattle.std.proofs.lemmas.Bool.{and_from, both_ways, false_from_ne_true, lt-ltb, not_from_false, or_left, or_parts, or_right}
use Rattle.js_core.specs.Tree as tree
use Rattle.js_core.specs.Tree.{code, func, function, one_catch}
use Rattle.js_grammar.specs.Syntax.{AreStmts}
use Rattle.early_rules.specs.EarlyRules.{assigns_maybe}
use Rattle.early_rules.specs.FormNodes.{has_reserved_identifier}
use Rattle.scope_analysis.specs.Identifiers as identifiers
use Rattle.scope_analysis.specs.Names.{bound_names, declared_names, is_among, maybe_name, own_name}
use Rattle.scope_analysis.specs.Nodes.{Node, catch_any, expr_any, stmt_any, stmts_any}
use Rattle.scope_analysis.specs.Uses.{Use, catch_uses, expr_uses, is_captured, stmt_uses, stmts_uses}
use Rattle.instrumenter.specs.Around.{next_number}
use Rattle.instrumenter.specs.Counting.{catch_scopes, count_of, expr_scopes, stmt_scopes, stmts_scopes}
use Rattle.instrumenter.specs.Fields.{clause_fields, declaration_fields, expression_fields, fields_in}
use Rattle.instrumenter.proofs.Callers.{Among, Each, Fails, Leaving, Missing, Staying, all_pass, among_left, among_right, each_among, each_at, each_both, each_fails, each_field, each_parts, each_so, fields_apart, leaving_to, missing_both, missing_parts, name_is_own, own_is_name, staying_to, stmts_undeclared}
use Rattle.scope_chains.proofs.Callers.{entry_bound}
use Rattle.heap_relations.specs.Naming.{Absent, Frame, Place, Sealed, are_below, is_scope_name, resolve, resolved}
use Rattle.heap_relations.specs.Scope.{own_frame}
use Rattle.agreement.proofs.Unset.{unset_clause, unset_frame}
use Rattle.agreement.specs.Opened.{are_plain, clause_may_open, frames_round, is_bound, is_numbered, is_round, is_sealed, kept_in, may_open, may_use, number_in, opened_at, scope_frame}
use Rattle.agreement.proofs.FormNames.{unassigned_each}
use Rattle.agreement.proofs.StandsPieces.{Allowed, Piece, inner, plain_name, still_below, with_uses}

pub each_pair : (P Q R : Use → Type 0) → ((u : Use) → P u → Q u → R u) → (us : List Use) → Each P us → Each Q us → Each R us
each_pair P Q R so [] h k = tt
each_pair P Q R so (u ∷ us) h k = (so u h.0 k.0, each_pair P Q R so us h.1 k.1)

-- ---- a scope

-- what is bound in it may be assigned, and no other name is a field that is assigned
assigned_in : (field bound : Bool) (n : ℕ) (outer : Place) → (bound ≡ false → (field ≡ false) × (may_use true true outer ≡ true))
    → may_use true true (resolved (kept_in field bound false) n outer) ≡ true
assigned_in true true n outer h = refl
assigned_in false true n outer h = refl
assigned_in true false n outer h = cc (h refl).0
assigned_in false false n outer h = (h refl).1

read_in : (field bound : Bool) (n : ℕ) (outer : Place) → may_use true false outer ≡ true → may_use true false (resolved (kept_in field bound false) n outer) ≡ true
read_in true true n outer h = refl
read_in false true n outer h = refl
read_in true false n outer h = refl
read_in false false n outer h = h

below_inside : (fields : List (List ℕ)) (n : ℕ) (bound : List ℕ → Bool) (fs : List Frame) → are_below n fs ≡ true
    → are_below (next_number fields n) (scope_frame fields n bound (λ y. false) ∷ fs) ≡ true
below_inside [] n bound fs h = h
below_inside (x ∷ xs) n bound fs h = and_from (nat_lt n (suc n)) (are_below (suc n) fs) (lt-ltb n (suc n) (omega arith)) (still_below n (suc n) fs (omega arith) h)

few_inside : (fields : List (List ℕ)) (n k : ℕ) → n + (count_of fields + k) < 2 ^ 64 → next_number fields n + k < 2 ^ 64
few_inside [] n k few = omega (arith, few)
few_inside (x ∷ xs) n k few = omega (arith, few)

numbered : (fields : List (List ℕ)) (n k : ℕ) (fs : List Frame) → n + (count_of fields + k) < 2 ^ 64 → are_below n fs ≡ true → is_numbered n fields fs ≡ true
numbered [] n k fs few below = refl
numbered (x ∷ xs) n k fs few below = and_from (nat_lt n 18446744073709551616) (are_below n fs) (lt-ltb n 18446744073709551616 (omega (arith, few))) below

-- the piece in the frame of a scope with these fields
inside : {us : List Use} {k n : ℕ} {fs : List Frame} (any : (Node → Bool) → Bool) (fields : List (List ℕ)) (bound : List ℕ → Bool) (vs : List Use)
    → Each (Allowed (scope_frame fields n bound (λ y. false) ∷ fs)) vs → Piece any us (count_of fields + k) n fs → Piece any vs k (next_number fields n) (scope_frame fields n bound (λ y. false) ∷ fs)
inside {k = k} {n = n} {fs = fs} any fields bound vs allowed h = record {
  plain = h.plain;
  deletes = h.deletes;
  own = h.own;
  allowed = allowed;
  read = λ x. read_in (is_among x fields) (bound x) (number_in fields n) (resolve fs x) (h.read x);
  below = below_inside fields n bound fs h.below;
  few = few_inside fields n k h.few;
}

-- ---- own names

-- where it is assigned, it is not the name
abbrev Unassigned : Option (List ℕ) → Use → Type 0
Unassigned own u = u.assigns ≡ true → Missing u.name (maybe_name own)

unassigned : (own : Option (List ℕ)) (us : List Use) → assigns_maybe own us ≡ false → Each (Unassigned own) us
unassigned own [] h = tt
unassigned None (u ∷ us) h = ((λ e. refl), unassigned None us refl)
unassigned (Some x) us h = unassigned_each x us h

module _ (fs : List Frame) (z : List ℕ) where
  round_named : (y : List ℕ) → Among y (z ∷ []) → is_round (own_frame z ∷ fs) y ≡ true
  round_named y there = by (bytes_eq y z) there
    where
      by : (b : Bool) → (b || false) ≡ true → is_sealed (if b then Sealed else Absent) ≡ true
      by true e = refl
      by false e = cc e

  unopened_named : (y : List ℕ) → Among y (z ∷ []) → is_some (opened_at true (resolve (own_frame z ∷ fs) y)) ≡ false
  unopened_named y there = by (bytes_eq y z) there
    where
      by : (b : Bool) → (b || false) ≡ true → is_some (opened_at true (resolved (if b then Sealed else Absent) 0 (resolve fs y))) ≡ false
      by true e = refl
      by false e = cc e

  read_named : (y : List ℕ) → may_use true false (resolve fs y) ≡ true → may_use true false (resolve (own_frame z ∷ fs) y) ≡ true
  read_named y h = by (bytes_eq y z)
    where
      by : (b : Bool) → may_use true false (resolved (if b then Sealed else Absent) 0 (resolve fs y)) ≡ true
      by true = refl
      by false = h

  assigned_named : (y : List ℕ) → Missing y (z ∷ []) → may_use true true (resolve fs y) ≡ true → may_use true true (resolve (own_frame z ∷ fs) y) ≡ true
  assigned_named y away h = by (bytes_eq y z) away
    where
      by : (b : Bool) → (b || false) ≡ false → may_use true true (resolved (if b then Sealed else Absent) 0 (resolve fs y)) ≡ true
      by true e = cc e
      by false e = h

round_at : (x : Option (List ℕ)) (fs : List Frame) (y : List ℕ) → Among y (maybe_name x) → is_round (frames_round true x fs) y ≡ true
round_at None fs y there = cc there
round_at (Some z) fs y there = round_named fs z y there

unopened_at : (x : Option (List ℕ)) (fs : List Frame) (y : List ℕ) → Among y (maybe_name x) → is_some (opened_at true (resolve (frames_round true x fs) y)) ≡ false
unopened_at None fs y there = cc there
unopened_at (Some z) fs y there = unopened_named fs z y there

-- the piece in the frame of the name that a function expression may have
round_piece : {us : List Use} {k n : ℕ} {fs : List Frame} (x : Option (List ℕ)) (any : (Node → Bool) → Bool) (vs : List Use) → Each (Allowed (frames_round true x fs)) vs
    → Piece any us k n fs → Piece any vs k n (frames_round true x fs)
round_piece None any vs allowed h = with_uses any vs allowed h
round_piece {fs = fs} (Some z) any vs allowed h =
    record { plain = h.plain; deletes = h.deletes; own = h.own; allowed = allowed; read = λ y. read_named fs z y (h.read y); below = h.below; few = h.few }

round_assigned : (x : Option (List ℕ)) (fs : List Frame) (y : List ℕ) → Missing y (maybe_name x) → may_use true true (resolve fs y) ≡ true
    → may_use true true (resolve (frames_round true x fs) y) ≡ true
round_assigned None fs y away h = h
round_assigned (Some z) fs y away h = assigned_named fs z y away h

-- ---- functions

abbrev Plain : List ℕ → Type 0
Plain x = not (is_scope_name x) ≡ true

all_plain : (xs : List (List ℕ)) → Each (Fails identifiers.is_reserved) xs → Each Plain xs
all_plain xs h = each_so (Fails identifiers.is_reserved) Plain plain_name xs h

module _ (own x : Option (List ℕ)) (formals : List (List ℕ)) (body : tree.Stmts) (is : AreStmts true body) (n : ℕ) (fs : List Frame) where
  abbrev fields : List (List ℕ)
  fields = fields_in own (code x formals body)

  abbrev names : List (List ℕ)
  names = maybe_name own ++ (formals ++ declared_names body)

  abbrev Binds : List ℕ → Type 0
  Binds y = is_bound formals body y ≡ true

  all_bound : Each Binds (formals ++ declared_names body)
  all_bound = each_among Binds (formals ++ declared_names body) (λ y there. entry_bound formals body [] is y ∙ there)

  no_field : (y : List ℕ) → Missing y names → Missing y fields
  no_field y away =
      let named : Each (λ z. Among z names) fields =
      each_field (λ z. Among z names) own x formals body
      (each_among (λ z. Among z names) (maybe_name own) (λ z there. among_left z (maybe_name own) (formals ++ declared_names body) there))
      (each_among (λ z. Among z names) formals (λ z there. among_right z (maybe_name own) (formals ++ declared_names body) (among_left z formals (declared_names body) there)))
      (each_among (λ z. Among z names) (declared_names body) (λ z there. among_right z (maybe_name own) (formals ++ declared_names body) (among_right z formals (declared_names body) there))) in
      false_from_ne_true (is_among y fields) (λ there. both_ways (is_among y names) away (each_at (λ z. Among z names) fields y named there))

  use_allowed : (u : Use) → Leaving (Allowed fs) names u → Unassigned own u → Allowed (unset_frame fields n formals body ∷ fs) u
  use_allowed u leaves kept assigns =
      assigned_in (is_among u.name fields) (is_bound formals body u.name) (number_in fields n) (resolve fs u.name) (λ e.
      let free : Missing u.name (formals ++ declared_names body) =
      false_from_ne_true (is_among u.name (formals ++ declared_names body)) (λ there.
      both_ways (is_bound formals body u.name) e (each_at Binds (formals ++ declared_names body) u.name all_bound there)) in
      let away : Missing u.name names = missing_both u.name (maybe_name own) (formals ++ declared_names body) (kept assigns) free in
      (no_field u.name away, leaves away assigns))

  body_allowed : Each (Leaving (Allowed fs) names) (stmts_uses body) → assigns_maybe own (stmts_uses body) ≡ false
      → Each (Allowed (unset_frame fields n formals body ∷ fs)) (stmts_uses body)
  body_allowed leave kept =
      each_pair (Leaving (Allowed fs) names) (Unassigned own) (Allowed (unset_frame fields n formals body ∷ fs)) use_allowed (stmts_uses body) leave
      (unassigned own (stmts_uses body) kept)

  opens : is_numbered n fields fs ≡ true → Each Plain (maybe_name own) → Each Plain formals → Each Plain (declared_names body)
      → ((y : List ℕ) → Among y (maybe_name own) → is_round fs y ≡ true)
      → ((y : List ℕ) → Among y (maybe_name own) → is_some (opened_at true (resolve fs y)) ≡ false)
      → may_open true n fs own fields formals body ≡ true
  opens number own_plain formals_plain declared_plain round unopened =
      let Held : List ℕ → Type 0 = λ y. (is_bound formals body y || (is_among y (maybe_name own) && is_round fs y)) ≡ true in
      let bound : (xs : List (List ℕ)) → Each Binds xs → Each Held xs = λ xs h. each_so Binds Held (λ y e. or_left (is_bound formals body y) _ e) xs h in
      let parts = each_parts Binds formals (declared_names body) all_bound in
      and_from _ _ number
      (and_from _ _
      (all_pass (λ y. not (is_scope_name y)) (fields ++ (formals ++ declared_names body))
      (each_both Plain fields (formals ++ declared_names body) (each_field Plain own x formals body own_plain formals_plain declared_plain)
      (each_both Plain formals (declared_names body) formals_plain declared_plain)))
      (and_from _ _ (all_pass (is_bound formals body) (declared_names body) parts.1)
      (and_from _ _
      (all_pass (λ y. is_bound formals body y || (is_among y (maybe_name own) && is_round fs y)) fields
      (each_field Held own x formals body
      (each_among Held (maybe_name own) (λ y there. or_right (is_bound formals body y) _ (and_from _ _ there (round y there))))
      (bound formals parts.0) (bound (declared_names body) parts.1)))
      (and_from _ _
      (all_pass (λ y. not (is_some (opened_at true (resolve fs y)))) (maybe_name own)
      (each_among (λ y. not (is_some (opened_at true (resolve fs y))) ≡ true) (maybe_name own) (λ y there. not_from_false _ (unopened y there))))
      (not_from_false _ (fields_apart own x formals body))))))

-- what is asked of a function with these fields, in the frames right round it, and what is left to show of its body
pub record Opens (n : ℕ) (fs : List Frame) (x own : Option (List ℕ)) (fields formals : List (List ℕ)) (body : tree.Stmts) : Type 0 where
  pub plain : are_plain true (maybe_name x) ≡ true
  pub opens : may_open true n fs own fields formals body ≡ true
  pub piece : Piece (λ t. stmts_any t body) (stmts_uses body) (stmts_scopes body) (next_number fields n) (unset_frame fields n formals body ∷ fs)

module _ (x : Option (List ℕ)) (formals : List (List ℕ)) (body : tree.Stmts) where
  identifiers_plain : list_any identifiers.is_reserved (maybe_name x ++ formals) ≡ false → Each Plain (maybe_name x) × Each Plain formals
  identifiers_plain e =
      let parts = each_parts (Fails identifiers.is_reserved) (maybe_name x) formals (each_fails identifiers.is_reserved (maybe_name x ++ formals) e) in
      (all_plain (maybe_name x) parts.0, all_plain formals parts.1)

  names_plain : stmts_any has_reserved_identifier body ≡ false → Each Plain (declared_names body)
  names_plain e = all_plain (declared_names body) (stmts_undeclared identifiers.is_reserved body e)

  -- a function expression
  pub expression_opens : {n : ℕ} {fs : List Frame} (c : Bool) → AreStmts true body
      → Piece (λ t. expr_any t c (func (code x formals body))) (expr_uses (func (code x formals body))) (expr_scopes (func (code x formals body))) n fs
      → Opens n (frames_round true x fs) x (own_name (code x formals body)) (expression_fields (code x formals body)) formals body
  expression_opens {n = n} {fs = fs} c is h =
      let own : Option (List ℕ) = own_name (code x formals body) in
      let before : List (List ℕ) = maybe_name x ++ bound_names (code x formals body) in
      let after : List (List ℕ) = maybe_name own ++ bound_names (code x formals body) in
      let round : List Frame = frames_round true x fs in
      let node = identifiers_plain (or_parts _ _ h.plain).0 in
      let names_in : (y : List ℕ) → Among y (maybe_name own) → Among y (maybe_name x) = own_is_name x formals body in
      let leave : Each (Leaving (Allowed round) after) (stmts_uses body) =
      each_so (Leaving (Allowed fs) before) (Leaving (Allowed round) after)
      (λ u out away assigns.
      let gone : Missing u.name before = name_is_own x formals body u.name away in
      round_assigned x fs u.name (missing_parts u.name (maybe_name x) (bound_names (code x formals body)) gone).0 (out gone assigns))
      (stmts_uses body) (leaving_to (Allowed fs) before (stmts_uses body) h.allowed) in
      let outer = round_piece x (λ t. stmts_any t body) [] tt (inner _ (λ t. stmts_any t body) h) in
      record {
        plain = all_pass (λ y. not (is_scope_name y)) (maybe_name x) node.0;
        opens = opens own x formals body is n round (numbered (expression_fields (code x formals body)) n (stmts_scopes body) round outer.few outer.below)
            (each_among Plain (maybe_name own) (λ y there. each_at Plain (maybe_name x) y node.0 (names_in y there))) node.1 (names_plain (or_parts _ _ h.plain).1)
            (λ y there. round_at x fs y (names_in y there)) (λ y there. unopened_at x fs y (names_in y there));
        piece = inside (λ t. stmts_any t body) (expression_fields (code x formals body)) (is_bound formals body) (stmts_uses body)
            (body_allowed own x formals body is n round leave (or_parts _ _ h.own).0) outer;
      }

  -- a function declaration, of which the name is not its own
  pub declaration_opens : {n : ℕ} {fs : List Frame} → AreStmts true body
      → Piece (λ t. stmt_any t (function (code x formals body))) (stmt_uses (function (code x formals body))) (stmt_scopes (function (code x formals body))) n fs
      → Opens n fs x None (declaration_fields (code x formals body)) formals body
  declaration_opens {n = n} {fs = fs} is h =
      let node = identifiers_plain (or_parts _ _ h.plain).0 in
      record {
        plain = all_pass (λ y. not (is_scope_name y)) (maybe_name x) node.0;
        opens = opens None x formals body is n fs (numbered (declaration_fields (code x formals body)) n (stmts_scopes body) fs h.few h.below)
            tt node.1 (names_plain (or_parts _ _ h.plain).1) (λ y there. cc there) (λ y there. cc there);
        piece = inside (λ t. stmts_any t body) (declaration_fields (code x formals body)) (is_bound formals body) (stmts_uses body)
            (body_allowed None x formals body is n fs (leaving_to (Allowed fs) (bound_names (code x formals body)) (stmts_uses body) h.allowed) refl) (inner _ (λ t. stmts_any t body) h);
      }

-- ---- catch clauses

pub record ClauseOpens (n : ℕ) (fs : List Frame) (x : List ℕ) (ss : tree.Stmts) : Type 0 where
  pub opens : clause_may_open true n fs (clause_fields x ss) x ≡ true
  pub piece : Piece (λ t. stmts_any t ss) (stmts_uses ss) (stmts_scopes ss) (next_number (clause_fields x ss) n) (unset_clause (clause_fields x ss) n x ∷ fs)

pub clause_opens : (x : List ℕ) (ss : tree.Stmts) {n : ℕ} {fs : List Frame}
    → Piece (λ t. catch_any t (one_catch x ss)) (catch_uses (one_catch x ss)) (catch_scopes (one_catch x ss)) n fs → ClauseOpens n fs x ss
clause_opens x ss {n = n} {fs = fs} h = record {
  opens = and_from _ _ (numbered (clause_fields x ss) n (stmts_scopes ss) fs h.few h.below)
      (and_from _ true (plain_name x (or_parts (identifiers.is_reserved x) false (or_parts _ _ h.plain).0).0) refl);
  piece = inside (λ t. stmts_any t ss) (clause_fields x ss) (λ y. is_among y (x ∷ [])) (stmts_uses ss)
      (each_so (Staying (Allowed fs) x) (Allowed (unset_clause (clause_fields x ss) n x ∷ fs)) stays (stmts_uses ss) (staying_to (Allowed fs) x (stmts_uses ss) h.allowed))
      (inner _ (λ t. stmts_any t ss) h);
}
  where
    no_other : (b : Bool) (y : List ℕ) → (bytes_eq y x || false) ≡ false → is_among y (if b then (x ∷ []) else []) ≡ false
    no_other true y e = e
    no_other false y e = refl

    stays : (u : Use) → Staying (Allowed fs) x u → Allowed (unset_clause (clause_fields x ss) n x ∷ fs) u
    stays u out assigns =
        assigned_in (is_among u.name (clause_fields x ss)) (is_among u.name (x ∷ [])) (number_in (clause_fields x ss) n) (resolve fs u.name)
        (λ e. (no_other (is_captured x (stmts_uses ss)) u.name e, out (or_parts (bytes_eq u.name x) false e).0 assigns))
