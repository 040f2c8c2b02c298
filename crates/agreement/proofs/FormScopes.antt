-- A function or a catch clause of a script in form: what is asked of it holds, and its body is a piece of one in its frame.
use Rattle.std.proofs.Common.{◌≡◌, ◌∙◌, refl, sym, ap, ℕ, Bool, true, false, ◌&&◌, ◌||◌, List, [], ◌∷◌, ◌++◌, Option, Some, None, bytes_eq, if◌then◌else◌}
use Rattle.std.proofs.lemmas.Bool.{and_from, and_parts, both_ways, not-false, not-true, or_parts}
use Rattle.std.proofs.lemmas.Slice.Eq.{bytes_eq-Decides}
use Rattle.std.proofs.Math.Bool.{and-false}
use Rattle.js_core.specs.Tree as tree
use Rattle.js_core.specs.Tree.{assign, code, expr, func, function, literal, name, no_declarators, one_catch, one_expr, then_declarator, then_stmt, var}
use Rattle.js_grammar.specs.Syntax.{AreStmts}
use Rattle.code_table.specs.Declarations.{functions_of}
use Rattle.early_rules.specs.EarlyRules.{assigns_maybe}
use Rattle.script_rules.specs.Form.{are_variables_in_form, boxes, is_field_of, is_not_captured, is_parameter_in_form}
use Rattle.scope_analysis.specs.Uses.{Use, catch_uses, expr_uses, fields_uses, is_assigned, is_assigned_once, is_captured, leaving_function, stmt_uses, stmts_uses}
use Rattle.scope_analysis.specs.Identifiers.{is_reserved}
use Rattle.scope_analysis.specs.Names.{bound_names, declared_names, is_among, maybe_name, own_name}
use Rattle.scope_analysis.specs.Nodes.{catch_any, declarators_any, clause, expr_any, expression, fields_any, maybe_expr_any, statement, stmt_any, stmts_any}
use Rattle.instrumenter.proofs.Callers.{Among, Each, Leaving, Missing, Staying, all_pass, each_always, each_parts, each_so, leaving_from, leaving_to, missing_both, missing_parts, name_is_own, same_name, staying_to}
use Rattle.scope_chains.proofs.Callers.{entry_bound}
use Rattle.heap_relations.specs.Naming.{Absent, Frame, Place, Sealed, resolve, resolved}
use Rattle.heap_relations.specs.Scope.{own_frame}
use Rattle.agreement.specs.Formed.{absent_kept, finds_needs, formed, held_kept, is_found_so, is_held, is_unbound, seals_name}
use Rattle.agreement.specs.Opened.{are_sure, begins_with_set, clause_frame, declares_none, frames_round, function_frame, is_bound, is_sealed, may_use}
use Rattle.agreement.specs.Trees.{bound_where}
use Rattle.agreement.proofs.FormNames.{Formed, assigned_each, box_is_plain, captured_each, captured_is, holds, names_are_sure, no_functions, none_is_set, none_is_set_later, only_first, opening_is_plain, or_else, seals, setting_is_unbound, unassigned_each, uncaptured_each}
use Rattle.agreement.proofs.FormPieces.{Allowed, Clean, Piece, Sets, clean_left, clean_right}
use Rattle.agreement.proofs.StandsScopes.{each_pair}

-- ---- a scope

-- b: the scope binds the name; k: it is constant there; r: it is reserved
assigned_in : (b k : Bool) (n : ℕ) (outer : Place) → (b ≡ true → k ≡ false) → (b ≡ false → may_use false true outer ≡ true)
    → may_use false true (resolved (bound_where b k) n outer) ≡ true
assigned_in true true n outer one two = cc (one refl)
assigned_in true false n outer one two = refl
assigned_in false k n outer one two = two refl

read_in : (b k : Bool) (n : ℕ) (outer : Place) → may_use false false outer ≡ true → may_use false false (resolved (bound_where b k) n outer) ≡ true
read_in true true n outer h = refl
read_in true false n outer h = refl
read_in false k n outer h = h

found_in : (r b k held unbound : Bool) → (b ≡ true → (r ≡ true) × (k ≡ true)) → (b ≡ false → (if r then held else unbound) ≡ true)
    → (if r then held_kept (bound_where b k) held else absent_kept (bound_where b k) unbound) ≡ true
found_in true true true held unbound one two = refl
found_in true true false held unbound one two = cc (one refl).1
found_in false true k held unbound one two = cc (one refl).0
found_in true false k held unbound one two = two refl
found_in false false k held unbound one two = two refl

-- ---- own names

module _ (fs : List Frame) (z y : List ℕ) where
  assigned_named : Missing y (z ∷ []) → may_use false true (resolve fs y) ≡ true → may_use false true (resolve (own_frame z ∷ fs) y) ≡ true
  assigned_named away h = by (bytes_eq y z) away
    where
      by : (b : Bool) → (b || false) ≡ false → may_use false true (resolved (if b then Sealed else Absent) 0 (resolve fs y)) ≡ true
      by true e = cc e
      by false e = h

  read_named : may_use false false (resolve fs y) ≡ true → may_use false false (resolve (own_frame z ∷ fs) y) ≡ true
  read_named h = by (bytes_eq y z)
    where
      by : (b : Bool) → may_use false false (resolved (if b then Sealed else Absent) 0 (resolve fs y)) ≡ true
      by true = refl
      by false = h

  found_named : Missing y (z ∷ []) → is_found_so fs y ≡ true → is_found_so (own_frame z ∷ fs) y ≡ true
  found_named away h = by (bytes_eq y z) away
    where
      by : (b : Bool) → (b || false) ≡ false
          → (if is_reserved y then held_kept (if b then Sealed else Absent) (is_held fs y) else absent_kept (if b then Sealed else Absent) (is_unbound fs y)) ≡ true
      by true e = cc e
      by false e = h

assigned_round : (x : Option (List ℕ)) (fs : List Frame) (y : List ℕ) → Missing y (maybe_name x) → may_use false true (resolve fs y) ≡ true
    → may_use false true (resolve (frames_round true x fs) y) ≡ true
assigned_round None fs y away h = h
assigned_round (Some z) fs y away h = assigned_named fs z y away h

read_round : (x : Option (List ℕ)) (fs : List Frame) (y : List ℕ) → may_use false false (resolve fs y) ≡ true → may_use false false (resolve (frames_round true x fs) y) ≡ true
read_round None fs y h = h
read_round (Some z) fs y h = read_named fs z y h

found_round : (x : Option (List ℕ)) (fs : List Frame) (y : List ℕ) → Missing y (maybe_name x) → is_found_so fs y ≡ true → is_found_so (frames_round true x fs) y ≡ true
found_round None fs y away h = h
found_round (Some z) fs y away h = found_named fs z y away h

seals_round : (x : Option (List ℕ)) (fs : List Frame) → seals_name (frames_round true x fs) x ≡ true
seals_round None fs = refl
seals_round (Some z) fs = by (bytes_eq z z) (same_name z)
  where
    by : (b : Bool) → b ≡ true → is_sealed (if b then Sealed else Absent) ≡ true
    by true e = refl
    by false e = cc e

unassigned : (own : Option (List ℕ)) (us : List Use) → assigns_maybe own us ≡ false → Each (λ u. u.assigns ≡ true → Missing u.name (maybe_name own)) us
unassigned None us h = each_always (λ u. u.assigns ≡ true → Missing u.name []) (λ u e. refl) us
unassigned (Some x) us h = unassigned_each x us h

uncaptured : (own : Option (List ℕ)) (us : List Use) → is_not_captured own us ≡ true → Each (λ u. u.crosses ≡ true → Missing u.name (maybe_name own)) us
uncaptured None us h = each_always (λ u. u.crosses ≡ true → Missing u.name []) (λ u e. refl) us
uncaptured (Some x) us h = uncaptured_each x us (not-true (is_captured x us) h)

-- ---- the body of a function

-- a use that is none of these names is allowed
abbrev Outside : List Frame → List (List ℕ) → Use → Type 0
Outside fs xs u = Missing u.name xs → Allowed fs u

abbrev Captures : List Use → Use → Type 0
Captures us u = u.crosses ≡ true → is_captured u.name us ≡ true

-- what it assigns of these names is no constant
abbrev SetsNone : List (List ℕ) → tree.Stmts → Use → Type 0
SetsNone xs body u = u.assigns ≡ true → Among u.name xs → seals body u.name ≡ false

module _ (asks : tree.Code → Bool) (n : ℕ) (formals : List (List ℕ)) (body : tree.Stmts) (is : AreStmts true body) (fs : List Frame) (form : Formed formals body) where
  abbrev inside : List Frame
  inside = function_frame (formed asks) [] n formals body ∷ fs

  abbrev bound : List (List ℕ)
  bound = formals ++ declared_names body

  use_allowed : (u : Use) → Outside fs bound u → Captures (stmts_uses body) u → SetsNone bound body u → Allowed inside u
  use_allowed u out captures none =
      let e : is_bound formals body u.name ≡ is_among u.name bound = entry_bound formals body [] is u.name in (
        (λ assigns.
            assigned_in (is_bound formals body u.name) (seals body u.name) 0 (resolve fs u.name) (λ b. none assigns (sym e ∙ b)) (λ b. (out (sym e ∙ b)).0 assigns)),
        (λ crosses.
            found_in (is_reserved u.name) (is_bound formals body u.name) (seals body u.name) (is_held fs u.name) (is_unbound fs u.name)
            (λ b.
            let r = (captured_is formals body u.name form (sym e ∙ b) (captures crosses)).0 in
            (r, and_from (is_reserved u.name) (is_captured u.name (stmts_uses body)) r (captures crosses)))
            (λ b. (out (sym e ∙ b)).1 crosses)),
      )

  all_allowed : (us : List Use) → Each (Outside fs bound) us → Each (Captures (stmts_uses body)) us → Each (SetsNone bound body) us → Each (Allowed inside) us
  all_allowed us out captures none =
      each_pair (λ u. Captures (stmts_uses body) u × SetsNone bound body u) (Outside fs bound) (Allowed inside) (λ u k o. use_allowed u o k.0 k.1) us
      (each_pair (Captures (stmts_uses body)) (SetsNone bound body) (λ u. Captures (stmts_uses body) u × SetsNone bound body u) (λ u c s. (c, s)) us captures none) out

  read_inside : ((x : List ℕ) → may_use false false (resolve fs x) ≡ true) → (x : List ℕ) → may_use false false (resolve inside x) ≡ true
  read_inside read x = read_in (is_bound formals body x) (seals body x) 0 (resolve fs x) (read x)

-- the first statement sets the constant
function_sets : (asks : tree.Code → Bool) (n : ℕ) (formals : List (List ℕ)) (body : tree.Stmts) (is : AreStmts true body) (fs : List Frame) → Formed formals body
    → Clean asks (λ t. stmts_any t body) → ((x : List ℕ) → may_use false false (resolve fs x) ≡ true)
    → Each (Outside fs (formals ++ declared_names body)) (stmts_uses body) → begins_with_set (holds formals body) body ≡ true
    → Sets asks (function_frame (formed asks) [] n formals body ∷ fs) body
function_sets asks n formals (then_stmt (var (then_declarator x (one_expr (literal es)) no_declarators)) ss) is fs form clean read out begins =
    let body : tree.Stmts = then_stmt (var (then_declarator x (one_expr (literal es)) no_declarators)) ss in
    let later : List Use = (fields_uses es ++ []) ++ stmts_uses ss in
    let bound : List (List ℕ) = formals ++ declared_names body in
    let constant = and_parts (is_bound formals body x) (seals body x) (and_parts (holds formals body x) (declares_none (functions_of ss)) begins).0 in
    let captured = (and_parts (is_reserved x) (is_captured x (stmts_uses body)) constant.1).1 in
    let allowed : Each (Allowed (function_frame (formed asks) [] n formals body ∷ fs)) later =
    all_allowed asks n formals body is fs form later out.1 (captured_each (stmts_uses body)).1
    (each_so (λ u. u.assigns ≡ true → is_assigned u.name later ≡ true) (SetsNone bound body)
    (λ u told assigns there. none_is_set_later formals x es ss form u.name there (told assigns)) later (assigned_each later)) in
    let parts = each_parts (Allowed (function_frame (formed asks) [] n formals body ∷ fs)) (fields_uses es ++ []) (stmts_uses ss) allowed in
    let first = clean_left (λ t. stmt_any t (var (then_declarator x (one_expr (literal es)) no_declarators))) (λ t. stmts_any t ss) clean in
    let declarators = clean_right (λ t. t (statement (var (then_declarator x (one_expr (literal es)) no_declarators))))
    (λ t. declarators_any t (then_declarator x (one_expr (literal es)) no_declarators)) first in
    let value = clean_left (λ t. maybe_expr_any t (one_expr (literal es))) (λ t. false) declarators in
    record {
      plain = opening_is_plain formals x es ss form captured;
      fields = record {
        clean = clean_right (λ t. t (expression false (literal es))) (λ t. fields_any t es) value;
        allowed = (each_parts (Allowed (function_frame (formed asks) [] n formals body ∷ fs)) (fields_uses es) [] parts.0).0;
        read = read_inside asks n formals body is fs form read;
      };
      rest = record {
        clean = clean_right (λ t. stmt_any t (var (then_declarator x (one_expr (literal es)) no_declarators))) (λ t. stmts_any t ss) clean;
        allowed = parts.1;
        read = read_inside asks n formals body is fs form read;
      };
    }
-- which no assignment does
function_sets asks n formals (then_stmt (expr (assign None (name x) (literal es))) ss) is fs form clean read out begins =
    let body : tree.Stmts = then_stmt (expr (assign None (name x) (literal es))) ss in
    let constant = and_parts (is_bound formals body x) (seals body x) (and_parts (holds formals body x) (declares_none (functions_of ss)) begins).0 in
    let captured = (and_parts (is_reserved x) (is_captured x (stmts_uses body)) constant.1).1 in
    absurd (both_ways (is_among x (formals ++ declared_names body)) (setting_is_unbound formals x es ss form captured) (sym (entry_bound formals body [] is x) ∙ constant.0))
function_sets asks n formals body is fs form clean read out begins = absurd (cc begins)

-- what is asked of a function in the frames right round it, and its body
pub record Function (asks : tree.Code → Bool) (n : ℕ) (fs : List Frame) (formals : List (List ℕ)) (body : tree.Stmts) : Type 0 where
  pub sure : are_sure (seals body) formals body ≡ true
  pub whole : begins_with_set (holds formals body) body ≡ false → Piece asks (λ t. stmts_any t body) (stmts_uses body) (function_frame (formed asks) [] n formals body ∷ fs)
  pub first : begins_with_set (holds formals body) body ≡ true → Sets asks (function_frame (formed asks) [] n formals body ∷ fs) body

function_is : (asks : tree.Code → Bool) (n : ℕ) (formals : List (List ℕ)) (body : tree.Stmts) (is : AreStmts true body) (fs : List Frame) → Formed formals body
    → Clean asks (λ t. stmts_any t body) → ((x : List ℕ) → may_use false false (resolve fs x) ≡ true)
    → Each (Outside fs (formals ++ declared_names body)) (stmts_uses body) → Function asks n fs formals body
function_is asks n formals body is fs form clean read out = record {
  sure = names_are_sure formals body form clean.plain;
  whole = λ begins. record {
    clean = clean;
    allowed = all_allowed asks n formals body is fs form (stmts_uses body) out (captured_each (stmts_uses body))
        (each_so (λ u. u.assigns ≡ true → is_assigned u.name (stmts_uses body) ≡ true) (SetsNone (formals ++ declared_names body) body)
        (λ u told assigns there. none_is_set formals body form clean.plain begins u.name (entry_bound formals body [] is u.name ∙ there) there (told assigns)) (stmts_uses body) (assigned_each (stmts_uses body)));
    read = read_inside asks n formals body is fs form read;
  };
  first = function_sets asks n formals body is fs form clean read out;
}

-- ---- function expressions

pub record Expression (asks : tree.Code → Bool) (n : ℕ) (fs : List Frame) (x : Option (List ℕ)) (formals : List (List ℕ)) (body : tree.Stmts) : Type 0 where
  pub needs : (seals_name (frames_round true x fs) x && finds_needs (frames_round true x fs) (code x formals body)) ≡ true
  pub function : Function asks n (frames_round true x fs) formals body

module _ (x : Option (List ℕ)) (formals : List (List ℕ)) (body : tree.Stmts) (fs : List Frame) where
  abbrev round : List Frame
  round = frames_round true x fs

  abbrev names : List (List ℕ)
  names = maybe_name x ++ bound_names (code x formals body)

  abbrev own : Option (List ℕ)
  own = own_name (code x formals body)

  needs_found : Each (Allowed fs) (leaving_function names (stmts_uses body)) → finds_needs round (code x formals body) ≡ true
  needs_found allowed =
      all_pass (λ u. is_found_so round u.name) (leaving_function names (stmts_uses body))
      (leaving_from (λ u. is_found_so round u.name ≡ true) names (stmts_uses body)
      (each_so (Leaving (Allowed fs) names) (Leaving (λ u. is_found_so round u.name ≡ true) names)
      (λ u leaves away. found_round x fs u.name (missing_parts u.name (maybe_name x) (bound_names (code x formals body)) away).0 ((leaves away).1 refl))
      (stmts_uses body) (leaving_to (Allowed fs) names (stmts_uses body) allowed)))

  abbrev Kinds : Use → Type 0
  Kinds u = (u.assigns ≡ true → Missing u.name (maybe_name own)) × (u.crosses ≡ true → Missing u.name (maybe_name own))

  use_out : (u : Use) → Kinds u → Leaving (Allowed fs) names u → Outside round (formals ++ declared_names body) u
  use_out u kinds leaves away = ((λ assigns. (kept (kinds.0 assigns)).0 assigns), (λ crosses. (kept (kinds.1 crosses)).1))
    where
      kept : Missing u.name (maybe_name own)
          → (u.assigns ≡ true → may_use false true (resolve round u.name) ≡ true) × (is_found_so round u.name ≡ true)
      kept free =
          let gone : Missing u.name names = name_is_own x formals body u.name (missing_both u.name (maybe_name own) (formals ++ declared_names body) free away) in
          let none = (missing_parts u.name (maybe_name x) (bound_names (code x formals body)) gone).0 in
          ((λ assigns. assigned_round x fs u.name none ((leaves gone).0 assigns)), found_round x fs u.name none ((leaves gone).1 refl))

  pub expression_is : {asks : tree.Code → Bool} {n : ℕ} (c : Bool) → AreStmts true body
      → Piece asks (λ t. expr_any t c (func (code x formals body))) (expr_uses (func (code x formals body))) fs → Expression asks n fs x formals body
  expression_is {asks = asks} {n = n} c is h =
      let form = and_parts (are_variables_in_form (code x formals body) (stmts_uses body)) (is_not_captured own (stmts_uses body)) (not-false _ (or_parts _ _ h.clean.formed).0) in
      let body_clean = clean_right (λ t. t (expression c (func (code x formals body)))) (λ t. stmts_any t body) h.clean in
      let out : Each (Outside round (formals ++ declared_names body)) (stmts_uses body) =
      each_pair Kinds (Leaving (Allowed fs) names) (Outside round (formals ++ declared_names body)) use_out (stmts_uses body)
      (each_pair (λ u. u.assigns ≡ true → Missing u.name (maybe_name own)) (λ u. u.crosses ≡ true → Missing u.name (maybe_name own)) Kinds (λ u a b. (a, b)) (stmts_uses body)
      (unassigned own (stmts_uses body) (or_parts _ _ h.clean.own).0) (uncaptured own (stmts_uses body) form.1))
      (leaving_to (Allowed fs) names (stmts_uses body) h.allowed) in
      record {
        needs = and_from _ _ (seals_round x fs) (needs_found h.allowed);
        function = function_is asks n formals body is round form.0 body_clean (λ y. read_round x fs y (h.read y)) out;
      }

-- ---- function declarations, at the top of a script

pub declaration_is : {asks : tree.Code → Bool} {n : ℕ} (x : Option (List ℕ)) (formals : List (List ℕ)) (body : tree.Stmts) → AreStmts true body
    → Formed formals body → Clean asks (λ t. stmts_any t body) → Each (Allowed []) (stmt_uses (function (code x formals body))) → Expression asks n [] None formals body
declaration_is {asks = asks} {n = n} x formals body is form clean allowed =
    let bound : List (List ℕ) = formals ++ declared_names body in
    record {
      needs = needs_found None formals body [] allowed;
      function = function_is asks n formals body is [] form clean (λ y. refl)
          (each_so (Leaving (Allowed []) bound) (Outside [] bound) (λ u leaves away. ((leaves away).0, (λ crosses. (leaves away).1 refl))) (stmts_uses body)
          (leaving_to (Allowed []) bound (stmts_uses body) allowed));
    }

-- ---- catch clauses

pub record Clause (asks : tree.Code → Bool) (n : ℕ) (fs : List Frame) (x : List ℕ) (ss : tree.Stmts) : Type 0 where
  pub whole : seals ss x ≡ false → Piece asks (λ t. stmts_any t ss) (stmts_uses ss) (clause_frame (formed asks) [] n x ss ∷ fs)
  pub first : seals ss x ≡ true → (begins_with_set (bytes_eq x) ss ≡ true) × Sets asks (clause_frame (formed asks) [] n x ss ∷ fs) ss

module _ (asks : tree.Code → Bool) (n : ℕ) (x : List ℕ) (ss : tree.Stmts) (fs : List Frame) (form : is_parameter_in_form x ss (stmts_uses ss) ≡ true) where
  abbrev block : List Frame
  block = clause_frame (formed asks) [] n x ss ∷ fs

  -- what it assigns is not the parameter, if that is constant
  abbrev Spares : Use → Type 0
  Spares u = u.assigns ≡ true → Among u.name (x ∷ []) → seals ss x ≡ false

  clause_use : (u : Use) → Staying (Allowed fs) x u → Captures (stmts_uses ss) u → Spares u → Allowed block u
  clause_use u stays captures spares = (
    (λ assigns.
        assigned_in (is_among u.name (x ∷ [])) (seals ss x) 0 (resolve fs u.name) (spares assigns)
        (λ b. (stays (or_parts (bytes_eq u.name x) false b).0).0 assigns)),
    (λ crosses.
        found_in (is_reserved u.name) (is_among u.name (x ∷ [])) (seals ss x) (is_held fs u.name) (is_unbound fs u.name)
        (λ b. named (bytes_eq u.name x) refl b (captures crosses))
        (λ b. (stays (or_parts (bytes_eq u.name x) false b).0).1 crosses)),
  )
    where
      named : (b : Bool) → bytes_eq u.name x ≡ b → (b || false) ≡ true → is_captured u.name (stmts_uses ss) ≡ true → (is_reserved u.name ≡ true) × (seals ss x ≡ true)
      named true e h captured =
          let same : u.name ≡ x = (bytes_eq-Decides u.name x).0 e in
          let there : is_captured x (stmts_uses ss) ≡ true = ap (λ y. is_captured y (stmts_uses ss)) (sym same) ∙ captured in
          let reserved : is_reserved x ≡ true =
          (and_parts (is_reserved x) (boxes x ss && is_assigned_once x (stmts_uses ss))
          (or_else (is_captured x (stmts_uses ss)) (is_reserved x && (boxes x ss && is_assigned_once x (stmts_uses ss))) form there)).0 in
          (ap is_reserved same ∙ reserved, and_from (is_reserved x) (is_captured x (stmts_uses ss)) reserved there)
      named false e h captured = cc h

  block_allowed : (us : List Use) → Each (Staying (Allowed fs) x) us → Each (Captures (stmts_uses ss)) us → Each Spares us → Each (Allowed block) us
  block_allowed us out captures spares =
      each_pair (λ u. Captures (stmts_uses ss) u × Spares u) (Staying (Allowed fs) x) (Allowed block) (λ u k o. clause_use u o k.0 k.1) us
      (each_pair (Captures (stmts_uses ss)) Spares (λ u. Captures (stmts_uses ss) u × Spares u) (λ u c s. (c, s)) us captures spares) out

  read_block : ((y : List ℕ) → may_use false false (resolve fs y) ≡ true) → (y : List ℕ) → may_use false false (resolve block y) ≡ true
  read_block read y = read_in (is_among y (x ∷ [])) (seals ss x) 0 (resolve fs y) (read y)

-- the first statement sets the parameter
clause_sets : (asks : tree.Code → Bool) (n : ℕ) (x : List ℕ) (ss : tree.Stmts) (fs : List Frame) → is_parameter_in_form x ss (stmts_uses ss) ≡ true
    → Clean asks (λ t. stmts_any t ss) → ((y : List ℕ) → may_use false false (resolve fs y) ≡ true) → Each (Staying (Allowed fs) x) (stmts_uses ss)
    → boxes x ss ≡ true → is_assigned_once x (stmts_uses ss) ≡ true
    → (begins_with_set (bytes_eq x) ss ≡ true) × Sets asks (clause_frame (formed asks) [] n x ss ∷ fs) ss
clause_sets asks n x (then_stmt (expr (assign None (name y) (literal es))) ss) fs form clean read out boxed once =
    let body : tree.Stmts = then_stmt (expr (assign None (name y) (literal es))) ss in
    let later : List Use = fields_uses es ++ stmts_uses ss in
    let box = and_parts (bytes_eq y x) (is_field_of x es) boxed in
    let unset : is_assigned x later ≡ false = only_first x later y box.0 once in
    let allowed : Each (Allowed (clause_frame (formed asks) [] n x body ∷ fs)) later =
    block_allowed asks n x body fs form later out.1 (captured_each (stmts_uses body)).1
    (each_so (λ u. u.assigns ≡ true → Missing u.name (x ∷ [])) (Spares asks n x body fs form)
    (λ u none assigns there. absurd (both_ways (is_among u.name (x ∷ [])) (none assigns) there)) later (unassigned_each x later unset)) in
    let parts = each_parts (Allowed (clause_frame (formed asks) [] n x body ∷ fs)) (fields_uses es) (stmts_uses ss) allowed in
    let first = clean_left (λ t. stmt_any t (expr (assign None (name y) (literal es)))) (λ t. stmts_any t ss) clean in
    let assigning = clean_right (λ t. t (statement (expr (assign None (name y) (literal es))))) (λ t. expr_any t false (assign None (name y) (literal es))) first in
    let both = clean_right (λ t. t (expression false (assign None (name y) (literal es)))) (λ t. expr_any t false (name y) || expr_any t false (literal es)) assigning in
    let value = clean_right (λ t. expr_any t false (name y)) (λ t. expr_any t false (literal es)) both in (
      and_from (bytes_eq x y) (declares_none (functions_of ss)) ((bytes_eq-Decides x y).1 (sym ((bytes_eq-Decides y x).0 box.0))) (no_functions body clean.plain),
      record {
        plain = box_is_plain x es box.1;
        fields = record {
          clean = clean_right (λ t. t (expression false (literal es))) (λ t. fields_any t es) value;
          allowed = parts.0;
          read = read_block asks n x body fs form read;
        };
        rest = record {
          clean = clean_right (λ t. stmt_any t (expr (assign None (name y) (literal es)))) (λ t. stmts_any t ss) clean;
          allowed = parts.1;
          read = read_block asks n x body fs form read;
        };
      },
    )
clause_sets asks n x (then_stmt (expr (assign None (name y) e)) ss) fs form clean read out boxed once = absurd (both_ways (bytes_eq y x && false) (and-false (bytes_eq y x)) boxed)
clause_sets asks n x ss fs form clean read out boxed once = absurd (cc boxed)

pub clause_is : {asks : tree.Code → Bool} {n : ℕ} {fs : List Frame} (x : List ℕ) (ss : tree.Stmts)
    → Piece asks (λ t. catch_any t (one_catch x ss)) (catch_uses (one_catch x ss)) fs → Clause asks n fs x ss
clause_is {asks = asks} {n = n} {fs = fs} x ss h =
    let us : List Use = stmts_uses ss in
    let form : is_parameter_in_form x ss us ≡ true = not-false _ (or_parts _ _ h.clean.formed).0 in
    let clean = clean_right (λ t. t (clause x ss)) (λ t. stmts_any t ss) h.clean in
    let out : Each (Staying (Allowed fs) x) us = staying_to (Allowed fs) x us h.allowed in
    record {
      whole = λ e. record {
        clean = clean;
        allowed = block_allowed asks n x ss fs form us out (captured_each us) (each_always (Spares asks n x ss fs form) (λ u assigns there. e) us);
        read = read_block asks n x ss fs form h.read;
      };
      first = λ e.
          let captured = (and_parts (is_reserved x) (is_captured x us) e).1 in
          let whole = or_else (is_captured x us) (is_reserved x && (boxes x ss && is_assigned_once x us)) form captured in
          let parts = and_parts (boxes x ss) (is_assigned_once x us) (and_parts (is_reserved x) (boxes x ss && is_assigned_once x us) whole).1 in
          clause_sets asks n x ss fs form clean h.read out parts.0 parts.1;
    }
