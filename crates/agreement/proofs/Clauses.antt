-- A catch clause is entered, on the right maybe with a scope object for its parameter (section 12.14).
use Rattle.std.proofs.Common.{◌≡◌, refl, sym, ap, ◌∙◌, ℕ, ◌<◌, ◌^◌, Bool, true, false, ◌||◌, cond, nat_eq, List, [], ◌∷◌, Some, None, bytes_eq, nat_lt, arith, if◌then◌else◌, length}
use Rattle.std.proofs.lemmas.Bool.{and_parts, ltb-true}
use Rattle.js_core.specs.Tree as tree
use Rattle.js_core.specs.Tree.{name, no_fields, then_field}
use Rattle.js_values.specs.declared.value.Value.{Value}
use Rattle.js_values.specs.declared.value.Value.TheVariants.{Undefined}
use Rattle.object_heap.specs.Environment.{value_of}
use Rattle.page_meaning.specs.Act.{Calls, bind, on_value, then_on}
use Rattle.page_meaning.specs.Names.{Here, in_scope}
use Rattle.page_meaning.specs.Primitives.{make_environment}
use Rattle.page_meaning.specs.Statements.{exec_all, exec_catch}
use Rattle.page_meaning.specs.declared.signal.Signal.TheVariants as signal
use Rattle.scope_analysis.specs.Names.{is_among}
use Rattle.scope_analysis.specs.Uses.{is_captured, stmts_uses}
use Rattle.instrumenter.specs.Around.{Around, field_inside, in_clause, opened_clause, opened_fields}
use Rattle.instrumenter.specs.Fields.{clause_fields, has_fields}
use Rattle.heap_relations.proofs.Callers as heap
use Rattle.heap_relations.specs.Naming.{Copied, Frame, Larger, Round, World, are_below, env_id, is_scope_name, named, resolve, scope_name}
use Rattle.heap_relations.specs.Related.{ValueRel, entry, no_entries}
use Rattle.heap_relations.specs.Scope as scope
use Rattle.heap_relations.specs.Scope.{EntryRel}
use Rattle.agreement.proofs.Acts.{bind_rel}
use Rattle.agreement.proofs.Closures.{among_same, scope_field}
use Rattle.agreement.proofs.Entries.{enters_ready, enters_round, one_name_same, opened_rel}
use Rattle.agreement.proofs.Functions.{plain_one}
use Rattle.agreement.proofs.Heap.{value_up}
use Rattle.agreement.proofs.Linked.{names_below}
use Rattle.agreement.proofs.Scoped.{by_assignment, enter_scoped, field, new_name_run, no_more_fields}
use Rattle.agreement.proofs.Unset.{unset_clause}
use Rattle.agreement.specs.Acts.{Agrees, IsReady}
use Rattle.agreement.specs.Opened.{HereRel, are_plain, clause_frame, clause_may_open, is_numbered, kept_in, opened_at}

-- the parameter is the one field that there may be
pub data ClauseFields (opens : Bool) (x : List ℕ) : List (List ℕ) → Type 0 where
  none : ClauseFields opens x []
  one : opens ≡ true → ClauseFields opens x (x ∷ [])

pub clause_shape : (opens : Bool) (x : List ℕ) (ss : tree.Stmts) → ClauseFields opens x (opened_fields opens (clause_fields x ss))
clause_shape false x ss = none
clause_shape true x ss = by_case (is_captured x (stmts_uses ss))
  where
    by_case : (b : Bool) → ClauseFields true x (cond b (x ∷ []) [])
    by_case true = one refl
    by_case false = none

opens_with : {opens : Bool} {x : List ℕ} {F : List (List ℕ)} → ClauseFields opens x F → has_fields F ≡ true → opens ≡ true
opens_with none e = absurd (cc e)
opens_with (one o) e = o

-- what names stand for in the block
pub clause_around : {V : World} (around : Around) (n : ℕ) (fs : List Frame) (a b : Here) (x : List ℕ) (ss : tree.Stmts) → (h : HereRel V around fs a b)
    → (in_clause around n (opened_fields h.trees.demand.opens (clause_fields x ss)) x).fields ≡ (λ y. opened_at h.trees.demand.opens (resolve (clause_frame h.trees.demand (opened_fields h.trees.demand.opens (clause_fields x ss)) n x ss ∷ fs) y))
clause_around around n fs a b x ss h =
    let opens = h.trees.demand.opens in
    let F = opened_fields opens (clause_fields x ss) in
    ap (λ f. field_inside F (x ∷ []) n f) h.fields
    ∙ (λ i y. scope_field opens F (x ∷ []) n (λ z. is_among z (x ∷ [])) (λ z. h.trees.demand.boxes x ss) fs y (opens_with (clause_shape opens x ss)) (λ e. e) (λ e f. absurd (cc (sym e ∙ f))) i)

not_copied : (b : Bool) → kept_in b b false ≡ Copied → ⊥
not_copied true e = cc e
not_copied false e = cc e

-- the parameter, and any other name
clause_names : {V : World} {v w : Value} (x y : List ℕ) (n : ℕ) → ValueRel (named V) v w → is_scope_name y ≡ false
    → EntryRel (named V) Undefined (kept_in (is_among y (x ∷ [])) (is_among y (x ∷ [])) false) (value_of ((x, v) ∷ []) y) (value_of ((scope_name n, w) ∷ []) y) (value_of ((x, w) ∷ []) y)
clause_names {V = V} {v = v} {w = w} x y n r own = by_case (bytes_eq y x)
  where
    other : cond (bytes_eq y (scope_name n)) (Some w) None ≡ None
    other = ap (λ b. cond b (Some w) None) (heap.not_scope_name y n own)

    by_case : (b : Bool) → EntryRel (named V) Undefined (kept_in (b || false) (b || false) false) (cond b (Some v) None) (cond (bytes_eq y (scope_name n)) (Some w) None) (cond b (Some w) None)
    by_case true = scope.captured r
    by_case false = rw other scope.absent

pub clause_rel : {V : World} {v w : Value} (c d : Calls) (n : ℕ) (fs : List Frame) (a b : Here) (x : List ℕ) (opens : Bool) (ss us : tree.Stmts) (F : List (List ℕ)) → ClauseFields opens x F
    → V.opens ≡ opens → Round V fs a.env b.env → IsReady V a.env → ValueRel (named V) a.this b.this → clause_may_open opens n fs F x ≡ true → ValueRel (named V) v w
    → ((W : World) → Larger V W → (g i : Here) → Round W (unset_clause F n x ∷ fs) g.env i.env → IsReady W g.env → ValueRel (named W) g.this i.this → Agrees W (exec_all c g ss) (exec_all d i us))
    → Agrees V (bind (make_environment a.env ((x, v) ∷ [])) (λ e. exec_all c (in_scope a e) ss)) (exec_catch d b (opened_clause n F x us) (signal.Thrown w))
clause_rel {V = V} {w = w} c d n fs a b x opens ss us _ none same o ready this may r go =
    bind_rel (opened_rel (λ y. is_among y (x ∷ [])) (λ y. false) fs a.env b.env ((x, _) ∷ []) ((x, w) ∷ []) (λ e k small. hidden opens (sym same ∙ e) may k) o ready (entry r no_entries) (one_name_same x _)) (λ W l p q m.
    go W l (in_scope a p) (in_scope b q) (enters_round m) (enters_ready m) (value_up l this))
  where
    hidden : (opens : Bool) → opens ≡ true → clause_may_open opens n fs [] x ≡ true → (k : ℕ) → value_of ((x, w) ∷ []) (scope_name k) ≡ None
    hidden true e m k = ap (λ t. cond t (Some w) None) (heap.no_scope_name x k (plain_one x m))
    hidden false e m k = absurd (cc e)
clause_rel {V = V} {v = v} {w = w} c d n fs a b x opens ss us _ (one opened_there) same o ready this may r go =
    enter_scoped d b.this x [] n (λ y. is_among y (x ∷ [])) fs a.env b.env ((x, v) ∷ []) ((scope_name n, w) ∷ []) w (then_field x (name (scope_name n)) no_fields) _ (λ p. exec_all c (in_scope a p) ss) (λ q. exec_all d (in_scope b q) us) _
    (same ∙ opened_there) by_assignment o ready (parts opens opened_there may).0
    (λ k small. ap (λ t. cond t (Some w) None) (heap.scope_name_eq k n small (few (parts opens opened_there may).0)) ∙ as_if (nat_eq k n))
    (λ W l s t g. names_below g (entry {name = x} (value_up l r) no_entries))
    (λ W l s t g. record {
      values = (x, w) ∷ [];
      known = λ y. Undefined;
      have = field (λ u m e. new_name_run d b.this t.heap b.env ((scope_name n, w) ∷ []) (scope_name n) w g.heap.right (ap (λ t. cond t (Some w) None) (among_same (scope_name n))) u m e) no_more_fields;
      fresh = (refl, tt);
      same = λ y own. clause_names x y n (value_up l r) own;
      own = λ y e. absurd (not_copied (is_among y (x ∷ [])) e);
    })
    (λ W l p q m. go W l (in_scope a p) (in_scope b q) (enters_round m) (enters_ready m) (value_up l this))
    (λ t u m e. ap (λ z. then_on z (on_value (λ y. exec_all d (in_scope b (env_id (length t.heap.environments))) us))) e)
  where
    parts : (opens : Bool) → opens ≡ true → clause_may_open opens n fs (x ∷ []) x ≡ true → (is_numbered n (x ∷ []) fs ≡ true) × (are_plain true (x ∷ []) ≡ true)
    parts true e m = and_parts (is_numbered n (x ∷ []) fs) (are_plain true (x ∷ [])) m
    parts false e m = absurd (cc e)

    few : is_numbered n (x ∷ []) fs ≡ true → n < 2 ^ 64
    few m = omega (arith, ltb-true n 18446744073709551616 (and_parts (nat_lt n 18446744073709551616) (are_below n fs) m).0)

    as_if : (t : Bool) → cond t (Some w) None ≡ (if t then Some w else None)
    as_if true = refl
    as_if false = refl
