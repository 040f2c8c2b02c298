-- What holds of a piece of a script in form and of the frames round it, of its parts, too.
use Rattle.std.proofs.Common.{◌≡◌, ℕ, Bool, true, false, ◌||◌, List, ◌++◌, None}
use Rattle.std.proofs.lemmas.Bool.{or_parts}
use Rattle.js_core.specs.Tree as tree
use Rattle.js_core.specs.Tree.{assign, expr, literal, name, no_declarators, no_expr, one_expr, then_declarator, then_stmt, var}
use Rattle.early_rules.specs.EarlyRules.{assigns_own_name}
use Rattle.script_rules.specs.Form.{are_plain_fields, scope_out_of_form}
use Rattle.early_rules.specs.FormNodes.{is_declaration}
use Rattle.scope_analysis.specs.Nodes.{Node, fields_any, stmts_any}
use Rattle.scope_analysis.specs.Uses.{Use, declarator_uses, expr_uses, fields_uses, maybe_expr_uses, stmts_uses, target_uses}
use Rattle.instrumenter.proofs.Callers.{Each, each_parts}
use Rattle.heap_relations.specs.Naming.{Frame, resolve}
use Rattle.agreement.specs.Formed.{is_found_so, is_unasked}
use Rattle.agreement.specs.Opened.{may_use}

-- no node of a piece passes one of the tests, where `any` says of a test whether one does
pub record Clean (asks : tree.Code → Bool) (any : (Node → Bool) → Bool) : Type 0 where
  pub asked : any (is_unasked asks) ≡ false
  pub formed : any scope_out_of_form ≡ false
  pub plain : any is_declaration ≡ false
  pub own : any assigns_own_name ≡ false

-- what the use assigns is no constant in these frames, and what a function inside uses is found there as a constant, or nowhere
abbrev pub Allowed : List Frame → Use → Type 0
Allowed fs u = (u.assigns ≡ true → may_use false true (resolve fs u.name) ≡ true) × (u.crosses ≡ true → is_found_so fs u.name ≡ true)

-- a clean piece with these uses in frames where any name may be read
pub record Piece (asks : tree.Code → Bool) (any : (Node → Bool) → Bool) (uses : List Use) (fs : List Frame) : Type 0 where
  pub clean : Clean asks any
  pub allowed : Each (Allowed fs) uses
  pub read : (x : List ℕ) → may_use false false (resolve fs x) ≡ true

-- ---- parts

pub clean_left : {asks : tree.Code → Bool} (f g : (Node → Bool) → Bool) → Clean asks (λ t. f t || g t) → Clean asks f
clean_left {asks = asks} f g h = record {
  asked = (or_parts (f (is_unasked asks)) (g (is_unasked asks)) h.asked).0;
  formed = (or_parts (f scope_out_of_form) (g scope_out_of_form) h.formed).0;
  plain = (or_parts (f is_declaration) (g is_declaration) h.plain).0;
  own = (or_parts (f assigns_own_name) (g assigns_own_name) h.own).0;
}

pub clean_right : {asks : tree.Code → Bool} (f g : (Node → Bool) → Bool) → Clean asks (λ t. f t || g t) → Clean asks g
clean_right {asks = asks} f g h = record {
  asked = (or_parts (f (is_unasked asks)) (g (is_unasked asks)) h.asked).1;
  formed = (or_parts (f scope_out_of_form) (g scope_out_of_form) h.formed).1;
  plain = (or_parts (f is_declaration) (g is_declaration) h.plain).1;
  own = (or_parts (f assigns_own_name) (g assigns_own_name) h.own).1;
}

pub left : {asks : tree.Code → Bool} {us : List Use} {fs : List Frame} (vs : List Use) (f g : (Node → Bool) → Bool) → Piece asks (λ t. f t || g t) (us ++ vs) fs → Piece asks f us fs
left {us = us} {fs = fs} vs f g h = record { clean = clean_left f g h.clean; allowed = (each_parts (Allowed fs) us vs h.allowed).0; read = h.read }

pub right : {asks : tree.Code → Bool} {vs : List Use} {fs : List Frame} (us : List Use) (f g : (Node → Bool) → Bool) → Piece asks (λ t. f t || g t) (us ++ vs) fs → Piece asks g vs fs
right {vs = vs} {fs = fs} us f g h = record { clean = clean_right f g h.clean; allowed = (each_parts (Allowed fs) us vs h.allowed).1; read = h.read }

-- what stands in a node
pub inner : {asks : tree.Code → Bool} {us : List Use} {fs : List Frame} (f g : (Node → Bool) → Bool) → Piece asks (λ t. f t || g t) us fs → Piece asks g us fs
inner f g h = record { clean = clean_right f g h.clean; allowed = h.allowed; read = h.read }

target_allowed : (fs : List Frame) (e : tree.Expr) → Each (Allowed fs) (target_uses e (expr_uses e)) → Each (Allowed fs) (expr_uses e)
target_allowed fs (name x) h = (((λ e. absurd (cc e)), (λ e. absurd (cc e))), tt)
target_allowed fs e h = h

value_allowed : (fs : List Frame) (x : List ℕ) (e : tree.MaybeExpr) → Each (Allowed fs) (declarator_uses x e) → Each (Allowed fs) (maybe_expr_uses e)
value_allowed fs x no_expr h = tt
value_allowed fs x (one_expr e) h = h.1

-- a target as an expression, and a value that a variable begins with
pub targeted : {asks : tree.Code → Bool} {fs : List Frame} (any : (Node → Bool) → Bool) (e : tree.Expr) → Piece asks any (target_uses e (expr_uses e)) fs → Piece asks any (expr_uses e) fs
targeted {fs = fs} any e h = record { clean = h.clean; allowed = target_allowed fs e h.allowed; read = h.read }

pub begun : {asks : tree.Code → Bool} {fs : List Frame} (any : (Node → Bool) → Bool) (x : List ℕ) (e : tree.MaybeExpr) → Piece asks any (declarator_uses x e) fs
    → Piece asks any (maybe_expr_uses e) fs
begun {fs = fs} any x e h = record { clean = h.clean; allowed = value_allowed fs x e h.allowed; read = h.read }

-- ---- statements of which the first sets the constant of their scope

pub record Set (asks : tree.Code → Bool) (es : tree.Fields) (ss : tree.Stmts) (fs : List Frame) : Type 0 where
  pub plain : are_plain_fields es ≡ true
  pub fields : Piece asks (λ t. fields_any t es) (fields_uses es) fs
  pub rest : Piece asks (λ t. stmts_any t ss) (stmts_uses ss) fs

abbrev pub Sets : (tree.Code → Bool) → List Frame → tree.Stmts → Type 0
Sets asks fs (then_stmt (var (then_declarator x (one_expr (literal es)) no_declarators)) ss) = Set asks es ss fs
Sets asks fs (then_stmt (expr (assign None (name x) (literal es))) ss) = Set asks es ss fs
Sets asks fs body = ⊥
