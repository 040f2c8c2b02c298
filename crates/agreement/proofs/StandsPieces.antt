-- What holds of a piece of a plain script and of the frames round it, of its parts, too.
use Rattle.std.proofs.Common.{◌≡◌, refl, ℕ, ◌+◌, ◌<◌, ◌≤◌, ◌^◌, Bool, true, false, not, ◌&&◌, ◌||◌, cond, nat_eq, nat_lt, List, [], ◌∷◌, ◌++◌, arith}
use Rattle.std.proofs.lemmas.Bool.{and_from, and_parts, lt-ltb, ltb-true, not_from_false, or_parts}
use Rattle.js_core.specs.Tree as tree
use Rattle.js_core.specs.Tree.{name, one_expr, no_expr}
use Rattle.early_rules.specs.EarlyRules.{assigns_own_name, deletes_name}
use Rattle.early_rules.specs.FormNodes.{has_reserved_identifier}
use Rattle.scope_analysis.specs.Identifiers as identifiers
use Rattle.scope_analysis.specs.Nodes.{Node}
use Rattle.scope_analysis.specs.Uses.{Use, declarator_uses, expr_uses, maybe_expr_uses, target_uses}
use Rattle.instrumenter.proofs.Callers.{Each, each_parts}
use Rattle.heap_relations.specs.Naming.{Frame, are_below, is_scope_name, resolve}
use Rattle.agreement.specs.Opened.{may_use}

-- a use of a name that is assigned in these frames
abbrev pub Allowed : List Frame → Use → Type 0
Allowed fs u = u.assigns ≡ true → may_use true true (resolve fs u.name) ≡ true

-- no node of the piece passes one of the tests, where `any` says of a test whether one does; what it assigns may be assigned in the frames
-- round it, where any name may be read; and it has as many scopes, of which the next has this number
pub record Piece (any : (Node → Bool) → Bool) (uses : List Use) (scopes n : ℕ) (fs : List Frame) : Type 0 where
  pub plain : any has_reserved_identifier ≡ false
  pub deletes : any deletes_name ≡ false
  pub own : any assigns_own_name ≡ false
  pub allowed : Each (Allowed fs) uses
  pub read : (x : List ℕ) → may_use true false (resolve fs x) ≡ true
  pub below : are_below n fs ≡ true
  pub few : n + scopes < 2 ^ 64

-- ---- numbers

pub still_below : (m n : ℕ) (fs : List Frame) → m ≤ n → are_below m fs ≡ true → are_below n fs ≡ true
still_below m n [] le h = refl
still_below m n (f ∷ fs) le h =
    let parts = and_parts (not f.scoped || nat_lt f.number m) (are_below m fs) h in
    and_from (not f.scoped || nat_lt f.number n) (are_below n fs) (here (not f.scoped) parts.0) (still_below m n fs le parts.1)
  where
    here : (b : Bool) → (b || nat_lt f.number m) ≡ true → (b || nat_lt f.number n) ≡ true
    here true e = refl
    here false e = lt-ltb f.number n (omega (arith, le, ltb-true f.number m e))

-- ---- names

pub no_scope_name : (x : List ℕ) → identifiers.is_reserved x ≡ false → is_scope_name x ≡ false
no_scope_name [] h = refl
no_scope_name (a ∷ []) h = refl
no_scope_name (a ∷ b ∷ x) h = by (nat_eq a 36) (nat_eq b 36) h
  where
    by : (p q : Bool) → (p && q) ≡ false → cond p q false ≡ false
    by true q e = e
    by false q e = refl

pub plain_name : (x : List ℕ) → identifiers.is_reserved x ≡ false → not (is_scope_name x) ≡ true
plain_name x h = not_from_false (is_scope_name x) (no_scope_name x h)

-- ---- parts

pub left : {us : List Use} {k n : ℕ} {fs : List Frame} (vs : List Use) (m : ℕ) (f g : (Node → Bool) → Bool) → Piece (λ t. f t || g t) (us ++ vs) (k + m) n fs → Piece f us k n fs
left {us = us} {k = k} {n = n} {fs = fs} vs m f g h = record {
  plain = (or_parts (f has_reserved_identifier) (g has_reserved_identifier) h.plain).0;
  deletes = (or_parts (f deletes_name) (g deletes_name) h.deletes).0;
  own = (or_parts (f assigns_own_name) (g assigns_own_name) h.own).0;
  allowed = (each_parts (Allowed fs) us vs h.allowed).0;
  read = h.read;
  below = h.below;
  few = omega (arith, h.few);
}

pub right : {vs : List Use} {m n : ℕ} {fs : List Frame} (us : List Use) (k : ℕ) (f g : (Node → Bool) → Bool) → Piece (λ t. f t || g t) (us ++ vs) (k + m) n fs → Piece g vs m (n + k) fs
right {vs = vs} {m = m} {n = n} {fs = fs} us k f g h = record {
  plain = (or_parts (f has_reserved_identifier) (g has_reserved_identifier) h.plain).1;
  deletes = (or_parts (f deletes_name) (g deletes_name) h.deletes).1;
  own = (or_parts (f assigns_own_name) (g assigns_own_name) h.own).1;
  allowed = (each_parts (Allowed fs) us vs h.allowed).1;
  read = h.read;
  below = still_below n (n + k) fs (omega arith) h.below;
  few = omega (arith, h.few);
}

-- what stands in a node
pub inner : {us : List Use} {k n : ℕ} {fs : List Frame} (f g : (Node → Bool) → Bool) → Piece (λ t. f t || g t) us k n fs → Piece g us k n fs
inner f g h = record {
  plain = (or_parts (f has_reserved_identifier) (g has_reserved_identifier) h.plain).1;
  deletes = (or_parts (f deletes_name) (g deletes_name) h.deletes).1;
  own = (or_parts (f assigns_own_name) (g assigns_own_name) h.own).1;
  allowed = h.allowed;
  read = h.read;
  below = h.below;
  few = h.few;
}

-- other uses of the same piece
pub with_uses : {us : List Use} {k n : ℕ} {fs : List Frame} (any : (Node → Bool) → Bool) (vs : List Use) → Each (Allowed fs) vs → Piece any us k n fs → Piece any vs k n fs
with_uses any vs allowed h = record { plain = h.plain; deletes = h.deletes; own = h.own; allowed = allowed; read = h.read; below = h.below; few = h.few }

target_allowed : (fs : List Frame) (e : tree.Expr) → Each (Allowed fs) (target_uses e (expr_uses e)) → Each (Allowed fs) (expr_uses e)
target_allowed fs (name x) h = ((λ e. absurd (cc e)), tt)
target_allowed fs e h = h

value_allowed : (fs : List Frame) (x : List ℕ) (e : tree.MaybeExpr) → Each (Allowed fs) (declarator_uses x e) → Each (Allowed fs) (maybe_expr_uses e)
value_allowed fs x no_expr h = tt
value_allowed fs x (one_expr e) h = h.1

-- a target as an expression, and a value that a variable begins with
pub targeted : {k n : ℕ} {fs : List Frame} (any : (Node → Bool) → Bool) (e : tree.Expr) → Piece any (target_uses e (expr_uses e)) k n fs → Piece any (expr_uses e) k n fs
targeted {fs = fs} any e h = with_uses any (expr_uses e) (target_allowed fs e h.allowed) h

pub begun : {k n : ℕ} {fs : List Frame} (any : (Node → Bool) → Bool) (x : List ℕ) (e : tree.MaybeExpr) → Piece any (declarator_uses x e) k n fs → Piece any (maybe_expr_uses e) k n fs
begun {fs = fs} any x e h = with_uses any (maybe_expr_uses e) (value_allowed fs x e h.allowed) h
