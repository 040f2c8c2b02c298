-- The parts of a tree that is not too high are not too high.
use Rattle.std.proofs.Common.{ℕ, ◌≤◌, List, [], ◌∷◌, ◌++◌, Option, Some, None, arith}
use Rattle.std.specs.Prelude.{max}
use Rattle.js_core.specs.Tree as tree
use Rattle.js_core.specs.Tree.{exprs_of, holes_of, fields_of, stmts_of}
use Rattle.js_core.specs.Height.{expr_height, exprs_height, holes_height, fields_height}

pub max_left : (a b n : ℕ) → max a b ≤ n → a ≤ n
max_left a b n h = omega arith

pub max_right : (a b n : ℕ) → max a b ≤ n → b ≤ n
max_right a b n h = omega arith

-- each of a list
abbrev pub Each : {A : Type 0} (P : A → Type 0) → List A → Type 0
Each P [] = Unit {0}
Each P (a ∷ rest) = P a × Each P rest

pub each_but_last : {A : Type 0} (P : A → Type 0) (found : List A) (a : A) → Each P (found ++ a ∷ []) → Each P found × P a
each_but_last P [] a h = (tt, h.0)
each_but_last P (b ∷ bs) a h = let r = each_but_last P bs a h.1 in ((h.0, r.0), r.1)

abbrev pub Fits : ℕ → tree.Expr → Type 0
Fits limit a = expr_height a ≤ limit

pub exprs_fit : (limit : ℕ) (es : List tree.Expr) → exprs_height (exprs_of es) ≤ limit → Each (Fits limit) es
exprs_fit limit [] h = tt
exprs_fit limit (e ∷ es) h = (max_left (expr_height e) (exprs_height (exprs_of es)) limit h, exprs_fit limit es (max_right (expr_height e) (exprs_height (exprs_of es)) limit h))

-- an element that is absent is not too high
abbrev pub HoleFits : ℕ → Option tree.Expr → Type 0
HoleFits limit None = Unit {0}
HoleFits limit (Some a) = Fits limit a

pub holes_fit : (limit : ℕ) (es : List (Option tree.Expr)) → holes_height (holes_of es) ≤ limit → Each (HoleFits limit) es
holes_fit limit [] h = tt
holes_fit limit (None ∷ es) h = (tt, holes_fit limit es (max_right 0 (holes_height (holes_of es)) limit h))
holes_fit limit (Some e ∷ es) h = (max_left (expr_height e) (holes_height (holes_of es)) limit h, holes_fit limit es (max_right (expr_height e) (holes_height (holes_of es)) limit h))

pub fields_fit : (limit : ℕ) (fs : List (List ℕ × tree.Expr)) → fields_height (fields_of fs) ≤ limit → Each (λ f. Fits limit f.1) fs
fields_fit limit [] h = tt
fields_fit limit (f ∷ fs) h = (max_left (expr_height f.1) (fields_height (fields_of fs)) limit h, fields_fit limit fs (max_right (expr_height f.1) (fields_height (fields_of fs)) limit h))
