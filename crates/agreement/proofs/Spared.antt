-- Functions that are called at once, to which nothing refers (section 11.2.3).
use Rattle.std.proofs.Common.{◌≡◌, refl, sym, ap, ◌∙◌, ℕ, Bool, true, false, ◌||◌, ◌&&◌, List, None}
use Rattle.js_core.specs.Tree as tree
use Rattle.js_core.specs.Tree.{code, func}
use Rattle.heap_relations.specs.Naming.{Frame}
use Rattle.agreement.specs.Opened.{Demand, callee_stands, code_stands, expr_stands}

-- either of two ways
pub either_way : {P : Type 0} (b : Bool) → (b ≡ true → P) → (b ≡ false → P) → P
either_way true f g = f refl
either_way false f g = g refl

abbrev pub is_spared : Demand → tree.Expr → Bool
is_spared d (func (code None formals body)) = d.spares (code None formals body)
is_spared d e = false

-- another callee stands as an expression
pub callee_as : (d : Demand) (n : ℕ) (fs : List Frame) (e : tree.Expr) → is_spared d e ≡ false → callee_stands d n fs e (expr_stands d n fs e) ≡ true → expr_stands d n fs e ≡ true
callee_as d n fs (func (code None formals body)) is h = ap (λ b. (b || d.asks fs (code None formals body)) && code_stands d n fs (code None formals body)) (sym is) ∙ h
callee_as d n fs e is h = h

-- where none is spared
pub unspared_same : (d : Demand) → ((c : tree.Code) → d.spares c ≡ false) → (n : ℕ) (fs : List Frame) (e : tree.Expr) → expr_stands d n fs e ≡ callee_stands d n fs e (expr_stands d n fs e)
unspared_same d none n fs (func (code None formals body)) = ap (λ b. (b || d.asks fs (code None formals body)) && code_stands d n fs (code None formals body)) (sym (none (code None formals body)))
unspared_same d none n fs e = refl
