use native.Mathlib.Numerals.{unary_clauses}
use Rattle.std.proofs.Common.{◌≡◌, ◌+◌, ◌∷◌, ap, sym, ℕ, suc, List, Ok, add-suc}
use Rattle.js_values.specs.declared.ids.ObjId.{ObjId}
use Rattle.js_values.specs.declared.value.Value.{Value}
use Rattle.js_values.specs.declared.value.Value.TheVariants.{Undefined}
use Rattle.page_meaning.specs.Act.{also}
use Rattle.page_meaning.specs.Elements as element
use Rattle.page_state.specs.Does.{no_value}
use Rattle.page_state.proofs.Does.{given}
use Rattle.page_state.proofs.InTurn.{one_fails, one_on}
use Rattle.std.proofs.Math.ListN.{drop_of_length-le}
use Rattle.page_state.proofs.state.State.put_each.Goals as goal

-- the next one is put
unfolds : (at : ObjId) (start k : ℕ) (v : Value) (vs : List Value) → element.put_each at (start + k) (v ∷ vs) ≡ also (element.put_element at (start + k) v) (λ _. element.put_each at (start + suc k) vs)
unfolds at start k v vs = ap (λ j. also (element.put_element at (start + k) v) (λ _. element.put_each at j vs)) (sym (add-suc start k))

pub loop-index-init : goal.loop-index-init
loop-index-init c t r g = simp unary_clauses at g

pub returns-in_err-put_element : goal.returns-in_err-put_element
returns-in_err-put_element c =
    c.loop-index.invariant c.put_element.new.self c.from_residual-in_err-put_element.result
    (one_fails (λ k vs. element.put_each c.args.at (c.args.start + k) vs) (λ k v. element.put_element c.args.at (c.args.start + k) v) no_value (unfolds c.args.at c.args.start)
    c.args.values.now c.loop-index.index c.index-values-index.result c.loop-index.self c.put_element.new.self c.in_err-put_element.field-0.0 c.from_residual-in_err-put_element.result
    c.loop-index-test.true c.index-values-index.is (rw (c.in_ok-place.ensures, c.in_ok-value.ensures) at c.in_err-put_element.ensures) c.from_residual-in_err-put_element.ensures)

pub loop-index-preserved : goal.loop-index-preserved
loop-index-preserved c t r g =
    c.loop-index.invariant t r
    (one_on (λ k vs. element.put_each c.args.at (c.args.start + k) vs) (λ k v. element.put_element c.args.at (c.args.start + k) v) no_value (unfolds c.args.at c.args.start)
    c.args.values.now c.loop-index.index c.index-values-index.result Undefined c.loop-index.self c.put_element.new.self t r c.loop-index-test.true c.index-values-index.is
    (rw (c.in_ok-place.ensures, c.in_ok-value.ensures) at c.in_ok-put_element.ensures) g)

pub returns : goal.returns
returns c = c.loop-index.invariant c.loop-index.self (Ok tt) (rw (drop_of_length-le c.args.values.now c.loop-index-test.false) (given Undefined c.loop-index.self))
