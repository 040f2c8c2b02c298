use Rattle.std.proofs.Common.{refl, Ok}
use Rattle.std.proofs.Math.ListN.{drop_of_length-le}
use Rattle.js_values.specs.declared.value.Value.TheVariants.{Num}
use Rattle.page_meaning.specs.Convert.{number_in, to_number}
use Rattle.page_meaning.specs.MathRows as math
use Rattle.page_state.proofs.Callers.{given}
use Rattle.builtin_text.specs.Picks.{pick_of as spec_pick}
use Rattle.builtin_text.proofs.Each.{each_on, each_fails}
use Rattle.builtin_text.proofs.math.pick_rest.Goals as goal

pub returns-in_err-other : goal.returns-in_err-other
returns-in_err-other c = c.loop-index.invariant c.to_number.new.self c.from_residual.result (each_fails (λ d vs a. math.picked d (spec_pick c.args.pick) vs a) (λ d v a. to_number d v) (λ x a. spec_pick c.args.pick a (number_in x)) (λ x. Num x) (λ d v vs a. refl) c.args.values.now c.loop-index.index c.index-values-index.result c.loop-index.best c.loop-index.state c.to_number.new.self c.in_err-other.field-0.0 c.from_residual.result c.loop-index-test.true c.index-values-index.is c.in_err-other.ensures c.from_residual.ensures)

pub loop-index-preserved : goal.loop-index-preserved
loop-index-preserved c t r g = c.loop-index.invariant t r (each_on (λ d vs a. math.picked d (spec_pick c.args.pick) vs a) (λ d v a. to_number d v) (λ x a. spec_pick c.args.pick a (number_in x)) (λ x. Num x) (λ d v vs a. refl) c.args.values.now c.loop-index.index c.index-values-index.result c.loop-index.best (Num c.in_ok-other.other) c.loop-index.state c.to_number.new.self t r c.loop-index-test.true c.index-values-index.is c.in_ok-other.ensures (rw c.of-best.ensures at g))

pub returns : goal.returns
returns c = c.loop-index.invariant c.loop-index.state (Ok c.loop-index.best) (rw (drop_of_length-le c.args.values.now c.loop-index-test.false) (given (Num c.loop-index.best) c.loop-index.state))
