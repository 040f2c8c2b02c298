use Rattle.std.proofs.Common.{drop}
use Rattle.js_values.specs.declared.value.Value.TheVariants.{Num}
use Rattle.page_meaning.specs.Convert.{number_in, to_number}
use Rattle.page_meaning.specs.MathRows as math
use Rattle.page_state.proofs.Callers.{also_gives, failed}
use Rattle.builtin_text.specs.Picks.{pick_of as spec_pick}
use Rattle.builtin_text.proofs.math.pick_first.Goals as goal

pub returns-in_err-number : goal.returns-in_err-number
returns-in_err-number c = failed (λ calls. to_number calls c.args.first.now) (λ calls x. math.picked calls (spec_pick c.args.pick) (drop 1 c.args.values.now) (number_in x)) (λ x. Num x) c.args.state.now c.to_number.new.self c.in_err-number.field-0.0 c.from_residual.result c.in_err-number.ensures c.from_residual.ensures

pub returns : goal.returns
returns c = also_gives (λ calls. to_number calls c.args.first.now) (λ calls x. math.picked calls (spec_pick c.args.pick) (drop 1 c.args.values.now) (number_in x)) (λ x. Num x) (Num c.in_ok-number.number) c.args.state.now c.to_number.new.self c.pick_rest.new.state c.pick_rest.result c.in_ok-number.ensures c.pick_rest.ensures
