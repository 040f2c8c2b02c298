use Rattle.std.proofs.Common.{refl, Ok}
use Rattle.std.specs.Fmt.{decimal}
use Rattle.js_values.specs.declared.value.Value.TheVariants.{Object}
use Rattle.page_meaning.specs.Properties.{define_member}
use Rattle.page_meaning.specs.ValueRows as value
use Rattle.page_state.proofs.Callers.{given, one_fails, one_on}
use Rattle.new_lists.specs.Lists.{for_object}
use Rattle.std.proofs.Math.ListN.{drop_of_length-le}
use Rattle.new_lists.proofs.lists.fill_values.Goals as goal

pub returns-in_err-define_element : goal.returns-in_err-define_element
returns-in_err-define_element c = c.loop-index.invariant c.define_element.new.state c.from_residual.result (one_fails (λ k xs. value.list_values c.args.list k xs) (λ k x. define_member c.args.list (decimal k) x) (for_object c.args.list) (λ k x xs. refl) c.args.values.now c.loop-index.index c.index-values-index.result c.loop-index.state c.define_element.new.state c.in_err-define_element.field-0.0 c.from_residual.result c.loop-index-test.true c.index-values-index.is c.in_err-define_element.ensures c.from_residual.ensures)

pub loop-index-preserved : goal.loop-index-preserved
loop-index-preserved c t r g = c.loop-index.invariant t r (one_on (λ k xs. value.list_values c.args.list k xs) (λ k x. define_member c.args.list (decimal k) x) (for_object c.args.list) (λ k x xs. refl) c.args.values.now c.loop-index.index c.index-values-index.result c.index-values-index.result c.loop-index.state c.define_element.new.state t r c.loop-index-test.true c.index-values-index.is c.in_ok-define_element.ensures g)

pub returns : goal.returns
returns c = c.loop-index.invariant c.loop-index.state (Ok tt) (rw (drop_of_length-le c.args.values.now c.loop-index-test.false) (given (Object c.args.list) c.loop-index.state))
