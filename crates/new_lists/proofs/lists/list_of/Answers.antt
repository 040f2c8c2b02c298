use Rattle.std.proofs.Common.{Ok}
use Rattle.js_values.specs.declared.value.Value.TheVariants.{Object}
use Rattle.page_meaning.specs.Expressions.{new_list}
use Rattle.page_meaning.specs.ValueRows as value
use Rattle.page_state.proofs.Callers.{bind_gives, handed}
use Rattle.new_lists.proofs.lists.list_of.Goals as goal

pub returns-in_err-fill_values : goal.returns-in_err-fill_values
returns-in_err-fill_values c = bind_gives (λ _. new_list) (λ _ a. value.list_values a 0 c.args.values.now) (λ x. Object x) c.in_ok-list.list c.args.state.now c.new_list.new.self c.fill_values.new.state c.from_residual-in_err-fill_values.result c.in_ok-list.ensures (handed (λ _. value.list_values c.in_ok-list.list 0 c.args.values.now) (λ x. Object x) c.new_list.new.self c.fill_values.new.state c.in_err-fill_values.field-0.0 c.from_residual-in_err-fill_values.result c.in_err-fill_values.ensures c.from_residual-in_err-fill_values.ensures)

pub returns : goal.returns
returns c = bind_gives (λ _. new_list) (λ _ a. value.list_values a 0 c.args.values.now) (λ x. Object x) c.in_ok-list.list c.args.state.now c.new_list.new.self c.fill_values.new.state (Ok c.in_ok-list.list) c.in_ok-list.ensures c.in_ok-fill_values.ensures
