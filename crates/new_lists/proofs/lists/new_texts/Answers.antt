use Rattle.std.proofs.Common.{Ok}
use Rattle.js_values.specs.declared.value.Value.TheVariants.{Object}
use Rattle.page_meaning.specs.Expressions.{new_list}
use Rattle.page_meaning.specs.ObjectRows as object
use Rattle.page_state.proofs.Callers.{bind_gives, handed}
use Rattle.new_lists.proofs.lists.new_texts.Goals as goal

pub returns-in_err-fill_texts : goal.returns-in_err-fill_texts
returns-in_err-fill_texts c = bind_gives (λ _. new_list) (λ _ a. object.list_texts a 0 c.args.texts.now) (λ x. Object x) c.in_ok-list.list c.args.state.now c.new_list.new.self c.fill_texts.new.state c.from_residual-in_err-fill_texts.result c.in_ok-list.ensures (handed (λ _. object.list_texts c.in_ok-list.list 0 c.args.texts.now) (λ x. Object x) c.new_list.new.self c.fill_texts.new.state c.in_err-fill_texts.field-0.0 c.from_residual-in_err-fill_texts.result c.in_err-fill_texts.ensures c.from_residual-in_err-fill_texts.ensures)

pub returns : goal.returns
returns c = bind_gives (λ _. new_list) (λ _ a. object.list_texts a 0 c.args.texts.now) (λ x. Object x) c.in_ok-list.list c.args.state.now c.new_list.new.self c.fill_texts.new.state (Ok c.in_ok-list.list) c.in_ok-list.ensures c.in_ok-fill_texts.ensures
