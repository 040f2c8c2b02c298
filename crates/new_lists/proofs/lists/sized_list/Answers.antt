use Rattle.std.proofs.Common.{Ok}
use Rattle.js_values.specs.declared.value.Value.TheVariants.{Num, Object}
use Rattle.object_heap.specs.Define.{length_name}
use Rattle.page_meaning.specs.Act.{also, give}
use Rattle.page_meaning.specs.Expressions.{new_list}
use Rattle.page_meaning.specs.Properties.{put_in}
use Rattle.page_state.proofs.Callers.{bind_gives, handed}
use Rattle.new_lists.proofs.lists.sized_list.Goals as goal

pub returns-in_err-set_length : goal.returns-in_err-set_length
returns-in_err-set_length c = bind_gives (λ _. new_list) (λ _ a. also (put_in a length_name (Num c.args.length)) (λ _. give (Object a))) (λ x. Object x) c.in_ok-list.list c.args.state.now c.new_list.new.self c.set_length.new.state c.from_residual-in_err-set_length.result c.in_ok-list.ensures (handed (λ _. also (put_in c.in_ok-list.list length_name (Num c.args.length)) (λ _. give (Object c.in_ok-list.list))) (λ x. Object x) c.new_list.new.self c.set_length.new.state c.in_err-set_length.field-0.0 c.from_residual-in_err-set_length.result c.in_err-set_length.ensures c.from_residual-in_err-set_length.ensures)

pub returns : goal.returns
returns c = bind_gives (λ _. new_list) (λ _ a. also (put_in a length_name (Num c.args.length)) (λ _. give (Object a))) (λ x. Object x) c.in_ok-list.list c.args.state.now c.new_list.new.self c.set_length.new.state (Ok c.in_ok-list.list) c.in_ok-list.ensures c.in_ok-set_length.ensures
