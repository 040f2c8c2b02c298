use Rattle.std.proofs.Common.{Ok}
use Rattle.js_values.specs.declared.value.Value.TheVariants.{Num, Object}
use Rattle.object_heap.specs.Define.{length_name}
use Rattle.page_meaning.specs.Act.{give}
use Rattle.page_meaning.specs.Properties.{put_in}
use Rattle.page_state.specs.Does.{itself}
use Rattle.page_state.proofs.Callers.{also_gives, failed, given}
use Rattle.new_lists.specs.Lists.{for_object}
use Rattle.new_lists.proofs.lists.set_length.Goals as goal

pub returns-in_err-put_in : goal.returns-in_err-put_in
returns-in_err-put_in c = failed (λ _. put_in c.args.list length_name (Num c.args.length)) (λ _ _. give (Object c.args.list)) (for_object c.args.list) c.args.state.now c.put_in.new.self c.in_err-put_in.field-0.0 c.from_residual-in_err-put_in.result (rw c.in_ok-name.ensures at c.in_err-put_in.ensures) c.from_residual-in_err-put_in.ensures

pub returns : goal.returns
returns c = also_gives (λ _. put_in c.args.list length_name (Num c.args.length)) (λ _ _. give (Object c.args.list)) (for_object c.args.list) (itself c.in_ok-put_in.field-0) c.args.state.now c.put_in.new.self c.put_in.new.self (Ok tt) (rw c.in_ok-name.ensures at c.in_ok-put_in.ensures) (given (Object c.args.list) c.put_in.new.self)
