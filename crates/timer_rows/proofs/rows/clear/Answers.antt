use Rattle.std.proofs.Common.{Ok}
use Rattle.js_values.specs.declared.value.Value.TheVariants.{Undefined}
use Rattle.page_host.specs.Steps.{clears}
use Rattle.page_meaning.specs.Act.{bind, done}
use Rattle.page_meaning.specs.Primitives.{changes_host}
use Rattle.page_meaning.specs.TimerRows.{with_time}
use Rattle.page_state.specs.Does.{itself}
use Rattle.page_state.proofs.Callers.{bind_gives, given}
use Rattle.timer_rows.proofs.Coming.{comes_fails, comes_gives}
use Rattle.timer_rows.proofs.rows.clear.Goals as goal

pub returns-in_err-id : goal.returns-in_err-id
returns-in_err-id c =
    comes_fails (λ calls. with_time calls c.args.args.now 0) (λ _ id. bind (changes_host (clears id)) (λ _. done)) itself c.args.state.now c.time.new.state c.in_err-id.field-0.0
    c.from_residual.result c.in_err-id.ensures c.from_residual.ensures

pub returns : goal.returns
returns c =
    comes_gives (λ calls. with_time calls c.args.args.now 0) (λ _ id. bind (changes_host (clears id)) (λ _. done)) itself c.in_ok-id.id c.args.state.now c.time.new.state c.clear_timer.new.self
    (Ok Undefined) c.in_ok-id.ensures
    (bind_gives (λ _. changes_host (clears c.in_ok-id.id)) (λ _ _. done) itself tt c.time.new.state c.clear_timer.new.self c.clear_timer.new.self (Ok Undefined) c.clear_timer.ensures
    (given Undefined c.clear_timer.new.self))
