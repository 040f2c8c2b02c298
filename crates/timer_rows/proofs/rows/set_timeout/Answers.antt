use Rattle.std.proofs.Common.{None}
use Rattle.page_meaning.specs.TimerRows.{start, with_function, with_time}
use Rattle.page_state.specs.Does.{itself}
use Rattle.timer_rows.proofs.Coming.{comes_fails, comes_gives}
use Rattle.timer_rows.proofs.rows.set_timeout.Goals as goal

pub returns-in_err-function : goal.returns-in_err-function
returns-in_err-function c =
    comes_fails (λ _. with_function c.args.args.now 2) (λ calls f. with_time calls c.args.args.now 1 (λ delay. start delay None f)) itself
    c.args.state.now c.function_of.new.state c.in_err-function.field-0.0 c.from_residual.result c.in_err-function.ensures c.from_residual.ensures

pub returns-in_err-delay : goal.returns-in_err-delay
returns-in_err-delay c =
    comes_gives (λ _. with_function c.args.args.now 2) (λ calls f. with_time calls c.args.args.now 1 (λ delay. start delay None f)) itself
    c.in_ok-function.function c.args.state.now c.function_of.new.state c.time.new.state c.from_residual-in_err-delay.result c.in_ok-function.ensures
    (comes_fails (λ calls. with_time calls c.args.args.now 1) (λ _ delay. start delay None c.in_ok-function.function) itself c.function_of.new.state c.time.new.state c.in_err-delay.field-0.0 c.from_residual-in_err-delay.result
    c.in_err-delay.ensures c.from_residual-in_err-delay.ensures)

pub returns : goal.returns
returns c =
    comes_gives (λ _. with_function c.args.args.now 2) (λ calls f. with_time calls c.args.args.now 1 (λ delay. start delay None f)) itself
    c.in_ok-function.function c.args.state.now c.function_of.new.state c.start.new.state c.start.result c.in_ok-function.ensures
    (comes_gives (λ calls. with_time calls c.args.args.now 1) (λ _ delay. start delay None c.in_ok-function.function) itself c.in_ok-delay.delay c.function_of.new.state c.time.new.state c.start.new.state c.start.result
    c.in_ok-delay.ensures c.start.ensures)
