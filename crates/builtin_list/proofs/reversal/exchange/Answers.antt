use Rattle.std.proofs.Common.{sym}
use Rattle.js_values.specs.declared.value.Value.TheVariants.{Undefined}
use Rattle.page_state.proofs.Callers.{given}
use Rattle.builtin_list.proofs.Cases.{holes_stay, some_exchange}
use Rattle.builtin_list.proofs.reversal.exchange.Goals as goal

pub returns-then-are_holes : goal.returns-then-are_holes
returns-then-are_holes c =
    rw (holes_stay c.args.list c.args.low c.args.high c.args.first c.args.second (sym c.if-are_holes.ensures)) (given Undefined c.args.state.now)

pub returns : goal.returns
returns c =
    rw (some_exchange c.args.list c.args.low c.args.high c.args.first c.args.second (sym c.if-are_holes.ensures)) c.put_both.ensures
