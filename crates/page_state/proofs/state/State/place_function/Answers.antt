use Rattle.std.proofs.Common.{Err}
use Rattle.std.specs.Option.{option_copied}
use Rattle.page_state.proofs.TopNames.{place_refused, place_taken}
use Rattle.page_state.proofs.state.State.place_function.Goals as goal

pub returns-then-takes_place : goal.returns-then-takes_place
returns-then-takes_place c =
    place_taken c.args.name.now c.args.self.now c.define_global.new.self c.define_global.result (option_copied c.own-own.result) c.own-own.ensures c.if-takes_place.ensures c.define_global.ensures

pub returns : goal.returns
returns c =
    place_refused c.args.name.now c.args.self.now c.raise.new.self (Err c.raise.result) (option_copied c.own-own.result) c.own-own.ensures c.if-takes_place.ensures c.if-keeps_place.ensures c.raise.ensures
