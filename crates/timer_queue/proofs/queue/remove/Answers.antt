use Rattle.std.proofs.Common.{rules, ◌==◌, not}
use Rattle.std.proofs.lemmas.Fn.{filter_same}
use Rattle.timer_queue.proofs.queue.remove.Goals as goal

pub returns-clause-removed : goal.returns-clause-removed
returns-clause-removed c = filter_same _ (λ t. not (t.id == c.args.id)) _ (λ x b f' r. search rules) _ _ c.retain.ensures.filtered
