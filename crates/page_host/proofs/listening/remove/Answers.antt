use Rattle.std.proofs.Common.{rules, not}
use Rattle.std.proofs.lemmas.Fn.{filter_same}
use Rattle.page_host.specs.Listeners.{is_same_listener}
use Rattle.page_host.proofs.listening.remove.Goals as goal

pub returns : goal.returns
returns c = filter_same _ (λ m. not (is_same_listener c.args.listener.now m)) _ (λ x b f' r. search rules) _ _ c.retain.ensures.filtered
