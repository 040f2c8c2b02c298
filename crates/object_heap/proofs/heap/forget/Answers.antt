use Rattle.std.proofs.Common.{rules, not, nat_eq}
use Rattle.std.proofs.lemmas.Fn.{filter_same}
use Rattle.object_heap.proofs.heap.forget.Goals as goal

pub returns : goal.returns
returns c = filter_same _ (λ a. not (nat_eq a.0 c.args.at.0)) _ (λ x b f r. search rules) _ _ c.retain.ensures.filtered
