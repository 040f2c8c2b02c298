use Rattle.std.proofs.Common.{◌∙◌, ap}
use Rattle.std.specs.List.{list_all}
use Rattle.event_file.specs.Kinds.{is_key_of}
use Rattle.std.proofs.Common.{string_bytes}
use Rattle.event_file.proofs.Keys.{all_keys}
use Rattle.event_file.proofs.kind.Kind.may_have_all.Goals as goal

pub loop-key-init : goal.loop-key-init
loop-key-init c = ap (list_all (λ key. is_key_of c.args.self (string_bytes key))) (c.into_iter-key-iterator.ensures.into_iter_gives ∙ c.keys-key-items.ensures.rest) ∙ all_keys c.args.self c.args.members.now.entries
