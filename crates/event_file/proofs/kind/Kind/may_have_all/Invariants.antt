use Rattle.std.proofs.Common.{◌≡◌, string_bytes}
use Rattle.std.specs.List.{list_all}
use Rattle.serde_json.specs.Data.{object}
use Rattle.serde_json.specs.View.{members_view}
use Rattle.event_file.specs.Kinds.{has_only_keys_of, is_key_of}
use Rattle.event_file.proofs.kind.Kind.may_have_all.Given as goal

abbrev pub invariant-loop-key : goal.invariant-loop-key
invariant-loop-key l = list_all (λ key. is_key_of l.self (string_bytes key)) l.key-iterator ≡ has_only_keys_of l.self (object (members_view l.members.entries))
