-- The keys of an object.
use Rattle.std.proofs.Common.{◌≡◌, List, [], ◌∷◌, ◌&&◌, refl, ap, String, Global, string_bytes}
use Rattle.std.specs.List.{list_all}
use Rattle.std.specs.Map.{keys_of}
use Rattle.serde_json.specs.Data.{object}
use Rattle.serde_json.specs.declared.value.Value.{Value}
use Rattle.serde_json.specs.View.{members_view}
use Rattle.event_file.specs.Kinds.{has_only_keys_of, is_key_of}
use Rattle.event_file.specs.declared.kind.Kind.{Kind}

pub all_keys : (kind : Kind) (ms : List (String Global × Value)) → list_all (λ key. is_key_of kind (string_bytes key)) (keys_of ms) ≡ has_only_keys_of kind (object (members_view ms))
all_keys kind [] = refl
all_keys kind (m ∷ ms) = ap (λ b. is_key_of kind (string_bytes m.0) && b) (all_keys kind ms)
