use Rattle.std.proofs.Common.{◌∙◌, sym}
use Rattle.object_heap.proofs.Chains.{proto_there}
use Rattle.object_heap.proofs.chain.can_put.Goals as goal

pub get_property-requires-clause-there : goal.get_property-requires-clause-there
get_property-requires-clause-there c = proto_there _ _ _ _ c.requires.ages c.requires.there c.index-objects-at.is (sym c.proto.ensures ∙ c.in-Some-proto.is)
