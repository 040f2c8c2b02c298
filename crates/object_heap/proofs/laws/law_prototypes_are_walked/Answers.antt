use Rattle.object_heap.proofs.Chains as chains
use Rattle.object_heap.proofs.laws.law_prototypes_are_walked.Goals as goal

pub returns : goal.returns
returns g c see h k sound = chains.found_on see h.objects k sound.prototypes
