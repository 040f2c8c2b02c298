use Rattle.object_heap.proofs.Chains as chains
use Rattle.object_heap.proofs.Scopes as scopes
use Rattle.object_heap.proofs.laws.law_chains_are_walked.Goals as goal

pub returns : goal.returns
returns c h k name sound = (chains.step h.objects k name sound.prototypes, scopes.step h.environments k name sound.environments)
