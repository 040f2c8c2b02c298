use Rattle.std.proofs.Common.{◌≡◌, ◌++◌, length, map}
use Rattle.page_reader.specs.Replacing.{replaced_from}
use Rattle.page_reader.proofs.replacing.replace_scripts.Given as goal

abbrev pub invariant-loop-place : goal.invariant-loop-place
invariant-loop-place l =
    l.out.items ++ replaced_from l.from l.bytes l.places (map (λ t. t.items) l.rest)
    ≡ l.fn.out.items ++ replaced_from l.fn.from l.bytes l.fn.places (map (λ t. t.items) l.texts)

abbrev pub decreases-loop-place : goal.decreases-loop-place
decreases-loop-place l = length l.places
