use Rattle.std.proofs.Common.{[], ◌∷◌, length, reverse}
use Rattle.page_reader.specs.Reading.{AreOpen, Follows}
use Rattle.page_reader.proofs.tree.content.Given as goal

abbrev pub invariant-loop-token : goal.invariant-loop-token
invariant-loop-token l =
    Follows (l.fn.html ∷ []) l.tokens l.fn.dom l.fn.scripts.items (l.top ∷ reverse l.below.items) l.rest l.dom l.scripts.items
    × AreOpen l.dom (l.top ∷ reverse l.below.items)

abbrev pub decreases-loop-token : goal.decreases-loop-token
decreases-loop-token l = length l.rest
