-- What a literal that waits for a part holds, and the elements of an array literal that are absent.
use Rattle.std.specs.Prelude.{◌≡◌, ℕ, ◌≤◌, List, [], ◌∷◌, Option, Some, None}
use Rattle.code_table.specs.Node.{Node}
use Rattle.js_values.specs.declared.ids.ObjId.{ObjId}
use Rattle.js_values.specs.declared.value.Value.{Value}
use Rattle.page_meaning.specs.Act.{Calls}
use Rattle.page_meaning.specs.Names.{Here}
use Rattle.page_frames.specs.RestLiterals.{elements_from, object_in}
use Rattle.page_frames.specs.Weight.{weigh}

-- the object that a literal fills, of the values that its frame holds
abbrev pub holder : List Value → Option ObjId
holder [] = None
holder (a ∷ more) = Some (object_in a)

-- nothing is to be done for the elements from the jth up to the kth
pub record Skips (at : Option Node) (j k : ℕ) : Type 0 where
  pub same : (calls : Calls) (here : Here) (a : ObjId) → elements_from calls here at a j ≡ elements_from calls here at a k
  pub lighter : weigh at k ≤ weigh at j
