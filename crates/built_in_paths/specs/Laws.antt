-- What holds of the paths.
use Rattle.std.specs.Prelude.{◌≡◌, ◌↔◌, ◌<◌, ◌≤◌, ℕ, List, Some, IsSome, length}
use Rattle.page_meaning.specs.Pristine.{built_ins}
use Rattle.built_in_paths.specs.Paths.{leads, path_of}

-- each path leads to the object whose it is, among those that a page begins with
abbrev pub PathsLead : Type 0
PathsLead = (k : ℕ) (path : List ℕ) → path_of k ≡ Some path → leads built_ins path ≡ Some k

-- exactly the objects that a page begins with have one
abbrev pub EachHasPath : Type 0
EachHasPath = (k : ℕ) → IsSome (path_of k) ↔ (k < length built_ins)

-- the units of `Object.prototype.propertyIsEnumerable`, and no path has more
abbrev pub longest : ℕ
longest = 37

abbrev pub PathsAreShort : Type 0
PathsAreShort = (k : ℕ) (path : List ℕ) → path_of k ≡ Some path → length path ≤ longest
