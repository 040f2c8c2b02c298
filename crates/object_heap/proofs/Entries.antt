-- Lists of names with properties.
use Rattle.std.proofs.Common.{◌≡◌, refl, ap, Bool, true, false, List, [], ◌∷◌, ◌++◌, None}
use Rattle.std.specs.Map.{lookup, set_value}
use Rattle.indexmap.specs.IndexMap.{insert_entry}

-- a name that is not there takes nothing
pub set_value_absent : {K X : Type 0} (test : K → Bool) (es : List (K × X)) (w : X) → lookup test es ≡ None → set_value test es w ≡ es
set_value_absent test [] w h = refl
set_value_absent test (e ∷ es) w h = by_case (test e.0) refl (set_value_absent test es w)
  where
    by_case : (b : Bool) → test e.0 ≡ b → (lookup test es ≡ None → set_value test es w ≡ es) → set_value test (e ∷ es) w ≡ e ∷ es
    by_case true p more = cc (rw p at h)
    by_case false p more = rw p (ap (λ r. e ∷ r) (more (rw p at h)))

-- a new name comes last
pub insert_absent : {K X : Type 0} (eq : K → K → Bool) (es : List (K × X)) (k : K) (v : X) → lookup (eq k) es ≡ None → insert_entry eq es k v ≡ es ++ (k, v) ∷ []
insert_absent eq [] k v h = refl
insert_absent eq (e ∷ es) k v h = by_case (eq k e.0) refl (insert_absent eq es k v)
  where
    by_case : (b : Bool) → eq k e.0 ≡ b → (lookup (eq k) es ≡ None → insert_entry eq es k v ≡ es ++ (k, v) ∷ []) → insert_entry eq (e ∷ es) k v ≡ (e ∷ es) ++ (k, v) ∷ []
    by_case true p more = cc (rw p at h)
    by_case false p more = rw p (ap (λ r. e ∷ r) (more (rw p at h)))
