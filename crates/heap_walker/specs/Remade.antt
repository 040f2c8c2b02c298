-- Functions that can be made again from their code and what their needed variables hold.
use Rattle.std.specs.Prelude.{◌≡◌, ℕ, ◌+◌, ◌≤◌, true, not, List, Option, IsTrue}
use Rattle.std.specs.List.{list_all}
use Rattle.code_table.specs.Declarations.{name_of}
use Rattle.heap_walker.specs.Still.{OwnName, has_name, other_names}
use Rattle.heap_walker.specs.Things.{is_in, needs_links, needs_of}
use Rattle.js_core.specs.Height.{code_height}
use Rattle.js_core.specs.Tree as tree
use Rattle.js_values.specs.declared.ids.EnvId.{EnvId}
use Rattle.object_heap.specs.Chain.{object_at}
use Rattle.object_heap.specs.declared.object.Class.TheVariants as class
use Rattle.object_shapes.specs.Links.{all_below}
use Rattle.page_meaning.specs.Store.{Store}
use Rattle.scope_analysis.specs.Needs.{needed_variables}
use Rattle.early_rules.specs.Limits.{function_height_limit}

-- the function at the place can be made again from its code and what its needed variables hold: these are bound round it, and what they
-- hold is older; the other names that it leaves to the scopes round it are bound nowhere there; its own name, if it has one, is bound to it;
-- and it is no higher than a function of a form page
pub record CanBeRemade (s : Store) (k : ℕ) (c : tree.Code) (env : Option EnvId) : Type 0 where
  pub bound : IsTrue (list_all (has_name s env) (needed_variables c))
  pub older : IsTrue (all_below k (needs_links (needs_of s env c)))
  pub unbound : IsTrue (list_all (λ x. not (has_name s env x)) (other_names c))
  pub own_name : OwnName s k env (name_of c)
  pub low : code_height c + 1 ≤ function_height_limit

-- so can each function among the things
abbrev pub AllCanBeRemade : Store → List ℕ → Type 0
AllCanBeRemade s things =
    (k : ℕ) (c : tree.Code) (env : Option EnvId) → is_in k things ≡ true → (object_at s.heap.objects k).class ≡ class.Page c env
    → CanBeRemade s k c env
