-- A page at rest: what holds between two events of a form page, as saving needs it.
use Rattle.std.specs.Prelude.{◌≡◌, ℕ, ◌+◌, ◌<◌, ◌≤◌, Bool, not, List, ◌++◌, Option, Some, None, is_some, length, map, filter, IsTrue, ⊤}
use Rattle.std.specs.List.{list_all}
use Rattle.std.specs.Option.{ForSome}
use Rattle.code_table.specs.Declarations.{name_of}
use Rattle.js_core.specs.Height.{code_height}
use Rattle.js_core.specs.Tree as tree
use Rattle.js_core.specs.Tree.{call, code, expr, func, no_exprs, no_stmts, one_expr, return, then_stmt}
use Rattle.js_values.specs.declared.ids.EnvId.{EnvId}
use Rattle.js_values.specs.declared.value.Value.{Value}
use Rattle.js_values.specs.declared.value.Value.TheVariants as value
use Rattle.object_heap.specs.Chain.{object_at}
use Rattle.object_heap.specs.Environment.{environment_at, value_of}
use Rattle.object_heap.specs.Heap.{IsSound, look_in}
use Rattle.object_heap.specs.Object.{Object}
use Rattle.object_heap.specs.declared.object.Class.TheVariants as class
use Rattle.object_heap.specs.declared.object.EventParts.{EventParts}
use Rattle.object_shapes.specs.Links.{all_below, proto_links}
use Rattle.object_shapes.specs.Shapes.{IsShaped}
use Rattle.page_host.specs.Sound.{ArePlain}
use Rattle.page_meaning.specs.Store.{Store}
use Rattle.early_rules.specs.EarlyRules.{early_rule}
use Rattle.script_rules.specs.Form.{in_form}
use Rattle.scope_analysis.specs.Needs.{needed_variables}
use Rattle.scope_analysis.specs.Identifiers.{is_reserved}
use Rattle.early_rules.specs.Limits.{function_height_limit}
use Rattle.scope_analysis.specs.Uses.{expr_uses}
use Rattle.heap_walker.specs.Things.{Reach, class_links, needs_links, needs_of}

-- ---- references

-- what an object refers to from when it is made, all of it older: its prototype, the parts of a bound function, the needed variables of a function
abbrev pub made_links : Store → Object → List ℕ
made_links s o = proto_links o.proto ++ class_links s o.class

-- ---- functions

abbrev pub has_name : Store → Option EnvId → List ℕ → Bool
has_name s env x = is_some (look_in s.heap.environments env x)

-- the names that a function leaves to the scopes round it and that do not begin with `$$`
abbrev pub other_names : tree.Code → List (List ℕ)
other_names c = filter (λ x. not (is_reserved x)) (map (λ u. u.name) (expr_uses (func c)))

-- a call of a function that binds the needed variables and returns the function, as a script
abbrev pub wrapped : tree.Code → tree.Stmts
wrapped c =
    then_stmt (expr (call (func (code None (needed_variables c) (then_stmt (return (one_expr (func c))) no_stmts))) no_exprs)) no_stmts

-- the value of the name in this environment alone, if there is one
abbrev pub bound_here : Store → Option EnvId → List ℕ → Option Value
bound_here s None x = None
bound_here s (Some env) x = value_of (environment_at s.heap.environments env.0).names x

-- a function expression's own name is bound in its innermost environment, to the function
abbrev pub OwnName : Store → ℕ → Option EnvId → Option (List ℕ) → Type 0
OwnName s k env None = ⊤
OwnName s k env (Some x) = bound_here s env x ≡ Some (value.Object (record { 0 = k }))

-- the function at the place can be made again from its code and what its needed variables hold
pub record IsFunctionAtRest (s : Store) (k : ℕ) (c : tree.Code) (env : Option EnvId) : Type 0 where
  pub there : ForSome env (λ e. e.0 < length s.heap.environments)
  pub bound : IsTrue (list_all (has_name s env) (needed_variables c))
  -- what they hold is older
  pub older : IsTrue (all_below k (needs_links (needs_of s env c)))
  pub alone : IsTrue (list_all (λ x. not (has_name s env x)) (other_names c))
  pub own_name : OwnName s k env (name_of c)
  pub formed : IsTrue (in_form (wrapped c))
  pub orderly : early_rule (wrapped c) ≡ None
  pub low : code_height c + 1 ≤ function_height_limit

-- ---- events

-- it is not under dispatch
pub record IsQuiet (e : EventParts) : Type 0 where
  pub phase : e.phase ≡ 0
  pub current : e.current ≡ None

abbrev pub EventsAreQuiet : Store → Type 0
EventsAreQuiet s = (k : ℕ) (parts : EventParts) → (object_at s.heap.objects k).class ≡ class.Event parts → IsQuiet parts

-- ---- the page

-- at rest: so it can be saved
pub record Still (s : Store) : Type 0 where
  pub sound : IsSound s.heap
  -- objects, nodes, listeners and timers are as their makers left them, but for what scripts may change
  pub shaped : IsShaped s
  pub functions : (k : ℕ) (c : tree.Code) (env : Option EnvId) → Reach s k → (object_at s.heap.objects k).class ≡ class.Page c env → IsFunctionAtRest s k c env
  pub events : EventsAreQuiet s
  -- no attribute's name begins with `on`
  pub plain : ArePlain s.host.nodes
