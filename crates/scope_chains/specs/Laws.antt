-- What scope analysis says of names, and where a running page finds them.
use Rattle.std.specs.Prelude.{◌≡◌, ℕ, true, List, [], ◌∷◌, Option, Some, None, length, map, option_map}
use Rattle.js_core.specs.Tree as tree
use Rattle.js_grammar.specs.Syntax.{AreStmts}
use Rattle.js_values.specs.declared.ids.EnvId.{EnvId}
use Rattle.js_values.specs.declared.value.Value.{Value}
use Rattle.object_heap.specs.Environment.{AreInside, Bound, Environment}
use Rattle.object_heap.specs.Heap.{Contents, look_in}
use Rattle.object_heap.specs.Laws.{Step, after_steps, opens}
use Rattle.page_meaning.specs.Functions.{entry_names}
use Rattle.scope_analysis.specs.Names.{declared_names}
use Rattle.scope_analysis.specs.Scopes.{find}
use Rattle.scope_chains.specs.Levels.{AreLevels, BindsOwn, Level, OwnName, environment_of, innermost, names_at, round_it}

-- the environment in which a name is found is that of the innermost scope that declares it; where none does, none has it
abbrev pub NamesAreFound : Type 0
NamesAreFound =
    (es : List Environment) (ls : List Level) (x : List ℕ) → AreInside es → AreLevels es ls
    → option_map (λ p. p.0) (look_in es (innermost ls) x) ≡ environment_of ls x (find (map names_at ls) x)

abbrev pub next_environment : Contents → EnvId
next_environment h = record { 0 = length h.environments }

abbrev pub opened_in : Contents → Option EnvId → Bound → List Environment
opened_in h outer names = (after_steps h (opens outer names ∷ [])).environments

-- a function that is entered has the environment of its scope (10.4.3)
abbrev pub FunctionsAreLevels : Type 0
FunctionsAreLevels =
    (h : Contents) (ls : List Level) (own : Option OwnName) (formals : List (List ℕ)) (body : tree.Stmts) (vs : List Value)
    → AreStmts true body → BindsOwn h.environments own (innermost ls) → AreLevels h.environments ls
    → AreLevels (opened_in h (round_it own (innermost ls)) (entry_names formals body vs))
    (record { own = own; formals = formals; declared = declared_names body; env = next_environment h } ∷ ls)

-- the environment of a function expression's name is that of its scope's own name (13)
abbrev pub OwnNamesAreBound : Type 0
OwnNamesAreBound =
    (h : Contents) (ls : List Level) (x : List ℕ) (v : Value) → AreLevels h.environments ls
    → BindsOwn (opened_in h (innermost ls) ((x, v) ∷ [])) (Some (x, next_environment h)) (innermost ls)
    × AreLevels (opened_in h (innermost ls) ((x, v) ∷ [])) ls

-- a catch clause that is entered has the environment of its scope (12.14)
abbrev pub ClausesAreLevels : Type 0
ClausesAreLevels =
    (h : Contents) (ls : List Level) (x : List ℕ) (v : Value) → AreLevels h.environments ls
    → AreLevels (opened_in h (innermost ls) ((x, v) ∷ []))
    (record { own = None; formals = x ∷ []; declared = []; env = next_environment h } ∷ ls)

-- whatever is done, the environments stay those of the scopes
abbrev pub LevelsStay : Type 0
LevelsStay = (h : Contents) (ls : List Level) (steps : List Step) → AreLevels h.environments ls → AreLevels (after_steps h steps).environments ls
