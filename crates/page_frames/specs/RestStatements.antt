-- What a statement that waits for a part has yet to do, from the part's end (sections 12.1 to 12.5, 12.9, 12.13 and 12.14).
use Rattle.std.specs.Prelude.{ℕ, zero, suc, List, [], ◌∷◌, Option, Some, None}
use Rattle.code_table.specs.Node.{Node, stmt_node, block_node, and_child}
use Rattle.js_core.specs.Tree.{var, block}
use Rattle.js_values.specs.declared.value.Value.{Value}
use Rattle.page_meaning.specs.declared.signal.Signal.{Signal}
use Rattle.page_meaning.specs.declared.signal.Signal.TheVariants.{Thrown}
use Rattle.page_meaning.specs.Act.{Act, Calls, ret, bind, done, choose}
use Rattle.page_meaning.specs.Names.{Here, in_scope}
use Rattle.page_meaning.specs.Primitives.{make_environment}
use Rattle.page_meaning.specs.Statements.{exec_all, exec_declarators, last_signal}
use Rattle.whole_ops.specs.Conversions.{is_true}
use Rattle.page_frames.specs.Parts.{mean_node, part, drop_stmts, drop_declarators}

-- the declarators with an initialiser from the kth on
abbrev pub declarators_from : Calls → Here → Option Node → ℕ → Act
declarators_from calls here (Some (stmt_node (var ds))) k = exec_declarators calls here (drop_declarators ds k)
declarators_from calls here at k = done

-- the statements of a block from the kth on
abbrev pub stmts_from : Calls → Here → Option Node → ℕ → Act
stmts_from calls here (Some (block_node ss)) k = exec_all calls here (drop_stmts ss k)
stmts_from calls here (Some (stmt_node (block ss))) k = exec_all calls here (drop_stmts ss k)
stmts_from calls here at k = done

abbrev pub rest_if : Calls → Here → Option Node → Value → Act
rest_if calls here at v = choose (is_true v) (part calls here at 1) (part calls here at 2)

-- ---- try

-- the clause runs with the exception in an environment of its own
abbrev pub rest_clause : Calls → Here → Option Node → Option (List ℕ) → Signal → Act
rest_clause calls here at (Some x) (Thrown v) = bind (make_environment here.env ((x, v) ∷ [])) (λ e. part calls (in_scope here e) at 1)
rest_clause calls here at x s = ret s

abbrev pub last_of : Calls → Here → Option Node → Signal → Act
last_of calls here None s = ret s
last_of calls here (Some n) s = bind (mean_node calls here (Some n)) (λ t. ret (last_signal s t))

-- what stands last runs, where there is one
abbrev pub rest_last : Calls → Here → Option Node → Signal → Act
rest_last calls here at s = last_of calls here (and_child at 2) s

abbrev pub given_back : Option Signal → Signal → Signal
given_back None s = s
given_back (Some kept) s = last_signal kept s

abbrev pub rest_try : Calls → Here → Option Node → Option (List ℕ) → ℕ → Option Signal → Signal → Act
rest_try calls here at x zero kept s = bind (rest_clause calls here at x s) (rest_last calls here at)
rest_try calls here at x (suc zero) kept s = rest_last calls here at s
rest_try calls here at x (suc (suc k)) kept s = ret (given_back kept s)
