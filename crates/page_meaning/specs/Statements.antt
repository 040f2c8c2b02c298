-- Meaning: what a statement does (section 12).
use Rattle.std.specs.Prelude.{ℕ, true, List, [], ◌∷◌}
use Rattle.js_values.specs.declared.value.Value.{Value}
use Rattle.js_values.specs.declared.value.Value.TheVariants as value
use Rattle.js_core.specs.Tree as tree
use Rattle.js_core.specs.Tree.{var, function, expr, empty, block, if_else, do_while, while, for, for_in, continue, break, return, throw, try, switch, no_expr, one_expr, no_stmts, then_stmt, no_body, one_body, no_declarators, then_declarator, no_init, init_var, init_expr, no_catch, one_catch, no_cases, then_case}
use Rattle.whole_ops.specs.Equality.{same_of}
use Rattle.page_meaning.specs.declared.signal.Signal.{Signal}
use Rattle.page_meaning.specs.declared.signal.Signal.TheVariants.{Value as Val, Thrown, Return, Break, Continue}
use Rattle.page_meaning.specs.Act.{Act, Calls, ret, bind, give, done, nothing, also, asking, choose, ◌>>=◌}
use Rattle.whole_ops.specs.Conversions.{is_true}
use Rattle.page_meaning.specs.Expressions.{eval, assign_to}
use Rattle.page_meaning.specs.Loops.{turn, loop, listed_of, each_name}
use Rattle.page_meaning.specs.Names.{Here, in_scope, resolve, write}
use Rattle.page_meaning.specs.Primitives.{make_environment}

-- a finally that ends by itself gives back the end that it holds (12.14)
abbrev pub last_signal : Signal → Signal → Signal
last_signal kept (Val v) = kept
last_signal kept s = s

-- `break` ends a switch
abbrev pub unbroken : Signal → Signal
unbroken Break = nothing
unbroken s = s

abbrev pub eval_maybe : Calls → Here → tree.MaybeExpr → Value → Act
eval_maybe calls here no_expr v = give v
eval_maybe calls here (one_expr e) v = eval calls here e

-- a declared name with its initialiser (12.2)
abbrev pub declared_as : Calls → Here → List ℕ → tree.MaybeExpr → Act
declared_as calls here x no_expr = done
declared_as calls here x (one_expr e) = bind (resolve here x) (λ r. also (eval calls here e) (write x r))

abbrev pub exec_declarators : Calls → Here → tree.Declarators → Act
exec_declarators calls here no_declarators = done
exec_declarators calls here (then_declarator x e ds) = also (declared_as calls here x e) (λ _. exec_declarators calls here ds)

abbrev pub exec_init : Calls → Here → tree.ForInit → Act
exec_init calls here no_init = done
exec_init calls here (init_var ds) = exec_declarators calls here ds
exec_init calls here (init_expr e) = eval calls here e

abbrev mutual
  pub exec : Calls → Here → tree.Stmt → Act
  exec calls here (var ds) = exec_declarators calls here ds
  exec calls here (function c) = done
  exec calls here (expr e) = also (eval calls here e) (λ _. done)
  exec calls here empty = done
  exec calls here (block ss) = exec_all calls here ss
  exec calls here (if_else e a b) = also (eval calls here e) (λ v. choose (is_true v) (exec_all calls here a) (exec_body calls here b))
  exec calls here (do_while body e) =
      turn (exec_all calls here body) (loop (eval calls here e) (exec_all calls here body) (done))
  exec calls here (while e body) = loop (eval calls here e) (exec_all calls here body) (done)
  exec calls here (for i t last body) = do
    _ ← exec_init calls here i
    loop (eval_maybe calls here t (value.Bool true)) (exec_all calls here body) (eval_maybe calls here last value.Undefined)
  exec calls here (for_in declared t e body) = do
    v ← eval calls here e
    asking (λ s. listed_of s v) (each_name (assign_to calls here t) (exec_all calls here body))
  exec calls here continue = ret Continue
  exec calls here break = ret Break
  exec calls here (return e) = also (eval_maybe calls here e value.Undefined) (λ v. ret (Return v))
  exec calls here (throw e) = also (eval calls here e) (λ v. ret (Thrown v))
  exec calls here (try b c l) = bind (exec_all calls here b) (λ s. bind (exec_catch calls here c s) (exec_last calls here l))
  exec calls here (switch e cs) = do
    v ← eval calls here e
    bind (exec_cases calls here cs v (done)) (λ s. ret (unbroken s))

  pub exec_all : Calls → Here → tree.Stmts → Act
  exec_all calls here no_stmts = done
  exec_all calls here (then_stmt s ss) = also (exec calls here s) (λ _. exec_all calls here ss)

  pub exec_body : Calls → Here → tree.MaybeStmts → Act
  exec_body calls here no_body = done
  exec_body calls here (one_body ss) = exec_all calls here ss

  pub exec_catch : Calls → Here → tree.MaybeCatch → Signal → Act
  exec_catch calls here (one_catch x ss) (Thrown v) =
      bind (make_environment here.env ((x, v) ∷ [])) (λ e. exec_all calls (in_scope here e) ss)
  exec_catch calls here c s = ret s

  pub exec_last : Calls → Here → tree.MaybeStmts → Signal → Act
  exec_last calls here no_body s = ret s
  exec_last calls here (one_body ss) s = bind (exec_all calls here ss) (λ s'. ret (last_signal s s'))

  -- the statements of these cases, one after another
  pub exec_through : Calls → Here → tree.Cases → Act
  exec_through calls here no_cases = done
  exec_through calls here (then_case e ss cs) = also (exec_all calls here ss) (λ _. exec_through calls here cs)

  -- from the first case whose expression is the same, or else from `default`, which may have been passed
  pub exec_cases : Calls → Here → tree.Cases → Value → Act → Act
  exec_cases calls here no_cases v default = default
  exec_cases calls here (then_case no_expr ss cs) v default =
      exec_cases calls here cs v (also (exec_all calls here ss) (λ _. exec_through calls here cs))
  exec_cases calls here (then_case (one_expr e) ss cs) v default = do
    w ← eval calls here e
    choose (same_of v w) (also (exec_all calls here ss) (λ _. exec_through calls here cs)) (exec_cases calls here cs v default)
