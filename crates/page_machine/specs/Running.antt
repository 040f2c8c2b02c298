-- Tasks as the machine holds them, and the parts of which they are made.
use Rattle.code_table.specs.Declarations.{functions_of, variables_of}
use Rattle.code_table.specs.Node.{body_of}
use Rattle.js_core.specs.Tree as tree
use Rattle.page_machine.specs.declared.tasks.Task.{Task}
use Rattle.page_machine.specs.declared.tasks.Task.TheVariants as task
use Rattle.page_meaning.specs.Act.{Act, Calls, also, bind, ret}
use Rattle.page_meaning.specs.Functions.{call_end, declare_globals, global_variables}
use Rattle.page_meaning.specs.Statements.{exec_all}
use Rattle.page_meaning.specs.Tasks as meaning

-- the task that is run: of a script its statements count
abbrev pub task_of : Task → meaning.Task
task_of (task.Script c) = meaning.Script (body_of c)
task_of (task.Name x) = meaning.Name x
task_of (task.Fires x bubbles cancelable k) = meaning.Fires x bubbles cancelable k
task_of (task.Passes n) = meaning.Passes n

-- what a script declares (10.5)
abbrev pub declared : tree.Stmts → Act
declared body = also (declare_globals (functions_of body)) (λ _. global_variables (variables_of body))

-- its statements at the top of the page
abbrev pub top_body : Calls → tree.Stmts → Act
top_body calls body = bind (exec_all calls meaning.top body) (λ s. ret (call_end s))
