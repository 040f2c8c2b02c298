-- How a node begins, by its kind.
use Rattle.std.specs.Prelude.{◌≡◌, ℕ, Bool, List, [], Option, Some, None}
use Rattle.code_table.specs.Kind.{kind_of}
use Rattle.code_table.specs.Node.{Node}
use Rattle.code_table.specs.declared.kind.Kind.{Kind}
use Rattle.code_table.specs.declared.kind.Kind.TheVariants as kind
use Rattle.js_core.specs.declared.operators.BinaryOp.{BinaryOp}
use Rattle.js_values.specs.declared.value.Value.TheVariants as value
use Rattle.page_meaning.specs.declared.signal.Signal.TheVariants as signal
use Rattle.page_meaning.specs.Act.{Act, Calls, ret, bind, give, done, also}
use Rattle.page_meaning.specs.Expressions.{new_list, new_plain}
use Rattle.page_meaning.specs.Functions.{close_over}
use Rattle.page_meaning.specs.Loops.{turn}
use Rattle.page_meaning.specs.Names.{Here, resolve, read, read_name, write, type_of_name}
use Rattle.page_meaning.specs.Operators.{update_with}
use Rattle.page_meaning.specs.Store.{Store}
use Rattle.page_frames.specs.Parts.{mean_node, part}
use Rattle.page_frames.specs.Rest.{rest_name, rest_signal, rest_value}
use Rattle.page_frames.specs.RestExpressions.{each_from}
use Rattle.page_frames.specs.RestLiterals.{elements_from, fields_from}
use Rattle.page_frames.specs.RestLoops.{while_loop, do_loop}
use Rattle.page_frames.specs.RestStatements.{declarators_from, stmts_from}

-- its first part
abbrev pub first_part : Calls → Here → Option Node → Kind → Act
first_part calls here at q = also (part calls here at 0) (rest_value calls here at q 0 [])

abbrev pub first_of : Calls → Here → Option Node → Kind → ℕ → Act
first_of calls here at q k = bind (part calls here at k) (rest_signal calls here at q k None)

abbrev pub start_update : Calls → Here → Bool → Bool → List ℕ → Act
start_update calls here up prefix x = bind (resolve here x) (λ r. also (read x r) (update_with calls up prefix (write x r)))

-- a name is resolved before its right side is evaluated, and read where there is an operator
abbrev pub start_name : Calls → Here → Option Node → Option BinaryOp → List ℕ → Act
start_name calls here at None x = bind (resolve here x) (λ r. also (part calls here at 0) (rest_name calls (kind.AssignName None x) r None))
start_name calls here at (Some op) x =
    bind (resolve here x) (λ r. also (read x r) (λ old. also (part calls here at 0) (rest_name calls (kind.AssignName (Some op) x) r (Some old))))

abbrev pub start_declarator : Calls → Here → Option Node → List ℕ → Act
start_declarator calls here at x = bind (resolve here x) (λ r. also (part calls here at 0) (rest_name calls (kind.Declarator x) r None))

abbrev pub start_of : Calls → Here → Option Node → Kind → Act
start_of calls here at kind.Nothing = done
start_of calls here at (kind.Name x) = read_name here x
start_of calls here at (kind.Num n) = give (value.Num n)
start_of calls here at (kind.Text t) = give (value.Text t)
start_of calls here at (kind.Bool b) = give (value.Bool b)
start_of calls here at kind.Null = give value.Null
start_of calls here at kind.This = give here.this
start_of calls here at kind.List = bind new_list (λ a. elements_from calls here at a 0)
start_of calls here at (kind.Literal xs) = bind new_plain (λ o. fields_from calls here at o 0)
start_of calls here at (kind.Func c) = close_over c here.env
start_of calls here at (kind.TypeofName x) = type_of_name here x
start_of calls here at (kind.UpdateName up prefix x) = start_update calls here up prefix x
start_of calls here at (kind.AssignName op x) = start_name calls here at op x
start_of calls here at kind.Comma = each_from calls here at 0 value.Undefined
start_of calls here at kind.Var = declarators_from calls here at 0
start_of calls here at (kind.Declarator x) = start_declarator calls here at x
start_of calls here at kind.Empty = done
start_of calls here at kind.Discard = first_of calls here at kind.Discard 0
start_of calls here at kind.Block = stmts_from calls here at 0
start_of calls here at kind.If = first_of calls here at kind.If 0
start_of calls here at kind.Do = turn (part calls here at 0) (do_loop calls here at)
start_of calls here at kind.While = while_loop calls here at
start_of calls here at kind.For = first_of calls here at kind.For 0
start_of calls here at kind.ForIn = first_of calls here at kind.ForIn 1
start_of calls here at kind.Continue = ret signal.Continue
start_of calls here at kind.Break = ret signal.Break
start_of calls here at kind.Return = first_of calls here at kind.Return 0
start_of calls here at kind.Throw = first_of calls here at kind.Throw 0
start_of calls here at (kind.Try x) = first_of calls here at (kind.Try x) 0
start_of calls here at kind.Switch = first_of calls here at kind.Switch 0
start_of calls here at q = first_part calls here at q

-- the kind of a node says how it begins
abbrev pub BeginsByKind : Type 0
BeginsByKind =
    (calls : Calls) (here : Here) (at : Option Node) (w : Store) (n : ℕ) → (mean_node calls here at).run w n ≡ (start_of calls here at (kind_of at)).run w n
