-- What an expression that names a property has yet to do (sections 11.2.1, 11.3, 11.4.1 and 11.13): first its base, then its key, then, for an
-- assignment, its right side.
use Rattle.std.specs.Prelude.{ℕ, Bool, List, [], ◌∷◌, Option, Some, None}
use Rattle.code_table.specs.Node.{Node}
use Rattle.js_core.specs.declared.operators.BinaryOp.{BinaryOp}
use Rattle.js_values.specs.declared.value.Value.{Value}
use Rattle.page_meaning.specs.Act.{Act, Calls, done, also}
use Rattle.page_meaning.specs.Convert.{text_in}
use Rattle.page_meaning.specs.Expressions.{assigned}
use Rattle.page_meaning.specs.Names.{Here}
use Rattle.page_meaning.specs.Operators.{operate, update_with}
use Rattle.page_meaning.specs.Properties.{get_member, get_index, with_properties, key_of, read_property, delete_member}
use Rattle.page_meaning.specs.HostPuts.{put_member}
use Rattle.page_frames.specs.Parts.{part}

abbrev pub rest_index : Calls → Here → Option Node → List Value → Value → Act
rest_index calls here at [] base = also (part calls here at 1) (get_index calls base)
rest_index calls here at (base ∷ more) key = get_index calls base key

abbrev pub rest_delete_member : List ℕ → Value → Act
rest_delete_member x base = also (with_properties base) (λ o. delete_member o x)

abbrev pub delete_index : Calls → Value → Value → Act
delete_index calls base key = also (key_of calls base key) (λ k. delete_member base (text_in k))

abbrev pub rest_delete_index : Calls → Here → Option Node → List Value → Value → Act
rest_delete_index calls here at [] base = also (part calls here at 1) (delete_index calls base)
rest_delete_index calls here at (base ∷ more) key = delete_index calls base key

abbrev pub rest_update_member : Calls → Bool → Bool → List ℕ → Value → Act
rest_update_member calls up prefix x base = also (get_member base x) (update_with calls up prefix (put_member calls base x))

abbrev pub update_index : Calls → Bool → Bool → Value → Value → Act
update_index calls up prefix base key =
    also (key_of calls base key) (λ k. also (read_property base (text_in k)) (update_with calls up prefix (put_member calls base (text_in k))))

abbrev pub rest_update_index : Calls → Here → Option Node → Bool → Bool → List Value → Value → Act
rest_update_index calls here at up prefix [] base = also (part calls here at 1) (update_index calls up prefix base)
rest_update_index calls here at up prefix (base ∷ more) key = update_index calls up prefix base key

-- the right side of an assignment to a property, with the value that it had where there is an operator
abbrev pub put_right : Calls → Option BinaryOp → Value → List ℕ → List Value → Value → Act
put_right calls None base x olds v = assigned (put_member calls base x) v
put_right calls (Some op) base x (old ∷ more) w = also (operate calls op old w) (assigned (put_member calls base x))
put_right calls (Some op) base x [] w = done

-- once the name is known, an assignment with an operator reads the property first
abbrev pub then_right : Calls → Here → Option Node → Option BinaryOp → ℕ → Value → List ℕ → Act
then_right calls here at None k base x = also (part calls here at k) (put_right calls None base x [])
then_right calls here at (Some op) k base x =
    also (read_property base x) (λ old. also (part calls here at k) (put_right calls (Some op) base x (old ∷ [])))

abbrev pub rest_assign_member : Calls → Here → Option Node → Option BinaryOp → List ℕ → List Value → Value → Act
rest_assign_member calls here at None x [] base = also (with_properties base) (λ o. also (part calls here at 1) (put_right calls None o x []))
rest_assign_member calls here at (Some op) x [] base =
    also (get_member base x) (λ old. also (part calls here at 1) (put_right calls (Some op) base x (old ∷ [])))
rest_assign_member calls here at op x (base ∷ olds) v = put_right calls op base x olds v

abbrev pub then_key : Calls → Here → Option Node → Option BinaryOp → Value → Value → Act
then_key calls here at op base key = also (key_of calls base key) (λ k. then_right calls here at op 2 base (text_in k))

abbrev pub rest_assign_index : Calls → Here → Option Node → Option BinaryOp → List Value → Value → Act
rest_assign_index calls here at op [] base = also (part calls here at 1) (then_key calls here at op base)
rest_assign_index calls here at op (base ∷ []) key = then_key calls here at op base key
rest_assign_index calls here at op (base ∷ k ∷ olds) v = put_right calls op base (text_in k) olds v

-- the target of a for-in takes the value (12.6.4)
abbrev pub put_target : Calls → Value → Value → Value → Act
put_target calls value base key = also (key_of calls base key) (λ k. put_member calls base (text_in k) value)

abbrev pub rest_target_member : Calls → List ℕ → Value → Value → Act
rest_target_member calls x value base = also (with_properties base) (λ o. put_member calls o x value)

abbrev pub rest_target_index : Calls → Here → Option Node → Value → Option Value → Value → Act
rest_target_index calls here at value None base = also (part calls here at 1) (put_target calls value base)
rest_target_index calls here at value (Some base) key = put_target calls value base key
