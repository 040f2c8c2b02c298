-- What an array or object literal that waits for a part has yet to do (sections 11.1.4 and 11.1.5). It holds the object that it fills.
use Rattle.std.specs.Prelude.{ℕ, zero, suc, List, [], ◌∷◌, Option, Some}
use Rattle.std.specs.Fmt.{decimal}
use Rattle.code_table.specs.Node.{Node, expr_node}
use Rattle.js_core.specs.Tree.{list, literal}
use Rattle.js_values.specs.declared.ids.ObjId.{ObjId}
use Rattle.js_values.specs.declared.value.Value.{Value}
use Rattle.js_values.specs.declared.value.Value.TheVariants.{Object}
use Rattle.page_meaning.specs.Act.{Act, Calls, done, also}
use Rattle.page_meaning.specs.Expressions.{eval_holes, eval_fields}
use Rattle.page_meaning.specs.Names.{Here}
use Rattle.page_meaning.specs.Places.{at_place}
use Rattle.page_meaning.specs.Properties.{define_member}
use Rattle.page_frames.specs.Parts.{drop_holes, drop_fields}

-- the object that is held
abbrev pub object_in : Value → ObjId
object_in (Object at) = at
object_in v = at_place 0

-- the elements from the kth on
abbrev pub elements_from : Calls → Here → Option Node → ObjId → ℕ → Act
elements_from calls here (Some (expr_node (list hs))) a k = eval_holes calls here (drop_holes hs k) a k
elements_from calls here at a k = done

abbrev pub rest_list : Calls → Here → Option Node → ℕ → List Value → Value → Act
rest_list calls here at turn [] v = done
rest_list calls here at turn (a ∷ more) v =
    also (define_member (object_in a) (decimal turn) v) (λ _. elements_from calls here at (object_in a) (suc turn))

-- the fields from the kth on
abbrev pub fields_from : Calls → Here → Option Node → ObjId → ℕ → Act
fields_from calls here (Some (expr_node (literal fs))) o k = eval_fields calls here (drop_fields fs k) o
fields_from calls here at o k = done

-- the kth name
abbrev pub name_at : List (List ℕ) → ℕ → List ℕ
name_at [] k = []
name_at (x ∷ xs) zero = x
name_at (x ∷ xs) (suc k) = name_at xs k

abbrev pub rest_literal : Calls → Here → Option Node → List (List ℕ) → ℕ → List Value → Value → Act
rest_literal calls here at names turn [] v = done
rest_literal calls here at names turn (o ∷ more) v =
    also (define_member (object_in o) (name_at names turn) v) (λ _. fields_from calls here at (object_in o) (suc turn))
