-- Meaning: the value of an expression (section 11).
use Rattle.std.specs.Prelude.{refl, ℕ, suc, List, [], ◌∷◌, ◌++◌, Some, None}
use Rattle.std.specs.Fmt.{decimal}
use Rattle.js_core.specs.declared.operators.UnaryOp.TheVariants.{Delete, Typeof}
use Rattle.js_core.specs.Tree as tree
use Rattle.js_core.specs.Tree.{name, num, text, bool, null, this, list, literal, func, member, index, call, construct, unary, update, binary, logical_and, logical_or, conditional, assign, comma, no_exprs, then_expr, no_expr, one_expr, no_holes, then_hole, no_fields, then_field}
use Rattle.js_values.specs.declared.ids.ObjId.{ObjId}
use Rattle.js_values.specs.declared.value.Value.{Value}
use Rattle.js_values.specs.declared.value.Value.TheVariants as value
use Rattle.object_heap.specs.declared.object.Class.TheVariants.{Plain, List as Array}
use Rattle.object_heap.specs.Define.{length_name, number}
use Rattle.object_heap.specs.Heap.{new_object}
use Rattle.page_meaning.specs.Act.{Act, ActOf, Calls, bind, give, also, choose, ◌>>=◌}
use Rattle.page_meaning.specs.Convert.{text_in}
use Rattle.whole_ops.specs.Conversions.{is_true}
use Rattle.page_meaning.specs.Functions.{close_over}
use Rattle.page_meaning.specs.Names.{Here, resolve, read, read_name, write, assign_name, type_of_name}
use Rattle.page_meaning.specs.Operators.{operate, operate_one, update_with}
use Rattle.page_meaning.specs.HostPuts.{put_member}
use Rattle.page_meaning.specs.Places.{array_prototype, object_prototype}
use Rattle.page_meaning.specs.Primitives.{make}
use Rattle.page_meaning.specs.Properties.{with_properties, key_of, read_property, get_member, get_index, put_in, delete_member, define_member}
use Rattle.object_heap.proofs.Callers.{new_fit}

abbrev pub new_plain : ActOf ObjId
new_plain = make (new_object Plain (Some object_prototype)) (new_fit Plain (Some object_prototype)) refl

abbrev pub new_list : ActOf ObjId
new_list = make (new_object Array (Some array_prototype)) (new_fit Array (Some array_prototype)) refl

-- the value of an assignment is what was assigned, also where an array's length became another number
abbrev pub assigned : (Value → Act) → Value → Act
assigned put v = also (put v) (λ _. give v)

-- an array or object literal is older than all that its parts make: its age is the order in which things are saved
abbrev mutual
  pub eval : Calls → Here → tree.Expr → Act
  eval calls here (name x) = read_name here x
  eval calls here (num n) = give (value.Num n)
  eval calls here (text t) = give (value.Text t)
  eval calls here (bool b) = give (value.Bool b)
  eval calls here null = give value.Null
  eval calls here this = give here.this
  eval calls here (list hs) = bind new_list (λ a. eval_holes calls here hs a 0)
  eval calls here (literal fs) = bind new_plain (λ o. eval_fields calls here fs o)
  eval calls here (func c) = close_over c here.env
  eval calls here (member e x) = also (eval calls here e) (λ base. get_member base x)
  eval calls here (index a b) = do
    base ← eval calls here a
    key ← eval calls here b
    get_index calls base key
  eval calls here (call (member e x) es) = do
    base ← eval calls here e
    f ← get_member base x
    eval_args calls here es [] (calls.call f base)
  eval calls here (call (index a b) es) = do
    base ← eval calls here a
    key ← eval calls here b
    f ← get_index calls base key
    eval_args calls here es [] (calls.call f base)
  eval calls here (call e es) = also (eval calls here e) (λ f. eval_args calls here es [] (calls.call f value.Undefined))
  eval calls here (construct e es) = also (eval calls here e) (λ f. eval_args calls here es [] (calls.construct f))
  eval calls here (unary Delete (member e x)) = do
    base ← eval calls here e
    o ← with_properties base
    delete_member o x
  eval calls here (unary Delete (index a b)) = do
    base ← eval calls here a
    key ← eval calls here b
    k ← key_of calls base key
    delete_member base (text_in k)
  eval calls here (unary Typeof (name x)) = type_of_name here x
  eval calls here (unary op e) = also (eval calls here e) (operate_one calls op)
  eval calls here (update up prefix (name x)) =
      bind (resolve here x) (λ r. also (read x r) (update_with calls up prefix (write x r)))
  eval calls here (update up prefix (member e x)) = do
    base ← eval calls here e
    old ← get_member base x
    update_with calls up prefix (put_member calls base x) old
  eval calls here (update up prefix (index a b)) = do
    base ← eval calls here a
    key ← eval calls here b
    k ← key_of calls base key
    old ← read_property base (text_in k)
    update_with calls up prefix (put_member calls base (text_in k)) old
  eval calls here (update up prefix e) = give value.Undefined
  eval calls here (binary op a b) = do
    v ← eval calls here a
    w ← eval calls here b
    operate calls op v w
  eval calls here (logical_and a b) = also (eval calls here a) (λ v. choose (is_true v) (eval calls here b) (give v))
  eval calls here (logical_or a b) = also (eval calls here a) (λ v. choose (is_true v) (give v) (eval calls here b))
  eval calls here (conditional a b c) = also (eval calls here a) (λ v. choose (is_true v) (eval calls here b) (eval calls here c))
  eval calls here (assign None (name x) e) = bind (resolve here x) (λ r. also (eval calls here e) (assigned (write x r)))
  eval calls here (assign None (member e x) b) = do
    base ← eval calls here e
    o ← with_properties base
    v ← eval calls here b
    assigned (put_member calls o x) v
  eval calls here (assign None (index a b) c) = do
    base ← eval calls here a
    key ← eval calls here b
    k ← key_of calls base key
    v ← eval calls here c
    assigned (put_member calls base (text_in k)) v
  eval calls here (assign (Some op) (name x) e) = bind (resolve here x) (λ r. do
    old ← read x r
    w ← eval calls here e
    v ← operate calls op old w
    assigned (write x r) v)
  eval calls here (assign (Some op) (member e x) b) = do
    base ← eval calls here e
    old ← get_member base x
    w ← eval calls here b
    v ← operate calls op old w
    assigned (put_member calls base x) v
  eval calls here (assign (Some op) (index a b) c) = do
    base ← eval calls here a
    key ← eval calls here b
    k ← key_of calls base key
    old ← read_property base (text_in k)
    w ← eval calls here c
    v ← operate calls op old w
    assigned (put_member calls base (text_in k)) v
  eval calls here (assign op e b) = give value.Undefined
  eval calls here (comma es) = eval_each calls here es value.Undefined

  -- the arguments, from the left (11.2.4), and what is done with them
  pub eval_args : Calls → Here → tree.Exprs → List Value → (List Value → Act) → Act
  eval_args calls here no_exprs got f = f got
  eval_args calls here (then_expr e es) got f = also (eval calls here e) (λ v. eval_args calls here es (got ++ v ∷ []) f)

  -- the parts of a comma expression, and the value of the last (11.14)
  pub eval_each : Calls → Here → tree.Exprs → Value → Act
  eval_each calls here no_exprs v = give v
  eval_each calls here (then_expr e es) v = also (eval calls here e) (eval_each calls here es)

  -- the elements of an array literal from the kth on (11.1.4)
  pub eval_holes : Calls → Here → tree.Holes → ObjId → ℕ → Act
  eval_holes calls here no_holes a k = also (put_in a length_name (number k)) (λ _. give (value.Object a))
  eval_holes calls here (then_hole no_expr hs) a k = eval_holes calls here hs a (suc k)
  eval_holes calls here (then_hole (one_expr e) hs) a k = do
    v ← eval calls here e
    _ ← define_member a (decimal k) v
    eval_holes calls here hs a (suc k)

  -- the fields of an object literal (11.1.5)
  pub eval_fields : Calls → Here → tree.Fields → ObjId → Act
  eval_fields calls here no_fields o = give (value.Object o)
  eval_fields calls here (then_field x e fs) o = do
    v ← eval calls here e
    _ ← define_member o x v
    eval_fields calls here fs o

-- the target of a for-in takes a value; it is evaluated anew for each
abbrev pub assign_to : Calls → Here → tree.Expr → Value → Act
assign_to calls here (name x) v = assign_name here x v
assign_to calls here (member e x) v = do
  base ← eval calls here e
  o ← with_properties base
  put_member calls o x v
assign_to calls here (index a b) v = do
  base ← eval calls here a
  key ← eval calls here b
  k ← key_of calls base key
  put_member calls base (text_in k) v
assign_to calls here e v = give v
