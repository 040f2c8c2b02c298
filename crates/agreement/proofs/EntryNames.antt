-- What a function binds when it is entered, name by name, as its body stands and as it is opened (section 10.5).
use Rattle.std.proofs.Common.{◌≡◌, refl, sym, ap, ◌∙◌, ℕ, Bool, true, false, ◌||◌, cond, List, [], ◌∷◌, ◌++◌, Option, Some, None, is_some, bytes_eq, if◌then◌else◌}
use Rattle.std.proofs.lemmas.Slice.Eq.{bytes_eq-Decides}
use Rattle.code_table.specs.Declarations.{functions_of, variables_of}
use Rattle.js_core.specs.Tree as tree
use Rattle.js_values.specs.declared.value.Value.{Value}
use Rattle.js_values.specs.declared.value.Value.TheVariants.{Undefined}
use Rattle.object_heap.specs.Environment.{Bound, value_of}
use Rattle.page_meaning.specs.Functions.{entry_names, function_names, with_arguments, with_names}
use Rattle.scope_analysis.specs.Names.{declared_names, is_among}
use Rattle.heap_relations.proofs.Callers as heap
use Rattle.heap_relations.specs.Naming.{World, named}
use Rattle.heap_relations.specs.Related.{Each, Maybe, ValueRel, none, some, undefined}
use Rattle.agreement.proofs.Declared.{functions_declared, stmts_declared}
use Rattle.agreement.proofs.Entries.{arguments_rel}
use Rattle.agreement.specs.Opened.{is_bound}

-- the value, or undefined where the name is declared
abbrev pub first_some : Option Value → Bool → Option Value
first_some (Some v) b = Some v
first_some None b = if b then Some Undefined else None

first_more : (o : Option Value) (c b : Bool) → first_some (first_some o c) b ≡ first_some o (c || b)
first_more (Some v) c b = refl
first_more None true b = refl
first_more None false b = refl

one_more_value : (b : Bound) (x y : List ℕ) → value_of (if is_some (value_of b y) then b else b ++ (y, Undefined) ∷ []) x ≡ first_some (value_of b x) (bytes_eq x y)
one_more_value b x y = by_case (value_of b y) refl
  where
    last : (c : Bound) → value_of (c ++ (y, Undefined) ∷ []) x ≡ first_some (value_of c x) (bytes_eq x y)
    last [] = as_if (bytes_eq x y)
      where
        as_if : (t : Bool) → cond t (Some Undefined) None ≡ (if t then Some Undefined else None)
        as_if true = refl
        as_if false = refl
    last (e ∷ c) = at_first (bytes_eq x e.0) (last c)
      where
        at_first : (t : Bool) → value_of (c ++ (y, Undefined) ∷ []) x ≡ first_some (value_of c x) (bytes_eq x y)
            → cond t (Some e.1) (value_of (c ++ (y, Undefined) ∷ []) x) ≡ first_some (cond t (Some e.1) (value_of c x)) (bytes_eq x y)
        at_first true h = refl
        at_first false h = h

    there : {v : Value} → value_of b y ≡ Some v → (t : Bool) → bytes_eq x y ≡ t → value_of b x ≡ first_some (value_of b x) t
    there e true q = rw (ap (value_of b) ((bytes_eq-Decides x y).0 q) ∙ e) refl
    there e false q = kept (value_of b x)
      where
        kept : (o : Option Value) → o ≡ first_some o false
        kept None = refl
        kept (Some v) = refl

    by_case : (o : Option Value) → value_of b y ≡ o → value_of (if is_some o then b else b ++ (y, Undefined) ∷ []) x ≡ first_some (value_of b x) (bytes_eq x y)
    by_case None e = last b
    by_case (Some v) e = there e (bytes_eq x y) refl

names_value : (b : Bound) (xs : List (List ℕ)) (x : List ℕ) → value_of (with_names b xs) x ≡ first_some (value_of b x) (is_among x xs)
names_value b [] x = none_more (value_of b x)
  where
    none_more : (o : Option Value) → o ≡ first_some o false
    none_more None = refl
    none_more (Some v) = refl
names_value b (y ∷ ys) x =
    names_value (if is_some (value_of b y) then b else b ++ (y, Undefined) ∷ []) ys x
    ∙ ap (λ o. first_some o (is_among x ys)) (one_more_value b x y)
    ∙ first_more (value_of b x) (bytes_eq x y) (is_among x ys)

-- a formal's argument, or undefined
pub entry_value : (formals : List (List ℕ)) (body : tree.Stmts) (vs : List Value) (x : List ℕ)
    → value_of (entry_names formals body vs) x ≡ first_some (value_of (with_arguments formals vs) x) (is_among x (function_names (functions_of body)) || is_among x (variables_of body))
entry_value formals body vs x =
    names_value (with_names (with_arguments formals vs) (function_names (functions_of body))) (variables_of body) x
    ∙ ap (λ o. first_some o (is_among x (variables_of body))) (names_value (with_arguments formals vs) (function_names (functions_of body)) x)
    ∙ first_more (value_of (with_arguments formals vs) x) (is_among x (function_names (functions_of body))) (is_among x (variables_of body))

-- ---- formals

pub arguments_bind : (formals : List (List ℕ)) (vs : List Value) (x : List ℕ) → is_some (value_of (with_arguments formals vs) x) ≡ is_among x formals
arguments_bind [] vs x = refl
arguments_bind (y ∷ ys) [] x = by_case (bytes_eq x y) (arguments_bind ys [] x)
  where
    by_case : (t : Bool) → is_some (value_of (with_arguments ys []) x) ≡ is_among x ys → is_some (cond t (Some Undefined) (value_of (with_arguments ys []) x)) ≡ (t || is_among x ys)
    by_case true h = refl
    by_case false h = h
arguments_bind (y ∷ ys) (v ∷ vs) x = by_case (bytes_eq x y) (arguments_bind ys vs x)
  where
    by_case : (t : Bool) → is_some (value_of (with_arguments ys vs) x) ≡ is_among x ys → is_some (cond t (Some v) (value_of (with_arguments ys vs) x)) ≡ (t || is_among x ys)
    by_case true h = refl
    by_case false h = h

pub argument_rel : {V : World} (formals : List (List ℕ)) (vs ws : List Value) (x : List ℕ) → Each (ValueRel (named V)) vs ws
    → Maybe (ValueRel (named V)) (value_of (with_arguments formals vs) x) (value_of (with_arguments formals ws) x)
argument_rel formals vs ws x h = heap.entry_found (bytes_eq x) (arguments_rel undefined formals vs ws h)

pub first_rel : {V : World} {o p : Option Value} (a b : Bool) → a ≡ b → Maybe (ValueRel (named V)) o p → Maybe (ValueRel (named V)) (first_some o a) (first_some p b)
first_rel a b e (some r) = some r
first_rel true true e none = some undefined
first_rel false false e none = none
first_rel true false e none = absurd (cc e)
first_rel false true e none = absurd (cc e)

-- ---- what is bound is declared

first_is : (o : Option Value) (b : Bool) → is_some (first_some o b) ≡ true → (is_some o ≡ false) → b ≡ true
first_is (Some v) b h e = absurd (cc e)
first_is None true h e = refl
first_is None false h e = absurd (cc h)

pub bound_declared : (formals : List (List ℕ)) (body : tree.Stmts) (x : List ℕ) → is_bound formals body x ≡ true → (is_among x formals || is_among x (declared_names body)) ≡ true
bound_declared formals body x h = by_case (is_among x formals) refl
  where
    by_case : (b : Bool) → is_among x formals ≡ b → (b || is_among x (declared_names body)) ≡ true
    by_case true e = refl
    by_case false e = either (is_among x (function_names (functions_of body))) refl (is_among x (variables_of body)) refl
        (first_is (value_of (with_arguments formals []) x) (is_among x (function_names (functions_of body)) || is_among x (variables_of body))
        (ap is_some (sym (entry_value formals body [] x)) ∙ h) (arguments_bind formals [] x ∙ e))
      where
        either : (p : Bool) → is_among x (function_names (functions_of body)) ≡ p → (q : Bool) → is_among x (variables_of body) ≡ q
            → (is_among x (function_names (functions_of body)) || is_among x (variables_of body)) ≡ true → is_among x (declared_names body) ≡ true
        either true a q b k = functions_declared x body a
        either false a true b k = stmts_declared x body b
        either false a false b k = let wrong : (false || false) ≡ true = (λ i. sym a i || sym b i) ∙ k in absurd (cc wrong)

-- and a formal is bound
pub formal_bound : (formals : List (List ℕ)) (body : tree.Stmts) (x : List ℕ) → is_among x formals ≡ true → is_bound formals body x ≡ true
formal_bound formals body x h = ap is_some (entry_value formals body [] x) ∙ by_case (value_of (with_arguments formals []) x) (arguments_bind formals [] x ∙ h)
  where
    by_case : (o : Option Value) → is_some o ≡ true → is_some (first_some o (is_among x (function_names (functions_of body)) || is_among x (variables_of body))) ≡ true
    by_case (Some v) e = refl
    by_case None e = absurd (cc e)

-- and a declared function
pub function_bound : (formals : List (List ℕ)) (body : tree.Stmts) (x : List ℕ) → is_among x (function_names (functions_of body)) ≡ true → is_bound formals body x ≡ true
function_bound formals body x h =
    ap is_some (entry_value formals body [] x ∙ ap (λ b. first_some (value_of (with_arguments formals []) x) (b || is_among x (variables_of body))) h) ∙ by_case (value_of (with_arguments formals []) x)
  where
    by_case : (o : Option Value) → is_some (first_some o true) ≡ true
    by_case (Some v) = refl
    by_case None = refl
