-- What is kept of a scope says of names what the scope does.
use Rattle.std.proofs.Common.{◌≡◌, ℕ, Bool, true, false, List, [], ◌∷◌, ◌++◌, ◌∙◌, Option, Some, None, Result, Ok, Err, IfOk, bytes_eq, filter, map, if◌then◌else◌, ap, refl}
use Rattle.indexmap.specs.IndexSet.{contains, insert_all}
use Rattle.js_core.specs.Tree as tree
use Rattle.js_core.specs.Tree.{code, fields_of, name, then_field}
use Rattle.js_core.specs.declared.memory.OutOfMemory.{OutOfMemory}
use Rattle.scope_analysis.specs.Names.{bound_names, declared_names, is_among, maybe_name}
use Rattle.scope_analysis.specs.Uses.{is_captured, stmts_uses}
use Rattle.instrumenter.specs.declared.levels.Level.{Level}
use Rattle.instrumenter.specs.Around.{field_inside, first_value, in_clause, in_function, literal_fields, void_zero}
use Rattle.instrumenter.specs.Fields.{fields_in}
use Rattle.instrumenter.specs.Levels.{around_of, field_of, is_own}

fun_ext : {A B : Type 0} {f g : A → B} → ((x : A) → f x ≡ g x) → f ≡ g
fun_ext h = λ i x. h x i

same_fields : (l : Level) (n : ℕ) (fields names : List (List ℕ)) (outer : List ℕ → Option ℕ) → l.number ≡ n
    → ((x : List ℕ) → contains bytes_eq l.fields x ≡ is_among x fields) → ((x : List ℕ) → contains bytes_eq l.names x ≡ is_among x names)
    → (λ (x : List ℕ). if contains bytes_eq l.fields x then Some l.number else (if contains bytes_eq l.names x then None else outer x))
    ≡ field_inside fields names n outer
same_fields l n fields names outer e f g = fun_ext (λ x. rw (f x, g x, e) refl)

abbrev among : List (List ℕ) → List ℕ → Bool
among fields x = is_among x fields

same_own : (l : Level) (fields : List (List ℕ)) (outer : List ℕ → Bool) → l.is_function ≡ true
    → ((x : List ℕ) → contains bytes_eq l.fields x ≡ is_among x fields)
    → (λ (x : List ℕ). if l.is_function then contains bytes_eq l.fields x else outer x) ≡ among fields
same_own l fields outer e f = fun_ext (λ x. rw (e) (f x))

outer_own : (l : Level) (outer : List ℕ → Bool) → l.is_function ≡ false
    → (λ (x : List ℕ). if l.is_function then contains bytes_eq l.fields x else outer x) ≡ outer
outer_own l outer e = fun_ext (λ x. rw (e) refl)

-- the scopes that a function gave, which put this one before the others
pub round_function : {V : Type 0} (values : V → List Level) (r : Result V OutOfMemory) (ls : List Level) (l : Level) (n : ℕ) (fields : List (List ℕ)) (own : Option (List ℕ)) (c : tree.Code)
    → l.number ≡ n → l.is_function ≡ true
    → ((x : List ℕ) → contains bytes_eq l.fields x ≡ is_among x fields)
    → ((x : List ℕ) → contains bytes_eq l.names x ≡ is_among x (maybe_name own ++ bound_names c))
    → IfOk r (λ v. values v ≡ l ∷ ls)
    → IfOk r (λ v. around_of (values v) ≡ in_function (around_of ls) n fields own c)
round_function values (Ok v) ls l n fields own c e k f g h =
    let p = same_fields l n fields (maybe_name own ++ bound_names c) (field_of ls) e f g in
    let q = same_own l fields (is_own ls) k f in
    let whole : around_of (l ∷ ls) ≡ in_function (around_of ls) n fields own c = λ i. record { opens = true; fields = p i; own = q i } in
    ap around_of h ∙ whole
round_function values (Err x) ls l n fields own c e k f g h = tt

pub round_clause : {V : Type 0} (values : V → List Level) (r : Result V OutOfMemory) (ls : List Level) (l : Level) (n : ℕ) (fields : List (List ℕ)) (x : List ℕ)
    → l.number ≡ n → l.is_function ≡ false
    → ((y : List ℕ) → contains bytes_eq l.fields y ≡ is_among y fields)
    → ((y : List ℕ) → contains bytes_eq l.names y ≡ is_among y (x ∷ []))
    → IfOk r (λ v. values v ≡ l ∷ ls)
    → IfOk r (λ v. around_of (values v) ≡ in_clause (around_of ls) n fields x)
round_clause values (Ok v) ls l n fields x e k f g h =
    let p = same_fields l n fields (x ∷ []) (field_of ls) e f g in
    let q = outer_own l (is_own ls) k in
    let whole : around_of (l ∷ ls) ≡ in_clause (around_of ls) n fields x = λ i. record { opens = true; fields = p i; own = q i } in
    ap around_of h ∙ whole
round_clause values (Err y) ls l n fields x e k f g h = tt

-- the captured names of a function, by the table of those captured and that of its names
pub fields_found : (keys names : List (List ℕ)) (own : Option (List ℕ)) (c : tree.Code) (x : Option (List ℕ)) (formals : List (List ℕ))
    (ss : tree.Stmts) → code x formals ss ≡ c
    → names ≡ formals ++ (maybe_name own ++ declared_names ss) → keys ≡ insert_all bytes_eq [] names
    → filter (λ y. is_captured y (stmts_uses ss)) keys ≡ fields_in own c
fields_found keys names own c x formals ss whole listed inserted =
    ap (filter (λ y. is_captured y (stmts_uses ss))) (inserted ∙ ap (insert_all bytes_eq []) listed)
    ∙ ap (fields_in own) whole

-- a table of the names that have a value says what they do
pub values_of : (keys valued fields : List (List ℕ)) → ((x : List ℕ) → is_among x keys ≡ is_among x valued)
    → fields_of (map (λ x. (x, first_value keys x)) fields) ≡ literal_fields valued fields
values_of keys valued [] e = refl
values_of keys valued (x ∷ xs) e =
    ap (λ b. then_field x (if b then name x else void_zero) (fields_of (map (λ y. (y, first_value keys y)) xs))) (e x)
    ∙ ap (then_field x (first_value valued x)) (values_of keys valued xs e)
