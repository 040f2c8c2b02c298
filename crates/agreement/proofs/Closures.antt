-- What stands round a function, as its frames say it and as opening says it (sections 10.2 and 13).
use Rattle.std.proofs.Common.{◌≡◌, refl, sym, ap, ◌∙◌, ℕ, Bool, true, false, ◌||◌, List, [], ◌∷◌, ◌++◌, Option, Some, None, bytes_eq, if◌then◌else◌}
use Rattle.agreement.specs.Trees.{bound_where, free_where}
use Rattle.std.proofs.lemmas.Slice.Eq.{bytes_eq-Decides}
use Rattle.js_core.specs.Tree as tree
use Rattle.js_core.specs.Tree.{code}
use Rattle.scope_analysis.specs.Names.{bound_names, is_among, maybe_name, own_name, unless_among}
use Rattle.instrumenter.specs.Around.{Around, field_inside, in_function, next_number, opened_body, opened_fields, scope_object, valued_names}
use Rattle.instrumenter.specs.Fields.{expression_fields, has_fields}
use Rattle.instrumenter.specs.Opening.{open_declarations, open_function, open_stmts}
use Rattle.heap_relations.specs.Naming.{Absent, Fixed, Frame, Sealed, resolve, resolved, Copy, InScope, Itself}
use Rattle.agreement.specs.Opened.{around_of, frames_round, name_frame, opened_at, opened_code, kept_in, scope_frame}

-- ---- what a function's body is opened to depends on what names stand for round it

-- where that is the same for names that the function does not bind, its body is opened to the same
pub function_same : (a b : Around) (n : ℕ) (fields : List (List ℕ)) (own : Option (List ℕ)) (c : tree.Code) → a.opens ≡ b.opens
    → ((y : List ℕ) → field_inside fields (maybe_name own ++ bound_names c) n a.fields y ≡ field_inside fields (maybe_name own ++ bound_names c) n b.fields y)
    → open_function a n fields own c ≡ open_function b n fields own c
function_same a b n fields own (code x formals body) opens same =
    let inside : in_function a n fields own (code x formals body) ≡ in_function b n fields own (code x formals body) =
    λ i. record { opens = opens i; fields = λ y. same y i; own = λ y. is_among y fields }
    in
    λ i. scope_object n (valued_names own (code x formals body)) fields (opened_body (opens i) (open_declarations (inside i) (next_number fields n) body)
    (open_stmts (inside i) (next_number fields n) body))

-- ---- the name of a function expression

pub among_same : (x : List ℕ) → bytes_eq x x ≡ true
among_same x = (bytes_eq-Decides x x).1 refl

-- it is one of the names of the function
own_among : (x : List ℕ) (xs : List (List ℕ)) → is_among x (maybe_name (unless_among (Some x) xs) ++ xs) ≡ true
own_among x xs = by_case (is_among x xs) refl
  where
    by_case : (b : Bool) → is_among x xs ≡ b → is_among x (maybe_name (if b then None else Some x) ++ xs) ≡ true
    by_case true e = e
    by_case false e = ap (λ t. t || is_among x xs) (among_same x)

-- the name alone is sealed round the function
name_round : (opens names : Bool) (x y : List ℕ) (fs : List Frame) → bytes_eq y x ≡ false → opened_at opens (resolve (name_frame names x ∷ fs) y) ≡ opened_at opens (resolve fs y)
name_round opens true x y fs far = ap (λ b. opened_at opens (resolved (if b then Sealed else Absent) 0 (resolve fs y))) far
name_round opens false x y fs far = ap (λ b. opened_at opens (resolved (free_where (b || false)) 0 (resolve fs y))) far

named_inside : (fields : List (List ℕ)) (n : ℕ) (opens sealed : Bool) (x : List ℕ) (fs : List Frame) (names : List (List ℕ)) (y : List ℕ) → is_among x names ≡ true
    → field_inside fields names n (λ z. opened_at opens (resolve fs z)) y ≡ field_inside fields names n (λ z. opened_at opens (resolve (name_frame sealed x ∷ fs) z)) y
named_inside fields n opens sealed x fs names y among = by_case (bytes_eq y x) refl
  where
    by_case : (b : Bool) → bytes_eq y x ≡ b
        → field_inside fields names n (λ z. opened_at opens (resolve fs z)) y ≡ field_inside fields names n (λ z. opened_at opens (resolve (name_frame sealed x ∷ fs) z)) y
    by_case true e =
        let same : y ≡ x = (bytes_eq-Decides y x).0 e in
        let there : is_among y names ≡ true = ap (λ z. is_among z names) same ∙ among in
        rw there refl
    by_case false e = ap (λ o. if is_among y fields then Some n else (if is_among y names then None else o)) (sym (name_round opens sealed x y fs e))

round_inside : (fields : List (List ℕ)) (n : ℕ) (opens sealed : Bool) (x : Option (List ℕ)) (fs : List Frame) (xs : List (List ℕ)) (y : List ℕ)
    → field_inside fields (maybe_name (unless_among x xs) ++ xs) n (λ z. opened_at opens (resolve fs z)) y
    ≡ field_inside fields (maybe_name (unless_among x xs) ++ xs) n (λ z. opened_at opens (resolve (frames_round sealed x fs) z)) y
round_inside fields n opens sealed None fs xs y = refl
round_inside fields n opens sealed (Some x) fs xs y = named_inside fields n opens sealed x fs (maybe_name (unless_among (Some x) xs) ++ xs) y (own_among x xs)

-- ---- a function that is made

-- its code is opened as its frames say
pub closed_code : (a : Around) (n : ℕ) (opens names : Bool) (fs : List Frame) (x : Option (List ℕ)) (formals : List (List ℕ)) (body : tree.Stmts)
    → a.opens ≡ opens → a.fields ≡ (λ y. opened_at opens (resolve fs y))
    → code x formals (open_function a n (opened_fields a.opens (expression_fields (code x formals body))) (own_name (code x formals body)) (code x formals body))
    ≡ opened_code opens n (frames_round names x fs) (code x formals body)
closed_code a n opens names fs x formals body same fields =
    let c = code x formals body in
    let F = expression_fields c in
    let own = own_name c in
    ap (λ o. code x formals (open_function a n (opened_fields o F) own c)) same
    ∙ ap (code x formals) (function_same a (around_of opens (frames_round names x fs)) n (opened_fields opens F) own c same
    (λ y. ap (λ f. field_inside (opened_fields opens F) (maybe_name own ++ bound_names c) n f y) fields ∙ round_inside (opened_fields opens F) n opens names x fs (bound_names c) y))

-- that of a declared function, which is held without its name
pub declared_code : (a : Around) (n : ℕ) (opens : Bool) (fs : List Frame) (formals : List (List ℕ)) (body : tree.Stmts)
    → a.opens ≡ opens → a.fields ≡ (λ y. opened_at opens (resolve fs y))
    → code None formals (open_function a n (opened_fields a.opens (expression_fields (code None formals body))) None (code None formals body))
    ≡ opened_code opens n fs (code None formals body)
declared_code a n opens fs formals body same fields = closed_code a n opens false fs None formals body same fields

-- ---- inside a scope

at_itself : (opens : Bool) → opened_at opens Itself ≡ None
at_itself true = refl
at_itself false = refl

at_fixed : (opens : Bool) → opened_at opens Fixed ≡ None
at_fixed true = refl
at_fixed false = refl

-- of a name that is no field
plain_field : (opens : Bool) (names : List (List ℕ)) (n : ℕ) (bound constant : List ℕ → Bool) (fs : List Frame) (y : List ℕ) → (bound y ≡ true → is_among y names ≡ true)
    → (is_among y names ≡ true → bound y ≡ false → opened_at opens (resolve fs y) ≡ None)
    → (if is_among y names then None else opened_at opens (resolve fs y)) ≡ opened_at opens (resolved (bound_where (bound y) (constant y)) n (resolve fs y))
plain_field opens names n bound constant fs y one two = by_case (is_among y names) refl (bound y) refl (constant y)
  where
    by_case : (a : Bool) → is_among y names ≡ a → (b : Bool) → bound y ≡ b → (c : Bool)
        → (if a then None else opened_at opens (resolve fs y)) ≡ opened_at opens (resolved (bound_where b c) n (resolve fs y))
    by_case true e true f true = sym (at_fixed opens)
    by_case true e true f false = sym (at_itself opens)
    by_case false e false f c = refl
    by_case true e false f c = sym (two e f)
    by_case false e true f c = absurd (cc (sym (one f) ∙ e))

-- what a name stands for inside, where the frame binds what the scope declares
pub scope_field : (opens : Bool) (fields names : List (List ℕ)) (n : ℕ) (bound constant : List ℕ → Bool) (fs : List Frame) (y : List ℕ) → (has_fields fields ≡ true → opens ≡ true)
    → (bound y ≡ true → is_among y names ≡ true) → (is_among y names ≡ true → bound y ≡ false → is_among y fields ≡ false → opened_at opens (resolve fs y) ≡ None)
    → field_inside fields names n (λ z. opened_at opens (resolve fs z)) y ≡ opened_at opens (resolve (scope_frame fields n bound constant ∷ fs) y)
scope_field opens [] names n bound constant fs y there one two = plain_field opens names 0 bound constant fs y one (λ a b. two a b refl)
scope_field opens (z ∷ zs) names n bound constant fs y there one two = by_case (is_among y (z ∷ zs)) refl opens (there refl)
  where
    by_case : (b : Bool) → is_among y (z ∷ zs) ≡ b → (o : Bool) → o ≡ true
        → (if b then Some n else (if is_among y names then None else opened_at opens (resolve fs y))) ≡ opened_at opens (resolved (kept_in b (bound y) (constant y)) n (resolve fs y))
    by_case true e o t = both (bound y)
      where
        both : (c : Bool) → Some n ≡ opened_at opens (resolved (kept_in true c (constant y)) n (resolve fs y))
        both true = ap (λ p. opened_at p (InScope n)) (sym (there refl))
        both false = ap (λ p. opened_at p (Copy n)) (sym (there refl))
    by_case false e o t = plain_field opens names n bound constant fs y one (λ a b. two a b e)
