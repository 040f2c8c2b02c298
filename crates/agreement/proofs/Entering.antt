-- A function of the page is entered (sections 10.4.3 and 10.5), on the right as it is opened: what both bind.
use Rattle.std.proofs.Common.{◌≡◌, refl, sym, ap, subst, ◌∙◌, ℕ, Bool, true, false, ◌||◌, ◌&&◌, not, List, [], ◌∷◌, ◌++◌, Option, Some, None, is_some, bytes_eq, if◌then◌else◌}
use Rattle.agreement.specs.Trees.{free_where}
use Rattle.std.proofs.lemmas.Slice.Eq.{bytes_eq-Decides}
use Rattle.std.proofs.lemmas.Bool.{and_parts, not-true}
use Rattle.std.proofs.lemmas.List.Folds.{list_any-append}
use Rattle.std.specs.List.{list_all}
use Rattle.code_table.specs.Declarations.{functions_of, variables_of}
use Rattle.js_core.specs.Tree as tree
use Rattle.js_core.specs.Tree.{code}
use Rattle.js_values.specs.declared.value.Value.{Value}
use Rattle.object_heap.specs.Environment.{value_of}
use Rattle.page_meaning.specs.Functions.{entry_names, function_names, with_arguments}
use Rattle.scope_analysis.specs.Names.{bound_names, declared_names, has_repeat, is_among, maybe_name, own_name, unless_among}
use Rattle.heap_relations.specs.Naming.{Frame, World, is_reserved, is_scope_name, named, resolve, scope_name}
use Rattle.heap_relations.specs.Related.{Each, Maybe, ValueRel}
use Rattle.instrumenter.specs.Around.{Around, append, in_function, next_number, scope_object, valued_names}
use Rattle.instrumenter.specs.Opening.{open_declarations, open_stmts}
use Rattle.agreement.proofs.Closures.{scope_field}
use Rattle.agreement.proofs.Declared.{all_among, body_among, declarations_passed, either_among, functions_declared, right_among, stmts_declared, stmts_passed}
use Rattle.agreement.proofs.EntryNames.{argument_rel, arguments_bind, bound_declared, entry_value, first_rel, first_some, formal_bound}
use Rattle.agreement.proofs.Hoisted.{DeclaredAt, as_field, as_variable}
use Rattle.agreement.proofs.Unset.{unset_frame}
use Rattle.agreement.specs.Opened.{are_plain, around_of, is_bound, is_numbered, is_round, may_open, opened_at, kept_in}

-- ---- what is asked of a function that is opened

pub record Asked (n : ℕ) (gs : List Frame) (own : Option (List ℕ)) (F : List (List ℕ)) (formals : List (List ℕ)) (body : tree.Stmts) : Type 0 where
  pub numbered : is_numbered n F gs ≡ true
  pub plain : (x : List ℕ) → is_among x (F ++ (formals ++ declared_names body)) ≡ true → is_scope_name x ≡ false
  pub declared : (x : List ℕ) → is_among x (declared_names body) ≡ true → is_bound formals body x ≡ true
  pub field : (x : List ℕ) → is_among x F ≡ true → (is_bound formals body x || (is_among x (maybe_name own) && is_round gs x)) ≡ true
  pub own_plain : (x : List ℕ) → is_among x (maybe_name own) ≡ true → opened_at true (resolve gs x) ≡ None
  pub distinct : has_repeat F ≡ false

not_some : (o : Option ℕ) → not (is_some o) ≡ true → o ≡ None
not_some None e = refl
not_some (Some m) e = absurd (cc e)

pub asked : (n : ℕ) (gs : List Frame) (own : Option (List ℕ)) (F formals : List (List ℕ)) (body : tree.Stmts) → may_open true n gs own F formals body ≡ true → Asked n gs own F formals body
asked n gs own F formals body h =
    let names = F ++ (formals ++ declared_names body) in
    let bounds = list_all (is_bound formals body) (declared_names body) in
    let fields = list_all (λ x. is_bound formals body x || (is_among x (maybe_name own) && is_round gs x)) F in
    let owns = list_all (λ x. not (is_some (opened_at true (resolve gs x)))) (maybe_name own) in
    let one = and_parts (is_numbered n F gs) (are_plain true names && (bounds && (fields && (owns && not (has_repeat F))))) h in
    let two = and_parts (are_plain true names) (bounds && (fields && (owns && not (has_repeat F)))) one.1 in
    let three = and_parts bounds (fields && (owns && not (has_repeat F))) two.1 in
    let four = and_parts fields (owns && not (has_repeat F)) three.1 in
    let five = and_parts owns (not (has_repeat F)) four.1 in
    record {
      numbered = one.0;
      plain = λ x i. not-true (is_scope_name x) (all_among (λ y. not (is_reserved true y)) x names two.0 i);
      declared = λ x i. all_among (is_bound formals body) x (declared_names body) three.0 i;
      field = λ x i. all_among (λ y. is_bound formals body y || (is_among y (maybe_name own) && is_round gs y)) x F four.0 i;
      own_plain = λ x i. not_some (opened_at true (resolve gs x)) (all_among (λ y. not (is_some (opened_at true (resolve gs y)))) x (maybe_name own) five.0 i);
      distinct = not-true (has_repeat F) five.1;
    }

-- the own name is none that the function declares
pub own_apart : (o : Option (List ℕ)) (xs : List (List ℕ)) (x : List ℕ) → is_among x (maybe_name (unless_among o xs)) ≡ true → is_among x xs ≡ false
own_apart None xs x h = absurd (cc h)
own_apart (Some y) xs x h = by_case (is_among y xs) refl h
  where
    by_case : (b : Bool) → is_among y xs ≡ b → is_among x (maybe_name (if b then None else Some y)) ≡ true → is_among x xs ≡ false
    by_case true e k = absurd (cc k)
    by_case false e k = same (bytes_eq x y) refl k
      where
        same : (t : Bool) → bytes_eq x y ≡ t → (t || false) ≡ true → is_among x xs ≡ false
        same true q m = ap (λ z. is_among z xs) ((bytes_eq-Decides x y).0 q) ∙ e
        same false q m = absurd (cc m)

-- ---- the opened body, and what it binds

abbrev pub inside_of : ℕ → List Frame → List (List ℕ) → tree.Code → Around
inside_of n gs F c = in_function (around_of true gs) n F (own_name c) c

abbrev pub inner_body : ℕ → List Frame → List (List ℕ) → Option (List ℕ) → List (List ℕ) → tree.Stmts → tree.Stmts
inner_body n gs F x formals body =
    append (open_declarations (inside_of n gs F (code x formals body)) (next_number F n) body) (open_stmts (inside_of n gs F (code x formals body)) (next_number F n) body)

abbrev pub whole_body : ℕ → List Frame → List (List ℕ) → Option (List ℕ) → List (List ℕ) → tree.Stmts → tree.Stmts
whole_body n gs F x formals body = scope_object n (valued_names (own_name (code x formals body)) (code x formals body)) F (inner_body n gs F x formals body)

object_passed : (n : ℕ) (valued F : List (List ℕ)) (ss : tree.Stmts) → functions_of (scope_object n valued F ss) ≡ functions_of ss
object_passed n valued [] ss = refl
object_passed n valued (y ∷ ys) ss = refl

module _ (n : ℕ) (gs : List Frame) (F : List (List ℕ)) (x : Option (List ℕ)) (formals : List (List ℕ)) (body : tree.Stmts) where
  pub whole_passed : functions_of (whole_body n gs F x formals body) ≡ []
  whole_passed =
      object_passed n (valued_names (own_name (code x formals body)) (code x formals body)) F (inner_body n gs F x formals body)
      ∙ declarations_passed (inside_of n gs F (code x formals body)) (next_number F n) body (open_stmts (inside_of n gs F (code x formals body)) (next_number F n) body)
      ∙ stmts_passed (inside_of n gs F (code x formals body)) (next_number F n) body refl

  pub inner_passed : functions_of (inner_body n gs F x formals body) ≡ []
  inner_passed =
      declarations_passed (inside_of n gs F (code x formals body)) (next_number F n) body (open_stmts (inside_of n gs F (code x formals body)) (next_number F n) body)
      ∙ stmts_passed (inside_of n gs F (code x formals body)) (next_number F n) body refl

  -- what the right binds
  pub others_value : (ws : List Value) (y : List ℕ)
      → value_of (entry_names formals (whole_body n gs F x formals body) ws) y ≡ first_some (value_of (with_arguments formals ws) y) (is_among y (variables_of (whole_body n gs F x formals body)))
  others_value ws y =
      entry_value formals (whole_body n gs F x formals body) ws y
      ∙ ap (λ fs. first_some (value_of (with_arguments formals ws) y) (is_among y (function_names fs) || is_among y (variables_of (whole_body n gs F x formals body)))) whole_passed

  pub inner_among : (y : List ℕ) → is_among y F ≡ false
      → is_among y (variables_of (inner_body n gs F x formals body)) ≡ (is_among y (function_names (functions_of body)) || is_among y (variables_of body))
  inner_among y e = body_among (inside_of n gs F (code x formals body)) (next_number F n) body y e

  -- a name that both bind or neither
  pub both_bind : {V : World} (vs ws : List Value) (y : List ℕ) → Each (ValueRel (named V)) vs ws
      → is_among y (variables_of (whole_body n gs F x formals body)) ≡ (is_among y (function_names (functions_of body)) || is_among y (variables_of body))
      → Maybe (ValueRel (named V)) (value_of (entry_names formals body vs) y) (value_of (entry_names formals (whole_body n gs F x formals body) ws) y)
  both_bind vs ws y h same = rw (entry_value formals body vs y, others_value ws y) (first_rel _ _ (sym same) (argument_rel formals vs ws y h))

  -- ---- names of scope objects

  module _ (a : Asked n gs (own_name (code x formals body)) F formals body) where
    scope_apart : (j : ℕ) (xs : List (List ℕ)) → (is_among (scope_name j) xs ≡ true → is_among (scope_name j) (F ++ (formals ++ declared_names body)) ≡ true) → is_among (scope_name j) xs ≡ false
    scope_apart j xs h = by_case (is_among (scope_name j) xs) refl
      where
        by_case : (b : Bool) → is_among (scope_name j) xs ≡ b → is_among (scope_name j) xs ≡ false
        by_case false e = e
        by_case true e = let wrong : true ≡ false = a.plain (scope_name j) (h e) in cc wrong

    pub no_field_scope : (j : ℕ) → is_among (scope_name j) F ≡ false
    no_field_scope j = scope_apart j F (λ e. list_any-append (bytes_eq (scope_name j)) F (formals ++ declared_names body) ∙ ap (λ b. b || is_among (scope_name j) (formals ++ declared_names body)) e)

    no_declared_scope : (j : ℕ) → is_among (scope_name j) (declared_names body) ≡ false
    no_declared_scope j = scope_apart j (declared_names body) (λ e. right_among (scope_name j) F (formals ++ declared_names body) (right_among (scope_name j) formals (declared_names body) e))

    no_formal_scope : (j : ℕ) → is_among (scope_name j) formals ≡ false
    no_formal_scope j =
        scope_apart j formals
        (λ e. right_among (scope_name j) F (formals ++ declared_names body)
        (list_any-append (bytes_eq (scope_name j)) formals (declared_names body) ∙ ap (λ b. b || is_among (scope_name j) (declared_names body)) e))

    pub no_body_scope : (j : ℕ) → (is_among (scope_name j) (function_names (functions_of body)) || is_among (scope_name j) (variables_of body)) ≡ false
    no_body_scope j = λ i. not_there (function_names (functions_of body)) (functions_declared (scope_name j) body) i || not_there (variables_of body) (stmts_declared (scope_name j) body) i
      where
        not_there : (xs : List (List ℕ)) → (is_among (scope_name j) xs ≡ true → is_among (scope_name j) (declared_names body) ≡ true) → is_among (scope_name j) xs ≡ false
        not_there xs h = by_case (is_among (scope_name j) xs) refl
          where
            by_case : (b : Bool) → is_among (scope_name j) xs ≡ b → is_among (scope_name j) xs ≡ false
            by_case false e = e
            by_case true e = let wrong : true ≡ false = sym (h e) ∙ no_declared_scope j in cc wrong

    pub no_argument_scope : (j : ℕ) (ws : List Value) → value_of (with_arguments formals ws) (scope_name j) ≡ None
    no_argument_scope j ws = by_case (value_of (with_arguments formals ws) (scope_name j)) refl (arguments_bind formals ws (scope_name j) ∙ no_formal_scope j)
      where
        by_case : (o : Option Value) → value_of (with_arguments formals ws) (scope_name j) ≡ o → is_some o ≡ false → o ≡ None
        by_case None e k = refl
        by_case (Some v) e k = absurd (cc k)

    -- ---- inside

    among_bound : (y : List ℕ) → is_bound formals body y ≡ true → is_among y (bound_names (code x formals body)) ≡ true
    among_bound y h = list_any-append (bytes_eq y) formals (declared_names body) ∙ bound_declared formals body y h

    bound_among : (y : List ℕ) → is_among y (bound_names (code x formals body)) ≡ true → is_bound formals body y ≡ true
    bound_among y h = either_among y formals (declared_names body) h (λ e. formal_bound formals body y e) (λ e. a.declared y e)

    abbrev names_of : List (List ℕ)
    names_of = maybe_name (own_name (code x formals body)) ++ bound_names (code x formals body)

    -- what names stand for in the body
    pub inside_fields : (inside_of n gs F (code x formals body)).fields ≡ (λ y. opened_at true (resolve (unset_frame F n formals body ∷ gs) y))
    inside_fields = λ i y. scope_field true F names_of n (is_bound formals body) (λ z. false) gs y (λ e. refl)
        (λ e. right_among y (maybe_name (own_name (code x formals body))) (bound_names (code x formals body)) (among_bound y e))
        (λ e f g. either_among y (maybe_name (own_name (code x formals body))) (bound_names (code x formals body)) e (λ k. a.own_plain y k) (λ k. absurd (cc (sym (bound_among y k) ∙ f)))) i

    -- ---- declared functions

    declared_bound : (y : List ℕ) → is_among y (function_names (functions_of body)) ≡ true → is_bound formals body y ≡ true
    declared_bound y i = a.declared y (functions_declared y body i)

    -- a declared name that is no field is one of the function's
    not_field : (y : List ℕ) → is_bound formals body y ≡ true → is_among y F ≡ false → (inside_of n gs F (code x formals body)).fields y ≡ None
    not_field y b e =
        let named = right_among y (maybe_name (own_name (code x formals body))) (bound_names (code x formals body)) (among_bound y b) in
        rw (e, named) refl

pub declared_plain : (n : ℕ) (gs : List Frame) (x : Option (List ℕ)) (formals : List (List ℕ)) (body : tree.Stmts) → Asked n gs (own_name (code x formals body)) [] formals body
    → (y : List ℕ) → is_among y (function_names (functions_of body)) ≡ true
    → DeclaredAt (unset_frame [] n formals body) y ((inside_of n gs [] (code x formals body)).own y) ((inside_of n gs [] (code x formals body)).fields y)
declared_plain n gs x formals body a y i =
    let b = declared_bound n gs [] x formals body a y i in
    rw (not_field n gs [] x formals body a y b refl) (as_variable (ap free_where b))

pub declared_scoped : (n : ℕ) (gs : List Frame) (z : List ℕ) (zs : List (List ℕ)) (x : Option (List ℕ)) (formals : List (List ℕ)) (body : tree.Stmts) → Asked n gs (own_name (code x formals body)) (z ∷ zs) formals body
    → (y : List ℕ) → is_among y (function_names (functions_of body)) ≡ true
    → DeclaredAt (unset_frame (z ∷ zs) n formals body) y ((inside_of n gs (z ∷ zs) (code x formals body)).own y) ((inside_of n gs (z ∷ zs) (code x formals body)).fields y)
declared_scoped n gs z zs x formals body a y i = by_case (is_among y (z ∷ zs)) refl ((inside_of n gs (z ∷ zs) (code x formals body)).fields y) refl
  where
    b : is_bound formals body y ≡ true
    b = declared_bound n gs (z ∷ zs) x formals body a y i

    as_some : is_among y (z ∷ zs) ≡ true → (inside_of n gs (z ∷ zs) (code x formals body)).fields y ≡ Some n
    as_some e = rw e refl

    by_case : (c : Bool) → is_among y (z ∷ zs) ≡ c → (o : Option ℕ) → (inside_of n gs (z ∷ zs) (code x formals body)).fields y ≡ o → DeclaredAt (unset_frame (z ∷ zs) n formals body) y c o
    by_case true e o q = subst (DeclaredAt (unset_frame (z ∷ zs) n formals body) y true) (sym (as_some e) ∙ q) (as_field (λ j. kept_in (e j) (b j) false) refl)
    by_case false e o q = subst (DeclaredAt (unset_frame (z ∷ zs) n formals body) y false) (sym (not_field n gs (z ∷ zs) x formals body a y b e) ∙ q) (as_variable (λ j. kept_in (e j) (b j) false))
