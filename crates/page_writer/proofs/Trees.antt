-- The lexemes of the trees of a saved page.
use Rattle.std.proofs.Common.{◌≡◌, ◌∙◌, refl, sym, ap, ℕ, ◌-◌, Bool, true, false, List, [], ◌∷◌, ◌++◌, Option, Some, None, append_assoc, append-nil, nat_eq}
use Rattle.std.specs.Prelude.{if◌then◌else◌}
use Rattle.built_in_paths.specs.Paths.{dot, names_of, path_of, with_unit}
use Rattle.page_meaning.specs.Places.{document}
use Rattle.js_core.specs.Tree as tree
use Rattle.js_core.specs.Tree.{name, member}
use Rattle.js_core.specs.declared.token.Punct.TheVariants as punct
use Rattle.js_print.specs.Lexemes.{expr_lexemes}
use Rattle.js_print.specs.declared.lexeme.Lexeme.{Lexeme}
use Rattle.js_print.specs.declared.lexeme.Lexeme.TheVariants.{Name, Punct}
use Rattle.js_print.specs.declared.place.Place.TheVariants.{Base, Part}
use Rattle.js_print.specs.Places.{is_bare, placed}
use Rattle.js_values.specs.declared.ids.ObjId.{ObjId}
use Rattle.rebuild_plan.specs.Moved.{first_thing}
use Rattle.page_writer.specs.Dotted.{dotted}
use Rattle.page_writer.specs.References.{document_expr, path_expr, path_from, reference, reference_over, thing_expr, unlisted}

-- ---- paths

-- names, each after a dot
abbrev behind_dots : List (List ℕ) → List Lexeme
behind_dots [] = []
behind_dots (x ∷ xs) = Punct punct.Dot ∷ Name x ∷ behind_dots xs

-- names with dots between them, the first of which begins with these units
abbrev between_dots : List ℕ → List (List ℕ) → List Lexeme
between_dots start [] = []
between_dots start (x ∷ xs) = Name (start ++ x) ∷ behind_dots xs

path_from_lexemes : (e : tree.Expr) (xs : List (List ℕ)) → is_bare Base e ≡ true → expr_lexemes (path_from e xs) ≡ expr_lexemes e ++ behind_dots xs
path_from_lexemes e [] bare = sym (append-nil (expr_lexemes e))
path_from_lexemes e (x ∷ xs) bare =
    path_from_lexemes (member e x) xs refl
    ∙ ap (λ l. (l ++ Punct punct.Dot ∷ Name x ∷ []) ++ behind_dots xs) (rw bare refl)
    ∙ append_assoc (expr_lexemes e) (Punct punct.Dot ∷ Name x ∷ []) (behind_dots xs)

some_names : (us : List ℕ) → names_of us ≡ [] → ⊥
some_names [] e = cc e
some_names (v ∷ vs) e = by_dot (nat_eq v dot) (names_of vs) e
  where
    by_dot : (b : Bool) (ns : List (List ℕ)) → (if b then [] ∷ ns else with_unit v ns) ≡ [] → ⊥
    by_dot true ns e = cc e
    by_dot false [] e = cc e
    by_dot false (n ∷ ns) e = cc e

first_begun : (start : List ℕ) (u : ℕ) (us : List ℕ) (xs : List (List ℕ)) → names_of us ≡ xs → between_dots start (with_unit u xs) ≡ between_dots (start ++ u ∷ []) xs
first_begun start u us [] e = absurd (some_names us e)
first_begun start u us (x ∷ xs) e = ap (λ n. Name n ∷ behind_dots xs) (sym (append_assoc start (u ∷ []) x))

next_named : (us : List ℕ) (xs : List (List ℕ)) → names_of us ≡ xs → Punct punct.Dot ∷ between_dots [] xs ≡ behind_dots xs
next_named us [] e = absurd (some_names us e)
next_named us (x ∷ xs) e = refl

dotted_between : (start path : List ℕ) → dotted start path ≡ between_dots start (names_of path)
dotted_between start [] = ap (λ n. Name n ∷ []) (sym (append-nil start))
dotted_between start (u ∷ us) = by_dot (nat_eq u dot) (dotted_between [] us) (dotted_between (start ++ u ∷ []) us)
  where
    by_dot : (b : Bool) → dotted [] us ≡ between_dots [] (names_of us) → dotted (start ++ u ∷ []) us ≡ between_dots (start ++ u ∷ []) (names_of us)
        → (if b then Name start ∷ Punct punct.Dot ∷ dotted [] us else dotted (start ++ u ∷ []) us) ≡ between_dots start (if b then [] ∷ names_of us else with_unit u (names_of us))
    by_dot true next same =
        ap (λ l. Name start ∷ Punct punct.Dot ∷ l) next
        ∙ ap (λ l. Name start ∷ l) (next_named us (names_of us) refl)
        ∙ ap (λ n. Name n ∷ behind_dots (names_of us)) (sym (append-nil start))
    by_dot false next same = same ∙ sym (first_begun start u us (names_of us) refl)

names_lexemes : (us : List ℕ) (xs : List (List ℕ)) → names_of us ≡ xs → between_dots [] xs ≡ expr_lexemes (path_expr xs)
names_lexemes us [] e = absurd (some_names us e)
names_lexemes us (x ∷ xs) e = sym (path_from_lexemes (name x) xs refl)

path_lexemes : (path : List ℕ) → dotted [] path ≡ expr_lexemes (path_expr (names_of path))
path_lexemes path = dotted_between [] path ∙ names_lexemes path (names_of path) refl

-- ---- references

pub reference_path : (k : ℕ) (path : List ℕ) (found : Option (List ℕ)) → found ≡ Some path → dotted [] path ≡ expr_lexemes (reference_over k found)
reference_path k path found is = path_lexemes path ∙ ap (λ o. expr_lexemes (reference_over k o)) (sym is)

pub reference_unlisted : (k : ℕ) (found : Option (List ℕ)) → found ≡ None → expr_lexemes (unlisted k) ≡ expr_lexemes (reference_over k found)
reference_unlisted k found is = ap (λ o. expr_lexemes (reference_over k o)) (sym is)

-- it needs no parentheses before a dot and as a part
abbrev Bare : tree.Expr → Type 0
Bare e = (is_bare Base e ≡ true) × (is_bare Part e ≡ true)

path_from_bare : (e : tree.Expr) (xs : List (List ℕ)) → Bare e → Bare (path_from e xs)
path_from_bare e [] bare = bare
path_from_bare e (x ∷ xs) bare = path_from_bare (member e x) xs (refl, refl)

path_bare : (xs : List (List ℕ)) → Bare (path_expr xs)
path_bare [] = (refl, refl)
path_bare (x ∷ xs) = path_from_bare (name x) xs (refl, refl)

unlisted_bare : (k : ℕ) → Bare (unlisted k)
unlisted_bare k = by (nat_eq k document.0)
  where
    by : (b : Bool) → Bare (if b then document_expr else thing_expr (k - first_thing))
    by true = (refl, refl)
    by false = (refl, refl)

over_bare : (k : ℕ) (found : Option (List ℕ)) → Bare (reference_over k found)
over_bare k None = unlisted_bare k
over_bare k (Some path) = path_bare (names_of path)

pub reference_base : (at : ObjId) → placed Base (reference at) (expr_lexemes (reference at)) ≡ expr_lexemes (reference at)
reference_base at = rw (over_bare at.0 (path_of at.0)).0 refl

pub reference_part : (at : ObjId) → placed Part (reference at) (expr_lexemes (reference at)) ≡ expr_lexemes (reference at)
reference_part at = rw (over_bare at.0 (path_of at.0)).1 refl
