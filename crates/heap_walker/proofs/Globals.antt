-- Which globals scripts made.
use Rattle.std.proofs.Common.{◌≡◌, refl, sym, ap, ◌∙◌, ℕ, Bool, true, false, not, ◌&&◌, is_none, List, [], ◌∷◌, ◌++◌, bytes_eq}
use Rattle.std.proofs.lemmas.Bool.{and_parts}
use Rattle.std.specs.List.{list_all, list_any}
use Rattle.std.specs.Map.{keys_of, lookup}
use Rattle.global_names.specs.Names.{global_names, names_global}
use Rattle.object_heap.specs.Object.{Object}
use Rattle.object_heap.specs.Property.{Props, own_property}
use Rattle.object_shapes.specs.Shapes.{IsWindow, built_in_at}
use Rattle.page_meaning.specs.Places.{window}
use Rattle.heap_walker.specs.Things.{made_globals}

-- ---- lists of properties

pub made_both : (ps qs : Props) → made_globals (ps ++ qs) ≡ made_globals ps ++ made_globals qs
made_both [] qs = refl
made_both (e ∷ es) qs = by (names_global e.0) refl (made_both es qs)
  where
    by : (b : Bool) → names_global e.0 ≡ b → made_globals (es ++ qs) ≡ made_globals es ++ made_globals qs
        → made_globals ((e ∷ es) ++ qs) ≡ made_globals (e ∷ es) ++ made_globals qs
    by true built_in later = rw built_in later
    by false made later = rw made (ap (λ (l : Props). e ∷ l) later)

-- all of them, where none has a built-in name
pub all_made : (ps : Props) → list_all (λ e. not (names_global e.0)) ps ≡ true → made_globals ps ≡ ps
all_made [] h = refl
all_made (e ∷ es) h = by (names_global e.0) refl (all_made es)
  where
    by : (b : Bool) → names_global e.0 ≡ b → (list_all (λ x. not (names_global x.0)) es ≡ true → made_globals es ≡ es)
        → made_globals (e ∷ es) ≡ e ∷ es
    by true built_in later = cc (rw built_in at h)
    by false made later = rw made (ap (λ (l : Props). e ∷ l) (later (rw made at h)))

-- none, where each has one
none_made : (ps : Props) → list_all (λ e. names_global e.0) ps ≡ true → made_globals ps ≡ []
none_made [] h = refl
none_made (e ∷ es) h =
    let both = and_parts (names_global e.0) (list_all (λ x. names_global x.0) es) h in
    rw both.0 (none_made es both.1)

-- ---- the global object's

built_in_names : keys_of (built_in_at window.0).props ≡ global_names
unfolding global_names
built_in_names = refl

all_built_in : list_all (λ e. names_global e.0) (built_in_at window.0).props ≡ true
unfolding global_names
all_built_in = refl

-- of those that it begins with, scripts made none
pub no_built_in_made : made_globals (built_in_at window.0).props ≡ []
no_built_in_made = none_made (built_in_at window.0).props all_built_in

named_in : (test : List ℕ → Bool) (ps : Props) → is_none (lookup test ps) ≡ not (list_any test (keys_of ps))
named_in test [] = refl
named_in test (e ∷ es) = by (test e.0) refl (named_in test es)
  where
    by : (b : Bool) → test e.0 ≡ b → is_none (lookup test es) ≡ not (list_any test (keys_of es))
        → is_none (lookup test (e ∷ es)) ≡ not (list_any test (keys_of (e ∷ es)))
    by true here later = rw here refl
    by false other later = rw other later

-- it begins with one of each built-in name
pub no_global_name : (name : List ℕ) → is_none (own_property (built_in_at window.0).props name) ≡ not (names_global name)
no_global_name name = named_in (bytes_eq name) (built_in_at window.0).props ∙ ap (λ names. not (list_any (bytes_eq name) names)) built_in_names

pub no_global_names : (es : Props) → list_all (λ e. is_none (own_property (built_in_at window.0).props e.0)) es ≡ list_all (λ e. not (names_global e.0)) es
no_global_names [] = refl
no_global_names (e ∷ es) = (λ i. no_global_name e.0 i && no_global_names es i)

-- after those that it begins with stand the ones that scripts made
pub others_made : (others : Props) → list_all (λ e. not (names_global e.0)) others ≡ true → made_globals ((built_in_at window.0).props ++ others) ≡ others
others_made others h =
    made_both (built_in_at window.0).props others ∙ ap (λ (l : Props). l ++ made_globals others) no_built_in_made ∙ all_made others h

-- so of the global object of a page with its shapes
pub window_globals : (o : Object) (rest : IsWindow o) → made_globals o.props ≡ rest.others
window_globals o rest = ap made_globals rest.props ∙ others_made rest.others (sym (no_global_names rest.others) ∙ rest.own)
