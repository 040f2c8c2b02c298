-- A punctuator is read back where no unit stands behind it that it refuses.
use Rattle.std.proofs.Common.{◌≡◌, ℕ, zero, suc, ◌<◌, ◌≤◌, Bool, true, false, List, [], ◌∷◌, ◌++◌, length, get_or, None, refl, ap, subst, ⊎_elim, length-append, arith}
use Rattle.std.specs.Prelude.{◌||◌, ◌==◌, codes}
use Rattle.std.specs.List.{list_any}
use Rattle.std.proofs.lemmas.Bool.{cases_lt, or_parts}
use Rattle.std.proofs.lemmas.Bool.Decides.{nat_tests}
use Rattle.js_core.specs.Characters.{is_white_space, is_line_end}
use Rattle.js_core.specs.declared.token.Punct.{Punct as Sign}
use Rattle.js_core.specs.declared.token.Punct.TheVariants as punct
use Rattle.js_core.specs.Spelling.{punct_text}
use Rattle.js_lexer.specs.Characters.{begins_with}
use Rattle.js_lexer.specs.Punctuators.{opens_comment, StandsAt}
use Rattle.js_lexer.specs.Reading.{is_front, punctuators}
use Rattle.js_lexer.specs.Separators.{separator_of}
use Rattle.js_lexer.proofs.Callers.{place_of}
use Rattle.js_print.specs.declared.lexeme.Lexeme.TheVariants.{Punct}
use Rattle.js_print.proofs.Neighbours.{refused_behind, has}

-- ---- the table of punctuators

none_at : (f : Sign → Bool) (ps : List Sign) (k : ℕ) (d : Sign) → list_any f ps ≡ false → k < length ps → f (get_or ps k d) ≡ false
none_at f [] k d e l = absurd (omega arith)
none_at f (p ∷ ps) zero d e l = (or_parts (f p) (list_any f ps) e).0
none_at f (p ∷ ps) (suc k) d e l = none_at f ps k d (or_parts (f p) (list_any f ps) e).1 (omega arith)

none_of_all : (f : Sign → Bool) → list_any f punctuators ≡ false → (p : Sign) → f p ≡ false
none_of_all f e p = let place = place_of p in subst (λ q. f q ≡ false) place.there (none_at f punctuators place.place punct.LeftBrace e place.below)

-- a unit that is not had is none of these
differs : (us : List ℕ) (u v : ℕ) → has us u ≡ false → has us v ≡ true → (v == u) ≡ false
differs us u v e h = by_case (v == u) refl
  where
    by_case : (b : Bool) → (v == u) ≡ b → b ≡ false
    by_case true s = let same : v ≡ u = grind (arith, nat_tests) in absurd (let t : has us u ≡ true = subst (λ w. has us w ≡ true) same h in cc)
    by_case false s = refl

-- the unit goes on with a longer punctuator
abbrev goes_on : Sign → ℕ → Sign → Bool
goes_on p u q = is_front (punct_text p ++ u ∷ []) (punct_text q)

no_longer : (p : Sign) (u : ℕ) → has (refused_behind (Punct p)) u ≡ false → list_any (goes_on p u) punctuators ≡ false
no_longer punct.LessThan u h = rw (differs (codes "<=/") u 60 h refl, differs (codes "<=/") u 61 h refl) refl
no_longer punct.GreaterThan u h = rw (differs (codes ">=") u 62 h refl, differs (codes ">=") u 61 h refl) refl
no_longer punct.Equals u h = rw (differs (codes "=") u 61 h refl) refl
no_longer punct.NotEquals u h = rw (differs (codes "=") u 61 h refl) refl
no_longer punct.PlusSign u h = rw (differs (codes "+=") u 43 h refl, differs (codes "+=") u 61 h refl) refl
no_longer punct.MinusSign u h = rw (differs (codes "-=") u 45 h refl, differs (codes "-=") u 61 h refl) refl
no_longer punct.Star u h = rw (differs (codes "=") u 61 h refl) refl
no_longer punct.Percent u h = rw (differs (codes "=") u 61 h refl) refl
no_longer punct.ShiftLeft u h = rw (differs (codes "=/") u 61 h refl) refl
no_longer punct.ShiftRight u h = rw (differs (codes ">=") u 62 h refl, differs (codes ">=") u 61 h refl) refl
no_longer punct.ShiftRightUnsigned u h = rw (differs (codes "=") u 61 h refl) refl
no_longer punct.Ampersand u h = rw (differs (codes "&=") u 38 h refl, differs (codes "&=") u 61 h refl) refl
no_longer punct.VerticalBar u h = rw (differs (codes "|=") u 124 h refl, differs (codes "|=") u 61 h refl) refl
no_longer punct.Caret u h = rw (differs (codes "=") u 61 h refl) refl
no_longer punct.ExclamationMark u h = rw (differs (codes "=") u 61 h refl) refl
no_longer punct.SimpleAssign u h = rw (differs (codes "=") u 61 h refl) refl
no_longer punct.Slash u h = rw (differs (codes "=/*") u 61 h refl) refl
no_longer p u h = refl

-- ---- longer fronts

longer_front : (cs : List ℕ) (u : ℕ) (us ds tail : List ℕ) → cs ++ u ∷ us ≡ ds ++ tail → length cs < length ds → is_front (cs ++ u ∷ []) ds ≡ true
longer_front cs u us [] tail e l = absurd (omega arith)
longer_front [] u us (d ∷ ds) tail e l = let same : u ≡ d = cc in grind (arith, nat_tests)
longer_front (c ∷ cs) u us (d ∷ ds) tail e l =
    let same : c ≡ d = cc in
    let test : (d == c) ≡ true = grind (arith, nat_tests) in
    let rest : cs ++ u ∷ us ≡ ds ++ tail = cc in
    rw test (longer_front cs u us ds tail rest (omega arith))

-- a text does not begin with a unit that the punctuator refuses
abbrev pub Ends : Sign → List ℕ → Type 0
Ends p rest = begins_with (has (refused_behind (Punct p))) rest ≡ false

longest : (p : Sign) (rest : List ℕ) → Ends p rest → (other : Sign) (tail : List ℕ) → punct_text p ++ rest ≡ punct_text other ++ tail → length (punct_text other) ≤ length (punct_text p)
longest p [] e other tail is =
    let same : length (punct_text p ++ []) ≡ length (punct_text other ++ tail) = ap length is in
    omega (arith, length-append (punct_text p) [], length-append (punct_text other) tail)
longest p (u ∷ us) e other tail is = ⊎_elim too_long (λ h. h) (cases_lt (length (punct_text p)) (length (punct_text other)))
  where
    too_long : length (punct_text p) < length (punct_text other) → length (punct_text other) ≤ length (punct_text p)
    too_long l =
        let longer = longer_front (punct_text p) u us (punct_text other) tail is l in
        let shorter = none_of_all (goes_on p u) (no_longer p u e) other in
        absurd (cc)

no_comment : (p : Sign) (rest : List ℕ) → Ends p rest → opens_comment (punct_text p ++ rest) ≡ false
no_comment punct.Slash [] e = refl
no_comment punct.Slash (u ∷ us) e = refused_by (u == 61) (u == 47) (u == 42) e
  where
    refused_by : (a b c : Bool) → (a || (b || (c || false))) ≡ false → (b || c) ≡ false
    refused_by a false false e = refl
    refused_by true true c e = absurd (cc)
    refused_by true b true e = absurd (cc)
    refused_by false true c e = absurd (cc)
    refused_by false false true e = absurd (cc)
no_comment p rest e = refl

pub sign_stands : (p : Sign) (rest : List ℕ) → Ends p rest → StandsAt (punct_text p ++ rest) rest p
sign_stands p rest e = record { spelled = refl; longest = longest p rest e; no_comment = no_comment p rest e }

pub no_gap_before_sign : (p : Sign) (rest : List ℕ) → Ends p rest → separator_of (punct_text p ++ rest) ≡ None
unfolding separator_of is_white_space is_line_end
no_gap_before_sign punct.Slash [] e = refl
no_gap_before_sign punct.Slash (u ∷ us) e =
    let line : (u == 47) ≡ false = grind (arith, nat_tests) in
    let block : (u == 42) ≡ false = grind (arith, nat_tests) in
    rw (line, block) refl
no_gap_before_sign p rest e = refl
