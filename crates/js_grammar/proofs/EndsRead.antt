-- The ends of statements are read as the grammar has them.
use Rattle.std.proofs.Common.{◌≡◌, Bool, true, false, List, [], ◌∷◌, Option, Some, None, refl, sym, subst, ◌∙◌, ◌⊎◌, inl, inr}
use Rattle.std.proofs.lemmas.Bool.{and_parts, not-true, or_cases, or_parts}
use Rattle.std.specs.Prelude.{not, ◌||◌, ◌&&◌}
use Rattle.js_core.specs.declared.token.Punct.TheVariants as p
use Rattle.js_grammar.specs.declared.sign.Sign.{Sign}
use Rattle.js_grammar.specs.declared.sign.Sign.TheVariants.{Mark, Word}
use Rattle.js_grammar.specs.Symbols.{Symbol, Lexeme, sign_of, sign_at, is_sign}
use Rattle.js_grammar.specs.Operators.{sequence, climbs, is_later, is_suffix, step_of}
use Rattle.js_grammar.specs.Parser.{sees}
use Rattle.js_grammar.specs.ExpressionReader.{in_line}
use Rattle.js_grammar.specs.Endings.{Ending, after_expression, after_name, after_all, continues_name, continues, goes_on, is_right_brace, ends_before, may_end}
use Rattle.js_grammar.specs.Statements.{End, semicolon, automatic}
use Rattle.js_grammar.specs.StatementReader.{ended, read_expression}
use Rattle.js_grammar.proofs.Continues.{continues_by_operators}
use Rattle.js_grammar.proofs.Stops.{Stops}
use Rattle.js_grammar.proofs.Booleans.{or_true}

brace_is : (s : Option Sign) → is_right_brace s ≡ true → s ≡ Some (Mark p.RightBrace)
brace_is None e = absurd (cc)
brace_is (Some (Mark p.RightBrace)) e = refl
brace_is (Some (Mark _)) e = absurd (cc)
brace_is (Some (Word _)) e = absurd (cc)

-- why a statement may end here
pub why_ends : (e : Ending) (s : Option Sign) (l : Bool) → ends_before e s l ≡ true → (s ≡ Some (Mark p.RightBrace)) ⊎ ((l ≡ true) × (is_sign (Mark p.Semicolon) s ≡ false) × (continues e s ≡ false))
why_ends e s l h = by (or_cases (is_right_brace s) _ h)
  where
    by : (is_right_brace s ≡ true) ⊎ (l && not (is_sign (Mark p.Semicolon) s || continues e s) ≡ true) → (s ≡ Some (Mark p.RightBrace)) ⊎ ((l ≡ true) × (is_sign (Mark p.Semicolon) s ≡ false) × (continues e s ≡ false))
    by (inl r) = inl (brace_is s r)
    by (inr r) =
        let both = and_parts l _ r in
        let none = or_parts (is_sign (Mark p.Semicolon) s) (continues e s) (not-true _ both.1) in
        inr (both.0, none.0, none.1)

no_semicolon : (e : Ending) (z : List Lexeme) → may_end e z ≡ true → is_sign (Mark p.Semicolon) (sign_at z) ≡ false
no_semicolon e [] h = refl
no_semicolon e (t ∷ ts) h = by (sign_of t.0) (why_ends e (sign_of t.0) t.1 h)
  where
    by : (s : Option Sign) → (s ≡ Some (Mark p.RightBrace)) ⊎ ((t.1 ≡ true) × (is_sign (Mark p.Semicolon) s ≡ false) × (continues e s ≡ false)) → is_sign (Mark p.Semicolon) s ≡ false
    by s (inl r) = rw r refl
    by s (inr r) = r.1

-- an ending with which fewer signs go on ends wherever the other does
ends_with_fewer : (e f : Ending) (z : List Lexeme) → ((s : Option Sign) → continues e s ≡ false → continues f s ≡ false) → may_end e z ≡ true → may_end f z ≡ true
ends_with_fewer e f [] fewer h = refl
ends_with_fewer e f (t ∷ ts) fewer h = by (sign_of t.0) t.1 (why_ends e (sign_of t.0) t.1 h)
  where
    by : (s : Option Sign) (l : Bool) → (s ≡ Some (Mark p.RightBrace)) ⊎ ((l ≡ true) × (is_sign (Mark p.Semicolon) s ≡ false) × (continues e s ≡ false)) → ends_before f s l ≡ true
    by s l (inl r) = rw r refl
    by s l (inr r) = rw (r.0, r.1, fewer s r.2) (or_true (is_right_brace s))

-- what the reader knows of an ending
abbrev pub forgets : Ending → Ending
forgets (after_expression grows) = read_expression
forgets after_name = after_name
forgets after_all = after_all

fewer : (grows goes no_suffix : Bool) → goes && (grows || no_suffix) ≡ false → goes && no_suffix ≡ false
fewer grows false no_suffix h = refl
fewer false true no_suffix h = h
fewer true true no_suffix h = absurd (cc)

forgets_fewer : (e : Ending) (s : Option Sign) → continues e s ≡ false → continues (forgets e) s ≡ false
forgets_fewer (after_expression grows) s h = fewer grows (goes_on s) (not (is_suffix true s)) h
forgets_fewer after_name s h = h
forgets_fewer after_all s h = h

pub end_reads : {e : Ending} {x z : List Lexeme} → End e x z → ended (forgets e) x ≡ Some (tt, z)
unfolding ended sees
end_reads semicolon = refl
end_reads {e} (automatic {z = z} h) = rw (no_semicolon e z h, ends_with_fewer e (forgets e) z (forgets_fewer e) h) refl

-- ---- what ends a statement ends its last expression

quiet_by : (g l : Bool) (s : Symbol) (ts : List Lexeme) → ends_before (after_expression g) (sign_of s) l ≡ true → Stops true sequence g ((s, l) ∷ ts)
unfolding sees
quiet_by g l s ts h = by (sign_of s) (why_ends (after_expression g) (sign_of s) l h)
  where
    rest : g ≡ true → (b : Bool) → g && b ≡ false → b ≡ false
    rest t b e = subst (λ c. c && b ≡ false) t e

    in_new_line : (o : Option Bool) → l ≡ true → in_line o l ≡ None
    in_new_line None t = refl
    in_new_line (Some up) t = rw t refl

    by : (o : Option Sign) → (o ≡ Some (Mark p.RightBrace)) ⊎ ((l ≡ true) × (is_sign (Mark p.Semicolon) o ≡ false) × (continues (after_expression g) o ≡ false)) → (g ≡ true → (is_suffix true o ≡ false) × (in_line (step_of o) l ≡ None)) × (climbs true 1 o ≡ false) × (is_later o ≡ false) × (is_sign (Mark p.Comma) o ≡ false)
    by o (inl r) = ((λ t. (rw r refl, rw r refl)), rw r refl, rw r refl, rw r refl)
    by o (inr r) =
        let parts = or_parts (g && is_suffix true o) (climbs true 1 o || (is_later o || is_sign (Mark p.Comma) o)) (sym (continues_by_operators g o) ∙ r.2) in
        let first = or_parts (climbs true 1 o) (is_later o || is_sign (Mark p.Comma) o) parts.1 in
        let second = or_parts (is_later o) (is_sign (Mark p.Comma) o) first.1 in
        ((λ t. (rest t (is_suffix true o) parts.0, in_new_line (step_of o) r.0)), first.0, second.0, second.1)

pub end_stops : {g : Bool} {y z : List Lexeme} → End (after_expression g) y z → Stops true sequence g y
unfolding sees
end_stops semicolon = ((λ t. (refl, refl)), refl, refl, refl)
end_stops (automatic {z = []} h) = ((λ t. (refl, refl)), refl, refl, refl)
end_stops {g} (automatic {z = t ∷ ts} h) = quiet_by g t.1 t.0 ts h

-- a declarator's name is not followed by what goes on with it
pub name_stops : {y z : List Lexeme} → End after_name y z → (is_sign (Mark p.SimpleAssign) (sign_at y) ≡ false) × (is_sign (Mark p.Comma) (sign_at y) ≡ false)
name_stops semicolon = (refl, refl)
name_stops (automatic {z = []} h) = (refl, refl)
name_stops (automatic {z = t ∷ ts} h) = by (sign_of t.0) (why_ends after_name (sign_of t.0) t.1 h)
  where
    none : (s : Option Sign) → continues_name s ≡ false → (is_sign (Mark p.SimpleAssign) s ≡ false) × (is_sign (Mark p.Comma) s ≡ false)
    none None e = (refl, refl)
    none (Some (Mark p.SimpleAssign)) e = absurd (cc)
    none (Some (Mark p.Comma)) e = absurd (cc)
    none (Some (Mark _)) e = (refl, refl)
    none (Some (Word _)) e = (refl, refl)

    by : (s : Option Sign) → (s ≡ Some (Mark p.RightBrace)) ⊎ ((t.1 ≡ true) × (is_sign (Mark p.Semicolon) s ≡ false) × (continues after_name s ≡ false)) → (is_sign (Mark p.SimpleAssign) s ≡ false) × (is_sign (Mark p.Comma) s ≡ false)
    by s (inl r) = (rw r refl, rw r refl)
    by s (inr r) = none s r.2
