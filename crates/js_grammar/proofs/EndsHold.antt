-- Where a statement is read to its end, the grammar has an end.
use Rattle.std.proofs.Common.{◌≡◌, Bool, true, false, List, [], ◌∷◌, Option, Some, refl, sym, subst, ◌⊎◌, inl, inr}
use Rattle.std.specs.Prelude.{not, ◌&&◌, ◌||◌}
use Rattle.js_core.specs.declared.token.Punct.TheVariants as p
use Rattle.js_grammar.specs.declared.sign.Sign.{Sign}
use Rattle.js_grammar.specs.declared.sign.Sign.TheVariants.{Mark}
use Rattle.js_grammar.specs.Symbols.{Lexeme, sign_of, is_sign}
use Rattle.js_grammar.specs.Operators.{is_suffix}
use Rattle.js_grammar.specs.Parser.{tail, sees}
use Rattle.js_grammar.specs.Endings.{Ending, after_expression, after_name, after_all, continues, goes_on, is_right_brace, ends_before, may_end}
use Rattle.js_grammar.specs.Statements.{End, semicolon, automatic}
use Rattle.js_grammar.specs.StatementReader.{ended, read_expression}
use Rattle.js_grammar.proofs.Holds.{Holds, ok, err, either_holds, seen}
use Rattle.js_grammar.proofs.Stops.{Quiet}
use Rattle.js_grammar.proofs.EndsRead.{why_ends, forgets}
use Rattle.js_grammar.proofs.Booleans.{or_true}

-- an expression that was read to its end
abbrev pub ReadToEnd : Ending → List Lexeme → Type 0
ReadToEnd (after_expression g) z = Quiet g z
ReadToEnd after_name z = Unit {0}
ReadToEnd after_all z = Unit {0}

ends_too : (g : Bool) (z : List Lexeme) → Quiet g z → may_end read_expression z ≡ true → may_end (after_expression g) z ≡ true
ends_too g [] q h = refl
ends_too g (t ∷ ts) q h = by (sign_of t.0) t.1 (λ e. (q e).0) (why_ends read_expression (sign_of t.0) t.1 h)
  where
    none : (g : Bool) (goes suffix : Bool) → (g ≡ true → suffix ≡ false) → goes && not suffix ≡ false → goes && (g || not suffix) ≡ false
    none true goes suffix q e = subst (λ b. goes && not b ≡ false) (q refl) e
    none false goes suffix q e = e

    by : (s : Option Sign) (l : Bool) → (g ≡ true → is_suffix true s ≡ false) → (s ≡ Some (Mark p.RightBrace)) ⊎ ((l ≡ true) × (is_sign (Mark p.Semicolon) s ≡ false) × (continues read_expression s ≡ false)) → ends_before (after_expression g) s l ≡ true
    by s l quiet (inl r) = rw r refl
    by s l quiet (inr r) = rw (r.0, r.1, none g (goes_on s) (is_suffix true s) quiet r.2) (or_true (is_right_brace s))

may_end_too : (e : Ending) (z : List Lexeme) → ReadToEnd e z → may_end (forgets e) z ≡ true → may_end e z ≡ true
may_end_too (after_expression g) z q h = ends_too g z q h
may_end_too after_name z q h = h
may_end_too after_all z q h = h

pub end_holds : (e : Ending) (x : List Lexeme) → ReadToEnd e x → Holds (λ u z. End e x z) (ended (forgets e) x)
unfolding ended
end_holds e x q =
    either_holds (sees (Mark p.Semicolon) x)
    (λ i. let c = seen (Mark p.Semicolon) x i in ok (subst (λ v. End e v (tail x)) (sym c.1) semicolon))
    (λ n. either_holds (may_end (forgets e) x) (λ h. ok (automatic (may_end_too e x q h))) (λ h. err))
