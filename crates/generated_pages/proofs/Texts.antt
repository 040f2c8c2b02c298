-- The printed lexemes of that script, with a line end before each line but the first, are its text.
use Rattle.std.proofs.Common.{◌≡◌, ◌∙◌, ℕ, zero, suc, Bool, true, false, List, [], ◌∷◌, ◌++◌, refl, sym, ap, append_assoc, append-nil}
use Rattle.std.specs.Prelude.{codes, decimal}
use Rattle.std.specs.Fmt.{digits}
use Rattle.js_core.specs.Tree as tree
use Rattle.js_core.specs.Tree.{no_stmts, then_stmt}
use Rattle.js_core.specs.declared.token.Punct.TheVariants as punct
use Rattle.js_print.specs.declared.lexeme.Lexeme.{Lexeme}
use Rattle.js_print.specs.declared.lexeme.Lexeme.TheVariants.{Punct}
use Rattle.js_print.specs.Lexemes.{stmts_lexemes}
use Rattle.js_print.specs.Lined.{lined_after, lined_text, may_be_lined, opening as before_script}
use Rattle.page_maker.specs.Page.{call, calls, part_function as part_text, total_function as total_text}
use Rattle.generated_pages.proofs.Script.{after_calls, made_script, opened_by, part_call, start_of}

-- a line of so many lexemes and one, and those of other lines
abbrev line : Bool → ℕ → List Bool → List Bool
line new zero ls = new ∷ ls
line new (suc n) ls = new ∷ line false n ls

-- before which lexemes of the statements before the first part line ends stand
abbrev opening_lines : List Bool → List Bool
opening_lines ls =
    line false 1 (line true 9 (line true 39 (line true 24 (line true 10 (line true 26 (line true 8 (line true 18 (line true 22 (line true 59 ls)))))))))

abbrev after_lines : ℕ → List Bool → List Bool
after_lines zero ls = ls
after_lines (suc n) ls = after_lines n (line true 6 ls)

abbrev pub script_lines : ℕ → List Bool
script_lines n = opening_lines (after_lines n [])

-- ---- where line ends may stand

abbrev brace : Lexeme
brace = Punct punct.RightBrace

abbrev semicolon : Lexeme
semicolon = Punct punct.Semicolon

opening_may : (ls : List Bool) (ss : tree.Stmts) → may_be_lined brace ls (stmts_lexemes ss) ≡ true
    → may_be_lined before_script (opening_lines ls) (stmts_lexemes (opened_by ss)) ≡ true
opening_may ls ss h = h

call_may : (i k : ℕ) (ls : List Bool) (ss : tree.Stmts) → may_be_lined semicolon ls (stmts_lexemes ss) ≡ true
    → (may_be_lined semicolon (line true 6 ls) (stmts_lexemes (then_stmt (part_call i k) ss)) ≡ true)
    × (may_be_lined brace (line true 6 ls) (stmts_lexemes (then_stmt (part_call i k) ss)) ≡ true)
call_may i k ls ss h = (h, h)

abbrev May : List Bool → tree.Stmts → Type 0
May ls ss = (may_be_lined semicolon ls (stmts_lexemes ss) ≡ true) × (may_be_lined brace ls (stmts_lexemes ss) ≡ true)

calls_may : (n : ℕ) (ls : List Bool) (ss : tree.Stmts) → May ls ss → May (after_lines n ls) (after_calls n ss)
calls_may zero ls ss h = h
calls_may (suc n) ls ss h = calls_may n (line true 6 ls) (then_stmt (part_call (suc n) (start_of (suc n))) ss) (call_may (suc n) (start_of (suc n)) ls ss h.0)

pub script_may : (n : ℕ) → may_be_lined before_script (script_lines n) (stmts_lexemes (made_script n)) ≡ true
script_may n = opening_may (after_lines n []) (after_calls n no_stmts) (calls_may n [] no_stmts (refl, refl)).1

-- ---- the text

-- the text of the script of the page with n parts
abbrev pub script_text : ℕ → List ℕ
script_text n = codes "\"use strict\";\n" ++ (codes "var parts=[],sum=0;\n" ++ (part_text ++ (total_text ++ calls n)))

-- one LF after a text
abbrev ended : List ℕ → List ℕ
ended us = us ++ 10 ∷ []

call_is_lined : (i k : ℕ) (ls : List Bool) (ss : tree.Stmts) (us : List ℕ) → ended (lined_after false ls (stmts_lexemes ss)) ≡ 10 ∷ us
    → ended (lined_after false (line true 6 ls) (stmts_lexemes (then_stmt (part_call i k) ss))) ≡ 10 ∷ (call i k ++ us)
unfolding lib.Utf8.encode
call_is_lined i k ls ss us e =
    let rest = lined_after false ls (stmts_lexemes ss) in
    let closed : ended (decimal k ++ (codes ");" ++ rest)) ≡ (decimal k ++ codes ");\n") ++ us =
    append_assoc (decimal k) (codes ");" ++ rest) (10 ∷ []) ∙ ap (λ (t : List ℕ). decimal k ++ (codes ");" ++ t)) e ∙ sym (append_assoc (decimal k) (codes ");\n") us) in
    ap (λ (t : List ℕ). codes "\npart(" ++ t)
    (append_assoc (decimal i) (codes "," ++ (decimal k ++ (codes ");" ++ rest))) (10 ∷ []) ∙ ap (λ (t : List ℕ). decimal i ++ (codes "," ++ t)) closed
    ∙ sym (append_assoc (decimal i) (codes "," ++ (decimal k ++ codes ");\n")) us))

calls_are_lined : (n : ℕ) (ls : List Bool) (ss : tree.Stmts) (us : List ℕ) → ended (lined_after false ls (stmts_lexemes ss)) ≡ 10 ∷ us
    → ended (lined_after false (after_lines n ls) (stmts_lexemes (after_calls n ss))) ≡ 10 ∷ (calls n ++ us)
calls_are_lined zero ls ss us e = e
calls_are_lined (suc n) ls ss us e =
    let i = suc n in
    let k = start_of (suc n) in
    calls_are_lined n (line true 6 ls) (then_stmt (part_call i k) ss) (call i k ++ us) (call_is_lined i k ls ss us e)
    ∙ ap (λ (t : List ℕ). 10 ∷ t) (sym (append_assoc (calls n) (call i k) us))

-- the function that prints the sums, without its line end
abbrev without_end : List ℕ
without_end = codes "function total(){var s=0;parts.forEach(function(p){if(p.o.self===p.o){s=s+p.get();}});console.log(s,sum,parts.length);}"

opening_is_lined : (ls : List Bool) (ss : tree.Stmts) (us : List ℕ) → ended (lined_after false ls (stmts_lexemes ss)) ≡ 10 ∷ us
    → ended (lined_text (opening_lines ls) (stmts_lexemes (opened_by ss))) ≡ codes "\"use strict\";\n" ++ (codes "var parts=[],sum=0;\n" ++ (part_text ++ (total_text ++ us)))
unfolding lib.Utf8.encode digits
opening_is_lined ls ss us e = ap (λ (t : List ℕ). codes "\"use strict\";\n" ++ (codes "var parts=[],sum=0;\n" ++ (part_text ++ (without_end ++ t)))) e

pub script_is_lined : (n : ℕ) → lined_text (script_lines n) (stmts_lexemes (made_script n)) ++ 10 ∷ [] ≡ script_text n
script_is_lined n =
    opening_is_lined (after_lines n []) (after_calls n no_stmts) (calls n) (calls_are_lined n [] no_stmts [] refl ∙ ap (λ (t : List ℕ). 10 ∷ t) (append-nil (calls n)))
