-- From bytes to the text of a page.
use Rattle.std.proofs.Common.{◌≡◌, ◌∙◌, ℕ, ◌+◌, ◌<◌, ◌==◌, Bool, true, false, cond, List, [], ◌∷◌, length, refl, sym, ap, subst, arith}
use Rattle.std.proofs.lemmas.Bool.Decides.{nat_tests}
use Rattle.std.specs.Str.{IsUtf8}
use Rattle.js_core.specs.Text.{Text, utf16_of}
use Rattle.dom_tree.specs.Node.{Nodes}
use Rattle.page_tokens.specs.declared.token.RawText.{RawText}
use Rattle.page_reader.specs.declared.page.ScriptText.{ScriptText}
use Rattle.page_reader.specs.Bytes.{IsPageOf, IsTextPage, IsUnitsPage}
use Rattle.page_reader.specs.Text.{mark_size, size_of, unit_size, with_line_feeds, without_mark}
use Rattle.page_reader.proofs.Sizes.{bytes_size}

same_unit : (u k : ℕ) → (u == k) ≡ true → u ≡ k
same_unit u k e = grind (arith, nat_tests)

mark_all : (us : Text) → mark_size us + size_of (without_mark us) ≡ size_of us
mark_all [] = refl
mark_all (u ∷ us) = by_case (u == 65279) refl
  where
    by_case : (b : Bool) → (u == 65279) ≡ b → cond b 3 0 + size_of (cond b us (u ∷ us)) ≡ size_of (u ∷ us)
    by_case true e = let is = ap unit_size (same_unit u 65279 e) in omega (arith, is)
    by_case false e = omega arith

pub mark_short : (us inner : Text) (skipped limit : ℕ) → skipped ≡ mark_size us → inner ≡ without_mark us → size_of us < limit → skipped + size_of inner < limit
mark_short us inner skipped limit s i h = let all = mark_all us in let g = ap size_of i in omega (arith, all, s, g, h)

pub units_refused : (units inner text : Text) → inner ≡ without_mark units → text ≡ with_line_feeds inner → ((nodes : Nodes) (raws : List RawText) → IsTextPage text nodes raws → ⊥) → (nodes : Nodes) (scripts : List ScriptText) → IsUnitsPage units nodes scripts → ⊥
units_refused units inner text i t none nodes scripts p =
    none nodes p.raws (subst (λ x. IsTextPage x nodes p.raws) (sym (t ∙ ap with_line_feeds i)) p.text)

pub units_short : (bytes text units : Text) (limit : ℕ) → IsUtf8 bytes → text ≡ bytes → units ≡ utf16_of text → length bytes < limit → size_of units < limit
units_short bytes text units limit u t e h = let s = bytes_size bytes u in let g = ap size_of (e ∙ ap utf16_of t) in omega (arith, s, g, h)

pub bytes_refused : (bytes text units : Text) → text ≡ bytes → units ≡ utf16_of text → ((nodes : Nodes) (scripts : List ScriptText) → IsUnitsPage units nodes scripts → ⊥) → (nodes : Nodes) (scripts : List ScriptText) → IsPageOf bytes nodes scripts → ⊥
bytes_refused bytes text units t e none nodes scripts p =
    none nodes scripts (subst (λ x. IsUnitsPage x nodes scripts) (sym (e ∙ ap utf16_of t)) p.units)
