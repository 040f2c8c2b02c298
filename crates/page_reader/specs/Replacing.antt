-- Pages whose scripts' texts are replaced.
use Rattle.std.specs.Prelude.{◌≡◌, ℕ, ◌-◌, ◌==◌, false, List, [], ◌∷◌, ◌++◌, map, take, drop, codes}
use Rattle.std.specs.List.{list_any}
use Rattle.std.specs.Str.{IsUtf8}
use Rattle.js_core.specs.Text.{Text, utf16_of}
use Rattle.dom_tree.specs.Node.{Nodes}
use Rattle.page_tokens.specs.Laws.{has_end_tag}
use Rattle.page_reader.specs.declared.page.Place.{Place}
use Rattle.page_reader.specs.declared.page.ScriptText.{ScriptText}
use Rattle.page_reader.specs.Bytes.{IsPageOf}
use Rattle.page_reader.specs.Text.{has_zero, mark_size}

-- the bytes between two places
abbrev pub part : List ℕ → ℕ → ℕ → List ℕ
part bytes from to = take (to - from) (drop from bytes)

-- the mark with which a form page begins
abbrev pub form_mark : List ℕ
form_mark = codes "<!--imagen 1-->"

-- where scripts stand
abbrev pub places_of : List ScriptText → List Place
places_of scripts = map (λ s. s.place) scripts

-- the bytes from a place on, with a text in each of the places behind it
abbrev pub replaced_from : ℕ → List ℕ → List Place → List (List ℕ) → List ℕ
replaced_from from bytes [] texts = drop from bytes
replaced_from from bytes (place ∷ places) [] = drop from bytes
replaced_from from bytes (place ∷ places) (text ∷ texts) =
    part bytes from place.start ++ (text ++ replaced_from place.end bytes places texts)

-- the bytes with a text in each place
abbrev pub replaced : List ℕ → List Place → List (List ℕ) → List ℕ
replaced bytes places texts = replaced_from 0 bytes places texts

-- the mark of a form page and the bytes without a byte order mark, with a text in each place
abbrev pub as_form_page : List ℕ → List Place → List (List ℕ) → List ℕ
as_form_page bytes places texts = form_mark ++ replaced_from (mark_size (utf16_of bytes)) bytes places texts

-- bytes that may be a script's text: UTF-8 without U+0000, without CR, and without an end tag of a script in any case
pub record IsScriptBytes (bytes : List ℕ) : Type 0 where
  pub utf8 : IsUtf8 bytes
  pub no_zero : has_zero (utf16_of bytes) ≡ false
  pub no_return : list_any (λ u. u == 13) (utf16_of bytes) ≡ false
  pub no_end : has_end_tag (codes "script") (utf16_of bytes) ≡ false

-- such bytes, as many as there are scripts
abbrev pub AreScriptBytes : List ScriptText → List (List ℕ) → Type 0
AreScriptBytes [] [] = Unit {0}
AreScriptBytes (script ∷ scripts) (text ∷ texts) = IsScriptBytes text × AreScriptBytes scripts texts
AreScriptBytes [] (text ∷ texts) = ⊥
AreScriptBytes (script ∷ scripts) [] = ⊥

-- the bytes are those of a page with these nodes and these texts of scripts
pub record IsReadAs (bytes : List ℕ) (nodes : Nodes) (texts : List Text) : Type 0 where
  pub scripts : List ScriptText
  pub page : IsPageOf bytes nodes scripts
  pub texts_are : map (λ s. s.text) scripts ≡ texts
