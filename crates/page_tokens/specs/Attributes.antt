-- The attributes of a start tag.
use Rattle.std.specs.Prelude.{◌≡◌, ℕ, ◌==◌, if◌then◌else◌, List, [], ◌∷◌, Option, Some, None}
use Rattle.dom_tree.specs.Name.{folded, is_name_part, is_name_start}
use Rattle.page_tokens.specs.Characters.{behind, begins_with, is_other, is_quote, is_space, is_value_part, run_of}
use Rattle.page_tokens.specs.References.{Decodes}

-- a value as it is written, and what stands behind it
abbrev pub Written : Type 0
Written = Option (List ℕ × List ℕ)

-- a name and a value as they are written, and what stands behind them
abbrev pub Attribute : Type 0
Attribute = Option (List ℕ × List ℕ × List ℕ)

-- what stands before the closing quote, where there is one
abbrev pub closed : List ℕ → List ℕ → Written
closed raw [] = None
closed raw (quote ∷ us) = Some (raw, us)

-- a value in quotes of one kind, or a longest run of one character or more
unfoldable pub value_of : List ℕ → Written
value_of [] = None
value_of (u ∷ us) =
    if is_quote u then closed (run_of (is_other u) us) (behind (is_other u) us)
    else (if is_value_part u then Some (run_of is_value_part (u ∷ us), behind is_value_part (u ∷ us)) else None)

abbrev pub with_value : List ℕ → Written → Attribute
with_value name None = None
with_value name (Some (raw, us)) = Some (name, raw, us)

-- a name, what stands behind it, and the same without white space: `=` and a value, or nothing
abbrev pub valued : List ℕ → List ℕ → List ℕ → Attribute
valued name us [] = Some (name, [], us)
valued name us (v ∷ vs) = if v == 61 then with_value name (value_of (behind is_space vs)) else Some (name, [], us)

abbrev pub named : List ℕ → Attribute
named us =
    if begins_with is_name_start us then valued (run_of is_name_part us) (behind is_name_part us) (behind is_space (behind is_name_part us))
    else None

-- the attribute with which a text begins: white space, a name, and maybe white space, `=`, white space and a value
unfoldable pub attribute_of : List ℕ → Attribute
attribute_of us = if begins_with is_space us then named (behind is_space us) else None

-- the attributes with which a text begins, as many as there are: what stands behind them, and their names in lower case
-- with what their values stand for
pub data Attributes : List ℕ → List ℕ → List (List ℕ × List ℕ) → Type 0 where
  none : (text : List ℕ) → attribute_of text ≡ None → Attributes text text []
  more : (text behind rest name raw value : List ℕ) (others : List (List ℕ × List ℕ)) → attribute_of text ≡ Some (name, raw, behind) → Decodes raw value → Attributes behind rest others → Attributes text rest ((folded name, value) ∷ others)
