-- Which tags a page may have.
use Rattle.std.specs.Prelude.{Bool, true, false, not, ◌||◌, ◌&&◌, ◌==◌, List, [], ◌∷◌, Option, Some, None, bytes_eq, codes, is_none}
use Rattle.std.specs.List.{list_all, list_any}
use Rattle.js_core.specs.Text.{Text}
use Rattle.dom_tree.specs.Attributes.{Pairs, value_of}
use Rattle.dom_tree.specs.DomText.{is_void}
use Rattle.dom_tree.specs.Name.{folded, is_name}
use Rattle.page_tokens.specs.declared.token.Tag.{Tag}

-- elements whose content would be read by other rules
abbrev pub refused_names : List Text
refused_names =
    codes "frame" ∷ codes "frameset" ∷ codes "iframe" ∷ codes "noembed" ∷ codes "noframes" ∷ codes "noscript" ∷ codes "plaintext" ∷ codes "template" ∷ codes "xmp" ∷ []

-- the name begins with `on`
abbrev pub is_handler : Text → Bool
is_handler [] = false
is_handler (a ∷ []) = false
is_handler (a ∷ b ∷ us) = (a == 111) && (b == 110)

abbrev pub is_attribute : Text × Text → Bool
is_attribute a = is_name a.0 && not (is_handler a.0)

-- a script is one of the language where its type is absent, empty or one of these
abbrev pub is_script_type : Option Text → Bool
is_script_type None = true
is_script_type (Some []) = true
is_script_type (Some (u ∷ us)) =
    bytes_eq (folded (u ∷ us)) (codes "text/javascript") || bytes_eq (folded (u ∷ us)) (codes "application/javascript")

abbrev pub is_own_script : Pairs → Bool
is_own_script attributes = is_none (value_of (codes "src") attributes) && is_script_type (value_of (codes "type") attributes)

abbrev pub is_script : Text → Bool
is_script name = bytes_eq name (codes "script")

-- the element is none of the refused ones, no attribute is a handler, `/` closes void elements alone, and a script has no
-- source and a type of the language. That names are names holds of all tags of a page; it is said here for the document's sake.
unfoldable pub is_allowed : Tag → Bool
is_allowed tag =
    is_name tag.name && not (list_any (bytes_eq tag.name) refused_names) && list_all is_attribute tag.attributes
    && (not tag.closed || is_void tag.name) && (not (is_script tag.name) || is_own_script tag.attributes)
