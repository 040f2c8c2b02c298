-- What begins with `<`: tags, comments, doctypes and raw text.
use Rattle.std.specs.Prelude.{ℕ, ◌+◌, Bool, true, false, ◌||◌, ◌&&◌, ◌==◌, if◌then◌else◌, List, [], ◌∷◌, drop, length, Option, Some, None, bytes_eq, codes}
use Rattle.dom_tree.specs.Name.{is_name_part}
use Rattle.page_tokens.specs.declared.opening.Opening.{Opening}
use Rattle.page_tokens.specs.declared.opening.Opening.TheVariants.{Characters, Comment, Doctype, EndTag, Nothing, StartTag}
use Rattle.page_tokens.specs.Characters.{before, begins_with, behind, from, is_front, is_front_in_any_case, is_letter, is_other, is_space, run_of}

-- what stands behind `<!`
abbrev pub declaration : List ℕ → Opening
declaration us =
    if is_front (codes "--") us then Comment
    else (if is_front_in_any_case (codes "doctype") us then Doctype else Nothing)

-- what stands behind `<`
abbrev pub markup : List ℕ → Opening
markup [] = Nothing
markup (u ∷ us) =
    if is_letter u then StartTag else (if u == 47 then EndTag else (if u == 33 then declaration us else Nothing))

-- what a text opens with
unfoldable pub opening_of : List ℕ → Opening
opening_of [] = Nothing
opening_of (u ∷ us) = if u == 60 then markup us else Characters

-- what stands behind a doctype, from what stands behind `<!doctype`
abbrev pub behind_doctype : List ℕ → Option (List ℕ)
behind_doctype [] = None
behind_doctype (u ∷ us) = Some us

abbrev pub doctype_of : List ℕ → Option (List ℕ)
doctype_of us = behind_doctype (behind (is_other 62) us)

abbrev pub closes_comment : List ℕ → Bool
closes_comment us = is_front (codes "-->") us

abbrev pub behind_comment : List ℕ → List ℕ → Option (List ℕ × List ℕ)
behind_comment inner [] = None
behind_comment inner (u ∷ us) = Some (inner, drop 2 us)

-- the text of a comment and what stands behind it, from what stands behind `<!--`
abbrev pub comment_of : List ℕ → Option (List ℕ × List ℕ)
comment_of us = behind_comment (before closes_comment us) (from closes_comment us)

-- how a start tag ends, behind white space: whether `/` stands before `>`, and what stands behind it
abbrev pub slash_close : List ℕ → Option (Bool × List ℕ)
slash_close [] = None
slash_close (u ∷ us) = if u == 62 then Some (true, us) else None

abbrev pub tag_close : List ℕ → Option (Bool × List ℕ)
tag_close [] = None
tag_close (u ∷ us) = if u == 62 then Some (false, us) else (if u == 47 then slash_close us else None)

unfoldable pub tag_end : List ℕ → Option (Bool × List ℕ)
tag_end us = tag_close (behind is_space us)

-- what stands behind white space and `>`
abbrev pub close : List ℕ → Option (List ℕ)
close [] = None
close (u ∷ us) = if u == 62 then Some us else None

abbrev pub behind_close : List ℕ → Option (List ℕ)
behind_close us = close (behind is_space us)

-- this, and what stands behind it
abbrev pub paired : List ℕ → Option (List ℕ) → Option (List ℕ × List ℕ)
paired front None = None
paired front (Some us) = Some (front, us)

-- the name of an end tag and what stands behind it, from what stands behind `</`: a name that begins with a letter, white
-- space and `>`
unfoldable pub end_tag_of : List ℕ → Option (List ℕ × List ℕ)
end_tag_of us =
    if begins_with is_letter us then paired (run_of is_name_part us) (behind_close (behind is_name_part us)) else None

-- the elements with raw text
abbrev pub has_raw_text : List ℕ → Bool
has_raw_text name = bytes_eq name (codes "script") || bytes_eq name (codes "style")

-- white space, `/` or `>`
abbrev pub ends_name : ℕ → Bool
ends_name u = is_space u || (u == 47) || (u == 62)

-- `</`, the name in whatever case, and what ends a name: there raw text ends
abbrev pub ends_raw_text : List ℕ → List ℕ → Bool
ends_raw_text name us =
    is_front (codes "</") us && is_front_in_any_case name (drop 2 us) && begins_with ends_name (drop (2 + length name) us)

-- the raw text of an element with this name, and what stands behind its end tag
unfoldable pub raw_text_of : List ℕ → List ℕ → Option (List ℕ × List ℕ)
raw_text_of name us =
    paired (before (ends_raw_text name) us) (behind_close (drop (2 + length name) (from (ends_raw_text name) us)))
