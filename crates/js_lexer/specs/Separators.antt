-- What stands between tokens: white space, line ends and comments.
use Rattle.std.specs.Prelude.{◌≡◌, ℕ, Bool, true, false, not, ◌||◌, ◌&&◌, ◌==◌, if◌then◌else◌, List, [], ◌∷◌, drop, Option, Some, None}
use Rattle.std.specs.List.{prefix_len}
use Rattle.js_core.specs.Characters.{is_white_space, is_line_end}
use Rattle.js_lexer.specs.Characters.{begins_with}

-- a line end stands before this part too, or not
abbrev pub with_line_end : Bool → Option (Bool × List ℕ) → Option (Bool × List ℕ)
with_line_end line None = None
with_line_end line (Some (later, rest)) = Some (line || later, rest)

-- whether a line end stands before the first `*/` of a text, and what stands behind it (section 7.4)
abbrev pub behind_comment : List ℕ → Option (Bool × List ℕ)
behind_comment [] = None
behind_comment (u ∷ us) =
    if (u == 42) && begins_with (λ v. v == 47) us then Some (false, drop 1 us)
    else with_line_end (is_line_end u) (behind_comment us)

-- a text without its first line
abbrev pub behind_line : List ℕ → List ℕ
behind_line us = drop (prefix_len (λ u. not (is_line_end u)) us) us

-- the same behind a `/`: the comment that it opens goes on to its line's end, or from a `*` to the first `*/`
abbrev pub comment_of : List ℕ → Option (Bool × List ℕ)
comment_of [] = None
comment_of (u ∷ us) =
    if u == 47 then Some (false, behind_line us) else (if u == 42 then behind_comment us else None)

-- the white space, line end or comment with which a text begins: whether a line end stands in it, and what stands
-- behind it
unfoldable pub separator_of : List ℕ → Option (Bool × List ℕ)
separator_of [] = None
separator_of (u ∷ us) =
    if is_white_space u then Some (false, us)
    else (if is_line_end u then Some (true, us) else (if u == 47 then comment_of us else None))

-- the text begins with white space, line ends and comments, as many as there are: what stands behind them, and whether
-- a line end stands in them
pub data Gap : List ℕ → List ℕ → Bool → Type 0 where
  none : (text : List ℕ) → separator_of text ≡ None → Gap text text false
  more : (text behind rest : List ℕ) (line later : Bool) → separator_of text ≡ Some (line, behind) → Gap behind rest later → Gap text rest (line || later)
