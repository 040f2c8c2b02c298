-- White space round a text, as conversions take it (ECMA-262 5.1 section 9.3.1).
use Rattle.std.specs.Prelude.{ℕ, Bool, ◌||◌, List, drop, reverse}
use Rattle.std.specs.List.{prefix_len}
use Rattle.js_core.specs.Characters.{is_white_space, is_line_end}

-- StrWhiteSpaceChar: white space and line ends (sections 7.2 and 7.3)
abbrev pub is_str_white_space : ℕ → Bool
is_str_white_space u = is_white_space u || is_line_end u

-- what stands behind the units of which p holds, where the text begins with such
abbrev pub behind : (ℕ → Bool) → List ℕ → List ℕ
behind p t = drop (prefix_len p t) t

unfoldable pub trimmed : List ℕ → List ℕ
trimmed t = reverse (behind is_str_white_space (reverse (behind is_str_white_space t)))
