-- White space and line ends.
use Rattle.std.specs.Prelude.{ℕ, Bool, ◌||◌}
use Rattle.std.specs.Int.{is_in_range}

-- TAB, VT, FF, SP, NBSP, BOM and the separators of Unicode's class Zs (ECMA-262 5.1 section 7.2)
unfoldable pub is_white_space : ℕ → Bool
is_white_space u =
    is_in_range 9 9 u || is_in_range 11 12 u || is_in_range 32 32 u || is_in_range 160 160 u || is_in_range 5760 5760 u
    || is_in_range 8192 8202 u || is_in_range 8239 8239 u || is_in_range 8287 8287 u || is_in_range 12288 12288 u
    || is_in_range 65279 65279 u

-- LF, CR, LS and PS (section 7.3)
unfoldable pub is_line_end : ℕ → Bool
is_line_end u = is_in_range 10 10 u || is_in_range 13 13 u || is_in_range 8232 8233 u
