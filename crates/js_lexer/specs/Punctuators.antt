-- Punctuators (section 7.7).
use Rattle.std.specs.Prelude.{◌≡◌, ◌≤◌, ◌++◌, length, ℕ, Bool, false, ◌||◌, ◌&&◌, ◌==◌, List, [], ◌∷◌}
use Rattle.js_core.specs.Spelling.{punct_text}
use Rattle.js_core.specs.declared.token.Punct.{Punct}
use Rattle.js_lexer.specs.Characters.{begins_with}

-- the text opens a comment, and so begins with no punctuator (section 7.4)
abbrev pub opens_comment : List ℕ → Bool
opens_comment [] = false
opens_comment (u ∷ us) = (u == 47) && begins_with (λ v. (v == 47) || (v == 42)) us

-- the longest punctuator with which the text begins, where no comment stands, and what stands behind it
pub record StandsAt (text rest : List ℕ) (punct : Punct) : Type 0 where
  pub spelled : text ≡ punct_text punct ++ rest
  pub longest : (other : Punct) (tail : List ℕ) → text ≡ punct_text other ++ tail → length (punct_text other) ≤ length (punct_text punct)
  pub no_comment : opens_comment text ≡ false
