-- What laws say of tokens.
use Rattle.std.specs.Prelude.{◌≡◌, ℕ, ◌+◌, Bool, true, false, ◌||◌, ◌==◌, List, [], ◌∷◌, ◌++◌, length}
use Rattle.page_tokens.specs.declared.token.PageToken.{PageToken}
use Rattle.page_tokens.specs.declared.token.PageToken.TheVariants.{Space, Text}
use Rattle.page_tokens.specs.Characters.{is_front_in_any_case}
use Rattle.page_tokens.specs.Tokens.{TokenAt}

-- the token is no text, which goes on to the first `<`
abbrev pub ends_itself : PageToken → Bool
ends_itself (Space v) = false
ends_itself (Text v) = false
ends_itself t = true

-- the text is empty, or begins with `<`
abbrev pub opens_markup : List ℕ → Bool
opens_markup [] = true
opens_markup (u ∷ us) = u == 60

-- the token has a part of the text for itself, and stands there also where another text stands behind it, which is to open
-- markup where the token is text. The sizes say that it stands at the same place.
pub record StaysAt (size : ℕ) (text rest : List ℕ) (token : PageToken) : Type 0 where
  pub front : List ℕ
  pub is_front : text ≡ front ++ rest
  pub ends : (ends_itself token || opens_markup rest) ≡ true
  pub stays : (other : ℕ) (more : List ℕ) → (ends_itself token || opens_markup more) ≡ true → other + length text ≡ size + length (front ++ more) → TokenAt other (front ++ more) more token

-- the end tag of an element with this name begins somewhere in the text, in whatever case
abbrev pub has_end_tag : List ℕ → List ℕ → Bool
has_end_tag name [] = false
has_end_tag name (u ∷ us) = is_front_in_any_case (60 ∷ 47 ∷ name) (u ∷ us) || has_end_tag name us
