-- A page while host events act on it.
use Rattle.std.specs.Prelude.{Bool}
use Rattle.page_meaning.specs.Store.{Store}

-- the page, and whether memory ran out
pub record Acting : Type 0 where
  pub page : Store
  pub is_spent : Bool
