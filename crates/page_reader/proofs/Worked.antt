-- The worked example is as it says, by computing.
use Rattle.std.proofs.Common.{◌≡◌, [], refl}
use Rattle.page_reader.specs.Replacing.{replaced}
use Rattle.page_reader.specs.Worked.{page, places, texts, replaced_page}

pub page_is_replaced : (replaced page places texts ≡ replaced_page) × (replaced page [] [] ≡ page)
page_is_replaced = (refl, refl)
