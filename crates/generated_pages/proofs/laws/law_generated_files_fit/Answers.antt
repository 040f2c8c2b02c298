use Rattle.generated_pages.proofs.Sizes.{files_fit}
use Rattle.generated_pages.proofs.laws.law_generated_files_fit.Goals as goal

pub returns : goal.returns
returns c = files_fit
