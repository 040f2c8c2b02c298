use Rattle.page_reader.proofs.ScriptUnits.{scripts_have_units}
use Rattle.page_reader.proofs.laws.law_script_units.Goals as goal

pub returns : goal.returns
returns c = scripts_have_units
