use Rattle.js_grammar.proofs.ReadingIsGrammar.{read_is_derived, derived_is_read, refused_is_none}
use Rattle.js_grammar.proofs.laws.law_reading_is_the_grammar.Goals as goal

pub returns-clause-sound : goal.returns-clause-sound
returns-clause-sound c = read_is_derived

pub returns-clause-complete : goal.returns-clause-complete
returns-clause-complete c = derived_is_read

pub returns-clause-refused : goal.returns-clause-refused
returns-clause-refused c = refused_is_none
