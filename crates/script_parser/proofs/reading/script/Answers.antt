use Rattle.script_parser.proofs.reading.script.Goals as goal

pub returns-clause-sound : goal.returns-clause-sound
returns-clause-sound c = c.law_reading_is_the_grammar.ensures.sound _ _ c.in_ok-body.ensures

pub returns-clause-only : goal.returns-clause-only
returns-clause-only c = λ other derived. c.law_one_script.ensures _ _ _ derived (c.law_reading_is_the_grammar.ensures.sound _ _ c.in_ok-body.ensures).0
