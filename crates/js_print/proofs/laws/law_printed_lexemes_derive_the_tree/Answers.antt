use Rattle.js_print.proofs.PrintedScripts.{lexemes_derive_the_tree, lexemes_can_be_written, codes_can_be_written}
use Rattle.js_print.proofs.laws.law_printed_lexemes_derive_the_tree.Goals as goal

pub returns-clause-derived : goal.returns-clause-derived
returns-clause-derived c = lexemes_derive_the_tree

pub returns-clause-written : goal.returns-clause-written
returns-clause-written c = lexemes_can_be_written

pub returns-clause-codes : goal.returns-clause-codes
returns-clause-codes c = codes_can_be_written
