use Rattle.js_print.specs.Lexemes.{stmts_lexemes, code_lexemes}
use Rattle.js_print.proofs.Controls.{written_has_no_control}
use Rattle.js_print.proofs.PrintedScripts.{lexemes_can_be_written, codes_can_be_written}
use Rattle.js_print.proofs.ReadAgain.{written}
use Rattle.js_print.proofs.laws.law_printed_text_has_no_control_character.Goals as goal

pub returns-clause-scripts : goal.returns-clause-scripts
returns-clause-scripts c = λ script is. written_has_no_control (stmts_lexemes script) (written _ (lexemes_can_be_written script is))

pub returns-clause-codes : goal.returns-clause-codes
returns-clause-codes c = λ function is. written_has_no_control (code_lexemes function) (written _ (codes_can_be_written function is))
