use Rattle.js_print.specs.Lexemes.{stmts_lexemes, code_lexemes}
use Rattle.js_print.proofs.Calm.{alone, stmts_calm, code_calm}
use Rattle.js_print.proofs.PrintedScripts.{lexemes_can_be_written, codes_can_be_written}
use Rattle.js_print.proofs.ReadAgain.{has_no_tag}
use Rattle.js_print.proofs.laws.law_printed_text_has_no_end_tag.Goals as goal

pub returns-clause-scripts : goal.returns-clause-scripts
returns-clause-scripts c = λ script is. has_no_tag (stmts_lexemes script) (lexemes_can_be_written script is) (alone _ (stmts_calm script))

pub returns-clause-codes : goal.returns-clause-codes
returns-clause-codes c = λ function is. has_no_tag (code_lexemes function) (codes_can_be_written function is) (alone _ (code_calm function))
