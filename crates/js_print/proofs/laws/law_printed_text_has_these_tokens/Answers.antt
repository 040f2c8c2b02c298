use Rattle.js_print.specs.Lexemes.{stmts_lexemes, code_lexemes}
use Rattle.js_print.proofs.Calm.{alone, stmts_calm, code_calm}
use Rattle.js_print.proofs.TokensOfText.{calm_is_read_back}
use Rattle.js_print.proofs.laws.law_printed_text_has_these_tokens.Goals as goal

pub returns-clause-scripts : goal.returns-clause-scripts
returns-clause-scripts c = λ script written. calm_is_read_back (stmts_lexemes script) written (alone _ (stmts_calm script))

pub returns-clause-codes : goal.returns-clause-codes
returns-clause-codes c = λ function written. calm_is_read_back (code_lexemes function) written (alone _ (code_calm function))
