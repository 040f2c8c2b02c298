use Rattle.js_lexer.proofs.OneToken.{shorter, start_unquoted, word_stands}
use Rattle.js_lexer.proofs.lexing.word.Goals as goal

pub returns-clause-read : goal.returns-clause-read
returns-clause-read c = word_stands _ _ _ _ _ c.requires c.word_len.ensures.read c.split_at.ensures.front c.split_at.ensures.back c.in_ok-text_of.ensures

pub returns-clause-shorter : goal.returns-clause-shorter
returns-clause-shorter c = shorter _ _ _ (returns-clause-read c) (start_unquoted _ c.requires)
