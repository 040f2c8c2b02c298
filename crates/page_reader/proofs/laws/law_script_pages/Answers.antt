use Rattle.page_reader.proofs.ScriptPages.{bytes_read, text_read}
use Rattle.page_reader.proofs.laws.law_script_pages.Goals as goal

pub returns-clause-text : goal.returns-clause-text
returns-clause-text c = text_read

pub returns-clause-bytes : goal.returns-clause-bytes
returns-clause-bytes c = bytes_read
