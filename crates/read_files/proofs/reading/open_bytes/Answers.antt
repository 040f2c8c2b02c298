use Rattle.read_files.proofs.reading.open_bytes.Goals as goal

pub returns-in-Ok-open_page-clause-ok : goal.returns-in-Ok-open_page-clause-ok
returns-in-Ok-open_page-clause-ok c = record {
  page = c.in-Ok.accepted.page;
  accepted = c.in-Ok.ensures.ok.accepted;
  sound = c.in-Ok.ensures.sound;
  opens = c.in-Ok-open_page.ensures.text;
  numbered = c.in-Ok-open_page.ensures.numbered;
}
