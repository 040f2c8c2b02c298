use Rattle.read_files.proofs.Refusals.{told_untaken_if}
use Rattle.read_files.proofs.reading.read_page.Goals as goal

pub returns-clause-stops : goal.returns-clause-stops
returns-clause-stops g c =
    told_untaken_if ((g.F.Files.seen c.args.files.now).content c.args.name.now) c.in-Ok.bytes.items c.deref.result.now c.accept_page.result
    c.deref.ensures.value c.in-Ok.ensures.ok c.accept_page.ensures.stops
