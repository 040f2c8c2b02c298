use Rattle.read_files.specs.Opening.{IsOpened, OpensTo}
use Rattle.read_files.proofs.Refusals.{opens_to, told_accepted_if, told_untaken_if}
use Rattle.read_files.proofs.reading.read_opened.Goals as goal

pub returns-clause-ok : goal.returns-clause-ok
returns-clause-ok g c =
    told_accepted_if ((g.F.Files.seen c.args.files.now).content c.args.name.now) c.in-Ok.bytes.items c.deref.result.now
    (λ b t. IsOpened b t.items) (λ b t. OpensTo b t.items) c.open_bytes.result
    (λ b t fits is. opens_to c.law_opened_pages_are_accepted.ensures c.law_opened_pages_put_out_the_same.ensures b t.items fits is)
    c.deref.ensures.value c.in-Ok.ensures.ok c.open_bytes.ensures.ok

pub returns-clause-stops : goal.returns-clause-stops
returns-clause-stops g c =
    told_untaken_if ((g.F.Files.seen c.args.files.now).content c.args.name.now) c.in-Ok.bytes.items c.deref.result.now c.open_bytes.result
    c.deref.ensures.value c.in-Ok.ensures.ok c.open_bytes.ensures.stops
