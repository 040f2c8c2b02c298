use Rattle.std.proofs.Common.{ap, ◌∙◌, rules}
use Rattle.page_reader.specs.Replacing.{places_of}
use Rattle.page_check.proofs.Refusals.{accepted_at, not_accepted}
use Rattle.page_check.proofs.acceptance.accept.Goals as goal

pub returns-in_err-scripts-clause-refused : goal.returns-in_err-scripts-clause-refused
returns-in_err-scripts-clause-refused c =
    search (
      rules,
      not_accepted c.args.bytes.now c.kind_of-kind.result c.in_ok-found.found.dom c.in_ok-found.found.scripts.items c.in_err-scripts.field-0.0 c.kind_of-kind.ensures
          c.in_ok-found.ensures.read c.in_err-scripts.ensures.refused,
    )

pub returns-clause-ok : goal.returns-clause-ok
returns-clause-ok c =
    rw c.new.ensures (accepted_at c.args.bytes.now c.kind_of-kind.result c.in_ok-found.found.dom c.in_ok-found.found.scripts.items c.in_ok-scripts.scripts.items
    c.in_ok-found.found.start c.in_ok-places.places.items c.kind_of-kind.ensures c.in_ok-found.ensures.read c.in_ok-found.ensures.start (c.in_ok-places.ensures ∙ ap places_of c.as_slice.ensures.value)
    c.in_ok-scripts.ensures.ok)
