use Rattle.std.proofs.Common.{◌∙◌, ap, sym}
use Rattle.opened_pages.proofs.Texts.{opens_as_plain}
use Rattle.opened_pages.proofs.opening.open_page.Goals as goal

pub returns-in-Plain-clause-text : goal.returns-in-Plain-clause-text
returns-in-Plain-clause-text c =
    let plain = ap (λ page. page.kind) (sym c.page-page.ensures) ∙ sym c.kind.ensures.kind ∙ c.in-Plain.is in
    let scripts = c.scripts.ensures ∙ ap (λ page. page.scripts) c.page-page.ensures in
    opens_as_plain c.args.accepted.now c.args.bytes.now c.start.result c.places.result.now c.scripts.result.now (λ t. t.items)
    c.open_plain.result plain c.requires c.start.ensures c.places.ensures scripts c.open_plain.ensures.text
