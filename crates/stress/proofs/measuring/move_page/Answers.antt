use Rattle.std.proofs.Common.{◌∙◌, ℕ, List, subst}
use Rattle.stress.specs.Faring.{CountsLines}
use Rattle.read_files.specs.Reading.{IsUntaken}
use Rattle.stress.proofs.Faring.{saved_is_moved, untaken_is_unmoved}
use Rattle.stress.proofs.measuring.move_page.Goals as goal

pub returns-clause-stops : goal.returns-clause-stops
returns-clause-stops c =
    untaken_is_unmoved c.args.page c.args.earlier.now c.in-Ok.text.items c.in-Err-count_lines.status c.in-Ok.ensures.numbered c.in-Ok.ensures.ok
    (subst (λ (b : List ℕ). IsUntaken b c.in-Err-count_lines.status) c.deref.ensures.value c.in-Err-count_lines.ensures.stops)

pub returns-in-Ok-count_lines-clause-ok : goal.returns-in-Ok-count_lines-clause-ok
returns-in-Ok-count_lines-clause-ok c =
    saved_is_moved c.args.page c.args.earlier.now c.args.later.now c.in-Ok.text.items c.in-Ok-count_lines.lines c.len.result c.in-Ok.ensures.numbered c.in-Ok.ensures.ok
    (subst (λ (b : List ℕ). CountsLines b c.args.later.now c.in-Ok-count_lines.lines) c.deref.ensures.value c.in-Ok-count_lines.ensures.ok) (c.len.ensures ∙ c.in-Ok.text.ok.0)
