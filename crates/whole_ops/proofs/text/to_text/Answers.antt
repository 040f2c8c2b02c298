use Rattle.std.proofs.Common.{rules, FitsSigned, w64, Ok, codes, ap, ◌∙◌, sym}
use Rattle.std.proofs.lemmas.Int.{to_z-of_z}
use Rattle.whole_ops.specs.Numeral.{to_whole}
use Rattle.whole_ops.proofs.Quotients.{abs_in_range}
use Rattle.whole_ops.proofs.ReadBack.{reads_back, nan_reads_back, carry}
use Rattle.whole_ops.proofs.text.to_text.Goals as goal

pub returns-in-None-clause-read_back : goal.returns-in-None-clause-read_back
returns-in-None-clause-read_back c =
    let number = sym c.in-None.is ∙ c.get.ensures.value in
    carry c.ascii_text.result (codes "NaN") (Ok c.args.number) c.ascii_text.ensures (nan_reads_back ∙ ap (λ n. Ok n) number)

pub returns-in-Some-clause-read_back : goal.returns-in-Some-clause-read_back
returns-in-Some-clause-read_back c =
    let n = c.in-Some.n in
    let fits : FitsSigned w64 n = search rules in
    let number = sym c.in-Some.is ∙ c.get.ensures.value in
    let text = c.as_bytes.ensures.value ∙ rw (to_z-of_z w64 n fits) at c.format.ensures.text in
    carry c.ascii_text-in-Some.result c.as_bytes.result.now (Ok c.args.number) c.ascii_text-in-Some.ensures
    (ap to_whole text ∙ reads_back n (abs_in_range n c.in-Some.ensures.in_range) ∙ ap (λ m. Ok m) number)
