use Rattle.std.proofs.Common.{◌∙◌, ap, inl, inr}
use Rattle.whole_ops.specs.Numeral.{to_whole, literal_of}
use Rattle.whole_ops.specs.WhiteSpace.{trimmed}
use Rattle.whole_ops.proofs.Agreement.{agrees}
use Rattle.whole_ops.proofs.Finding.{found}
use Rattle.whole_ops.proofs.numeral.to_number.Goals as goal

pub returns-clause-written : goal.returns-clause-written
unfolding to_whole
returns-clause-written c = λ gives writes.
    c.literal.ensures ∙ ap literal_of (c.trimmed.ensures ∙ ap trimmed c.as_slice.ensures.value) ∙ agrees c.args.text.now gives writes

pub returns-clause-nan : goal.returns-clause-nan
unfolding to_whole
returns-clause-nan c = λ unwritten.
    c.literal.ensures ∙ ap literal_of (c.trimmed.ensures ∙ ap trimmed c.as_slice.ensures.value)
    ∙ elim (found c.args.text.now) [ inl e ↦ e | inr writes ↦ absurd (unwritten (to_whole c.args.text.now) writes) ]
