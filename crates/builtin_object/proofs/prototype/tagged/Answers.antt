use Rattle.std.proofs.Common.{◌++◌, codes}
use Rattle.js_values.specs.declared.value.Value.TheVariants.{Text as Words}
use Rattle.page_meaning.specs.ObjectRows as object
use Rattle.builtin_object.proofs.Told.{told}
use Rattle.builtin_object.proofs.prototype.tagged.Goals as goal

pub returns : goal.returns
returns c = told (λ s. codes "[object " ++ object.tag_of s c.args.value.now ++ codes "]") (λ t. Words t) c.in_ok-tag_text.field-0 c.args.state.now c.in_ok-tag_text.ensures
