use Rattle.std.proofs.Common.{refl, Ok}
use Rattle.std.specs.Fmt.{decimal}
use Rattle.js_values.specs.declared.value.Value.TheVariants.{Object, Text as Words}
use Rattle.page_meaning.specs.ObjectRows as object
use Rattle.page_meaning.specs.Properties.{define_member}
use Rattle.page_state.proofs.Callers.{given, one_fails, one_on}
use Rattle.new_lists.specs.Lists.{for_object}
use Rattle.std.proofs.Math.ListN.{drop_of_length-le}
use Rattle.new_lists.proofs.lists.fill_texts.Goals as goal

pub returns-in_err-define_text : goal.returns-in_err-define_text
returns-in_err-define_text c = c.loop-index.invariant c.define_text.new.state c.from_residual.result (one_fails (λ k xs. object.list_texts c.args.list k xs) (λ k x. define_member c.args.list (decimal k) (Words x)) (for_object c.args.list) (λ k x xs. refl) c.args.texts.now c.loop-index.index c.index-texts-index.result c.loop-index.state c.define_text.new.state c.in_err-define_text.field-0.0 c.from_residual.result c.loop-index-test.true c.index-texts-index.is c.in_err-define_text.ensures c.from_residual.ensures)

pub loop-index-preserved : goal.loop-index-preserved
loop-index-preserved c t r g = c.loop-index.invariant t r (one_on (λ k xs. object.list_texts c.args.list k xs) (λ k x. define_member c.args.list (decimal k) (Words x)) (for_object c.args.list) (λ k x xs. refl) c.args.texts.now c.loop-index.index c.index-texts-index.result (Words c.index-texts-index.result) c.loop-index.state c.define_text.new.state t r c.loop-index-test.true c.index-texts-index.is c.in_ok-define_text.ensures g)

pub returns : goal.returns
returns c = c.loop-index.invariant c.loop-index.state (Ok tt) (rw (drop_of_length-le c.args.texts.now c.loop-index-test.false) (given (Object c.args.list) c.loop-index.state))
