use Rattle.std.proofs.Common.{◌∙◌, subst, sym, arith}
use Rattle.js_lexer.proofs.Literals.{GoesOn, append_none, string_begins, string_goes_on, string_ends, string_refused}
use Rattle.js_lexer.proofs.strings.string.Goals as goal

pub loop-unit-init : goal.loop-unit-init
loop-unit-init c = (subst (GoesOn c.args.quote c.args.text.now c.args.text.now) (sym c.new-units.ensures.items) (string_begins c.args.quote c.args.text.now), omega arith)

pub loop-unit-preserved-in_ok-push : goal.loop-unit-preserved-in_ok-push
loop-unit-preserved-in_ok-push c =
    (string_goes_on _ _ _ _ _ c.in-Some.unit _ c.loop-unit.invariant.0 c.in-Some.ensures.read (rw c.in-Some-unit.is c.in_ok-push.ensures.items), omega (arith, c.loop-unit.invariant.1, c.in-Some.ensures.shorter))

pub loop-unit-preserved : goal.loop-unit-preserved
loop-unit-preserved c =
    (string_goes_on _ _ _ _ _ c.in-Some.unit _ c.loop-unit.invariant.0 c.in-Some.ensures.read (rw c.in_default-unit.is (sym (append_none _))), omega (arith, c.loop-unit.invariant.1, c.in-Some.ensures.shorter))

pub returns-in-Some-behind_quote-clause-read : goal.returns-in-Some-behind_quote-clause-read
returns-in-Some-behind_quote-clause-read c =
    string_ends _ _ _ _ _ _ c.loop-unit.invariant.0 c.in-Some-behind_quote.ensures (c.in_ok-of-in-Some-behind_quote.ensures ∙ c.as_slice.ensures.value)

pub returns-clause-refused : goal.returns-clause-refused
returns-clause-refused c = string_refused _ _ _ _ c.loop-unit.invariant.0 c.in_default.ensures.read c.in-None.ensures
