use Rattle.std.proofs.Common.{sym, refl}
use Rattle.js_lexer.proofs.Prologue.{no_text, prologue_begins, prologue_goes_on, strict_here}
use Rattle.js_lexer.proofs.directives.strict.Goals as goal

pub loop-token-init : goal.loop-token-init
loop-token-init c = prologue_begins _

pub returns-then-not-is_text : goal.returns-then-not-is_text
returns-then-not-is_text c = (λ e. absurd (cc), λ s. absurd (no_text c.loop-token.rest.now c.in-Some.behind.now c.in-Some.token.now c.in-Some.ensures.cases.0 (sym c.if-not-is_text.ensures) (c.loop-token.invariant.on s)))

pub returns-then-is_use_strict : goal.returns-then-is_use_strict
returns-then-is_use_strict c =
    (λ e. strict_here c.args.tokens.now c.loop-token.rest.now c.in-Some.behind.now c.in-Some-behind_statement.next.now c.in-Some.token.now c.loop-token.invariant c.in-Some.ensures.cases.0 c.in-Some-behind_statement.ensures.read (sym c.if-is_use_strict.ensures), λ s. refl)

pub loop-token-preserved : goal.loop-token-preserved
loop-token-preserved c =
    prologue_goes_on c.args.tokens.now c.loop-token.rest.now c.in-Some.behind.now c.in-Some-behind_statement.next.now c.in-Some.token.now c.loop-token.invariant c.in-Some.ensures.cases.0 (sym c.if-not-is_text.ensures) c.in-Some-behind_statement.ensures.read (sym c.if-is_use_strict.ensures)
