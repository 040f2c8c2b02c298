use Rattle.std.proofs.Common.{◌≡◌, true, ◌+◌, ◌∙◌, sym, arith}
use Rattle.js_core.specs.declared.token.Punct.TheVariants as p
use Rattle.js_grammar.specs.declared.sign.Sign.TheVariants.{Mark}
use Rattle.js_grammar.specs.Parser.{sees}
use Rattle.script_parser.proofs.Groups.{opened_more}
use Rattle.script_parser.proofs.reading.open_groups.Goals as goal

pub loop-opened-preserved : goal.loop-opened-preserved
loop-opened-preserved c =
    let sign : sees (Mark p.LeftParenthesis) c.loop-opened.tokens ≡ true = sym c.sees.ensures ∙ c.if-not-sees.false in
    rw c.skip.ensures
    (c.loop-opened.invariant ∙ opened_more c.args.depth c.loop-opened.opened (c.loop-opened.opened + 1) c.loop-opened.tokens (omega arith) (omega arith) (omega arith) sign)
