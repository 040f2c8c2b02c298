use Rattle.std.proofs.Common.{[], ◌∷◌, ◌++◌}
use Rattle.std.specs.Prelude.{codes}
use Rattle.std.proofs.lemmas.Result.{on_ok_weaker}
use Rattle.js_core.specs.declared.token.Punct.TheVariants as punct
use Rattle.js_print.specs.Lexemes.{expr_lexemes}
use Rattle.js_print.specs.Places.{placed}
use Rattle.js_print.specs.declared.lexeme.Lexeme.TheVariants as lexeme
use Rattle.js_print.specs.declared.place.Place.TheVariants.{Part}
use Rattle.page_writer.proofs.Appending.{five_parts}
use Rattle.page_writer.specs.Statements.{object_function, reference, short_descriptor}
use Rattle.page_writer.proofs.statements.push_short.Goals as goal

pub returns : goal.returns
returns c =
    let start = expr_lexemes (object_function (codes "defineProperty")) ++ lexeme.Punct punct.LeftParenthesis ∷ [] in
    let object = placed Part (reference c.args.at) (expr_lexemes (reference c.args.at)) in
    let descriptor = expr_lexemes (short_descriptor c.args.value.now c.args.writable) in
    on_ok_weaker c.push_punct-2.result
    (λ e. five_parts c.args.out.now.items start object (lexeme.Text c.args.name.now ∷ []) (lexeme.Punct punct.Comma ∷ []) descriptor (lexeme.Punct punct.RightParenthesis ∷ []) _ _ _ _ _
    c.in_ok-push_definition.ensures c.in_ok-push_string.ensures c.in_ok-push_punct.ensures c.in_ok-push_short_descriptor.ensures e)
    c.push_punct-2.ensures
