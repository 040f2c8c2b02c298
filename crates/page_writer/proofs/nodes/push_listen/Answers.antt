use Rattle.std.proofs.lemmas.Result.{on_ok_weaker}
use Rattle.std.proofs.Common.{◌∙◌, ◌∷◌, [], ◌++◌, append_assoc, ap, sym}
use Rattle.js_core.specs.declared.token.Punct.TheVariants as punct
use Rattle.js_print.specs.Lexemes.{boolean_lexeme, expr_lexemes}
use Rattle.js_print.specs.Places.{placed}
use Rattle.js_print.specs.declared.lexeme.Lexeme.TheVariants as lexeme
use Rattle.js_print.specs.declared.place.Place.TheVariants.{Part}
use Rattle.page_writer.specs.References.{reference}
use Rattle.js_core.specs.Tree.{member}
use Rattle.std.specs.Prelude.{codes}
use Rattle.page_writer.proofs.Appending.{eight_parts}
use Rattle.page_writer.proofs.nodes.push_listen.Goals as goal

pub returns : goal.returns
returns c =
    let front = expr_lexemes (member (reference c.args.node) (codes "addEventListener")) in
    let call = placed Part (reference c.args.call) (expr_lexemes (reference c.args.call)) in
    let more = lexeme.Punct punct.Comma ∷ boolean_lexeme c.args.capture ∷ [] in
    on_ok_weaker c.push_punct-4.result
    (λ e. eight_parts _ _ _ _ _ _ _ _ _ _ _ _ _ _ _ _ _ c.in_ok-push_member.ensures c.in_ok-push_punct.ensures c.in_ok-push_text.ensures
    c.in_ok-push_punct-2.ensures c.in_ok-push_part.ensures c.in_ok-push_punct-3.ensures c.in_ok-push_boolean.ensures e
    ∙ ap (λ l. c.args.out.now.items ++ (front ++ (lexeme.Punct punct.LeftParenthesis ∷ lexeme.Text c.args.kind.now ∷ lexeme.Punct punct.Comma ∷ l)))
    (sym (append_assoc call more (lexeme.Punct punct.RightParenthesis ∷ []))))
    c.push_punct-4.ensures
