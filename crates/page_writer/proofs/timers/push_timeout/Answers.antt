use Rattle.std.proofs.lemmas.Result.{on_ok_weaker}
use Rattle.std.proofs.Common.{◌∙◌, pos, Some, codes, ◌∷◌, [], ◌++◌, append_assoc, ap, sym}
use Rattle.js_core.specs.declared.token.Punct.TheVariants as punct
use Rattle.js_print.specs.Lexemes.{expr_lexemes}
use Rattle.js_print.specs.Places.{placed}
use Rattle.js_print.specs.declared.lexeme.Lexeme.TheVariants as lexeme
use Rattle.js_print.specs.declared.place.Place.TheVariants.{Part}
use Rattle.page_writer.specs.References.{reference}
use Rattle.page_writer.proofs.Appending.{six_parts}
use Rattle.page_writer.proofs.timers.push_timeout.Goals as goal

pub returns : goal.returns
returns c =
    let call = placed Part (reference c.args.call) (expr_lexemes (reference c.args.call)) in
    let more = lexeme.Punct punct.Comma ∷ lexeme.Number (Some (pos c.args.rest)) ∷ [] in
    on_ok_weaker c.push_punct-3.result
    (λ e. six_parts _ _ _ _ _ _ _ _ _ _ _ _ _ c.in_ok-push_word.ensures c.in_ok-push_punct.ensures c.in_ok-push_part.ensures c.in_ok-push_punct-2.ensures
    c.in_ok-push_number.ensures e
    ∙ ap (λ l. c.args.out.now.items ++ (lexeme.Name (codes "setTimeout") ∷ lexeme.Punct punct.LeftParenthesis ∷ l))
    (sym (append_assoc call more (lexeme.Punct punct.RightParenthesis ∷ []))))
    c.push_punct-3.ensures
