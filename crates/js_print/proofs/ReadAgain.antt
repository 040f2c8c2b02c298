-- Printed scripts and functions are read again.
use Rattle.std.proofs.Common.{◌≡◌, ◌∙◌, ℕ, Bool, true, false, List, [], ◌∷◌, ◌++◌, length, Result, refl, sym, ap, subst, append_assoc, append-nil, lit<, arith}
use Rattle.std.specs.Prelude.{OnOk, codes, encode_utf8, encode_utf8_all}
use Rattle.std.specs.List.{list_all}
use Rattle.std.proofs.lemmas.List.{append_cancel_left}
use Rattle.std.proofs.lemmas.List.Sums.{list_all-from_AllPass}
use Rattle.std.proofs.lemmas.Result.{on_ok_weaker}
use Rattle.std.proofs.lemmas.Str.{encodes-append, encode_ascii}
use Rattle.std.proofs.lemmas.Bool.{and_from, and_parts}
use Rattle.js_core.specs.Spelling.{punct_text}
use Rattle.js_core.specs.Tree as tree
use Rattle.js_core.specs.declared.token.Punct.{Punct as Sign}
use Rattle.js_core.specs.declared.token.Punct.TheVariants as punct
use Rattle.js_print.specs.declared.lexeme.Lexeme.{Lexeme}
use Rattle.js_print.specs.declared.lexeme.Lexeme.TheVariants.{Punct}
use Rattle.js_print.specs.Lexemes.{code_lexemes, stmts_lexemes}
use Rattle.js_print.specs.Printing.{script_text, code_text}
use Rattle.js_print.specs.Laws.{HasNoEndTag, is_ordinary}
use Rattle.js_print.specs.ReadBack.{kind_of}
use Rattle.js_print.specs.ReadAgain.{Appended, IsReadAgain, ScriptsAreReadAgain, IsDeclared, IsExpressed, declaration, function_expression}
use Rattle.js_print.specs.Spelling.{is_word, lexeme_text, space_between, text_after}
use Rattle.js_print.specs.Written.{can_be_written, CanBeWritten}
use Rattle.js_print.proofs.Calm.{alone, stmts_calm}
use Rattle.js_print.proofs.Controls.{written_has_no_control}
use Rattle.js_print.proofs.Neighbours.{calm, start}
use Rattle.js_print.proofs.Ordinary.{written_is_ordinary}
use Rattle.js_print.proofs.PrintedScripts.{lexemes_derive_the_tree, lexemes_can_be_written}
use Rattle.js_print.proofs.Scans.{calm_has_no_tag}
use Rattle.js_print.proofs.Strictness.{strict_from}
use Rattle.js_print.proofs.TokensOfText.{tokens_from, are_tokens, calm_tokens}
use Rattle.js_print.proofs.Units.{Coded, units_after, are_written, text_is_coded, text_is_utf8, units_of_text}

-- ---- scripts

pub written_are_ordinary : (xs : List Lexeme) → are_written xs ≡ true → list_all is_ordinary xs ≡ true
written_are_ordinary [] w = refl
written_are_ordinary (x ∷ xs) w = and_from _ _ (written_is_ordinary x (and_parts _ _ w).0) (written_are_ordinary xs (and_parts (can_be_written (kind_of x)) _ w).1)

pub written : (xs : List Lexeme) → CanBeWritten xs → are_written xs ≡ true
written xs w = list_all-from_AllPass (λ x. can_be_written (kind_of x)) xs w

pub has_no_tag : (xs : List Lexeme) → CanBeWritten xs → calm start xs ≡ true → HasNoEndTag (text_after false xs)
has_no_tag xs w c = calm_has_no_tag xs (written_are_ordinary xs (written xs w)) c

tag_encoded : (after : List ℕ) → encode_utf8_all (codes "</" ++ after) ≡ codes "</" ++ encode_utf8_all after
tag_encoded after =
    ap (λ (x : List ℕ). x ++ (encode_utf8 47 ++ encode_utf8_all after)) (encode_ascii 60 (lit< tt)) ∙ ap (λ (x : List ℕ). 60 ∷ (x ++ encode_utf8_all after)) (encode_ascii 47 (lit< tt))

-- bytes without an end tag are the UTF-8 of units without one
pub coded_has_no_tag : (text units : List ℕ) → Coded text units → HasNoEndTag text → HasNoEndTag units
coded_has_no_tag text units c none before after e =
    none (encode_utf8_all before) (encode_utf8_all after) (c.coded ∙ ap encode_utf8_all e ∙ encodes-append before (codes "</" ++ after) ∙ ap (λ (x : List ℕ). encode_utf8_all before ++ x) (tag_encoded after))

pub script_is_read_again : ScriptsAreReadAgain
script_is_read_again script is =
    let lexemes = stmts_lexemes script in
    let w = lexemes_can_be_written script is in
    let calm = alone lexemes (stmts_calm script) in
    let are = written lexemes w in
    let none = has_no_tag lexemes w calm in
    let tokens = tokens_from (length (units_after false lexemes)) lexemes in
    record {
      utf8 = text_is_utf8 lexemes are;
      no_end_tag = none;
      no_tag_in_units = subst HasNoEndTag (sym (units_of_text lexemes are)) (coded_has_no_tag (script_text script) (units_after false lexemes) (text_is_coded lexemes false are) none);
      no_control = written_has_no_control lexemes are;
      tokens = tokens;
      read = calm_tokens lexemes w calm;
      derived = lexemes_derive_the_tree tokens script is (are_tokens (length (units_after false lexemes)) lexemes);
      strict = λ e. strict_from (length (units_after false lexemes)) script e (omega arith);
    }

-- ---- functions

-- a punctuator behind lexemes stands behind their text
before_sign : (xs : List Lexeme) (after_word : Bool) (p : Sign) (ys : List Lexeme) → text_after after_word (xs ++ Punct p ∷ ys) ≡ text_after after_word xs ++ (punct_text p ++ text_after false ys)
before_sign [] true p ys = refl
before_sign [] false p ys = refl
before_sign (x ∷ xs) after_word p ys =
    let space = space_between after_word (is_word x) in
    let rest = text_after (is_word x) xs in
    let last = punct_text p ++ text_after false ys in
    ap (λ t. space ++ (lexeme_text x ++ t)) (before_sign xs (is_word x) p ys) ∙ ap (λ t. space ++ t) (sym (append_assoc (lexeme_text x) rest last)) ∙ sym (append_assoc space (lexeme_text x ++ rest) last)

declaration_text : (c : tree.Code) → script_text (declaration c) ≡ code_text c
declaration_text c = ap (text_after false) (append-nil (code_lexemes c))

expression_text : (c : tree.Code) → script_text (function_expression c) ≡ codes "(" ++ (code_text c ++ codes ");")
expression_text c =
    let body = code_lexemes c in
    let lists : ((body ++ Punct punct.RightParenthesis ∷ []) ++ Punct punct.Semicolon ∷ []) ++ [] ≡ body ++ Punct punct.RightParenthesis ∷ Punct punct.Semicolon ∷ [] =
    append-nil _ ∙ append_assoc body (Punct punct.RightParenthesis ∷ []) (Punct punct.Semicolon ∷ []) in
    ap (λ xs. codes "(" ++ text_after false xs) lists ∙ ap (λ t. codes "(" ++ t) (before_sign body false punct.RightParenthesis (Punct punct.Semicolon ∷ []))

-- ---- what was appended

appended : (old new text printed : List ℕ) → new ≡ old ++ text → new ≡ old ++ printed → text ≡ printed
appended old new text printed e f = append_cancel_left old text printed (sym e ∙ f)

pub printed_script : {T E : Type 0} (r : Result T E) (script : tree.Stmts) (old new : List ℕ) → OnOk r (new ≡ old ++ script_text script) → OnOk r (Appended (IsReadAgain script) old new)
printed_script r script old new =
    on_ok_weaker r (λ e printed f. subst (IsReadAgain script) (appended old new (script_text script) printed e f) (script_is_read_again script))

pub printed_declaration : {T E : Type 0} (r : Result T E) (c : tree.Code) (old new : List ℕ) → OnOk r (new ≡ old ++ code_text c) → OnOk r (Appended (IsDeclared c) old new)
printed_declaration r c old new =
    on_ok_weaker r (λ e printed f. subst (IsReadAgain (declaration c)) (declaration_text c ∙ appended old new (code_text c) printed e f) (script_is_read_again (declaration c)))

pub printed_expression : {T E : Type 0} (r : Result T E) (c : tree.Code) (old new : List ℕ) → OnOk r (new ≡ old ++ code_text c) → OnOk r (Appended (IsExpressed c) old new)
printed_expression r c old new =
    on_ok_weaker r
    (λ e printed f. subst (IsReadAgain (function_expression c)) (expression_text c ∙ ap (λ t. codes "(" ++ (t ++ codes ");")) (appended old new (code_text c) printed e f)) (script_is_read_again (function_expression c)))
