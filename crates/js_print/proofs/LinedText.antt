-- A printed script with line ends between its lexemes is read again.
use Rattle.std.proofs.Common.{◌≡◌, ◌∙◌, ℕ, ◌+◌, ◌-◌, ◌≤◌, Bool, true, false, List, [], ◌∷◌, ◌++◌, length, Some, None, refl, sym, ap, subst, length-append, append_assoc, arith}
use Rattle.std.specs.Prelude.{not, ◌&&◌, ◌||◌, ◌==◌, codes, bytes_eq, IsUtf8}
use Rattle.std.specs.List.{list_all, flat_map}
use Rattle.std.specs.Char.Escape.{encode_utf16}
use Rattle.std.proofs.lemmas.Bool.{and_from, and_parts}
use Rattle.std.proofs.lemmas.List.Folds.{list_all-append}
use Rattle.std.proofs.lemmas.Slice.Eq.{bytes_eq-Decides}
use Rattle.std.proofs.lemmas.Str.{chars-encodes}
use Rattle.js_core.specs.Characters.{is_white_space, is_line_end}
use Rattle.js_core.specs.Text.{utf16_of}
use Rattle.js_core.specs.Tree as tree
use Rattle.js_core.specs.declared.token.Punct.{Punct as Sign}
use Rattle.js_core.specs.declared.token.Punct.TheVariants as punct
use Rattle.js_core.specs.declared.token.Token.{Token}
use Rattle.js_core.specs.declared.token.TokenKind.TheVariants as kind
use Rattle.unicode_ident.proofs.Computing.{unicode_ident}
use Rattle.js_lexer.specs.Characters.{is_identifier_start, is_identifier_part, begins_with}
use Rattle.js_lexer.specs.Directives.{IsStrict}
use Rattle.js_lexer.specs.Directives.IsStrict.{here, later}
use Rattle.js_lexer.specs.Numbers.{is_refused_behind_number}
use Rattle.js_lexer.specs.Separators.{separator_of, Gap}
use Rattle.js_lexer.specs.Separators.Gap.{none as no_gap_more, more as gap_more}
use Rattle.js_lexer.specs.Tokens.{TokensOf}
use Rattle.js_lexer.specs.Tokens.TokensOf.{none as no_tokens, more as token_more}
use Rattle.js_grammar.specs.LineEnds.{first_of, others_of, is_border, may_be_postfix, may_part, parted}
use Rattle.js_grammar.specs.Symbols.{Lexeme as Found, symbol_of, lexemes}
use Rattle.js_grammar.specs.Syntax.{IsSyntax}
use Rattle.js_grammar.proofs.Callers.{line_ends_are_harmless}
use Rattle.js_print.specs.declared.lexeme.Lexeme.{Lexeme}
use Rattle.js_print.specs.declared.lexeme.Lexeme.TheVariants.{Keyword, Name, Number, Text, Punct}
use Rattle.js_print.specs.Laws.{HasNoEndTag, is_ascii_text, is_free, is_ordinary}
use Rattle.js_print.specs.Lexemes.{stmts_lexemes}
use Rattle.js_print.specs.Lined.{gap, lined_after, lined_text, may_be_lined, opening, is_lined, LinedAgain, LinedScriptsAreReadAgain}
use Rattle.js_print.specs.ReadAgain.{begins_strict}
use Rattle.js_print.specs.ReadBack.{kind_of}
use Rattle.js_print.specs.Spelling.{is_word, lexeme_text, space_between, string_text}
use Rattle.js_print.proofs.Ascii.{space_is_ascii}
use Rattle.js_print.proofs.Calm.{alone, stmts_calm}
use Rattle.js_print.proofs.Controls.{lexeme_is_free, space_is_free}
use Rattle.js_print.proofs.Neighbours.{refused_behind, has, meets, calm, start, ends_with_less, begins_with_slash, no_slash_behind_less}
use Rattle.js_print.proofs.PrintedScripts.{plain_tokens, are_tokens, lexemes_can_be_written, lexemes_derive_the_tree}
use Rattle.js_print.proofs.PrintedSteps.{is_brace, steady, steady_behind, script_is_steady, never_postfix}
use Rattle.js_print.proofs.ReadAgain.{written, written_are_ordinary, coded_has_no_tag}
use Rattle.js_print.proofs.Scans.{scan, no_tag, lexeme_scan, spaced_scan, untagged}
use Rattle.js_print.proofs.Strictness.{ends, spans}
use Rattle.js_print.proofs.TokensOfText.{refuses, lexeme_is_read, next, space_is_gap, no_gap_at_end}
use Rattle.js_print.proofs.Units.{lexeme_units, are_written, Coded, both_coded, ascii_is_coded, lexeme_is_coded, all_scalars, units_alone}

-- ---- units

abbrev lined_units : Bool → List Bool → List Lexeme → List ℕ
lined_units after_word ls [] = []
lined_units after_word ls (x ∷ xs) = gap (first_of ls) after_word (is_word x) ++ (lexeme_units x ++ lined_units (is_word x) (others_of ls) xs)

gap_is_ascii : (l a b : Bool) → is_ascii_text (gap l a b) ≡ true
gap_is_ascii true a b = refl
gap_is_ascii false a b = space_is_ascii a b

lined_is_coded : (xs : List Lexeme) (ls : List Bool) (after_word : Bool) → are_written xs ≡ true → Coded (lined_after after_word ls xs) (lined_units after_word ls xs)
lined_is_coded [] ls after_word w = record { single = refl; coded = refl }
lined_is_coded (x ∷ xs) ls after_word w =
    let g = gap (first_of ls) after_word (is_word x) in
    both_coded g g _ _ (ascii_is_coded g (gap_is_ascii (first_of ls) after_word (is_word x)))
    (both_coded (lexeme_text x) (lexeme_units x) _ _ (lexeme_is_coded x (and_parts _ _ w).0) (lined_is_coded xs (others_of ls) (is_word x) (and_parts _ _ w).1))

coded_is_utf8 : (text units : List ℕ) → Coded text units → IsUtf8 text
coded_is_utf8 text units c = (units, (all_scalars units c.single, sym c.coded))

units_of_coded : (text units : List ℕ) → Coded text units → utf16_of text ≡ units
units_of_coded text units c = ap utf16_of c.coded ∙ ap (flat_map encode_utf16) (chars-encodes units (all_scalars units c.single)) ∙ units_alone units c.single

-- ---- no end tag

gap_scan : (x : Lexeme) (l after_word less : Bool) (rest : List ℕ) → is_ordinary x ≡ true → (l ≡ false → not (less && begins_with_slash x) ≡ true) → scan (ends_with_less x) rest ≡ true → scan less (gap l after_word (is_word x) ++ (lexeme_text x ++ rest)) ≡ true
gap_scan x true after_word less rest o n h = untagged less false _ refl (lexeme_scan x false rest o refl h)
gap_scan x false after_word less rest o n h = spaced_scan x after_word less rest o (n refl) h

lined_scan : (xs : List Lexeme) (ls : List Bool) (before : Lexeme) (after_word : Bool) → list_all is_ordinary xs ≡ true → calm before xs ≡ true → scan (ends_with_less before) (lined_after after_word ls xs) ≡ true
lined_scan [] ls before after_word o c = refl
lined_scan (x ∷ xs) ls before after_word o c =
    gap_scan x (first_of ls) after_word (ends_with_less before) (lined_after (is_word x) (others_of ls) xs) (and_parts _ _ o).0 (λ e. no_slash_behind_less before x (and_parts _ _ c).0)
    (lined_scan xs (others_of ls) x (is_word x) (and_parts _ _ o).1 (and_parts _ _ c).1)

-- ---- no control character

free_is_lined : (us : List ℕ) → list_all is_free us ≡ true → list_all is_lined us ≡ true
free_is_lined [] e = refl
free_is_lined (u ∷ us) e = and_from _ _ (ap (λ b. b || (u == 10)) (and_parts (is_free u) _ e).0) (free_is_lined us (and_parts (is_free u) _ e).1)

gap_is_lined : (l a b : Bool) → list_all is_lined (gap l a b) ≡ true
gap_is_lined true a b = refl
gap_is_lined false a b = free_is_lined (space_between a b) (space_is_free a b)

joined : (a b : List ℕ) → list_all is_lined a ≡ true → list_all is_lined b ≡ true → list_all is_lined (a ++ b) ≡ true
joined a b f g = list_all-append is_lined a b ∙ and_from _ _ f g

units_are_lined : (xs : List Lexeme) (ls : List Bool) (after_word : Bool) → are_written xs ≡ true → list_all is_lined (lined_units after_word ls xs) ≡ true
units_are_lined [] ls after_word w = refl
units_are_lined (x ∷ xs) ls after_word w =
    joined (gap (first_of ls) after_word (is_word x)) _ (gap_is_lined (first_of ls) after_word (is_word x))
    (joined (lexeme_units x) _ (free_is_lined (lexeme_units x) (lexeme_is_free x (and_parts _ _ w).0)) (units_are_lined xs (others_of ls) (is_word x) (and_parts _ _ w).1))

-- ---- tokens

line_feed_ends_word : is_identifier_part 10 ≡ false
unfolding is_identifier_part unicode_ident
line_feed_ends_word = refl

line_feed_ends_number : is_refused_behind_number 10 ≡ false
unfolding is_identifier_start unicode_ident
line_feed_ends_number = refl

line_feed_ends_sign : (p : Sign) → has (refused_behind (Punct p)) 10 ≡ false
line_feed_ends_sign punct.LessThan = refl
line_feed_ends_sign p = refl

line_feed_ends : (x : Lexeme) → refuses x 10 ≡ false
line_feed_ends (Keyword k) = line_feed_ends_word
line_feed_ends (Name x) = line_feed_ends_word
line_feed_ends (Number n) = line_feed_ends_number
line_feed_ends (Text t) = refl
line_feed_ends (Punct p) = line_feed_ends_sign p

lined_ends : (x : Lexeme) (ls : List Bool) (xs : List Lexeme) → are_written xs ≡ true → calm x xs ≡ true → begins_with (refuses x) (lined_units (is_word x) ls xs) ≡ false
lined_ends x ls [] w c = refl
lined_ends x ls (y ∷ ys) w c = by (first_of ls)
  where
    by : (l : Bool) → begins_with (refuses x) (gap l (is_word x) (is_word y) ++ (lexeme_units y ++ lined_units (is_word y) (others_of ls) ys)) ≡ false
    by true = line_feed_ends x
    by false = next x y (lined_units (is_word y) (others_of ls) ys) (and_parts _ _ w).0 (and_parts _ _ c).0

line_feed_is_gap : (behind : List ℕ) → separator_of (10 ∷ behind) ≡ Some (true, behind)
unfolding separator_of is_white_space is_line_end
line_feed_is_gap behind = refl

gap_is_gap : (l a b : Bool) (behind : List ℕ) → separator_of behind ≡ None → Gap (gap l a b ++ behind) behind l
gap_is_gap true a b behind e = gap_more (10 ∷ behind) behind behind true false (line_feed_is_gap behind) (no_gap_more behind e)
gap_is_gap false a b behind e = space_is_gap a b behind e

-- the lexemes as tokens of the last part of a text of so many units
abbrev lined_from : ℕ → List Bool → List Lexeme → List Token
lined_from size ls [] = []
lined_from size ls (x ∷ xs) =
    record { what = kind_of x; start = size - length (lexeme_units x ++ lined_units (is_word x) (others_of ls) xs); end = size - length (lined_units (is_word x) (others_of ls) xs); after_line = first_of ls }
    ∷ lined_from size (others_of ls) xs

has_lined : (size : ℕ) (xs : List Lexeme) (ls : List Bool) (before : Lexeme) (after_word : Bool) → are_written xs ≡ true → calm before xs ≡ true → TokensOf size (lined_units after_word ls xs) (lined_from size ls xs)
has_lined size [] ls before after_word w c = no_tokens [] false (no_gap_more [] no_gap_at_end)
has_lined size (x ∷ xs) ls before after_word w c =
    let rest = lined_units (is_word x) (others_of ls) xs in
    let read = lexeme_is_read x rest (and_parts _ _ w).0 (lined_ends x (others_of ls) xs (and_parts _ _ w).1 (and_parts (meets before x) _ c).1) in
    token_more (lined_units after_word ls (x ∷ xs)) (lexeme_units x ++ rest) rest (first_of ls) (kind_of x) (lined_from size (others_of ls) xs) (gap_is_gap (first_of ls) after_word (is_word x) (lexeme_units x ++ rest) read.no_gap) read.at
    (has_lined size xs (others_of ls) x (is_word x) (and_parts _ _ w).1 (and_parts (meets before x) _ c).1)

-- ---- symbols

put : (l m n : Bool) → (not l || m) ≡ true → n ≡ false → l ≡ (false || ((m && not n) && l))
put true true false e f = refl
put true false n e f = absurd (cc)
put l m true e f = absurd (cc)
put false true false e f = refl
put false false false e f = refl

same_symbols : (size : ℕ) (behind : Lexeme) (ls : List Bool) (xs : List Lexeme) → may_be_lined behind ls xs ≡ true → steady (is_brace behind) xs ≡ true → lexemes (lined_from size ls xs) ≡ parted ls (symbol_of (kind_of behind)) (lexemes (plain_tokens xs))
same_symbols size behind ls [] h k = refl
same_symbols size behind ls (x ∷ xs) h k =
    let a = symbol_of (kind_of behind) in
    let s = symbol_of (kind_of x) in
    let rest = lexemes (plain_tokens xs) in
    let mark = put (first_of ls) (is_border a s) (may_be_postfix a s rest) (and_parts _ _ h).0 (never_postfix behind x xs k) in
    let more = same_symbols size x (others_of ls) xs (and_parts (not (first_of ls) || is_border a s) _ h).1 (steady_behind behind x xs k) in
    ap (λ (l : Bool). (s, l) ∷ lexemes (lined_from size (others_of ls) xs)) mark
    ∙ ap (λ (ts : List Found). (s, false || (may_part a s rest && first_of ls)) ∷ ts) more

-- ---- strictness

module _ (size : ℕ) (t : List ℕ) (ls : List Bool) (xs : List Lexeme) where
  abbrev behind_text : List ℕ
  behind_text = lined_units false ls (Punct punct.Semicolon ∷ xs)

  abbrev behind_mark : List ℕ
  behind_mark = lined_units false (others_of ls) xs

  abbrev semicolon : Token
  semicolon = record { what = kind.Punct punct.Semicolon; start = size - length (codes ";" ++ behind_mark); end = size - length behind_mark; after_line = first_of ls }

  rest_fits : length (string_text t ++ behind_text) ≤ size → length behind_mark ≤ size
  rest_fits le =
      let e = length-append (string_text t) behind_text in
      let f = length-append (gap (first_of ls) false false) (codes ";" ++ behind_mark) in
      omega arith

  module _ (line : Bool) where
    abbrev first : Token
    first = record { what = kind.Text t; start = size - length (string_text t ++ behind_text); end = size - length behind_text; after_line = line }

    first_directive : t ≡ codes "use strict" → length (string_text t ++ behind_text) ≤ size → IsStrict (first ∷ semicolon ∷ lined_from size (others_of ls) xs)
    first_directive e le =
        let spanned = length-append (string_text t) behind_text in
        let twelve : length (string_text t) ≡ 12 = subst (λ v. length (string_text v) ≡ 12) (sym e) refl in
        let s = spans size (length (string_text t ++ behind_text)) (length behind_text) first le (omega arith) (subst (λ v. kind.Text v ≡ kind.Text (codes "use strict")) (sym e) refl) refl refl in
        here first (semicolon ∷ lined_from size (others_of ls) xs) (lined_from size (others_of ls) xs) s (ends semicolon (lined_from size (others_of ls) xs) refl)

    later_directive : IsStrict (lined_from size (others_of ls) xs) → IsStrict (first ∷ semicolon ∷ lined_from size (others_of ls) xs)
    later_directive h = later first (semicolon ∷ lined_from size (others_of ls) xs) (lined_from size (others_of ls) xs) refl (ends semicolon (lined_from size (others_of ls) xs) refl) h

lined_strict : (size : ℕ) (ls : List Bool) (ss : tree.Stmts) → begins_strict ss ≡ true → length (lined_units false ls (stmts_lexemes ss)) ≤ size → IsStrict (lined_from size ls (stmts_lexemes ss))
lined_strict size ls (tree.then_stmt (tree.expr (tree.text t)) ss) e le =
    let f = length-append (gap (first_of ls) false false) (string_text t ++ lined_units false (others_of ls) (Punct punct.Semicolon ∷ stmts_lexemes ss)) in
    let fits : length (string_text t ++ lined_units false (others_of ls) (Punct punct.Semicolon ∷ stmts_lexemes ss)) ≤ size = omega arith in
    by (bytes_eq t (codes "use strict")) refl e fits
    (λ h. lined_strict size (others_of (others_of ls)) ss h (rest_fits size t (others_of ls) (stmts_lexemes ss) fits))
  where
    by : (b : Bool) → bytes_eq t (codes "use strict") ≡ b → (b || begins_strict ss) ≡ true → length (string_text t ++ lined_units false (others_of ls) (Punct punct.Semicolon ∷ stmts_lexemes ss)) ≤ size → (begins_strict ss ≡ true → IsStrict (lined_from size (others_of (others_of ls)) (stmts_lexemes ss))) → IsStrict (lined_from size ls (Text t ∷ Punct punct.Semicolon ∷ stmts_lexemes ss))
    by true same h fits rest = first_directive size t (others_of ls) (stmts_lexemes ss) (first_of ls) ((bytes_eq-Decides t (codes "use strict")).0 same) fits
    by false same h fits rest = later_directive size t (others_of ls) (stmts_lexemes ss) (first_of ls) (rest h)
lined_strict size ls ss e le = absurd (cc)

-- ---- the law

pub lined_scripts_are_read_again : LinedScriptsAreReadAgain
lined_scripts_are_read_again script ls is may =
    let xs = stmts_lexemes script in
    let w = lexemes_can_be_written script is in
    let are = written xs w in
    let c = alone xs (stmts_calm script) in
    let text = lined_text ls xs in
    let units = lined_units false ls xs in
    let code = lined_is_coded xs ls false are in
    let same = units_of_coded text units code in
    let size = length units in
    record {
      utf8 = coded_is_utf8 text units code;
      no_tag_in_units = subst HasNoEndTag (sym same) (coded_has_no_tag text units code (λ before after e. no_tag false text before after (lined_scan xs ls start false (written_are_ordinary xs are) c) e));
      no_control = ap (list_all is_lined) same ∙ units_are_lined xs ls false are;
      tokens = lined_from size ls xs;
      read = subst (λ us. TokensOf (length us) us (lined_from size ls xs)) (sym same) (has_lined size xs ls start false are c);
      derived = line_ends_are_harmless ls (plain_tokens xs) (lined_from size ls xs) script (lexemes_derive_the_tree (plain_tokens xs) script is (are_tokens xs)) (same_symbols size opening ls xs may (script_is_steady script is));
      strict = λ e. lined_strict size ls script e (omega arith);
    }

-- ---- and a line end after all of them

ends_with_gap : Gap (10 ∷ []) [] true
ends_with_gap = gap_more (10 ∷ []) [] [] true false (line_feed_is_gap []) (no_gap_more [] no_gap_at_end)

ended_ends : (x : Lexeme) (us : List ℕ) → begins_with (refuses x) us ≡ false → begins_with (refuses x) (us ++ 10 ∷ []) ≡ false
ended_ends x [] e = line_feed_ends x
ended_ends x (u ∷ us) e = e

-- the tokens are the same, at the same places
ended_has : (size : ℕ) (xs : List Lexeme) (ls : List Bool) (before : Lexeme) (after_word : Bool) → are_written xs ≡ true → calm before xs ≡ true
    → TokensOf (size + 1) (lined_units after_word ls xs ++ 10 ∷ []) (lined_from size ls xs)
ended_has size [] ls before after_word w c = no_tokens (10 ∷ []) true ends_with_gap
ended_has size (x ∷ xs) ls before after_word w c =
    let g = gap (first_of ls) after_word (is_word x) in
    let rest = lined_units (is_word x) (others_of ls) xs in
    let here = lexeme_units x ++ (rest ++ 10 ∷ []) in
    let whole : g ++ here ≡ (g ++ (lexeme_units x ++ rest)) ++ 10 ∷ [] = ap (λ (t : List ℕ). g ++ t) (sym (append_assoc (lexeme_units x) rest (10 ∷ []))) ∙ sym (append_assoc g (lexeme_units x ++ rest) (10 ∷ [])) in
    let behind_rest : (size + 1) - length (rest ++ 10 ∷ []) ≡ size - length rest = omega (arith, length-append rest (10 ∷ [])) in
    let from_here : (size + 1) - length here ≡ size - length (lexeme_units x ++ rest) =
    omega (arith, length-append (lexeme_units x) (rest ++ 10 ∷ []), length-append rest (10 ∷ []), length-append (lexeme_units x) rest) in
    let w' : are_written xs ≡ true = (and_parts _ _ w).1 in
    let c' : calm x xs ≡ true = (and_parts (meets before x) _ c).1 in
    let read = lexeme_is_read x (rest ++ 10 ∷ []) (and_parts _ _ w).0 (ended_ends x rest (lined_ends x (others_of ls) xs w' c')) in
    let first : ℕ → ℕ → Token = λ s e. record { what = kind_of x; start = s; end = e; after_line = first_of ls } in
    let found = token_more (g ++ here) here (rest ++ 10 ∷ []) (first_of ls) (kind_of x) (lined_from size (others_of ls) xs) (gap_is_gap (first_of ls) after_word (is_word x) here read.no_gap) read.at
    (ended_has size xs (others_of ls) x (is_word x) w' c') in
    subst (λ (us : List ℕ). TokensOf (size + 1) us (lined_from size ls (x ∷ xs))) whole
    (subst (λ (e : ℕ). TokensOf (size + 1) (g ++ here) (first (size - length (lexeme_units x ++ rest)) e ∷ lined_from size (others_of ls) xs)) behind_rest
    (subst (λ (s : ℕ). TokensOf (size + 1) (g ++ here) (first s ((size + 1) - length (rest ++ 10 ∷ [])) ∷ lined_from size (others_of ls) xs)) from_here found))

-- no end tag is made by a line end after a text
ended_has_no_tag : (us : List ℕ) → HasNoEndTag us → HasNoEndTag (us ++ 10 ∷ [])
ended_has_no_tag us none [] after e = by us none e
  where
    by : (us : List ℕ) → HasNoEndTag us → us ++ 10 ∷ [] ≡ 60 ∷ 47 ∷ after → ⊥
    by [] none e = cc
    by (u ∷ []) none e = cc
    by (u ∷ v ∷ us) none e =
        let less : u ≡ 60 = cc in
        let slash : v ≡ 47 = cc in
        none [] us (ap (λ (x : ℕ). x ∷ v ∷ us) less ∙ ap (λ (x : ℕ). 60 ∷ x ∷ us) slash)
ended_has_no_tag [] none (b ∷ before) after e = by before (tail_of e)
  where
    tail_of : 10 ∷ [] ≡ b ∷ (before ++ (60 ∷ 47 ∷ after)) → [] ≡ before ++ (60 ∷ 47 ∷ after)
    tail_of e = cc

    by : (before : List ℕ) → [] ≡ before ++ (60 ∷ 47 ∷ after) → ⊥
    by [] e = cc
    by (c ∷ cs) e = cc
ended_has_no_tag (u ∷ us) none (b ∷ before) after e =
    let same : u ≡ b = cc in
    let rest : us ++ 10 ∷ [] ≡ before ++ (60 ∷ 47 ∷ after) = cc in
    ended_has_no_tag us (λ f a k. none (u ∷ f) a (ap (λ (x : List ℕ). u ∷ x) k)) before after rest

line_feed_is_coded : Coded (10 ∷ []) (10 ∷ [])
line_feed_is_coded = ascii_is_coded (10 ∷ []) refl

-- a script is read again, too, where a line end stands after it
pub ended_scripts_are_read_again : (script : tree.Stmts) (ls : List Bool) → IsSyntax script → may_be_lined opening ls (stmts_lexemes script) ≡ true
    → LinedAgain script (lined_text ls (stmts_lexemes script) ++ 10 ∷ [])
ended_scripts_are_read_again script ls is may =
    let xs = stmts_lexemes script in
    let w = lexemes_can_be_written script is in
    let are = written xs w in
    let c = alone xs (stmts_calm script) in
    let text = lined_text ls xs in
    let units = lined_units false ls xs in
    let again = lined_scripts_are_read_again script ls is may in
    let code = both_coded text units (10 ∷ []) (10 ∷ []) (lined_is_coded xs ls false are) line_feed_is_coded in
    let same = units_of_coded (text ++ 10 ∷ []) (units ++ 10 ∷ []) code in
    let size = length units in
    let one : size + 1 ≡ length (units ++ 10 ∷ []) = omega (arith, length-append units (10 ∷ [])) in
    record {
      utf8 = coded_is_utf8 (text ++ 10 ∷ []) (units ++ 10 ∷ []) code;
      no_tag_in_units = subst HasNoEndTag (sym same) (ended_has_no_tag units (subst HasNoEndTag (units_of_coded text units (lined_is_coded xs ls false are)) again.no_tag_in_units));
      no_control = ap (list_all is_lined) same ∙ joined units (10 ∷ []) (units_are_lined xs ls false are) refl;
      tokens = lined_from size ls xs;
      read = subst (λ (us : List ℕ). TokensOf (length us) us (lined_from size ls xs)) (sym same)
          (subst (λ (n : ℕ). TokensOf n (units ++ 10 ∷ []) (lined_from size ls xs)) one (ended_has size xs ls start false are c));
      derived = line_ends_are_harmless ls (plain_tokens xs) (lined_from size ls xs) script (lexemes_derive_the_tree (plain_tokens xs) script is (are_tokens xs)) (same_symbols size opening ls xs may (script_is_steady script is));
      strict = λ e. lined_strict size ls script e (omega arith);
    }
