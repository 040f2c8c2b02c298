-- One token stands at one place.
use Rattle.std.proofs.Common.{◌≡◌, ◌∙◌, ℕ, ℤ, pos, ◌<◌, ◌≤◌, Bool, true, false, cond, ◌&&◌, ◌||◌, ◌==◌, List, [], ◌∷◌, ◌++◌, length, take, drop, Option, Some, None, refl, sym, ap, subst, get_or, ◌-◌, length-append, arith}
use Rattle.std.specs.Prelude.{nat_le}
use Rattle.std.specs.Char.{is_digit}
use Rattle.std.specs.List.{prefix_len, list_all}
use Rattle.std.specs.Str.Parse.{digits_value}
use Rattle.std.proofs.lemmas.Bool.Decides.{nat_tests}
use Rattle.std.proofs.lemmas.Bool.{and_parts, or_left, or_right}
use Rattle.js_core.specs.Whole.{largest}
use Rattle.js_core.specs.declared.token.Punct.{Punct}
use Rattle.js_core.specs.declared.token.TokenKind.{TokenKind}
use Rattle.js_core.specs.declared.token.TokenKind.TheVariants.{Word, Number, Text, Punct as Punctuator}
use Rattle.js_lexer.specs.Characters.{is_identifier_start, is_identifier_part, is_decimal_digit, is_quote, begins_with}
use Rattle.js_lexer.specs.Numbers.{value_in, value_behind_zero, value_of, is_refused_behind_number}
use Rattle.js_core.specs.Spelling.{punct_text}
use Rattle.js_lexer.specs.Punctuators.{StandsAt}
use Rattle.js_lexer.specs.Reading.{whole_from, is_literal_part}
use Rattle.js_lexer.specs.Strings.{Closes}
use Rattle.js_lexer.specs.Tokens.{WordAt, NumberAt, TokenAt}
use Rattle.js_lexer.specs.Tokens.TokenAt.{word, number, string, punctuator}
use Rattle.js_lexer.proofs.Firsts.{class_of, class_of_quote, class_of_digit, class_of_start, class_of_other, first_of_both, is_plain, plain_first, start_is_part, start_of_ascii, punctuator_is_other}
use Rattle.js_lexer.proofs.Firsts.Class.{Quote, Digit, Start, Other}
use Rattle.js_lexer.proofs.Literals.{closes_once}
use Rattle.js_lexer.proofs.Longest.{stands_once}
use Rattle.js_lexer.proofs.Runs.{Run, run_of, one_run}

-- Words

starts_units : (units rest : List ℕ) → begins_with is_identifier_start (units ++ rest) ≡ true → begins_with is_identifier_part rest ≡ false → begins_with is_identifier_start units ≡ true
starts_units [] [] s e = absurd (cc)
starts_units [] (u ∷ us) s e = let part = start_is_part u s in absurd (cc)
starts_units (u ∷ us) rest s e = s

pub word_stands : (text units rest value : List ℕ) (n : ℕ) → begins_with is_identifier_start text ≡ true → n ≡ prefix_len is_identifier_part text → units ≡ take n text → rest ≡ drop n text → value ≡ units → TokenAt text rest (Word value)
word_stands text units rest value n s e t d v =
    let run = run_of is_identifier_part text units rest n e t d in
    let starts : begins_with is_identifier_start (units ++ rest) ≡ true = rw (← run.joined) s in
    let at : WordAt text units rest = record { joined = run.joined; starts = starts_units units rest starts run.ends; goes_on = run.each; ends = run.ends } in
    subst (λ w. TokenAt text rest (Word w)) (sym v) (word text units rest at)

word_run : (text units rest : List ℕ) → WordAt text units rest → Run is_identifier_part text units rest
word_run text units rest w = record { joined = w.joined; each = w.goes_on; ends = w.ends }

pub word_class : (text units rest : List ℕ) → WordAt text units rest → class_of text ≡ Start
word_class text units rest w = class_of_start text (rw w.joined (first_of_both is_identifier_start units rest w.starts))

-- Numbers

all_of : (p q : ℕ → Bool) → ((u : ℕ) → p u ≡ true → q u ≡ true) → (us : List ℕ) → list_all p us ≡ true → list_all q us ≡ true
all_of p q f [] e = refl
all_of p q f (u ∷ us) e = by_case (p u) refl e (all_of p q f us)
  where
    by_case : (b : Bool) → p u ≡ b → (b && list_all p us) ≡ true → (list_all p us ≡ true → list_all q us ≡ true) → (q u && list_all q us) ≡ true
    by_case true h e more = let here = f u h in rw here (more e)
    by_case false h e more = absurd (cc)

digit_is_part : (u : ℕ) → is_digit u 10 ≡ true → is_literal_part u ≡ true
digit_is_part u e = rw e refl

hex_is_part : (u : ℕ) → is_digit u 16 ≡ true → is_literal_part u ≡ true
hex_is_part u e = by_case (is_decimal_digit u) refl
  where
    by_case : (b : Bool) → is_decimal_digit u ≡ b → is_literal_part u ≡ true
    by_case true d = or_left (is_decimal_digit u) (is_identifier_start u) d
    by_case false d =
        let low : u < 128 = grind (arith, nat_tests) in
        let start : is_identifier_start u ≡ true = rw (start_of_ascii u low) (grind (arith, nat_tests)) in
        or_right (is_decimal_digit u) (is_identifier_start u) start

value_in_parts : (radix : ℕ) (us : List ℕ) (value : ℕ) → value_in radix us ≡ Some value → list_all (λ v. is_digit v radix) us ≡ true
value_in_parts radix [] value e = refl
value_in_parts radix (u ∷ us) value e = by_case (list_all (λ v. is_digit v radix) (u ∷ us)) refl e
  where
    by_case : (b : Bool) → list_all (λ v. is_digit v radix) (u ∷ us) ≡ b → cond b (Some (digits_value radix (u ∷ us))) None ≡ Some value → list_all (λ v. is_digit v radix) (u ∷ us) ≡ true
    by_case true h e = h
    by_case false h e = absurd (cc)

x_is_part : (u : ℕ) → ((u == 120) || (u == 88)) ≡ true → is_literal_part u ≡ true
x_is_part u e =
    let low : u < 128 = grind (arith, nat_tests) in
    let start : is_identifier_start u ≡ true = rw (start_of_ascii u low) (grind (arith, nat_tests)) in
    or_right (is_decimal_digit u) (is_identifier_start u) start

behind_zero_parts : (us : List ℕ) (value : ℕ) → value_behind_zero us ≡ Some value → list_all is_literal_part us ≡ true
behind_zero_parts [] value e = refl
behind_zero_parts (u ∷ us) value e = by_case ((u == 120) || (u == 88)) refl e
  where
    by_case : (b : Bool) → ((u == 120) || (u == 88)) ≡ b → cond b (value_in 16 us) None ≡ Some value → (is_literal_part u && list_all is_literal_part us) ≡ true
    by_case true h e = let here = x_is_part u h in rw here (all_of (λ v. is_digit v 16) is_literal_part hex_is_part us (value_in_parts 16 us value e))
    by_case false h e = absurd (cc)

zero_is_digit : (u : ℕ) → (u == 48) ≡ true → is_decimal_digit u ≡ true
zero_is_digit u e = grind (arith, nat_tests)

pub literal_parts : (units : List ℕ) (value : ℕ) → value_of units ≡ Some value → list_all is_literal_part units ≡ true
unfolding value_of
literal_parts [] value e = refl
literal_parts (u ∷ us) value e = by_case (u == 48) refl e
  where
    by_case : (b : Bool) → (u == 48) ≡ b → cond b (value_behind_zero us) (value_in 10 (u ∷ us)) ≡ Some value → list_all is_literal_part (u ∷ us) ≡ true
    by_case true h e = let here = or_left (is_decimal_digit u) (is_identifier_start u) (zero_is_digit u h) in rw here (behind_zero_parts us value e)
    by_case false h e = all_of (λ v. is_digit v 10) is_literal_part digit_is_part (u ∷ us) (value_in_parts 10 (u ∷ us) value e)

literal_begins : (units : List ℕ) (value : ℕ) → value_of units ≡ Some value → begins_with is_decimal_digit units ≡ true
unfolding value_of
literal_begins [] value e = absurd (cc)
literal_begins (u ∷ us) value e = by_case (u == 48) refl e
  where
    by_case : (b : Bool) → (u == 48) ≡ b → cond b (value_behind_zero us) (value_in 10 (u ∷ us)) ≡ Some value → is_decimal_digit u ≡ true
    by_case true h e = zero_is_digit u h
    by_case false h e = (and_parts (is_decimal_digit u) (list_all (λ v. is_digit v 10) us) (value_in_parts 10 (u ∷ us) value e)).0

refused_parts : (digit point start : Bool) → (digit || point || start) ≡ false → ((digit || start) ≡ false) × (point ≡ false)
refused_parts false false start e = (e, refl)
refused_parts false true start e = absurd (cc)
refused_parts true point start e = absurd (cc)

refused_whole : (digit point start : Bool) → (digit || start) ≡ false → point ≡ false → (digit || point || start) ≡ false
refused_whole false false start e p = e
refused_whole false true start e p = absurd (cc)
refused_whole true point start e p = absurd (cc)

ends_run : (rest : List ℕ) → begins_with is_refused_behind_number rest ≡ false → (begins_with is_literal_part rest ≡ false) × (begins_with (λ u. u == 46) rest ≡ false)
ends_run [] e = (refl, refl)
ends_run (u ∷ us) e = refused_parts (is_decimal_digit u) (u == 46) (is_identifier_start u) e

run_ends : (rest : List ℕ) → begins_with is_literal_part rest ≡ false → begins_with (λ u. u == 46) rest ≡ false → begins_with is_refused_behind_number rest ≡ false
run_ends [] e p = refl
run_ends (u ∷ us) e p = refused_whole (is_decimal_digit u) (u == 46) (is_identifier_start u) e p

pub number_run : (text rest : List ℕ) (value : ℕ) (n : NumberAt text rest value) → Run is_literal_part text n.units rest
number_run text rest value n = record { joined = n.joined; each = literal_parts n.units value n.writes; ends = (ends_run rest n.ends).0 }

pub number_class : (text rest : List ℕ) (value : ℕ) → NumberAt text rest value → class_of text ≡ Digit
number_class text rest value n = class_of_digit text (rw n.joined (first_of_both is_decimal_digit n.units rest (literal_begins n.units value n.writes)))

pub number_stands : (text units rest : List ℕ) (n : ℕ) (whole : Option ℤ) → n ≡ prefix_len is_literal_part text → units ≡ take n text → rest ≡ drop n text → Some whole ≡ whole_from (value_of units) → begins_with (λ u. u == 46) rest ≡ false → TokenAt text rest (Number whole)
number_stands text units rest n whole e t d w p = by_value (value_of units) refl w
  where
    run : Run is_literal_part text units rest
    run = run_of is_literal_part text units rest n e t d

    by_range : (value : ℕ) → value_of units ≡ Some value → (b : Bool) → nat_le value largest ≡ b → Some whole ≡ cond b (Some (Some (pos value))) None → TokenAt text rest (Number whole)
    by_range value v true l w =
        let le : value ≤ largest = grind (arith, nat_tests) in
        let same : Some (pos value) ≡ whole = cc in
        subst (λ o. TokenAt text rest (Number o)) same (number text rest value (record { units = units; joined = run.joined; writes = v; in_range = le; ends = run_ends rest run.ends p }))
    by_range value v false l w = absurd (cc)

    by_value : (o : Option ℕ) → value_of units ≡ o → Some whole ≡ whole_from o → TokenAt text rest (Number whole)
    by_value None v w = absurd (cc)
    by_value (Some value) v w = by_range value v (nat_le value largest) refl w

-- What a token of each class is

pub record Worded (text rest : List ℕ) (what : TokenKind) : Type 0 where
  pub units : List ℕ
  pub at : WordAt text units rest
  pub is : what ≡ Word units

pub record Numbered (text rest : List ℕ) (what : TokenKind) : Type 0 where
  pub value : ℕ
  pub at : NumberAt text rest value
  pub is : what ≡ Number (Some (pos value))

pub record Quoted (quote : ℕ) (behind rest : List ℕ) (what : TokenKind) : Type 0 where
  pub value : List ℕ
  pub closes : Closes quote behind rest value
  pub is : what ≡ Text value

pub record Spelled (text rest : List ℕ) (what : TokenKind) : Type 0 where
  pub punct : Punct
  pub at : StandsAt text rest punct
  pub is : what ≡ Punctuator punct

pub string_class : (quote : ℕ) (behind : List ℕ) → is_quote quote ≡ true → class_of (quote ∷ behind) ≡ Quote
string_class quote behind e = class_of_quote (quote ∷ behind) e

pub punct_class : (text rest : List ℕ) (punct : Punct) → StandsAt text rest punct → class_of text ≡ Other
punct_class text rest punct s = punctuator_is_other text rest punct s.spelled

pub word_of : (text rest : List ℕ) (what : TokenKind) → class_of text ≡ Start → TokenAt text rest what → Worded text rest what
word_of text rest what c (word t units r w) = record { units = units; at = w; is = refl }
word_of text rest what c (number t r value n) = absurd (let k = number_class t r value n in cc)
word_of text rest what c (string quote behind r value q h) = absurd (let k = string_class quote behind q in cc)
word_of text rest what c (punctuator t r punct s) = absurd (let k = punct_class t r punct s in cc)

pub number_of : (text rest : List ℕ) (what : TokenKind) → class_of text ≡ Digit → TokenAt text rest what → Numbered text rest what
number_of text rest what c (word t units r w) = absurd (let k = word_class t units r w in cc)
number_of text rest what c (number t r value n) = record { value = value; at = n; is = refl }
number_of text rest what c (string quote behind r value q h) = absurd (let k = string_class quote behind q in cc)
number_of text rest what c (punctuator t r punct s) = absurd (let k = punct_class t r punct s in cc)

pub string_of : (text rest : List ℕ) (what : TokenKind) (quote : ℕ) (behind : List ℕ) → text ≡ quote ∷ behind → class_of text ≡ Quote → TokenAt text rest what → Quoted quote behind rest what
string_of text rest what quote behind e c (word t units r w) = absurd (let k = word_class t units r w in cc)
string_of text rest what quote behind e c (number t r value n) = absurd (let k = number_class t r value n in cc)
string_of text rest what quote behind e c (string q b r value is h) =
    let one : q ≡ quote = cc in let same : b ≡ behind = cc in
    record { value = value; closes = subst (λ x. Closes x behind r value) one (subst (λ x. Closes q x r value) same h); is = refl }
string_of text rest what quote behind e c (punctuator t r punct s) = absurd (let k = punct_class t r punct s in cc)

pub punct_of : (text rest : List ℕ) (what : TokenKind) → class_of text ≡ Other → TokenAt text rest what → Spelled text rest what
punct_of text rest what c (word t units r w) = absurd (let k = word_class t units r w in cc)
punct_of text rest what c (number t r value n) = absurd (let k = number_class t r value n in cc)
punct_of text rest what c (string quote behind r value q h) = absurd (let k = string_class quote behind q in cc)
punct_of text rest what c (punctuator t r punct s) = record { punct = punct; at = s; is = refl }

pub token_once : (text rest rest' : List ℕ) (what what' : TokenKind) → TokenAt text rest what → TokenAt text rest' what' → (rest ≡ rest') × (what ≡ what')
token_once text rest rest' what what' (word t units r w) other =
    let o = word_of t rest' what' (word_class t units r w) other in
    let same = one_run is_identifier_part t units r o.units rest' (word_run t units r w) (word_run t o.units rest' o.at) in
    (same.1, ap Word same.0 ∙ sym o.is)
token_once text rest rest' what what' (number t r value n) other =
    let o = number_of t rest' what' (number_class t r value n) other in
    let same = one_run is_literal_part t n.units r o.at.units rest' (number_run t r value n) (number_run t rest' o.value o.at) in
    let both : Some value ≡ Some o.value = sym n.writes ∙ ap value_of same.0 ∙ o.at.writes in
    let one : value ≡ o.value = cc in
    (same.1, ap (λ v. Number (Some (pos v))) one ∙ sym o.is)
token_once text rest rest' what what' (string quote behind r value q h) other =
    let o = string_of (quote ∷ behind) rest' what' quote behind refl (string_class quote behind q) other in
    let same = closes_once quote behind r value rest' o.value h o.closes in
    (same.0, ap Text same.1 ∙ sym o.is)
token_once text rest rest' what what' (punctuator t r punct s) other =
    let o = punct_of t rest' what' (punct_class t r punct s) other in
    let same = stands_once t r rest' punct o.punct s o.at in
    (same.0, ap Punctuator same.1 ∙ sym o.is)

-- Refusals

pub number_refused : (text units rest : List ℕ) (n : ℕ) → begins_with is_decimal_digit text ≡ true → n ≡ prefix_len is_literal_part text → units ≡ take n text → rest ≡ drop n text → (None ≡ whole_from (value_of units)) → (end : List ℕ) (what : TokenKind) → TokenAt text end what → ⊥
number_refused text units rest n d e t r none end what at =
    let o = number_of text end what (class_of_digit text d) at in
    let same = one_run is_literal_part text units rest o.at.units end (run_of is_literal_part text units rest n e t r) (number_run text end o.value o.at) in
    let value : value_of units ≡ Some o.value = ap value_of same.0 ∙ o.at.writes in
    let le : o.value ≤ largest = o.at.in_range in
    let fits : nat_le o.value largest ≡ true = grind (arith, nat_tests) in
    let some : whole_from (Some o.value) ≡ Some (Some (pos o.value)) = rw fits in
    let clash : None ≡ Some (Some (pos o.value)) = none ∙ ap whole_from value ∙ some in
    cc

pub point_refused : (text units rest : List ℕ) (n : ℕ) → begins_with is_decimal_digit text ≡ true → n ≡ prefix_len is_literal_part text → units ≡ take n text → rest ≡ drop n text → begins_with (λ u. u == 46) rest ≡ true → (end : List ℕ) (what : TokenKind) → TokenAt text end what → ⊥
point_refused text units rest n d e t r point end what at =
    let o = number_of text end what (class_of_digit text d) at in
    let same = one_run is_literal_part text units rest o.at.units end (run_of is_literal_part text units rest n e t r) (number_run text end o.value o.at) in
    let none : begins_with (λ u. u == 46) end ≡ false = (ends_run end o.at.ends).1 in
    let some : begins_with (λ u. u == 46) end ≡ true = sym (ap (begins_with (λ u. u == 46)) same.1) ∙ point in
    absurd (cc)

pub punct_refused : (text : List ℕ) → class_of text ≡ Other → ((rest : List ℕ) (punct : Punct) → StandsAt text rest punct → ⊥) → (end : List ℕ) (what : TokenKind) → TokenAt text end what → ⊥
punct_refused text c none end what at = let o = punct_of text end what c at in none end o.punct o.at

-- Lengths

longer_by : (class : ℕ → Bool) (text units rest : List ℕ) → text ≡ units ++ rest → begins_with class units ≡ true → length rest < length text
longer_by class text [] rest e s = absurd (cc)
longer_by class text (u ∷ us) rest e s = rw e (omega (arith, length-append us rest))

pub shorter : (text rest : List ℕ) (what : TokenKind) → TokenAt text rest what → (class_of text ≡ Quote → ⊥) → length rest < length text
shorter text rest what (word t units r w) other = longer_by is_identifier_start t units r w.joined w.starts
shorter text rest what (number t r value n) other = longer_by is_decimal_digit t n.units r n.joined (literal_begins n.units value n.writes)
shorter text rest what (string quote behind r value q h) other = absurd (other (string_class quote behind q))
shorter text rest what (punctuator t r punct s) other = longer_by is_plain t (punct_text punct) r s.spelled (plain_first punct)

end_is_other : class_of [] ≡ Other
unfolding class_of
end_is_other = refl

pub nothing_at_end : (text rest : List ℕ) (what : TokenKind) → length text < 1 → TokenAt text rest what → ⊥
nothing_at_end [] rest what l at = let less = shorter [] rest what at (λ e. let o = end_is_other in absurd (cc)) in absurd (omega arith)
nothing_at_end (u ∷ us) rest what l at = absurd (omega arith)

pub digit_unquoted : (text : List ℕ) → begins_with is_decimal_digit text ≡ true → class_of text ≡ Quote → ⊥
digit_unquoted text d e = let k = class_of_digit text d in absurd (cc)

pub start_unquoted : (text : List ℕ) → begins_with is_identifier_start text ≡ true → class_of text ≡ Quote → ⊥
start_unquoted text s e = let k = class_of_start text s in absurd (cc)

pub other_unquoted : (text : List ℕ) → begins_with is_quote text ≡ false → begins_with is_decimal_digit text ≡ false → begins_with is_identifier_start text ≡ false → class_of text ≡ Quote → ⊥
other_unquoted text q d s e = let k = class_of_other text q d s in absurd (cc)

-- Strings

all_taken : (us : List ℕ) → take (length us) us ≡ us
all_taken [] = refl
all_taken (u ∷ us) = ap (λ v. u ∷ v) (all_taken us)

first_and_rest : (text : List ℕ) → 1 ≤ length text → text ≡ get_or text 0 0 ∷ take (length text - 1) (drop 1 text)
first_and_rest [] l = absurd (omega arith)
first_and_rest (u ∷ us) l =
    let n : length (u ∷ us) - 1 ≡ length us = omega arith in
    rw n (ap (λ v. u ∷ v) (sym (all_taken us)))

pub string_stands : (text rest value : List ℕ) → 1 ≤ length text → begins_with is_quote text ≡ true → Closes (get_or text 0 0) (take (length text - 1) (drop 1 text)) rest value → TokenAt text rest (Text value)
string_stands text rest value l q h =
    let split = first_and_rest text l in
    let quoted : is_quote (get_or text 0 0) ≡ true = rw split at q in
    subst (λ t. TokenAt t rest (Text value)) (sym split) (string (get_or text 0 0) (take (length text - 1) (drop 1 text)) rest value quoted h)

pub string_refused : (text : List ℕ) → 1 ≤ length text → begins_with is_quote text ≡ true → ((end value : List ℕ) → Closes (get_or text 0 0) (take (length text - 1) (drop 1 text)) end value → ⊥) → (end : List ℕ) (what : TokenKind) → TokenAt text end what → ⊥
string_refused text l q none end what at =
    let o = string_of text end what (get_or text 0 0) (take (length text - 1) (drop 1 text)) (first_and_rest text l) (class_of_quote text q) at in
    none end o.value o.closes
