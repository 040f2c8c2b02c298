-- The strings among the tokens of a JSON text that is given by bytes are so, and no longer than it.
use Rattle.std.proofs.Common.{◌≡◌, ℕ, suc, ◌+◌, ◌*◌, ◌/◌, ◌%◌, ◌<◌, ◌≤◌, ◌==◌, ◌&&◌, ◌||◌, Bool, true, false, cond, nat_le, nat_lt, List, [], ◌∷◌, length, length-append, Option, Some, None, option_and_then, refl, subst, arith}
use Rattle.std.specs.Char.{digit_value, encode_utf8, is_digit}
use Rattle.std.proofs.lemmas.Bool.{and_from, and_parts, ltb-true}
use Rattle.json.specs.Ascii as ascii
use Rattle.json.specs.Lex.{Class, Lexeme, Mode, Place, begins_colon, between, class, colon, comma, if_allowed, in_escape, in_string, in_word, lex, lex_byte, may_begin, may_close, operator_lexeme, place_token, punctuate, string_token, token, tokens}
use Rattle.json.specs.Lex.Class.{quote, backslash, operator, space, other}
use Rattle.json.specs.Lex.Place.{fresh, after_value, after_comma, after_key}
use Rattle.json.specs.Text.{Within, after_backslash, after_high, after_u, code_unit, content, is_high_surrogate, is_low_surrogate, plain, prepend, short_escape, surrogate_pair}
use Rattle.json.specs.Token as json_token
use Rattle.json.specs.Token.{Token}
use Rattle.json.specs.Word.{after_number, ends_word, head, literal, number_before, word}
use Rattle.literal_values.specs.Values.{longest_name}
use Rattle.literal_pages.proofs.Bytes.{InBytes, are_bytes, encoded_bytes, is_byte, joined_bytes}

-- ---- texts of bytes, no longer than the largest page

pub record IsShortText (s : List ℕ) : Type 0 where
  pub bytes : InBytes s
  pub short : length s ≤ longest_name

later_text : (x : ℕ) (xs : List ℕ) → IsShortText (x ∷ xs) → IsShortText xs
later_text x xs h = let short = h.short in record { bytes = (and_parts (is_byte x) (are_bytes xs) h.bytes).1; short = omega arith }

-- ---- the content of a string

-- of no more than so many bytes
abbrev FoundBytes : ℕ → Option (List ℕ) → Type 0
FoundBytes n None = Unit {0}
FoundBytes n (Some s) = InBytes s × (length s ≤ n)

either : (n : ℕ) (b : Bool) (x y : Option (List ℕ)) → (b ≡ true → FoundBytes n x) → (b ≡ false → FoundBytes n y) → FoundBytes n (cond b x y)
either n true x y f g = f refl
either n false x y f g = g refl

then : (n : ℕ) (o : Option ℕ) (f : ℕ → Option (List ℕ)) → ((u : ℕ) → o ≡ Some u → FoundBytes n (f u)) → FoundBytes n (option_and_then f o)
then n None f h = tt
then n (Some u) f h = h u refl

longer : (m n : ℕ) (o : Option (List ℕ)) → m ≤ n → FoundBytes m o → FoundBytes n o
longer m n None l h = tt
longer m n (Some s) l h = let k = h.1 in (h.0, omega arith)

prepended : (m n : ℕ) (bs : List ℕ) (o : Option (List ℕ)) → InBytes bs → length bs + m ≤ n → FoundBytes m o → FoundBytes n (prepend bs o)
prepended m n bs None h l k = tt
prepended m n bs (Some s) h l k = let j = length-append bs s in let i = k.1 in (joined_bytes bs s h k.0, omega arith)

four_bytes : (c : ℕ) → length (encode_utf8 c) ≤ 4
unfolding encode_utf8
four_bytes c = by (nat_lt c 128) (nat_lt c 2048) (nat_lt c 65536)
  where
    by : (x y z : Bool) → length (cond x (c ∷ []) (cond y ((192 + c / 64) ∷ (128 + c % 64) ∷ []) (cond z ((224 + c / 4096) ∷ (128 + c / 64 % 64) ∷ (128 + c % 64) ∷ []) ((240 + c / 262144) ∷ (128 + c / 4096 % 64) ∷ (128 + c / 64 % 64) ∷ (128 + c % 64) ∷ [])))) ≤ 4
    by true y z = omega arith
    by false true z = omega arith
    by false false true = omega arith
    by false false false = omega arith

one : (b : ℕ) → is_byte b ≡ true → InBytes (b ∷ [])
one b h = and_from (is_byte b) true h refl

unit_low : (a b c d u : ℕ) → code_unit a b c d ≡ Some u → u < 65536
unfolding code_unit
unit_low a b c d u e = by (is_digit a 16 && is_digit b 16 && is_digit c 16 && is_digit d 16) refl e
  where
    of_digits : (i j k l : ℕ) → nat_lt i 16 ≡ true → nat_lt j 16 ≡ true → nat_lt k 16 ≡ true → nat_lt l 16 ≡ true → i * 4096 + j * 256 + k * 16 + l < 65536
    of_digits i j k l p q r s =
        let p' = ltb-true i 16 p in
        let q' = ltb-true j 16 q in
        let r' = ltb-true k 16 r in
        let s' = ltb-true l 16 s in
        omega arith

    by : (t : Bool) → (is_digit a 16 && is_digit b 16 && is_digit c 16 && is_digit d 16) ≡ t
        → cond t (Some (digit_value a * 4096 + digit_value b * 256 + digit_value c * 16 + digit_value d)) None ≡ Some u → u < 65536
    by false h e = absurd (cc)
    by true h e =
        let p = and_parts (is_digit a 16 && is_digit b 16 && is_digit c 16) (is_digit d 16) h in
        let q = and_parts (is_digit a 16 && is_digit b 16) (is_digit c 16) p.0 in
        let r = and_parts (is_digit a 16) (is_digit b 16) q.0 in
        let same : digit_value a * 4096 + digit_value b * 256 + digit_value c * 16 + digit_value d ≡ u = cc in
        subst (λ n. n < 65536) same (of_digits (digit_value a) (digit_value b) (digit_value c) (digit_value d) r.0 r.1 q.1 p.1)

escape_byte : (x u : ℕ) → is_byte x ≡ true → short_escape x ≡ Some u → is_byte u ≡ true
unfolding short_escape
escape_byte x u h e =
    pick ((x == 34) || (x == 92) || (x == 47)) x _ h
    (pick (x == 98) 8 _ refl
    (pick (x == 102) 12 _ refl
    (pick (x == 110) 10 _ refl
    (pick (x == 114) 13 _ refl
    (pick (x == 116) 9 None refl (λ v d. absurd (cc)))))))
    u e
  where
    pick : (b : Bool) (k : ℕ) (o : Option ℕ) → is_byte k ≡ true → ((v : ℕ) → o ≡ Some v → is_byte v ≡ true) → (v : ℕ) → cond b (Some k) o ≡ Some v → is_byte v ≡ true
    pick true k o le f v d = let same : k ≡ v = cc in subst (λ w. is_byte w ≡ true) same le
    pick false k o le f v d = f v d

high_low : (u : ℕ) → is_high_surrogate u ≡ true → u < 56320
high_low u h = ltb-true u 0xdc00 (and_parts (nat_le 0xd800 u) (nat_lt u 0xdc00) h).1

low_low : (u : ℕ) → is_low_surrogate u ≡ true → u < 57344
low_low u h = ltb-true u 0xe000 (and_parts (nat_le 0xdc00 u) (nat_lt u 0xe000) h).1

pair_low : (h l : ℕ) → h < 56320 → l < 57344 → surrogate_pair h l < 1114112
pair_low h l a b = omega arith

-- a high surrogate that was read
abbrev IsHigh : Within → Type 0
IsHigh (after_high h) = h < 56320
IsHigh w = Unit {0}

content_bytes : (w : Within) (xs : List ℕ) → IsHigh w → InBytes xs → FoundBytes (length xs) (content w xs)
unfolding content
content_bytes plain [] i h = tt
content_bytes plain (x ∷ xs) i h =
    let n : ℕ = suc (length xs) in
    let parts = and_parts (is_byte x) (are_bytes xs) h in
    either n (x == 34) (Some []) _ (λ q. (refl, omega arith))
    (λ q. either n (x == 92) (content after_backslash xs) _ (λ b. longer (length xs) n (content after_backslash xs) (omega arith) (content_bytes after_backslash xs tt parts.1))
    (λ b. either n (nat_lt x 32) None (prepend (x ∷ []) (content plain xs)) (λ l. tt)
    (λ l. prepended (length xs) n (x ∷ []) (content plain xs) (one x parts.0) (omega arith) (content_bytes plain xs tt parts.1))))
content_bytes after_backslash [] i h = tt
content_bytes after_backslash (x ∷ xs) i h =
    let n : ℕ = suc (length xs) in
    let parts = and_parts (is_byte x) (are_bytes xs) h in
    either n (x == 117) (content after_u xs) _ (λ u. longer (length xs) n (content after_u xs) (omega arith) (content_bytes after_u xs tt parts.1))
    (λ u. then n (short_escape x) (λ c. prepend (c ∷ []) (content plain xs))
    (λ c e. prepended (length xs) n (c ∷ []) (content plain xs) (one c (escape_byte x c parts.0 e)) (omega arith) (content_bytes plain xs tt parts.1)))
content_bytes after_u [] i h = tt
content_bytes after_u (a ∷ []) i h = tt
content_bytes after_u (a ∷ b ∷ []) i h = tt
content_bytes after_u (a ∷ b ∷ c ∷ []) i h = tt
content_bytes after_u (a ∷ b ∷ c ∷ d ∷ xs) i h =
    let n : ℕ = suc (suc (suc (suc (length xs)))) in
    let rest = behind_four a b c d xs h in
    then n (code_unit a b c d) _
    (λ u e. either n (is_high_surrogate u) (content (after_high u) xs) _
    (λ s. longer (length xs) n (content (after_high u) xs) (omega arith) (content_bytes (after_high u) xs (high_low u s) rest))
    (λ s. either n (is_low_surrogate u) None (prepend (encode_utf8 u) (content plain xs)) (λ l. tt)
    (λ l. let low = unit_low a b c d u e in
    let four = four_bytes u in
    prepended (length xs) n (encode_utf8 u) (content plain xs) (encoded_bytes u (omega arith)) (omega arith) (content_bytes plain xs tt rest))))
  where
    behind_four : (a b c d : ℕ) (xs : List ℕ) → InBytes (a ∷ b ∷ c ∷ d ∷ xs) → InBytes xs
    behind_four a b c d xs h =
        let p = and_parts (is_byte a) (are_bytes (b ∷ c ∷ d ∷ xs)) h in
        let q = and_parts (is_byte b) (are_bytes (c ∷ d ∷ xs)) p.1 in
        let r = and_parts (is_byte c) (are_bytes (d ∷ xs)) q.1 in
        (and_parts (is_byte d) (are_bytes xs) r.1).1
content_bytes (after_high s) [] i h = tt
content_bytes (after_high s) (x ∷ []) i h = tt
content_bytes (after_high s) (x ∷ y ∷ []) i h = tt
content_bytes (after_high s) (x ∷ y ∷ a ∷ []) i h = tt
content_bytes (after_high s) (x ∷ y ∷ a ∷ b ∷ []) i h = tt
content_bytes (after_high s) (x ∷ y ∷ a ∷ b ∷ c ∷ []) i h = tt
content_bytes (after_high s) (x ∷ y ∷ a ∷ b ∷ c ∷ d ∷ xs) i h =
    let n : ℕ = suc (suc (suc (suc (suc (suc (length xs)))))) in
    let rest = behind_six x y a b c d xs h in
    either n ((x == 92) && (y == 117)) _ None
    (λ e. then n (code_unit a b c d) (λ l. cond (is_low_surrogate l) (prepend (encode_utf8 (surrogate_pair s l)) (content plain xs)) None)
    (λ l f. either n (is_low_surrogate l) (prepend (encode_utf8 (surrogate_pair s l)) (content plain xs)) None
    (λ g. let four = four_bytes (surrogate_pair s l) in
    prepended (length xs) n (encode_utf8 (surrogate_pair s l)) (content plain xs) (encoded_bytes (surrogate_pair s l) (pair_low s l i (low_low l g))) (omega arith) (content_bytes plain xs tt rest))
    (λ g. tt)))
    (λ e. tt)
  where
    behind_six : (x y a b c d : ℕ) (xs : List ℕ) → InBytes (x ∷ y ∷ a ∷ b ∷ c ∷ d ∷ xs) → InBytes xs
    behind_six x y a b c d xs h =
        let m = and_parts (is_byte x) (are_bytes (y ∷ a ∷ b ∷ c ∷ d ∷ xs)) h in
        let n = and_parts (is_byte y) (are_bytes (a ∷ b ∷ c ∷ d ∷ xs)) m.1 in
        let p = and_parts (is_byte a) (are_bytes (b ∷ c ∷ d ∷ xs)) n.1 in
        let q = and_parts (is_byte b) (are_bytes (c ∷ d ∷ xs)) p.1 in
        let r = and_parts (is_byte c) (are_bytes (d ∷ xs)) q.1 in
        (and_parts (is_byte d) (are_bytes xs) r.1).1

-- ---- tokens

abbrev pub TokenBytes : Token → Type 0
TokenBytes (json_token.key s) = IsShortText s
TokenBytes (json_token.string s) = IsShortText s
TokenBytes t = Unit {0}

abbrev LexemeBytes : Lexeme → Type 0
LexemeBytes (token t) = TokenBytes t
LexemeBytes l = Unit {0}

abbrev LexemesBytes : List Lexeme → Type 0
LexemesBytes [] = Unit {0}
LexemesBytes (l ∷ ls) = LexemeBytes l × LexemesBytes ls

abbrev pub TokensBytes : List Token → Type 0
TokensBytes [] = Unit {0}
TokensBytes (t ∷ ts) = TokenBytes t × TokensBytes ts

either_token : (b : Bool) (t u : Token) → TokenBytes t → TokenBytes u → TokenBytes (cond b t u)
either_token true t u h k = h
either_token false t u h k = k

either_lexeme : (b : Bool) (l m : Lexeme) → LexemeBytes l → LexemeBytes m → LexemeBytes (cond b l m)
either_lexeme true l m h k = h
either_lexeme false l m h k = k

number_bytes : (t : List ℕ) (o : Option (List ℕ)) → TokenBytes (number_before t o)
number_bytes t None = tt
number_bytes t (Some rest) = either_token (ends_word rest) (json_token.number _) json_token.bad tt tt

literal_bytes : (name t : List ℕ) (u : Token) → TokenBytes u → TokenBytes (literal name u t)
literal_bytes name t u h = either_token _ u json_token.bad h tt

word_bytes : (t : List ℕ) → TokenBytes (word t)
unfolding word
word_bytes t =
    let last : Token = number_before t (after_number t) in
    let third : Token = cond (head t == ascii.lower_n) (literal ascii.null_text json_token.null t) last in
    let second : Token = cond (head t == ascii.lower_f) (literal ascii.false_text (json_token.boolean false) t) third in
    either_token (head t == ascii.lower_t) (literal ascii.true_text (json_token.boolean true) t) second (literal_bytes ascii.true_text t (json_token.boolean true) tt)
    (either_token (head t == ascii.lower_f) (literal ascii.false_text (json_token.boolean false) t) third (literal_bytes ascii.false_text t (json_token.boolean false) tt)
    (either_token (head t == ascii.lower_n) (literal ascii.null_text json_token.null t) last (literal_bytes ascii.null_text t json_token.null tt) (number_bytes t (after_number t))))

operator_bytes : (x : ℕ) → LexemeBytes (operator_lexeme x)
operator_bytes x =
    either_lexeme (x == 123) _ _ tt
    (either_lexeme (x == 125) _ _ tt (either_lexeme (x == 91) _ _ tt (either_lexeme (x == 93) _ _ tt (either_lexeme (x == 44) comma colon tt tt))))

string_bytes : (n : ℕ) (o : Option (List ℕ)) → n ≤ longest_name → FoundBytes n o → TokenBytes (string_token o)
string_bytes n None l h = tt
string_bytes n (Some s) l h = let k = h.1 in record { bytes = h.0; short = omega arith }

byte_lexed : (m : Mode) (c : Class) (x : ℕ) (xs : List ℕ) (k : Mode → List Lexeme) → IsShortText xs → ((n : Mode) → LexemesBytes (k n)) → LexemesBytes (lex_byte m c x xs k)
byte_lexed between quote x xs k h f = (string_bytes (length xs) (content plain xs) h.short (content_bytes plain xs tt h.bytes), f in_string)
byte_lexed between backslash x xs k h f = (tt, f in_word)
byte_lexed between operator x xs k h f = (operator_bytes x, f between)
byte_lexed between space x xs k h f = f between
byte_lexed between other x xs k h f = (word_bytes (x ∷ xs), f in_word)
byte_lexed in_word quote x xs k h f = f in_word
byte_lexed in_word backslash x xs k h f = f in_word
byte_lexed in_word operator x xs k h f = (operator_bytes x, f between)
byte_lexed in_word space x xs k h f = f between
byte_lexed in_word other x xs k h f = f in_word
byte_lexed in_string quote x xs k h f = f between
byte_lexed in_string backslash x xs k h f = f in_escape
byte_lexed in_string operator x xs k h f = f in_string
byte_lexed in_string space x xs k h f = f in_string
byte_lexed in_string other x xs k h f = f in_string
byte_lexed in_escape c x xs k h f = f in_string

lexed : (m : Mode) (xs : List ℕ) → IsShortText xs → LexemesBytes (lex m xs)
unfolding lex
lexed m [] h = tt
lexed m (x ∷ xs) h =
    let later = later_text x xs h in
    byte_lexed m (class x) x xs (λ next. lex next xs) later (λ next. lexed next xs later)

-- ---- commas and colons

allowed : (b : Bool) (t : Token) (k : Place → List Token) (next : Place) → TokenBytes t → ((p : Place) → TokensBytes (k p)) → TokensBytes (if_allowed b t k next)
allowed true t k next h f = (h, f next)
allowed false t k next h f = (tt, tt)

placed : (p : Place) (t : Token) (b : Bool) (k : Place → List Token) → TokenBytes t → ((q : Place) → TokensBytes (k q)) → TokensBytes (place_token p t b k)
placed p json_token.begin_object b k h f = allowed (may_begin p) json_token.begin_object k fresh tt f
placed p json_token.end_object b k h f = allowed (may_close p) json_token.end_object k after_value tt f
placed p json_token.begin_array b k h f = allowed (may_begin p) json_token.begin_array k fresh tt f
placed p json_token.end_array b k h f = allowed (may_close p) json_token.end_array k after_value tt f
placed p (json_token.key s) b k h f = (tt, tt)
placed p (json_token.string s) true k h f = allowed (may_begin p) (json_token.key s) k after_key h f
placed p (json_token.string s) false k h f = allowed (may_begin p) (json_token.string s) k after_value h f
placed p (json_token.number s) b k h f = allowed (may_begin p) (json_token.number s) k after_value tt f
placed p (json_token.boolean c) b k h f = allowed (may_begin p) (json_token.boolean c) k after_value tt f
placed p json_token.null b k h f = allowed (may_begin p) json_token.null k after_value tt f
placed p json_token.bad b k h f = (tt, tt)

punctuated : (p : Place) (ls : List Lexeme) → LexemesBytes ls → TokensBytes (punctuate p ls)
unfolding punctuate
punctuated fresh [] h = tt
punctuated after_value [] h = tt
punctuated after_comma [] h = (tt, tt)
punctuated after_key [] h = (tt, tt)
punctuated fresh (token t ∷ ls) h = placed fresh t (begins_colon ls) (λ next. punctuate next ls) h.0 (λ next. punctuated next ls h.1)
punctuated after_value (token t ∷ ls) h = placed after_value t (begins_colon ls) (λ next. punctuate next ls) h.0 (λ next. punctuated next ls h.1)
punctuated after_comma (token t ∷ ls) h = placed after_comma t (begins_colon ls) (λ next. punctuate next ls) h.0 (λ next. punctuated next ls h.1)
punctuated after_key (token t ∷ ls) h = placed after_key t (begins_colon ls) (λ next. punctuate next ls) h.0 (λ next. punctuated next ls h.1)
punctuated fresh (comma ∷ ls) h = (tt, tt)
punctuated after_value (comma ∷ ls) h = punctuated after_comma ls h.1
punctuated after_comma (comma ∷ ls) h = (tt, tt)
punctuated after_key (comma ∷ ls) h = (tt, tt)
punctuated fresh (colon ∷ ls) h = (tt, tt)
punctuated after_value (colon ∷ ls) h = (tt, tt)
punctuated after_comma (colon ∷ ls) h = (tt, tt)
punctuated after_key (colon ∷ ls) h = punctuated fresh ls h.1

pub tokens_bytes : (text : List ℕ) → IsShortText text → TokensBytes (tokens text)
tokens_bytes text h = punctuated fresh (lex between text) (lexed between text h)
