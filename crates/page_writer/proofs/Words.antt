-- The words of saved pages can be written: they are ASCII letters and `$`.
use Rattle.std.proofs.Common.{◌≡◌, refl, subst, ℕ, ◌<◌, Bool, true, false, not, ◌&&◌, ◌||◌, ◌==◌, List, [], ◌∷◌, Some, length, codes, arith}
use Rattle.std.specs.Prelude.{nat_le, slice_index_or}
use Rattle.std.specs.Char.{is_ascii_alphabetic}
use Rattle.std.specs.List.{list_all}
use Rattle.std.proofs.lemmas.Bool.{and_from, and_parts}
use Rattle.std.proofs.lemmas.Bool.Decides.{nat_tests}
use Rattle.std.proofs.lemmas.List.Sums.{AllPass-from_list_all}
use Rattle.std.proofs.lemmas.Option.{get_or_from_slice_get, slice_get_within}
use Rattle.unicode_ident.proofs.IdentLemmas.{is_xid_start-ascii, is_xid_continue-ascii}
use Rattle.built_in_paths.specs.Paths.{names_of, path_of, paths}
use Rattle.js_core.specs.Spelling.{is_reserved_word}
use Rattle.js_core.specs.declared.token.TokenKind.TheVariants as kind
use Rattle.js_grammar.specs.Syntax.{is_identifier}
use Rattle.js_lexer.specs.Characters.{begins_with, is_identifier_part, is_identifier_start, is_surrogate}
use Rattle.js_lexer.specs.Written.{can_be_written, is_unit}
use Rattle.js_values.specs.Throw.{kind_name}
use Rattle.js_values.specs.declared.throw.ErrorKind.{ErrorKind}
use Rattle.js_values.specs.declared.throw.ErrorKind.TheVariants as fault

-- ---- letters

-- an ASCII letter or `$`
abbrev is_letter : ℕ → Bool
is_letter u = (u == 36) || is_ascii_alphabetic u

letter_is_low : (u : ℕ) → is_letter u ≡ true → u < 128
letter_is_low u e = grind (arith, nat_tests)

letter_is_start : (u : ℕ) → is_letter u ≡ true → is_identifier_start u ≡ true
unfolding is_identifier_start
letter_is_start u e =
    let near : is_surrogate u ≡ false = grind (arith, nat_tests) in
    rw (near, is_xid_start-ascii u (letter_is_low u e)) (grind (arith, nat_tests))

letter_is_part : (u : ℕ) → is_letter u ≡ true → is_identifier_part u ≡ true
unfolding is_identifier_part
letter_is_part u e =
    let near : is_surrogate u ≡ false = grind (arith, nat_tests) in
    rw (near, is_xid_continue-ascii u (letter_is_low u e)) (grind (arith, nat_tests))

letter_is_unit : (u : ℕ) → is_letter u ≡ true → is_unit u ≡ true
letter_is_unit u e = grind (arith, nat_tests)

-- ---- words of letters

begin : (w : List ℕ) → begins_with is_letter w ≡ true → begins_with is_identifier_start w ≡ true
begin [] e = cc e
begin (u ∷ us) e = letter_is_start u e

all_are : (p q : ℕ → Bool) → ((u : ℕ) → p u ≡ true → q u ≡ true) → (us : List ℕ) → list_all p us ≡ true → list_all q us ≡ true
all_are p q so [] e = refl
all_are p q so (u ∷ us) e = let parts = and_parts (p u) _ e in and_from _ _ (so u parts.0) (all_are p q so us parts.1)

pub is_word : List ℕ → Bool
is_word w = begins_with is_letter w && list_all is_letter w

-- such a word that is not reserved
pub is_free_word : List ℕ → Bool
is_free_word w = is_word w && not (is_reserved_word w)

pub word_is_written : (w : List ℕ) → is_word w ≡ true → can_be_written (kind.Word w) ≡ true
unfolding is_word
word_is_written w e =
    let parts = and_parts (begins_with is_letter w) (list_all is_letter w) e in
    and_from _ _ (and_from _ _ (begin w parts.0) (all_are is_letter is_identifier_part letter_is_part w parts.1))
    (all_are is_letter is_unit letter_is_unit w parts.1)

pub word_is_identifier : (w : List ℕ) → is_free_word w ≡ true → is_identifier w ≡ true
unfolding is_free_word
word_is_identifier w e =
    let parts = and_parts (is_word w) (not (is_reserved_word w)) e in
    and_from _ _ (word_is_written w parts.0) parts.1

-- ---- the words of statements

pub list_is_identifier : is_identifier (codes "$$") ≡ true
unfolding is_word is_free_word
list_is_identifier = word_is_identifier (codes "$$") refl

pub nan_is_identifier : is_identifier (codes "NaN") ≡ true
unfolding is_word is_free_word
nan_is_identifier = word_is_identifier (codes "NaN") refl

pub object_is_identifier : is_identifier (codes "Object") ≡ true
unfolding is_word is_free_word
object_is_identifier = word_is_identifier (codes "Object") refl

pub create_is_written : can_be_written (kind.Word (codes "create")) ≡ true
unfolding is_word
create_is_written = word_is_written (codes "create") refl

pub define_is_written : can_be_written (kind.Word (codes "defineProperty")) ≡ true
unfolding is_word
define_is_written = word_is_written (codes "defineProperty") refl

pub prevent_is_written : can_be_written (kind.Word (codes "preventExtensions")) ≡ true
unfolding is_word
prevent_is_written = word_is_written (codes "preventExtensions") refl

pub bind_is_written : can_be_written (kind.Word (codes "bind")) ≡ true
unfolding is_word
bind_is_written = word_is_written (codes "bind") refl

pub document_is_identifier : is_identifier (codes "document") ≡ true
unfolding is_word is_free_word
document_is_identifier = word_is_identifier (codes "document") refl

pub set_timeout_is_identifier : is_identifier (codes "setTimeout") ≡ true
unfolding is_word is_free_word
set_timeout_is_identifier = word_is_identifier (codes "setTimeout") refl

pub clear_timeout_is_identifier : is_identifier (codes "clearTimeout") ≡ true
unfolding is_word is_free_word
clear_timeout_is_identifier = word_is_identifier (codes "clearTimeout") refl

pub set_interval_is_identifier : is_identifier (codes "setIntervalFrom") ≡ true
unfolding is_word is_free_word
set_interval_is_identifier = word_is_identifier (codes "setIntervalFrom") refl

-- ---- the words of methods

pub create_element_is_word : is_word (codes "createElement") ≡ true
unfolding is_word
create_element_is_word = refl

pub create_text_is_word : is_word (codes "createTextNode") ≡ true
unfolding is_word
create_text_is_word = refl

pub create_comment_is_word : is_word (codes "createComment") ≡ true
unfolding is_word
create_comment_is_word = refl

pub create_event_is_word : is_word (codes "createEvent") ≡ true
unfolding is_word
create_event_is_word = refl

pub append_is_word : is_word (codes "appendChild") ≡ true
unfolding is_word
append_is_word = refl

pub set_attribute_is_word : is_word (codes "setAttribute") ≡ true
unfolding is_word
set_attribute_is_word = refl

pub value_is_word : is_word (codes "value") ≡ true
unfolding is_word
value_is_word = refl

pub listen_is_word : is_word (codes "addEventListener") ≡ true
unfolding is_word
listen_is_word = refl

pub init_is_word : is_word (codes "initEvent") ≡ true
unfolding is_word
init_is_word = refl

pub dispatch_is_word : is_word (codes "dispatchEvent") ≡ true
unfolding is_word
dispatch_is_word = refl

pub remove_is_word : is_word (codes "removeChild") ≡ true
unfolding is_word
remove_is_word = refl

pub document_element_is_word : is_word (codes "documentElement") ≡ true
unfolding is_word
document_element_is_word = refl

-- ---- the kinds of errors

kind_is_free : (k : ErrorKind) → is_free_word (kind_name k) ≡ true
unfolding is_word is_free_word
kind_is_free fault.Plain = refl
kind_is_free fault.Type = refl
kind_is_free fault.Range = refl
kind_is_free fault.Reference = refl

pub kind_is_identifier : (k : ErrorKind) → is_identifier (kind_name k) ≡ true
kind_is_identifier k = word_is_identifier (kind_name k) (kind_is_free k)

-- ---- the names of paths

-- a free word, and at most two words after it
unfoldable pub are_path_names : List (List ℕ) → Bool
are_path_names [] = false
are_path_names (x ∷ xs) = (is_free_word x && list_all is_word xs) && nat_le (length xs) 2

all_are_named : list_all (λ path. are_path_names (names_of path)) paths ≡ true
unfolding paths is_word is_free_word are_path_names
all_are_named = refl

pub path_is_named : (k : ℕ) (path : List ℕ) → path_of k ≡ Some path → are_path_names (names_of path) ≡ true
path_is_named k path there =
    let item : slice_index_or paths k path ≡ path = get_or_from_slice_get paths k path path there in
    subst (λ p. are_path_names (names_of p) ≡ true) item
    (AllPass-from_list_all (λ p. are_path_names (names_of p)) paths all_are_named k path (slice_get_within paths k path there))
