-- What lists of phrases take.
use Rattle.std.proofs.Common.{ℕ, ◌<◌, ◌≤◌, List, length, arith}
use Rattle.js_core.specs.declared.token.Punct.{Punct}
use Rattle.js_grammar.specs.Symbols.{Lexeme}
use Rattle.js_grammar.specs.Phrases.{Phrase, Name, name, Separated, only, further, Listed, nothing, something, Many, none, more, Divided, by_comma, by_close}

pub name_shorter : (x z : List Lexeme) (w : List ℕ) → Name x z w → length z < length x
name_shorter x z w name = omega arith

pub separated_shorter : {A I : Type 0} (Item : I → Phrase A) (shorter : (i : I) (x z : List Lexeme) (a : A) → Item i x z a → length z < length x) {i : I} {x z : List Lexeme} {found : List A} → Separated Item i x z found → length z < length x
separated_shorter Item shorter (only {i = i} {x = x} {z = z} {a = a} h) = shorter i x z a h
separated_shorter Item shorter (further {j = j} {y = y} {z = z} {a = a} h k) = let a1 = separated_shorter Item shorter h in let a2 = shorter j y z a k in omega arith

pub listed_shorter : {A I : Type 0} (Item : I → Phrase A) (shorter : (i : I) (x z : List Lexeme) (a : A) → Item i x z a → length z < length x) {x z : List Lexeme} {found : List A} → Listed Item x z found → length z < length x
listed_shorter Item shorter nothing = omega arith
listed_shorter Item shorter (something h) = let a1 = separated_shorter Item shorter h in omega arith

pub many_shorter : {A : Type 0} (Item : Phrase A) (shorter : (x z : List Lexeme) (a : A) → Item x z a → length z < length x) {x z : List Lexeme} {found : List A} → Many Item x z found → length z ≤ length x
many_shorter Item shorter none = omega arith
many_shorter Item shorter (more {y = y} {z = z} {a = a} h k) = let a1 = many_shorter Item shorter h in let a2 = shorter y z a k in omega arith

pub divided_shorter : {close : Punct} {x z : List Lexeme} → Divided close x z → length z ≤ length x
divided_shorter by_comma = omega arith
divided_shorter by_close = omega arith
