-- Lists of phrases as lists of other phrases, where each item is one.
use Rattle.std.proofs.Common.{List}
use Rattle.js_grammar.specs.Symbols.{Lexeme}
use Rattle.js_grammar.specs.Phrases.{Phrase, Separated, only, further, Listed, nothing, something, Many, none, more}
use Rattle.js_grammar.proofs.Heights.{Each, each_but_last}

pub many_kept : {A : Type 0} (Item Other : Phrase A) (Fit : A → Type 0) → ((x z : List Lexeme) (a : A) → Item x z a → Fit a → Other x z a) → {x z : List Lexeme} {found : List A} → Many Item x z found → Each Fit found → Many Other x z found
many_kept Item Other Fit keep none f = none
many_kept Item Other Fit keep (more {y = y} {z = z} {found = found} {a = a} h e) f =
    let fits = each_but_last Fit found a f in
    more (many_kept Item Other Fit keep h fits.0) (keep y z a e fits.1)

pub separated_kept : {A I : Type 0} (Item Other : I → Phrase A) (Fit : A → Type 0) → ((i : I) (x z : List Lexeme) (a : A) → Item i x z a → Fit a → Other i x z a) → {i : I} {x z : List Lexeme} {found : List A} → Separated Item i x z found → Each Fit found → Separated Other i x z found
separated_kept Item Other Fit keep (only {i = i} {x = x} {z = z} {a = a} h) f = only (keep i x z a h f.0)
separated_kept Item Other Fit keep (further {j = j} {y = y} {z = z} {found = found} {a = a} h e) f =
    let fits = each_but_last Fit found a f in
    further (separated_kept Item Other Fit keep h fits.0) (keep j y z a e fits.1)

pub listed_kept : {A I : Type 0} (Item Other : I → Phrase A) (Fit : A → Type 0) → ((i : I) (x z : List Lexeme) (a : A) → Item i x z a → Fit a → Other i x z a) → {x z : List Lexeme} {found : List A} → Listed Item x z found → Each Fit found → Listed Other x z found
listed_kept Item Other Fit keep nothing f = nothing
listed_kept Item Other Fit keep (something h) f = something (separated_kept Item Other Fit keep h f)
