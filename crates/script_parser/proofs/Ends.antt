-- Tests on the next lexeme, from its sign and its line mark.
use Rattle.std.proofs.Common.{◌≡◌, Bool, true, false, List, [], ◌∷◌, ◌++◌, Option, Some, None, refl}
use Rattle.std.specs.Prelude.{not}
use Rattle.js_grammar.specs.declared.ending.Ending.{Ending}
use Rattle.js_grammar.specs.Endings.{may_end, ends_before, is_right_brace}
use Rattle.js_core.specs.declared.syntax.Declarator.{Declarator}
use Rattle.js_grammar.specs.StatementReader.{has_more, ending_by, ending_of}
use Rattle.js_grammar.specs.Symbols.{Lexeme, sign_at}
use Rattle.expression_parser.specs.Reads.{after_line}

same_some : {A : Type 0} (a b : A) → ◌≡◌ {A = Option A} (Some a) (Some b) → a ≡ b
same_some a b e = cc

pub may_end_at_end : (e : Ending) (i : List Lexeme) → None ≡ after_line i → true ≡ may_end e i
may_end_at_end e [] h = refl
may_end_at_end e (t ∷ ts) h = absurd (cc)

pub may_end_before : (e : Ending) (i : List Lexeme) (line : Bool) → Some line ≡ after_line i → ends_before e (sign_at i) line ≡ may_end e i
may_end_before e [] line h = absurd (cc)
may_end_before e (t ∷ ts) line h = let same = same_some line t.1 h in rw same

pub has_more_at_end : (i : List Lexeme) → None ≡ after_line i → false ≡ has_more i
has_more_at_end [] h = refl
has_more_at_end (t ∷ ts) h = absurd (cc)

pub has_more_before : (i : List Lexeme) (line : Bool) → Some line ≡ after_line i → not (is_right_brace (sign_at i)) ≡ has_more i
has_more_before [] line h = absurd (cc)
has_more_before (t ∷ ts) line h = refl

-- ---- the last of a list of declarators

ends_as_last : (rest : List Declarator) (d : Declarator) → ending_of (rest ++ d ∷ []) ≡ ending_by d.value
ends_as_last [] d = refl
ends_as_last (e ∷ []) d = refl
ends_as_last (e ∷ f ∷ rest) d = ends_as_last (f ∷ rest) d

pub ending_of_last : (found rest : List Declarator) (d : Declarator) (e : Ending) → found ≡ rest ++ d ∷ [] → e ≡ ending_by d.value → e ≡ ending_of found
ending_of_last found rest d e split by = let same = ends_as_last rest d in cc
