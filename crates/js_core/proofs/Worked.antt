-- The worked examples have the values that they say, each by computing.
use Rattle.std.proofs.Common.{◌≡◌, ◌∙◌, ℕ, true, false, List, [], ◌∷◌, refl, ap}
use Rattle.std.proofs.Math.Utf8.{encode, encodes, scalars}
use Rattle.std.proofs.lemmas.Bool.{and_parts}
use Rattle.std.proofs.lemmas.Str.{chars-encodes}
use Rattle.std.specs.Char.Escape.{encode_utf16}
use Rattle.std.specs.List.{flat_map, list_all, list_any}
use Rattle.js_core.specs.Height.{stmts_height}
use Rattle.js_core.specs.LineText.{line_text}
use Rattle.js_core.specs.Spelling.{is_reserved_word}
use Rattle.js_core.specs.Text.{utf16_of}
use Rattle.js_core.specs.Whole.{whole_of}
use Rattle.js_core.specs.Worked.{Values, controls, surrogates, units, reserved_words, other_words, numbers, heights}

pub controls_are_escaped : Values line_text controls
unfolding encode
controls_are_escaped = (refl, (refl, (refl, (refl, (refl, (refl, tt))))))

pub surrogates_are_joined : Values line_text surrogates
unfolding encode
surrogates_are_joined = (refl, (refl, (refl, (refl, (refl, (refl, (refl, (refl, (refl, tt)))))))))

of_characters : (xs : List (List ℕ × List ℕ)) → list_all (λ x. scalars x.0) xs ≡ true → Values (flat_map encode_utf16) xs
    → Values (λ cs. utf16_of (encodes cs)) xs
of_characters [] are given = tt
of_characters (x ∷ xs) are given =
    let both = and_parts (scalars x.0) _ are in
    (ap (flat_map encode_utf16) (chars-encodes x.0 both.0) ∙ given.0, of_characters xs both.1 given.1)

pub units_are_taken : Values (λ cs. utf16_of (encodes cs)) units
units_are_taken = of_characters units refl (refl, (refl, (refl, (refl, (refl, (refl, tt))))))

pub words_are_reserved : (list_all is_reserved_word reserved_words ≡ true) × (list_any is_reserved_word other_words ≡ false)
words_are_reserved = (refl, refl)

pub numbers_are_in_range : Values whole_of numbers
numbers_are_in_range = (refl, (refl, (refl, (refl, (refl, (refl, (refl, (refl, (refl, tt)))))))))

pub heights_are_counted : Values stmts_height heights
heights_are_counted = (refl, (refl, (refl, (refl, (refl, (refl, tt))))))
