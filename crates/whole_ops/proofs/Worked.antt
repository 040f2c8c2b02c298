-- The worked examples have the values that they say, each by computing.
use Rattle.std.proofs.Common.{refl}
use Rattle.std.specs.Fmt.{digits}
use Rattle.js_core.specs.Characters.{is_line_end, is_white_space}
use Rattle.js_core.specs.Worked.{Values}
use Rattle.whole_ops.specs.Conversions.{is_true, number_of, text_of_value}
use Rattle.whole_ops.specs.Equality.{loose_of, same_of}
use Rattle.whole_ops.specs.Numeral.{decimal_of, goes_on_as_decimal, hexadecimal_of, is_decimal, is_exponent, literal_of, text_of_whole, to_whole}
use Rattle.whole_ops.specs.Order.{text_less}
use Rattle.whole_ops.specs.WhiteSpace.{trimmed}
use Rattle.whole_ops.specs.Worked.{numerals, texts, same, equal, numbers, truths, words, orders}

pub numerals_are_read : Values to_whole numerals
unfolding to_whole literal_of decimal_of hexadecimal_of is_decimal goes_on_as_decimal is_exponent trimmed is_white_space is_line_end
numerals_are_read = (refl, (refl, (refl, (refl, tt))))

pub numbers_are_written : Values text_of_whole texts
unfolding digits
numbers_are_written = (refl, (refl, (refl, (refl, (refl, (refl, tt))))))

pub objects_are_the_same : Values (λ p. same_of p.0 p.1) same
objects_are_the_same = (refl, (refl, (refl, (refl, (refl, (refl, tt))))))

pub objects_are_equal : Values (λ p. loose_of p.0 p.1) equal
objects_are_equal = (refl, (refl, (refl, (refl, (refl, (refl, tt))))))

pub values_are_numbers : Values number_of numbers
unfolding to_whole literal_of decimal_of hexadecimal_of is_decimal goes_on_as_decimal is_exponent trimmed is_white_space is_line_end
values_are_numbers = (refl, (refl, (refl, (refl, (refl, (refl, (refl, (refl, (refl, (refl, tt))))))))))

pub values_are_truths : Values is_true truths
values_are_truths = (refl, (refl, (refl, (refl, (refl, (refl, (refl, (refl, (refl, (refl, tt))))))))))

pub values_are_texts : Values text_of_value words
unfolding digits
values_are_texts = (refl, (refl, (refl, (refl, (refl, (refl, (refl, (refl, tt))))))))

pub texts_are_ordered : Values (λ p. text_less p.0 p.1) orders
texts_are_ordered = (refl, (refl, (refl, (refl, (refl, (refl, (refl, tt)))))))
