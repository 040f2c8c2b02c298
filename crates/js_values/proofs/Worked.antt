-- The worked examples have the values that they say, each by computing.
use Rattle.std.proofs.Common.{refl}
use Rattle.std.proofs.Math.Utf8.{encode}
use Rattle.js_core.specs.Worked.{Values}
use Rattle.js_values.specs.Line.{line_of}
use Rattle.js_values.specs.Throw.{thrown_text}
use Rattle.js_values.specs.Worked.{lines, thrown}

pub lines_are_written : Values line_of lines
unfolding encode
lines_are_written = (refl, (refl, (refl, (refl, (refl, (refl, (refl, tt)))))))

pub errors_are_told : Values thrown_text thrown
errors_are_told = (refl, (refl, (refl, (refl, (refl, (refl, (refl, (refl, (refl, (refl, (refl, (refl, (refl, (refl, (refl, (refl, (refl, (refl, tt))))))))))))))))))
