-- Which of two numbers is picked.
use Rattle.std.specs.Prelude.{ℤ, Option}
use Rattle.page_meaning.specs.MathRows.{larger, smaller}
use Rattle.builtin_text.specs.declared.math.Pick.{Pick}
use Rattle.builtin_text.specs.declared.math.Pick.TheVariants.{Larger, Smaller}

abbrev pub pick_of : Pick → Option ℤ → Option ℤ → Option ℤ
pick_of Larger = larger
pick_of Smaller = smaller
