-- The lines of what was not caught.
use Rattle.page_meaning.specs.Lines.{put_uncaught, uncaught_text}
use Rattle.page_meaning.specs.declared.signal.Signal.{Signal}
use Rattle.page_meaning.specs.declared.signal.Signal.TheVariants as signal
use Rattle.js_values.specs.declared.line.LineKind.TheVariants.{Uncaught}
use Rattle.written_pages.proofs.Acts.{ret_is}
use Rattle.written_pages.proofs.Primitives.{put_line_is}
use Rattle.written_pages.specs.Acts.{ActIs, Any}

pub put_uncaught_is : (a : Signal) → ActIs Any (put_uncaught a)
put_uncaught_is (signal.Thrown v) = put_line_is Uncaught (λ s. uncaught_text s v)
put_uncaught_is (signal.Value v) = ret_is tt tt
put_uncaught_is (signal.Return v) = ret_is tt tt
put_uncaught_is signal.Break = ret_is tt tt
put_uncaught_is signal.Continue = ret_is tt tt
