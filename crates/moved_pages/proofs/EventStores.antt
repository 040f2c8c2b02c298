-- What events add, over any store to which each event appends lines.
use Rattle.std.proofs.Common.{◌≡◌, sym, ap, ◌∙◌, List, [], ◌∷◌, ◌++◌, drop, length, append_assoc}
use Rattle.std.proofs.lemmas.List.{append-nil}
use Rattle.std.proofs.Math.Seq.{drop-append_seam}
use Rattle.js_values.specs.declared.event.Event.{Event}
use Rattle.js_values.specs.declared.line.Line.{Line}

-- a store with its lines, what one event makes of it, and what a list of them does
pub record Events (S : Type 0) : Type 0 where
  pub lines : S → List Line
  pub step : Event → S → S
  pub run : S → List Event → S
  pub ends : (s : S) → run s [] ≡ s
  pub goes_on : (s : S) (e : Event) (es : List Event) → run s (e ∷ es) ≡ run (step e s) es
  pub grows : (s : S) (e : Event) → (more : List Line) × (lines (step e s) ≡ lines s ++ more)

module _ {S : Type 0} (m : Events S) where
  -- what later events add to the lines
  abbrev pub added : S → List Event → List Line
  added s later = drop (length (m.lines s)) (m.lines (m.run s later))

  -- the second is without lines, and later events add to it what they add to the first
  pub record Follows (s t : S) : Type 0 where
    pub silent : m.lines t ≡ []
    pub same : (later : List Event) → added t later ≡ added s later

  pub run_append : (s : S) (es fs : List Event) → m.run s (es ++ fs) ≡ m.run (m.run s es) fs
  run_append s [] fs = ap (λ t. m.run t fs) (sym (m.ends s))
  run_append s (e ∷ es) fs = m.goes_on s e (es ++ fs) ∙ run_append (m.step e s) es fs ∙ ap (λ t. m.run t fs) (sym (m.goes_on s e es))

  adds : (s : S) (es : List Event) → (more : List Line) × (m.lines (m.run s es) ≡ m.lines s ++ more)
  adds s [] = ([], ap m.lines (m.ends s) ∙ sym (append-nil (m.lines s)))
  adds s (e ∷ es) =
      let one = m.grows s e in
      let rest = adds (m.step e s) es in
      (one.0 ++ rest.0, ap m.lines (m.goes_on s e es) ∙ rest.1 ∙ ap (λ ls. ls ++ rest.0) one.1 ∙ append_assoc (m.lines s) one.0 rest.0)

  all_lines : (s : S) (es : List Event) → m.lines (m.run s es) ≡ m.lines s ++ added s es
  all_lines s es =
      let a = adds s es in
      a.1 ∙ ap (λ ls. m.lines s ++ ls) (sym (ap (λ ls. drop (length (m.lines s)) ls) a.1 ∙ drop-append_seam (m.lines s) a.0))

  -- events after others add after what those add
  added_append : (s : S) (es fs : List Event) → added s (es ++ fs) ≡ added s es ++ added (m.run s es) fs
  added_append s es fs =
      ap (λ t. drop (length (m.lines s)) (m.lines t)) (run_append s es fs)
      ∙ ap (λ ls. drop (length (m.lines s)) ls) (all_lines (m.run s es) fs ∙ ap (λ ls. ls ++ added (m.run s es) fs) (all_lines s es) ∙ append_assoc (m.lines s) (added s es) (added (m.run s es) fs))
      ∙ drop-append_seam (m.lines s) (added s es ++ added (m.run s es) fs)

  -- without lines before, what is added is all
  put_out : (s t : S) → Follows s t → (es : List Event) → m.lines (m.run t es) ≡ added s es
  put_out s t f es = sym (ap (λ (ls : List Line). drop (length ls) (m.lines (m.run t es))) f.silent) ∙ f.same es

  -- what goes on as the second does after events goes on as the first does after them
  pub joined : (s t u : S) (between : List Event) → Follows s t → Follows (m.run t between) u → Follows (m.run s between) u
  joined s t u between f g = record {
    silent = g.silent;
    same = λ later.
        g.same later
        ∙ ap (λ ls. drop (length ls) (m.lines (m.run (m.run t between) later))) (put_out s t f between)
        ∙ ap (λ ls. drop (length (added s between)) ls) (ap m.lines (sym (run_append t between later)) ∙ put_out s t f (between ++ later) ∙ added_append s between later)
        ∙ drop-append_seam (added s between) (added (m.run s between) later);
  }
