-- That a command answers as its text and what became of it say.
use Rattle.std.proofs.Common.{◌≡◌, ℕ, ◌≤◌, List, [], ◌∷◌, ◌++◌, Result, Ok as Good, Err, Vec, Global, ap, inl, inr, arith}
use Rattle.page_io.specs.Faults.{Rose}
use Rattle.page_io.specs.Seen.{SinkSeen}
use Rattle.outcomes.specs.declared.status.Status.{Status}
use Rattle.outcomes.specs.declared.status.Status.TheVariants.{Ok, Usage, WriteFault, OutOfMemory}
use Rattle.outcomes.specs.Seen.{Seen, Lasts}
use Rattle.outcomes.specs.Stages.{Stage, EndsAt, EndsBy, PassesAll}
use Rattle.outcomes.specs.Work.{Work, Answers, Gives, IsPut}

-- ---- lists of stages

pub ends_within : (gs hs : List Stage) (status : Status) (seen : Seen) → EndsAt gs status seen → EndsAt (gs ++ hs) status seen
ends_within [] hs status seen h = absurd h
ends_within (g ∷ gs) hs status seen (inl h) = inl h
ends_within (g ∷ gs) hs status seen (inr h) = inr (h.0, ends_within gs hs status seen h.1)

pub ends_behind : (gs hs : List Stage) (status : Status) (seen : Seen) → PassesAll gs seen → EndsAt hs status seen → EndsAt (gs ++ hs) status seen
ends_behind [] hs status seen p h = h
ends_behind (g ∷ gs) hs status seen p h = inr (p.0, ends_behind gs hs status seen p.1 h)

pub passes_both : (gs hs : List Stage) (seen : Seen) → PassesAll gs seen → PassesAll hs seen → PassesAll (gs ++ hs) seen
passes_both [] hs seen p q = q
passes_both (g ∷ gs) hs seen p q = (p.0, passes_both gs hs seen p.1 q)

-- ---- no stage writes, or asks for the words

no_ok : (gs : List Stage) (seen : Seen) → ¬ EndsAt gs Ok seen
no_ok [] seen h = h
no_ok (g ∷ gs) seen (inl h) = h
no_ok (g ∷ gs) seen (inr h) = no_ok gs seen h.1

no_fault : (gs : List Stage) (seen : Seen) → ¬ EndsAt gs WriteFault seen
no_fault [] seen h = h
no_fault (g ∷ gs) seen (inl h) = h
no_fault (g ∷ gs) seen (inr h) = no_fault gs seen h.1

no_usage : (gs : List Stage) (seen : Seen) → ¬ EndsAt gs Usage seen
no_usage [] seen h = h
no_usage (g ∷ gs) seen (inl h) = h
no_usage (g ∷ gs) seen (inr h) = no_usage gs seen h.1

pub not_usage : (gs : List Stage) (seen : Seen) (out out_now : SinkSeen) → ¬ EndsBy gs Usage seen out out_now
not_usage gs seen out out_now (inl h) = no_usage gs seen h
not_usage gs seen out out_now (inr h) = h.1

-- ---- answers

-- what ends a command at a stage puts nothing
pub refused : (work : Work) (status : Status) (seen : Seen) (out out_now : SinkSeen) → EndsAt work.stages status seen → work.stopped seen
    → out_now.taken ≡ out.taken → Lasts seen out out_now → Answers work status seen out out_now
refused work Ok seen out out_now e s same lasts = absurd (no_ok work.stages seen e)
refused work WriteFault seen out out_now e s same lasts = absurd (no_fault work.stages seen e)
refused work OutOfMemory seen out out_now e s same lasts = record { ends = inl e; puts = inl same; rows = s; lasts = lasts }
refused work status seen out out_now e s same lasts = record { ends = inl e; puts = same; rows = s; lasts = lasts }

-- a text that is put, or what came in its place
pub answered : (work : Work) (r : Result (Vec ℕ Global) Status) (status : Status) (seen : Seen) (out out_now : SinkSeen) → Gives work r seen
    → Lasts seen out out_now → IsPut r status out out_now → Answers work status seen out out_now
answered work (Good text) Ok seen out out_now g lasts put = record { ends = inr (g.0, tt); puts = (text.items, g.1, put); rows = g.2; lasts = lasts }
answered work (Good text) WriteFault seen out out_now g lasts put = record { ends = inr (g.0, put.1); puts = (text.items, g.1, put.0); rows = g.2; lasts = lasts }
answered work (Good text) status seen out out_now g lasts put = absurd put
answered work (Err cause) status seen out out_now g lasts put =
    let ends : EndsAt work.stages status seen = rw put.0 g.0 in
    refused work status seen out out_now ends g.1 (ap (λ (s : SinkSeen). s.taken) put.1) lasts

-- ---- counts

-- a count that rose in the second of two calls rose in both
pub rose_later : (a b c : ℕ) → a ≤ b → Rose b c → Rose a c
rose_later a b c h (inl r) = inl (omega (arith, h, r))
rose_later a b c h (inr r) = inr r
