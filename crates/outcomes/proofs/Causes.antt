-- The causes of a command's end exclude each other, and there is always one, where its stages are as they are asked to be.
use Rattle.std.proofs.Common.{◌≡◌, List, [], ◌∷◌, ℕ, Option, Some, None, IfSome, refl, sym, ◌∙◌, subst, inl, inr}
use Rattle.page_io.specs.Content.{Told}
use Rattle.page_io.specs.Faults.{Rose}
use Rattle.page_io.specs.Seen.{SinkSeen}
use Rattle.page_io.specs.Table.{Table}
use Rattle.outcomes.specs.declared.status.Status.{Status}
use Rattle.outcomes.specs.declared.status.Status.TheVariants as status
use Rattle.outcomes.specs.Lawful.{AreAsked, AreDecided, AreExclusive, AreQuiet, IsBehind}
use Rattle.outcomes.specs.Seen.{Seen, Of}
use Rattle.outcomes.specs.Stages.{Stage, EndsAt, EndsBy, PassesAll, StopsWriting}

-- ---- of told bytes and rows

pub of_both : (told : Told) (P Q : List ℕ → Type 0) (R : Type 0) → ¬ (told ≡ None)
    → Of told P → Of told Q → ((bytes : List ℕ) → P bytes → Q bytes → R) → R
of_both None P Q R t p q f = absurd (t refl)
of_both (Some None) P Q R t p q f = absurd p
of_both (Some (Some bytes)) P Q R t p q f = f bytes p q

pub of_held : (told : Told) (bytes : List ℕ) (P : List ℕ → Type 0) → told ≡ Some (Some bytes) → P bytes → Of told P
of_held told bytes P e h = let Q : Told → Type 0 = λ (t : Told). Of t P in subst Q (sym e) h

pub of_rows : (rows : Option Table) (P Q : Table → Type 0) → ¬ (rows ≡ None) → IfSome rows P → IfSome rows Q → ((t : Table) → P t → Q t → ⊥) → ⊥
of_rows None P Q t p q f = t refl
of_rows (Some rows) P Q t p q f = f rows p q

pub of_table : (rows : Option Table) (t : Table) (P : Table → Type 0) → rows ≡ Some t → P t → IfSome rows P
of_table rows t P e h = subst (λ (o : Option Table). IfSome o P) (sym e) h

-- ---- one status at most

-- a quiet command that writes its text ends well
writes_well : (s : Status) (out out_now : SinkSeen) → ¬ Rose out.faults out_now.faults → ¬ (s ≡ status.OutOfMemory) → StopsWriting s out out_now → s ≡ status.Ok
writes_well status.Ok out out_now quiet n h = refl
writes_well status.WriteFault out out_now quiet n h = absurd (quiet h)
writes_well status.OutOfMemory out out_now quiet n h = absurd (n refl)
writes_well s out out_now quiet n h = absurd h

module _ (seen : Seen) where
  one_end : (gs : List Stage) (s t : Status) → AreExclusive gs → AreQuiet gs seen → ¬ (s ≡ status.OutOfMemory) → ¬ (t ≡ status.OutOfMemory)
      → EndsAt gs s seen → EndsAt gs t seen → s ≡ t
  one_end [] s t x q n m h k = absurd h
  one_end (g ∷ gs) s t x q n m (inl h) (inl k) = x.0.one seen s t q.0 n m h k
  one_end (g ∷ gs) s t x q n m (inl h) (inr k) = absurd (x.0.apart seen s q.0 n h k.0)
  one_end (g ∷ gs) s t x q n m (inr h) (inl k) = absurd (x.0.apart seen t q.0 m k h.0)
  one_end (g ∷ gs) s t x q n m (inr h) (inr k) = one_end gs s t x.1 q.1 n m h.1 k.1

  -- stages are not both passed and where the command ends
  end_or_pass : (gs : List Stage) (s : Status) → AreExclusive gs → AreQuiet gs seen → ¬ (s ≡ status.OutOfMemory) → EndsAt gs s seen → PassesAll gs seen → ⊥
  end_or_pass [] s x q n h p = h
  end_or_pass (g ∷ gs) s x q n (inl h) p = x.0.apart seen s q.0 n h p.0
  end_or_pass (g ∷ gs) s x q n (inr h) p = end_or_pass gs s x.1 q.1 n h.1 p.1

  module _ (out out_now : SinkSeen) (quiet : ¬ Rose out.faults out_now.faults) where
    pub causes_exclude : (gs : List Stage) (s t : Status) → AreExclusive gs → AreQuiet gs seen → ¬ (s ≡ status.OutOfMemory) → ¬ (t ≡ status.OutOfMemory)
        → EndsBy gs s seen out out_now → EndsBy gs t seen out out_now → s ≡ t
    causes_exclude gs s t x q n m (inl h) (inl k) = one_end gs s t x q n m h k
    causes_exclude gs s t x q n m (inl h) (inr k) = absurd (end_or_pass gs s x q n h k.0)
    causes_exclude gs s t x q n m (inr h) (inl k) = absurd (end_or_pass gs t x q m k h.0)
    causes_exclude gs s t x q n m (inr h) (inr k) = writes_well s out out_now quiet n h.1 ∙ sym (writes_well t out out_now quiet m k.1)

    -- where all is passed, it is the good end
    pub ends_well : (gs : List Stage) (s : Status) → AreExclusive gs → AreQuiet gs seen → ¬ (s ≡ status.OutOfMemory) → PassesAll gs seen
        → EndsBy gs s seen out out_now → s ≡ status.Ok
    ends_well gs s x q n p h = causes_exclude gs s status.Ok x q n (λ e. cc) h (inr (p, tt))

-- ---- some status

module _ (seen : Seen) (out out_now : SinkSeen) where
  -- no status ends the command at these stages
  abbrev No : List Stage → Type 0
  No gs = (s : Status) → ¬ (s ≡ status.OutOfMemory) → ¬ EndsBy gs s seen out out_now

  next : (g : Stage) (gs : List Stage) → No (g ∷ gs) → g.passes seen → No gs
  next g gs never p s n (inl h) = never s n (inl (inr (p, h)))
  next g gs never p s n (inr h) = never s n (inr ((p, h.0), h.1))

  pub some_cause : (given : Seen → Type 0) (gs : List Stage) → given seen → AreDecided given gs → AreAsked gs seen
      → ((s : Status) → ¬ (s ≡ status.OutOfMemory) → ¬ EndsBy gs s seen out out_now) → ⊥
  some_cause given [] before d a never = never status.Ok (λ e. cc) (inr (tt, tt))
  some_cause given (g ∷ gs) before d a never = d.0 seen before a.0
      (λ b. some_cause (λ seen. given seen × IsBehind g seen) gs (before, b) d.1 a.1 (next g gs never b.passes))
      (λ s n h. never s n (inl (inl h)))
