-- What is called or constructed.
use Rattle.std.specs.Prelude.{◌≡◌, ℕ, zero, suc, Bool, true, false, List, Option}
use Rattle.js_values.specs.declared.throw.Throw.TheVariants.{TooDeep}
use Rattle.js_values.specs.declared.value.Value.{Value}
use Rattle.object_heap.specs.declared.object.Class.{Class}
use Rattle.page_meaning.specs.Act.{Act, Calls}
use Rattle.page_meaning.specs.Calls.{called, calls_at, constructed, is_constructor}
use Rattle.page_meaning.specs.Errors.{raise}
use Rattle.page_meaning.specs.Properties.{is_function}
use Rattle.page_meaning.specs.Store.{Store}
use Rattle.page_frames.specs.declared.meter.Meter.{Meter}
use Rattle.page_frames.specs.declared.meter.Next.{Next}
use Rattle.page_frames.specs.Step.{Lowers}
use Rattle.page_frames.specs.Weight.{heavy}

-- whether it may be called, or constructed
abbrev pub may_run : Bool → Option Class → Bool
may_run false c = is_function c
may_run true c = is_constructor c

-- what is called or constructed, once its step is taken, with the calls that it may make itself
abbrev pub runs : Calls → Bool → Value → Value → List Value → Option Class → Act
runs calls false f this vs c = called calls this vs c
runs calls true f this vs c = constructed calls f vs c

-- with so many levels of depth left
abbrev pub runs_at : ℕ → Bool → Value → Value → List Value → Option Class → Act
runs_at zero construct f this vs c = raise TooDeep
runs_at (suc d) construct f this vs c = runs (calls_at d) construct f this vs c

-- the act leads there with a level of depth less for its own calls, where a step has paid for what it weighs
abbrev pub Descends : (Calls → Act) → Store → Meter → Next → Store → Meter → Type 0
Descends = Lowers heavy
