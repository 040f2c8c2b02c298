-- The statements of a saved page, one after another: each takes at most a step, and they leave what they lead to.
use Rattle.std.proofs.Common.{◌≡◌, refl, ap, ◌∙◌, ℕ, zero, suc, ◌+◌, ◌-◌, ◌≤◌, List, [], ◌∷◌, length, arith}
use Rattle.object_heap.specs.Heap.{Contents}
use Rattle.page_host.specs.Host.{Host}
use Rattle.page_meaning.specs.Act.{Act, also, Ended, nothing, on_value, Outcome, then_on}
use Rattle.page_meaning.specs.Calls.{calls_at}
use Rattle.page_meaning.specs.Statements.{exec, exec_all}
use Rattle.page_meaning.specs.Store.{Store, with_both}
use Rattle.page_meaning.specs.declared.signal.Signal.{Signal}
use Rattle.page_writer.specs.Script.{statements}
use Rattle.page_writer.specs.Statements.{statement}
use Rattle.rebuild_plan.specs.declared.statement.Rebuild.{Rebuild}
use Rattle.rebuilding.specs.Rebuilt.{Succeeds}
use Rattle.rebuilding.specs.Running.{Runs, StatementsRun}
use Rattle.rebuilding.specs.Scene.{inside, IsHosting, IsRunning, Scene}

-- they end by themselves with at least so many steps left, and put out nothing
pub record Finishes (End : Contents → Host → List ℕ → Type 0) (s : Store) (least : ℕ) (out : Outcome Signal) : Type 0 where
  pub after : Contents
  pub host : Host
  pub sites : List ℕ
  pub left : ℕ
  pub few : least ≤ left
  pub ends : out ≡ Ended nothing (with_both s after host) left
  pub end : End after host sites

-- one act that ends by itself, and then another
led_on : (End : Contents → Host → List ℕ → Type 0) (one others : Act) (s : Store) (n left least : ℕ) (after : Contents) (host : Host)
    → one.run s n ≡ Ended nothing (with_both s after host) left
    → (later : Finishes End (with_both s after host) (left - least) (others.run (with_both s after host) left)) → n ≤ left + 1
    → Finishes End s (n - suc least) ((also one (λ _. others)).run s n)
led_on End one others s n left least after host ends later step = record {
  after = later.after;
  host = later.host;
  sites = later.sites;
  left = later.left;
  few = omega (arith, later.few, step);
  ends = ap (λ o. then_on o (on_value (λ _. others))) ends ∙ later.ends;
  end = later.end;
}

pub all_run : StatementsRun → (c : Scene) (End : Contents → Host → List ℕ → Type 0) (depth : ℕ) (rs : List Rebuild) (s : Store) (sites : List ℕ) (n : ℕ)
    → length rs ≤ n → IsRunning c s.heap sites → IsHosting s.heap s.host → Succeeds c End s.heap s.host sites rs
    → Finishes End s (n - length rs) ((exec_all (calls_at (depth + 1)) (inside c) (statements rs)).run s n)
all_run run c End depth [] s sites n few running hosting able = record { after = s.heap; host = s.host; sites = sites; left = n; few = omega arith; ends = refl; end = able }
all_run run c End depth (r ∷ rs) s sites zero few running hosting able = absurd (omega (arith, few))
all_run run c End depth (r ∷ rs) s sites (suc n) few running hosting able =
    let act : Act = exec (calls_at (depth + 1)) (inside c) (statement r) in
    let others : Act = exec_all (calls_at (depth + 1)) (inside c) (statements rs) in
    let one : Runs c s sites r (n + 1) (act.run s (n + 1)) = run c s sites r depth n running hosting able.0 in
    let later : Finishes End (with_both s one.after one.host) (one.left - length rs) (others.run (with_both s one.after one.host) one.left) =
    all_run run c End depth rs (with_both s one.after one.host) one.new_sites one.left (omega (arith, few, one.steps)) one.running one.hosting
    (able.1 one.after one.host one.new_sites one.running one.hosting one.has_run)
    in
    let more : suc n ≡ n + 1 = omega arith in
    led_on End act others s (suc n) one.left (length rs) one.after one.host (ap (λ m. act.run s m) more ∙ one.ends) later (omega (arith, one.steps))
