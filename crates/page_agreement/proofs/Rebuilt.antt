-- The page that a saved page loads as agrees with the one that was saved.
use Rattle.std.proofs.Common.{◌≡◌, refl, sym, ap, ℕ, zero, suc, ◌<◌, true, false, not, List, [], ◌∷◌, length, arith}
use Rattle.std.proofs.lemmas.Bool.{and_from, ne_eqb}
use Rattle.std.proofs.lemmas.List.Elements.{All-cons, All-nil}
use Rattle.std.proofs.lemmas.List.Kept.{AllPairs-from_increasing}
use Rattle.std.specs.List.{All}
use Rattle.heap_walker.specs.Still.{Still}
use Rattle.heap_walker.specs.Things.{IsWalk, is_in}
use Rattle.js_core.specs.Tree.{Stmts}
use Rattle.page_host.specs.Sound.{ArePlain}
use Rattle.page_meaning.specs.Pages.{load_of}
use Rattle.page_meaning.specs.Store.{Store}
use Rattle.page_writer.specs.FormScripts.{AreWritten, SavedScriptsAreForm}
use Rattle.page_writer.specs.Frame.{frame_nodes}
use Rattle.page_writer.specs.Script.{saved_in_frame, saved_script}
use Rattle.rebuild_plan.specs.Compact.{compact}
use Rattle.rebuild_plan.specs.Plan.{plan}
use Rattle.page_rest.specs.Laws.{IsInForm, PagesRest}
use Rattle.rebuilding.proofs.Callers.{frame_host_sound}
use Rattle.rebuilding.specs.Again.{SavedAgain}
use Rattle.rebuilding.specs.Laws.{CanBeRebuilt}
use Rattle.rebuilding.specs.Rebuilt.{nth}
use Rattle.page_agreement.proofs.Compacts.{equal_compacts_agree}
use Rattle.page_agreement.specs.Agree.{AreReached, is_once}
use Rattle.page_agreement.specs.Laws.{RebuiltPagesAgree}

-- numbers that rise are all different
absent : (k : ℕ) (ks : List ℕ) → ((j : ℕ) → j < length ks → k < nth ks j) → is_in k ks ≡ false
absent k [] h = refl
absent k (x ∷ xs) h =
    let above : k < x = h 0 (omega arith) in
    rw (ne_eqb k x (λ e. absurd (omega (arith, e, above)))) (absent k xs (λ j inside. h (suc j) (omega (arith, inside))))

once_from : (ks : List ℕ) → ((i j : ℕ) → i < j → j < length ks → nth ks i < nth ks j) → is_once ks ≡ true
once_from [] h = refl
once_from (k ∷ ks) h =
    and_from (not (is_in k ks)) (is_once ks)
    (ap not (absent k ks (λ j inside. h 0 (suc j) (omega arith) (omega (arith, inside)))))
    (once_from ks (λ i j before inside. h (suc i) (suc j) (omega (arith, before)) (omega (arith, inside))))

-- a walk has each thing that the page reaches once
walk_reached : (s : Store) (ks : List ℕ) → IsWalk s ks → AreReached s ks
walk_reached s ks walk = record {
  once = once_from ks (λ i j before inside. AllPairs-from_increasing ks walk.rising i j 0 before inside);
  sound = walk.sound;
  complete = walk.complete;
}

-- ---- what it is read with

frame_plain : ArePlain frame_nodes
frame_plain zero = refl
frame_plain (suc zero) = refl
frame_plain (suc (suc zero)) = refl
frame_plain (suc (suc (suc k))) = refl

-- a page in form is at rest before any event
loaded_still : PagesRest → SavedScriptsAreForm → (s : Store) (things again : List ℕ) → CanBeRebuilt s things → AreWritten s things
    → IsWalk (load_of (saved_in_frame (plan (compact s things)))) again → Still (load_of (saved_in_frame (plan (compact s things))))
loaded_still rest forms s things again can written walk =
    let script : Stmts = saved_script (plan (compact s things)) in
    let formed = forms s things can.still can.walk written in
    let all : All IsInForm (script ∷ []) = All-cons IsInForm script [] (formed.1, formed.0) (All-nil IsInForm) in
    (rest (saved_in_frame (plan (compact s things))) [] again frame_host_sound.nodes frame_plain all walk).0

pub rebuilt_pages_agree : SavedAgain → PagesRest → SavedScriptsAreForm → RebuiltPagesAgree
rebuilt_pages_agree saved rest forms s things again can written walk =
    let t : Store = load_of (saved_in_frame (plan (compact s things))) in
    let still : Still t = loaded_still rest forms s things again can written walk in (
      still,
      equal_compacts_agree s t things again can.still still (walk_reached s things can.walk) (walk_reached t again walk) (sym (saved s things again can walk)),
    )
