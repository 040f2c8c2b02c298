-- A saved page is accepted, and goes on as the page that was saved.
use Rattle.std.proofs.Common.{◌≡◌, ◌⊎◌, inl, inr, ℕ, true, ◌≤◌, ◌<◌, List, [], ◌∷◌, min, refl, sym, ap, subst, ◌∙◌, arith, ◌+◌, ◌*◌}
use Rattle.std.specs.List.{list_all}
use Rattle.std.proofs.lemmas.Bool.{and_from}
use Rattle.dom_tree.specs.Sound.{IsSound}
use Rattle.heap_walker.specs.Things.{IsWalk}
use Rattle.heap_walker.specs.Weight.{load_of, told}
use Rattle.js_core.specs.Tree as tree
use Rattle.js_values.specs.declared.event.Event.{Event}
use Rattle.moved_pages.specs.Moved.{AcceptedPagesArePlain, AcceptedScriptsAreInForm, CanBeMoved, GoesOnAs, IsLittle, IsShort, MovedPagesGoOn}
use Rattle.moved_pages.specs.Moved as moved
use Rattle.opened_pages.specs.Opened.{HaveNumbers, OpenedPagesAreAccepted, OpenedPagesPutOutTheSame, OpensAs, PutOutTheSame, opened_text}
use Rattle.page_check.specs.Accept.{ArePageScripts, texts_of}
use Rattle.page_check.specs.declared.page.Kind.{Kind}
use Rattle.page_check.specs.declared.page.Kind.TheVariants.{Plain, Form}
use Rattle.page_reader.specs.Replacing.{places_of}
use Rattle.printed_pages.specs.Printed.{framed_page}
use Rattle.page_meaning.specs.Pages.{Page as RunningPage, lines_after, lines_of_run, run_of}
use Rattle.page_meaning.specs.Store.{Store}
use Rattle.page_writer.specs.Page.{saved_page}
use Rattle.page_writer.specs.Script.{in_frame}
use Rattle.page_writer.specs.Sizes.{text_limit, things_limit}
use Rattle.rebuilding.specs.Laws.{LoadsWithin}
use Rattle.script_rules.specs.Form.{in_form}
use Rattle.read_files.specs.Page.{Page, IsAccepted, opened, opened_page, running}
use Rattle.migrate.specs.Saving.{CanBeSaved, GoesOn, IsTooMuch, MovesTo, SavedPagesMove}
use Rattle.outcomes.proofs.Callers.{at_most_or_more}

-- bytes are accepted in one way
abbrev pub OneAcceptance : Type 0
OneAcceptance = (bytes : List ℕ) (page other : Page) → IsAccepted bytes page → IsAccepted bytes other → page ≡ other

-- what is told of a number is no more than a limit where the number is no more
few_of : (n limit most : ℕ) → limit < most → ¬ (limit < min n most) → n ≤ limit
few_of n limit most high none = by (at_most_or_more n limit)
  where
    by : (n ≤ limit) ⊎ (limit < n) → n ≤ limit
    by (inl few) = few
    by (inr many) = absurd (none (omega (arith, high, many)))

-- so few things, and so little text
few_things : (s : Store) (things : List ℕ) → ¬ IsTooMuch (told (load_of s things)) → (load_of s things).things ≤ things_limit
few_things s things little = few_of (load_of s things).things things_limit _ (omega arith) (λ more. little (inl more))

little_text : (s : Store) (things : List ℕ) → ¬ IsTooMuch (told (load_of s things)) → (load_of s things).text ≤ text_limit
little_text s things little = few_of (load_of s things).text text_limit _ (omega arith) (λ more. little (inr more))

-- and the other way round: what is told is no more than the number
little_of : (s : Store) (things : List ℕ) → IsLittle s things → ¬ IsTooMuch (told (load_of s things))
little_of s things little (inl more) = omega (arith, little.0, more)
little_of s things little (inr more) = omega (arith, little.1, more)

-- the laws of the crates below on moved and opened pages
pub record SavingLaws : Type 0 where
  pub one : OneAcceptance
  pub plain : AcceptedPagesArePlain
  pub formed : AcceptedScriptsAreInForm
  pub moved : MovedPagesGoOn
  pub accepted : OpenedPagesAreAccepted
  pub same : OpenedPagesPutOutTheSame

-- the frame of a saved page is read as its nodes
framed_runs : (script : tree.Stmts) → running (framed_page script) ≡ in_frame (script ∷ [])
framed_runs script = refl

-- its scopes are open
framed_opens : (script : tree.Stmts) → opened (framed_page script) ≡ in_frame (script ∷ [])
framed_opens script = refl

-- the script of a moved page goes on as the page, whichever pages they are accepted as
goes_on_by : (script : tree.Stmts) (earlier : List Event) (text : List ℕ) (page now : Page) → now ≡ framed_page script
    → GoesOnAs text (opened page) earlier script → PutOutTheSame (opened page) (running page) → (before : Page) → before ≡ page
    → GoesOn before earlier now
goes_on_by script earlier text page now f h alike before e =
    let runs : running now ≡ in_frame (script ∷ []) = ap running f ∙ framed_runs script in
    record {
      form = ap (λ (p : Page). p.kind) f;
      silent = ap (λ (p : RunningPage). lines_of_run p []) runs ∙ h.silent;
      same = λ later.
          ap (λ (p : RunningPage). lines_after p [] later) runs ∙ h.same later ∙ alike.after earlier later
          ∙ sym (ap (λ (p : Page). lines_after (running p) earlier later) e);
    }

-- and what holds of it as it is saved again
again_by : (script : tree.Stmts) (P : RunningPage → Type 0) (now : Page) → now ≡ framed_page script → P (in_frame (script ∷ [])) → P (opened now)
again_by script P now f h = subst P (sym (ap opened f ∙ framed_opens script)) h

-- the scripts of a page with opened scopes are those of some form page
some_opening : (kind : Kind) (bytes : List ℕ) (page : Page) → IsAccepted bytes page → (text : List ℕ) × OpensAs kind bytes page text
some_opening Form bytes page is = (bytes, refl)
some_opening Plain bytes page is = (opened_text bytes (places_of is.texts) page.scripts, (is, refl))

formed_as : (laws : SavingLaws) (bytes : List ℕ) (page : Page) → IsAccepted bytes page → (text : List ℕ) × IsAccepted text (opened_page page)
formed_as laws bytes page is = let opening = some_opening page.kind bytes page is in (opening.0, laws.accepted bytes page opening.0 is opening.1)

all_formed : (texts : List (List ℕ)) (scripts : List tree.Stmts) → ArePageScripts Form texts scripts → list_all in_form scripts ≡ true
all_formed [] [] read = refl
all_formed (text ∷ texts) (script ∷ scripts) read = and_from (in_form script) (list_all in_form scripts) read.0.formed (all_formed texts scripts read.1)
all_formed [] (script ∷ scripts) read = absurd read
all_formed (text ∷ texts) [] read = absurd read

-- a page that can be saved
can_be_moved : (laws : SavingLaws) (bytes : List ℕ) (page : Page) (earlier : List Event) (things : List ℕ) → IsAccepted bytes page → IsSound page.nodes
    → CanBeSaved (run_of (opened page) earlier) things → CanBeMoved (opened page) earlier things
can_be_moved laws bytes page earlier things accepted sound can =
    let as_form = formed_as laws bytes page accepted in
    record {
      sound = sound;
      plain = laws.plain bytes page accepted;
      in_form = laws.formed as_form.0 (opened_page page) as_form.1 (all_formed (texts_of as_form.1.texts) (opened_page page).scripts as_form.1.read);
      walked = can.walked;
      literals = can.literals;
      few = few_things (run_of (opened page) earlier) things can.little;
      short = little_text (run_of (opened page) earlier) things can.little;
    }

pub saved_short : (laws : SavingLaws) (bytes : List ℕ) (page : Page) (earlier : List Event) (things : List ℕ)
    → IsAccepted bytes page → IsSound page.nodes → CanBeSaved (run_of (opened page) earlier) things → IsShort (run_of (opened page) earlier) things
saved_short laws bytes page earlier things accepted sound can =
    (laws.moved (opened page) earlier things (can_be_moved laws bytes page earlier things accepted sound can)).1

pub saved_steps : (laws : SavingLaws) (bytes : List ℕ) (page : Page) (earlier : List Event) (things : List ℕ)
    → IsAccepted bytes page → IsSound page.nodes → CanBeSaved (run_of (opened page) earlier) things
    → (now : Page) → IsAccepted (saved_page (run_of (opened page) earlier) things) now
    → LoadsWithin (running now) (4 * (load_of (run_of (opened page) earlier) things).things + 4)
saved_steps laws bytes page earlier things accepted sound can now b =
    let text = saved_page (run_of (opened page) earlier) things in
    let n : ℕ = (load_of (run_of (opened page) earlier) things).things in
    let found : moved.GoesOn text (opened page) earlier (4 * n + 4) =
    (laws.moved (opened page) earlier things (can_be_moved laws bytes page earlier things accepted sound can)).0 in
    let at_last = laws.one text now (framed_page found.script) b found.goes_on.accepted in
    let runs : running now ≡ in_frame (found.script ∷ []) = ap running at_last ∙ framed_runs found.script in
    subst (λ (p : RunningPage). LoadsWithin p (4 * n + 4)) (sym runs) found.within

pub saved_moves : (laws : SavingLaws) (bytes : List ℕ) (page : Page) (earlier : List Event) (things : List ℕ)
    → IsAccepted bytes page → IsSound page.nodes → HaveNumbers page.kind page.scripts → CanBeSaved (run_of (opened page) earlier) things
    → MovesTo bytes earlier (saved_page (run_of (opened page) earlier) things)
saved_moves laws bytes page earlier things accepted sound numbered can =
    let text = saved_page (run_of (opened page) earlier) things in
    let found : moved.GoesOn text (opened page) earlier (4 * (load_of (run_of (opened page) earlier) things).things + 4) =
    (laws.moved (opened page) earlier things (can_be_moved laws bytes page earlier things accepted sound can)).0 in
    let alike = laws.same bytes page accepted sound numbered in
    record {
      moved = framed_page found.script;
      page = record { fits = found.goes_on.fits; accepted = found.goes_on.accepted };
      goes_on = λ before now a b.
          let at_first = laws.one bytes before page a accepted in
          let at_last = laws.one text now (framed_page found.script) b found.goes_on.accepted in
          goes_on_by found.script earlier text page now at_last found.goes_on alike before at_first;
      again = λ now ks b.
          let at_last = laws.one text now (framed_page found.script) b found.goes_on.accepted in
          again_by found.script (λ (p : RunningPage). IsWalk (run_of p []) ks → saved_page (run_of p []) ks ≡ text) now at_last (found.goes_on.again ks);
      little = λ now ks b.
          let at_last = laws.one text now (framed_page found.script) b found.goes_on.accepted in
          again_by found.script (λ (p : RunningPage). IsWalk (run_of p []) ks → ¬ IsTooMuch (told (load_of (run_of p []) ks))) now at_last
          (λ walk. little_of (run_of (in_frame (found.script ∷ [])) []) ks (found.goes_on.little ks walk));
    }

-- what is saved of an accepted page is a page to which it moves
pub saved_pages_move : SavingLaws → SavedPagesMove
saved_pages_move laws bytes page events things accepted sound numbered can = record {
  state = run_of (opened page) events;
  things = things;
  after = record { state = refl; walked = can.walked };
  saved = refl;
  short = saved_short laws bytes page events things accepted sound can;
  steps = saved_steps laws bytes page events things accepted sound can;
  moves = λ others is. saved_moves laws others page events things is sound numbered can;
}
