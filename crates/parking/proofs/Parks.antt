-- That keeping a page under the next version of a name is one row more.
use Rattle.std.proofs.Common.{◌≡◌, ℕ, ◌<◌, max, Bool, true, false, cond, if◌then◌else◌, List, [], ◌∷◌, map, Option, Some, None, IfSome, Result, Ok as Good, Err, Vec, Global, bytes_eq, refl, sym, ap, subst, ◌∙◌, inl, inr, arith, rules}
use Rattle.std.specs.Option.{option_map}
use Rattle.std.specs.Ordering.{eq_by_cmp}
use Rattle.std.specs.FinMap.{entries, find, get, insert, get-entries}
use Rattle.js_core.specs.Text.{utf16_of}
use Rattle.js_values.specs.declared.event.Event.{Event}
use Rattle.page_io.specs.Seen.{FilesSeen, KeeperSeen}
use Rattle.page_io.specs.Table.{Key, Table, key_cmp, kept_name}
use Rattle.page_io.proofs.Callers.{tied}
use Rattle.page_meaning.specs.Pages.{run_of}
use Rattle.opened_pages.specs.Opened.{HaveNumbers}
use Rattle.outcomes.specs.declared.status.Status.{Status}
use Rattle.outcomes.specs.declared.status.Status.TheVariants.{KeeperFault, VersionsUsed, OutOfMemory}
use Rattle.outcomes.specs.Seen.{Seen, seen_between, KeepsRows}
use Rattle.outcomes.specs.Stages.{EndsAt, StopsAt}
use Rattle.outcomes.specs.Work.{Gives}
use Rattle.outcomes.proofs.Callers.{ends_behind, ends_within, passes_both}
use Rattle.read_files.specs.Page.{Page, opened}
use Rattle.read_files.specs.Reading.{AreRead, StopsReading}
use Rattle.read_files.specs.Replay.{HeldBoth}
use Rattle.read_files.specs.Stages.{reading}
use Rattle.read_files.proofs.Callers.{passes_reading, told_accepted_as, told_both}
use Rattle.migrate.specs.Moving.{IsNotSaved, IsSaved, unsaved_status}
use Rattle.migrate.specs.Saving.{IsMovable, IsTooLarge, SavedPagesMove, Saves}
use Rattle.migrate.specs.Stage.{moving}
use Rattle.migrate.specs.declared.unsaved.Unsaved.{Unsaved}
use Rattle.migrate.specs.declared.unsaved.Unsaved.TheVariants as unsaved
use Rattle.migrate.proofs.Callers.{large, movable}
use Rattle.parking.specs.Keeping.{IsKept, IsNextOf, IsUnkept}
use Rattle.parking.specs.Rows.{AreUsed, greatest, next_version}
use Rattle.parking.specs.Stages.{next_row}
use Rattle.parking.specs.Works.{parking}

-- ---- the next version of a name has no row

same_bytes : (x : List ℕ) → bytes_eq x x ≡ true
same_bytes x = search rules

above_all : (name : List ℕ) (v : ℕ) (es : List (Key × List ℕ)) → greatest (utf16_of name) (map kept_name es) < v → find key_cmp (name, v) es ≡ None
above_all name v [] high = refl
above_all name v (e ∷ es) high = by_case (eq_by_cmp key_cmp (name, v) e.0) refl (above_all name v es rest)
  where
    rest : greatest (utf16_of name) (map kept_name es) < v
    rest = by_name (bytes_eq (utf16_of e.0.0) (utf16_of name)) high
      where
        by_name : (b : Bool) → (if b then max e.0.1 (greatest (utf16_of name) (map kept_name es)) else greatest (utf16_of name) (map kept_name es)) < v
            → greatest (utf16_of name) (map kept_name es) < v
        by_name true h = omega (arith, h)
        by_name false h = h

    same : (name, v) ≡ e.0 → ⊥
    same is =
        let named : utf16_of e.0.0 ≡ utf16_of name = ap (λ (k : Key). utf16_of k.0) (sym is) in
        let version : v ≡ e.0.1 = ap (λ (k : Key). k.1) is in
        let high : max e.0.1 (greatest (utf16_of name) (map kept_name es)) < v = rw (named, same_bytes (utf16_of name)) at high in
        omega (arith, high, version)

    by_case : (b : Bool) → eq_by_cmp key_cmp (name, v) e.0 ≡ b → find key_cmp (name, v) es ≡ None → cond b (Some e.1) (find key_cmp (name, v) es) ≡ None
    by_case true is none = absurd (same (tied (name, v) e.0 is))
    by_case false is none = none

next_is_new : (name : List ℕ) (t : Table) → get t (name, next_version name t) ≡ None
next_is_new name t = get-entries t (name, next_version name t) ∙ above_all name (next_version name t) (entries t) (omega arith)

-- ---- where the rows are told

told_new : (name : List ℕ) (o : Option Table) → IfSome o (λ t. get t (name, next_version name t) ≡ None)
told_new name None = tt
told_new name (Some t) = next_is_new name t

told_rows : (name bytes : List ℕ) (version : ℕ) (o : Option Table) → IfSome o (IsNextOf name version)
    → option_map (λ (t : Table). insert t (name, version) bytes) o ≡ option_map (λ (t : Table). insert t (name, next_version name t) bytes) o
told_rows name bytes version None h = refl
told_rows name bytes version (Some t) h = ap (λ v. Some (insert t (name, v) bytes)) h.0

told_version : (name : List ℕ) (version : ℕ) (o : Option Table) → IfSome o (IsNextOf name version) → IfSome o (λ t. version ≡ next_version name t)
told_version name version None h = tt
told_version name version (Some t) h = h.0

told_left : (name : List ℕ) (version : ℕ) (o : Option Table) → IfSome o (IsNextOf name version) → IfSome o (λ t. ¬ AreUsed name t)
told_left name version None h = tt
told_left name version (Some t) h = h.1

-- ---- park

unkept_stops : (name : List ℕ) (status : Status) (seen : Seen) → IsUnkept name status seen.keeper_before seen.keeper_now → StopsAt (next_row name) status seen
unkept_stops name KeeperFault seen h = h
unkept_stops name VersionsUsed seen h = h
unkept_stops name OutOfMemory seen h = tt
unkept_stops name status seen h = absurd h

module _ (p e name : List ℕ) (files files_now : FilesSeen) (keeper keeper_now : KeeperSeen) where
  abbrev parks : Seen
  parks = seen_between files files_now keeper keeper_now

  -- reading ends it
  pub park_stops : (status : Status) → StopsReading p e status files files_now → KeepsRows parks → Gives (parking p e name) (Err status) parks
  park_stops status h k = (ends_within (reading p e) (moving p e ∷ next_row name ∷ []) status parks (h keeper keeper_now), k)

  module _ (page : Page) (events : List Event) (read : AreRead (files.content p) (files.content e) page events) where
    of_both : (P : Page → List Event → Type 0) → P page events → HeldBoth parks p e P
    of_both P h = told_both (files.content p) (files.content e) page events P read h

    -- or what can be reached does
    unsaved_ends : (cause : Unsaved) → IsNotSaved (run_of (opened page) events) cause → EndsAt (moving p e ∷ next_row name ∷ []) (unsaved_status cause) parks
    unsaved_ends (unsaved.TooLarge w) h = inl (of_both (λ page events. IsTooLarge page events w) (large page events h.0 w h.1))
    unsaved_ends unsaved.OutOfMemory h = inl tt
    unsaved_ends unsaved.WriteFault h = absurd h

    pub unsaved_stops : (cause : Unsaved) → IsNotSaved (run_of (opened page) events) cause → KeepsRows parks
        → Gives (parking p e name) (Err (unsaved_status cause)) parks
    unsaved_stops cause h k =
        (ends_behind (reading p e) (moving p e ∷ next_row name ∷ []) (unsaved_status cause) parks (passes_reading p e parks page events read) (unsaved_ends cause h), k)

    -- or the keeper does, or the row is kept
    pub park_gives : SavedPagesMove → (text : List ℕ) (r : Result (Vec ℕ Global) Status) → HaveNumbers page.kind page.scripts
        → IsSaved (run_of (opened page) events) text → IsKept name text keeper keeper_now r → Gives (parking p e name) r parks
    park_gives move text (Good line) numbered saved kept = (
      passes_both (reading p e) (moving p e ∷ next_row name ∷ []) parks (passes_reading p e parks page events read)
          (of_both IsMovable (movable page events saved.0 saved.1), (told_left name kept.version keeper.table kept.next, tt)),
      (kept.version, kept.said, told_version name kept.version keeper.table kept.next),
      record {
        text = text;
        saved = told_accepted_as (files.content p) (files.content e) page events (λ page events. Saves page events text) read
            (λ bytes is. subst (λ (t : List ℕ). Saves page events t) (sym saved.2) (move bytes page events saved.0 is read.sound numbered saved.1));
        rows = kept.rows ∙ told_rows name text kept.version keeper.table kept.next;
        more = told_new name keeper.table;
      },
    )
    park_gives move text (Err status) numbered saved kept = (
      ends_behind (reading p e) (moving p e ∷ next_row name ∷ []) status parks (passes_reading p e parks page events read)
          (inr (of_both IsMovable (movable page events saved.0 saved.1), inl (unkept_stops name status parks kept.1))),
      kept.0.0,
    )
