-- Pages that are read, and refused or taken.
use Rattle.std.proofs.Common.{◌≡◌, ◌∙◌, ℕ, ◌≤◌, List, length, Some, None, Result, Ok as Good, Err, IfOk, IfErr, subst}
use Rattle.page_io.specs.Content.{Told}
use Rattle.opened_pages.specs.Opened.{OpenedPagesAreAccepted, OpenedPagesPutOutTheSame}
use Rattle.page_check.specs.Accept.{IsRefused}
use Rattle.read_files.specs.Page.{page_limit, Page, IsPage}
use Rattle.read_files.specs.Checking.{Tells, kind_line}
use Rattle.read_files.specs.Opening.{IsOpened, OpensTo}
use Rattle.read_files.specs.Reading.{IsPageFile, IsUntaken, StopsAtPage}
use Rattle.outcomes.specs.Seen.{Of}
use Rattle.outcomes.specs.declared.status.Status.{Status}
use Rattle.outcomes.specs.declared.status.Status.TheVariants.{PageRefused, OutOfMemory}

-- a page that was read is not taken
told_untaken : (told : Told) (bytes : List ℕ) (status : Status) → Of told (λ held. IsPageFile held bytes) → IsUntaken bytes status
    → StopsAtPage status told
told_untaken told bytes OutOfMemory h u = tt
told_untaken None bytes (PageRefused (Some r)) h u = tt
told_untaken (Some None) bytes (PageRefused (Some r)) h u = absurd h
told_untaken (Some (Some held)) bytes (PageRefused (Some r)) h u = (h.fits, subst (λ (b : List ℕ). IsRefused b r) h.same u)
told_untaken told bytes (PageRefused None) h u = absurd u
told_untaken told bytes status h u = absurd u

pub told_untaken_if : {T : Type 0} (told : Told) (bytes others : List ℕ) (r : Result T Status) → others ≡ bytes → Of told (λ held. IsPageFile held bytes)
    → IfErr r (IsUntaken others) → IfErr r (λ status. StopsAtPage status told)
told_untaken_if told bytes others (Good t) same h u = tt
told_untaken_if told bytes others (Err status) same h u = told_untaken told bytes status h (subst (λ (b : List ℕ). IsUntaken b status) same u)

-- or it is accepted
pub told_accepted_if : {T : Type 0} (told : Told) (bytes others : List ℕ) (P : List ℕ → T → Type 0) (Q : List ℕ → T → Type 0) (r : Result T Status)
    → ((b : List ℕ) (t : T) → length b ≤ page_limit → P b t → Q b t) → others ≡ bytes → Of told (λ held. IsPageFile held bytes)
    → IfOk r (P others) → IfOk r (λ t. Of told (λ b. Q b t))
told_accepted_if None bytes others P Q (Good t) f same h p = tt
told_accepted_if (Some None) bytes others P Q (Good t) f same h p = absurd h
told_accepted_if (Some (Some held)) bytes others P Q (Good t) f same h p = f held t h.fits (subst (λ (b : List ℕ). P b t) (same ∙ h.same) p)
told_accepted_if told bytes others P Q (Err status) f same h p = tt

-- an opened page is accepted, and puts out the lines of the page
pub opens_to : OpenedPagesAreAccepted → OpenedPagesPutOutTheSame → (bytes text : List ℕ) → length bytes ≤ page_limit → IsOpened bytes text → OpensTo bytes text
opens_to accepted same bytes text fits is = record {
  page = is.page;
  of_page = record { fits = fits; accepted = is.accepted };
  opens = is.opens;
  accepted = accepted bytes is.page text is.accepted is.opens;
  same = same bytes is.page is.accepted is.sound is.numbered;
}

-- the line of the kind of an accepted page
pub told_tells : (told : Told) (page : Page) (text : List ℕ) → Of told (λ b. IsPage b page) → text ≡ kind_line page.kind → Of told (λ b. Tells b text)
told_tells None page text h e = tt
told_tells (Some None) page text h e = absurd h
told_tells (Some (Some bytes)) page text h e = record { page = page; of_page = h; line = e }
