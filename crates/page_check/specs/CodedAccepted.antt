-- How the logic stores an accepted page.
use Rattle.std.specs.Prelude.{ℕ, List, refl}
use Rattle.std.specs.Coded.{Coded, code_by, coded_ℕ, coded_list, coded×}
use Rattle.page_check.specs.Accept.{AcceptedPage}
use Rattle.page_check.specs.CodedPage.{coded_page}
use Rattle.page_check.specs.Rules.{Page}
use Rattle.page_reader.specs.declared.page.Place.{Place}

abbrev pub coded_place : Coded Place
coded_place = code_by (ℕ × ℕ) (coded× coded_ℕ coded_ℕ) (λ p. (p.start, p.end)) (λ t. record { start = t.0; end = t.1 }) (λ p. refl)

abbrev pub coded_accepted : Coded AcceptedPage
coded_accepted =
    code_by (Page × (ℕ × List Place)) (coded× coded_page (coded× coded_ℕ (coded_list coded_place))) (λ a. (a.page, (a.start, a.places)))
    (λ t. record { page = t.0; start = t.1.0; places = t.1.1 }) (λ a. refl)
