-- How the logic stores a page while host events act on it.
use Rattle.std.specs.Prelude.{Bool, refl}
use Rattle.std.specs.Coded.{Coded, code_by, coded_bool, coded×}
use Rattle.page_meaning.specs.Store.{Store}
use Rattle.page_state.specs.CodedStore.{coded_store}
use Rattle.session.specs.Acting.{Acting}

abbrev pub coded_acting : Coded Acting
coded_acting =
    code_by (Store × Bool) (coded× coded_store coded_bool) (λ a. (a.page, a.is_spent)) (λ t. record { page = t.0; is_spent = t.1 }) (λ a. refl)
