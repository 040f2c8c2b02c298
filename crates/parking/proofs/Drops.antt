-- That dropping a row that is not there leaves the rows as they were.
use Rattle.std.proofs.Common.{◌≡◌, ℕ, Bool, true, false, cond, List, Option, Some, None, IfSome, is_some, Err, refl, sym, ap, ◌∙◌, inl}
use Rattle.std.specs.Option.{option_map}
use Rattle.std.specs.Ordering.{eq_by_cmp}
use Rattle.std.specs.FinMap.{contains_key, get, get-remove, remove, same_map}
use Rattle.page_io.specs.Seen.{KeeperSeen}
use Rattle.page_io.specs.Table.{Key, Table, key_cmp}
use Rattle.page_io.proofs.Callers.{key_exact, key_total, tied}
use Rattle.outcomes.specs.declared.status.Status.TheVariants.{NoSession}
use Rattle.outcomes.specs.Work.{GivesOfRows}
use Rattle.parking.specs.Works.{dropping}

none_of : (o : Option (List ℕ)) → is_some o ≡ false → o ≡ None
none_of None e = refl
none_of (Some x) e = cc

remove_none : (t : Table) (k : Key) → contains_key t k ≡ false → remove t k ≡ t
remove_none t k e = same_map key_total key_exact (remove t k) t (λ q. get-remove key_total t k q ∙ by_case q (eq_by_cmp key_cmp q k) refl)
  where
    by_case : (q : Key) (b : Bool) → eq_by_cmp key_cmp q k ≡ b → cond b None (get t q) ≡ get t q
    by_case q true is = sym (ap (get t) (tied q k is) ∙ none_of (get t k) e)
    by_case q false is = refl

no_row : (k : Key) (o : Option Table) → IfSome o (λ t. false ≡ contains_key t k) → IfSome o (λ t. get t k ≡ None)
no_row k None h = tt
no_row k (Some t) h = none_of (get t k) (sym h)

rows_stay : (k : Key) (o n : Option Table) → n ≡ option_map (λ (t : Table). remove t k) o → IfSome o (λ t. false ≡ contains_key t k) → n ≡ o
rows_stay k None n e h = e
rows_stay k (Some t) n e h = e ∙ ap Some (remove_none t k (sym h))

pub drop_refuses : (name : List ℕ) (version : ℕ) (before now : KeeperSeen)
    → now.table ≡ option_map (λ (t : Table). remove t (name, version)) before.table
    → IfSome before.table (λ t. false ≡ contains_key t (name, version))
    → GivesOfRows (dropping name version) (Err NoSession) before now
drop_refuses name version before now e h files =
    (inl (no_row (name, version) before.table h), rows_stay (name, version) before.table now.table e h)
