-- The table that the rows of a keeper in memory stand for.
use Rattle.std.proofs.Common.{◌≡◌, ℕ, Bool, true, false, cond, ◌&&◌, T, List, [], ◌∷◌, map, Option, Some, None, is_some, String, Vec, Global, refl, sym, ap, subst, ◌∙◌}
use Rattle.std.specs.Option.{option_map}
use Rattle.std.specs.String.{string_bytes}
use Rattle.std.specs.Ordering.{is_lt, eq_by_cmp, match_ordering}
use Rattle.std.specs.declared.cmp.Ordering.{Ordering}
use Rattle.std.specs.declared.cmp.Ordering.TheVariants.{Less, Equal, Greater}
use Rattle.std.specs.FinMap.{find, put, is_sorted, entries, get, insert, remove, contains_key, from_sorted, same_map, get-from_entries, get-from_sorted, get-insert, get-remove, entries-from_sorted}
use Rattle.std.specs.FinMap.Entries.{by_order, below_all, find-put}
use Rattle.std.specs.BTreeMap.{insert_entry, is_at}
use Rattle.std.specs.Map.{lookup, keys_of, KeepsOthers}
use Rattle.std.specs.List.{AllByRecursion}
use Rattle.std.specs.List.Sorted.{IsStrictlySortedBy}
use Rattle.page_io.specs.Table.{Key, key_cmp}
use Rattle.page_io.specs.MemoryKeeperOf.{row_of, table_of}
use Rattle.page_io.proofs.Callers.{key_total, key_exact, tied}

-- ---- the stored rows

abbrev Rows : Type 0
Rows = List ((String Global × ℕ) × Vec ℕ Global)

abbrev key_of : String Global × ℕ → Key
key_of k = (string_bytes k.0, k.1)

abbrev stored_cmp : String Global × ℕ → String Global × ℕ → Ordering
stored_cmp x y = key_cmp (key_of x) (key_of y)

find_rows : (q : Key) (rows : Rows) → find key_cmp q (map row_of rows) ≡ option_map (λ v. v.items) (lookup (λ k. eq_by_cmp key_cmp q (key_of k)) rows)
find_rows q [] = refl
find_rows q (e ∷ rows) =
    elim (eq_by_cmp key_cmp q (key_of e.0)) as (λ b. cond b (Some e.1.items) (find key_cmp q (map row_of rows)) ≡ option_map (λ (v : Vec ℕ Global). v.items) (cond b (Some e.1) (lookup (λ k. eq_by_cmp key_cmp q (key_of k)) rows))) [
      | true ↦ refl
      | false ↦ find_rows q rows
    ]

-- what is found under a key
pub get_rows : (q : Key) (rows : Rows) → get (table_of rows) q ≡ option_map (λ v. v.items) (lookup (λ k. eq_by_cmp key_cmp q (key_of k)) rows)
get_rows q rows = get-from_entries key_total (map row_of rows) q ∙ find_rows q rows

is_some_items : (o : Option (Vec ℕ Global)) → is_some (option_map (λ v. v.items) o) ≡ is_some o
is_some_items None = refl
is_some_items (Some v) = refl

-- whether there is a row
pub contains_rows : (q : Key) (rows : Rows) → contains_key (table_of rows) q ≡ is_some (lookup (λ k. eq_by_cmp key_cmp q (key_of k)) rows)
contains_rows q rows = ap is_some (get_rows q rows) ∙ is_some_items _

put_rows : (k : String Global × ℕ) (v : Vec ℕ Global) (rows : Rows) → map row_of (insert_entry stored_cmp rows k v) ≡ put key_cmp (key_of k) v.items (map row_of rows)
put_rows k v [] = refl
put_rows k v (e ∷ rows) =
    elim (key_cmp (key_of k) (key_of e.0)) as (λ r. map row_of (match_ordering r ((k, v) ∷ e ∷ rows) ((e.0, v) ∷ rows) (e ∷ insert_entry stored_cmp rows k v)) ≡ by_order r ((key_of k, v.items) ∷ row_of e ∷ map row_of rows) ((key_of e.0, v.items) ∷ map row_of rows) (row_of e ∷ put key_cmp (key_of k) v.items (map row_of rows))) [
      | Less ↦ refl
      | Equal ↦ refl
      | Greater ↦ ap (λ t. row_of e ∷ t) (put_rows k v rows)
    ]

-- a row that is inserted
pub table_insert : (k : String Global × ℕ) (v : Vec ℕ Global) (rows : Rows) → table_of (insert_entry stored_cmp rows k v) ≡ insert (table_of rows) (key_of k) v.items
table_insert k v rows =
    same_map key_total key_exact _ _ (λ q.
    get-from_entries key_total _ q ∙ ap (find key_cmp q) (put_rows k v rows)
    ∙ find-put key_cmp key_total q (key_of k) v.items (map row_of rows)
    ∙ sym (get-insert key_total (table_of rows) (key_of k) v.items q ∙ ap (cond (eq_by_cmp key_cmp q (key_of k)) (Some v.items)) (get-from_entries key_total _ q)))

-- what is found under a key once the row of k is gone
gone_by : (k : String Global × ℕ) (old new : Rows) → KeepsOthers (eq_by_cmp stored_cmp) (is_at (stored_cmp k)) old new → lookup (is_at (stored_cmp k)) new ≡ None → (q : Key) (b : Bool) → eq_by_cmp key_cmp q (key_of k) ≡ b → option_map (λ (v : Vec ℕ Global). v.items) (lookup (λ x. eq_by_cmp key_cmp q (key_of x)) new) ≡ cond b None (option_map (λ v. v.items) (lookup (λ x. eq_by_cmp key_cmp q (key_of x)) old))
unfolding KeepsOthers
gone_by k old new keeps none q true e =
    let same : q ≡ key_of k = tied q (key_of k) e in
    rw (same, none)
gone_by k old new keeps none q false e =
    ap (option_map (λ v. v.items)) (keeps (λ x. eq_by_cmp key_cmp q (key_of x))
    (λ x y t. rw (tied q (key_of x) t))
    (λ x t. ap (eq_by_cmp key_cmp q) (sym (tied (key_of k) (key_of x) t)) ∙ e))

-- a row that is removed
pub table_remove : (k : String Global × ℕ) (old new : Rows) → KeepsOthers (eq_by_cmp stored_cmp) (is_at (stored_cmp k)) old new → lookup (is_at (stored_cmp k)) new ≡ None → table_of new ≡ remove (table_of old) (key_of k)
table_remove k old new keeps none =
    same_map key_total key_exact _ _ (λ q.
    get_rows q new ∙ gone_by k old new keeps none q (eq_by_cmp key_cmp q (key_of k)) refl
    ∙ sym (get-remove key_total (table_of old) (key_of k) q ∙ ap (cond (eq_by_cmp key_cmp q (key_of k)) None) (get_rows q old)))

-- ---- all rows, in order

both : (a b : Bool) → T a → T b → T (a && b)
both true b p q = q
both false b p q = p

below_rows : (x : String Global × ℕ) (rows : Rows) → AllByRecursion (λ y. stored_cmp x y ≡ Less) (keys_of rows) → T (below_all key_cmp (key_of x) (map row_of rows))
below_rows x [] h = tt
below_rows x (e ∷ rows) h = both _ _ (subst (λ r. T (is_lt r)) (sym h.0) tt) (below_rows x rows h.1)

sorted_rows : (rows : Rows) → IsStrictlySortedBy stored_cmp (keys_of rows) → T (is_sorted key_cmp (map row_of rows))
unfolding IsStrictlySortedBy
sorted_rows [] h = tt
sorted_rows (e ∷ rows) h = both _ _ (below_rows e.0 rows h.0) (sorted_rows rows h.1)

pub entries_rows : (rows : Rows) → IsStrictlySortedBy stored_cmp (keys_of rows) → entries (table_of rows) ≡ map row_of rows
entries_rows rows h =
    let sorted = sorted_rows rows h in
    ap entries (same_map key_total key_exact (table_of rows) (from_sorted (map row_of rows)) (λ q.
    get-from_entries key_total (map row_of rows) q ∙ sym (get-from_sorted key_cmp (map row_of rows) q sorted)))
    ∙ entries-from_sorted key_cmp (map row_of rows) sorted
