-- What a loop over names visits.
use Rattle.std.proofs.Common.{◌≡◌, refl, sym, ap, subst, ◌∙◌, ℕ, zero, suc, ◌+◌, ◌<◌, Bool, true, false, not, ◌&&◌, ◌||◌, List, [], ◌∷◌, ◌++◌, length, drop, get_or, map, take, add-one, Option, Some, None, IfSome, bytes_eq, append_assoc, arith, if◌then◌else◌}
use Rattle.std.proofs.Math.Seq.{drop-cons}
use Rattle.std.proofs.lemmas.List.{append-nil, length-map}
use Rattle.std.proofs.lemmas.List.Folds.{list_any-append, list_any_more}
use Rattle.std.specs.Fmt.{decimal}
use Rattle.std.specs.List.{list_any}
use Rattle.std.specs.Map.{keys_of}
use Rattle.std.specs.Option.{ForSome}
use Rattle.std.proofs.Math.Bool.{or-false, or_assoc}
use Rattle.indexmap.specs.IndexSet.{insert_key}
use Rattle.js_values.specs.declared.ids.ObjId.{ObjId}
use Rattle.object_heap.specs.declared.property.Prop.{Prop}
use Rattle.object_heap.specs.Chain.{object_at}
use Rattle.object_heap.specs.Property.{Props}
use Rattle.page_meaning.specs.Loops.{Listed, listed_from, listed_own, listed_up, unit_names}
use Rattle.page_meaning.specs.Store.{Store}
use Rattle.page_state.specs.Listing.{AlsoSeen, is_seen_at}
use Rattle.page_state.proofs.Bindings.{any_inserted}

-- ---- the names of units

pub units_on : (names names' all : Listed) (us : List ℕ) (k : ℕ) (x : List ℕ) → k < length us → x ≡ decimal k → names' ≡ names ++ (None, x) ∷ []
    → names ++ unit_names k (drop k us) ≡ all → names' ++ unit_names (k + 1) (drop (k + 1) us) ≡ all
units_on names names' all us k x there is pushed h =
    rw (pushed, is, append_assoc, add-one) (ap (λ r. names ++ unit_names k r) (sym (drop-cons us k 0 there)) ∙ h)

-- ---- the own names of an object

-- one table says what the other says
pub own_same : (at : ObjId) (seen before : List (List ℕ)) (props : Props) → ((x : List ℕ) → list_any (bytes_eq x) seen ≡ list_any (bytes_eq x) before) → listed_own at seen props ≡ listed_own at before props
own_same at seen before [] same = refl
own_same at seen before (e ∷ es) same =
    rw (same e.0) (ap (λ r. if e.1.enumerable && not (list_any (bytes_eq e.0) before) then (Some at, e.0) ∷ r else r) (own_same at seen before es same))

-- the property at a place, where this is its name
own_at : (at : ObjId) (seen : List (List ℕ)) (props : Props) (k : ℕ) (x : List ℕ) → k < length props → x ≡ get_or (keys_of props) k x
    → listed_own at seen (drop k props) ≡ (if is_seen_at props k && not (list_any (bytes_eq x) seen) then (Some at, x) ∷ listed_own at seen (drop (suc k) props) else listed_own at seen (drop (suc k) props))
own_at at seen [] k x h e = absurd (omega arith)
own_at at seen (p ∷ ps) zero x h e = rw e refl
own_at at seen (p ∷ ps) (suc k) x h e = own_at at seen ps k x (omega arith) e

-- it is listed or not
pub own_next : (at : ObjId) (seen : List (List ℕ)) (props : Props) (k : ℕ) (keys : List (List ℕ)) (x : List ℕ) (names names' all : Listed) → keys ≡ keys_of props → k < length keys → x ≡ get_or keys k x
    → names' ≡ (if is_seen_at props k && not (list_any (bytes_eq x) seen) then names ++ (Some at, x) ∷ [] else names)
    → names ++ listed_own at seen (drop k props) ≡ all → names' ++ listed_own at seen (drop (k + 1) props) ≡ all
own_next at seen props k keys x names names' all own there is pushed h =
    by_case (is_seen_at props k && not (list_any (bytes_eq x) seen)) pushed (own_at at seen props k x (omega (arith, there, length-map props (λ (e : List ℕ × Prop). e.0), ap length own)) (is ∙ ap (λ ks. get_or ks k x) own))
  where
    by_case : (b : Bool) → names' ≡ (if b then names ++ (Some at, x) ∷ [] else names)
        → listed_own at seen (drop k props) ≡ (if b then (Some at, x) ∷ listed_own at seen (drop (suc k) props) else listed_own at seen (drop (suc k) props))
        → names' ++ listed_own at seen (drop (k + 1) props) ≡ all
    by_case true e f = rw (e, append_assoc, add-one) (ap (λ r. names ++ r) (sym f) ∙ h)
    by_case false e f = rw (e, add-one) (ap (λ r. names ++ r) (sym f) ∙ h)

-- one more of these names was seen
pub any_next : (x : List ℕ) (ks ks' first keys : List (List ℕ)) (i : ℕ) (k key : List ℕ) → list_any (bytes_eq x) ks ≡ (list_any (bytes_eq x) first || list_any (bytes_eq x) (take i keys))
    → i < length keys → key ≡ get_or keys i key → k ≡ key → ks' ≡ insert_key bytes_eq ks k
    → list_any (bytes_eq x) ks' ≡ (list_any (bytes_eq x) first || list_any (bytes_eq x) (take (i + 1) keys))
any_next x ks ks' first keys i k key before there is same put =
    let more : list_any (bytes_eq x) (take (i + 1) keys) ≡ (list_any (bytes_eq x) (take i keys) || bytes_eq x key) =
    list_any_more (bytes_eq x) keys i key there ∙ ap (λ q. list_any (bytes_eq x) (take i keys) || bytes_eq x q) (sym is) in
    ap (list_any (bytes_eq x)) put ∙ any_inserted ks k x ∙ ap (λ q. list_any (bytes_eq x) ks || bytes_eq x q) same ∙ ap (λ b. b || bytes_eq x key) before
    ∙ or_assoc (list_any (bytes_eq x) first) (list_any (bytes_eq x) (take i keys)) (bytes_eq x key) ∙ ap (λ b. list_any (bytes_eq x) first || b) (sym more)

-- the names of these were seen
pub named : (names : Listed) (k : ℕ) (p : Option ObjId × List ℕ) → p ≡ get_or names k p → p.1 ≡ get_or (map (λ q. q.1) names) k p.1
named [] k p e = refl
named (q ∷ qs) zero p e = ap (λ r. r.1) e
named (q ∷ qs) (suc k) p e = named qs k p e

pub many_named : (names : Listed) (k : ℕ) → k < length names → k < length (map (λ q. q.1) names)
many_named names k h = omega (arith, h, length-map names (λ (q : Option ObjId × List ℕ). q.1))

-- and the name before them
pub units_seen : (names us : Listed) (x : List ℕ) (start keys : List (List ℕ)) → start ≡ x ∷ [] → names ≡ us → AlsoSeen start (map (λ q. q.1) names) keys → AlsoSeen [] (x ∷ map (λ q. q.1) us) keys
units_seen names us x start keys e f h y =
    h y ∙ ap (λ ks. list_any (bytes_eq y) ks || list_any (bytes_eq y) (map (λ q. q.1) names)) e
    ∙ ap (λ b. b || list_any (bytes_eq y) (map (λ q. q.1) names)) (or-false (bytes_eq y x)) ∙ ap (λ ns. bytes_eq y x || list_any (bytes_eq y) (map (λ q. q.1) ns)) f

-- ---- up the chain

-- what was listed so far, with what is listed from here up, comes to all
pub record Walk (s : Store) (all : Listed) (seen : List (List ℕ)) (names : Listed) (next : Option ObjId) : Type 0 where
  pub fuel : ℕ
  pub enough : ForSome next (λ at. at.0 < fuel)
  pub before : List (List ℕ)
  pub same : (x : List ℕ) → list_any (bytes_eq x) seen ≡ list_any (bytes_eq x) before
  pub whole : names ++ listed_from s.heap.objects fuel before next ≡ all

pub walk_begins : (s : Store) (from : ObjId) (seen before : List (List ℕ)) (names : Listed) → AlsoSeen [] before seen → Walk s (names ++ listed_up s before (Some from)) seen names (Some from)
walk_begins s from seen before names seen_before = record {
  fuel = suc from.0;
  enough = λ at g. (let same : from ≡ at = cc in omega (arith, ap (λ (o : ObjId). o.0) same));
  before = before;
  same = seen_before;
  whole = refl;
}

for_some : {A : Type 0} (P : A → Type 0) (o : Option A) → IfSome o P → ForSome o P
for_some P None h = λ a e. cc
for_some P (Some x) h = λ a e. (let same : x ≡ a = cc in subst P same h)

-- prototypes are older
abbrev pub above : Option ObjId → ℕ
above None = 0
above (Some at) = suc at.0

pub above_falls : (at : ObjId) (next up : Option ObjId) → next ≡ Some at → IfSome up (λ p. p.0 < at.0) → above up < above next
above_falls at next None is h = rw is (omega arith)
above_falls at next (Some p) is h = rw is (omega (arith, h))

pub walk_on : (s : Store) (all : Listed) (seen seen' keys : List (List ℕ)) (names names' : Listed) (here : Option ObjId) (at : ObjId) (next : Option ObjId) → Walk s all seen names here → here ≡ Some at
    → keys ≡ keys_of (object_at s.heap.objects at.0).props → names' ≡ names ++ listed_own at seen (object_at s.heap.objects at.0).props
    → ((x : List ℕ) → list_any (bytes_eq x) seen' ≡ (list_any (bytes_eq x) seen || list_any (bytes_eq x) keys))
    → next ≡ (object_at s.heap.objects at.0).proto → IfSome next (λ p. p.0 < at.0) → Walk s all seen' names' next
walk_on s all seen seen' keys names names' here at next w is own pushed put up older =
    by_fuel w.fuel (w.enough at is) (ap (λ h. names ++ listed_from s.heap.objects w.fuel w.before h) (sym is) ∙ w.whole)
  where
    by_fuel : (n : ℕ) → at.0 < n → names ++ listed_from s.heap.objects n w.before (Some at) ≡ all → Walk s all seen' names' next
    by_fuel zero h e = absurd (omega arith)
    by_fuel (suc n) h e =
        let props = (object_at s.heap.objects at.0).props in
        let after = w.before ++ keys_of props in
        record {
          fuel = n;
          enough = λ p there. (let o : p.0 < at.0 = for_some (λ q. q.0 < at.0) next older p there in omega arith);
          before = after;
          same = λ x. put x ∙ ap (λ ks. list_any (bytes_eq x) seen || list_any (bytes_eq x) ks) own ∙ ap (λ b. b || list_any (bytes_eq x) (keys_of props)) (w.same x) ∙ sym (list_any-append (bytes_eq x) w.before (keys_of props));
          whole =
              ap (λ r. r ++ listed_from s.heap.objects n after next) (pushed ∙ ap (λ r. names ++ r) (own_same at seen w.before props w.same))
              ∙ append_assoc names (listed_own at w.before props) (listed_from s.heap.objects n after next)
              ∙ ap (λ p. names ++ (listed_own at w.before props ++ listed_from s.heap.objects n after p)) up ∙ e;
        }

pub walk_ends : (s : Store) (all : Listed) (seen : List (List ℕ)) (names : Listed) (here : Option ObjId) → Walk s all seen names here → here ≡ None → names ≡ all
walk_ends s all seen names here w is =
    sym (append-nil names) ∙ ap (λ r. names ++ r) (sym (none_from w.fuel)) ∙ ap (λ h. names ++ listed_from s.heap.objects w.fuel w.before h) (sym is) ∙ w.whole
  where
    none_from : (n : ℕ) → listed_from s.heap.objects n w.before None ≡ []
    none_from zero = refl
    none_from (suc n) = refl
