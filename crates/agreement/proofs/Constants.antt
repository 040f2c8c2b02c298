-- What the scopes and functions of the left keep, whatever is done.
use Rattle.std.proofs.Common.{◌≡◌, ◌⊎◌, inl, inr, refl, sym, ap, subst, ◌∙◌, ℕ, suc, ◌+◌, add-one, ◌<◌, ◌≤◌, Bool, true, false, nat_lt, List, [], ◌∷◌, ◌++◌, Option, Some, None, length, length-append, length-set, bytes_eq, arith, if◌then◌else◌}
use Rattle.std.specs.Option.{ForSome}
use Rattle.std.specs.Prelude.{IsTrue}
use Rattle.std.proofs.lemmas.Bool.{cases_eq}
use Rattle.std.proofs.lemmas.Slice.Eq.{bytes_eq-Decides}
use Rattle.code_table.specs.Declarations.{name_of}
use Rattle.js_core.specs.Tree.{Code}
use Rattle.js_values.specs.declared.ids.EnvId.{EnvId}
use Rattle.js_values.specs.declared.value.Value.{Value}
use Rattle.object_heap.proofs.Callers.{environment_before, environment_last, environment_set_other, environment_set_same, inside_same, object_before, object_last, value_set, value_set_other}
use Rattle.object_heap.specs.Chain.{can_put, object_at}
use Rattle.object_heap.specs.Define.{define_own as define_in, delete_own, prevented, put_own}
use Rattle.object_heap.specs.Environment.{Bound, Environment, environment_at, new_environment, value_of, with_bound}
use Rattle.object_heap.specs.Heap.{Contents, define_own, delete, made, opened, prevent_extensions, put, set}
use Rattle.object_heap.specs.Laws.{IsSameKind, after_steps}
use Rattle.object_heap.specs.Object.{Object, class_at, is_event, no_object, settled}
use Rattle.object_heap.specs.declared.object.Class.{Class}
use Rattle.object_heap.specs.declared.object.Class.TheVariants as class
use Rattle.object_heap.specs.declared.property.Change.{Change}
use Rattle.object_shapes.specs.Links.{all_below, value_links}
use Rattle.page_meaning.specs.Functions as meaning
use Rattle.page_meaning.specs.Functions.{function_steps}
use Rattle.page_meaning.specs.Store.{Store, with_heap}
use Rattle.heap_relations.proofs.Callers as heap
use Rattle.heap_relations.specs.Naming.{Agree, Constant, In, Larger, Named, Pair, Reaches, Slot, World, here, pair, there, with_done, with_object, with_slot}
use Rattle.agreement.specs.Acts.{AreKept, HasSet, IsKept, IsOlder, IsOwn, IsPlaced, IsReady, IsSet, outermost, outermost_older, rebuilt, rebuilt_older, scope, scope_older}

-- ---- larger namings

module _ {V W : World} (l : Larger V W) where
  pub set_up : (z : Slot) → IsSet V z → IsSet W z
  set_up z h = λ x p. l.done z.one (h x p)

  pub ready_up : {e : Option EnvId} → IsReady V e → IsReady W e
  ready_up outermost = outermost
  ready_up (scope z i h) = scope z (l.slots z i) (set_up z h)
  ready_up (rebuilt b i) = rebuilt b (subst (In b) l.bases i)

  pub older_up : {k : ℕ} {name : Option (List ℕ)} {e : Option EnvId} → IsOlder V k name e → IsOlder W k name e
  older_up outermost_older = outermost_older
  older_up (scope_older z i h born own) = scope_older z (l.slots z i) (set_up z h) born own
  older_up (rebuilt_older b i) = rebuilt_older b (subst (In b) l.bases i)

  pub placed_up : (k : ℕ) (c : Class) → IsPlaced V k c → IsPlaced W k c
  placed_up k (class.Page c env) h = older_up h
  placed_up k c h = tt

pub ready_of : {W : World} {k : ℕ} {name : Option (List ℕ)} {e : Option EnvId} → IsOlder W k name e → IsReady W e
ready_of outermost_older = outermost
ready_of (scope_older z i h born own) = scope z i h
ready_of (rebuilt_older b i) = rebuilt b i

no_name : (k : ℕ) (z : Slot) → IsOwn k None z
no_name k z x e = absurd (cc e)

-- a younger place
pub older_later : {W : World} {k : ℕ} {e : Option EnvId} → IsOlder W k None e → IsOlder W (suc k) None e
older_later outermost_older = outermost_older
older_later {k = k} (scope_older z i h born own) = scope_older z i h (omega (arith, born)) (no_name (suc k) z)
older_later (rebuilt_older b i) = rebuilt_older b i

-- ---- what is done to one object changes no environment, and leaves all there

module _ (h : Contents) (j : ℕ) where
  pub put_rest : (x : List ℕ) (v : Value) → ((put h j x v).after.environments ≡ h.environments) × (length h.objects ≤ length (put h j x v).after.objects)
  unfolding put
  put_rest x v = (refl, omega (arith, length-set h.objects j (put_own (can_put h.objects j x) (object_at h.objects j) x v).after))

  pub define_rest : (x : List ℕ) (c : Change) → ((define_own h j x c).after.environments ≡ h.environments) × (length h.objects ≤ length (define_own h j x c).after.objects)
  unfolding define_own
  define_rest x c = (refl, omega (arith, length-set h.objects j (define_in (object_at h.objects j) x c).after))

  pub delete_rest : (x : List ℕ) → ((delete h j x).after.environments ≡ h.environments) × (length h.objects ≤ length (delete h j x).after.objects)
  unfolding delete
  delete_rest x = (refl, omega (arith, length-set h.objects j (delete_own (object_at h.objects j) x).after))

  pub prevent_rest : ((prevent_extensions h j).after.environments ≡ h.environments) × (length h.objects ≤ length (prevent_extensions h j).after.objects)
  unfolding prevent_extensions
  prevent_rest = (refl, omega (arith, length-set h.objects j (prevented (object_at h.objects j)).after))

-- ---- objects that are no functions of the page

abbrev pub is_page : Class → Bool
is_page (class.Page c env) = true
is_page c = false

event_placed : (W : World) (k : ℕ) (d : Class) → IsTrue (is_event d) → IsPlaced W k d
event_placed W k (class.Page c env) e = absurd (cc e)
event_placed W k d e = tt

-- an object of the same kind
pub placed_kind : (W : World) (k : ℕ) (d c : Class) → IsSameKind d c → IsPlaced W k c → IsPlaced W k d
placed_kind W k d c (inl e) placed = subst (IsPlaced W k) (sym e) placed
placed_kind W k d c (inr e) placed = event_placed W k d e.0

pub placed_other : (W : World) (k : ℕ) (c : Class) → is_page c ≡ false → IsPlaced W k c
placed_other W k (class.Page c env) e = absurd (cc e)
placed_other W k c e = tt

settled_other : (k : ℕ) (c : Class) → is_page c ≡ false → is_page (class_at k c) ≡ false
settled_other k (class.Bound t this args) e = by_case (nat_lt t.0 k)
  where
    by_case : (b : Bool) → is_page (if b then class.Bound t this args else class.Plain) ≡ false
    by_case true = refl
    by_case false = refl
settled_other k c e = e

-- ---- functions of the page are made

module _ (h : Contents) (c : Code) (env : Option EnvId) where
  abbrev made_two : Contents
  made_two = after_steps h (function_steps c env (length h.objects))

  abbrev made_one : Object
  made_one = settled (length h.objects) (meaning.function_object c env (length h.objects + 1))

  abbrev made_next : Object
  made_next = settled (length (h.objects ++ made_one ∷ [])) (meaning.prototype_object (length h.objects))

  next_long : length (h.objects ++ made_one ∷ []) ≡ suc (length h.objects)
  next_long = length-append h.objects (made_one ∷ []) ∙ add-one (length h.objects)

  pub old_object : (j : ℕ) → j < length h.objects → object_at made_two.objects j ≡ object_at h.objects j
  old_object j less = object_before (h.objects ++ made_one ∷ []) made_next j (omega (arith, next_long, less)) ∙ object_before h.objects made_one j less

  pub function_made_class : (object_at made_two.objects (length h.objects)).class ≡ class.Page c env
  function_made_class =
      ap (λ (o : Object). o.class) (object_before (h.objects ++ made_one ∷ []) made_next (length h.objects) (omega (arith, next_long)))
      ∙ ap (λ (o : Object). o.class) (object_last h.objects made_one)

  pub prototype_made_class : (object_at made_two.objects (suc (length h.objects))).class ≡ class.Plain
  prototype_made_class = ap (λ i. (object_at made_two.objects i).class) (sym next_long) ∙ ap (λ (o : Object). o.class) (object_last (h.objects ++ made_one ∷ []) made_next)

  made_long : suc (length h.objects) < length made_two.objects
  made_long = omega (arith, next_long, length-append (h.objects ++ made_one ∷ []) (made_next ∷ []))

  -- the objects that were there are as they were, and the function is there
  pub objects_reach : Reaches no_object h.objects made_two.objects × (length h.objects < length made_two.objects)
  objects_reach = (record { longer = omega (arith, made_long); at = old_object }, omega (arith, made_long))

-- ---- what is there is older than what is made next

module _ {W : World} {s : Store} (k : AreKept W s) where
  pub older_now : {e : Option EnvId} → IsReady W e → IsOlder W (length s.heap.objects) None e
  older_now outermost = outermost_older
  older_now (scope z i h) = scope_older z i h ((k.scopes z i).there h) (no_name (length s.heap.objects) z)
  older_now (rebuilt b i) = rebuilt_older b i

  -- the next environment is not among those that are done
  pub not_done : In (length s.heap.environments) W.done → ⊥
  not_done i = let n = k.done (length s.heap.environments) i in omega (arith, n)

  -- ---- environments are as they were, and objects keep their classes

  scope_same : {t : Store} (z : Slot) → t.heap.environments ≡ s.heap.environments → length s.heap.objects ≤ length t.heap.objects → IsKept W s z → IsKept W t z
  scope_same z e longer h = record {
    round = subst (λ es. IsOlder W z.born None (environment_at es z.one).outer) (sym e) h.round;
    older = h.older;
    held = λ x p c. subst (λ es. value_of (environment_at es z.one).names x ≡ Some (z.known x)) (sym e) (h.held x p c);
    there = λ p. let n = h.there p in omega (arith, n, longer);
  }

  pub kept_same : {t : Store} → t.heap.environments ≡ s.heap.environments → length s.heap.objects ≤ length t.heap.objects
      → ((j m : ℕ) → Named W j m → IsSameKind (object_at t.heap.objects j).class (object_at s.heap.objects j).class) → AreKept W t
  kept_same {t = t} e longer same = record {
    scopes = λ z i. scope_same z e longer (k.scopes z i);
    functions = λ j m n. placed_kind W j (object_at t.heap.objects j).class (object_at s.heap.objects j).class (same j m n) (k.functions j m n);
    done = λ j i. subst (λ es. j < length es) (sym e) (k.done j i);
  }

  -- ---- larger namings with the same scopes, of which the same are set

  scope_up : {V : World} (z : Slot) → Larger W V → ((x : List ℕ) → HasSet V z x → HasSet W z x) → IsKept W s z → IsKept V s z
  scope_up z l back h = record {
    round = older_up l h.round;
    older = h.older;
    held = λ x p c. h.held x (back x p) c;
    there = λ p. h.there (λ x. back x (p x));
  }

  -- ---- a name takes a value

  module _ {g : Contents} (r : Agree W s.heap g) (z : Slot) (i : In z W.slots) (x : List ℕ) (v : Value) (is : z.frame.keeps x ≡ Constant → v ≡ z.known x) where
    there_set : z.one < length s.heap.environments
    there_set = (r.slots.inside z i).0

    set_objects : (set s.heap z.one x v).objects ≡ s.heap.objects
    unfolding set
    set_objects = refl

    set_length : length (set s.heap z.one x v).environments ≡ length s.heap.environments
    unfolding set
    set_length = length-set s.heap.environments z.one (with_bound (environment_at s.heap.environments z.one) x v)

    now : environment_at (set s.heap z.one x v).environments z.one ≡ with_bound (environment_at s.heap.environments z.one) x v
    now = environment_set_same s.heap z.one x v there_set

    name_held : (y : List ℕ) → z.frame.keeps y ≡ Constant → value_of (environment_at s.heap.environments z.one).names y ≡ Some (z.known y)
        → value_of (with_bound (environment_at s.heap.environments z.one) x v).names y ≡ Some (z.known y)
    name_held y c h = by_case (bytes_eq y x) refl
      where
        by_case : (b : Bool) → bytes_eq y x ≡ b → value_of (with_bound (environment_at s.heap.environments z.one) x v).names y ≡ Some (z.known y)
        by_case true e =
            let same : y ≡ x = (bytes_eq-Decides y x).0 e in
            let known : v ≡ z.known y = is (subst (λ w. z.frame.keeps w ≡ Constant) same c) ∙ ap z.known (sym same) in
            ap (value_of (with_bound (environment_at s.heap.environments z.one) x v).names) same
            ∙ value_set (environment_at s.heap.environments z.one).names x (z.known y) v (subst (λ w. value_of (environment_at s.heap.environments z.one).names w ≡ Some (z.known y)) same h)
            ∙ ap Some known
        by_case false e = value_set_other (environment_at s.heap.environments z.one).names x y v e ∙ h

    scope_set : (y : Slot) → In y W.slots → IsKept W (with_heap s (set s.heap z.one x v)) y
    scope_set y j = by_case (cases_eq y.one z.one)
      where
        old : IsKept W s y
        old = k.scopes y j

        here_set : IsKept W (with_heap s (set s.heap z.one x v)) z
        here_set =
            let h = k.scopes z i in
            record {
              round = subst (λ (e : Environment). IsOlder W z.born None e.outer) (sym now) h.round;
              older = h.older;
              held = λ w p c. ap (λ (e : Environment). value_of e.names w) now ∙ name_held w c (h.held w p c);
              there = λ p. let n = h.there p in omega (arith, n, ap length set_objects);
            }

        by_case : (y.one ≡ z.one) ⊎ (y.one ≡ z.one → ⊥) → IsKept W (with_heap s (set s.heap z.one x v)) y
        by_case (inl e) = subst (λ (w : Slot). IsKept W (with_heap s (set s.heap z.one x v)) w) (sym (r.slots.one_slot y z j i e)) here_set
        by_case (inr far) =
            let same = environment_set_other s.heap z.one y.one x v far in
            record {
              round = subst (λ (e : Environment). IsOlder W y.born None e.outer) (sym same) old.round;
              older = old.older;
              held = λ w p c. ap (λ (e : Environment). value_of e.names w) same ∙ old.held w p c;
              there = λ p. let n = old.there p in omega (arith, n, ap length set_objects);
            }

    pub kept_set : AreKept W (with_heap s (set s.heap z.one x v))
    kept_set = record {
      scopes = scope_set;
      functions = λ j m n. subst (λ os. IsPlaced W j (object_at os j).class) (sym set_objects) (k.functions j m n);
      done = λ j i. let n = k.done j i in omega (arith, n, set_length);
    }

  -- ---- an environment is opened

  module _ {g : Contents} (r : Agree W s.heap g) (z : Slot) (outer : Option EnvId) (names : Bound) (last : z.one ≡ length s.heap.environments)
      (inside : ForSome outer (λ e. e.0 < length s.heap.environments)) (round : IsOlder W z.born None outer)
      (older : (x : List ℕ) → z.frame.keeps x ≡ Constant → all_below z.born (value_links (z.known x)) ≡ true)
      (held : (x : List ℕ) → (z.pending ≡ Some x → ⊥) → z.frame.keeps x ≡ Constant → value_of names x ≡ Some (z.known x))
      (born : (z.pending ≡ None) → z.born ≤ length s.heap.objects) (fresh : In z.one W.done → ⊥) where
    up : Larger W (with_slot W z)
    up = heap.larger_slot z

    as_new : opened s.heap outer names ≡ record { objects = s.heap.objects; environments = s.heap.environments ++ new_environment outer names ∷ [] }
    as_new = ap (λ o. record { objects = s.heap.objects; environments = s.heap.environments ++ new_environment o names ∷ [] }) (inside_same (length s.heap.environments) outer inside)

    at_new : environment_at (opened s.heap outer names).environments z.one ≡ new_environment outer names
    at_new = (λ j. environment_at (as_new j).environments (last j)) ∙ environment_last s.heap.environments (new_environment outer names)

    not_pending : (x : List ℕ) → HasSet (with_slot W z) z x → z.pending ≡ Some x → ⊥
    not_pending x p e = fresh (p e)

    none_pending : IsSet (with_slot W z) z → z.pending ≡ None
    none_pending p = by_case z.pending refl
      where
        by_case : (o : Option (List ℕ)) → z.pending ≡ o → o ≡ None
        by_case None e = refl
        by_case (Some x) e = absurd (not_pending x (p x) e)

    pub kept_opened : AreKept (with_slot W z) (with_heap s (opened s.heap outer names))
    kept_opened = record { scopes = scopes; functions = λ j m n. subst (λ os. IsPlaced (with_slot W z) j (object_at os j).class) (sym (ap (λ (h : Contents). h.objects) as_new)) (placed_up up j _ (k.functions j m (record { named = n.named }))); done = λ j i. let n = k.done j i in omega (arith, n, ap (λ (h : Contents). length h.environments) as_new, length-append s.heap.environments (new_environment outer names ∷ [])) }
      where
        new : IsKept (with_slot W z) (with_heap s (opened s.heap outer names)) z
        new = record {
          round = subst (λ (e : Environment). IsOlder (with_slot W z) z.born None e.outer) (sym at_new) (older_up up round);
          older = older;
          held = λ x p c. ap (λ (e : Environment). value_of e.names x) at_new ∙ held x (not_pending x p) c;
          there = λ p. let n = born (none_pending p) in omega (arith, n, ap (λ (h : Contents). length h.objects) as_new);
        }

        before : (y : Slot) → In y W.slots → IsKept (with_slot W z) (with_heap s (opened s.heap outer names)) y
        before y j =
            let h = k.scopes y j in
            let same : environment_at (opened s.heap outer names).environments y.one ≡ environment_at s.heap.environments y.one =
            ap (λ (w : Contents). environment_at w.environments y.one) as_new ∙ environment_before s.heap.environments (new_environment outer names) y.one (r.slots.inside y j).0
            in
            record {
              round = subst (λ (e : Environment). IsOlder (with_slot W z) y.born None e.outer) (sym same) (older_up up h.round);
              older = h.older;
              held = λ x p c. ap (λ (e : Environment). value_of e.names x) same ∙ h.held x p c;
              there = λ p. let n = h.there p in omega (arith, n, ap (λ (w : Contents). length w.objects) as_new);
            }

        scopes : (y : Slot) → In y (with_slot W z).slots → IsKept (with_slot W z) (with_heap s (opened s.heap outer names)) y
        scopes _ here = new
        scopes y (there j) = before y j

  -- ---- a constant is set

  module _ (z : Slot) (i : In z W.slots) (one : (y : Slot) → In y W.slots → y.one ≡ z.one → y ≡ z)
      (held : (x : List ℕ) → z.frame.keeps x ≡ Constant → value_of (environment_at s.heap.environments z.one).names x ≡ Some (z.known x)) (born : z.born ≤ length s.heap.objects) (there_one : z.one < length s.heap.environments) where
    pub kept_done : AreKept (with_done W z.one) s
    kept_done = record { scopes = scopes; functions = λ j m n. placed_up (heap.larger_done z.one) j _ (k.functions j m (record { named = n.named })); done = all_done }
      where
        all_done : (j : ℕ) → In j (z.one ∷ W.done) → j < length s.heap.environments
        all_done _ here = there_one
        all_done j (there i) = k.done j i

        here_done : IsKept (with_done W z.one) s z
        here_done = let h = k.scopes z i in record { round = older_up (heap.larger_done z.one) h.round; older = h.older; held = λ x p c. held x c; there = λ p. born }

        before : (y : Slot) → (y.one ≡ z.one → ⊥) → (x : List ℕ) → HasSet (with_done W z.one) y x → HasSet W y x
        before y far x p q = by (p q)
          where
            by : In y.one (z.one ∷ W.done) → In y.one W.done
            by m = inner m refl
              where
                inner : {a : ℕ} → In a (z.one ∷ W.done) → a ≡ y.one → In y.one W.done
                inner here e = absurd (far (sym e))
                inner (there j) e = subst (λ b. In b W.done) e j

        scopes : (y : Slot) → In y W.slots → IsKept (with_done W z.one) s y
        scopes y j = by_case (cases_eq y.one z.one)
          where
            by_case : (y.one ≡ z.one) ⊎ (y.one ≡ z.one → ⊥) → IsKept (with_done W z.one) s y
            by_case (inl e) = subst (IsKept (with_done W z.one) s) (sym (one y j e)) here_done
            by_case (inr far) = scope_up y (heap.larger_done z.one) (before y far) (k.scopes y j)

  -- ---- objects are made

  -- a pair of places joins, in a page with the same environments
  pub kept_made : (a b : ℕ) {t : Store} → t.heap.environments ≡ s.heap.environments → length s.heap.objects ≤ length t.heap.objects
      → ((j m : ℕ) → Named W j m → (object_at t.heap.objects j).class ≡ (object_at s.heap.objects j).class) → IsPlaced (with_object W a b) a (object_at t.heap.objects a).class
      → AreKept (with_object W a b) t
  kept_made a b {t = t} e longer same placed = record {
    scopes = λ z i. scope_more z (scope_same z e longer (k.scopes z i));
    functions = λ j m n. by n.named refl;
    done = λ j i. subst (λ es. j < length es) (sym e) (k.done j i);
  }
    where
      scope_more : (z : Slot) → IsKept W t z → IsKept (with_object W a b) t z
      scope_more z h = record { round = older_up (heap.larger_object a b) h.round; older = h.older; held = h.held; there = h.there }

      by : {j m : ℕ} {p : Pair} → In p (pair a b ∷ W.objects) → p ≡ pair j m → IsPlaced (with_object W a b) j (object_at t.heap.objects j).class
      by here e = subst (λ c. IsPlaced (with_object W a b) c (object_at t.heap.objects c).class) (ap (λ (q : Pair). q.one) e) placed
      by {j = j} {m = m} (there i) e =
          let n : Named W j m = record { named = subst (λ q. In q W.objects) e i } in
          subst (IsPlaced (with_object W a b) j) (sym (same j m n)) (placed_up (heap.larger_object a b) j _ (k.functions j m n))

  -- an object that is no function of the page
  pub kept_other : (b : ℕ) (o : Object) → is_page o.class ≡ false → ((j m : ℕ) → Named W j m → j < length s.heap.objects) → AreKept (with_object W (length s.heap.objects) b) (with_heap s (made s.heap o))
  kept_other b o other inside =
      let a = length s.heap.objects in
      let p = settled a o in
      kept_made a b {t = with_heap s (made s.heap o)} refl (omega (arith, length-append s.heap.objects (p ∷ [])))
      (λ j m n. ap (λ (i : Object). i.class) (object_before s.heap.objects p j (inside j m n)))
      (subst (λ (i : Object). IsPlaced (with_object W a b) a i.class) (sym (object_last s.heap.objects p)) (placed_other (with_object W a b) a (class_at a o.class) (settled_other a o.class other)))

  -- a function of the page and its prototype
  pub kept_function : (b : ℕ) (c : Code) (env : Option EnvId) → ((j m : ℕ) → Named W j m → j < length s.heap.objects) → IsOlder W (length s.heap.objects) (name_of c) env
      → AreKept (with_object (with_object W (length s.heap.objects) b) (suc (length s.heap.objects)) (suc b)) (with_heap s (after_steps s.heap (function_steps c env (length s.heap.objects))))
  kept_function b c env inside older = record {
    scopes = λ z i. two_more z (scope_same z refl (objects_reach s.heap c env).0.longer (k.scopes z i));
    functions = λ j m n. by n.named refl;
    done = k.done;
  }
    where
      a : ℕ
      a = length s.heap.objects

      grown : World
      grown = with_object (with_object W a b) (suc a) (suc b)

      t : Store
      t = with_heap s (after_steps s.heap (function_steps c env a))

      up : Larger W grown
      up = heap.larger_function a b

      two_more : (z : Slot) → IsKept W t z → IsKept grown t z
      two_more z h = record { round = older_up up h.round; older = h.older; held = h.held; there = h.there }

      by : {j m : ℕ} {q : Pair} → In q (pair (suc a) (suc b) ∷ pair a b ∷ W.objects) → q ≡ pair j m → IsPlaced grown j (object_at t.heap.objects j).class
      by here e = subst (λ i. IsPlaced grown i (object_at t.heap.objects i).class) (ap (λ (x : Pair). x.one) e) (subst (IsPlaced grown (suc a)) (sym (prototype_made_class s.heap c env)) tt)
      by (there here) e = subst (λ i. IsPlaced grown i (object_at t.heap.objects i).class) (ap (λ (x : Pair). x.one) e) (subst (IsPlaced grown a) (sym (function_made_class s.heap c env)) (older_up up older))
      by {j = j} {m = m} (there (there i)) e =
          let n : Named W j m = record { named = subst (λ x. In x W.objects) e i } in
          subst (IsPlaced grown j) (ap (λ (o : Object). o.class) (sym (old_object s.heap c env j (inside j m n)))) (placed_up up j _ (k.functions j m n))

  -- one to which nothing refers
  pub kept_beside : (c : Code) (env : Option EnvId) → ((j m : ℕ) → Named W j m → j < length s.heap.objects) → AreKept W (with_heap s (after_steps s.heap (function_steps c env (length s.heap.objects))))
  kept_beside c env inside = kept_same {t = with_heap s (after_steps s.heap (function_steps c env (length s.heap.objects)))} refl (objects_reach s.heap c env).0.longer
      (λ j m n. inl (ap (λ (o : Object). o.class) (old_object s.heap c env j (inside j m n))))
