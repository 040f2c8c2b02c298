-- Environments refer to what is there; and the lines that were put out do not count.
use Rattle.std.proofs.Common.{◌≡◌, ◌⊎◌, inl, inr, refl, sym, ap, subst, ◌∙◌, ℕ, ◌<◌, ◌≤◌, true, List, [], ◌∷◌, ◌++◌, Option, length, length-append, bytes_eq, arith}
use Rattle.std.proofs.lemmas.Bool.{cases_eq, cases_lt, cases_order}
use Rattle.js_values.specs.declared.ids.EnvId.{EnvId}
use Rattle.js_values.specs.declared.line.Line.{Line}
use Rattle.js_values.specs.declared.value.Value.{Value}
use Rattle.object_heap.proofs.Callers.{environment_absent, environment_before, environment_last, environment_set_other, environment_set_same, set_absent}
use Rattle.object_heap.specs.Chain.{object_at}
use Rattle.object_heap.specs.Environment.{Bound, Environment, environment_at, inside, new_environment, with_bound}
use Rattle.object_heap.specs.Heap.{opened, set}
use Rattle.page_meaning.specs.Places.{built_in_count}
use Rattle.page_meaning.specs.Store.{Store, with_heap, with_lines}
use Rattle.object_shapes.specs.Links.{all_below, bound_links}
use Rattle.object_shapes.specs.Shapes.{HasShape, IsShaped}
use Rattle.object_shapes.proofs.Held.{held_of, props_same, shape_kept, shaped_of}
use Rattle.object_shapes.proofs.Lists.{Small, bound_set}
use Rattle.object_shapes.proofs.Steps.{environments_held}

-- ---- an environment more

opened_names : (n : ℕ) (es : List Environment) (e : Environment) → ((k : ℕ) → all_below n (bound_links (environment_at es k).names) ≡ true)
    → all_below n (bound_links e.names) ≡ true
    → (k : ℕ) → all_below n (bound_links (environment_at (es ++ e ∷ []) k).names) ≡ true
opened_names n es e all one k = by_case (cases_order k (length es))
  where
    by_case : (k ≡ length es) ⊎ ((k < length es) ⊎ (length es < k)) → all_below n (bound_links (environment_at (es ++ e ∷ []) k).names) ≡ true
    by_case (inl here) = subst (λ (x : Environment). all_below n (bound_links x.names) ≡ true)
        (sym (ap (environment_at (es ++ e ∷ [])) here ∙ environment_last es e)) one
    by_case (inr (inl before)) = subst (λ (x : Environment). all_below n (bound_links x.names) ≡ true) (sym (environment_before es e k before))
        (all k)
    by_case (inr (inr past)) =
        let long : length (es ++ e ∷ []) ≤ k = omega (arith, length-append es (e ∷ [])) in
        subst (λ (x : Environment). all_below n (bound_links x.names) ≡ true) (sym (environment_absent (es ++ e ∷ []) k long)) refl

pub opened_shaped : (s : Store) (outer : Option EnvId) (names : Bound) → IsShaped s → all_below (length s.heap.objects) (bound_links names) ≡ true
    → IsShaped (with_heap s (opened s.heap outer names))
opened_shaped s outer names h small =
    let n = length s.heap.objects in
    let e = new_environment (inside (length s.heap.environments) outer) names in
    shaped_of n (with_heap s (opened s.heap outer names))
    (environments_held n s (s.heap.environments ++ e ∷ []) (held_of s h) (opened_names n s.heap.environments e h.bound_there small)) refl

-- ---- a name takes a value

module _ (s : Store) (h : IsShaped s) (k : ℕ) (name : List ℕ) (v : Value) (small : Small (length s.heap.objects) v) where
  set_names : k < length s.heap.environments → (e : ℕ)
      → all_below (length s.heap.objects) (bound_links (environment_at (set s.heap k name v).environments e).names) ≡ true
  set_names there e = by_case (cases_eq e k)
    where
      by_case : (e ≡ k) ⊎ (e ≡ k → ⊥)
          → all_below (length s.heap.objects) (bound_links (environment_at (set s.heap k name v).environments e).names) ≡ true
      by_case (inl here) =
          let same : environment_at (set s.heap k name v).environments e ≡ with_bound (environment_at s.heap.environments k) name v =
          ap (environment_at (set s.heap k name v).environments) here ∙ environment_set_same s.heap k name v there
          in
          subst (λ (x : Environment). all_below (length s.heap.objects) (bound_links x.names) ≡ true) (sym same)
          (bound_set (length s.heap.objects) (bytes_eq name) (environment_at s.heap.environments k).names v (h.bound_there k) small)
      by_case (inr other) = subst (λ (x : Environment). all_below (length s.heap.objects) (bound_links x.names) ≡ true)
          (sym (environment_set_other s.heap k e name v other)) (h.bound_there e)

  set_there : k < length s.heap.environments → IsShaped (with_heap s (set s.heap k name v))
  unfolding set
  set_there there =
      shaped_of (length s.heap.objects) (with_heap s (set s.heap k name v))
      (environments_held (length s.heap.objects) s (set s.heap k name v).environments (held_of s h) (set_names there)) refl

  pub set_shaped : IsShaped (with_heap s (set s.heap k name v))
  set_shaped = by_case (cases_lt k (length s.heap.environments))
    where
      by_case : (k < length s.heap.environments) ⊎ (length s.heap.environments ≤ k) → IsShaped (with_heap s (set s.heap k name v))
      by_case (inl there) = set_there there
      by_case (inr past) = subst (λ g. IsShaped (with_heap s g)) (sym (set_absent s.heap k name v past)) h

-- ---- lines do not count

pub lines_shaped : (s : Store) (lines : List Line) → IsShaped s → IsShaped (with_lines s lines)
lines_shaped s lines h = record {
  built_ins = h.built_ins;
  window = h.window;
  all_there = h.all_there;
  there = h.there;
  bound_there = h.bound_there;
  older = h.older;
  made = λ k thing. shape k (h.made k thing);
  not_closed = h.not_closed;
  document = shape built_in_count h.document;
  document_open = h.document_open;
  host = record {
    sound = h.host.sound;
    object_of = h.host.object_of;
    node_of = h.host.node_of;
    document = h.host.document;
    heard = h.host.heard;
    calls = h.host.calls;
  };
}
  where
    shape : (k : ℕ) → HasShape s (object_at s.heap.objects k) (object_at s.heap.objects k).class
        → HasShape (with_lines s lines) (object_at s.heap.objects k) (object_at s.heap.objects k).class
    shape k g = shape_kept s (with_lines s lines) (object_at s.heap.objects k) (object_at s.heap.objects k) (object_at s.heap.objects k).class
        (record { functions = λ at f. (refl, f); nodes = λ at j e. e; longer = omega arith }) refl
        (props_same (object_at s.heap.objects k).class (object_at s.heap.objects k).props) (λ free. free) g
