-- No object that a page begins with is a function of the page.
use Rattle.std.proofs.Common.{◌≡◌, ◌⊎◌, inl, inr, refl, sym, ap, ◌∙◌, ℕ, zero, suc, ◌<◌, ◌≤◌, Bool, true, false, true≢false, Option, arith}
use Rattle.std.proofs.lemmas.Bool.{cases_lt}
use Rattle.std.specs.List.{list_all}
use Rattle.heap_walker.specs.Still.{Still}
use Rattle.js_core.specs.Tree.{Code}
use Rattle.js_values.specs.declared.ids.EnvId.{EnvId}
use Rattle.js_values.specs.declared.ids.NodeId.{NodeId}
use Rattle.object_heap.specs.Chain.{object_at}
use Rattle.object_heap.specs.Object.{Object}
use Rattle.object_heap.specs.declared.object.Class.{Class}
use Rattle.object_heap.specs.declared.object.Class.TheVariants as class
use Rattle.object_shapes.specs.Shapes.{built_in_at}
use Rattle.page_meaning.specs.Places.{built_in_count, document}
use Rattle.page_meaning.specs.Pristine.{built_ins}
use Rattle.page_meaning.specs.Store.{Store}
use Rattle.rebuild_plan.proofs.Callers.{built_in_is_no_node, document_class}
use Rattle.rebuild_plan.specs.Moved.{first_thing}
use Rattle.rebuilding.proofs.Callers.{at_or}

-- not that of a function of a page
abbrev is_other : Class → Bool
is_other (class.Page c env) = false
is_other c = true

abbrev other_class : Object → Bool
other_class o = is_other o.class

all_others : list_all other_class built_ins ≡ true
all_others = refl

other_at : (k : ℕ) → is_other (built_in_at k).class ≡ true
other_at k = at_or other_class built_ins k all_others refl

module _ (s : Store) (still : Still s) where
  built_in_other : (k : ℕ) → k < built_in_count → is_other (object_at s.heap.objects k).class ≡ true
  built_in_other zero low = ap is_other still.shaped.window.class
  built_in_other (suc i) low = ap (λ (o : Object). is_other o.class) (still.shaped.built_ins (suc i) (omega arith) low) ∙ other_at (suc i)

  pub begun_is_no_function : (k : ℕ) (c : Code) (env : Option EnvId) → k < first_thing → (object_at s.heap.objects k).class ≡ class.Page c env → ⊥
  begun_is_no_function k c env low is = by (cases_lt k built_in_count)
    where
      by : (k < built_in_count) ⊎ (built_in_count ≤ k) → ⊥
      by (inl h) = true≢false (sym (built_in_other k h) ∙ ap is_other is)
      by (inr h) =
          let last : k ≡ document.0 = omega (arith, h, low) in
          cc (sym (document_class s still) ∙ ap (λ n. (object_at s.heap.objects n).class) (sym last) ∙ is)

  -- and none is a node's but that of the document
  pub node_is_past : (k : ℕ) (n : NodeId) → (object_at s.heap.objects k).class ≡ class.Node n → built_in_count ≤ k
  node_is_past k n is = by (cases_lt k built_in_count)
    where
      by : (k < built_in_count) ⊎ (built_in_count ≤ k) → built_in_count ≤ k
      by (inl h) = absurd (built_in_is_no_node s still k n h is)
      by (inr h) = h
