-- What is done to what the hosts of both pages keep.
use Rattle.std.proofs.Common.{◌≡◌, inl, refl, Bool, true, false, if◌then◌else◌, arith}
use Rattle.dom_tree.specs.Steps.{NodeStep}
use Rattle.page_host.specs.Steps.{HostStep, after_host, in_nodes}
use Rattle.page_meaning.specs.HostPuts.{stepped}
use Rattle.page_meaning.specs.Primitives.{changes_host, changes_nodes}
use Rattle.page_meaning.specs.Steps.{after_step, changed_host, fits_host, in_host}
use Rattle.page_meaning.specs.Store.{Store}
use Rattle.heap_relations.proofs.Callers as heap
use Rattle.heap_relations.specs.Naming.{Larger, World}
use Rattle.host_relations.proofs.Callers as host
use Rattle.host_relations.specs.Hosts.{HostRel, StepRel, clears_rel, clock_rel, fires_rel, forgets_rel, listens_rel, nodes_rel, starts_rel}
use Rattle.host_relations.specs.NodeSteps.{NodeStepRel}
use Rattle.object_shapes.proofs.Callers as shapes
use Rattle.agreement.specs.Acts.{ActRel, Agrees, Equal, StoreRel, clocks_of, ended}
use Rattle.agreement.proofs.Acts.{bind_rel}
use Rattle.agreement.proofs.Constants.{kept_same}
use Rattle.agreement.proofs.HostReads.{is_callable_class_same}
use Rattle.agreement.proofs.Values.{done_rel}

module _ {W : World} {s t : Store} (g : StoreRel W s t) where
  -- what is given to call can be called in both or in neither
  fits_host_same : {x y : HostStep} → StepRel (clocks_of W) W x y → fits_host s x ≡ fits_host t y
  fits_host_same (nodes_rel h) = refl
  fits_host_same (listens_rel {l = l} {m = m} h) = is_callable_class_same (heap.class_read g.heap h.call)
  fits_host_same (forgets_rel h) = refl
  fits_host_same (starts_rel {k = k} {l = l} h) = is_callable_class_same (heap.class_read g.heap h)
  fits_host_same clears_rel = refl
  fits_host_same (fires_rel h) = refl
  fits_host_same (clock_rel h) = refl

  changed_host_rel : {x y : HostStep} → StepRel (clocks_of W) W x y → HostRel (clocks_of W) W (changed_host s x) (changed_host t y)
  changed_host_rel {x = x} {y = y} h = by (fits_host s x) (fits_host t y) (fits_host_same h)
    where
      by : (a b : Bool) → a ≡ b → HostRel (clocks_of W) W (if a then after_host s.host x else s.host) (if b then after_host t.host y else t.host)
      by true true e = host.step_kept g.host g.heap.objects.one_to_one h
      by false false e = g.host
      by true false e = absurd (cc e)
      by false true e = absurd (cc e)

  pub host_changed : {x y : HostStep} → StepRel (clocks_of W) W x y → StoreRel W (after_step s (in_host x)) (after_step t (in_host y))
  host_changed {x = x} {y = y} h = record {
    heap = g.heap;
    lines = g.lines;
    host = changed_host_rel h;
    built_ins = g.built_ins;
    shaped = shapes.step_shaped s (in_host x) g.heap.left g.shaped tt;
    kept = kept_same g.kept refl (omega arith) (λ j m n. inl refl);
  }

-- the same is done to both
pub changes_host_rel : {V : World} {x y : HostStep} → ((W : World) → Larger V W → StepRel (clocks_of W) W x y) → ActRel (Equal {A = Unit {0}}) V (changes_host x) (changes_host y)
changes_host_rel h = record { run = λ W l s t n g. ended W heap.larger_same refl (host_changed g (h W l)) }

pub changes_nodes_rel : {V : World} {x y : NodeStep} → ((W : World) → Larger V W → NodeStepRel W x y) → ActRel (Equal {A = Unit {0}}) V (changes_nodes x) (changes_nodes y)
changes_nodes_rel {x = x} {y = y} h = changes_host_rel {x = in_nodes x} {y = in_nodes y} (λ W l. nodes_rel (h W l))

-- and gives nothing
pub stepped_rel : {V : World} {x y : NodeStep} → ((W : World) → Larger V W → NodeStepRel W x y) → Agrees V (stepped x) (stepped y)
stepped_rel {x = x} {y = y} h = bind_rel {R = Equal} (changes_nodes_rel {x = x} {y = y} h) (λ W l a b e. done_rel)
