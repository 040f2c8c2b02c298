-- What an end leaves: the lines of exceptions, and of want of steps (the host's own rules on lines).
use Rattle.std.proofs.Common.{inl, ◌≡◌, refl, ap, ◌∙◌, List, ◌++◌, codes, ℕ, arith}
use Rattle.js_values.specs.declared.line.LineKind.{LineKind}
use Rattle.js_values.specs.declared.line.LineKind.TheVariants.{Uncaught, Stopped as StoppedLine}
use Rattle.js_values.specs.declared.value.Value.{Value}
use Rattle.js_values.specs.declared.value.Value.TheVariants as value
use Rattle.object_heap.specs.declared.object.Class.{Class}
use Rattle.page_meaning.specs.Act.{Outcome}
use Rattle.page_meaning.specs.Lines.{log_text}
use Rattle.page_meaning.specs.Properties.{get_at}
use Rattle.page_meaning.specs.Store.{Store, with_line}
use Rattle.page_meaning.specs.Lines.{error_text, text_by_class, uncaught_text}
use Rattle.page_meaning.specs.Tasks.{finished}
use Rattle.page_meaning.specs.declared.signal.Signal.{Signal}
use Rattle.heap_relations.specs.Naming.{Larger, named, World}
use Rattle.heap_relations.specs.Related.{ClassRel, ValueRel, array, bound, event, fault, math, native, node, null, num, object, page, plain, text, truth, undefined, window}
use Rattle.object_shapes.proofs.Callers as shapes
use Rattle.agreement.specs.Acts.{OutcomeRel, SignalRel, StoreRel, break, continue, ended, return, stopped, thrown, value as given}
use Rattle.agreement.proofs.Constants.{kept_same}
use Rattle.agreement.proofs.Heap.{class_rel, line_added}
use Rattle.agreement.proofs.Lines.{log_text_same}
use Rattle.agreement.proofs.Properties.{get_at_rel}
use Rattle.agreement.proofs.Settled.{settled_rel}

error_text_same : {W : World} {s t : Store} {v w : Value} → StoreRel W s t → ValueRel (named W) v w → error_text s v ≡ error_text t w
error_text_same g undefined = log_text_same g undefined
error_text_same g null = log_text_same g null
error_text_same g truth = log_text_same g truth
error_text_same g num = log_text_same g num
error_text_same g text = log_text_same g text
error_text_same {s = s} {t = t} {v = value.Object a} {w = value.Object b} g (object n) =
    ap (λ x. x ++ codes ": " ++ log_text s (get_at s a (codes "message"))) (log_text_same g (get_at_rel g a b n (codes "name")))
    ∙ ap (λ x. log_text t (get_at t b (codes "name")) ++ codes ": " ++ x) (log_text_same g (get_at_rel g a b n (codes "message")))

text_by_class_same : {W : World} {s t : Store} {c d : Class} {v w : Value} → StoreRel W s t → ClassRel (named W) c d → ValueRel (named W) v w → text_by_class c s v ≡ text_by_class d t w
text_by_class_same g plain h = log_text_same g h
text_by_class_same g array h = log_text_same g h
text_by_class_same g (page f) h = log_text_same g h
text_by_class_same g native h = log_text_same g h
text_by_class_same g (bound t v vs) h = log_text_same g h
text_by_class_same g fault h = error_text_same g h
text_by_class_same g math h = log_text_same g h
text_by_class_same g window h = log_text_same g h
text_by_class_same g (node n) h = log_text_same g h
text_by_class_same g (event e) h = log_text_same g h

pub uncaught_text_same : {W : World} {s t : Store} {v w : Value} → StoreRel W s t → ValueRel (named W) v w → uncaught_text s v ≡ uncaught_text t w
uncaught_text_same g undefined = log_text_same g undefined
uncaught_text_same g null = log_text_same g null
uncaught_text_same g truth = log_text_same g truth
uncaught_text_same g num = log_text_same g num
uncaught_text_same g text = log_text_same g text
uncaught_text_same {v = value.Object a} {w = value.Object b} g (object n) = text_by_class_same g (class_rel g a.0 b.0 n) (object {a = a} {b = b} n)

-- the same line more on both sides
pub with_line_rel : {W : World} {s t : Store} {x y : List ℕ} (kind : LineKind) → StoreRel W s t → x ≡ y → StoreRel W (with_line kind x s) (with_line kind y t)
with_line_rel {W = W} {s = s} {t = t} {x = x} {y = y} kind g e = record { heap = g.heap; lines = line_added W.before s.lines t.lines kind x y g.lines e; host = g.host; built_ins = g.built_ins; shaped = shapes.lines_shaped s _ g.shaped; kept = kept_same g.kept refl (omega arith) (λ j m n. inl refl) }

-- pages that agree for a naming that is larger
pub record LaterRel (V : World) (s t : Store) : Type 0 where
  pub world : World
  pub larger : Larger V world
  pub stores : StoreRel world s t

pub finished_rel : {V : World} {o p : Outcome Signal} → OutcomeRel SignalRel V o p → LaterRel V (finished o) (finished p)
finished_rel (ended W l (given h) g) = record { world = W; larger = l; stores = settled_rel g }
finished_rel (ended W l (thrown h) g) = record { world = W; larger = l; stores = with_line_rel Uncaught (settled_rel g) (uncaught_text_same g h) }
finished_rel (ended W l (return h) g) = record { world = W; larger = l; stores = settled_rel g }
finished_rel (ended W l break g) = record { world = W; larger = l; stores = settled_rel g }
finished_rel (ended W l continue g) = record { world = W; larger = l; stores = settled_rel g }
finished_rel (stopped W l g) = record { world = W; larger = l; stores = with_line_rel StoppedLine (settled_rel g) refl }
