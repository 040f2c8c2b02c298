-- What a line shows of values that are related is the same.
use Rattle.std.proofs.Common.{◌≡◌, refl, ap, ◌∙◌, List, ◌∷◌, ◌++◌, codes}
use Rattle.js_values.specs.declared.value.Value.{Value}
use Rattle.js_values.specs.declared.value.Value.TheVariants as value
use Rattle.object_heap.specs.declared.object.Class.{Class}
use Rattle.page_meaning.specs.Lines.{class_name, log_text, log_texts}
use Rattle.page_meaning.specs.Store.{Store}
use Rattle.heap_relations.specs.Naming.{named, World}
use Rattle.heap_relations.specs.Related.{ClassRel, Each, ValueRel, array, bound, each, event, fault, math, native, no_more, node, null, num, object, page, plain, text, truth, undefined, window}
use Rattle.agreement.proofs.Heap.{class_rel}
use Rattle.agreement.specs.Acts.{StoreRel}

pub class_name_same : {W : World} {c d : Class} → ClassRel (named W) c d → class_name c ≡ class_name d
class_name_same plain = refl
class_name_same array = refl
class_name_same (page h) = refl
class_name_same native = refl
class_name_same (bound h v vs) = refl
class_name_same fault = refl
class_name_same math = refl
class_name_same window = refl
class_name_same (node h) = refl
class_name_same (event h) = refl

pub log_text_same : {W : World} {s t : Store} {v w : Value} → StoreRel W s t → ValueRel (named W) v w → log_text s v ≡ log_text t w
log_text_same g undefined = refl
log_text_same g null = refl
log_text_same g truth = refl
log_text_same g num = refl
log_text_same g text = refl
log_text_same {v = value.Object a} {w = value.Object b} g (object n) = ap (λ x. codes "[object " ++ x ++ codes "]") (class_name_same (class_rel g a.0 b.0 n))

pub log_texts_same : {W : World} {s t : Store} {vs ws : List Value} → StoreRel W s t → Each (ValueRel (named W)) vs ws → log_texts vs s ≡ log_texts ws t
log_texts_same g no_more = refl
log_texts_same g (each h no_more) = log_text_same g h
log_texts_same {s = s} {t = t} {vs = v ∷ vs} {ws = w ∷ ws} g (each h (each k r)) = ap (λ x. x ++ codes " " ++ log_texts vs s) (log_text_same g h) ∙ ap (λ x. log_text t w ++ codes " " ++ x) (log_texts_same g (each k r))
