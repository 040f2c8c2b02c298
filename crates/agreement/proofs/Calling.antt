-- Calls and constructions in both pages (sections 11.2.3, 13.2.1, 13.2.2 and 15.3.4.5).
use Rattle.std.proofs.Common.{◌≡◌, ap, refl, sym, subst, ◌∙◌, ℕ, zero, suc, Bool, true, false, List, Option, Some, codes}
use Rattle.js_core.specs.Tree as tree
use Rattle.js_core.specs.Tree.{code}
use Rattle.js_values.specs.declared.ids.EnvId.{EnvId}
use Rattle.js_values.specs.declared.ids.ObjId.{ObjId}
use Rattle.js_values.specs.declared.throw.Throw.TheVariants.{NotFunction, TooDeep}
use Rattle.js_values.specs.declared.value.Value.{Value}
use Rattle.object_heap.proofs.Callers.{new_fit}
use Rattle.object_heap.specs.Heap.{new_object}
use Rattle.object_heap.specs.declared.object.Class.{Class}
use Rattle.object_heap.specs.declared.object.Class.TheVariants as class
use Rattle.page_meaning.specs.Act.{Act, Calls}
use Rattle.page_meaning.specs.Calls.{begin, build, built, called, calls_at, constructed, is_constructor, object_or}
use Rattle.page_meaning.specs.Functions.{enter}
use Rattle.page_meaning.specs.Places.{object_prototype}
use Rattle.page_meaning.specs.Primitives.{make}
use Rattle.page_meaning.specs.Statements.{exec_all}
use Rattle.heap_relations.proofs.Callers.{each_append, larger_more, larger_same, functions_up}
use Rattle.heap_relations.specs.Naming.{Frame, Functions, Named, named, World}
use Rattle.heap_relations.specs.Related.{ClassRel, Each, Maybe, ValueRel, array, bound, event, fault, math, native, no_entries, node, none, null, num, object, page, plain, some, text, truth, undefined, window}
use Rattle.agreement.specs.Acts.{ActRel, Agrees, Ids, IsPlaced, IsReady, StoreRel}
use Rattle.agreement.specs.Opened.{Demand, Entering, HasTrees, PageCallsRel, code_stands, function_stands}
use Rattle.agreement.proofs.Constants.{ready_of, ready_up}
use Rattle.object_heap.specs.Chain.{object_at}
use Rattle.page_meaning.specs.Errors.{raise}
use Rattle.page_meaning.specs.Properties.{class_of, is_function}
use Rattle.js_values.specs.declared.value.Value.TheVariants.{Undefined}
use Rattle.page_meaning.specs.Store.{Store}
use Rattle.std.proofs.lemmas.Bool.{and_parts}
use Rattle.std.specs.Prelude.{⊤}
use Rattle.agreement.proofs.Acts.{act_up, also_rel, asking_rel, bind_rel, choose_rel, on_built_ins}
use Rattle.agreement.proofs.AllRows.{row_of_rel}
use Rattle.agreement.proofs.SparedCalls.{page_calls_up}
use Rattle.agreement.proofs.EqualTrees.{trees_up}
use Rattle.agreement.proofs.Entered.{entered_code}
use Rattle.agreement.proofs.Heap.{make_rel, named_up, take_step_rel, value_up, values_up}
use Rattle.agreement.proofs.Made.{object_place}
use Rattle.agreement.proofs.Properties.{class_of_rel, is_function_same, read_property_rel}
use Rattle.agreement.proofs.Values.{give_rel, object_value_rel, raise_rel}

-- ---- entering a page's function

called_so : (d : Demand) (n : ℕ) (fs : List Frame) (c : tree.Code) → function_stands d n fs c ≡ true → code_stands d n fs c ≡ true
called_so d n fs c h = (and_parts (d.asks fs c) (code_stands d n fs c) h).1

-- what is round a function of the page is ready
abbrev pub IsReadyClass : World → Option Class → Type 0
IsReadyClass W (Some (class.Page c env)) = IsReady W env
IsReadyClass W k = ⊤

pub entered_rel : {V : World} {this that : Value} {vs ws : List Value} {k m : tree.Code} {e f : Option EnvId} (c d : Calls) → PageCallsRel V c d → HasTrees V → Functions V k e m f → IsReady V e
    → ValueRel (named V) this that → Each (ValueRel (named V)) vs ws → Agrees V (enter (exec_all c) k e this vs) (enter (exec_all d) m f that ws)
entered_rel {V = V} {this = this} {that = that} {vs = vs} {ws = ws} {k = k} {e = e} {f = f} c d calls trees n ready h hs =
    subst (λ x. Agrees V (enter (exec_all c) k e this vs) (enter (exec_all d) x f that ws)) (sym (n.code ∙ trees.opened n.number n.frames k))
    (entered_code c d n.number n.frames k e f calls trees n.round ready (called_so trees.demand n.number n.frames k (sym (trees.fits n.number n.frames k) ∙ n.fits)) h hs)

-- ---- calls

pub called_rel : {V : World} {this that : Value} {vs ws : List Value} {k m : Option Class} (c d : Calls) → PageCallsRel V c d → HasTrees V → ValueRel (named V) this that → Each (ValueRel (named V)) vs ws
    → Maybe (ClassRel (named V)) k m → IsReadyClass V k → Agrees V (called c this vs k) (called d that ws m)
called_rel c d calls trees h hs none y = raise_rel NotFunction
called_rel c d calls trees h hs (some plain) y = raise_rel NotFunction
called_rel c d calls trees h hs (some array) y = raise_rel NotFunction
called_rel c d calls trees h hs (some (page n)) y = entered_rel c d calls trees n y h hs
called_rel c d calls trees h hs (some (native {b = which})) y = row_of_rel c d false which calls.calls h hs
called_rel c d calls trees h hs (some (bound {t = t} {u = u} n own args)) y = calls.calls.call _ larger_same (object_value_rel t u n) own (each_append args hs)
called_rel c d calls trees h hs (some fault) y = raise_rel NotFunction
called_rel c d calls trees h hs (some math) y = raise_rel NotFunction
called_rel c d calls trees h hs (some window) y = raise_rel NotFunction
called_rel c d calls trees h hs (some (node n)) y = raise_rel NotFunction
called_rel c d calls trees h hs (some (event n)) y = raise_rel NotFunction

-- ---- constructions

pub object_or_rel : {V : World} {v w : Value} (a b : ObjId) → Named V a.0 b.0 → ValueRel (named V) v w → Named V (object_or a v).0 (object_or b w).0
object_or_rel a b n undefined = n
object_or_rel a b n null = n
object_or_rel a b n truth = n
object_or_rel a b n num = n
object_or_rel a b n text = n
object_or_rel a b n (object m) = m

pub built_rel : {V : World} {v w : Value} (a b : ObjId) → Named V a.0 b.0 → ValueRel (named V) v w → ValueRel (named V) (built a v) (built b w)
built_rel a b n undefined = object_value_rel a b n
built_rel a b n null = object_value_rel a b n
built_rel a b n truth = object_value_rel a b n
built_rel a b n num = object_value_rel a b n
built_rel a b n text = object_value_rel a b n
built_rel a b n (object m) = object m

-- the fresh object
fresh_rel : {V : World} {v w : Value} → ValueRel (named V) v w
    → ActRel Ids V (make (new_object class.Plain (Some (object_or object_prototype v))) (new_fit class.Plain (Some (object_or object_prototype v))) refl)
    (make (new_object class.Plain (Some (object_or object_prototype w))) (new_fit class.Plain (Some (object_or object_prototype w))) refl)
fresh_rel {v = v} {w = w} h = on_built_ins (λ U i there.
    let p = object_or object_prototype v in
    let q = object_or object_prototype w in
    make_rel (new_object class.Plain (Some p)) (new_object class.Plain (Some q)) (new_fit class.Plain (Some p)) (new_fit class.Plain (Some q)) refl refl (record {
      class = plain;
      proto = some (record { linked = object_or_rel object_prototype object_prototype (there object_prototype.0 object_place) (value_up i h) });
      extensible = refl;
      closed = refl;
      props = no_entries;
    }) refl refl (λ W l s t g. tt))

pub build_rel : {V : World} {f g : Value} {vs ws : List Value} {k m : tree.Code} {e o : Option EnvId} (c d : Calls) → PageCallsRel V c d → HasTrees V → ValueRel (named V) f g → Functions V k e m o
    → IsReady V e → Each (ValueRel (named V)) vs ws → Agrees V (build c f k e vs) (build d g m o ws)
build_rel c d calls trees h n ready hs =
    also_rel (read_property_rel h (codes "prototype")) (λ W l p q r. bind_rel (fresh_rel r) (λ X j a b i.
    let up = larger_more l j in
    also_rel (entered_rel c d (page_calls_up up calls) (trees_up up trees) (functions_up up n) (ready_up up ready) (object_value_rel a b i) (values_up up hs)) (λ Y x v w s. give_rel (built_rel a b (named_up x i) s))))

pub constructed_rel : {V : World} {f g : Value} {vs ws : List Value} {k m : Option Class} (c d : Calls) → PageCallsRel V c d → HasTrees V → ValueRel (named V) f g → Each (ValueRel (named V)) vs ws
    → Maybe (ClassRel (named V)) k m → IsReadyClass V k → Agrees V (constructed c f vs k) (constructed d g ws m)
constructed_rel c d calls trees h hs none y = raise_rel NotFunction
constructed_rel c d calls trees h hs (some plain) y = raise_rel NotFunction
constructed_rel c d calls trees h hs (some array) y = raise_rel NotFunction
constructed_rel c d calls trees h hs (some (page n)) y = build_rel c d calls trees h n y hs
constructed_rel c d calls trees h hs (some (native {b = which})) y = row_of_rel c d true which calls.calls undefined hs
constructed_rel c d calls trees h hs (some (bound {t = t} {u = u} n own args)) y = calls.calls.construct _ larger_same (object_value_rel t u n) (each_append args hs)
constructed_rel c d calls trees h hs (some fault) y = raise_rel NotFunction
constructed_rel c d calls trees h hs (some math) y = raise_rel NotFunction
constructed_rel c d calls trees h hs (some window) y = raise_rel NotFunction
constructed_rel c d calls trees h hs (some (node n)) y = raise_rel NotFunction
constructed_rel c d calls trees h hs (some (event n)) y = raise_rel NotFunction

pub is_constructor_same : {V : World} {c d : Option Class} → Maybe (ClassRel (named V)) c d → is_constructor c ≡ is_constructor d
is_constructor_same none = refl
is_constructor_same (some plain) = refl
is_constructor_same (some array) = refl
is_constructor_same (some (page h)) = refl
is_constructor_same (some native) = refl
is_constructor_same (some (bound h v vs)) = refl
is_constructor_same (some fault) = refl
is_constructor_same (some math) = refl
is_constructor_same (some window) = refl
is_constructor_same (some (node h)) = refl
is_constructor_same (some (event h)) = refl

-- ---- steps and depth

pub begin_rel : {V : World} {p q : Act} (x y : Bool) → x ≡ y → Agrees V p q → Agrees V (begin x p) (begin y q)
begin_rel x y e h = choose_rel x y e (bind_rel take_step_rel (λ W l a b u. act_up l h)) (raise_rel NotFunction)

-- related classes, of which the left one is ready
pub record Classes (W : World) (k m : Option Class) : Type 0 where
  pub classes : Maybe (ClassRel (named W)) k m
  pub ready : IsReadyClass W k

classes_of_rel : {W : World} {s t : Store} {v w : Value} → StoreRel W s t → ValueRel (named W) v w → Classes W (class_of s v) (class_of t w)
classes_of_rel {W = W} {s = s} g h = record { classes = class_of_rel g h; ready = by h }
  where
    placed : (k : ℕ) (c : Class) → IsPlaced W k c → IsReadyClass W (Some c)
    placed k (class.Page c env) h = ready_of h
    placed k c h = tt

    by : {v w : Value} → ValueRel (named W) v w → IsReadyClass W (class_of s v)
    by undefined = tt
    by null = tt
    by truth = tt
    by num = tt
    by text = tt
    by (object {a = a} n) = placed a.0 (object_at s.heap.objects a.0).class (g.kept.functions a.0 _ n)

abbrev entering_at : (n : ℕ) → Entering (calls_at n)
entering_at zero = record {
  entry = λ k env vs. begin true (raise TooDeep);
  same = λ s n k c env vs e. ap (λ z. (begin (is_function (Some z)) (raise TooDeep)).run s n) e;
}
entering_at (suc d) = record {
  entry = λ k env vs. begin true (enter (exec_all (calls_at d)) k env Undefined vs);
  same = λ s n k c env vs e. ap (λ z. (begin (is_function (Some z)) (called (calls_at d) Undefined vs (Some z))).run s n) e;
}

pub calls_at_rel : {V : World} (n : ℕ) → HasTrees V → PageCallsRel V (calls_at n) (calls_at n)
calls_at_rel zero trees = record {
  calls = record {
    call = λ W l h k hs. asking_rel {R = Classes} (λ X j s t r. classes_of_rel r (value_up j h)) (λ X j x y r. begin_rel _ _ (is_function_same r.classes) (raise_rel TooDeep));
    construct = λ W l h hs. asking_rel {R = Classes} (λ X j s t r. classes_of_rel r (value_up j h)) (λ X j x y r. begin_rel _ _ (is_constructor_same r.classes) (raise_rel TooDeep));
  };
  left = entering_at zero;
  right = entering_at zero;
  enter = λ W l t m fs k e f o ready stands hs. begin_rel true true refl (raise_rel TooDeep);
}
calls_at_rel (suc n) trees = record {
  calls = record {
    call = λ W l h k hs. asking_rel {R = Classes} (λ X j s t r. classes_of_rel r (value_up j h)) (λ X j x y r. begin_rel _ _ (is_function_same r.classes)
        (called_rel (calls_at n) (calls_at n) (page_calls_up (larger_more l j) (calls_at_rel n trees)) (trees_up (larger_more l j) trees) (value_up j k) (values_up j hs) r.classes r.ready));
    construct = λ W l h hs. asking_rel {R = Classes} (λ X j s t r. classes_of_rel r (value_up j h)) (λ X j x y r. begin_rel _ _ (is_constructor_same r.classes)
        (constructed_rel (calls_at n) (calls_at n) (page_calls_up (larger_more l j) (calls_at_rel n trees)) (trees_up (larger_more l j) trees) (value_up j h) (values_up j hs) r.classes r.ready));
  };
  left = entering_at (suc n);
  right = entering_at (suc n);
  enter = λ W l t m fs k e f o ready stands hs. begin_rel true true refl (entered_code (calls_at n) (calls_at n) m fs k e f (page_calls_up l (calls_at_rel n trees)) t o ready stands undefined hs);
}
