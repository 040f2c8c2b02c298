-- Functions of both pages, how they are made and entered (sections 10.4.3, 10.5, 13 and 13.2).
use Rattle.std.proofs.Common.{◌≡◌, refl, sym, ap, ◌∙◌, ℕ, suc, ◌<◌, ◌≤◌, ◌&&◌, true, List, [], ◌∷◌, length, Option, Some, None, arith, ◌+◌, Bool, false, subst, nat_lt, length-append, not, bytes_eq, if◌then◌else◌}
use Rattle.agreement.proofs.HostsUp.{host_up}
use Rattle.agreement.proofs.Declared.{tops_passed}
use Rattle.instrumenter.specs.Counting.{stmt_scopes}
use Rattle.object_heap.specs.Object.{settled}
use Rattle.object_heap.proofs.Callers.{sound_made, sound_opened}
use Rattle.object_heap.specs.Laws.{after_step, after_steps, binds, opens}
use Rattle.object_heap.specs.Heap.{Contents, IsSound, made, opened}
use Rattle.heap_relations.specs.Scope.{own_frame, own_slot, with_own, with_own_function}
use Rattle.object_heap.specs.Environment.{Bound}
use Rattle.agreement.proofs.Closures.{closed_code, declared_code}
use Rattle.instrumenter.specs.Opening.{open_function, open_tops}
use Rattle.instrumenter.specs.Fields.{expression_fields}
use Rattle.instrumenter.specs.Around.{Around, opened_fields}
use Rattle.agreement.specs.Opened.{Demand, HasTrees, HereRel, IsOpening, are_plain, expr_stands, function_stands, name_frame, opened_code, stmt_stands, stmts_stand, opened_at}
use Rattle.std.proofs.lemmas.Bool.{and_parts, and_from, lt-ltb, not-true, both_ways}
use Rattle.code_table.specs.Declarations.{functions_of}
use Rattle.js_core.specs.Tree as tree
use Rattle.js_core.specs.Tree.{code, function, no_stmts, then_stmt}
use Rattle.js_values.specs.declared.ids.EnvId.{EnvId}
use Rattle.js_values.specs.declared.throw.Throw.TheVariants.{CannotDefine}
use Rattle.js_values.specs.declared.value.Value.TheVariants.{Undefined}
use Rattle.object_heap.specs.declared.object.Class.TheVariants.{Page}
use Rattle.object_heap.specs.declared.property.Prop.{Prop}
use Rattle.page_meaning.specs.Functions.{call_end, close_over, declare_globals, define_global, take_function, global_variables, make_function, own_global, script_property, take_variable, function_fit, function_object, function_steps, prototype_fit, prototype_object}
use Rattle.page_meaning.specs.Names.{Here}
use Rattle.page_meaning.specs.Places.{function_prototype, object_prototype, window}
use Rattle.page_meaning.specs.Store.{Store, with_heap}
use Rattle.page_meaning.specs.declared.signal.Signal.{Signal}
use Rattle.scope_analysis.specs.Names.{is_among, own_name}
use Rattle.heap_relations.proofs.Callers.{larger_more}
use Rattle.heap_relations.proofs.Callers as heap
use Rattle.heap_relations.specs.Naming.{Absent, Constant, Frame, Larger, Round, Sealed, World, here, named, outermost, with_object, with_slot, is_reserved, Itself}
use Rattle.heap_relations.specs.Related as related
use Rattle.heap_relations.specs.Related.{ChangeRel, Each, Maybe, PropRel, ValueRel, entry, no_entries, none, page, some, undefined}
use Rattle.agreement.proofs.Acts.{also_rel, asking_rel, bind_rel, choose_rel, on_built_ins}
use Rattle.agreement.proofs.Constants.{not_done, kept_function, kept_opened, older_now, ready_up, set_up}
use Rattle.agreement.proofs.Entries.{Enters, enters, bound_rel, enters_round, enters_up, one_name_same, opened_rel, own_name_free}
use Rattle.agreement.proofs.EqualTrees.{trees_up}
use Rattle.agreement.proofs.Heap.{define_at_rel, named_up, own_rel, value_up}
use Rattle.agreement.proofs.Made.{made_rel, object_place}
use Rattle.agreement.proofs.Properties.{put_in_rel}
use Rattle.agreement.proofs.Values.{done_rel, give_rel, object_value_rel, raise_rel, unless_rel}
use Rattle.object_shapes.proofs.Callers as shapes
use Rattle.page_meaning.specs.Places.{built_in_count}
use Rattle.page_meaning.specs.Steps.{in_heap}
use Rattle.object_shapes.specs.Links.{all_below, value_links}
use Rattle.agreement.specs.Acts as acts
use Rattle.agreement.specs.Acts.{ActRel, Agrees, AreKept, Ids, IsOlder, IsReady, SignalRel, StoreRel, break, continue, ended, return, scope_older, thrown, value}
use Rattle.agreement.specs.Trees.{frame_of, free_where}

-- ---- functions are made

pub function_prototype_place : function_prototype.0 ≤ built_in_count
unfolding built_in_count
function_prototype_place = omega arith

pub window_place : window.0 ≤ built_in_count
unfolding built_in_count
window_place = omega arith

pub make_function_rel : {V : World} (n : ℕ) (fs : List Frame) (x : Option (List ℕ)) (formals : List (List ℕ)) (body opened : tree.Stmts) (e f : Option EnvId) → (trees : HasTrees V)
    → code x formals opened ≡ opened_code trees.demand.opens n fs (code x formals body) → Round V fs e f
    → ((W : World) → Larger V W → (s t : Store) → StoreRel W s t → IsOlder W (length s.heap.objects) x e)
    → function_stands trees.demand n fs (code x formals body) ≡ true → ActRel Ids V (make_function (code x formals body) e) (make_function (code x formals opened) f)
make_function_rel n fs x formals body opened e f trees same o older stands = record {
  run = λ W l s t m g.
      let a = length s.heap.objects in
      let b = length t.heap.objects in
      let up = heap.larger_function {W = W} a b in
      let there = trees_up l trees in
      ended (with_object (with_object W a b) (suc a) (suc b)) up (heap.named_up (heap.larger_object {W = with_object W a b} (suc a) (suc b)) (heap.named_object {W = W} a b)) (record {
        heap = heap.functions_made W s.heap t.heap (Page (code x formals body) e) (Page (code x formals opened) f) (Some function_prototype) (Some function_prototype) (length formals) (Some object_prototype) (Some object_prototype) g.heap
            (page (record {
              frames = fs;
              number = n;
              code = same ∙ sym (there.opened n fs (code x formals body));
              fits = there.fits n fs (code x formals body) ∙ stands;
              round = heap.round_up l o;
            })) refl
            (some (record { linked = g.built_ins function_prototype.0 function_prototype_place })) (some (record { linked = g.built_ins object_prototype.0 object_place }));
        lines = g.lines;
        host = host_up up refl g.host;
        built_ins = λ k small. heap.named_up up (g.built_ins k small);
        shaped = shapes.function_shaped s (code x formals body) e g.heap.left g.shaped;
        kept = kept_function g.kept b (code x formals body) e (λ i j n. (g.heap.objects.inside i j n).0) (older W l s t g);
      });
}

-- a function without a name is younger than what stands round it
pub all_older : {V : World} {e : Option EnvId} → IsReady V e → (W : World) → Larger V W → (s t : Store) → StoreRel W s t → IsOlder W (length s.heap.objects) None e
all_older h W l s t g = older_now g.kept (ready_up l h)

-- ---- function expressions

pub plain_one : (x : List ℕ) → are_plain true (x ∷ []) ≡ true → is_reserved true x ≡ false
plain_one x e = not-true (is_reserved true x) (and_parts (not (is_reserved true x)) true e).0

pub not_reserved : (opens : Bool) (x : List ℕ) → are_plain opens (x ∷ []) ≡ true → is_reserved opens x ≡ false
not_reserved true x e = plain_one x e
not_reserved false x e = refl

-- the heap after a function is made, and after its name is bound
abbrev functions_after : Contents → tree.Code → Option EnvId → Contents
functions_after h c env = after_steps h (function_steps c env (length h.objects))

pub functions_sound : (h : Contents) (c : tree.Code) (env : Option EnvId) → IsSound h → IsSound (functions_after h c env)
functions_sound h c env sound =
    let k = length h.objects in
    let one = sound_made h sound (function_object c env (k + 1)) (function_fit c env (k + 1)) in
    sound_made (made h (function_object c env (k + 1))) one (prototype_object k) (prototype_fit k)

never_constant : (b : Bool) → (if b then Sealed else Absent) ≡ Constant → ⊥
never_constant true e = cc e
never_constant false e = cc e

-- what is kept where a function that has a name is made
kept_own : {W : World} {s t : Store} → (g : StoreRel W s t) → (e f : Option EnvId) (x : List ℕ) (fs : List Frame) (formals : List (List ℕ)) (body : tree.Stmts) → Round W fs e f → IsReady W e
    → AreKept (with_own W s.heap t.heap x fs) (with_heap s (with_own_function s.heap e x (code (Some x) formals body) (Some function_prototype) (length formals) (Some object_prototype)))
kept_own {W = W} {s = s} {t = t} g e f x fs formals body o ready =
    let a = length s.heap.objects in
    let slot = own_slot s.heap t.heap x fs in
    let names : Bound = (x, heap.scope_value a) ∷ [] in
    let one : AreKept (with_slot W slot) (with_heap s (opened s.heap e names)) =
    kept_opened g.kept g.heap slot e names refl (heap.round_there g.heap o).0 (older_now g.kept ready) (λ y k. absurd (never_constant (bytes_eq y x) k)) (λ y p k. absurd (never_constant (bytes_eq y x) k)) (λ p. omega arith) (not_done g.kept)
    in
    kept_function one (length t.heap.objects) (code (Some x) formals body) (Some (record { 0 = length s.heap.environments }))
    (λ i j n. (g.heap.objects.inside i j (record { named = n.named })).0) (scope_older slot here (λ y p. absurd (cc p)) (omega arith) (λ y d k. refl))

-- a function that has a name, in the environment that binds it, where such names are sealed
own_rel_opened : {V : World} (n : ℕ) (fs : List Frame) (x : List ℕ) (formals : List (List ℕ)) (body opened : tree.Stmts) (e f : Option EnvId) → (trees : HasTrees V)
    → code (Some x) formals opened ≡ opened_code trees.demand.opens n (own_frame x ∷ fs) (code (Some x) formals body) → Round V fs e f → IsReady V e → is_reserved V.opens x ≡ false
    → function_stands trees.demand n (own_frame x ∷ fs) (code (Some x) formals body) ≡ true
    → Agrees V (close_over (code (Some x) formals body) e) (close_over (code (Some x) formals opened) f)
own_rel_opened n fs x formals body opened e f trees same o ready own stands = record {
  run = λ W l s t m g.
      let a = length s.heap.objects in
      let b = length t.heap.objects in
      let c = code (Some x) formals body in
      let d = code (Some x) formals opened in
      let there = trees_up l trees in
      let slot = own_slot s.heap t.heap x fs in
      let up : Larger W (with_own W s.heap t.heap x fs) = larger_more (heap.larger_function {W = W} a b) (heap.larger_slot slot) in
      let made = heap.own_functions_made W s.heap t.heap e f x fs n c d (Some function_prototype) (Some function_prototype) (length formals) (Some object_prototype) (Some object_prototype) g.heap (heap.round_up l o)
      (subst (λ q. is_reserved q x ≡ false) l.opens own) (same ∙ sym (there.opened n (own_frame x ∷ fs) c)) (there.fits n (own_frame x ∷ fs) c ∙ stands)
      (some (record { linked = g.built_ins function_prototype.0 function_prototype_place })) (some (record { linked = g.built_ins object_prototype.0 object_place }))
      in
      let left = heap.own_bound_later s.heap e x c (Some function_prototype) (length formals) (Some object_prototype) in
      let right = heap.own_bound_later t.heap f x d (Some function_prototype) (length formals) (Some object_prototype) in
      let env : EnvId = record { 0 = length s.heap.environments } in
      let h1 = after_step s.heap (opens e ((x, Undefined) ∷ [])) in
      let sound1 = sound_opened s.heap g.heap.left e ((x, Undefined) ∷ []) in
      let h2 = functions_after h1 c (Some env) in
      let shaped1 = shapes.step_shaped s (in_heap (opens e ((x, Undefined) ∷ [])) refl) g.heap.left g.shaped refl in
      let shaped2 = shapes.function_shaped (with_heap s h1) c (Some env) sound1 shaped1 in
      let below : all_below (length h2.objects) (value_links (heap.scope_value a)) ≡ true = place_below a (length h2.objects) (functions_longer h1 c (Some env)) in
      let shaped3 = shapes.step_shaped (with_heap s h2) (in_heap (binds env.0 x (heap.scope_value a)) refl) (functions_sound h1 c (Some env) sound1) shaped2 below in
      ended (with_own W s.heap t.heap x fs) up
      (value (related.object (heap.named_up (heap.larger_slot slot) (heap.named_up (heap.larger_object {W = with_object W a b} (suc a) (suc b)) (heap.named_object {W = W} a b)))))
      (record {
        heap = rw (left, right) made;
        lines = g.lines;
        host = host_up up refl g.host;
        built_ins = λ k small. heap.named_up up (g.built_ins k small);
        shaped = shaped3;
        kept = rw left (kept_own g e f x fs formals body (heap.round_up l o) (ready_up l ready));
      });
}
  where
    place_below : (a n : ℕ) → a < n → all_below n (value_links (heap.scope_value a)) ≡ true
    place_below a n h = and_from (nat_lt a n) true (lt-ltb a n h) refl

    functions_longer : (h : Contents) (c : tree.Code) (env : Option EnvId) → length h.objects < length (functions_after h c env).objects
    functions_longer h c env =
        let k = length h.objects in
        omega (
          arith,
          length-append h.objects (settled k (function_object c env (k + 1)) ∷ []),
          length-append (made h (function_object c env (k + 1))).objects (settled (length (made h (function_object c env (k + 1))).objects) (prototype_object k) ∷ []),
        )

never_sealed : (b : Bool) → free_where b ≡ Sealed → ⊥
never_sealed true e = cc e
never_sealed false e = cc e

-- where the name of a function expression is not sealed, nothing is said of it
free_older : {V : World} {gs : List Frame} {a b : EnvId} (x : List ℕ) → Enters V (frame_of (x ∷ [])) gs a b → (W : World) → Larger V W → (s t : Store) → StoreRel W s t → IsOlder W (length s.heap.objects) (Some x) (Some a)
free_older {V = V} x m W l s t g = by m refl
  where
    by : {f : Frame} {gs : List Frame} {a b : EnvId} → Enters V f gs a b → f ≡ frame_of (x ∷ []) → IsOlder W (length s.heap.objects) (Some x) (Some a)
    by (enters z i h) e =
        let up = set_up l z h in
        scope_older z (l.slots z i) up ((g.kept.scopes z (l.slots z i)).there up)
        (λ y d k. absurd (never_sealed (is_among y (x ∷ [])) (ap (λ (u : Frame). u.keeps y) (sym e) ∙ k)))

-- names are sealed where trees are opened
names_closed : (d : Demand) → (d.opens ≡ true → IsOpening d) → d.names ≡ false → d.opens ≡ false
names_closed d opening e = by_case d.opens refl
  where
    by_case : (b : Bool) → d.opens ≡ b → b ≡ false
    by_case false q = refl
    by_case true q = absurd (cc (sym e ∙ ap (λ (z : Demand). z.names) (opening q)))

-- a function expression
pub close_over_rel : {V : World} (around : Around) (n : ℕ) (fs : List Frame) (x : Option (List ℕ)) (formals : List (List ℕ)) (body : tree.Stmts) (a b : Here) → (h : HereRel V around fs a b)
    → expr_stands h.trees.demand n fs (tree.func (code x formals body)) ≡ true
    → Agrees V (close_over (code x formals body) a.env)
    (close_over (code x formals (open_function around n (opened_fields around.opens (expression_fields (code x formals body))) (own_name (code x formals body)) (code x formals body))) b.env)
close_over_rel around n fs None formals body a b h f =
    made_rel (make_function_rel n fs None formals body _ a.env b.env h.trees (closed_code around n h.trees.demand.opens h.trees.demand.names fs None formals body h.opens h.fields) h.round (all_older h.ready) f)
close_over_rel {V = V} around n fs (Some x) formals body a b h f =
    let d = h.trees.demand in
    let both = and_parts (are_plain d.opens (x ∷ [])) (function_stands d n (name_frame d.names x ∷ fs) (code (Some x) formals body)) f in
    by_case d.names refl (closed_code around n d.opens d.names fs (Some x) formals body h.opens h.fields) both.1
  where
    own : is_reserved V.opens x ≡ false
    own = ap (λ q. is_reserved q x) h.trees.opens ∙ not_reserved h.trees.demand.opens x (and_parts (are_plain h.trees.demand.opens (x ∷ [])) (function_stands h.trees.demand n (name_frame h.trees.demand.names x ∷ fs) (code (Some x) formals body)) f).0

    by_case : (o : Bool) → o ≡ h.trees.demand.names → {opened : tree.Stmts} → code (Some x) formals opened ≡ opened_code h.trees.demand.opens n (name_frame o x ∷ fs) (code (Some x) formals body)
        → function_stands h.trees.demand n (name_frame o x ∷ fs) (code (Some x) formals body) ≡ true
        → Agrees V (close_over (code (Some x) formals body) a.env) (close_over (code (Some x) formals opened) b.env)
    by_case true o {opened = opened} same stands = own_rel_opened n fs x formals body opened a.env b.env h.trees same h.round h.ready own stands
    by_case false o {opened = opened} same stands =
        let closed : V.opens ≡ false = h.trees.opens ∙ names_closed h.trees.demand h.trees.opening (sym o) in
        bind_rel (opened_rel (λ y. is_among y (x ∷ [])) (λ y. false) fs a.env b.env ((x, Undefined) ∷ []) ((x, Undefined) ∷ []) (λ e. absurd (both_ways _ closed e)) h.round h.ready (entry undefined no_entries) (one_name_same x Undefined)) (λ W l p q m.
        bind_rel (make_function_rel n (frame_of (x ∷ []) ∷ fs) (Some x) formals body opened (Some p) (Some q) (trees_up l h.trees) same (enters_round m) (free_older x m) stands) (λ X j k u v.
        bind_rel (bound_rel x (ap (λ q. is_reserved q x) (sym (larger_more l j).opens ∙ closed)) (enters_up j m) (own_name_free x) (object_value_rel k u v)) (λ Y i z w r. give_rel (object_value_rel k u (named_up i v)))))

pub call_end_rel : {V W : World} {s r : Signal} → Larger V W → SignalRel V s r → SignalRel W (call_end s) (call_end r)
call_end_rel l (value h) = value undefined
call_end_rel l (thrown h) = thrown (value_up l h)
call_end_rel l (return h) = value (value_up l h)
call_end_rel l break = value undefined
call_end_rel l continue = value undefined

-- ---- scripts

script_property_rel : {V : World} → ChangeRel (named V) (script_property Undefined) (script_property Undefined)
script_property_rel = record { value = some undefined; writable = refl; enumerable = refl; configurable = refl }

define_global_rel : {V : World} (x : List ℕ) → Agrees V (define_global x) (define_global x)
define_global_rel x = on_built_ins (λ U i there. unless_rel (define_at_rel window window x (script_property Undefined) (script_property Undefined) (there window.0 window_place) script_property_rel) (λ W l. done_rel))

take_function_rel : {V : World} {p q : Option Prop} (x : List ℕ) → Maybe (PropRel (named V)) p q → Agrees V (take_function x p) (take_function x q)
take_function_rel x none = define_global_rel x
take_function_rel x (some {a = p} {b = q} h) =
    choose_rel p.configurable q.configurable h.configurable (define_global_rel x)
    (choose_rel (p.writable && p.enumerable) (q.writable && q.enumerable) (ap (λ c. c && p.enumerable) h.writable ∙ ap (λ c. q.writable && c) h.enumerable) done_rel (raise_rel CannotDefine))

take_variable_rel : {V : World} {p q : Option Prop} (x : List ℕ) → Maybe (PropRel (named V)) p q → Agrees V (take_variable x p) (take_variable x q)
take_variable_rel x none = define_global_rel x
take_variable_rel x (some h) = done_rel

own_global_rel : {W : World} {s t : Store} (x : List ℕ) → StoreRel W s t → Maybe (PropRel (named W)) (own_global x s) (own_global x t)
own_global_rel x g = own_rel g window.0 window.0 (g.built_ins window.0 window_place) x

ready_outermost : {V : World} → IsReady V None
ready_outermost = acts.outermost

-- what a script declares: its functions stay at its top, with their code opened
pub declare_globals_rel : {V : World} (body : tree.Stmts) (k : Around) (n : ℕ) (trees : HasTrees V) → k.opens ≡ trees.demand.opens → k.fields ≡ (λ x. opened_at trees.demand.opens Itself)
    → stmts_stand trees.demand n [] body ≡ true → Agrees V (declare_globals (functions_of body)) (declare_globals (functions_of (open_tops k n body)))
declare_globals_rel no_stmts k n trees same fields e = done_rel
declare_globals_rel (then_stmt (function (code None formals body)) ss) k n trees same fields e =
    let c = function (code None formals body) in
    declare_globals_rel ss k (n + stmt_scopes c) trees same fields (and_parts (stmt_stands trees.demand n [] c) (stmts_stand trees.demand (n + stmt_scopes c) [] ss) e).1
declare_globals_rel (then_stmt (function (code (Some x) formals body)) ss) k n trees same fields e =
    let c = function (code (Some x) formals body) in
    let both = and_parts (stmt_stands trees.demand n [] c) (stmts_stand trees.demand (n + stmt_scopes c) [] ss) e in
    let one = and_parts (are_plain trees.demand.opens (x ∷ [])) (function_stands trees.demand n [] (code None formals body)) both.0 in
    bind_rel (make_function_rel n [] None formals body _ None None trees (declared_code k n trees.demand.opens [] formals body same fields) outermost (all_older ready_outermost) one.1) (λ W l i m o.
    also_rel (asking_rel {R = λ W. Maybe (PropRel (named W))} (λ X j s t g. own_global_rel x g) (λ X j p q r. take_function_rel x r)) (λ X j v w r.
    also_rel (on_built_ins (λ U i there. put_in_rel window window (there window.0 window_place) x (object_value_rel _ m (named_up (larger_more j i) o)))) (λ Y i y z u.
    declare_globals_rel ss k (n + stmt_scopes c) (trees_up (larger_more l (larger_more j i)) trees) same fields both.1)))
declare_globals_rel {V = V} (then_stmt s ss) k n trees same fields e =
    subst (λ fs. Agrees V (declare_globals (functions_of (then_stmt s ss))) (declare_globals fs)) (sym (tops_passed k n s (open_tops k (n + stmt_scopes s) ss) refl))
    (declare_globals_rel ss k (n + stmt_scopes s) trees same fields (and_parts (stmt_stands trees.demand n [] s) (stmts_stand trees.demand (n + stmt_scopes s) [] ss) e).1)

pub global_variables_rel : {V : World} (xs : List (List ℕ)) → Agrees V (global_variables xs) (global_variables xs)
global_variables_rel [] = done_rel
global_variables_rel (x ∷ xs) =
    also_rel (asking_rel {R = λ W. Maybe (PropRel (named W))} (λ W l s t g. own_global_rel x g) (λ W l p q r. take_variable_rel x r)) (λ W l v w r. global_variables_rel xs)
