-- What a function expression gives, and what a construction begins with.
use Rattle.std.proofs.Common.{◌≡◌, refl, ap, subst, ◌∙◌, ℕ, List, [], ◌∷◌, ◌++◌, Option, Some, None, Result, Ok, Err, IfOk, codes}
use Rattle.code_table.specs.Declarations.{name_of}
use Rattle.js_core.specs.Tree as tree
use Rattle.js_core.specs.Tree.{code}
use Rattle.js_core.specs.declared.memory.OutOfMemory.{OutOfMemory}
use Rattle.js_values.specs.declared.ids.EnvId.{EnvId}
use Rattle.js_values.specs.declared.ids.ObjId.{ObjId}
use Rattle.js_values.specs.declared.value.Value.{Value}
use Rattle.js_values.specs.declared.value.Value.TheVariants.{Undefined, Object}
use Rattle.object_heap.specs.declared.object.Class.TheVariants.{Plain}
use Rattle.object_heap.specs.Environment.{Bound}
use Rattle.object_heap.specs.Heap.{new_object}
use Rattle.page_meaning.specs.declared.signal.Signal.TheVariants.{Value as Val}
use Rattle.page_meaning.specs.Act.{Calls, Outcome, also, bind, give, then_on}
use Rattle.page_meaning.specs.Calls.{build, built, object_or}
use Rattle.page_meaning.specs.Functions.{close_over, enter, make_function, object_of}
use Rattle.page_meaning.specs.Places.{object_prototype}
use Rattle.page_meaning.specs.Primitives.{bind_name, make, make_environment}
use Rattle.page_host.specs.HostNames.{host_name}
use Rattle.page_meaning.specs.Reading.{get_at}
use Rattle.page_meaning.specs.Statements.{exec_all}
use Rattle.page_meaning.specs.Store.{Store}
use Rattle.page_state.specs.Does.{Does}
use Rattle.page_state.specs.Functions.{closed_over, fresh_for}
use Rattle.object_heap.proofs.Callers.{new_fit}
use Rattle.page_state.proofs.Does.{asked_does, bind_does, given}

-- a function is closed over by its name
pub closed : (c : tree.Code) (env : Option EnvId) → close_over c env ≡ closed_over (name_of c) c env
closed (code None formals body) env = refl
closed (code (Some x) formals body) env = refl

pub closed_unnamed : (c : tree.Code) (env : Option EnvId) (s t : Store) (o : Option (List ℕ)) (r : Result ObjId OutOfMemory) → o ≡ name_of c → o ≡ None → IfOk r (λ k. Does (λ _. make_function c env) s k t)
    → IfOk r (λ k. Does (λ _. close_over c env) s (Val (Object k)) t)
closed_unnamed c env s t o (Ok k) is none d =
    rw (closed c env, ← is, none) (bind_does (λ _. make_function c env) (λ _. object_of) k (Val (Object k)) s t t d (record { is = λ calls n. refl }))
closed_unnamed c env s t o (Err e) is none d = tt

pub closed_as : (c : tree.Code) (env : Option EnvId) (s t : Store) (o : Option (List ℕ)) (x : List ℕ) (r : Result ObjId OutOfMemory) → o ≡ name_of c → o ≡ Some x → IfOk r (λ k. Does (λ _. closed_over (Some x) c env) s (Val (Object k)) t)
    → IfOk r (λ k. Does (λ _. close_over c env) s (Val (Object k)) t)
closed_as c env s t o x (Ok k) is some d = rw (closed c env, ← is, some) d
closed_as c env s t o x (Err e) is some d = tt

-- a name alone
pub one_bound : (names old : Bound) (x y : List ℕ) → names ≡ old ++ (y, Undefined) ∷ [] → old ≡ [] → y ≡ x → names ≡ (x, Undefined) ∷ []
one_bound names old x y pushed none is = pushed ∙ rw (none, is) refl

pub closed_named : (c : tree.Code) (env : Option EnvId) (x : List ℕ) (names : Bound) (e : EnvId) (k : ObjId) (s t u v : Store) → names ≡ (x, Undefined) ∷ []
    → Does (λ _. make_environment env names) s e t → Does (λ _. make_function c (Some e)) t k u → Does (λ _. bind_name e x (Object k)) u tt v
    → Does (λ _. closed_over (Some x) c env) s (Val (Object k)) v
closed_named c env x names e k s t u v one made new bound =
    let P : Bound → Type 0 = λ b. Does (λ _. make_environment env b) s e t in
    bind_does (λ _. make_environment env ((x, Undefined) ∷ [])) (λ _ e. bind (make_function c (Some e)) (λ k. bind (bind_name e x (Object k)) (λ _. give (Object k)))) e (Val (Object k)) s t v (subst P one made)
    (bind_does (λ _. make_function c (Some e)) (λ _ k. bind (bind_name e x (Object k)) (λ _. give (Object k))) k (Val (Object k)) t u v new
    (bind_does (λ _. bind_name e x (Object k)) (λ _ _. give (Object k)) tt (Val (Object k)) u v v bound (given (Object k) v)))

-- ---- what a construction begins with

pub fresh_made : (f : ObjId) (name : List ℕ) (found : Value) (p : ObjId) (s t : Store) (r : Result ObjId OutOfMemory) → name ≡ codes "prototype" → found ≡ get_at s f name → p ≡ object_or object_prototype found
    → IfOk r (λ at. Does (λ _. make (new_object Plain (Some p)) (new_fit Plain (Some p)) refl) s at t) → IfOk r (λ at. Does (λ _. fresh_for f) s at t)
fresh_made f name found p s t (Ok at) named read is d =
    let P : ObjId → Type 0 = λ q. Does (λ _. make (new_object Plain (Some q)) (new_fit Plain (Some q)) refl) s at t in
    let proto : p ≡ object_or object_prototype (get_at s f (codes "prototype")) = is ∙ ap (object_or object_prototype) (read ∙ ap (get_at s f) named) in
    asked_does (λ s. object_or object_prototype (get_at s f (codes "prototype"))) (λ _ q. make (new_object Plain (Some q)) (new_fit Plain (Some q)) refl) at s t (subst P proto d)
fresh_made f name found p s t (Err e) named read is d = tt

-- no host name is called so
prototype_no_host : host_name (codes "prototype") ≡ None
unfolding host_name
prototype_no_host = refl

-- once the object is made, a construction is the call on it
pub build_goes : (calls : Calls) (f : ObjId) (c : tree.Code) (env : Option EnvId) (vs : List Value) (o : ObjId) (s t : Store) (n : ℕ) → Does (λ _. fresh_for f) s o t
    → (build calls (Object f) c env vs).run s n ≡ (also (enter (exec_all calls) c env (Object o) vs) (λ v. give (built o v))).run t n
build_goes calls f c env vs o s t n d =
    rw prototype_no_host (ap (λ (m : Outcome ObjId). then_on m (λ o. also (enter (exec_all calls) c env (Object o) vs) (λ v. give (built o v)))) (d.is calls n))
