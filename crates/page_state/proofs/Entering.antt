-- How a function is entered.
use Rattle.std.proofs.Common.{◌≡◌, refl, subst, ◌∙◌, ℕ, List, [], ◌∷◌, Option, Some, None}
use Rattle.code_table.specs.Declarations.{formals_of, functions_of}
use Rattle.code_table.specs.Node.{body_of}
use Rattle.js_core.specs.Tree as tree
use Rattle.js_core.specs.Tree.{code}
use Rattle.js_values.specs.declared.ids.EnvId.{EnvId}
use Rattle.js_values.specs.declared.ids.ObjId.{ObjId}
use Rattle.js_values.specs.declared.value.Value.{Value}
use Rattle.js_values.specs.declared.value.Value.TheVariants.{Object}
use Rattle.object_heap.specs.Environment.{Bound}
use Rattle.page_meaning.specs.declared.signal.Signal.{Signal}
use Rattle.page_meaning.specs.Act.{Act, Calls, Ended, bind, done, nothing, on_value, ret, then_on}
use Rattle.page_meaning.specs.Functions.{Declared, call_end, declare_functions, enter, entry_names, make_function}
use Rattle.page_meaning.specs.Names.{Here}
use Rattle.page_meaning.specs.Primitives.{bind_name, make_environment}
use Rattle.page_meaning.specs.Store.{Store}
use Rattle.page_state.specs.Does.{Does}
use Rattle.page_state.specs.Entry.{declared_in, entered}
use Rattle.page_state.proofs.Does.{bind_does}

same_store : {A : Type 0} (a b : A) (s t : Store) (n m : ℕ) → Ended a s n ≡ Ended b t m → s ≡ t
same_store a b s t n m e = cc

-- ---- declared functions

pub declared_named : (e : EnvId) (d : Option (List ℕ) × tree.Code) (x : List ℕ) (c : tree.Code) (k : ObjId) (s t u : Store) → d.0 ≡ Some x → c ≡ d.1 → Does (λ _. make_function c (Some e)) s k t
    → Does (λ _. bind_name e x (Object k)) t tt u → Does (λ _. declared_in e d done) s nothing u
declared_named e (None, b) x c k s t u named is made bound = cc
declared_named e (Some y, b) x c k s t u named is made bound =
    let same : y ≡ x = cc in
    let P : List ℕ × tree.Code → Type 0 = λ d. Does (λ _. declared_in e (Some d.0, d.1) done) s nothing u in
    let equal : (x, c) ≡ (y, b) = cc in
    subst P equal
    (bind_does (λ _. make_function c (Some e)) (λ _ k. bind (bind_name e x (Object k)) (λ _. done)) k nothing s t u made
    (bind_does (λ _. bind_name e x (Object k)) (λ _ _. done) tt nothing t u u bound (record { is = λ calls n. refl })))

pub declared_end : (e : EnvId) (ds : Declared) (s : Store) → ds ≡ [] → Does (λ _. declare_functions e ds) s nothing s
declared_end e ds s none = rw none (record { is = λ calls n. refl })

declared_first : (e : EnvId) (d : Option (List ℕ) × tree.Code) (ds : Declared) → declare_functions e (d ∷ ds) ≡ declared_in e d (declare_functions e ds)
declared_first e (None, c) ds = refl
declared_first e (Some x, c) ds = refl

declared_then : (e : EnvId) (d : Option (List ℕ) × tree.Code) (next : Act) (end : Signal) (s t u : Store) → Does (λ _. declared_in e d done) s nothing t → Does (λ _. next) t end u → Does (λ _. declared_in e d next) s end u
declared_then e (None, c) next end s t u d g = record { is = λ calls n. rw (same_store nothing nothing s t n n (d.is calls n)) (g.is calls n) }
declared_then e (Some x, c) next end s t u d g = record { is = λ calls n. rw (same_store nothing nothing _ t n n (d.is calls n)) (g.is calls n) }

-- one declared function, and then the others
pub declared_on : (e : EnvId) (d : Option (List ℕ) × tree.Code) (ds all : Declared) (s t u : Store) → all ≡ d ∷ ds → Does (λ _. declared_in e d done) s nothing t → Does (λ _. declare_functions e ds) t nothing u
    → Does (λ _. declare_functions e all) s nothing u
declared_on e d ds all s t u is one rest = rw (is, declared_first e d ds) (declared_then e d (declare_functions e ds) nothing s t u one rest)

-- ---- the environment of a call

pub entered_all : (c : tree.Code) (env : Option EnvId) (vs : List Value) (names : Bound) (ds : Declared) (e : EnvId) (s t u : Store) → names ≡ entry_names (formals_of c) (body_of c) vs → ds ≡ functions_of (body_of c)
    → Does (λ _. make_environment env names) s e t → Does (λ _. declare_functions e ds) t nothing u → Does (λ _. entered c env vs) s e u
entered_all c env vs names ds e s t u is fs made declared =
    let P : Bound → Type 0 = λ b. Does (λ _. make_environment env b) s e t in
    let Q : Declared → Type 0 = λ d. Does (λ _. declare_functions e d) t nothing u in
    bind_does (λ _. make_environment env (entry_names (formals_of c) (body_of c) vs)) (λ _ e. bind (declare_functions e (functions_of (body_of c))) (λ _. ret e)) e e s t u (subst P is made)
    (bind_does (λ _. declare_functions e (functions_of (body_of c))) (λ _ _. ret e) nothing e t u u (subst Q fs declared) (record { is = λ calls n. refl }))

-- a declared function is made without a step and never throws
all_declared : (e : EnvId) (ds : Declared) (s : Store) (n : ℕ) → (t : Store) × ((declare_functions e ds).run s n ≡ Ended nothing t n)
all_declared e [] s n = (s, refl)
all_declared e ((None, c) ∷ ds) s n = all_declared e ds s n
all_declared e ((Some x, c) ∷ ds) s n = all_declared e ds _ n

-- a call is the environment and then the body
pub enter_is : (run : Here → tree.Stmts → Act) (c : tree.Code) (env : Option EnvId) (this : Value) (vs : List Value) (s : Store) (n : ℕ)
    → (enter run c env this vs).run s n ≡ (bind (entered c env vs) (λ e. bind (run (record { env = Some e; this = this }) (body_of c)) (λ s. ret (call_end s)))).run s n
enter_is run (code x formals body) env this vs s n = by_end _ _
  where
    by_end : (e : EnvId) (t : Store) → then_on ((declare_functions e (functions_of body)).run t n) (on_value (λ _. bind (run (record { env = Some e; this = this }) body) (λ s. ret (call_end s))))
        ≡ then_on (then_on ((declare_functions e (functions_of body)).run t n) (λ _. ret e)) (λ e. bind (run (record { env = Some e; this = this }) body) (λ s. ret (call_end s)))
    by_end e t = let end = all_declared e (functions_of body) t n in rw end.1 refl

-- after the environment is made, a call is the body
pub enter_goes : (run : Here → tree.Stmts → Act) (c : tree.Code) (env : Option EnvId) (this : Value) (vs : List Value) (e : EnvId) (s t : Store) (calls : Calls) (n : ℕ) → Does (λ _. entered c env vs) s e t
    → (enter run c env this vs).run s n ≡ (bind (run (record { env = Some e; this = this }) (body_of c)) (λ s. ret (call_end s))).run t n
enter_goes run c env this vs e s t calls n d = enter_is run c env this vs s n ∙ rw (d.is calls n) refl
