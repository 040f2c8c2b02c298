-- A function expression, evaluated in the environment that binds what it needs: the function and its `prototype`, and where it has a name an
-- environment that binds the name to it.
use Rattle.std.proofs.Common.{◌≡◌, refl, sym, ap, subst, ◌∙◌, ℕ, ◌+◌, ◌<◌, ◌≤◌, cond, List, [], ◌∷◌, ◌++◌, Option, Some, None, length, le_refl, length-append, length-set, arith}
use Rattle.std.proofs.lemmas.Slice.Eq.{bytes_eq-Decides}
use Rattle.std.specs.Option.{ForSome}
use Rattle.js_core.specs.Tree.{Code, code}
use Rattle.js_values.specs.declared.ids.EnvId.{EnvId}
use Rattle.js_values.specs.declared.ids.ObjId.{ObjId}
use Rattle.js_values.specs.declared.value.Value.{Value}
use Rattle.js_values.specs.declared.value.Value.TheVariants.{Object as Reference, Undefined}
use Rattle.object_heap.proofs.Callers.{environment_before, environment_last, environment_set_other, environment_set_same, inside_same, object_before, object_last, settled_same, sound_opened, sound_set}
use Rattle.object_heap.specs.Chain.{object_at}
use Rattle.object_heap.specs.Environment.{Bound, Environment, environment_at, new_environment, with_bound}
use Rattle.object_heap.specs.Heap.{Contents, IsSound, made, opened, set, with_new_environment, with_new_object}
use Rattle.object_heap.specs.Object.{Object, target_of}
use Rattle.page_meaning.specs.Act.{Ended, Outcome, bind, give, then_on}
use Rattle.page_meaning.specs.Functions.{close_over, function_fit, function_object, make_function, object_of, prototype_fit, prototype_object}
use Rattle.page_meaning.specs.Places.{at_place, function_prototype, object_prototype}
use Rattle.page_meaning.specs.Primitives.{bind_name, next_place}
use Rattle.page_meaning.specs.Store.{Store, with_heap}
use Rattle.page_meaning.specs.declared.signal.Signal.{Signal}
use Rattle.page_meaning.specs.declared.signal.Signal.TheVariants.{Value as Val}
use Rattle.rebuilding.specs.Running.{IsFunction, Stays}
use Rattle.rebuilding.specs.Scene.{IsBinding, IsRunning, Scene, bare, env_at, named, needed, none_needed}
use Rattle.rebuilding.proofs.Lasting.{binding_stays}
use Rattle.rebuilding.proofs.Staying.{low_there, made_there, none_below, running_after, running_made, some_below, stays_made, stays_on}
use Rattle.rebuilding.proofs.Placed.{function_low}
use Rattle.page_meaning.specs.Places.{built_in_count}

-- ---- a function and its `prototype`

abbrev pub with_function : Contents → Code → Option EnvId → Contents
with_function h k env = with_new_object (with_new_object h (function_object k env (length h.objects + 1))) (prototype_object (length h.objects))

made_same : (h : Contents) (o : Object) → ForSome o.proto (λ p. p.0 < length h.objects) → ForSome (target_of o.class) (λ t. t.0 < length h.objects)
    → made h o ≡ with_new_object h o
made_same h o proto target = ap (with_new_object h) (settled_same (length h.objects) o proto target)

object_low : object_prototype.0 < built_in_count
unfolding built_in_count
object_low = omega arith

module _ (c : Scene) (h : Contents) (sites : List ℕ) (r : IsRunning c h sites) (k : Code) (env : Option EnvId) where
  function_there : ForSome (Some function_prototype) (λ q. q.0 < length h.objects)
  function_there = some_below function_prototype (length h.objects) (low_there c h sites r function_prototype.0 function_low)

  with_object_running : IsRunning c (with_new_object h (function_object k env (length h.objects + 1))) sites
  with_object_running =
      running_made c h sites (function_object k env (length h.objects + 1)) r (function_fit k env (length h.objects + 1)) function_there
      (none_below (length h.objects))

  prototype_there : ForSome (Some object_prototype) (λ q. q.0 < length (with_new_object h (function_object k env (length h.objects + 1))).objects)
  prototype_there =
      let g = with_new_object h (function_object k env (length h.objects + 1)) in
      some_below object_prototype (length g.objects) (low_there c g sites with_object_running object_prototype.0 object_low)

  pub function_running : IsRunning c (with_function h k env) sites
  function_running =
      let g = with_new_object h (function_object k env (length h.objects + 1)) in
      running_made c g sites (prototype_object (length h.objects)) with_object_running (prototype_fit (length h.objects)) prototype_there
      (none_below (length g.objects))

  pub function_stays : Stays h (with_function h k env) []
  function_stays =
      let g = with_new_object h (function_object k env (length h.objects + 1)) in
      stays_on h g (with_function h k env) [] (stays_made h (function_object k env (length h.objects + 1)))
      (stays_made g (prototype_object (length h.objects)))

  pub function_is : object_at (with_function h k env).objects (length h.objects) ≡ function_object k env (length h.objects + 1)
  function_is =
      let f = function_object k env (length h.objects + 1) in
      object_before (h.objects ++ f ∷ []) (prototype_object (length h.objects)) (length h.objects) (made_there h f) ∙ object_last h.objects f

  pub function_in : length h.objects < length (with_function h k env).objects
  function_in =
      let f = function_object k env (length h.objects + 1) in
      omega (arith, made_there h f, made_there (with_new_object h f) (prototype_object (length h.objects)))

  function_heap : made (made h (function_object k env (length h.objects + 1))) (prototype_object (length h.objects)) ≡ with_function h k env
  function_heap =
      let f = function_object k env (length h.objects + 1) in
      let g = with_new_object h f in
      ap (λ (x : Contents). made x (prototype_object (length h.objects))) (made_same h f function_there (none_below (length h.objects)))
      ∙ made_same g (prototype_object (length h.objects)) prototype_there (none_below (length g.objects))

  pub function_run : (s : Store) (n : ℕ) → (make_function k env).run (with_heap s h) n ≡ Ended (next_place h) (with_heap s (with_function h k env)) n
  function_run s n = ap (λ (g : Contents). Ended (next_place h) (with_heap s g) n) function_heap

-- ---- an environment more

abbrev pub with_environment : Contents → ℕ → Bound → Contents
with_environment h b names = with_new_environment h (new_environment (Some (env_at b)) names)

env_below : (e : EnvId) (k : ℕ) → e.0 < k → ForSome (Some e) (λ q. q.0 < k)
env_below e k h q i = let same : e ≡ q = cc i in subst (λ (x : EnvId). x.0 < k) same h

module _ (c : Scene) (h : Contents) (sites : List ℕ) (r : IsRunning c h sites) (b : ℕ) (below : b < length h.environments) (names : Bound) where
  pub opened_same : opened h (Some (env_at b)) names ≡ with_environment h b names
  opened_same =
      ap (λ (e : Option EnvId). with_new_environment h (new_environment e names))
      (inside_same (length h.environments) (Some (env_at b)) (env_below (env_at b) (length h.environments) below))

  pub names_stay : Stays h (with_environment h b names) []
  names_stay = record {
    more = le_refl (length h.objects);
    objects = λ j there other. refl;
    more_environments = omega (arith, length-append h.environments (new_environment (Some (env_at b)) names ∷ []));
    environments = λ j there. environment_before h.environments (new_environment (Some (env_at b)) names) j there;
  }

  pub names_running : IsRunning c (with_environment h b names) sites
  names_running =
      running_after c h (with_environment h b names) sites r (subst IsSound opened_same (sound_opened h r.place.sound (Some (env_at b)) names)) names_stay

  pub names_there : length h.environments < length (with_environment h b names).environments
  names_there = omega (arith, length-append h.environments (new_environment (Some (env_at b)) names ∷ []))

  pub names_are : environment_at (with_environment h b names).environments (length h.environments) ≡ new_environment (Some (env_at b)) names
  names_are = environment_last h.environments (new_environment (Some (env_at b)) names)

set_objects : (h : Contents) (e : ℕ) (x : List ℕ) (v : Value) → (set h e x v).objects ≡ h.objects
unfolding set
set_objects h e x v = refl

set_count : (h : Contents) (e : ℕ) (x : List ℕ) (v : Value) → length (set h e x v).environments ≡ length h.environments
unfolding set
set_count h e x v = length-set h.environments e (with_bound (environment_at h.environments e) x v)

bound_only : (outer : Option EnvId) (x : List ℕ) (u v : Value)
    → with_bound (new_environment outer ((x, u) ∷ [])) x v ≡ new_environment outer ((x, v) ∷ [])
bound_only outer x u v = ap (λ b. new_environment outer (cond b ((x, v) ∷ []) ((x, u) ∷ []))) ((bytes_eq-Decides x x).1 refl)

-- where a young environment changes, what was there stays
stays_set : (h g : Contents) (e : ℕ) (x : List ℕ) (v : Value) → Stays h g [] → length h.environments ≤ e → Stays h (set g e x v) []
stays_set h g e x v f young = record {
  more = subst (λ (os : List Object). length h.objects ≤ length os) (sym (set_objects g e x v)) f.more;
  objects = λ k there other. ap (λ (os : List Object). object_at os k) (set_objects g e x v) ∙ f.objects k there other;
  more_environments = omega (arith, f.more_environments, set_count g e x v);
  environments = λ k there. environment_set_other g e k x v (λ same. omega (arith, same, there, young)) ∙ f.environments k there;
}

-- ---- the expression

-- its value is a fresh function, round which these names are bound
pub record Closes (c : Scene) (s : Store) (sites : List ℕ) (k : Code) (needs : Bound) (n : ℕ) (out : Outcome Signal) : Type 0 where
  pub after : Contents
  pub place : ℕ
  pub ends : out ≡ Ended (Val (Reference (at_place place))) (with_heap s after) n
  pub young : length s.heap.objects ≤ place
  pub there : place < length after.objects
  pub object : IsFunction c after place k needs (object_at after.objects place)
  pub stays : Stays s.heap after []
  pub running : IsRunning c after sites

pub binding_there : (c : Scene) (h : Contents) (sites : List ℕ) (needs : Bound) (b : ℕ) → IsRunning c h sites → IsBinding c h.environments needs b
    → b < length h.environments
binding_there c h sites needs b r none_needed = r.place.scope_there
binding_there c h sites needs b r (needed e there is) = there

binding_on : (c : Scene) (h i : Contents) (needs : Bound) (b : ℕ) → Stays h i [] → IsBinding c h.environments needs b
    → IsBinding c i.environments needs b
binding_on c h i needs b stays is = binding_stays c h.environments i.environments stays.more_environments stays.environments is

module _ (c : Scene) (s : Store) (sites : List ℕ) (r : IsRunning c s.heap sites) (n b : ℕ) (needs : Bound)
    (binds : IsBinding c s.heap.environments needs b) where
  below : b < length s.heap.environments
  below = binding_there c s.heap sites needs b r binds

  pub closed_over : (k : Code) → Closes c s sites k needs n ((close_over k (Some (env_at b))).run s n)
  closed_over (code None formals body) =
      let k : Code = code None formals body in
      let h = s.heap in
      let env = Some (env_at b) in
      let stays = function_stays c h sites r k env in
      record {
        after = with_function h k env;
        place = length h.objects;
        ends = ap (λ (o : Outcome ObjId). then_on o object_of) (function_run c h sites r k env s n);
        young = le_refl (length h.objects);
        there = function_in c h sites r k env;
        object = record {
          round = env;
          prototype = length h.objects + 1;
          object = function_is c h sites r k env;
          is_round = bare (binding_on c h (with_function h k env) needs b stays binds);
        };
        stays = stays;
        running = function_running c h sites r k env;
      }
  closed_over (code (Some x) formals body) =
      let k : Code = code (Some x) formals body in
      let h = s.heap in
      let e = length h.environments in
      let env = Some (env_at e) in
      let names : Bound = (x, Undefined) ∷ [] in
      let g = with_environment h b names in
      let named_page = names_running c h sites r b below names in
      let f = with_function g k env in
      let v : Value = Reference (at_place (length h.objects)) in
      let i = set f e x v in
      let stays : Stays h f [] = stays_on h g f [] (names_stay c h sites r b below names) (function_stays c g sites named_page k env) in
      let there : e < length f.environments = names_there c h sites r b below names in
      let is_bound : environment_at i.environments e ≡ new_environment (Some (env_at b)) ((x, v) ∷ []) =
      environment_set_same f e x v there
      ∙ ap (λ (q : Environment). with_bound q x v) (names_are c h sites r b below names)
      ∙ bound_only (Some (env_at b)) x Undefined v
      in
      let still : Stays h i [] = stays_set h f e x v stays (le_refl e) in
      record {
        after = i;
        place = length h.objects;
        ends = ap (λ (y : Contents). then_on (Ended (env_at e) (with_heap s y) n)
            (λ (q : EnvId). bind (make_function k (Some q)) (λ p. bind (bind_name q x (Reference p)) (λ _. give (Reference p)))))
            (opened_same c h sites r b below names)
            ∙ ap (λ (o : Outcome ObjId). then_on o (λ p. bind (bind_name (env_at e) x (Reference p)) (λ _. give (Reference p))))
            (function_run c g sites named_page k env s n);
        young = le_refl (length h.objects);
        there = subst (λ (os : List Object). length h.objects < length os) (sym (set_objects f e x v)) (function_in c g sites named_page k env);
        object = record {
          round = env;
          prototype = length h.objects + 1;
          object = ap (λ (os : List Object). object_at os (length h.objects)) (set_objects f e x v) ∙ function_is c g sites named_page k env;
          is_round = named e (binding_on c h i needs b still binds) (subst (λ m. e < m) (sym (set_count f e x v)) there) is_bound;
        };
        stays = still;
        running = running_after c h i sites r (sound_set f (function_running c g sites named_page k env).place.sound e x v) still;
      }
