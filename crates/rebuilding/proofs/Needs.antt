-- A function that needs variables, made: a function of these is called with what they hold, and returns it from inside.
use Rattle.std.proofs.Common.{◌≡◌, refl, ap, subst, ◌∙◌, ℕ, suc, ◌+◌, true, List, [], ◌∷◌, ◌++◌, Option, Some, length, arith}
use Rattle.std.specs.List.{All}
use Rattle.built_in_paths.specs.Laws.{EachHasPath, PathsLead}
use Rattle.js_core.specs.Tree as tree
use Rattle.js_core.specs.Tree.{Code, func}
use Rattle.js_values.specs.declared.ids.EnvId.{EnvId}
use Rattle.js_values.specs.declared.ids.ObjId.{ObjId}
use Rattle.js_values.specs.declared.value.Value.{Value}
use Rattle.js_values.specs.declared.value.Value.TheVariants.{Object as Reference, Undefined}
use Rattle.object_heap.specs.Environment.{Bound}
use Rattle.object_heap.specs.Heap.{Contents, opened}
use Rattle.object_heap.specs.Object.{Object}
use Rattle.object_heap.specs.declared.object.Class.{Class}
use Rattle.object_shapes.specs.Links.{all_below, value_links, values_links}
use Rattle.page_meaning.specs.Act.{Act, Calls, Ended, Outcome, bind, done, on_value, ret, then_on}
use Rattle.page_meaning.specs.Calls.{begin, called, calls_at}
use Rattle.page_meaning.specs.Expressions.{eval, eval_args}
use Rattle.page_meaning.specs.Functions.{call_end, close_over, enter, object_of, with_arguments}
use Rattle.page_meaning.specs.Places.{at_place}
use Rattle.page_meaning.specs.Properties.{is_function}
use Rattle.page_meaning.specs.Statements.{exec_all}
use Rattle.page_meaning.specs.Store.{Store, with_heap}
use Rattle.page_meaning.specs.declared.signal.Signal.{Signal}
use Rattle.page_meaning.specs.declared.signal.Signal.TheVariants.{Return, Value as Val}
use Rattle.page_writer.specs.Literals.{IsLiteral, need_values}
use Rattle.page_writer.specs.Statements.{binder, giving, need_exprs, need_names, value_expr, value_exprs}
use Rattle.heap_walker.specs.Things.{needs_links}
use Rattle.rebuild_plan.specs.declared.statement.Maker.TheVariants.{Func}
use Rattle.rebuilding.specs.Scene.{IsRunning, Scene, env_at, inside, needed, none_needed}
use Rattle.rebuilding.specs.Sites.{sited_needs, sited_value, sited_values}
use Rattle.rebuilding.proofs.Calling.{also_on}
use Rattle.rebuilding.proofs.Closures.{Closes, closed_over, function_in, function_is, function_run, function_running, function_stays, names_are, names_running, names_stay, names_there, opened_same, with_function, with_environment}
use Rattle.rebuilding.proofs.Making.{Makes}
use Rattle.rebuilding.proofs.Reading.{arguments_read}
use Rattle.rebuilding.proofs.Staying.{hosting_stays, stays_on}
use Rattle.rebuild_plan.specs.Moved.{first_thing}

-- ---- what it needs, as arguments

exprs_same : (needs : List (List ℕ × Value)) → need_exprs needs ≡ value_exprs (need_values needs)
exprs_same [] = refl
exprs_same (n ∷ ns) = ap (tree.then_expr (value_expr n.1)) (exprs_same ns)

links_same : (needs : List (List ℕ × Value)) → needs_links needs ≡ values_links (need_values needs)
links_same [] = refl
links_same (n ∷ ns) = ap (λ ks. value_links n.1 ++ ks) (links_same ns)

arguments_bound : (sites : List ℕ) (needs : List (List ℕ × Value))
    → with_arguments (need_names needs) (sited_values sites (need_values needs)) ≡ sited_needs sites needs
arguments_bound sites [] = refl
arguments_bound sites (n ∷ ns) = ap (λ b. (n.0, sited_value sites n.1) ∷ b) (arguments_bound sites ns)

-- ---- the call

-- what a call makes of the value that its body returns
abbrev returned : Outcome Signal → Outcome Signal
returned o = then_on (then_on (then_on o (on_value (λ v. ret (Return v)))) (on_value (λ _. done))) (λ s. ret (call_end s))

module _ (c : Scene) (s : Store) (sites : List ℕ) (r : IsRunning c s.heap sites) (k : Code) where
  pub function_made : (calls : Calls) (n : ℕ) → Makes c s sites (Func k []) n ((eval calls (inside c) (func k)).run s n)
  function_made calls n =
      let made = closed_over c s sites r n c.env [] none_needed k in
      record {
        after = made.after;
        host = s.host;
        has_host = refl;
        hosting = hosting_stays s.heap made.after s.host made.stays;
        place = made.place;
        left = n;
        steps = omega arith;
        ends = made.ends;
        young = made.young;
        there = made.there;
        object = made.object;
        stays = made.stays;
        running = made.running;
      }

  module _ (needs : List (List ℕ × Value)) (d n : ℕ) where
    -- the function of the needed variables
    abbrev round : Code
    round = binder k needs

    abbrev env : Option EnvId
    env = Some (env_at c.env)

    abbrev place : ℕ
    place = length s.heap.objects

    -- the heap when it is made, and when it is entered
    abbrev g : Contents
    g = with_function s.heap round env

    abbrev names : Bound
    names = sited_needs sites needs

    abbrev j : Contents
    j = with_environment g c.env names

    abbrev e : ℕ
    e = length g.environments

    running : IsRunning c g sites
    running = function_running c s.heap sites r round env

    inside_running : IsRunning c j sites
    inside_running = names_running c g sites running c.env running.place.scope_there names

    closed : Closes c (with_heap s j) sites k names n ((close_over k (Some (env_at e))).run (with_heap s j) n)
    closed =
        closed_over c (with_heap s j) sites inside_running n e names
        (needed e (names_there c g sites running c.env running.place.scope_there names) (names_are c g sites running c.env running.place.scope_there names)) k

    made : (eval (calls_at (suc d)) (inside c) (func round)).run s (suc n) ≡ Ended (Val (Reference (at_place place))) (with_heap s g) (suc n)
    made = ap (λ (o : Outcome ObjId). then_on o object_of) (function_run c s.heap sites r round env s (suc n))

    entered : (vs : List Value) → with_arguments (need_names needs) vs ≡ names
        → (enter (exec_all (calls_at d)) round env Undefined vs).run (with_heap s g) n
        ≡ Ended (Val (Reference (at_place closed.place))) (with_heap s closed.after) n
    entered vs same =
        ap (λ b. then_on (Ended (env_at e) (with_heap s (opened g env b)) n) (go vs)) same
        ∙ ap (λ (y : Contents). then_on (Ended (env_at e) (with_heap s y) n) (go vs)) (opened_same c g sites running c.env running.place.scope_there names)
        ∙ ap returned closed.ends
      where
        go : List Value → EnvId → Act
        go vs q =
            bind (exec_all (calls_at d) (record { env = Some q; this = Undefined }) (giving k)) (λ t. ret (call_end t))

    call_ran : (vs : List Value) → with_arguments (need_names needs) vs ≡ names
        → ((calls_at (suc d)).call (Reference (at_place place)) Undefined vs).run (with_heap s g) (suc n)
        ≡ Ended (Val (Reference (at_place closed.place))) (with_heap s closed.after) n
    call_ran vs same =
        ap (λ (a : Class). (begin (is_function (Some a)) (called (calls_at d) Undefined vs (Some a))).run (with_heap s g) (suc n))
        (ap (λ (o : Object). o.class) (function_is c s.heap sites r round env))
        ∙ entered vs same

    pub needy_function_made : PathsLead → EachHasPath → all_below (first_thing + length sites) (needs_links needs) ≡ true
        → All IsLiteral (need_values needs)
        → Makes c s sites (Func k needs) (suc n)
        ((eval (calls_at (suc d)) (inside c) (tree.call (func (binder k needs)) (need_exprs needs))).run s (suc n))
    needy_function_made lead each stands range =
        let calls = calls_at (suc d) in
        let f : List Value → Act = calls.call (Reference (at_place place)) Undefined in
        let vs : List Value = sited_values sites (need_values needs) in
        let stand = subst (λ ks. all_below (first_thing + length sites) ks ≡ true) (links_same needs) stands in
        record {
          after = closed.after;
          host = s.host;
          has_host = refl;
          hosting = hosting_stays s.heap closed.after s.host (stays_on s.heap g closed.after [] (function_stays c s.heap sites r round env)
              (stays_on g j closed.after [] (names_stay c g sites running c.env running.place.scope_there names) closed.stays));
          place = closed.place;
          left = n;
          steps = omega arith;
          ends = also_on (λ v. eval_args calls (inside c) (need_exprs needs) [] (calls.call v Undefined)) made
              ∙ ap (λ es. (eval_args calls (inside c) es [] f).run (with_heap s g) (suc n)) (exprs_same needs)
              ∙ arguments_read c (with_heap s g) sites running calls (suc n) lead each (need_values needs) [] f range stand
              ∙ call_ran vs (arguments_bound sites needs);
          young = omega (arith, closed.young, function_in c s.heap sites r round env);
          there = closed.there;
          object = closed.object;
          stays = stays_on s.heap g closed.after [] (function_stays c s.heap sites r round env)
              (stays_on g j closed.after [] (names_stay c g sites running c.env running.place.scope_there names) closed.stays);
          running = closed.running;
        }
