-- What makes a thing, evaluated: the fresh object, in a page on which statements still run.
use Rattle.std.proofs.Common.{◌≡◌, refl, sym, ap, subst, ◌∙◌, ℕ, suc, ◌+◌, ◌<◌, ◌≤◌, Bool, true, false, nat_lt, List, [], ◌∷◌, ◌++◌, Option, Some, None, length, codes, unwrap_or, le_refl, arith}
use Rattle.std.proofs.Math.Seq.{set-append_seam}
use Rattle.std.proofs.lemmas.Bool.{and_from, and_parts}
use Rattle.std.specs.List.{All}
use Rattle.std.specs.Option.{ForSome}
use Rattle.built_in_paths.specs.Laws.{EachHasPath, PathsLead}
use Rattle.js_core.specs.Tree as tree
use Rattle.js_core.specs.Tree.{call, construct, list, name, no_exprs, no_holes, null, then_expr}
use Rattle.js_values.specs.Throw.{kind_name}
use Rattle.js_values.specs.declared.built_in.BuiltIn.TheVariants as built_in
use Rattle.js_values.specs.declared.ids.ObjId.{ObjId}
use Rattle.js_values.specs.declared.throw.ErrorKind.{ErrorKind}
use Rattle.js_values.specs.declared.throw.ErrorKind.TheVariants as kind
use Rattle.js_values.specs.declared.throw.Throw.TheVariants.{WrongArgument}
use Rattle.js_values.specs.declared.value.Value.{Value}
use Rattle.js_values.specs.declared.value.Value.TheVariants.{Object as Reference, Undefined}
use Rattle.object_heap.proofs.Callers.{new_fit, object_last}
use Rattle.object_heap.specs.Attempt.{Attempt}
use Rattle.object_heap.specs.Attempt as attempt
use Rattle.object_heap.specs.Chain.{can_put, inherited_by, may_put, object_at}
use Rattle.object_heap.specs.Define.{length_name, number, put_own}
use Rattle.object_heap.specs.Heap.{Contents, IsFit, at_object, new_object, put, with_new_object, with_objects}
use Rattle.object_heap.specs.Object.{Object, target_of}
use Rattle.object_heap.specs.Property.{own_property}
use Rattle.object_heap.specs.declared.object.Class.TheVariants as class
use Rattle.page_meaning.specs.Act.{Act, Ended, Outcome, also, choose, give, then_on}
use Rattle.page_meaning.specs.Calls.{calls_at, constructs}
use Rattle.page_meaning.specs.Convert.{number_of}
use Rattle.page_meaning.specs.Elements.{length_of}
use Rattle.page_meaning.specs.Errors.{on_refusal, raise, settle}
use Rattle.page_meaning.specs.Expressions.{eval, eval_args, eval_holes}
use Rattle.page_meaning.specs.FunctionRows.{bind_to, bound_fit, bound_object}
use Rattle.page_meaning.specs.Functions.{object_of}
use Rattle.page_meaning.specs.ObjectRows.{create, new_with, value_of_prototype, with_given}
use Rattle.page_meaning.specs.Places.{array_prototype, at_place, error_prototype, function_at, function_place, function_prototype}
use Rattle.page_meaning.specs.Primitives.{make, next_place}
use Rattle.page_meaning.specs.Properties.{get_member, is_length_of, put_in, stored}
use Rattle.page_meaning.specs.Rows.{row_of}
use Rattle.page_host.specs.HostNames.{host_name}
use Rattle.page_meaning.specs.Classes.{is_made}
use Rattle.page_meaning.specs.Store.{Store, with_heap, with_both}
use Rattle.rebuilding.proofs.Ordinary.{is_ordinary}
use Rattle.rebuilding.proofs.Ordinary.{put_free}
use Rattle.rebuilding.proofs.Paths.{plain_read}
use Rattle.page_meaning.specs.ValueRows.{silent_error, silent_fit}
use Rattle.page_meaning.specs.declared.signal.Signal.{Signal}
use Rattle.page_meaning.specs.declared.signal.Signal.TheVariants.{Value as Val}
use Rattle.page_writer.specs.Literals.{IsLiteral}
use Rattle.page_writer.specs.Statements.{maker_expr, object_function, reference, value_exprs}
use Rattle.rebuild_plan.specs.declared.statement.Maker.{Maker}
use Rattle.rebuild_plan.specs.declared.statement.Maker.TheVariants.{Bind, Fault, List as Array, Plain}
use Rattle.page_host.specs.Host.{Host}
use Rattle.rebuilding.specs.Running.{CanMake, IsMade, Stays, made_host}
use Rattle.rebuilding.specs.Scene.{IsHosting, IsRunning, Scene, inside}
use Rattle.rebuilding.specs.Sites.{sited, sited_value, sited_values}
use Rattle.rebuilding.proofs.Calling.{also_on, constructor_class, constructor_named, constructor_of, constructor_read, create_called, is_bind, is_create, native_called, native_constructed}
use Rattle.rebuilding.proofs.Reading.{arguments_read, reference_read}
use Rattle.rebuilding.proofs.Staying.{hosting_stays, low_there, made_there, make_run, none_below, running_made, site_there, some_below, stays_made}
use Rattle.rebuilding.proofs.Placed.{array_low, error_low, function_low}
use Rattle.page_meaning.specs.Places.{built_in_count}
use Rattle.object_shapes.specs.Links.{proto_links, value_links, values_links, all_below}
use Rattle.rebuild_plan.specs.Moved.{first_thing}

-- ---- what is made

-- the value of an expression is a fresh object as the maker wants it, after one step at most
pub record Makes (c : Scene) (s : Store) (sites : List ℕ) (m : Maker) (n : ℕ) (out : Outcome Signal) : Type 0 where
  pub after : Contents
  pub host : Host
  pub place : ℕ
  pub left : ℕ
  pub steps : n ≤ left + 1
  pub ends : out ≡ Ended (Val (Reference (at_place place))) (with_both s after host) left
  pub has_host : host ≡ made_host s.host m place
  pub young : length s.heap.objects ≤ place
  pub there : place < length after.objects
  pub object : IsMade c s.heap s.host after sites place m (object_at after.objects place)
  pub stays : Stays s.heap after []
  pub running : IsRunning c after sites
  pub hosting : IsHosting s.heap s.host → IsHosting after host

-- the prototype and what is bound, if there are some, are there
pub record IsReady (h : Contents) (o : Object) : Type 0 where
  pub fit : IsFit o
  pub made : is_made o.class ≡ true
  pub proto : ForSome o.proto (λ p. p.0 < length h.objects)
  pub target : ForSome (target_of o.class) (λ t. t.0 < length h.objects)

-- one object alone is made
pub makes_one : (c : Scene) (s : Store) (sites : List ℕ) (m : Maker) (n left : ℕ) (out : Outcome Signal) (o : Object) → IsRunning c s.heap sites
    → IsReady s.heap o → n ≤ left + 1
    → out ≡ Ended (Val (Reference (next_place s.heap))) (with_heap s (with_new_object s.heap o)) left
    → IsMade c s.heap s.host (with_new_object s.heap o) sites (length s.heap.objects) m o
    → s.host ≡ made_host s.host m (length s.heap.objects)
    → Makes c s sites m n out
makes_one c s sites m n left out o r ready steps ends made same = record {
  after = with_new_object s.heap o;
  host = s.host;
  has_host = same;
  place = length s.heap.objects;
  left = left;
  steps = steps;
  ends = ends;
  young = le_refl (length s.heap.objects);
  there = made_there s.heap o;
  object = subst (λ p. IsMade c s.heap s.host (with_new_object s.heap o) sites (length s.heap.objects) m p) (sym (object_last s.heap.objects o)) made;
  stays = stays_made s.heap o;
  hosting = hosting_stays s.heap (with_new_object s.heap o) s.host (stays_made s.heap o);
  running = running_made c s.heap sites o r ready.fit ready.proto ready.target;
}

pub ready_run : (o : Object) (s : Store) (n : ℕ) (ready : IsReady s.heap o)
    → (make o ready.fit ready.made).run s n ≡ Ended (next_place s.heap) (with_heap s (with_new_object s.heap o)) n
ready_run o s n ready = make_run o ready.fit ready.made s n ready.proto ready.target

-- ---- an array

abbrev new_array : Object
new_array = new_object class.List (Some array_prototype)

-- its length stays what it is
array_put : (h : Contents) → put (with_new_object h new_array) (length h.objects) length_name (number 0) ≡ attempt.done (with_new_object h new_array)
unfolding put can_put
array_put h =
    let g = with_new_object h new_array in
    ap (λ (o : Object). at_object g (length h.objects) (put_own
    (may_put o.extensible (own_property o.props length_name) (inherited_by g.objects o.proto length_name)) o length_name (number 0)))
    (object_last h.objects new_array)
    ∙ ap (λ (os : List Object). attempt.done (with_objects h os)) (set-append_seam h.objects new_array [] new_array)

length_put : (s : Store) (h : Contents) (n : ℕ)
    → (put_in (next_place h) length_name (number 0)).run (with_heap s (with_new_object h new_array)) n
    ≡ Ended (Val (number 0)) (with_heap s (with_new_object h new_array)) n
length_put s h n = by (is_length_of (with_heap s (with_new_object h new_array)) (next_place h) length_name)
  where
    stored_so : (stored (next_place h) length_name (number 0)).run (with_heap s (with_new_object h new_array)) n
        ≡ Ended (Val (number 0)) (with_heap s (with_new_object h new_array)) n
    stored_so =
        ap (λ (a : Attempt Contents). (on_refusal (give (number 0)) a.thrown).run (with_heap s a.after) n)
        (put_free (with_heap s (with_new_object h new_array)) (next_place h) length_name (number 0)
        (ap (λ (o : Object). is_ordinary o.class) (object_last h.objects new_array)) ∙ array_put h)

    by : (b : Bool)
        → (choose b (also (settle (number_of (number 0))) (stored (next_place h) length_name)) (stored (next_place h) length_name (number 0))).run
        (with_heap s (with_new_object h new_array)) n
        ≡ Ended (Val (number 0)) (with_heap s (with_new_object h new_array)) n
    by true = stored_so
    by false = stored_so

-- ---- makers, but for functions

bind_unhosted : host_name (codes "bind") ≡ None
unfolding host_name
bind_unhosted = refl

module _ (c : Scene) (s : Store) (sites : List ℕ) (r : IsRunning c s.heap sites) where
  proto_there : (p : ObjId) → p.0 < built_in_count → ForSome (Some p) (λ q. q.0 < length s.heap.objects)
  proto_there p low = some_below p (length s.heap.objects) (low_there c s.heap sites r p.0 low)

  array_ready : IsReady s.heap new_array
  array_ready = record {
    fit = new_fit class.List (Some array_prototype);
    made = refl;
    proto = proto_there array_prototype array_low;
    target = none_below (length s.heap.objects);
  }

  pub array_made : (d n : ℕ) → Makes c s sites Array n ((eval (calls_at d) (inside c) (list no_holes)).run s n)
  array_made d n =
      makes_one c s sites Array n n _ new_array r array_ready (omega arith)
      (ap (λ (o : Outcome ObjId). then_on o (λ a. eval_holes (calls_at d) (inside c) no_holes a 0)) (ready_run new_array s n array_ready)
      ∙ also_on (λ _. give (Reference (next_place s.heap))) (length_put s s.heap n)) refl refl

  plain_ready : (proto : Option ObjId) → ForSome proto (λ p. p.0 < length s.heap.objects) → IsReady s.heap (new_object class.Plain proto)
  plain_ready proto there = record { fit = new_fit class.Plain proto; made = refl; proto = there; target = none_below (length s.heap.objects) }

  error_ready : (k : ErrorKind) → IsReady s.heap (silent_error k)
  error_ready k = record { fit = silent_fit k; made = refl; proto = proto_there (error_prototype k) (error_low k); target = none_below (length s.heap.objects) }

  error_row : (d n : ℕ) (k : ErrorKind) → (row_of (calls_at d) true (constructor_of k) Undefined []).run s n
      ≡ Ended (Val (Reference (next_place s.heap))) (with_heap s (with_new_object s.heap (silent_error k))) n
  error_row d n kind.Plain = ap (λ (o : Outcome ObjId). then_on o object_of) (ready_run (silent_error kind.Plain) s n (error_ready kind.Plain))
  error_row d n kind.Type = ap (λ (o : Outcome ObjId). then_on o object_of) (ready_run (silent_error kind.Type) s n (error_ready kind.Type))
  error_row d n kind.Range = ap (λ (o : Outcome ObjId). then_on o object_of) (ready_run (silent_error kind.Range) s n (error_ready kind.Range))
  error_row d n kind.Reference =
      ap (λ (o : Outcome ObjId). then_on o object_of)
      (ready_run (silent_error kind.Reference) s n (error_ready kind.Reference))

  error_constructs : (k : ErrorKind) → constructs (constructor_of k) ≡ true
  error_constructs kind.Plain = refl
  error_constructs kind.Type = refl
  error_constructs kind.Range = refl
  error_constructs kind.Reference = refl

  pub error_made : (d n : ℕ) (k : ErrorKind)
      → Makes c s sites (Fault k) (suc n) ((eval (calls_at (suc d)) (inside c) (construct (name (kind_name k)) no_exprs)).run s (suc n))
  error_made d n k =
      let calls = calls_at (suc d) in
      makes_one c s sites (Fault k) (suc n) n _ (silent_error k) r (error_ready k) (omega arith)
      (also_on (λ f. eval_args calls (inside c) no_exprs [] (calls.construct f))
      (constructor_read c s sites r calls (suc n) (kind_name k) (constructor_of k) (constructor_named k))
      ∙ native_constructed d (constructor_of k) (function_place (constructor_of k)) [] s n (constructor_class c s sites r k) (error_constructs k)
      ∙ error_row d n k) refl refl

  module _ (lead : PathsLead) (each : EachHasPath) (d n : ℕ) where
    -- `Object.create`, where the prototype is this value
    created : (e : tree.Expr) (proto : Option ObjId)
        → (eval (calls_at (suc d)) (inside c) e).run s (suc n) ≡ Ended (Val (value_of_prototype proto)) s (suc n)
        → ForSome proto (λ p. p.0 < length s.heap.objects)
        → (create (value_of_prototype proto) Undefined).run s n
        ≡ Ended (Val (Reference (next_place s.heap))) (with_heap s (with_new_object s.heap (new_object class.Plain proto))) n
        → (eval (calls_at (suc d)) (inside c) (call (object_function (codes "create")) (then_expr e no_exprs))).run s (suc n)
        ≡ Ended (Val (Reference (next_place s.heap))) (with_heap s (with_new_object s.heap (new_object class.Plain proto))) n
    created e proto read there ends =
        let calls = calls_at (suc d) in
        let f : List Value → Act = calls.call (Reference (function_at built_in.ObjectCreate)) (Reference (function_at built_in.Object)) in
        create_called c s sites r calls (suc n) (then_expr e no_exprs)
        ∙ also_on (λ v. f (v ∷ [])) read
        ∙ native_called d built_in.ObjectCreate (function_place built_in.ObjectCreate) (Reference (function_at built_in.Object))
        (value_of_prototype proto ∷ []) s n (is_create c s sites r)
        ∙ ends

    plain_run : (proto : Option ObjId) → ForSome proto (λ p. p.0 < length s.heap.objects)
        → (new_with proto Undefined).run s n
        ≡ Ended (Val (Reference (next_place s.heap))) (with_heap s (with_new_object s.heap (new_object class.Plain proto))) n
    plain_run proto there =
        ap (λ (o : Outcome ObjId). then_on o (with_given Undefined))
        (ready_run (new_object class.Plain proto) s n (plain_ready proto there))

    pub plain_made : (proto : Option ObjId) → all_below (first_thing + length sites) (proto_links proto) ≡ true
        → Makes c s sites (Plain proto) (suc n) ((eval (calls_at (suc d)) (inside c) (maker_expr (Plain proto))).run s (suc n))
    plain_made None stands =
        let there : ForSome None (λ (p : ObjId). p.0 < length s.heap.objects) = none_below (length s.heap.objects) in
        makes_one c s sites (Plain None) (suc n) n _ (new_object class.Plain None) r (plain_ready None there) (omega arith)
        (created null None refl there (plain_run None there)) refl refl
    plain_made (Some at) stands =
        let p = sited sites at in
        let below : nat_lt at.0 (first_thing + length sites) ≡ true = (and_parts (nat_lt at.0 (first_thing + length sites)) true stands).0 in
        let there : ForSome (Some p) (λ (q : ObjId). q.0 < length s.heap.objects) = some_below p (length s.heap.objects)
        (site_there c s.heap sites r at.0 below) in
        makes_one c s sites (Plain (Some at)) (suc n) n _ (new_object class.Plain (Some p)) r (plain_ready (Some p) there) (omega arith)
        (created (reference at) (Some p) (reference_read c s sites r (calls_at (suc d)) (suc n) lead each at stands) there
        (plain_run (Some p) there)) refl refl

    pub bound_made : (target : ObjId) (this : Value) (args : List Value)
        → all_below (first_thing + length sites) (target.0 ∷ (value_links this ++ values_links args)) ≡ true
        → All IsLiteral (this ∷ args) → CanMake s.heap sites (Bind target this args)
        → Makes c s sites (Bind target this args) (suc n) ((eval (calls_at (suc d)) (inside c) (maker_expr (Bind target this args))).run s (suc n))
    bound_made target this args stands range able =
        let calls = calls_at (suc d) in
        let at = sited sites target in
        let base : Value = Reference at in
        let f : Value = Reference (function_at built_in.FunctionPrototypeBind) in
        let vs = sited_values sites (this ∷ args) in
        let o = bound_object at (sited_value sites this) (sited_values sites args) (length_of at s) in
        let parts = and_parts (nat_lt target.0 (first_thing + length sites))
        (all_below (first_thing + length sites) (value_links this ++ values_links args)) stands in
        let ready : IsReady s.heap o = record {
          fit = bound_fit at (sited_value sites this) (sited_values sites args) (length_of at s);
          made = refl;
          proto = proto_there function_prototype function_low;
          target = some_below at (length s.heap.objects) (site_there c s.heap sites r target.0 parts.0);
        } in
        makes_one c s sites (Bind target this args) (suc n) n _ o r ready (omega arith)
        (also_on (λ b. also (get_member b (codes "bind")) (λ g. eval_args calls (inside c) (value_exprs (this ∷ args)) [] (calls.call g b)))
        (reference_read c s sites r calls (suc n) lead each target (and_from (nat_lt target.0 (first_thing + length sites)) true parts.0 refl))
        ∙ also_on (λ g. eval_args calls (inside c) (value_exprs (this ∷ args)) [] (calls.call g base))
        (plain_read c s sites r calls (suc n) at (codes "bind") bind_unhosted ∙ ap (λ (v : Option Value). Ended (Val (unwrap_or v Undefined)) s (suc n)) able.1)
        ∙ arguments_read c s sites r calls (suc n) lead each (this ∷ args) [] (calls.call f base) range parts.1
        ∙ native_called d built_in.FunctionPrototypeBind (function_place built_in.FunctionPrototypeBind) base vs s n (is_bind c s sites r)
        ∙ ap (λ b. (choose b (bind_to at (sited_value sites this) (sited_values sites args)) (raise WrongArgument)).run s n) able.0
        ∙ ap (λ (x : Outcome ObjId). then_on x object_of) (ready_run o s n ready)) refl refl
