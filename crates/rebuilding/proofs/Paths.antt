-- Names and paths in a running scene: the name of the list, names of the global object, and paths of built-in objects.
use Rattle.std.proofs.Common.{◌≡◌, ◌⊎◌, inl, inr, refl, sym, ap, ◌∙◌, ℕ, zero, suc, ◌<◌, ◌≤◌, Bool, true, false, cond, is_some, List, [], ◌∷◌, ◌++◌, Option, Some, None, length, codes, bytes_eq, nat_eq, if◌then◌else◌, unwrap_or, arith}
use Rattle.std.proofs.lemmas.Bool.{cases_lt, cond-true, cond-false}
use Rattle.std.proofs.lemmas.Option.{none-some, same_Some}
use Rattle.std.proofs.lemmas.Slice.Eq.{bytes_eq-Decides}
use Rattle.std.specs.Map.{lookup as find}
use Rattle.std.specs.Option.{option_and_then, option_map}
use Rattle.built_in_paths.specs.Laws.{PathsLead}
use Rattle.built_in_paths.specs.Paths.{dot, held_by, led_from, names_of, path_of, place_of, with_unit}
use Rattle.js_core.specs.Tree as tree
use Rattle.js_core.specs.Tree.{member, name}
use Rattle.js_values.specs.declared.ids.EnvId.{EnvId}
use Rattle.js_values.specs.declared.ids.ObjId.{ObjId}
use Rattle.js_values.specs.declared.value.Value.{Value}
use Rattle.js_values.specs.declared.value.Value.TheVariants as value
use Rattle.js_values.specs.declared.value.Value.TheVariants.{Object as Reference, Undefined}
use Rattle.object_heap.proofs.Callers.{lookup_on, object_absent, property_on}
use Rattle.object_heap.specs.Chain.{first_found, get_property, object_at}
use Rattle.object_heap.specs.Environment.{Environment, value_of}
use Rattle.object_heap.specs.Heap.{first_bound, lookup}
use Rattle.object_heap.specs.Object.{Object}
use Rattle.object_heap.specs.Property.{Props, own_property}
use Rattle.object_heap.specs.declared.property.Prop.{Prop}
use Rattle.page_meaning.specs.Act.{Calls, Ended, Outcome, on_value, then_on}
use Rattle.page_meaning.specs.Expressions.{eval}
use Rattle.page_meaning.specs.Names.{found_or_raise, global_or_not, held, read, read_name, resolved}
use Rattle.page_meaning.specs.Places.{at_place, window}
use Rattle.page_meaning.specs.Pristine.{built_ins}
use Rattle.page_host.specs.HostNames.{host_name}
use Rattle.page_host.specs.declared.host_name.HostName.{HostName}
use Rattle.page_meaning.specs.Errors.{settle}
use Rattle.page_meaning.specs.Properties.{get_member}
use Rattle.page_meaning.specs.Reading.{get_at, named_at, read_property}
use Rattle.page_meaning.specs.Store.{Store}
use Rattle.page_meaning.specs.declared.signal.Signal.{Signal}
use Rattle.page_meaning.specs.declared.signal.Signal.TheVariants.{Value as Val}
use Rattle.page_writer.specs.Statements.{path_expr, path_from}
use Rattle.rebuilding.specs.Scene.{IsRunning, Scene, env_at, inside}
use Rattle.object_shapes.specs.Shapes.{built_in_at}
use Rattle.rebuilding.proofs.Ordinary.{built_in_unhosted}
use Rattle.page_meaning.specs.Places.{built_in_count}

-- ---- what is held in a page before its scripts

pub built_ins_count : length built_ins ≡ built_in_count
unfolding built_in_count
built_ins_count = refl

-- a property that holds an object
pub record Holds (o : Option Prop) (j : ℕ) : Type 0 where
  pub prop : Prop
  pub there : o ≡ Some prop
  pub holds : prop.value ≡ Reference (at_place j)

value_at : (v : Value) (j : ℕ) → place_of v ≡ Some j → v ≡ Reference (at_place j)
value_at (value.Object at) j h = ap (λ k. Reference (at_place k)) (same_Some at.0 j h)
value_at v j h = absurd (none-some j h)

holds_at : (o : Option Prop) (j : ℕ) → option_and_then (λ p. place_of p.value) o ≡ Some j → Holds o j
holds_at None j h = absurd (none-some j h)
holds_at (Some p) j h = record { prop = p; there = refl; holds = value_at p.value j h }

-- no global has the name of the list
no_list_name : held_by built_ins window.0 (codes "$$") ≡ None
no_list_name = refl

other_name : (x : List ℕ) (j : ℕ) → held_by built_ins window.0 x ≡ Some j → bytes_eq x (codes "$$") ≡ false
other_name x j h = by (bytes_eq x (codes "$$")) refl
  where
    by : (b : Bool) → bytes_eq x (codes "$$") ≡ b → bytes_eq x (codes "$$") ≡ false
    by false e = e
    by true e =
        let same : x ≡ codes "$$" = (bytes_eq-Decides x (codes "$$")).0 e in
        absurd (none-some j (sym no_list_name ∙ ap (held_by built_ins window.0) (sym same) ∙ h))

found_before : (test : List ℕ → Bool) (ps qs : Props) (p : Prop) → find test ps ≡ Some p → find test (ps ++ qs) ≡ Some p
found_before test [] qs p h = absurd (none-some p h)
found_before test (e ∷ es) qs p h = by (test e.0) refl (λ g. found_before test es qs p g)
  where
    by : (b : Bool) → test e.0 ≡ b → (find test es ≡ Some p → find test (es ++ qs) ≡ Some p) → find test ((e ∷ es) ++ qs) ≡ Some p
    by true t more = cond-true (test e.0) _ _ t ∙ (sym (cond-true (test e.0) _ _ t) ∙ h)
    by false t more = cond-false (test e.0) _ _ t ∙ more (sym (cond-false (test e.0) _ _ t) ∙ h)

-- a path has a name
some_names : (path : List ℕ) → names_of path ≡ [] → ⊥
some_names [] h = cc h
some_names (unit ∷ units) h = by (nat_eq unit dot) (names_of units) h
  where
    by : (b : Bool) (ns : List (List ℕ)) → (if b then [] ∷ ns else with_unit unit ns) ≡ [] → ⊥
    by true ns e = cc e
    by false [] e = cc e
    by false (x ∷ xs) e = cc e

-- ---- names and members

module _ (c : Scene) (s : Store) (sites : List ℕ) (r : IsRunning c s.heap sites) where
  -- the name of the list is bound in the environment of the scene
  list_bound : lookup s.heap.environments c.env (codes "$$") ≡ Some (env_at c.env, Reference (at_place c.list))
  list_bound =
      lookup_on s.heap.environments c.env (codes "$$") r.place.sound.environments
      ∙ ap (λ (e : Environment). first_bound c.env (value_of e.names (codes "$$")) e.outer (λ q. lookup s.heap.environments q (codes "$$"))) r.place.scope

  -- and no other one
  other_unbound : (x : List ℕ) → bytes_eq x (codes "$$") ≡ false → lookup s.heap.environments c.env x ≡ None
  other_unbound x far =
      lookup_on s.heap.environments c.env x r.place.sound.environments
      ∙ ap (λ (e : Environment). first_bound c.env (value_of e.names x) e.outer (λ q. lookup s.heap.environments q x)) r.place.scope
      ∙ ap (λ b. first_bound c.env (cond b (Some (Reference (at_place c.list))) None) None (λ q. lookup s.heap.environments q x)) far

  pub list_read : (n : ℕ) → (read_name (inside c) (codes "$$")).run s n ≡ Ended (Val (Reference (at_place c.list))) s n
  list_read n =
      ap (λ (o : Option (EnvId × Value)). then_on ((resolved (codes "$$") o).run s n) (read (codes "$$"))) list_bound
      ∙ ap (λ (o : Option (EnvId × Value)). Ended (Val (held o)) s n) list_bound

  pub global_read : (x : List ℕ) (p : Prop) (n : ℕ) → bytes_eq x (codes "$$") ≡ false → get_property s.heap.objects window.0 x ≡ Some p
      → (read_name (inside c) x).run s n ≡ Ended (Val p.value) s n
  global_read x p n far found =
      ap (λ (o : Option (EnvId × Value)). then_on ((resolved x o).run s n) (read x)) (other_unbound x far)
      ∙ ap (λ (o : Option Prop). (read x (global_or_not (is_some o))).run s n) found
      ∙ ap (λ (o : Option Prop). (found_or_raise x (option_map (λ q. q.value) o)).run s n) found

  -- what a built-in object has is there still
  pub built_in_own : (k : ℕ) (x : List ℕ) (p : Prop) → own_property (built_in_at k).props x ≡ Some p
      → own_property (object_at s.heap.objects k).props x ≡ Some p
  built_in_own zero x p h =
      ap (λ ps. own_property ps x) r.own.window.props ∙ found_before (bytes_eq x) (built_in_at window.0).props r.own.window.others p h
  built_in_own (suc k) x p h = by (cases_lt (suc k) built_in_count)
    where
      by : (suc k < built_in_count) ⊎ (built_in_count ≤ suc k) → own_property (object_at s.heap.objects (suc k)).props x ≡ Some p
      by (inl low) = ap (λ (o : Object). own_property o.props x) (r.own.objects (suc k) (omega arith) low) ∙ h
      by (inr high) =
          let none = object_absent built_ins (suc k) (omega (arith, high, built_ins_count)) in
          absurd (none-some p (sym (ap (λ (o : Object). own_property o.props x) none) ∙ h))

  pub built_in_found : (k : ℕ) (x : List ℕ) (p : Prop) → own_property (built_in_at k).props x ≡ Some p → get_property s.heap.objects k x ≡ Some p
  built_in_found k x p h =
      property_on s.heap.objects k x r.place.sound.prototypes
      ∙ ap (λ (o : Option Prop). first_found o (object_at s.heap.objects k).proto (λ q. get_property s.heap.objects q x)) (built_in_own k x p h)

  module _ (calls : Calls) (n : ℕ) where
    -- a property whose name is none of the host's
    pub plain_read : (at : ObjId) (x : List ℕ) → host_name x ≡ None
        → (read_property (Reference at) x).run s n ≡ Ended (Val (get_at s at x)) s n
    plain_read at x none = ap (λ (o : Option HostName). (settle (named_at s at x o)).run s n) none

    -- a name that holds an object in the global object
    pub name_read : (x : List ℕ) (j : ℕ) → held_by built_ins window.0 x ≡ Some j
        → (eval calls (inside c) (name x)).run s n ≡ Ended (Val (Reference (at_place j))) s n
    name_read x j h =
        let g = holds_at (own_property (built_in_at window.0).props x) j h in
        global_read x g.prop n (other_name x j h) (built_in_found window.0 x g.prop g.there) ∙ ap (λ v. Ended (Val v) s n) g.holds

    -- a name after a dot
    pub member_read : (e : tree.Expr) (k : ℕ) (x : List ℕ) (j : ℕ) → (eval calls (inside c) e).run s n ≡ Ended (Val (Reference (at_place k))) s n
        → held_by built_ins k x ≡ Some j → (eval calls (inside c) (member e x)).run s n ≡ Ended (Val (Reference (at_place j))) s n
    member_read e k x j base h =
        let g = holds_at (own_property (built_in_at k).props x) j h in
        ap (λ (o : Outcome Signal). then_on o (on_value (λ v. get_member v x))) base
        ∙ plain_read (at_place k) x (built_in_unhosted k x g.prop g.there)
        ∙ ap (λ (o : Option Prop). Ended (Val (unwrap_or (option_map (λ q. q.value) o) Undefined)) s n) (built_in_found k x g.prop g.there)
        ∙ ap (λ v. Ended (Val v) s n) g.holds

    names_read : (e : tree.Expr) (k j : ℕ) (xs : List (List ℕ)) → (eval calls (inside c) e).run s n ≡ Ended (Val (Reference (at_place k))) s n
        → led_from built_ins k xs ≡ Some j → (eval calls (inside c) (path_from e xs)).run s n ≡ Ended (Val (Reference (at_place j))) s n
    names_read e k j [] base led = base ∙ ap (λ i. Ended (Val (Reference (at_place i))) s n) (same_Some k j led)
    names_read e k j (x ∷ xs) base led =
        by (held_by built_ins k x) refl led (λ i g. names_read (member e x) i j xs g)
      where
        by : (o : Option ℕ) → held_by built_ins k x ≡ o → option_and_then (λ next. led_from built_ins next xs) o ≡ Some j
            → ((i : ℕ) → (eval calls (inside c) (member e x)).run s n ≡ Ended (Val (Reference (at_place i))) s n
            → led_from built_ins i xs ≡ Some j
            → (eval calls (inside c) (path_from (member e x) xs)).run s n ≡ Ended (Val (Reference (at_place j))) s n)
            → (eval calls (inside c) (path_from (member e x) xs)).run s n ≡ Ended (Val (Reference (at_place j))) s n
        by None h on more = absurd (none-some j on)
        by (Some i) h on more = more i (member_read e k x i base h) on

    whole_read : (xs : List (List ℕ)) (j : ℕ) → (xs ≡ [] → ⊥) → led_from built_ins window.0 xs ≡ Some j
        → (eval calls (inside c) (path_expr xs)).run s n ≡ Ended (Val (Reference (at_place j))) s n
    whole_read [] j some led = absurd (some refl)
    whole_read (x ∷ xs) j some led = by (held_by built_ins window.0 x) refl led
      where
        by : (o : Option ℕ) → held_by built_ins window.0 x ≡ o
            → option_and_then (λ next. led_from built_ins next xs) o ≡ Some j
            → (eval calls (inside c) (path_from (name x) xs)).run s n ≡ Ended (Val (Reference (at_place j))) s n
        by None h on = absurd (none-some j on)
        by (Some i) h on = names_read (name x) i j xs (name_read x i h) on

    -- a path leads to its object
    pub path_read : PathsLead → (k : ℕ) (path : List ℕ) → path_of k ≡ Some path
        → (eval calls (inside c) (path_expr (names_of path))).run s n ≡ Ended (Val (Reference (at_place k))) s n
    path_read lead k path found = whole_read (names_of path) k (some_names path) (lead k path found)
