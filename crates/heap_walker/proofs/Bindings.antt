-- What the objects of a page at rest refer to is there, and what they refer to from when they were made is older.
use Rattle.std.proofs.Common.{◌≡◌, refl, sym, ◌∙◌, ℕ, zero, suc, Bool, true, false, List, [], ◌∷◌, ◌++◌, length, Option, Some, None, bytes_eq, nat_lt}
use Rattle.std.specs.Option.{option_map}
use Rattle.std.specs.Prelude.{unwrap_or}
use Rattle.std.proofs.lemmas.Bool.{and_parts}
use Rattle.std.proofs.lemmas.List.Folds.{list_all-append}
use Rattle.js_core.specs.Tree.{Code}
use Rattle.js_values.specs.declared.ids.EnvId.{EnvId}
use Rattle.js_values.specs.declared.value.Value.{Value}
use Rattle.js_values.specs.declared.value.Value.TheVariants.{Undefined}
use Rattle.object_heap.specs.Chain.{object_at}
use Rattle.object_heap.specs.Environment.{Bound, Environment, environment_at, value_of}
use Rattle.object_heap.specs.Heap.{bound_within, first_bound, look_in, lookup}
use Rattle.object_heap.specs.Object.{Object}
use Rattle.object_heap.specs.declared.object.Class.{Class}
use Rattle.object_heap.specs.declared.object.Class.TheVariants as class
use Rattle.object_shapes.proofs.Callers.{below_join}
use Rattle.object_shapes.specs.Links as shapes
use Rattle.object_shapes.specs.Links.{all_below, bound_links, event_links, parts_links, props_links, proto_links, value_links}
use Rattle.page_meaning.specs.Store.{Store}
use Rattle.scope_analysis.specs.Needs.{needed_variables}
use Rattle.heap_walker.specs.Still.{Still, made_links}
use Rattle.heap_walker.specs.Things.{Reach, bound_value, bound_values, class_links, host_links, links, needs_links, needs_of}
use Rattle.heap_walker.proofs.Hosted.{host_below}
use Rattle.heap_walker.proofs.Walks.{thing_of}

-- ---- what names are bound to

abbrev own_links : Option Value → List ℕ
own_links None = []
own_links (Some v) = value_links v

abbrev found_links : Option (EnvId × Value) → List ℕ
found_links None = []
found_links (Some found) = value_links found.1

-- the parts of two joined lists are below what the whole is
pub below_parts : (n : ℕ) (xs ys : List ℕ) → all_below n (xs ++ ys) ≡ true → (all_below n xs ≡ true) × (all_below n ys ≡ true)
below_parts n xs ys h =
    let split = and_parts (all_below n xs) (all_below n ys) (sym (list_all-append (λ k. nat_lt k n) xs ys) ∙ h) in
    (split.0, split.1)

value_below : (n : ℕ) (names : Bound) (x : List ℕ) → all_below n (bound_links names) ≡ true → all_below n (own_links (value_of names x)) ≡ true
value_below n [] x h = refl
value_below n (e ∷ es) x h = by (bytes_eq x e.0) refl (value_below n es x (below_parts n (value_links e.1) (bound_links es) h).1)
  where
    by : (b : Bool) → bytes_eq x e.0 ≡ b → all_below n (own_links (value_of es x)) ≡ true → all_below n (own_links (value_of (e ∷ es) x)) ≡ true
    by true same more = rw same (below_parts n (value_links e.1) (bound_links es) h).0
    by false other more = rw other more

first_below : (n k : ℕ) (own : Option Value) (outer : Option EnvId) (up : ℕ → Option (EnvId × Value)) → all_below n (own_links own) ≡ true
    → ((e : ℕ) → all_below n (found_links (up e)) ≡ true) → all_below n (found_links (first_bound k own outer up)) ≡ true
first_below n k (Some v) outer up own others = own
first_below n k None None up own others = refl
first_below n k None (Some e) up own others = others e.0

module _ (n : ℕ) (es : List Environment) (all : (e : ℕ) → all_below n (bound_links (environment_at es e).names) ≡ true) where
  within_below : (m k : ℕ) (x : List ℕ) → all_below n (found_links (bound_within es m k x)) ≡ true
  within_below zero k x = refl
  within_below (suc m) k x =
      first_below n k (value_of (environment_at es k).names x) (environment_at es k).outer (λ e. bound_within es m e x)
      (value_below n (environment_at es k).names x (all k)) (λ e. within_below m e x)

  look_below : (env : Option EnvId) (x : List ℕ) → all_below n (found_links (look_in es env x)) ≡ true
  unfolding lookup
  look_below None x = refl
  look_below (Some e) x = within_below (suc e.0) e.0 x

found_below : (n : ℕ) (o : Option (EnvId × Value)) → all_below n (found_links o) ≡ true
    → all_below n (value_links (unwrap_or (option_map (λ found. found.1) o) Undefined)) ≡ true
found_below n None h = refl
found_below n (Some found) h = h

needs_below : (s : Store) → Still s → (env : Option EnvId) (xs : List (List ℕ))
    → all_below (length s.heap.objects) (needs_links (bound_values s env xs)) ≡ true
needs_below s still env [] = refl
needs_below s still env (x ∷ xs) =
    let n = length s.heap.objects in
    below_join n (value_links (bound_value s env x)) (needs_links (bound_values s env xs))
    (found_below n (look_in s.heap.environments env x) (look_below n s.heap.environments still.shaped.bound_there env x)) (needs_below s still env xs)

-- ---- what objects refer to

class_below : (s : Store) (n : ℕ) (c : Class) → all_below n (parts_links c) ≡ true
    → ((source : Code) (env : Option EnvId) → c ≡ class.Page source env → all_below n (needs_links (needs_of s env source)) ≡ true)
    → all_below n (class_links s c) ≡ true
class_below s n (class.Page source env) parts needs = needs source env refl
class_below s n (class.Bound target this args) parts needs = parts
class_below s n c parts needs = refl

pub links_there : (s : Store) → Still s → (k : ℕ) → all_below (length s.heap.objects) (links s k) ≡ true
links_there s still k =
    let o : Object = object_at s.heap.objects k in
    let n = length s.heap.objects in
    let whole = below_parts n (shapes.made_links o) (event_links o.class ++ props_links o.props) (still.shaped.there k) in
    let props = below_parts n (event_links o.class) (props_links o.props) whole.1 in
    let made = below_parts n (proto_links o.proto) (parts_links o.class) whole.0 in
    below_join n (proto_links o.proto) (class_links s o.class ++ (host_links s.host o.class ++ props_links o.props)) made.0
    (below_join n (class_links s o.class) (host_links s.host o.class ++ props_links o.props)
    (class_below s n o.class made.1 (λ source env is. needs_below s still env (needed_variables source)))
    (below_join n (host_links s.host o.class) (props_links o.props) (host_below s still.shaped.host o.class props.0) props.1))

pub made_below : (s : Store) → Still s → (k : ℕ) → Reach s k → all_below k (made_links s (object_at s.heap.objects k)) ≡ true
made_below s still k reach =
    let o : Object = object_at s.heap.objects k in
    let made = below_parts k (proto_links o.proto) (parts_links o.class) (still.shaped.older k (thing_of s k reach)) in
    below_join k (proto_links o.proto) (class_links s o.class) made.0
    (class_below s k o.class made.1 (λ source env is. (still.functions k source env reach is).older))
