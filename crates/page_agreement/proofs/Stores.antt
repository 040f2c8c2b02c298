-- Two pages at rest that agree in pairs of things agree for the naming by these pairs.
use Rattle.std.proofs.Common.{◌≡◌, refl, sym, subst, ◌∙◌, ℕ, ◌<◌, List, [], ◌∷◌, Option, length, arith}
use Rattle.std.proofs.lemmas.List.{append-nil}
use Rattle.agreement.specs.Acts.{HasBuiltIns, StoreRel}
use Rattle.heap_relations.specs.Naming.{Base, BaseRel, In, Named, Pair, SlotsRel, World, based, named, pair}
use Rattle.heap_relations.specs.Related.{ClassRel, Entries, ObjectRel, ObjectsRel, ValueRel, array, bound, event, fault, math, native, node, page, plain, window}
use Rattle.heap_walker.specs.Still.{IsFunctionAtRest, Still}
use Rattle.heap_walker.specs.Things.{bound_value, needs_of}
use Rattle.js_core.specs.Tree.{Code}
use Rattle.js_values.specs.declared.ids.EnvId.{EnvId}
use Rattle.object_heap.specs.Chain.{object_at}
use Rattle.object_heap.specs.declared.object.Class.{Class}
use Rattle.object_heap.specs.declared.object.Class.TheVariants as class
use Rattle.page_meaning.specs.Store.{Store}
use Rattle.rebuilding.proofs.Callers.{fits_at_rest, placed_round}
use Rattle.rebuilding.specs.Frames.{round_frame}
use Rattle.scope_analysis.specs.Needs.{needed_variables}
use Rattle.page_agreement.proofs.Built.{begun_is_no_function}
use Rattle.page_agreement.proofs.Hosts.{hosts_rel, name_back, name_up, node_up}
use Rattle.page_agreement.proofs.Mapped.{entries_map, event_up, ids_up, maybe_map, prop_up, value_up, values_up}
use Rattle.page_agreement.proofs.Pairs.{correspond_apart, first_in, second_in, thing_there}
use Rattle.page_agreement.proofs.Rounds.{base_rel, need_rel}
use Rattle.page_agreement.proofs.World.{are_functions, function_paired, pair_world}
use Rattle.page_agreement.specs.Agree.{Agree, Corresponds, built_in, firsts, links_by, seconds, thing}

-- functions that correspond have the same code
same_code : (m : List Pair) (s t : Store) (c d : Class) → ClassRel (links_by m s t) c d → (source other : Code) (env round : Option EnvId)
    → c ≡ class.Page source env → d ≡ class.Page other round → source ≡ other
same_code m s t _ _ (page {c = own} {d = its} same) source other env round one two =
    let first : own ≡ source = cc one in
    let second : its ≡ other = cc two in
    sym first ∙ same ∙ second
same_code m s t _ _ plain source other env round one two = absurd (cc one)
same_code m s t _ _ array source other env round one two = absurd (cc one)
same_code m s t _ _ native source other env round one two = absurd (cc one)
same_code m s t _ _ (bound h v vs) source other env round one two = absurd (cc one)
same_code m s t _ _ fault source other env round one two = absurd (cc one)
same_code m s t _ _ math source other env round one two = absurd (cc one)
same_code m s t _ _ window source other env round one two = absurd (cc one)
same_code m s t _ _ (node h) source other env round one two = absurd (cc one)
same_code m s t _ _ (event h) source other env round one two = absurd (cc one)

module _ (m : List Pair) (s t : Store) (one : Still s) (two : Still t) (agree : Agree m s t) where
  abbrev W : World
  W = pair_world s t m

  abbrev up : (a b : ℕ) → Corresponds m a b → Named W a b
  up = name_up m s t one two

  -- ---- objects

  -- a function of the page is a thing
  function_pair : (a b : ℕ) → Corresponds m a b → (c : Code) (env : Option EnvId) → (object_at s.heap.objects a).class ≡ class.Page c env → In (pair a b) m
  function_pair a b (built_in same low) c env is = absurd (begun_is_no_function s one a c env low is)
  function_pair a b (thing i) c env is = i

  left_rest : (a b : ℕ) → In (pair a b) m → (c : Code) (env : Option EnvId) → (object_at s.heap.objects a).class ≡ class.Page c env → IsFunctionAtRest s a c env
  left_rest a b i c env is = one.functions a c env (agree.left.sound a (first_in m a b i)) is

  right_rest : (a b : ℕ) → In (pair a b) m → (c : Code) (env : Option EnvId) → (object_at t.heap.objects b).class ≡ class.Page c env → IsFunctionAtRest t b c env
  right_rest a b i c env is = two.functions b c env (agree.right.sound b (second_in m a b i)) is

  class_rel : (a b : ℕ) → Corresponds m a b → (c d : Class) → (object_at s.heap.objects a).class ≡ c → (object_at t.heap.objects b).class ≡ d
      → ClassRel (links_by m s t) c d → ClassRel (named W) c d
  class_rel a b both _ _ left right plain = plain
  class_rel a b both _ _ left right array = array
  class_rel a b both _ _ left right (page {c = source} {d = other} {e = env} {f = round} same) =
      let i : In (pair a b) m = function_pair a b both source env left in
      page (record {
        frames = round_frame source ∷ [];
        number = 0;
        code = sym same;
        fits = fits_at_rest source (left_rest a b i source env left);
        round = based (record { one = env; two = round; frame = round_frame source })
            (function_paired s.heap.objects t.heap.objects m a b source other env round i left right);
      })
  class_rel a b both _ _ left right native = native
  class_rel a b both _ _ left right (bound h v vs) = bound (up _ _ h) (value_up up _ _ v) (values_up up _ _ vs)
  class_rel a b both _ _ left right fault = fault
  class_rel a b both _ _ left right math = math
  class_rel a b both _ _ left right window = window
  class_rel a b both _ _ left right (node h) = node (node_up m s t one two _ _ h)
  class_rel a b both _ _ left right (event h) = event (event_up up _ _ h)

  object_rel : (a b : ℕ) → Corresponds m a b → ObjectRel (named W) (object_at s.heap.objects a) (object_at t.heap.objects b)
  object_rel a b both =
      let h = agree.objects a b both in
      record {
        class = class_rel a b both (object_at s.heap.objects a).class (object_at t.heap.objects b).class refl refl h.class;
        proto = maybe_map (ids_up up) h.proto;
        extensible = h.extensible;
        closed = h.closed;
        props = entries_map (prop_up up) h.props;
      }

  inside : (a b : ℕ) → Corresponds m a b → (a < length s.heap.objects) × (b < length t.heap.objects)
  inside a b (built_in same low) =
      (let all = one.shaped.all_there in omega (arith, all, low), let all = two.shaped.all_there in omega (arith, all, low, same))
  inside a b (thing i) = (thing_there s (firsts m) agree.left a (first_in m a b i), thing_there t (seconds m) agree.right b (second_in m a b i))

  objects_rel : ObjectsRel (named W) s.heap.objects t.heap.objects
  objects_rel = record {
    at = λ a b i. object_rel a b (name_back m s t one two a b i);
    inside = λ a b i. inside a b (name_back m s t one two a b i);
    one_to_one = record {
      same = λ a b c d i j. correspond_apart m s t agree.left agree.right a b c d (name_back m s t one two a b i) (name_back m s t one two c d j);
    };
  }

  -- ---- environments

  based_rel : (b : Base) → In b W.bases → BaseRel W b s.heap.environments t.heap.environments
  based_rel b i =
      let f = are_functions s.heap.objects t.heap.objects m b i in
      let g = f.are in
      let both : Corresponds m f.one f.two = thing f.among in
      let same : g.source ≡ g.other =
      same_code m s t (object_at s.heap.objects f.one).class (object_at t.heap.objects f.two).class (agree.objects f.one f.two both).class g.source g.other g.env g.round
      g.one g.two
      in
      let right : IsFunctionAtRest t f.two g.source g.round =
      subst (λ c. IsFunctionAtRest t f.two c g.round) (sym same) (right_rest f.one f.two f.among g.other g.round g.two)
      in
      let needs =
      subst (λ c. Entries (ValueRel (links_by m s t)) (needs_of s g.env g.source) (needs_of t g.round c)) (sym same)
      (agree.needs f.one f.two both g.source g.other g.env g.round g.one g.two)
      in
      subst (λ d. BaseRel W d s.heap.environments t.heap.environments) (sym g.is)
      (base_rel m s t one.sound.environments two.sound.environments f.one f.two (up f.one f.two both) g.source g.env g.round
      (left_rest f.one f.two f.among g.source g.env g.one) right
      (λ x among. value_up up (bound_value s g.env x) (bound_value t g.round x) (need_rel s t g.env g.round (needed_variables g.source) x needs among)))

  slots_rel : SlotsRel W s.heap.environments t.heap.environments t.heap.objects
  slots_rel = record {
    at = λ z i. elim i [ ];
    inside = λ z i. elim i [ ];
    scope_inside = λ z i e. elim i [ ];
    one_to_one = λ z u i j. elim i [ ];
    one_slot = λ z u i j e. elim i [ ];
    one_scope = λ z u i j e f g. elim i [ ];
    apart = λ z i e p j. elim i [ ];
    bases = λ b i. based_rel b i;
  }

  -- ---- the pages

  built_ins_named : HasBuiltIns W
  built_ins_named k low = up k k (built_in refl (omega (arith, low)))

  pub stores_rel : StoreRel (pair_world s t m) s t
  stores_rel = record {
    heap = record { objects = objects_rel; slots = slots_rel; left = one.sound; right = two.sound };
    lines = record { more = []; one = sym (append-nil s.lines); two = sym (append-nil t.lines) };
    host = hosts_rel m s t one two agree;
    built_ins = built_ins_named;
    shaped = one.shaped;
    kept = record {
      scopes = λ z i. elim i [ ];
      functions = λ a b i. placed_round (λ z j. elim j [ ]) a (object_rel a b (name_back m s t one two a b i)).class;
      done = λ j i. elim i [ ];
    };
  }
