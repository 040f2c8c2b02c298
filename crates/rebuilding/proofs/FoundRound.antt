-- What a function at rest finds round it, and what two functions of one code find: their own names, what they need, and nothing else of the page.
use Rattle.std.proofs.Common.{◌≡◌, refl, sym, ap, subst, ◌∙◌, ℕ, Bool, true, false, not, List, Option, Some, None}
use Rattle.std.proofs.lemmas.Bool.{not-true}
use Rattle.std.proofs.lemmas.Slice.Eq.{bytes_eq-Decides}
use Rattle.agreement.proofs.Callers.{all_names}
use Rattle.code_table.specs.Declarations.{name_of}
use Rattle.heap_relations.specs.Naming.{Absent, Sealed, SealedRel, World, named, unused}
use Rattle.heap_walker.specs.Still.{IsFunctionAtRest, OwnName, has_name, other_names}
use Rattle.heap_walker.specs.Things.{bound_value}
use Rattle.js_core.specs.Tree.{Code}
use Rattle.js_values.specs.declared.ids.EnvId.{EnvId}
use Rattle.js_values.specs.declared.value.Value.{Value}
use Rattle.js_values.specs.declared.value.Value.TheVariants.{Object as Reference}
use Rattle.object_heap.proofs.Callers.{lookup_on}
use Rattle.object_heap.specs.Environment.{AreInside, environment_at}
use Rattle.object_heap.specs.Heap.{first_bound, look_in, lookup}
use Rattle.page_meaning.specs.Store.{Store}
use Rattle.rebuilding.proofs.Basics.{nothing}
use Rattle.rebuilding.proofs.Held.{IsFound, some_found}
use Rattle.rebuilding.specs.Frames.{is_own, keeps_round}
use Rattle.scope_analysis.specs.Names.{is_among}
use Rattle.scope_analysis.specs.Needs.{needed_variables}

-- ---- one function at rest

-- it finds itself by its own name
pub own_at_rest : (s : Store) → AreInside s.heap.environments → (k : ℕ) (env : Option EnvId) (name : Option (List ℕ)) → OwnName s k env name → (x : List ℕ)
    → is_own name x ≡ true → IsFound (Reference (record { 0 = k })) (look_in s.heap.environments env x)
own_at_rest s ages k env None own x g = absurd (cc g)
own_at_rest s ages k None (Some y) own x g = absurd (cc own)
own_at_rest s ages k (Some d) (Some y) own x g =
    let same : y ≡ x = sym ((bytes_eq-Decides x y).0 g) in
    let found : lookup s.heap.environments d.0 y ≡ Some (record { 0 = d.0 }, Reference (record { 0 = k })) =
    lookup_on s.heap.environments d.0 y ages
    ∙ ap (λ o. first_bound d.0 o (environment_at s.heap.environments d.0).outer (λ q. lookup s.heap.environments q y)) own
    in
    subst (λ z. IsFound (Reference (record { 0 = k })) (lookup s.heap.environments d.0 z)) same (record { env = record { 0 = d.0 }; is = found })

module _ (s : Store) (k : ℕ) (c : Code) (env : Option EnvId) (rest : IsFunctionAtRest s k c env) (x : List ℕ) where
  pub need_at_rest : is_among x (needed_variables c) ≡ true → IsFound (bound_value s env x) (look_in s.heap.environments env x)
  need_at_rest among = some_found (look_in s.heap.environments env x) (all_names (has_name s env) (needed_variables c) x rest.bound among)

  pub other_at_rest : is_among x (other_names c) ≡ true → look_in s.heap.environments env x ≡ None
  other_at_rest among =
      nothing (look_in s.heap.environments env x)
      (not-true (has_name s env x) (all_names (λ y. not (has_name s env y)) (other_names c) x rest.alone among))

-- ---- two of one code

-- what is found by each name is related, where it is by their own name, by those of what they need, and by the others
pub round_names : (W : World) (source : Code) (one two : List ℕ → Option (EnvId × Value))
    → ((x : List ℕ) → is_own (name_of source) x ≡ true → SealedRel (named W) Sealed (one x) (two x))
    → ((x : List ℕ) → is_among x (needed_variables source) ≡ true → SealedRel (named W) Sealed (one x) (two x))
    → ((x : List ℕ) → is_own (name_of source) x ≡ false → is_among x (needed_variables source) ≡ false → is_among x (other_names source) ≡ true
    → SealedRel (named W) Absent (one x) (two x))
    → (x : List ℕ) → SealedRel (named W) (keeps_round source x) (one x) (two x)
round_names W source one two owns needs others x =
    by (is_own (name_of source) x) refl (is_among x (needed_variables source)) refl (is_among x (other_names source)) refl
  where
    by : (a : Bool) → is_own (name_of source) x ≡ a → (b : Bool) → is_among x (needed_variables source) ≡ b → (d : Bool) → is_among x (other_names source) ≡ d
        → SealedRel (named W) (keeps_round source x) (one x) (two x)
    by true own b need d among = rw own (owns x own)
    by false own true need d among = rw (own, need) (needs x need)
    by false own false need true among = rw (own, need, among) (others x own need among)
    by false own false need false among = rw (own, need, among) unused
