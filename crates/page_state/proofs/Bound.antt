-- Names that an environment has.
use Rattle.std.proofs.Common.{◌≡◌, refl, List, ℕ, Option, Some}
use Rattle.js_values.specs.declared.ids.EnvId.{EnvId}
use Rattle.js_values.specs.declared.value.Value.{Value}
use Rattle.object_heap.specs.Environment.{environment_at, value_of}
use Rattle.object_heap.specs.Heap.{look_in, lookup}
use Rattle.page_meaning.specs.declared.reference.Reference.TheVariants.{Environment}
use Rattle.page_meaning.specs.declared.signal.Signal.TheVariants.{Value as Val}
use Rattle.page_meaning.specs.Act.{give}
use Rattle.page_meaning.specs.Names.{Here, held, read, read_name, resolve, resolved}
use Rattle.page_meaning.specs.Primitives.{find_name}
use Rattle.page_meaning.specs.Store.{Store}
use Rattle.page_state.specs.Does.{Does}
use Rattle.page_state.proofs.Does.{bind_does}

-- the name is found where it is bound
found_there : (at : EnvId) (x : List ℕ) (v : Value) (s : Store) → value_of (environment_at s.heap.environments at.0).names x ≡ Some v → look_in s.heap.environments (Some at) x ≡ Some (at, v)
unfolding lookup
found_there at x v s b = rw b refl

pub known_bound : (here : Here) (x : List ℕ) (env : Option EnvId) (at : EnvId) (v : Value) (s : Store) → here.env ≡ env → Some (at, v) ≡ look_in s.heap.environments env x
    → value_of (environment_at s.heap.environments at.0).names x ≡ Some v → Does (λ _. read_name here x) s (Val v) s
known_bound here x env at v s e f b =
    let found : Does (λ _. find_name here.env x) s (Some (at, v)) s = record { is = λ c n. rw (e, ← f) refl } in
    let again : Does (λ _. find_name (Some at) x) s (Some (at, v)) s = record { is = λ c n. rw (found_there at x v s b) refl } in
    let meant : Does (λ _. resolve here x) s (Environment at) s =
    bind_does (λ _. find_name here.env x) (λ _. resolved x) (Some (at, v)) (Environment at) s s s found (record { is = λ c n. refl }) in
    let got : Does (λ _. read x (Environment at)) s (Val v) s =
    bind_does (λ _. find_name (Some at) x) (λ _ o. give (held o)) (Some (at, v)) (Val v) s s s again (record { is = λ c n. refl }) in
    bind_does (λ _. resolve here x) (λ _. read x) (Environment at) (Val v) s s s meant got
