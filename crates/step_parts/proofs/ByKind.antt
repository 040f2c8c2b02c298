-- What a node means that is read at once.
use Rattle.std.proofs.Common.{◌≡◌, sym, ◌∙◌, ℕ, List, Option, Some, None, Result, Ok, Err, IfOk}
use Rattle.std.specs.Prelude.{IfSome}
use Rattle.code_table.specs.Kind.{kind_of}
use Rattle.code_table.specs.Node.{Node}
use Rattle.code_table.specs.declared.kind.Kind.{Kind}
use Rattle.code_table.specs.declared.kind.Kind.TheVariants.{Name}
use Rattle.js_values.specs.declared.ids.EnvId.{EnvId}
use Rattle.js_values.specs.declared.value.Value.{Value}
use Rattle.page_meaning.specs.declared.signal.Signal.TheVariants.{Value as Val}
use Rattle.page_meaning.specs.Names.{Here, read_name}
use Rattle.page_meaning.specs.Store.{Store}
use Rattle.page_frames.specs.Parts.{mean_node}
use Rattle.page_frames.specs.Start.{start_of}
use Rattle.page_frames.specs.Where.{Where, here_of, numbered, spot_node}
use Rattle.page_frames.proofs.Callers.{begins_by_kind}
use Rattle.page_state.specs.Does.{Does}

-- a node of a kind whose start is done at once
pub plain_by_kind : (here : Here) (at : Option Node) (q : Kind) (w : Store) (v : Value) → kind_of at ≡ q → Does (λ calls. start_of calls here at q) w (Val v) w
    → Does (λ calls. mean_node calls here at) w (Val v) w
plain_by_kind here at q w v e d = record { is = λ calls n. begins_by_kind calls here at w n ∙ rw e (d.is calls n) }

pub name_known : {E : Type 0} (r : Result (Option Value) E) (f : Where) (j : ℕ) (x : List ℕ) (env : Option EnvId) (s : Store) → kind_of (spot_node (numbered f j)) ≡ Name x → env ≡ f.env
    → IfOk r (λ o. IfSome o (λ v. (here : Here) → here.env ≡ env → Does (λ _. read_name here x) s (Val v) s))
    → IfOk r (λ o. IfSome o (λ v. Does (λ calls. mean_node calls (here_of f) (spot_node (numbered f j))) s (Val v) s))
name_known (Ok None) f j x env s e i h = tt
name_known (Ok (Some v)) f j x env s e i h =
    let d : Does (λ _. read_name (here_of f) x) s (Val v) s = h (here_of f) (sym i) in
    plain_by_kind (here_of f) (spot_node (numbered f j)) (Name x) s v e (record { is = d.is })
name_known (Err a) f j x env s e i h = h
