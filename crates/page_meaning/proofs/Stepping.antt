-- What steps of a page are to its lines and to its heap.
use Rattle.std.specs.Prelude.{Bool, true, false, if◌then◌else◌, ◌≡◌, refl, List, [], ◌∷◌, ◌++◌, Some, length}
use Rattle.std.proofs.Common.{sym, ap, ◌∙◌}
use Rattle.js_values.specs.declared.line.Line.{Line}
use Rattle.js_values.specs.declared.throw.Throw.{Throw}
use Rattle.js_values.specs.declared.throw.Throw.TheVariants.{CannotDefine, CannotSet}
use Rattle.object_heap.specs.declared.object.Class.TheVariants.{Event, Node}
use Rattle.object_heap.specs.Attempt.{Attempt, throws}
use Rattle.object_heap.specs.Heap.{Contents, define_own, put}
use Rattle.object_heap.specs.Laws as heap
use Rattle.object_heap.proofs.Callers.{new_fit}
use Rattle.page_host.specs.Steps.{may_be_made}
use Rattle.page_meaning.specs.Classes.{class_at}
use Rattle.page_meaning.specs.Events.{after_event, new_parts}
use Rattle.page_meaning.specs.HostNames.{is_kept}
use Rattle.page_meaning.specs.Places.{event_prototype, node_prototype}
use Rattle.page_meaning.specs.Steps.{Step, in_event, in_heap, puts, defines, puts_out, in_host, makes_node, makes_event, after_step, after_steps, event_object, fits_event, node_object}
use Rattle.page_meaning.specs.Store.{Store}

none_more : (xs : List Line) → xs ≡ xs ++ []
none_more [] = refl
none_more (x ∷ xs) = ap (λ ys. x ∷ ys) (none_more xs)

more_and_more : (xs ys zs : List Line) → (xs ++ ys) ++ zs ≡ xs ++ (ys ++ zs)
more_and_more [] ys zs = refl
more_and_more (x ∷ xs) ys zs = ap (λ us. x ∷ us) (more_and_more xs ys zs)

line_of : Step → List Line
line_of (puts_out l) = l ∷ []
line_of g = []

line_step : (s : Store) (g : Step) → (after_step s g).lines ≡ s.lines ++ line_of g
unfolding line_of
line_step s (in_heap g h) = none_more s.lines
line_step s (puts at x v) = none_more s.lines
line_step s (defines at x change) = none_more s.lines
line_step s (in_event at g) = none_more s.lines
line_step s (puts_out l) = refl
line_step s (in_host g) = none_more s.lines
line_step s (makes_node k) = none_more s.lines
line_step s makes_event = none_more s.lines

pub lines_of_steps : (s : Store) (gs : List Step) → (more : List Line) × ((after_steps s gs).lines ≡ s.lines ++ more)
lines_of_steps s [] = ([], none_more s.lines)
lines_of_steps s (g ∷ gs) =
    let rest = lines_of_steps (after_step s g) gs in
    (line_of g ++ rest.0, rest.1 ∙ ap (λ ls. ls ++ rest.0) (line_step s g) ∙ more_and_more s.lines (line_of g) rest.0)

heap_of : Store → Step → List heap.Step
heap_of s (in_heap g h) = g ∷ []
heap_of s (puts at x v) = if is_kept s.host.nodes (class_at s at) x then [] else heap.puts at.0 x v ∷ []
heap_of s (defines at x change) = if is_kept s.host.nodes (class_at s at) x then [] else heap.defines at.0 x change ∷ []
heap_of s (in_event at g) = if fits_event s g then heap.gives_parts at.0 (after_event g) ∷ [] else []
heap_of s (makes_node k) =
    if may_be_made k then heap.makes (node_object s) (new_fit (Node (record { 0 = length s.host.nodes })) (Some node_prototype)) ∷ [] else []
heap_of s makes_event = heap.makes event_object (new_fit (Event new_parts) (Some event_prototype)) ∷ []
heap_of s g = []

tried_heap : (h : Contents) (t : Throw) (a : Attempt Contents) (g : heap.Step) → a.after ≡ heap.after_step h g → (kept : Bool)
    → (if kept then throws h t else a).after ≡ heap.after_steps h (if kept then [] else g ∷ [])
tried_heap h t a g same true = refl
tried_heap h t a g same false = same

fit_heap : (h : Contents) (g : heap.Step) (fits : Bool) → (if fits then heap.after_step h g else h) ≡ heap.after_steps h (if fits then g ∷ [] else [])
fit_heap h g true = refl
fit_heap h g false = refl

heap_step : (s : Store) (g : Step) → (after_step s g).heap ≡ heap.after_steps s.heap (heap_of s g)
unfolding heap_of
heap_step s (in_heap g h) = refl
heap_step s (puts at x v) = tried_heap s.heap CannotSet (put s.heap at.0 x v) (heap.puts at.0 x v) refl (is_kept s.host.nodes (class_at s at) x)
heap_step s (defines at x change) =
    tried_heap s.heap CannotDefine (define_own s.heap at.0 x change) (heap.defines at.0 x change) refl (is_kept s.host.nodes (class_at s at) x)
heap_step s (in_event at g) = fit_heap s.heap (heap.gives_parts at.0 (after_event g)) (fits_event s g)
heap_step s (puts_out l) = refl
heap_step s (in_host g) = refl
heap_step s (makes_node k) =
    fit_heap s.heap (heap.makes (node_object s) (new_fit (Node (record { 0 = length s.host.nodes })) (Some node_prototype))) (may_be_made k)
heap_step s makes_event = refl

both : (h : Contents) (cs ds : List heap.Step) → heap.after_steps h (cs ++ ds) ≡ heap.after_steps (heap.after_steps h cs) ds
both h [] ds = refl
both h (c ∷ cs) ds = both (heap.after_step h c) cs ds

pub heap_of_steps : (s : Store) (gs : List Step) → (changes : List heap.Step) × ((after_steps s gs).heap ≡ heap.after_steps s.heap changes)
heap_of_steps s [] = ([], refl)
heap_of_steps s (g ∷ gs) =
    let rest = heap_of_steps (after_step s g) gs in
    (heap_of s g ++ rest.0, rest.1 ∙ ap (λ h. heap.after_steps h rest.0) (heap_step s g) ∙ sym (both s.heap (heap_of s g) rest.0))
