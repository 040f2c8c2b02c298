-- The globals that scripts made are defined after those that are built in.
use Rattle.std.proofs.Common.{◌≡◌, refl, sym, ap, subst, ◌∙◌, ℕ, true, false, not, ◌&&◌, is_none, is_some, drop, Option, Some, None, List, [], ◌∷◌, ◌++◌, length, bytes_eq}
use Rattle.std.proofs.Math.Seq.{drop-append_seam}
use Rattle.std.proofs.lemmas.Bool.{and_from}
use Rattle.std.specs.List.{IsDistinct, list_all}
use Rattle.std.specs.Map.{keys_of}
use Rattle.heap_walker.proofs.Callers.{window_globals}
use Rattle.heap_walker.specs.Still.{Still}
use Rattle.heap_walker.specs.Things.{globals_of}
use Rattle.object_heap.specs.Chain.{object_at}
use Rattle.object_heap.specs.Heap.{Contents}
use Rattle.object_heap.specs.Object.{Object, is_list}
use Rattle.object_heap.specs.Property.{HasDistinctNames, Props, own_property}
use Rattle.object_heap.specs.declared.property.Prop.{Prop}
use Rattle.dom_tree.specs.Node.{Nodes}
use Rattle.object_heap.specs.declared.object.Class.{Class}
use Rattle.object_heap.specs.declared.object.Class.TheVariants as class
use Rattle.page_host.specs.Host.{Host}
use Rattle.page_meaning.specs.HostNames.{is_kept}
use Rattle.page_meaning.specs.Places.{window}
use Rattle.page_meaning.specs.Store.{Store}
use Rattle.rebuild_plan.specs.Compact.{moved_props}
use Rattle.rebuild_plan.specs.Plan.{defines}
use Rattle.rebuild_plan.specs.declared.statement.Rebuild.{Rebuild}
use Rattle.rebuilding.specs.Rebuilt.{IsRebuilt, Succeeds}
use Rattle.rebuilding.specs.Scene.{IsHosting, IsRunning, Scene, page_with}
use Rattle.rebuilding.specs.Sites.{site, sited_props}
use Rattle.rebuilding.proofs.Defining.{and_props, defines_succeed}
use Rattle.rebuilding.proofs.Going.{Allowed, Going, going_begins}
use Rattle.rebuilding.proofs.PropertyNames.{both_keys, moved_all, moved_keys, rebuilt_props}
use Rattle.rebuilding.proofs.WindowStays.{is_built}
use Rattle.object_shapes.specs.Shapes.{IsWindow, built_in_at}
use Rattle.rebuilding.proofs.Placed.{site_built_in, some_built_in}

pub at_window : (sites : List ℕ) → site sites window.0 ≡ window.0
at_window sites = site_built_in sites 0 some_built_in

-- ---- which globals scripts made

-- the global object has the built-in ones, and then those
pub window_props : (s : Store) → IsWindow (object_at s.heap.objects window.0)
    → (object_at s.heap.objects window.0).props ≡ (built_in_at window.0).props ++ globals_of s
window_props s rest = rest.props ∙ ap (λ ps. (built_in_at window.0).props ++ ps) (sym (window_globals (object_at s.heap.objects window.0) rest))

-- of the page that was rebuilt they are those of the page that was saved
pub globals_same : (c : Scene) (s : Store) (things : List ℕ) (h : Contents) (g : Host) (sites : List ℕ) → IsRebuilt c s things h g sites
    → globals_of (page_with h g) ≡ sited_props sites (moved_props things (globals_of s))
globals_same c s things h g sites is =
    let first : Props = (built_in_at window.0).props in
    let own : Props = sited_props sites (moved_props things (globals_of s)) in
    let whole : first ++ globals_of (page_with h g) ≡ first ++ own = sym (window_props (page_with h g) is.running.own.window) ∙ is.globals in
    sym (drop-append_seam first (globals_of (page_with h g))) ∙ ap (drop (length first)) whole ∙ drop-append_seam first own

-- their names are new after the built-in ones
globals_new : (bs others saved now left : Props) (things : List ℕ) → left ≡ others → saved ≡ bs ++ others → HasDistinctNames saved → now ≡ bs
    → IsDistinct bytes_eq (keys_of now ++ keys_of (moved_props things left))
globals_new bs others saved now left things same are names is =
    subst (IsDistinct bytes_eq)
    (ap keys_of are ∙ both_keys bs others ∙ ap (λ (l : List (List ℕ)). l ++ keys_of others) (ap keys_of (sym is))
    ∙ ap (λ (l : List (List ℕ)). keys_of now ++ l) (ap keys_of (sym same) ∙ sym (moved_keys things left)))
    names

none_or_some : (o : Option Prop) → is_none o ≡ not (is_some o)
none_or_some None = refl
none_or_some (Some p) = refl

own_names : (es : Props) → list_all (λ e. is_none (own_property (built_in_at window.0).props e.0)) es ≡ list_all (λ e. not (is_built e.0)) es
unfolding is_built
own_names [] = refl
own_names (e ∷ es) = (λ i. none_or_some (own_property (built_in_at window.0).props e.0) i && own_names es i)

-- and are none of theirs
globals_own : (others left : Props) (things : List ℕ) → list_all (λ e. not (is_built e.0)) others ≡ true → left ≡ others
    → list_all (λ e. not (is_built e.0)) (moved_props things left) ≡ true
globals_own others left things own same =
    moved_all (λ x. not (is_built x)) things left ∙ ap (λ (ps : Props). list_all (λ e. not (is_built e.0)) ps) same ∙ own

-- ---- they are defined

-- nothing is kept from the global object
none_kept : (t : Nodes) (d : Class) (es : Props) → d ≡ class.Window → list_all (λ e. not (is_kept t d e.0)) es ≡ true
none_kept t d [] is = refl
none_kept t d (e ∷ es) is =
    and_from (not (is_kept t d e.0)) (list_all (λ x. not (is_kept t d x.0)) es) (ap (λ k. not (is_kept t k e.0)) is) (none_kept t d es is)

pub globals_succeed : (c : Scene) (End : Contents → Host → List ℕ → Type 0) (s : Store) (things sites : List ℕ) (h : Contents) (w : Host) (rs : List Rebuild)
    → Still s → IsRunning c h sites → IsHosting h w → (object_at h.objects window.0).props ≡ (built_in_at window.0).props
    → Allowed (length sites) (defines false false window (moved_props things (globals_of s)) ++ rs)
    → ((i : Contents) → Going c h i w sites window.0 (and_props (object_at h.objects window.0) (rebuilt_props sites things (globals_of s)))
    → Allowed (length sites) rs → Succeeds c End i w sites rs)
    → Succeeds c End h w sites (defines false false window (moved_props things (globals_of s)) ++ rs)
globals_succeed c End s things sites h w rs still running hosting now allowed later =
    let o : Object = object_at h.objects window.0 in
    let rest : IsWindow (object_at s.heap.objects window.0) = still.shaped.window in
    let left : globals_of s ≡ rest.others = window_globals (object_at s.heap.objects window.0) rest in
    let ordinary : is_list o.class ≡ false = ap is_list running.own.window.class in
    defines_succeed c End sites h w (moved_props things (globals_of s)) h window o rs
    (going_begins c h w sites (site sites window.0) o running hosting (ap (object_at h.objects) (at_window sites)))
    running.own.window.closed running.own.window.extensible ordinary
    (globals_new (built_in_at window.0).props rest.others (object_at s.heap.objects window.0).props o.props (globals_of s) things left rest.props
    (still.sound.names window.0) now)
    (globals_own rest.others (globals_of s) things (sym (own_names rest.others) ∙ rest.own) left)
    (none_kept w.nodes o.class (moved_props things (globals_of s)) running.own.window.class)
    allowed
    (λ i now_there more. later i
    (subst (λ k. Going c h i w sites k (and_props o (rebuilt_props sites things (globals_of s)))) (at_window sites) now_there) more)
