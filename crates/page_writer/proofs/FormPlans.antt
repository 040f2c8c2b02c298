-- Each function in the plan of a page at rest is one of a form page.
use Rattle.std.proofs.Common.{◌≡◌, refl, ℕ, suc, true, All, nat_eq, List, [], ◌∷◌}
use Rattle.std.proofs.lemmas.Bool.{eq-eqb, or_left, or_right}
use Rattle.std.proofs.lemmas.List.Elements.{All-append, All-cons, All-nil}
use Rattle.dom_tree.specs.Node.{node_at}
use Rattle.dom_tree.specs.declared.content.Kind.{Kind}
use Rattle.dom_tree.specs.declared.content.Kind.TheVariants as kind
use Rattle.js_core.specs.Tree.{Code}
use Rattle.js_values.specs.declared.ids.EnvId.{EnvId}
use Rattle.js_values.specs.declared.ids.ObjId.{ObjId}
use Rattle.object_heap.specs.Chain.{object_at}
use Rattle.object_heap.specs.Object.{Object}
use Rattle.object_heap.specs.declared.object.Class.{Class}
use Rattle.object_heap.specs.declared.object.Class.TheVariants as class
use Rattle.page_meaning.specs.Store.{Store}
use Rattle.heap_walker.specs.Still.{IsFunctionAtRest, Still}
use Rattle.heap_walker.specs.Things.{IsWalk, is_in}
use Rattle.rebuild_plan.specs.Compact.{Compact, compact, maker_as, maker_at, things_at}
use Rattle.rebuild_plan.specs.Nodes.{node_maker}
use Rattle.rebuild_plan.specs.Plan.{makes, plan}
use Rattle.rebuild_plan.specs.declared.statement.Maker.{Maker}
use Rattle.rebuild_plan.specs.declared.statement.Maker.TheVariants as made
use Rattle.rebuild_plan.specs.declared.statement.Rebuild.{Rebuild}
use Rattle.rebuild_plan.specs.declared.statement.Rebuild.TheVariants.{Make}
use Rattle.std.specs.Prelude.{Option}
use Rattle.page_writer.proofs.FormFunctions.{IsFormFunction, form_function}
use Rattle.page_writer.proofs.Making.{MakesNothing, later, later_makes_nothing}

-- a function that is made is one of a form page
abbrev pub MakesInForm : Maker → Type 0
MakesInForm (made.Func c needs) = IsFormFunction c needs
MakesInForm m = Unit {0}

abbrev pub IsInForm : Rebuild → Type 0
IsInForm (Make number m) = MakesInForm m
IsInForm r = Unit {0}

-- ---- what makes nothing is in form

others_in_form : (r : Rebuild) → MakesNothing r → IsInForm r
others_in_form (Make number m) h = cc h
others_in_form r h = tt

later_in_form : (c : Compact) → All IsInForm (later c)
later_in_form c = λ k r inside. others_in_form _ (later_makes_nothing c k r inside)

-- ---- what is made

node_in_form : (things : List ℕ) (proto : Option ObjId) (k : Kind) → MakesInForm (node_maker things proto k)
node_in_form things proto kind.Document = tt
node_in_form things proto (kind.Element x) = tt
node_in_form things proto (kind.Text x) = tt
node_in_form things proto (kind.Comment x) = tt

maker_in_form : (s : Store) (things : List ℕ) (k : ℕ) (proto : Option ObjId) (c : Class)
    → ((source : Code) (env : Option EnvId) → c ≡ class.Page source env → IsFunctionAtRest s k source env) → MakesInForm (maker_as s things proto c)
maker_in_form s things k proto (class.Page source env) rests = form_function s things k source env (rests source env refl)
maker_in_form s things k proto (class.Node node) rests = node_in_form things proto (node_at s.host.nodes node.0).content.kind
maker_in_form s things k proto c rests = tt

thing_in_form : (s : Store) (things : List ℕ) → Still s → IsWalk s things → (k : ℕ) → is_in k things ≡ true → MakesInForm (maker_at s things k)
thing_in_form s things still walk k found =
    let o : Object = object_at s.heap.objects k in
    maker_in_form s things k o.proto o.class (λ source env is. still.functions k source env (walk.sound k found) is)

makes_in_form : (s : Store) (things : List ℕ) (ks : List ℕ) (n : ℕ)
    → ((k : ℕ) → is_in k ks ≡ true → MakesInForm (maker_at s things k)) → All IsInForm (makes n (things_at s things ks))
makes_in_form s things [] n each = All-nil IsInForm
makes_in_form s things (k ∷ ks) n each =
    All-cons IsInForm (Make n (maker_at s things k)) (makes (suc n) (things_at s things ks))
    (each k (or_left (nat_eq k k) (is_in k ks) (eq-eqb k k refl)))
    (makes_in_form s things ks (suc n) (λ j h. each j (or_right (nat_eq j k) (is_in j ks) h)))

pub plan_in_form : (s : Store) (things : List ℕ) → Still s → IsWalk s things → All IsInForm (plan (compact s things))
plan_in_form s things still walk =
    let c : Compact = compact s things in
    All-append IsInForm (makes 0 c.things) (later c) (makes_in_form s things things 0 (thing_in_form s things still walk)) (later_in_form c)
