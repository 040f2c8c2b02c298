-- A page in form is at rest between two events, and its functions can be made again.
use Rattle.std.proofs.Common.{◌≡◌, refl, sym, ap, subst, ◌∙◌, ℕ, ◌+◌, ◌<◌, true, ◌&&◌, List, [], ◌∷◌, Option, Some, None, length, All}
use Rattle.std.specs.Option.{ForSome}
use Rattle.std.proofs.lemmas.Bool.{and_from, and_parts, leb-true}
use Rattle.std.proofs.lemmas.List.Elements.{All-head, All-tail}
use Rattle.agreement.proofs.Callers.{form_scripts_stand, function_read}
use Rattle.agreement.specs.Acts.{IsOlder, IsPlaced}
use Rattle.agreement.specs.Formed.{finds_needs, formed, seals_name}
use Rattle.agreement.specs.Laws.{StandingPagesAgree}
use Rattle.agreement.specs.Opened.{AgreesStanding, HasTrees, code_stands, function_stands, scripts_stand, stmts_stand}
use Rattle.code_table.specs.Declarations.{name_of}
use Rattle.heap_relations.proofs.Callers as heap
use Rattle.heap_relations.specs.Naming.{Frame, Named, World}
use Rattle.heap_walker.specs.Remade.{CanBeRemade}
use Rattle.heap_walker.specs.Still.{IsFunctionAtRest, wrapped}
use Rattle.heap_walker.specs.Things.{Reach}
use Rattle.instrumenter.specs.Counting.{stmts_scopes}
use Rattle.js_core.specs.Height.{code_height}
use Rattle.js_core.specs.Tree as tree
use Rattle.js_values.specs.declared.ids.EnvId.{EnvId}
use Rattle.object_heap.specs.Chain.{object_at}
use Rattle.object_heap.specs.declared.object.Class.TheVariants as class
use Rattle.page_meaning.specs.Pages.{run_of}
use Rattle.page_meaning.specs.Store.{Store}
use Rattle.early_rules.specs.EarlyRules.{early_rule}
use Rattle.script_rules.specs.Form.{in_form}
use Rattle.early_rules.specs.Limits.{function_height_limit}
use Rattle.page_rest.proofs.LowTrees.{functions_are_low}
use Rattle.page_rest.proofs.Quiet.{run_calm}
use Rattle.page_rest.proofs.Reached.{reached_named}
use Rattle.page_rest.proofs.Remaking.{remade_in}
use Rattle.page_rest.proofs.Trees.{code_is}
use Rattle.page_rest.specs.Asks.{is_asked, is_asked_low, is_formed, is_low, is_no}
use Rattle.page_rest.specs.Laws.{IsInForm, PagesRest}
use Rattle.page_rest.specs.Trees.{keeps_code}

-- ---- scripts

script_stands : (n : ℕ) (script : tree.Stmts) → IsInForm script → stmts_stand (formed is_asked_low) n [] script ≡ true
script_stands n script h = form_scripts_stand is_asked_low n script h.0.form.formed h.0.form.orderly h.1 (functions_are_low script h.0 h.1)

form_pages_stand : (n : ℕ) (scripts : List tree.Stmts) → All IsInForm scripts → scripts_stand (formed is_asked_low) n scripts ≡ true
form_pages_stand n [] h = refl
form_pages_stand n (script ∷ scripts) h =
    and_from (stmts_stand (formed is_asked_low) n [] script) (scripts_stand (formed is_asked_low) (n + stmts_scopes script) scripts)
    (script_stands n script (All-head IsInForm script scripts h))
    (form_pages_stand (n + stmts_scopes script) scripts (All-tail IsInForm script scripts h))

-- ---- functions

no_rule : {A : Type 0} (o : Option A) → is_no o ≡ true → o ≡ None
no_rule None e = refl
no_rule (Some x) e = absurd (cc e)

-- the function is asked so, its environment is there, and it can be made again
record Remade (s : Store) (k : ℕ) (c : tree.Code) (env : Option EnvId) : Type 0 where
  asked : is_asked c ≡ true
  there : ForSome env (λ e. e.0 < length s.heap.environments)
  again : CanBeRemade s k c env

-- what is asked of it where it stands
stands_asked : {W : World} (trees : HasTrees W) → trees.demand ≡ formed is_asked_low → (n : ℕ) (fs : List Frame) (c : tree.Code) → W.fits n fs c ≡ true
    → (is_asked_low c && (seals_name fs (name_of c) && finds_needs fs c)) ≡ true
stands_asked trees same n fs c fits =
    let stands = subst (λ d. function_stands d n fs c ≡ true) same (sym (trees.fits n fs c) ∙ fits) in
    (and_parts (is_asked_low c && (seals_name fs (name_of c) && finds_needs fs c)) (code_stands (formed is_asked_low) n fs c) stands).0

function_remade : {s : Store} {k : ℕ} {c : tree.Code} {env : Option EnvId} (h : AgreesStanding (formed is_asked_low) s) → Named h.world k k
    → (object_at s.heap.objects k).class ≡ class.Page c env → Remade s k c env
function_remade {s = s} {k = k} {c = c} {env = env} h named is =
    let read = function_read h.stores named is in
    let asks = and_parts (is_asked_low c) (seals_name read.frames (name_of c) && finds_needs read.frames c)
    (stands_asked h.trees h.demanded read.number read.frames c read.fits) in
    let finds = and_parts (seals_name read.frames (name_of c)) (finds_needs read.frames c) asks.1 in
    let low = and_parts (is_asked c) (is_low c) asks.0 in
    let placed : IsOlder h.world k (name_of c) env = subst (IsPlaced h.world k) is (h.stores.kept.functions k k named) in
    record {
      asked = low.0;
      there = (heap.round_there h.stores.heap read.round).0;
      again = remade_in h.stores h.none_rebuilt (h.trees.opens ∙ ap (λ d. d.opens) h.demanded) k c read.round placed finds.0 finds.1
          (leb-true (code_height c + 1) function_height_limit low.1);
    }

function_at_rest : (s : Store) (k : ℕ) (c : tree.Code) (env : Option EnvId) → Remade s k c env → IsFunctionAtRest s k c env
function_at_rest s k c env h =
    let parts = and_parts (in_form (wrapped c)) (is_no (early_rule (wrapped c))) (and_parts (keeps_code c) (is_formed c) h.asked).1 in
    record {
      there = h.there;
      bound = h.again.bound;
      older = h.again.older;
      alone = h.again.unbound;
      own_name = h.again.own_name;
      formed = parts.0;
      orderly = no_rule (early_rule (wrapped c)) parts.1;
      low = h.again.low;
    }

-- ---- pages

pub pages_rest : StandingPagesAgree → PagesRest
pages_rest agree page es things nodes plain all walk =
    let s : Store = run_of page es in
    let h = agree (formed is_asked_low) page es nodes refl (form_pages_stand 1 page.scripts all) in
    let calm = run_calm page es plain in
    let names : (k : ℕ) → Reach s k → Named h.world k k = reached_named h.stores (h.trees.opens ∙ ap (λ d. d.opens) h.demanded) h.none_rebuilt in (
      record {
        sound = h.stores.heap.left;
        shaped = h.stores.shaped;
        functions = λ k c env r e. function_at_rest s k c env (function_remade h (names k r) e);
        events = calm.events;
        plain = calm.plain;
      },
      λ k c env r e. code_is c (and_parts (keeps_code c) (is_formed c) (function_remade h (names k r) e).asked).0,
      λ k c env i e. (function_remade h (names k (walk.sound k i)) e).again,
    )
