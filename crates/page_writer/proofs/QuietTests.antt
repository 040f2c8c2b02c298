-- The tests of the early rules and of form are ones that the nodes of a saved page but its functions and its catch clause do not pass.
use Rattle.std.proofs.Common.{◌≡◌, refl, ℕ, ℤ, Bool, false, List, Option, None}
use Rattle.std.proofs.lemmas.Bool.{or_from}
use Rattle.js_core.specs.Tree as tree
use Rattle.js_core.specs.Tree.{name, num, text, bool, null, list, literal, member, index, call, construct, unary, assign, no_holes, expr, throw, try}
use Rattle.js_core.specs.declared.operators.UnaryOp.TheVariants.{Minus, Void}
use Rattle.early_rules.specs.EarlyRules.{assigns_own, assigns_own_name, deletes_name, has_bad_target, has_restricted_name, has_stray_jump, is_function, repeats_field, repeats_formal, repeats_name}
use Rattle.script_rules.specs.Form.{is_clause_out_of_form, is_declaration_out_of_form, is_expression_out_of_form, scope_out_of_form}
use Rattle.early_rules.specs.FormNodes.{is_declaration, is_high_function}
use Rattle.scope_analysis.specs.Identifiers.{is_restricted}
use Rattle.early_rules.specs.Jumps.{strays}
use Rattle.scope_analysis.specs.Names.{code_body, code_formals, has_repeat}
use Rattle.scope_analysis.specs.Nodes.{Node, expression, of_scopes, statement}
use Rattle.page_writer.proofs.QuietParts.{IsQuiet}

-- ---- the nodes of a saved page but names, object literals, functions and catch clauses

data Shape : Type 0 where
  a_number : Bool → Option ℤ → Shape
  a_text : Bool → List ℕ → Shape
  a_truth : Bool → Bool → Shape
  a_null : Bool → Shape
  a_list : Bool → Shape
  a_member : Bool → tree.Expr → List ℕ → Shape
  an_index : Bool → tree.Expr → tree.Expr → Shape
  a_call : Bool → tree.Expr → tree.Exprs → Shape
  a_construct : Bool → tree.Expr → tree.Exprs → Shape
  a_void : Bool → tree.Expr → Shape
  a_minus : Bool → tree.Expr → Shape
  an_assignment : Bool → tree.Expr → tree.Expr → tree.Expr → Shape
  a_set : Bool → tree.Expr → List ℕ → tree.Expr → Shape
  an_expression : tree.Expr → Shape
  a_throw : tree.Expr → Shape
  a_try : tree.Stmts → tree.MaybeCatch → tree.MaybeStmts → Shape

abbrev node_at : Shape → Node
node_at (a_number b n) = expression b (num n)
node_at (a_text b x) = expression b (text x)
node_at (a_truth b c) = expression b (bool c)
node_at (a_null b) = expression b null
node_at (a_list b) = expression b (list no_holes)
node_at (a_member b e x) = expression b (member e x)
node_at (an_index b a c) = expression b (index a c)
node_at (a_call b f es) = expression b (call f es)
node_at (a_construct b f es) = expression b (construct f es)
node_at (a_void b e) = expression b (unary Void e)
node_at (a_minus b e) = expression b (unary Minus e)
node_at (an_assignment b a c e) = expression b (assign None (index a c) e)
node_at (a_set b a x e) = expression b (assign None (member a x) e)
node_at (an_expression e) = statement (expr e)
node_at (a_throw e) = statement (throw e)
node_at (a_try ss c l) = statement (try ss c l)

-- a test that names and literals pass only where they break a rule, and none of these does
quiet : (test : Node → Bool) → ((b : Bool) (x : List ℕ) → is_restricted x ≡ false → test (expression b (name x)) ≡ false)
    → ((b : Bool) (fs : tree.Fields) → repeats_name fs ≡ false → test (expression b (literal fs)) ≡ false)
    → ((s : Shape) → test (node_at s) ≡ false) → IsQuiet test
quiet test names literals others = record {
  at_name = names;
  at_num = λ b n. others (a_number b n);
  at_text = λ b x. others (a_text b x);
  at_bool = λ b c. others (a_truth b c);
  at_null = λ b. others (a_null b);
  at_list = λ b. others (a_list b);
  at_literal = literals;
  at_member = λ b e x. others (a_member b e x);
  at_index = λ b a c. others (an_index b a c);
  at_call = λ b f es. others (a_call b f es);
  at_construct = λ b f es. others (a_construct b f es);
  at_void = λ b e. others (a_void b e);
  at_minus = λ b e. others (a_minus b e);
  at_assign = λ b a c e. others (an_assignment b a c e);
  at_set = λ b a x e. others (a_set b a x e);
  at_expr = λ e. others (an_expression e);
  at_throw = λ e. others (a_throw e);
  at_try = λ ss c l. others (a_try ss c l);
}

-- ---- the tests

no_function : (test : tree.Code → Bool) (s : Shape) → is_function test (node_at s) ≡ false
no_function test (a_null b) = refl
no_function test s = refl

function_test_quiet : (test : tree.Code → Bool) → IsQuiet (is_function test)
function_test_quiet test = quiet (is_function test) (λ b x e. refl) (λ b fs e. refl) (no_function test)

no_scope : (f g : tree.Code → Bool) (h : List ℕ → tree.Stmts → Bool) (s : Shape) → of_scopes f g h (node_at s) ≡ false
no_scope f g h (a_null b) = refl
no_scope f g h s = refl

scope_test_quiet : (f g : tree.Code → Bool) (h : List ℕ → tree.Stmts → Bool) → IsQuiet (of_scopes f g h)
scope_test_quiet f g h = quiet (of_scopes f g h) (λ b x e. refl) (λ b fs e. refl) (no_scope f g h)

no_field : (s : Shape) → repeats_field (node_at s) ≡ false
no_field (a_null b) = refl
no_field s = refl

pub fields_quiet : IsQuiet repeats_field
fields_quiet = quiet repeats_field (λ b x e. refl) (λ b fs e. e) no_field

no_deleted : (s : Shape) → deletes_name (node_at s) ≡ false
no_deleted (a_null b) = refl
no_deleted s = refl

pub deleted_quiet : IsQuiet deletes_name
deleted_quiet = quiet deletes_name (λ b x e. refl) (λ b fs e. refl) no_deleted

no_restricted : (s : Shape) → has_restricted_name (node_at s) ≡ false
no_restricted (a_null b) = refl
no_restricted s = refl

pub restricted_quiet : IsQuiet has_restricted_name
restricted_quiet = quiet has_restricted_name (λ b x e. or_from (is_restricted x) false e refl) (λ b fs e. refl) no_restricted

no_target : (s : Shape) → has_bad_target (node_at s) ≡ false
no_target (a_null b) = refl
no_target s = refl

pub targets_quiet : IsQuiet has_bad_target
targets_quiet = quiet has_bad_target (λ b x e. refl) (λ b fs e. refl) no_target

no_declaration : (s : Shape) → is_declaration (node_at s) ≡ false
no_declaration (a_null b) = refl
no_declaration s = refl

pub declarations_quiet : IsQuiet is_declaration
declarations_quiet = quiet is_declaration (λ b x e. refl) (λ b fs e. refl) no_declaration

no_high : (s : Shape) → is_high_function (node_at s) ≡ false
no_high (a_null b) = refl
no_high s = refl

pub high_quiet : IsQuiet is_high_function
high_quiet = quiet is_high_function (λ b x e. refl) (λ b fs e. refl) no_high

-- ---- those of functions and of scopes alone

pub formals_quiet : IsQuiet repeats_formal
formals_quiet = function_test_quiet (λ c. has_repeat (code_formals c))

pub jumps_quiet : IsQuiet has_stray_jump
jumps_quiet = function_test_quiet (λ c. strays (code_body c))

pub own_quiet : IsQuiet assigns_own_name
own_quiet = scope_test_quiet assigns_own (λ c. false) (λ x ss. false)

pub form_quiet : IsQuiet scope_out_of_form
form_quiet = scope_test_quiet is_expression_out_of_form is_declaration_out_of_form is_clause_out_of_form
