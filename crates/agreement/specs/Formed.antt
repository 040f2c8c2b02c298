-- What is asked of the functions of a script in form, in their frames: that their needed variables are found there, as constants, and no other name.
use Rattle.std.specs.Prelude.{ℕ, Bool, true, false, not, ◌&&◌, List, [], ◌∷◌, Option, Some, None, if◌then◌else◌}
use Rattle.std.specs.List.{list_all}
use Rattle.code_table.specs.Declarations.{name_of}
use Rattle.js_core.specs.Tree as tree
use Rattle.js_core.specs.Tree.{code, func, function}
use Rattle.early_rules.specs.FormNodes.{is_factory}
use Rattle.scope_analysis.specs.Identifiers.{is_reserved}
use Rattle.scope_analysis.specs.Nodes.{Node, expression, statement}
use Rattle.scope_analysis.specs.Uses.{expr_uses, is_captured, stmts_uses}
use Rattle.heap_relations.specs.Naming.{Absent, Constant, Frame, Kept}
use Rattle.agreement.specs.Opened.{Demand, is_round}

-- ---- where names are found

abbrev pub held_kept : Kept → Bool → Bool
held_kept Absent outer = outer
held_kept Constant outer = true
held_kept k outer = false

-- the innermost frame that has the name has it as a constant
abbrev pub is_held : List Frame → List ℕ → Bool
is_held [] x = false
is_held (f ∷ fs) x = held_kept (f.keeps x) (is_held fs x)

abbrev pub absent_kept : Kept → Bool → Bool
absent_kept Absent outer = outer
absent_kept k outer = false

-- no frame has the name
abbrev pub is_unbound : List Frame → List ℕ → Bool
is_unbound [] x = true
is_unbound (f ∷ fs) x = absent_kept (f.keeps x) (is_unbound fs x)

abbrev pub is_found_so : List Frame → List ℕ → Bool
is_found_so fs x = if is_reserved x then is_held fs x else is_unbound fs x

-- so are the names that the function leaves to the scopes round it
abbrev pub finds_needs : List Frame → tree.Code → Bool
finds_needs fs c = list_all (λ u. is_found_so fs u.name) (expr_uses (func c))

-- its own name is sealed in the innermost frame
abbrev pub seals_name : List Frame → Option (List ℕ) → Bool
seals_name fs None = true
seals_name fs (Some x) = is_round fs x

-- ---- what is asked

-- captured names that begin with `$$` are constants; functions that are called at once to bind names are not asked about
abbrev pub formed : (tree.Code → Bool) → Demand
formed asks = record {
  opens = false;
  names = true;
  seals = λ formals body x. is_reserved x && is_captured x (stmts_uses body);
  boxes = λ x body. is_reserved x && is_captured x (stmts_uses body);
  spares = is_factory;
  asks = λ fs c. asks c && (seals_name fs (name_of c) && finds_needs fs c);
}

-- a declared function's code is held without its name
abbrev pub nameless : tree.Code → tree.Code
nameless (code x formals body) = code None formals body

-- the node is a function that does not pass the test, and none that is called at once to bind names
abbrev pub is_unasked : (tree.Code → Bool) → Node → Bool
is_unasked asks (expression is_callee (func c)) = not (is_callee && is_factory c) && not (asks c)
is_unasked asks (statement (function c)) = not (asks (nameless c))
is_unasked asks n = false
