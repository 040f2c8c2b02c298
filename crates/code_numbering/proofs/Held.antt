-- A function as it is held: its name, if it keeps it, its formals and its body.
use Rattle.std.proofs.Common.{◌≡◌, refl, Bool, true, false}
use Rattle.js_core.specs.Tree as tree
use Rattle.js_core.specs.Tree.{code}
use Rattle.code_table.specs.Declarations.{held, name_of}
use Rattle.scope_analysis.specs.Names.{code_body, code_formals}

pub held_whole : (named : Bool) (c : tree.Code) → code (name_of (held named c)) (code_formals c) (code_body c) ≡ held named c
held_whole true (code x formals body) = refl
held_whole false (code x formals body) = refl
