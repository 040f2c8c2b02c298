use Rattle.std.proofs.Common.{◌≡◌, ◌++◌, [], bytes_eq, arith}
use Rattle.std.proofs.lemmas.Grind.{common_steps}
use Rattle.indexmap.specs.IndexSet.{insert_all}
use Rattle.js_core.specs.Tree.{code, stmts_of}
use Rattle.scope_analysis.specs.Names.{declared_names, maybe_name}
use Rattle.scope_analysis.specs.Uses.{stmts_uses}
use Rattle.instrumenter.proofs.Rounds.{fields_found}
use Rattle.instrumenter.proofs.names.fields_in.Goals as goal

pub returns : goal.returns
returns c =
    let ss = stmts_of c.as_slice.result.now in
    let x = c.code.inside.name in
    let formals = c.code.inside.formals.items in
    let whole : code x formals ss ≡ c.args.code.now = grind (arith, common_steps) in
    let listed : c.push_declared_names.new.out.items ≡ formals ++ (maybe_name c.args.own.now ++ declared_names ss) = grind (arith, common_steps) in
    let inserted : c.as_slice-5.result.now ≡ insert_all bytes_eq [] c.push_declared_names.new.out.items = grind (arith, common_steps) in
    let found = fields_found _ _ c.args.own.now _ _ _ ss whole listed inserted in
    rw (c.in_ok-push_captured.ensures (stmts_uses ss) c.in_ok-uses.ensures, c.new-fields.ensures.items) found
