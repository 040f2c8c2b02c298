use Rattle.std.proofs.Common.{◌≡◌, ◌∙◌, ap, arith}
use Rattle.js_core.specs.Tree as tree
use Rattle.js_core.specs.Tree.{fields_of}
use Rattle.instrumenter.specs.Around.{literal_fields}
use Rattle.instrumenter.proofs.Heights.{literal_is_low}
use Rattle.instrumenter.proofs.Rounds.{values_of}
use Rattle.instrumenter.proofs.pieces.scope_object.Goals as goal

pub new-requires : goal.new-requires
new-requires c =
    let e : fields_of c.in_ok-members.members.items ≡ literal_fields c.args.valued.now c.args.fields.now =
    ap fields_of c.in_ok-members.ensures ∙ values_of c.in_ok-table.table.keys c.args.valued.now c.args.fields.now c.in_ok-table.ensures in
    rw (e) (omega (arith, literal_is_low c.args.valued.now c.args.fields.now))

pub returns-clause-opened : goal.returns-clause-opened
returns-clause-opened c =
    c.new.ensures
    ∙ ap tree.literal (ap fields_of c.in_ok-members.ensures ∙ values_of c.in_ok-table.table.keys c.args.valued.now c.args.fields.now c.in_ok-table.ensures)

pub returns-clause-low : goal.returns-clause-low
returns-clause-low c =
    let e : fields_of c.in_ok-members.members.items ≡ literal_fields c.args.valued.now c.args.fields.now =
    ap fields_of c.in_ok-members.ensures ∙ values_of c.in_ok-table.table.keys c.args.valued.now c.args.fields.now c.in_ok-table.ensures in
    rw (c.new.ensures, e) (omega (arith, literal_is_low c.args.valued.now c.args.fields.now))
