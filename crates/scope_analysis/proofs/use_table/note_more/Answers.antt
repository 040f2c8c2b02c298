use Rattle.std.proofs.Common.{◌≡◌, ◌∙◌, Some, ap, bytes_eq, rules, sym}
use Rattle.std.specs.Map.{lookup, set_value}
use Rattle.std.specs.Option.{option_copied_mut}
use Rattle.scope_analysis.proofs.UseTables.{name_present}
use Rattle.scope_analysis.proofs.use_table.note_more.Goals as goal

pub returns-in-Some-clause-noted : goal.returns-in-Some-clause-noted
returns-in-Some-clause-noted c = λ yes.
    let found : lookup (bytes_eq c.args.name.now) c.args.table.now.entries ≡ Some c.in-Some.held.now = sym c.get_mut.ensures.value ∙ ap option_copied_mut c.in-Some.is in
    let set : (c.get_mut.follows.lender c.and_more.result).entries ≡ set_value (bytes_eq c.args.name.now) c.args.table.now.entries c.and_more.result = search rules in
    set ∙ ap (set_value (bytes_eq c.args.name.now) c.args.table.now.entries) c.and_more.ensures
    ∙ sym (name_present c.args.table.now.entries c.args.name.now c.in-Some.held.now c.args.more found)
