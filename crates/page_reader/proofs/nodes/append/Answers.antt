use Rattle.page_reader.proofs.Inserting.{answered, kept}
use Rattle.page_reader.proofs.nodes.append.Goals as goal

pub returns-clause-kept : goal.returns-clause-kept
returns-clause-kept c =
    kept c.args.dom.now c.insert_before-inserted.new.self c.args.parent c.args.child c.law_insertion.ensures.others_stay c.count-count.ensures.sound c.requires.parent c.requires.child c.requires.free (answered c.insert_before-inserted.result _ _ _ _ c.requires.free c.insert_before-inserted.ensures)
