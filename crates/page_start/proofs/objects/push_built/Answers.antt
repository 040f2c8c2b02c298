use Rattle.page_start.proofs.Youngest.{closed_youngest}
use Rattle.page_start.proofs.objects.push_built.Goals as goal

pub returns : goal.returns
returns c = closed_youngest c.args.heap.now c.alloc_whole.new.self c.close.new.self c.args.class c.args.proto c.in_ok-at.at c.args.props c.requires.unbound c.requires.older c.in_ok-at.ensures.id c.in_ok-at.ensures.ok c.close.ensures
