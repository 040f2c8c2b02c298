use Rattle.page_start.proofs.Youngest.{array_youngest}
use Rattle.page_start.proofs.objects.push_array_prototype.Goals as goal

pub returns : goal.returns
returns c =
    array_youngest c.args.heap.now c.alloc.new.self c.define_method.new.heap c.define_methods.new.heap c.close.new.self c.in_ok-at.at c.requires c.in_ok-at.ensures.id c.in_ok-at.ensures.ok
    c.in_ok-define_method.ensures c.in_ok-define_methods.ensures c.close.ensures
