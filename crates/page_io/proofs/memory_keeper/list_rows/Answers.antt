use Rattle.std.proofs.Common.{◌≡◌, map, rules, ap, sym, ◌∙◌}
use Rattle.std.proofs.lemmas.Map.Iter.{iter_end}
use Rattle.std.specs.Map.Iter.{deref_pair}
use Rattle.page_io.specs.Table.{kept_name}
use Rattle.page_io.specs.MemoryKeeperOf.{row_of}
use Rattle.page_io.proofs.Tables.{entries_rows}
use Rattle.page_io.proofs.memory_keeper.list_rows.Goals as goal

pub returns : goal.returns
returns c =
    let all : map deref_pair c.loop-key.yielded ≡ c.args.rows.now.entries = search (rules, iter_end) in
    c.loop-key.invariant ∙ ap (λ rows. map kept_name (map row_of rows)) all
    ∙ ap (map kept_name) (sym (entries_rows c.args.rows.now.entries c.into_iter-key-iterator.ensures.into_iter_gives.5))
