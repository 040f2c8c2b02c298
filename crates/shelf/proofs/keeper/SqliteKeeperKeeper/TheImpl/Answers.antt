use Rattle.std.proofs.Common.{refl}
use Rattle.shelf.proofs.Untold.{counts_calls, untold_err, untold_if, untold_ok}
use Rattle.shelf.proofs.keeper.SqliteKeeperKeeper.TheImpl.Goals as goal

pub put-tells : goal.put-tells
put-tells g c = rw c.ensures.after (record {
  ok = untold_ok c.result refl;
  fault = untold_err c.result refl;
  counts = counts_calls c.args.self.now.faults c.result;
})

pub get-tells : goal.get-tells
get-tells g c = rw c.ensures.after (record {
  ok = untold_if c.result;
  same = refl;
  counts = counts_calls c.args.self.now.faults c.result;
})

pub list-tells : goal.list-tells
list-tells g c = rw c.ensures.after (record {
  ok = untold_if c.result;
  same = refl;
  counts = counts_calls c.args.self.now.faults c.result;
})

pub remove-tells : goal.remove-tells
remove-tells g c = rw c.ensures.after (record {
  ok = untold_if c.result;
  removed = untold_ok c.result refl;
  fault = untold_err c.result refl;
  counts = counts_calls c.args.self.now.faults c.result;
})
