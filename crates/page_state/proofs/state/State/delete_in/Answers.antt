use Rattle.page_meaning.specs.Act.{give}
use Rattle.page_meaning.specs.Primitives.{delete_at}
use Rattle.js_values.specs.declared.value.Value.TheVariants.{Bool}
use Rattle.std.specs.Prelude.{Ok, Err, true}
use Rattle.std.proofs.Common.{◌∙◌, sym}
use Rattle.page_state.proofs.Does.{passed, refused}
use Rattle.page_state.proofs.Deletes.{delete_goes, delete_kept}
use Rattle.page_state.proofs.state.State.delete_in.Goals as goal

pub returns-then-has_named_host : goal.returns-then-has_named_host
returns-then-has_named_host c =
    delete_kept c.args.at c.args.name.now c.args.self.now c.raise.new.self c.raise.result (sym c.if-has_named_host.true ∙ c.has_named_host.ensures) c.raise.ensures

pub returns-in-None : goal.returns-in-None
returns-in-None c =
    delete_goes c.args.at c.args.name.now c.args.self.now c.delete_at.new.self (Ok true) (sym c.if-has_named_host.false ∙ c.has_named_host.ensures)
    (passed (delete_at c.args.at c.args.name.now) (Bool true) c.args.self.now c.delete_at.new.self (rw c.in-None.is at c.in_ok-delete_at.ensures))

pub returns-in-Some : goal.returns-in-Some
returns-in-Some c =
    delete_goes c.args.at c.args.name.now c.args.self.now c.raise-in-Some.new.self (Err c.raise-in-Some.result) (sym c.if-has_named_host.false ∙ c.has_named_host.ensures)
    (refused (delete_at c.args.at c.args.name.now) (give (Bool true)) c.in-Some.what c.args.self.now c.delete_at.new.self c.raise-in-Some.new.self c.raise-in-Some.result (rw c.in-Some.is at c.in_ok-delete_at.ensures) c.raise-in-Some.ensures)
