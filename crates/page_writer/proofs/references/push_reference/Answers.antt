use Rattle.std.proofs.Common.{◌∙◌, ◌++◌, sym, ap}
use Rattle.std.proofs.lemmas.Result.{on_ok_weaker}
use Rattle.std.specs.Option.{option_copied}
use Rattle.built_in_paths.specs.Paths.{path_of}
use Rattle.page_writer.proofs.Trees.{reference_path, reference_unlisted}
use Rattle.page_writer.proofs.references.push_reference.Goals as goal

pub returns-in-Some : goal.returns-in-Some
returns-in-Some c =
    let found = path_of c.args.at.0 in
    on_ok_weaker c.push_path.result (λ e. e ∙ ap (λ l. c.args.out.now.items ++ l) (reference_path c.args.at.0 c.in-Some.path.now found (sym c.path.ensures ∙ ap option_copied c.in-Some.is))) c.push_path.ensures

pub returns-in-None : goal.returns-in-None
returns-in-None c =
    let found = path_of c.args.at.0 in
    on_ok_weaker c.push_unlisted.result (λ e. e ∙ ap (λ l. c.args.out.now.items ++ l) (reference_unlisted c.args.at.0 found (sym c.path.ensures ∙ ap option_copied c.in-None.is))) c.push_unlisted.ensures
