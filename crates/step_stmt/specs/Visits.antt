-- What a for-in does with a name (section 12.6.4).
use Rattle.std.specs.Prelude.{ℕ, List, Option}
use Rattle.code_table.specs.Node.{Node, and_child}
use Rattle.js_values.specs.declared.ids.ObjId.{ObjId}
use Rattle.js_values.specs.declared.value.Value.TheVariants.{Text}
use Rattle.page_meaning.specs.Act.{Act, Calls, also, asking, bind, choose}
use Rattle.page_meaning.specs.Loops.{Listed, is_held, turned}
use Rattle.page_meaning.specs.Names.{Here}
use Rattle.page_frames.specs.Parts.{mean_target, part}
use Rattle.page_frames.specs.RestLoops.{each_of}

-- after the step of the name: the target takes it where its holder still has it, and the body runs; then these names
abbrev pub visit : Calls → Here → Option Node → Option ObjId → List ℕ → Listed → Act
visit calls here at holder x rest =
    asking (is_held holder x) (λ there. choose there (also (mean_target calls here (and_child at 0) (Text x)) (λ _. bind (part calls here at 2) (turned (each_of calls here at rest)))) (each_of calls here at rest))
