use Rattle.std.proofs.Common.{◌≡◌, ◌++◌, take}
use Rattle.std.specs.List.{flat_map}
use Rattle.dom_tree.specs.DomText.{attribute_text}
use Rattle.dom_tree.proofs.text.push_start_tag.Given as goal

abbrev pub invariant-loop-name : goal.invariant-loop-name
invariant-loop-name l = l.out.items ≡ l.initial.out.items ++ flat_map attribute_text (take l.name-index l.name-items)
