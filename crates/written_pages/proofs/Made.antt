-- New objects.
use Rattle.std.proofs.lemmas.Bool.{leb-true}
use Rattle.std.specs.Prelude.{Option, Some, refl}
use Rattle.js_core.specs.Whole.{largest}
use Rattle.js_values.specs.declared.ids.ObjId.{ObjId}
use Rattle.object_heap.proofs.Callers.{new_fit}
use Rattle.object_heap.specs.Define.{length_name}
use Rattle.object_heap.specs.Heap.{new_object}
use Rattle.object_heap.specs.declared.object.Class.TheVariants.{Plain, List as Array}
use Rattle.page_meaning.specs.Expressions.{new_list, new_plain}
use Rattle.page_meaning.specs.Places.{array_prototype, object_prototype}
use Rattle.literal_values.proofs.Callers.{text_seen}
use Rattle.literal_values.specs.Objects.{LiteralObject}
use Rattle.written_pages.proofs.Primitives.{make_is}
use Rattle.written_pages.specs.Acts.{ActIs, Any}

pub plain_literal : (proto : Option ObjId) → LiteralObject (new_object Plain proto)
plain_literal proto = record { class = tt; props = tt }

pub list_literal : (proto : Option ObjId) → LiteralObject (new_object Array proto)
list_literal proto = record { class = tt; props = (text_seen length_name refl, leb-true 0 largest refl, tt) }

pub new_plain_is : ActIs Any new_plain
new_plain_is = make_is (new_object Plain (Some object_prototype)) (new_fit Plain (Some object_prototype)) refl (plain_literal (Some object_prototype))

pub new_list_is : ActIs Any new_list
new_list_is = make_is (new_object Array (Some array_prototype)) (new_fit Array (Some array_prototype)) refl (list_literal (Some array_prototype))
