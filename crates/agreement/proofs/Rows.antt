-- What built-in functions do on objects and values, in both pages (sections 15.2 to 15.6 and 15.11).
use Rattle.std.proofs.Common.{Bool, List}
use Rattle.js_values.specs.declared.built_in.BuiltIn.{BuiltIn}
use Rattle.js_values.specs.declared.built_in.BuiltIn.TheVariants as built_in
use Rattle.js_values.specs.declared.line.LineKind.TheVariants.{Alert, Log}
use Rattle.js_values.specs.declared.throw.ErrorKind.TheVariants as kind
use Rattle.js_values.specs.declared.throw.Throw.TheVariants.{WrongArgument}
use Rattle.js_values.specs.declared.value.Value.{Value}
use Rattle.page_meaning.specs.Act.{Calls}
use Rattle.page_meaning.specs.ObjectRows as rows
use Rattle.page_meaning.specs.Rows.{object_row}
use Rattle.heap_relations.specs.Naming.{named, World}
use Rattle.heap_relations.specs.Related.{Each, ValueRel, undefined}
use Rattle.agreement.proofs.Acts.{also_rel, bind_rel}
use Rattle.agreement.proofs.Heap.{put_line_rel, value_up, values_up}
use Rattle.agreement.proofs.Lines.{log_text_same, log_texts_same}
use Rattle.agreement.proofs.ObjectRows.{argument_rel, change_all_rel, create_rel, define_properties_rel, define_property_rel, extensible_same, freezing_rel, get_descriptor_rel, get_prototype_rel, has_named_rel, is_frozen_same, is_prototype_of_rel, is_sealed_same, lists_named_rel, object_from_rel, on_object_rel, own_enumerable_names_rel, own_names_rel, prevent_rel, sealing_rel, tagged_rel, telling_rel, value_itself_rel}
use Rattle.agreement.proofs.ValueRows.{error_from_rel, is_array_rel, list_from_rel, truth_from_rel, truth_itself_rel, truth_text_rel}
use Rattle.agreement.proofs.Values.{give_rel, raise_rel, to_text_rel}
use Rattle.agreement.specs.Acts.{Agrees}

pub object_row_rel : {V : World} {this that : Value} {vs ws : List Value} (c d : Calls) (construct : Bool) (which : BuiltIn) → ValueRel (named V) this that → Each (ValueRel (named V)) vs ws
    → Agrees V (object_row c construct which this vs) (object_row d construct which that ws)
object_row_rel c d b built_in.Alert h r = bind_rel (put_line_rel Alert (λ W l s t g. log_text_same g (value_up l (argument_rel r 0)))) (λ W l x y e. give_rel undefined)
object_row_rel c d b built_in.ConsoleLog h r = bind_rel (put_line_rel Log (λ W l s t g. log_texts_same g (values_up l r))) (λ W l x y e. give_rel undefined)
object_row_rel c d b built_in.Object h r = object_from_rel (argument_rel r 0)
object_row_rel c d b built_in.ObjectGetPrototypeOf h r = on_object_rel (argument_rel r 0) get_prototype_rel
object_row_rel c d b built_in.ObjectGetOwnPropertyDescriptor h r = on_object_rel (argument_rel r 0) (get_descriptor_rel c d (argument_rel r 1))
object_row_rel c d b built_in.ObjectGetOwnPropertyNames h r = on_object_rel (argument_rel r 0) own_names_rel
object_row_rel c d b built_in.ObjectCreate h r = create_rel (argument_rel r 0) (argument_rel r 1)
object_row_rel c d b built_in.ObjectDefineProperty h r = on_object_rel (argument_rel r 0) (define_property_rel c d (argument_rel r 1) (argument_rel r 2))
object_row_rel c d b built_in.ObjectDefineProperties h r = on_object_rel (argument_rel r 0) (define_properties_rel (argument_rel r 1))
object_row_rel c d b built_in.ObjectSeal h r = on_object_rel (argument_rel r 0) (change_all_rel sealing_rel)
object_row_rel c d b built_in.ObjectFreeze h r = on_object_rel (argument_rel r 0) (change_all_rel freezing_rel)
object_row_rel c d b built_in.ObjectPreventExtensions h r = on_object_rel (argument_rel r 0) prevent_rel
object_row_rel c d b built_in.ObjectIsSealed h r = on_object_rel (argument_rel r 0) (telling_rel rows.is_sealed is_sealed_same)
object_row_rel c d b built_in.ObjectIsFrozen h r = on_object_rel (argument_rel r 0) (telling_rel rows.is_frozen is_frozen_same)
object_row_rel c d b built_in.ObjectIsExtensible h r = on_object_rel (argument_rel r 0) (telling_rel (λ o. o.extensible) extensible_same)
object_row_rel c d b built_in.ObjectKeys h r = on_object_rel (argument_rel r 0) own_enumerable_names_rel
object_row_rel c d b built_in.ObjectPrototypeToString h r = tagged_rel h
object_row_rel c d b built_in.ObjectPrototypeValueOf h r = value_itself_rel h
object_row_rel c d b built_in.ObjectPrototypeHasOwnProperty h r = also_rel (to_text_rel c d (argument_rel r 0)) (λ W l v w k. has_named_rel (value_up l h) k)
object_row_rel c d b built_in.ObjectPrototypeIsPrototypeOf h r = is_prototype_of_rel h (argument_rel r 0)
object_row_rel c d b built_in.ObjectPrototypePropertyIsEnumerable h r = also_rel (to_text_rel c d (argument_rel r 0)) (λ W l v w k. lists_named_rel (value_up l h) k)
object_row_rel c d b built_in.FunctionPrototype h r = give_rel undefined
object_row_rel c d b built_in.Array h r = list_from_rel r
object_row_rel c d b built_in.ArrayIsArray h r = is_array_rel (argument_rel r 0)
object_row_rel c d b built_in.Boolean h r = truth_from_rel b (argument_rel r 0)
object_row_rel c d b built_in.BooleanPrototypeToString h r = truth_text_rel h
object_row_rel c d b built_in.BooleanPrototypeValueOf h r = truth_itself_rel h
object_row_rel c d b built_in.Error h r = error_from_rel c d kind.Plain (argument_rel r 0)
object_row_rel c d b built_in.TypeError h r = error_from_rel c d kind.Type (argument_rel r 0)
object_row_rel c d b built_in.RangeError h r = error_from_rel c d kind.Range (argument_rel r 0)
object_row_rel c d b built_in.ReferenceError h r = error_from_rel c d kind.Reference (argument_rel r 0)
object_row_rel c d b which h r = raise_rel WrongArgument
