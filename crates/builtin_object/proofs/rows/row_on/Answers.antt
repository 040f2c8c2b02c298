use Rattle.js_values.specs.declared.built_in.BuiltIn.TheVariants as built_in
use Rattle.page_meaning.specs.Rows.{object_row}
use Rattle.builtin_object.proofs.Unbuilt.{unbuilt}
use Rattle.builtin_object.proofs.rows.row_on.Goals as goal

pub returns-in-Alert : goal.returns-in-Alert
returns-in-Alert c = rw c.in-Alert.is (rw (c.requires.first) at c.alert.ensures)

pub returns-in-ConsoleLog : goal.returns-in-ConsoleLog
returns-in-ConsoleLog c = rw c.in-ConsoleLog.is c.log.ensures

pub returns-in-Object : goal.returns-in-Object
returns-in-Object c = rw c.in-Object.is (c.as_object.ensures (λ calls. object_row calls c.args.construct built_in.Object c.args.this.now c.args.args.now) c.args.state.now c.object_from.new.state (rw (c.requires.first) at c.object_from.ensures))

pub returns-in-ObjectGetPrototypeOf : goal.returns-in-ObjectGetPrototypeOf
returns-in-ObjectGetPrototypeOf c = rw c.in-ObjectGetPrototypeOf.is (rw (c.requires.first) at c.get_prototype_of.ensures)

pub returns-in-ObjectGetOwnPropertyDescriptor : goal.returns-in-ObjectGetOwnPropertyDescriptor
returns-in-ObjectGetOwnPropertyDescriptor c = rw c.in-ObjectGetOwnPropertyDescriptor.is (rw (c.requires.first, c.requires.second) at c.get_own_property_descriptor.ensures)

pub returns-in-ObjectGetOwnPropertyNames : goal.returns-in-ObjectGetOwnPropertyNames
returns-in-ObjectGetOwnPropertyNames c = rw c.in-ObjectGetOwnPropertyNames.is (c.as_object-in-ObjectGetOwnPropertyNames.ensures (λ calls. object_row calls c.args.construct built_in.ObjectGetOwnPropertyNames c.args.this.now c.args.args.now) c.args.state.now c.get_own_property_names.new.state (rw (c.requires.first) at c.get_own_property_names.ensures))

pub returns-in-ObjectCreate : goal.returns-in-ObjectCreate
returns-in-ObjectCreate c = rw c.in-ObjectCreate.is (c.as_object-in-ObjectCreate.ensures (λ calls. object_row calls c.args.construct built_in.ObjectCreate c.args.this.now c.args.args.now) c.args.state.now c.create.new.state (rw (c.requires.first, c.requires.second) at c.create.ensures))

pub returns-in-ObjectDefineProperty : goal.returns-in-ObjectDefineProperty
returns-in-ObjectDefineProperty c = rw c.in-ObjectDefineProperty.is (c.as_object-in-ObjectDefineProperty.ensures (λ calls. object_row calls c.args.construct built_in.ObjectDefineProperty c.args.this.now c.args.args.now) c.args.state.now c.define_property.new.state (rw (c.requires.first, c.requires.second, c.requires.third) at c.define_property.ensures))

pub returns-in-ObjectDefineProperties : goal.returns-in-ObjectDefineProperties
returns-in-ObjectDefineProperties c = rw c.in-ObjectDefineProperties.is (c.as_object-in-ObjectDefineProperties.ensures (λ calls. object_row calls c.args.construct built_in.ObjectDefineProperties c.args.this.now c.args.args.now) c.args.state.now c.define_properties.new.state (rw (c.requires.first, c.requires.second) at c.define_properties.ensures))

pub returns-in-ObjectSeal : goal.returns-in-ObjectSeal
returns-in-ObjectSeal c = rw c.in-ObjectSeal.is (c.as_object-in-ObjectSeal.ensures (λ calls. object_row calls c.args.construct built_in.ObjectSeal c.args.this.now c.args.args.now) c.args.state.now c.seal.new.state (rw (c.requires.first) at c.seal.ensures))

pub returns-in-ObjectFreeze : goal.returns-in-ObjectFreeze
returns-in-ObjectFreeze c = rw c.in-ObjectFreeze.is (c.as_object-in-ObjectFreeze.ensures (λ calls. object_row calls c.args.construct built_in.ObjectFreeze c.args.this.now c.args.args.now) c.args.state.now c.freeze.new.state (rw (c.requires.first) at c.freeze.ensures))

pub returns-in-ObjectPreventExtensions : goal.returns-in-ObjectPreventExtensions
returns-in-ObjectPreventExtensions c = rw c.in-ObjectPreventExtensions.is (c.as_object-in-ObjectPreventExtensions.ensures (λ calls. object_row calls c.args.construct built_in.ObjectPreventExtensions c.args.this.now c.args.args.now) c.args.state.now c.prevent_extensions.new.state (rw (c.requires.first) at c.prevent_extensions.ensures))

pub returns-in-ObjectIsSealed : goal.returns-in-ObjectIsSealed
returns-in-ObjectIsSealed c = rw c.in-ObjectIsSealed.is (c.as_truth.ensures (λ calls. object_row calls c.args.construct built_in.ObjectIsSealed c.args.this.now c.args.args.now) c.args.state.now c.is_sealed.new.state (rw (c.requires.first) at c.is_sealed.ensures))

pub returns-in-ObjectIsFrozen : goal.returns-in-ObjectIsFrozen
returns-in-ObjectIsFrozen c = rw c.in-ObjectIsFrozen.is (c.as_truth-in-ObjectIsFrozen.ensures (λ calls. object_row calls c.args.construct built_in.ObjectIsFrozen c.args.this.now c.args.args.now) c.args.state.now c.is_frozen.new.state (rw (c.requires.first) at c.is_frozen.ensures))

pub returns-in-ObjectIsExtensible : goal.returns-in-ObjectIsExtensible
returns-in-ObjectIsExtensible c = rw c.in-ObjectIsExtensible.is (c.as_truth-in-ObjectIsExtensible.ensures (λ calls. object_row calls c.args.construct built_in.ObjectIsExtensible c.args.this.now c.args.args.now) c.args.state.now c.is_extensible.new.state (rw (c.requires.first) at c.is_extensible.ensures))

pub returns-in-ObjectKeys : goal.returns-in-ObjectKeys
returns-in-ObjectKeys c = rw c.in-ObjectKeys.is (c.as_object-in-ObjectKeys.ensures (λ calls. object_row calls c.args.construct built_in.ObjectKeys c.args.this.now c.args.args.now) c.args.state.now c.keys.new.state (rw (c.requires.first) at c.keys.ensures))

pub returns-in-ObjectPrototypeToString : goal.returns-in-ObjectPrototypeToString
returns-in-ObjectPrototypeToString c = rw c.in-ObjectPrototypeToString.is (c.as_text.ensures (λ calls. object_row calls c.args.construct built_in.ObjectPrototypeToString c.args.this.now c.args.args.now) c.args.state.now c.tagged.new.state c.tagged.ensures)

pub returns-in-ObjectPrototypeValueOf : goal.returns-in-ObjectPrototypeValueOf
returns-in-ObjectPrototypeValueOf c = rw c.in-ObjectPrototypeValueOf.is c.value_itself.ensures

pub returns-in-ObjectPrototypeHasOwnProperty : goal.returns-in-ObjectPrototypeHasOwnProperty
returns-in-ObjectPrototypeHasOwnProperty c = rw c.in-ObjectPrototypeHasOwnProperty.is (c.as_truth-in-ObjectPrototypeHasOwnProperty.ensures (λ calls. object_row calls c.args.construct built_in.ObjectPrototypeHasOwnProperty c.args.this.now c.args.args.now) c.args.state.now c.has_own_property.new.state (rw (c.requires.first) at c.has_own_property.ensures))

pub returns-in-ObjectPrototypeIsPrototypeOf : goal.returns-in-ObjectPrototypeIsPrototypeOf
returns-in-ObjectPrototypeIsPrototypeOf c = rw c.in-ObjectPrototypeIsPrototypeOf.is (c.as_truth-in-ObjectPrototypeIsPrototypeOf.ensures (λ calls. object_row calls c.args.construct built_in.ObjectPrototypeIsPrototypeOf c.args.this.now c.args.args.now) c.args.state.now c.is_prototype_of.new.state (rw (c.requires.first) at c.is_prototype_of.ensures))

pub returns-in-ObjectPrototypePropertyIsEnumerable : goal.returns-in-ObjectPrototypePropertyIsEnumerable
returns-in-ObjectPrototypePropertyIsEnumerable c = rw c.in-ObjectPrototypePropertyIsEnumerable.is (c.as_truth-in-ObjectPrototypePropertyIsEnumerable.ensures (λ calls. object_row calls c.args.construct built_in.ObjectPrototypePropertyIsEnumerable c.args.this.now c.args.args.now) c.args.state.now c.property_is_enumerable.new.state (rw (c.requires.first) at c.property_is_enumerable.ensures))

pub returns-in-Array : goal.returns-in-Array
returns-in-Array c = rw c.in-Array.is (c.as_object-in-Array.ensures (λ calls. object_row calls c.args.construct built_in.Array c.args.this.now c.args.args.now) c.args.state.now c.list_from.new.state c.list_from.ensures)

pub returns-in-ArrayIsArray : goal.returns-in-ArrayIsArray
returns-in-ArrayIsArray c = rw c.in-ArrayIsArray.is (rw c.requires.first at c.is_array.ensures)

pub returns-in-Boolean : goal.returns-in-Boolean
returns-in-Boolean c = rw c.in-Boolean.is (c.as_truth-in-Boolean.ensures (λ calls. object_row calls c.args.construct built_in.Boolean c.args.this.now c.args.args.now) c.args.state.now c.truth_from.new.state (rw (c.requires.first) at c.truth_from.ensures))

pub returns-in-BooleanPrototypeToString : goal.returns-in-BooleanPrototypeToString
returns-in-BooleanPrototypeToString c = rw c.in-BooleanPrototypeToString.is c.truth_text.ensures

pub returns-in-BooleanPrototypeValueOf : goal.returns-in-BooleanPrototypeValueOf
returns-in-BooleanPrototypeValueOf c = rw c.in-BooleanPrototypeValueOf.is c.truth_itself.ensures

pub returns-in-Error : goal.returns-in-Error
returns-in-Error c = rw c.in-Error.is (c.as_object-in-Error.ensures (λ calls. object_row calls c.args.construct built_in.Error c.args.this.now c.args.args.now) c.args.state.now c.error_from.new.state (rw (c.requires.first) at c.error_from.ensures))

pub returns-in-TypeError : goal.returns-in-TypeError
returns-in-TypeError c = rw c.in-TypeError.is (c.as_object-in-TypeError.ensures (λ calls. object_row calls c.args.construct built_in.TypeError c.args.this.now c.args.args.now) c.args.state.now c.error_from-in-TypeError.new.state (rw (c.requires.first) at c.error_from-in-TypeError.ensures))

pub returns-in-RangeError : goal.returns-in-RangeError
returns-in-RangeError c = rw c.in-RangeError.is (c.as_object-in-RangeError.ensures (λ calls. object_row calls c.args.construct built_in.RangeError c.args.this.now c.args.args.now) c.args.state.now c.error_from-in-RangeError.new.state (rw (c.requires.first) at c.error_from-in-RangeError.ensures))

pub returns-in-ReferenceError : goal.returns-in-ReferenceError
returns-in-ReferenceError c = rw c.in-ReferenceError.is (c.as_object-in-ReferenceError.ensures (λ calls. object_row calls c.args.construct built_in.ReferenceError c.args.this.now c.args.args.now) c.args.state.now c.error_from-in-ReferenceError.new.state (rw (c.requires.first) at c.error_from-in-ReferenceError.ensures))

pub returns-in_default : goal.returns-in_default
returns-in_default c = unbuilt c.args.construct c.args.which c.args.this.now c.args.args.now c.args.state.now c.raise.new.self c.raise.result c.in_default.not-Alert c.in_default.not-ConsoleLog c.in_default.not-Object c.in_default.not-ObjectGetPrototypeOf c.in_default.not-ObjectGetOwnPropertyDescriptor c.in_default.not-ObjectGetOwnPropertyNames c.in_default.not-ObjectCreate c.in_default.not-ObjectDefineProperty c.in_default.not-ObjectDefineProperties c.in_default.not-ObjectSeal c.in_default.not-ObjectFreeze c.in_default.not-ObjectPreventExtensions c.in_default.not-ObjectIsSealed c.in_default.not-ObjectIsFrozen c.in_default.not-ObjectIsExtensible c.in_default.not-ObjectKeys c.in_default.not-ObjectPrototypeToString c.in_default.not-ObjectPrototypeValueOf c.in_default.not-ObjectPrototypeHasOwnProperty c.in_default.not-ObjectPrototypeIsPrototypeOf c.in_default.not-ObjectPrototypePropertyIsEnumerable c.in_default.not-FunctionPrototype c.in_default.not-Array c.in_default.not-ArrayIsArray c.in_default.not-Boolean c.in_default.not-BooleanPrototypeToString c.in_default.not-BooleanPrototypeValueOf c.in_default.not-Error c.in_default.not-TypeError c.in_default.not-RangeError c.in_default.not-ReferenceError c.raise.ensures
