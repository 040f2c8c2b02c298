-- The worked scripts put out their lines: each by evaluating.
use Rattle.std.specs.Fmt.{digits}
use Rattle.std.specs.Prelude.{refl}
use Rattle.js_core.specs.Characters.{is_line_end, is_white_space}
use Rattle.global_names.specs.Names.{global_names}
use Rattle.object_heap.specs.Chain.{can_put, get_property}
use Rattle.object_heap.specs.Heap.{add_property, define_own, delete, lookup, prevent_extensions, put, set}
use Rattle.whole_ops.specs.Numeral.{decimal_of, goes_on_as_decimal, hexadecimal_of, is_decimal, is_exponent, literal_of, to_whole}
use Rattle.whole_ops.specs.WhiteSpace.{trimmed}
use Rattle.page_host.specs.HostNames.{host_name, text_limit}
use Rattle.page_meaning.specs.Places.{array_prototype_place, string_prototype_place, number_prototype_place, boolean_prototype_place, math_place, console_place, function_place, error_prototype_place, type_error_prototype_place, range_error_prototype_place, reference_error_prototype_place, node_prototype_place, event_prototype_place, built_in_count}
use Rattle.page_meaning.specs.Tasks.{depth_limit, step_limit}
use Rattle.worked_pages.specs.Worked.{PutOut}
use Rattle.worked_pages.specs.Expressions as expressions
use Rattle.worked_pages.specs.Objects as made
use Rattle.worked_pages.specs.Statements as statements

pub references_put_out : PutOut expressions.references
unfolding host_name node_prototype_place event_prototype_place built_in_count array_prototype_place error_prototype_place type_error_prototype_place range_error_prototype_place reference_error_prototype_place console_place function_place string_prototype_place number_prototype_place boolean_prototype_place math_place step_limit depth_limit text_limit global_names digits put define_own delete prevent_extensions lookup can_put get_property set add_property to_whole literal_of decimal_of hexadecimal_of is_decimal goes_on_as_decimal is_exponent trimmed is_white_space is_line_end
references_put_out = (refl, (refl, (refl, (refl, (refl, (refl, (refl, (refl, (refl, tt)))))))))

pub operators_put_out : PutOut expressions.operators
unfolding host_name node_prototype_place event_prototype_place built_in_count array_prototype_place error_prototype_place type_error_prototype_place range_error_prototype_place reference_error_prototype_place console_place function_place string_prototype_place number_prototype_place boolean_prototype_place math_place step_limit depth_limit text_limit global_names digits put define_own delete prevent_extensions lookup can_put get_property set add_property to_whole literal_of decimal_of hexadecimal_of is_decimal goes_on_as_decimal is_exponent trimmed is_white_space is_line_end
operators_put_out = (refl, (refl, (refl, (refl, (refl, (refl, (refl, tt)))))))

pub objects_put_out : PutOut expressions.objects
unfolding host_name node_prototype_place event_prototype_place built_in_count array_prototype_place error_prototype_place type_error_prototype_place range_error_prototype_place reference_error_prototype_place console_place function_place string_prototype_place number_prototype_place boolean_prototype_place math_place step_limit depth_limit text_limit global_names digits put define_own delete prevent_extensions lookup can_put get_property set add_property to_whole literal_of decimal_of hexadecimal_of is_decimal goes_on_as_decimal is_exponent trimmed is_white_space is_line_end
objects_put_out = (refl, (refl, (refl, (refl, (refl, tt)))))

pub functions_put_out : PutOut expressions.functions
unfolding host_name node_prototype_place event_prototype_place built_in_count array_prototype_place error_prototype_place type_error_prototype_place range_error_prototype_place reference_error_prototype_place console_place function_place string_prototype_place number_prototype_place boolean_prototype_place math_place step_limit depth_limit text_limit global_names digits put define_own delete prevent_extensions lookup can_put get_property set add_property to_whole literal_of decimal_of hexadecimal_of is_decimal goes_on_as_decimal is_exponent trimmed is_white_space is_line_end
functions_put_out = (refl, (refl, (refl, (refl, (refl, tt)))))

pub loops_put_out : PutOut statements.loops
unfolding host_name node_prototype_place event_prototype_place built_in_count array_prototype_place error_prototype_place type_error_prototype_place range_error_prototype_place reference_error_prototype_place console_place function_place string_prototype_place number_prototype_place boolean_prototype_place math_place step_limit depth_limit text_limit global_names digits put define_own delete prevent_extensions lookup can_put get_property set add_property to_whole literal_of decimal_of hexadecimal_of is_decimal goes_on_as_decimal is_exponent trimmed is_white_space is_line_end
loops_put_out = (refl, (refl, (refl, (refl, (refl, tt)))))

pub exceptions_put_out : PutOut statements.exceptions
unfolding host_name node_prototype_place event_prototype_place built_in_count array_prototype_place error_prototype_place type_error_prototype_place range_error_prototype_place reference_error_prototype_place console_place function_place string_prototype_place number_prototype_place boolean_prototype_place math_place step_limit depth_limit text_limit global_names digits put define_own delete prevent_extensions lookup can_put get_property set add_property to_whole literal_of decimal_of hexadecimal_of is_decimal goes_on_as_decimal is_exponent trimmed is_white_space is_line_end
exceptions_put_out = (refl, (refl, (refl, (refl, (refl, tt)))))

pub switches_put_out : PutOut statements.switches
unfolding host_name node_prototype_place event_prototype_place built_in_count array_prototype_place error_prototype_place type_error_prototype_place range_error_prototype_place reference_error_prototype_place console_place function_place string_prototype_place number_prototype_place boolean_prototype_place math_place step_limit depth_limit text_limit global_names digits put define_own delete prevent_extensions lookup can_put get_property set add_property to_whole literal_of decimal_of hexadecimal_of is_decimal goes_on_as_decimal is_exponent trimmed is_white_space is_line_end
switches_put_out = (refl, (refl, tt))

pub declarations_put_out : PutOut statements.declarations
unfolding host_name node_prototype_place event_prototype_place built_in_count array_prototype_place error_prototype_place type_error_prototype_place range_error_prototype_place reference_error_prototype_place console_place function_place string_prototype_place number_prototype_place boolean_prototype_place math_place step_limit depth_limit text_limit global_names digits put define_own delete prevent_extensions lookup can_put get_property set add_property to_whole literal_of decimal_of hexadecimal_of is_decimal goes_on_as_decimal is_exponent trimmed is_white_space is_line_end
declarations_put_out = (refl, (refl, (refl, tt)))

pub made_objects_put_out : PutOut made.objects
unfolding host_name node_prototype_place event_prototype_place built_in_count array_prototype_place error_prototype_place type_error_prototype_place range_error_prototype_place reference_error_prototype_place console_place function_place string_prototype_place number_prototype_place boolean_prototype_place math_place step_limit depth_limit text_limit global_names digits put define_own delete prevent_extensions lookup can_put get_property set add_property to_whole literal_of decimal_of hexadecimal_of is_decimal goes_on_as_decimal is_exponent trimmed is_white_space is_line_end
made_objects_put_out = (refl, (refl, (refl, (refl, (refl, tt)))))

pub constructors_put_out : PutOut made.constructors
unfolding host_name node_prototype_place event_prototype_place built_in_count array_prototype_place error_prototype_place type_error_prototype_place range_error_prototype_place reference_error_prototype_place console_place function_place string_prototype_place number_prototype_place boolean_prototype_place math_place step_limit depth_limit text_limit global_names digits put define_own delete prevent_extensions lookup can_put get_property set add_property to_whole literal_of decimal_of hexadecimal_of is_decimal goes_on_as_decimal is_exponent trimmed is_white_space is_line_end
constructors_put_out = (refl, (refl, (refl, tt)))
