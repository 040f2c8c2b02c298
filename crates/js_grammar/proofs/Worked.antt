-- The worked examples are read as they say.
use Rattle.std.proofs.Common.{refl}
use Rattle.std.specs.Fmt.{digits}
use Rattle.js_grammar.specs.Parser.{sees, expect, eat, taken, within_limit, separated, listed, many, divided}
use Rattle.js_grammar.specs.ExpressionReader as e
use Rattle.js_grammar.specs.StatementReader as s
use Rattle.js_grammar.specs.ScriptReader.{inside, read_script}
use Rattle.js_grammar.specs.Examples.{AreRead}
use Rattle.js_grammar.specs.ExpressionExamples.{operators, operands}
use Rattle.js_grammar.specs.StatementExamples.{ends, forms}
use Rattle.js_grammar.specs.HeightExamples.{heights}

pub operators_are_read : AreRead operators
unfolding sees expect eat taken within_limit separated listed many divided e.maybe_identifier e.formal_names e.element e.array e.field e.object e.group e.procedure e.function e.primary e.arguments e.dotted e.indexed e.called e.suffix e.suffixes e.constructed e.left e.postfix e.operated e.unary e.operation e.operations e.climb e.choice e.rest e.assigned e.one e.all e.all_from e.closing s.ended s.declared_by s.declaration s.braced s.block s.variables s.expressed s.condition s.conditional s.do_while s.while s.maybe_before s.for_loop s.for_in s.for_variables s.for_statement s.ended_as s.returned s.return s.thrown s.throw s.finally s.caught s.tried s.case s.default s.clause s.switched s.switch s.any_statement s.function s.element s.elements inside read_script
operators_are_read = (refl, (refl, (refl, (refl, (refl, (refl, (refl, (refl, (refl, (refl, (refl, (refl, (refl, (refl, (refl, (refl, (refl, (refl, (refl, (refl, (refl, (refl, (refl, (refl, (refl, (refl, (refl, (refl, (refl, (refl, (refl, (refl, (refl, (refl, (refl, (refl, (refl, (refl, (refl, (refl, (refl, tt)))))))))))))))))))))))))))))))))))))))))

pub operands_are_read : AreRead operands
unfolding sees expect eat taken within_limit separated listed many divided e.maybe_identifier e.formal_names e.element e.array e.field e.object e.group e.procedure e.function e.primary e.arguments e.dotted e.indexed e.called e.suffix e.suffixes e.constructed e.left e.postfix e.operated e.unary e.operation e.operations e.climb e.choice e.rest e.assigned e.one e.all e.all_from e.closing s.ended s.declared_by s.declaration s.braced s.block s.variables s.expressed s.condition s.conditional s.do_while s.while s.maybe_before s.for_loop s.for_in s.for_variables s.for_statement s.ended_as s.returned s.return s.thrown s.throw s.finally s.caught s.tried s.case s.default s.clause s.switched s.switch s.any_statement s.function s.element s.elements inside read_script digits
operands_are_read = (refl, (refl, (refl, (refl, (refl, (refl, (refl, (refl, (refl, (refl, (refl, (refl, (refl, (refl, (refl, (refl, (refl, (refl, (refl, (refl, (refl, (refl, (refl, (refl, (refl, (refl, (refl, (refl, (refl, (refl, (refl, (refl, (refl, (refl, (refl, (refl, (refl, (refl, (refl, (refl, (refl, (refl, (refl, (refl, (refl, tt)))))))))))))))))))))))))))))))))))))))))))))

pub ends_are_read : AreRead ends
unfolding sees expect eat taken within_limit separated listed many divided e.maybe_identifier e.formal_names e.element e.array e.field e.object e.group e.procedure e.function e.primary e.arguments e.dotted e.indexed e.called e.suffix e.suffixes e.constructed e.left e.postfix e.operated e.unary e.operation e.operations e.climb e.choice e.rest e.assigned e.one e.all e.all_from e.closing s.ended s.declared_by s.declaration s.braced s.block s.variables s.expressed s.condition s.conditional s.do_while s.while s.maybe_before s.for_loop s.for_in s.for_variables s.for_statement s.ended_as s.returned s.return s.thrown s.throw s.finally s.caught s.tried s.case s.default s.clause s.switched s.switch s.any_statement s.function s.element s.elements inside read_script
ends_are_read = (refl, (refl, (refl, (refl, (refl, (refl, (refl, (refl, (refl, (refl, (refl, (refl, (refl, (refl, (refl, (refl, (refl, (refl, (refl, (refl, (refl, (refl, (refl, (refl, (refl, (refl, (refl, (refl, (refl, (refl, (refl, (refl, (refl, (refl, (refl, (refl, (refl, (refl, (refl, (refl, (refl, (refl, (refl, (refl, (refl, (refl, (refl, (refl, (refl, (refl, (refl, (refl, (refl, (refl, (refl, (refl, tt))))))))))))))))))))))))))))))))))))))))))))))))))))))))

pub forms_are_read : AreRead forms
unfolding sees expect eat taken within_limit separated listed many divided e.maybe_identifier e.formal_names e.element e.array e.field e.object e.group e.procedure e.function e.primary e.arguments e.dotted e.indexed e.called e.suffix e.suffixes e.constructed e.left e.postfix e.operated e.unary e.operation e.operations e.climb e.choice e.rest e.assigned e.one e.all e.all_from e.closing s.ended s.declared_by s.declaration s.braced s.block s.variables s.expressed s.condition s.conditional s.do_while s.while s.maybe_before s.for_loop s.for_in s.for_variables s.for_statement s.ended_as s.returned s.return s.thrown s.throw s.finally s.caught s.tried s.case s.default s.clause s.switched s.switch s.any_statement s.function s.element s.elements inside read_script
forms_are_read = (refl, (refl, (refl, (refl, (refl, (refl, (refl, (refl, (refl, (refl, (refl, (refl, (refl, (refl, (refl, (refl, (refl, (refl, (refl, (refl, (refl, (refl, (refl, (refl, (refl, (refl, (refl, (refl, (refl, (refl, (refl, (refl, (refl, (refl, (refl, (refl, (refl, (refl, (refl, (refl, (refl, (refl, (refl, (refl, (refl, (refl, (refl, (refl, (refl, (refl, (refl, (refl, tt))))))))))))))))))))))))))))))))))))))))))))))))))))

pub heights_are_read : AreRead heights
unfolding sees expect eat taken within_limit separated listed many divided e.maybe_identifier e.formal_names e.element e.array e.field e.object e.group e.procedure e.function e.primary e.arguments e.dotted e.indexed e.called e.suffix e.suffixes e.constructed e.left e.postfix e.operated e.unary e.operation e.operations e.climb e.choice e.rest e.assigned e.one e.all e.all_from e.closing s.ended s.declared_by s.declaration s.braced s.block s.variables s.expressed s.condition s.conditional s.do_while s.while s.maybe_before s.for_loop s.for_in s.for_variables s.for_statement s.ended_as s.returned s.return s.thrown s.throw s.finally s.caught s.tried s.case s.default s.clause s.switched s.switch s.any_statement s.function s.element s.elements inside read_script
heights_are_read = (refl, (refl, (refl, tt)))
