-- The tests that nodes are put to.
use Rattle.std.specs.Prelude.{Bool}
use Rattle.early_rules.specs.declared.node_test.NodeTest.{NodeTest}
use Rattle.early_rules.specs.declared.node_test.NodeTest.TheVariants as test
use Rattle.scope_analysis.specs.Nodes.{Node}
use Rattle.early_rules.specs.EarlyRules.{repeats_formal, repeats_field, deletes_name, has_restricted_name, has_stray_jump, has_bad_target}
use Rattle.early_rules.specs.FormNodes.{is_declaration, has_reserved_identifier, is_high_function}

abbrev pub passes : NodeTest → Node → Bool
passes test.RepeatsFormal n = repeats_formal n
passes test.RepeatsField n = repeats_field n
passes test.DeletesName n = deletes_name n
passes test.HasRestrictedName n = has_restricted_name n
passes test.HasStrayJump n = has_stray_jump n
passes test.HasBadTarget n = has_bad_target n
passes test.IsDeclaration n = is_declaration n
passes test.HasReservedName n = has_reserved_identifier n
passes test.IsHighFunction n = is_high_function n
