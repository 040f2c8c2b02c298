-- What other crates cite.
pub use Rattle.agreement.proofs.Beginning.{built_in_itself}
pub use Rattle.agreement.proofs.Bindings.{bound_read}
pub use Rattle.agreement.proofs.FormNames.{all_names, or_else}
pub use Rattle.instrumenter.proofs.Callers.{same_name}
pub use Rattle.agreement.proofs.FormStands.{form_scripts_stand}
pub use Rattle.agreement.proofs.Reading.{Fitting, function_read, linked_read, object_links_rel, value_links_rel}
pub use Rattle.agreement.proofs.Runs.{run_append}
