use Rattle.std.proofs.Common.{◌≡◌, drop}
use Rattle.std.specs.List.{list_all}
use Rattle.page_meaning.specs.ObjectRows.{props_at}
use Rattle.builtin_object.specs.Own.{is_fast}
use Rattle.builtin_object.proofs.own.are_fast.Given as goal

abbrev pub invariant-loop-place : goal.invariant-loop-place
invariant-loop-place l = list_all (λ e. is_fast l.frozen e.1) (drop l.place (props_at l.state l.at)) ≡ list_all (λ e. is_fast l.frozen e.1) (props_at l.state l.at)
