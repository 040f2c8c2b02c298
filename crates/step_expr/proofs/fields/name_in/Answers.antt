use Rattle.std.proofs.Common.{◌≡◌, ◌∙◌, sym, subst, ℕ, List, IfOk}
use Rattle.page_frames.specs.RestLiterals.{name_at}
use Rattle.step_expr.proofs.Filling.{same_names}
use Rattle.step_expr.proofs.fields.name_in.Goals as goal

pub returns-in-Literal : goal.returns-in-Literal
returns-in-Literal c names e =
    subst (λ (xs : List (List ℕ)). IfOk c.name_at.result (λ x. x ≡ name_at xs c.args.k)) (same_names c.in-Literal.names names (sym c.in-Literal.is ∙ c.kind.ensures ∙ e)) c.name_at.ensures

pub returns-in_default : goal.returns-in_default
returns-in_default c names e = absurd (c.in_default.not-Literal names (c.kind.ensures ∙ e))
