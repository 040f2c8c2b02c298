use Rattle.std.proofs.Common.{sym, ap, ◌∙◌, refl, Ok}
use Rattle.code_table.specs.declared.kind.Kind.TheVariants as kind
use Rattle.js_values.specs.declared.value.Value.TheVariants as value
use Rattle.page_frames.specs.Where.{here_of}
use Rattle.step_parts.specs.Families.{family_of}
use Rattle.step_expr.proofs.Moving.{gives_same}
use Rattle.step_expr.proofs.Opening.{no_plain, plain_as}
use Rattle.step_expr.proofs.plain.plain_value.Goals as goal

pub returns-in-Nothing : goal.returns-in-Nothing
returns-in-Nothing c =
    plain_as c.args.spot.now kind.Nothing c.args.state.now c.args.state.now (Ok value.Undefined) (sym c.kind.ensures ∙ c.in-Nothing.is) (gives_same value.Undefined value.Undefined c.args.state.now refl)

pub returns-in-Name : goal.returns-in-Name
returns-in-Name c =
    plain_as c.args.spot.now (kind.Name c.in-Name.name) c.args.state.now c.read_name.new.self c.read_name.result (sym c.kind.ensures ∙ c.in-Name.is) (c.read_name.ensures (here_of c.args.spot.now) (sym c.env.ensures))

pub returns-in-Num : goal.returns-in-Num
returns-in-Num c =
    plain_as c.args.spot.now (kind.Num c.in-Num.number) c.args.state.now c.args.state.now (Ok (value.Num c.in-Num.number)) (sym c.kind.ensures ∙ c.in-Num.is) (gives_same (value.Num c.in-Num.number) (value.Num c.in-Num.number) c.args.state.now refl)

pub returns-in_ok-clone-in-Text : goal.returns-in_ok-clone-in-Text
returns-in_ok-clone-in-Text c =
    plain_as c.args.spot.now (kind.Text c.in-Text.text) c.args.state.now c.args.state.now (Ok (value.Text c.in_ok-clone-in-Text.field-0)) (sym c.kind.ensures ∙ c.in-Text.is)
    (gives_same (value.Text c.in-Text.text) (value.Text c.in_ok-clone-in-Text.field-0) c.args.state.now (ap (λ t. value.Text t) c.in_ok-clone-in-Text.ensures))

pub returns-in-Bool : goal.returns-in-Bool
returns-in-Bool c =
    plain_as c.args.spot.now (kind.Bool c.in-Bool.truth) c.args.state.now c.args.state.now (Ok (value.Bool c.in-Bool.truth)) (sym c.kind.ensures ∙ c.in-Bool.is) (gives_same (value.Bool c.in-Bool.truth) (value.Bool c.in-Bool.truth) c.args.state.now refl)

pub returns-in-Null : goal.returns-in-Null
returns-in-Null c =
    plain_as c.args.spot.now kind.Null c.args.state.now c.args.state.now (Ok value.Null) (sym c.kind.ensures ∙ c.in-Null.is) (gives_same value.Null value.Null c.args.state.now refl)

pub returns-in_ok-clone-in-This : goal.returns-in_ok-clone-in-This
returns-in_ok-clone-in-This c =
    plain_as c.args.spot.now kind.This c.args.state.now c.args.state.now (Ok c.in_ok-clone-in-This.field-0) (sym c.kind.ensures ∙ c.in-This.is)
    (gives_same c.args.spot.now.this c.in_ok-clone-in-This.field-0 c.args.state.now (c.in_ok-clone-in-This.ensures ∙ c.this.ensures))

pub returns-in-Func : goal.returns-in-Func
returns-in-Func c =
    plain_as c.args.spot.now (kind.Func c.in-Func.code) c.args.state.now c.function.new.state c.function.result (sym c.kind.ensures ∙ c.in-Func.is) c.function.ensures

pub returns-in-TypeofName : goal.returns-in-TypeofName
returns-in-TypeofName c =
    plain_as c.args.spot.now (kind.TypeofName c.in-TypeofName.name) c.args.state.now c.type_of.new.state c.type_of.result (sym c.kind.ensures ∙ c.in-TypeofName.is) c.type_of.ensures

pub returns-in-UpdateName : goal.returns-in-UpdateName
returns-in-UpdateName c =
    plain_as c.args.spot.now (kind.UpdateName c.in-UpdateName.up c.in-UpdateName.prefix c.in-UpdateName.name) c.args.state.now c.update.new.state c.update.result (sym c.kind.ensures ∙ c.in-UpdateName.is) c.update.ensures

pub unreachable-requires : goal.unreachable-requires
unreachable-requires c =
    no_plain _ (ap family_of c.kind.ensures ∙ c.requires) c.in_default.not-Nothing c.in_default.not-Name c.in_default.not-Num c.in_default.not-Text c.in_default.not-Bool c.in_default.not-Null c.in_default.not-This
    c.in_default.not-Func c.in_default.not-TypeofName c.in_default.not-UpdateName
