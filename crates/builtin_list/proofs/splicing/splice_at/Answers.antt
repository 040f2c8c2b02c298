use Rattle.std.proofs.Common.{◌+◌, ◌-◌, length, Ok}
use Rattle.js_values.specs.declared.value.Value.TheVariants.{Undefined, Object}
use Rattle.page_meaning.specs.Act.{also, give}
use Rattle.page_meaning.specs.ListRows as spec
use Rattle.page_state.specs.Does.{itself}
use Rattle.page_state.proofs.Callers.{also_ends}
use Rattle.builtin_list.proofs.Passed.{did_on, failed_at, halted, gave}
use Rattle.builtin_list.proofs.splicing.splice_at.Goals as goal

pub returns-in_err-copy_all : goal.returns-in_err-copy_all
returns-in_err-copy_all c =
    halted (λ _. spec.copy_all c.args.list c.args.place c.args.made 0 c.args.less)
    (λ _ _. also (spec.make_room c.args.list c.args.length c.args.place c.args.less (length c.args.values.now))
    (λ _. also (spec.put_all c.args.list c.args.place c.args.values.now (c.args.length - c.args.less + length c.args.values.now)) (λ _. give (Object c.args.made)))) itself c.args.state.now
    c.copy_all.new.state c.args.steps.now c.copy_all.new.steps c.in_err-copy_all.field-0.0 c.from_residual-in_err-copy_all.result c.in_err-copy_all.ensures
    c.from_residual-in_err-copy_all.ensures

pub returns-in_err-make_room : goal.returns-in_err-make_room
returns-in_err-make_room c =
    also_ends (λ _. spec.copy_all c.args.list c.args.place c.args.made 0 c.args.less)
    (λ _ _. also (spec.make_room c.args.list c.args.length c.args.place c.args.less (length c.args.values.now))
    (λ _. also (spec.put_all c.args.list c.args.place c.args.values.now (c.args.length - c.args.less + length c.args.values.now)) (λ _. give (Object c.args.made)))) itself Undefined
    c.args.state.now c.copy_all.new.state c.make_room.new.state c.args.steps.now c.copy_all.new.steps c.make_room.new.steps c.from_residual-in_err-make_room.result c.in_ok-copy_all.ensures
    (halted (λ _. spec.make_room c.args.list c.args.length c.args.place c.args.less (length c.args.values.now))
    (λ _ _. also (spec.put_all c.args.list c.args.place c.args.values.now (c.args.length - c.args.less + length c.args.values.now)) (λ _. give (Object c.args.made))) itself
    c.copy_all.new.state c.make_room.new.state c.copy_all.new.steps c.make_room.new.steps c.in_err-make_room.field-0.0 c.from_residual-in_err-make_room.result c.in_err-make_room.ensures
    c.from_residual-in_err-make_room.ensures)

pub returns-in_err-put_all : goal.returns-in_err-put_all
returns-in_err-put_all c =
    also_ends (λ _. spec.copy_all c.args.list c.args.place c.args.made 0 c.args.less)
    (λ _ _. also (spec.make_room c.args.list c.args.length c.args.place c.args.less (length c.args.values.now))
    (λ _. also (spec.put_all c.args.list c.args.place c.args.values.now (c.args.length - c.args.less + length c.args.values.now)) (λ _. give (Object c.args.made)))) itself Undefined
    c.args.state.now c.copy_all.new.state c.put_all.new.state c.args.steps.now c.copy_all.new.steps c.make_room.new.steps c.from_residual-in_err-put_all.result c.in_ok-copy_all.ensures
    (also_ends (λ _. spec.make_room c.args.list c.args.length c.args.place c.args.less (length c.args.values.now))
    (λ _ _. also (spec.put_all c.args.list c.args.place c.args.values.now (c.args.length - c.args.less + length c.args.values.now)) (λ _. give (Object c.args.made))) itself Undefined
    c.copy_all.new.state c.make_room.new.state c.put_all.new.state c.copy_all.new.steps c.make_room.new.steps c.make_room.new.steps c.from_residual-in_err-put_all.result
    c.in_ok-make_room.ensures
    (failed_at (λ _. spec.put_all c.args.list c.args.place c.args.values.now (c.args.length - c.args.less + length c.args.values.now)) (λ _ _. give (Object c.args.made)) itself
    c.make_room.new.state c.put_all.new.state c.make_room.new.steps c.in_err-put_all.field-0.0 c.from_residual-in_err-put_all.result (rw (c.in_ok-longer.ensures) at c.in_err-put_all.ensures)
    c.from_residual-in_err-put_all.ensures))

pub returns : goal.returns
returns c =
    also_ends (λ _. spec.copy_all c.args.list c.args.place c.args.made 0 c.args.less)
    (λ _ _. also (spec.make_room c.args.list c.args.length c.args.place c.args.less (length c.args.values.now))
    (λ _. also (spec.put_all c.args.list c.args.place c.args.values.now (c.args.length - c.args.less + length c.args.values.now)) (λ _. give (Object c.args.made)))) itself Undefined
    c.args.state.now c.copy_all.new.state c.put_all.new.state c.args.steps.now c.copy_all.new.steps c.make_room.new.steps (Ok (Object c.args.made)) c.in_ok-copy_all.ensures
    (also_ends (λ _. spec.make_room c.args.list c.args.length c.args.place c.args.less (length c.args.values.now))
    (λ _ _. also (spec.put_all c.args.list c.args.place c.args.values.now (c.args.length - c.args.less + length c.args.values.now)) (λ _. give (Object c.args.made))) itself Undefined
    c.copy_all.new.state c.make_room.new.state c.put_all.new.state c.copy_all.new.steps c.make_room.new.steps c.make_room.new.steps (Ok (Object c.args.made)) c.in_ok-make_room.ensures
    (did_on (λ _. spec.put_all c.args.list c.args.place c.args.values.now (c.args.length - c.args.less + length c.args.values.now)) (λ _ _. give (Object c.args.made)) itself
    c.in_ok-put_all.field-0 c.make_room.new.state c.put_all.new.state c.put_all.new.state c.make_room.new.steps c.make_room.new.steps (Ok (Object c.args.made))
    (rw (c.in_ok-longer.ensures) at c.in_ok-put_all.ensures) (gave (Object c.args.made) c.put_all.new.state c.make_room.new.steps)))
