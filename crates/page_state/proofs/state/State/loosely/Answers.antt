use Rattle.page_state.proofs.state.State.loosely.Goals as goal

pub returns-in-Err-NeedsPrimitive : goal.returns-in-Err-NeedsPrimitive
returns-in-Err-NeedsPrimitive c = rw (← c.in-Err-NeedsPrimitive.ensures.value, c.in-Err-NeedsPrimitive.field-0-is) c.on_primitives.ensures

pub returns-in-Err-Outside : goal.returns-in-Err-Outside
returns-in-Err-Outside c = rw (← c.in-Err-Outside.ensures.value, c.in-Err-Outside.field-0-is) c.raise.ensures
