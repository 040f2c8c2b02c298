use Rattle.page_state.proofs.state.State.operate.Goals as goal

pub returns-in-Mul : goal.returns-in-Mul
returns-in-Mul c = rw c.in-Mul.is c.on_numbers.ensures

pub returns-in-Div : goal.returns-in-Div
returns-in-Div c = rw c.in-Div.is c.on_numbers-in-Div.ensures

pub returns-in-Rem : goal.returns-in-Rem
returns-in-Rem c = rw c.in-Rem.is c.on_numbers-in-Rem.ensures

pub returns-in-Add : goal.returns-in-Add
returns-in-Add c = rw c.in-Add.is c.on_primitives.ensures

pub returns-in-Sub : goal.returns-in-Sub
returns-in-Sub c = rw c.in-Sub.is c.on_numbers-in-Sub.ensures

pub returns-in-Shl : goal.returns-in-Shl
returns-in-Shl c = rw c.in-Shl.is c.on_bits.ensures

pub returns-in-Shr : goal.returns-in-Shr
returns-in-Shr c = rw c.in-Shr.is c.on_bits-in-Shr.ensures

pub returns-in-Ushr : goal.returns-in-Ushr
returns-in-Ushr c = rw c.in-Ushr.is c.on_bits-in-Ushr.ensures

pub returns-in-Less : goal.returns-in-Less
returns-in-Less c = rw c.in-Less.is c.on_primitives-in-Less.ensures

pub returns-in-Greater : goal.returns-in-Greater
returns-in-Greater c = rw c.in-Greater.is c.on_primitives-in-Greater.ensures

pub returns-in-LessEq : goal.returns-in-LessEq
returns-in-LessEq c = rw c.in-LessEq.is c.on_primitives-in-LessEq.ensures

pub returns-in-GreaterEq : goal.returns-in-GreaterEq
returns-in-GreaterEq c = rw c.in-GreaterEq.is c.on_primitives-in-GreaterEq.ensures

pub returns-in-InstanceOf : goal.returns-in-InstanceOf
returns-in-InstanceOf c = rw c.in-InstanceOf.is c.instance_of.ensures

pub returns-in-Equal : goal.returns-in-Equal
returns-in-Equal c = rw c.in-Equal.is c.loosely.ensures

pub returns-in-Unequal : goal.returns-in-Unequal
returns-in-Unequal c = rw c.in-Unequal.is c.loosely-in-Unequal.ensures

pub returns-in-BitAnd : goal.returns-in-BitAnd
returns-in-BitAnd c = rw c.in-BitAnd.is c.on_bits-in-BitAnd.ensures

pub returns-in-BitXor : goal.returns-in-BitXor
returns-in-BitXor c = rw c.in-BitXor.is c.on_bits-in-BitXor.ensures

pub returns-in-BitOr : goal.returns-in-BitOr
returns-in-BitOr c = rw c.in-BitOr.is c.on_bits-in-BitOr.ensures
