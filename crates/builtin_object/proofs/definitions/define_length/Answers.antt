use Rattle.builtin_object.proofs.definitions.define_length.Goals as goal

pub returns-in-Some : goal.returns-in-Some
returns-in-Some c = rw c.in-Some.is (rw c.requires at c.define_length_to.ensures)

pub returns-in-None : goal.returns-in-None
returns-in-None c = rw c.in-None.is (rw c.requires at c.define_or_throw.ensures)
