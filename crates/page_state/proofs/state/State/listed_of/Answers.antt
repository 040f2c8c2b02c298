use Rattle.page_meaning.specs.Places.{boolean_prototype_place, number_prototype_place}
use Rattle.page_state.proofs.state.State.listed_of.Goals as goal

pub returns-in-Bool : goal.returns-in-Bool
unfolding boolean_prototype_place
returns-in-Bool c = rw (c.in-Bool.is) c.listed_up-in-Bool.ensures

pub returns-in-Num : goal.returns-in-Num
unfolding number_prototype_place
returns-in-Num c = rw (c.in-Num.is) c.listed_up-in-Num.ensures
