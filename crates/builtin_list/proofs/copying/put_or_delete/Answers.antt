use Rattle.builtin_list.proofs.copying.put_or_delete.Goals as goal

pub returns-in-Some : goal.returns-in-Some
returns-in-Some c =
    rw c.in-Some.is c.put_element.ensures

pub returns-in-None : goal.returns-in-None
returns-in-None c =
    rw c.in-None.is c.delete_element.ensures
