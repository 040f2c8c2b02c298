use Rattle.page_writer.proofs.makers.push_maker.Goals as goal

pub returns-in-Element : goal.returns-in-Element
returns-in-Element c = rw c.in-Element.is c.push_created.ensures

pub returns-in-Text : goal.returns-in-Text
returns-in-Text c = rw c.in-Text.is c.push_created-in-Text.ensures

pub returns-in-Comment : goal.returns-in-Comment
returns-in-Comment c = rw c.in-Comment.is c.push_created-in-Comment.ensures
