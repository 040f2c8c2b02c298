use Rattle.builtin_text.proofs.methods.with_arguments.Goals as goal

pub returns-in-CharAt : goal.returns-in-CharAt
returns-in-CharAt c = rw c.in-CharAt.is (rw c.requires.first at c.char_at.ensures)

pub returns-in-CharCodeAt : goal.returns-in-CharCodeAt
returns-in-CharCodeAt c = rw c.in-CharCodeAt.is (rw c.requires.first at c.char_code_at.ensures)

pub returns-in-IndexOf : goal.returns-in-IndexOf
returns-in-IndexOf c = rw c.in-IndexOf.is (rw (c.requires.first, c.requires.second) at c.index_of.ensures)

pub returns-in-LastIndexOf : goal.returns-in-LastIndexOf
returns-in-LastIndexOf c = rw c.in-LastIndexOf.is (rw (c.requires.first, c.requires.second) at c.last_index_of.ensures)

pub returns-in-Slice : goal.returns-in-Slice
returns-in-Slice c = rw c.in-Slice.is (rw (c.requires.first, c.requires.second) at c.slice.ensures)

pub returns-in-Split : goal.returns-in-Split
returns-in-Split c = rw c.in-Split.is (rw (c.requires.first, c.requires.second) at c.split.ensures)

pub returns-in-Substring : goal.returns-in-Substring
returns-in-Substring c = rw c.in-Substring.is (rw (c.requires.first, c.requires.second) at c.substring.ensures)

pub returns-in-LowerCase : goal.returns-in-LowerCase
returns-in-LowerCase c = rw c.in-LowerCase.is c.to_lower_case.ensures

pub returns-in-UpperCase : goal.returns-in-UpperCase
returns-in-UpperCase c = rw c.in-UpperCase.is c.to_upper_case.ensures

pub returns-in-Trim : goal.returns-in-Trim
returns-in-Trim c = rw c.in-Trim.is c.trim.ensures
