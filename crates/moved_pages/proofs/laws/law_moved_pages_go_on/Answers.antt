use Rattle.moved_pages.proofs.Moved.{moved_pages_go_on}
use Rattle.moved_pages.proofs.laws.law_moved_pages_go_on.Goals as goal

pub returns : goal.returns
returns c =
    moved_pages_go_on c.law_pages_are_short.ensures c.law_saved_scripts_are_form.ensures c.law_lined_scripts_are_read_again.ensures c.law_script_pages.ensures.bytes c.law_plans_stand.ensures
    c.law_plans_are_few.ensures c.law_pages_rest.ensures c.law_scripts_rebuild.ensures c.law_rebuilt_pages_go_on.ensures c.law_saved_again.ensures
    c.law_scripts_take_few_steps.ensures
