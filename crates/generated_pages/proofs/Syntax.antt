-- The script of a generated page keeps the rules on trees.
use Rattle.std.proofs.Common.{◌≡◌, ℕ, zero, suc, ◌<◌, ◌≤◌, true, refl, arith}
use Rattle.std.specs.Prelude.{nat_le}
use Rattle.std.proofs.lemmas.Bool.Decides.{nat_tests}
use Rattle.js_core.specs.Tree as tree
use Rattle.js_core.specs.Tree.{no_stmts, then_stmt}
use Rattle.js_core.specs.Whole.{largest}
use Rattle.js_grammar.specs.Syntax.{IsStmt, IsSyntax}
use Rattle.js_lexer.specs.Characters.{is_identifier_start, is_identifier_part}
use Rattle.unicode_ident.proofs.Computing.{unicode_ident}
use Rattle.generated_pages.proofs.Script.{adds_each, after_calls, appends_its_node, begins_at_zero, directive, is_kept, listens, made_script, names_its_node, opened_by, own_part, part_call, part_function, points_at_itself, points_at_the_last, prints_the_sums, start_of, starts_its_interval, sums, total_function}

directive_is : IsStmt true directive
unfolding is_identifier_start is_identifier_part unicode_ident
directive_is = refl

sums_is : IsStmt true sums
unfolding is_identifier_start is_identifier_part unicode_ident
sums_is = (refl, (refl, tt, (refl, refl, tt)))

own_part_is : IsStmt true own_part
unfolding is_identifier_start is_identifier_part unicode_ident
own_part_is = (refl, (refl, refl, (refl, (refl, refl, (refl, tt, tt)), (refl, ((refl, refl), (refl, tt)), tt))))

points_at_itself_is : IsStmt true points_at_itself
unfolding is_identifier_start is_identifier_part unicode_ident
points_at_itself_is = (refl, (refl, refl), refl)

points_at_the_last_is : IsStmt true points_at_the_last
unfolding is_identifier_start is_identifier_part unicode_ident
points_at_the_last_is = (((refl, refl), refl), ((refl, (refl, refl), ((refl, ((refl, refl), refl)), refl)), tt), tt)

names_its_node_is : IsStmt true names_its_node
unfolding is_identifier_start is_identifier_part unicode_ident
names_its_node_is = ((refl, refl), (refl, ((refl, refl), tt)))

listens_is : IsStmt true listens
unfolding is_identifier_start is_identifier_part unicode_ident
listens_is = ((refl, refl), (refl, ((refl, refl, ((refl, refl, (refl, refl)), ((refl, refl, (refl, refl)), tt))), (tt, tt))))

appends_its_node_is : IsStmt true appends_its_node
unfolding is_identifier_start is_identifier_part unicode_ident
appends_its_node_is = (((refl, refl), refl), (refl, tt))

starts_its_interval_is : IsStmt true starts_its_interval
unfolding is_identifier_start is_identifier_part unicode_ident
starts_its_interval_is = (refl, ((refl, refl, ((refl, refl, (refl, refl)), tt)), ((refl, refl), tt)))

is_kept_is : IsStmt true is_kept
unfolding is_identifier_start is_identifier_part unicode_ident
is_kept_is = ((refl, refl), ((refl, refl, (refl, (refl, refl, (refl, tt)), tt)), tt))

begins_at_zero_is : IsStmt true begins_at_zero
unfolding is_identifier_start is_identifier_part unicode_ident
begins_at_zero_is = (refl, (refl, refl, tt))

adds_each_is : IsStmt true adds_each
unfolding is_identifier_start is_identifier_part unicode_ident
adds_each_is = ((refl, refl), ((refl, refl, (((((refl, refl), refl), (refl, refl)), ((refl, refl, (refl, ((refl, refl), tt))), tt), tt), tt)), tt))

prints_the_sums_is : IsStmt true prints_the_sums
unfolding is_identifier_start is_identifier_part unicode_ident
prints_the_sums_is = ((refl, refl), (refl, (refl, ((refl, refl), tt))))

part_function_is : IsStmt true part_function
unfolding is_identifier_start is_identifier_part unicode_ident
part_function_is = (refl, (refl, refl, (own_part_is, (points_at_itself_is, (points_at_the_last_is, (names_its_node_is, (listens_is, (appends_its_node_is, (starts_its_interval_is, (is_kept_is, tt))))))))))

total_function_is : IsStmt true total_function
unfolding is_identifier_start is_identifier_part unicode_ident
total_function_is = (refl, (refl, refl, (begins_at_zero_is, (adds_each_is, (prints_the_sums_is, tt)))))

opened_is : (ss : tree.Stmts) → IsSyntax ss → IsSyntax (opened_by ss)
opened_is ss is = (directive_is, (sums_is, (part_function_is, (total_function_is, is))))

in_range : (i : ℕ) → i ≤ largest → nat_le i largest ≡ true
in_range i h = grind (arith, nat_tests)

call_is : (i k : ℕ) → i ≤ largest → k ≤ largest → IsStmt true (part_call i k)
unfolding is_identifier_start is_identifier_part unicode_ident
call_is i k h l = (refl, (in_range i h, (in_range k l, tt)))

start_is_low : (n : ℕ) → start_of n ≤ largest
start_is_low n = let low : start_of n < 10 = omega arith in omega arith

after_calls_is : (n : ℕ) (ss : tree.Stmts) → n ≤ largest → IsSyntax ss → IsSyntax (after_calls n ss)
after_calls_is zero ss h is = is
after_calls_is (suc n) ss h is = after_calls_is n (then_stmt (part_call (suc n) (start_of (suc n))) ss) (omega arith) (call_is (suc n) (start_of (suc n)) h (start_is_low (suc n)), is)

pub script_is : (n : ℕ) → n ≤ largest → IsSyntax (made_script n)
script_is n h = opened_is (after_calls n no_stmts) (after_calls_is n no_stmts h tt)
