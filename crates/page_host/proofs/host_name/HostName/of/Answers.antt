use Rattle.std.proofs.Common.{◌∙◌, sym, arith}
use Rattle.page_host.proofs.Names.{of_no_length, so_long}
use Rattle.page_host.proofs.host_name.HostName.of.Goals as goal

pub returns-in-2 : goal.returns-in-2
returns-in-2 c = c.pick.ensures ∙ sym (so_long _ _ 2 c.as_slice.ensures.value c.in-2.is)

pub returns-in-4 : goal.returns-in-4
returns-in-4 c = c.of_four.ensures ∙ sym (so_long _ _ 4 c.as_slice.ensures.value c.in-4.is)

pub returns-in-5 : goal.returns-in-5
returns-in-5 c = c.pick-in-5.ensures ∙ sym (so_long _ _ 5 c.as_slice.ensures.value c.in-5.is)

pub returns-in-6 : goal.returns-in-6
returns-in-6 c = c.pick-in-6.ensures ∙ sym (so_long _ _ 6 c.as_slice.ensures.value c.in-6.is)

pub returns-in-7 : goal.returns-in-7
returns-in-7 c = c.of_seven.ensures ∙ sym (so_long _ _ 7 c.as_slice.ensures.value c.in-7.is)

pub returns-in-8 : goal.returns-in-8
returns-in-8 c = c.of_eight.ensures ∙ sym (so_long _ _ 8 c.as_slice.ensures.value c.in-8.is)

pub returns-in-9 : goal.returns-in-9
returns-in-9 c = c.of_nine.ensures ∙ sym (so_long _ _ 9 c.as_slice.ensures.value c.in-9.is)

pub returns-in-10 : goal.returns-in-10
returns-in-10 c = c.of_ten.ensures ∙ sym (so_long _ _ 10 c.as_slice.ensures.value c.in-10.is)

pub returns-in-11 : goal.returns-in-11
returns-in-11 c = c.of_eleven.ensures ∙ sym (so_long _ _ 11 c.as_slice.ensures.value c.in-11.is)

pub returns-in-13 : goal.returns-in-13
returns-in-13 c = c.of_thirteen.ensures ∙ sym (so_long _ _ 13 c.as_slice.ensures.value c.in-13.is)

pub returns-in-15 : goal.returns-in-15
returns-in-15 c = c.of_fifteen.ensures ∙ sym (so_long _ _ 15 c.as_slice.ensures.value c.in-15.is)

pub returns-in_default : goal.returns-in_default
returns-in_default c = of_no_length _ _ c.as_slice.ensures.value (λ e. omega (arith, e)) (λ e. omega (arith, e)) (λ e. omega (arith, e)) (λ e. omega (arith, e)) (λ e. omega (arith, e)) (λ e. omega (arith, e)) (λ e. omega (arith, e)) (λ e. omega (arith, e)) (λ e. omega (arith, e)) (λ e. omega (arith, e)) (λ e. omega (arith, e))
