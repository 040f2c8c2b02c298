-- Two listeners are the same exactly where all their fields are, so that a set of them keeps each of them once.
use Rattle.std.specs.Prelude.{◌≡◌, Bool, true, false, ◌&&◌, nat_eq, bytes_eq, Decides, refl}
use Rattle.std.proofs.Common.{sym, ap, ◌∙◌, true≢false}
use Rattle.std.specs.Cmp.{IsEquivalence, decided, first_so, second_so, nat_eq_equiv, unsigned_Decides}
use Rattle.std.specs.Cmp.Lexicographic.{bytes_decides, nat_list_eq_equiv}
use Rattle.page_host.specs.declared.listener.Listener.{Listener}
use Rattle.page_host.specs.Listeners.{is_same_listener, same_mark}

same_mark_is : (a b : Bool) → same_mark a b ≡ true → a ≡ b
same_mark_is true true e = refl
same_mark_is false false e = refl
same_mark_is true false e = absurd (true≢false (sym e))
same_mark_is false true e = absurd (true≢false (sym e))

mark_itself : (a : Bool) → same_mark a a ≡ true
mark_itself true = refl
mark_itself false = refl

equal_where_same : (l m : Listener) → is_same_listener l m ≡ true → l ≡ m
equal_where_same l m e =
    let nodes = nat_eq l.node.0 m.node.0 in
    let calls = nat_eq l.call.0 m.call.0 in
    let marks = same_mark l.capture m.capture in
    let kinds = bytes_eq l.kind m.kind in
    let but_kinds = first_so (nodes && calls && marks) kinds e in
    let but_marks = first_so (nodes && calls) marks but_kinds in
    let node = (unsigned_Decides l.node.0 m.node.0).0 (first_so nodes calls but_marks) in
    let call = (unsigned_Decides l.call.0 m.call.0).0 (second_so nodes calls but_marks) in
    let capture = same_mark_is l.capture m.capture (second_so (nodes && calls) marks but_kinds) in
    let kind = (bytes_decides l.kind m.kind).0 (second_so (nodes && calls && marks) kinds e) in
    λ i. record { node = record { 0 = node i }; kind = kind i; call = record { 0 = call i }; capture = capture i }

same_itself : (l : Listener) → is_same_listener l l ≡ true
same_itself l i = nat_eq_equiv.refl l.node.0 i && nat_eq_equiv.refl l.call.0 i && mark_itself l.capture i && nat_list_eq_equiv.refl l.kind i

-- sameness is equality, and so all that is read from two listeners that are the same is equal
pub same_Decides : (l m : Listener) → Decides (is_same_listener l m) (l ≡ m)
same_Decides l m = (equal_where_same l m, λ e. sym (ap (is_same_listener l) e) ∙ same_itself l)

pub same_equivalence : IsEquivalence is_same_listener
same_equivalence = decided is_same_listener same_Decides
