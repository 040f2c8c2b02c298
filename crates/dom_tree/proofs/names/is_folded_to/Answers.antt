use Rattle.std.proofs.Common.{◌≡◌, ◌∙◌, ℕ, ◌<◌, List, ap, length, sym, arith, get_or, bytes_eq, true}
use Rattle.std.specs.Char.{to_ascii_lowercase}
use Rattle.std.proofs.lemmas.Bool.{false_from_ne_true}
use Rattle.std.proofs.lemmas.List.{get_or-map, length-map}
use Rattle.std.proofs.lemmas.Slice.Eq.{bytes_eq-Decides}
use Rattle.dom_tree.proofs.Named.{bytes_eq-each}
use Rattle.dom_tree.specs.Name.{folded}
use Rattle.dom_tree.proofs.names.is_folded_to.Goals as goal

-- the given text in lower case, at a place
lowered : (xs : List ℕ) (k : ℕ) → k < length xs → get_or (folded xs) k 0 ≡ to_ascii_lowercase (get_or xs k 0)
lowered xs k h = get_or-map to_ascii_lowercase xs k 0 0 h

pub returns-then-lower-wanted : goal.returns-then-lower-wanted
returns-then-lower-wanted c =
    let given = c.as_slice-given.result.now in
    let i = c.loop-i.i in
    let text : folded given ≡ folded c.args.name.now = ap folded c.as_slice-given.ensures.value in
    sym
    (false_from_ne_true (bytes_eq c.args.text.now (folded c.args.name.now))
    (λ h.
    let equal : c.args.text.now ≡ folded c.args.name.now = (bytes_eq-Decides c.args.text.now (folded c.args.name.now)).0 h in
    let at : get_or (folded given) i 0 ≡ get_or c.as_slice-wanted.result.now i 0 = ap (λ z. get_or z i 0) (text ∙ sym equal ∙ sym c.as_slice-wanted.ensures.value) in
    c.if-lower-wanted.true (c.lower.ensures ∙ sym (lowered given i c.loop-i-test.true) ∙ at)))

pub returns : goal.returns
returns c =
    let given = c.as_slice-given.result.now in
    let wanted = c.as_slice-wanted.result.now in
    let long : length wanted ≡ length (folded given) = sym c.if-given-wanted.false ∙ sym (length-map given to_ascii_lowercase) in
    let same : bytes_eq wanted (folded given) ≡ true =
    bytes_eq-each wanted (folded given) long
    (λ k h.
    let there : k < length given = omega (arith, h, length-map given to_ascii_lowercase) in
    let past : k < c.loop-i.i = omega (arith, there, c.loop-i-test.false) in
    sym (lowered given k there ∙ c.loop-i.invariant k past))
    in
    sym (ap (λ z. bytes_eq z (folded c.args.name.now)) (sym c.as_slice-wanted.ensures.value) ∙ ap (λ z. bytes_eq wanted (folded z)) (sym c.as_slice-given.ensures.value) ∙ same)
