-- What fits into a statement: places of what is built in or of 75,000 things, and numbers in range.
use Rattle.std.proofs.Common.{◌≡◌, refl, sym, ◌∙◌, ℕ, ◌<◌, ◌≤◌, true, ◌&&◌, nat_lt, List, [], ◌∷◌, ◌++◌, All, arith}
use Rattle.std.specs.Prelude.{⊤}
use Rattle.std.proofs.lemmas.Bool.{and_parts, lt-ltb, ltb-true}
use Rattle.std.proofs.lemmas.List.Elements.{All-head, All-tail}
use Rattle.std.proofs.lemmas.List.Folds.{list_all-append}
use Rattle.heap_walker.specs.Things.{needs_links}
use Rattle.object_shapes.specs.Links.{all_below, proto_links, value_links, values_links}
use Rattle.js_values.specs.declared.value.Value.{Value}
use Rattle.rebuild_plan.specs.Stands.{maker_names}
use Rattle.rebuild_plan.specs.declared.statement.Maker.{Maker}
use Rattle.rebuild_plan.specs.declared.statement.Maker.TheVariants as made
use Rattle.page_writer.specs.Literals.{IsLiteral, maker_values, need_values}

-- ---- places

-- the places of what is built in and of as many things as a page may have
abbrev pub AreLow : List ℕ → Type 0
AreLow ks = all_below 75123 ks ≡ true

pub low_first : (k : ℕ) (ks : List ℕ) → AreLow (k ∷ ks) → k < 75123
low_first k ks low = ltb-true k 75123 (and_parts (nat_lt k 75123) (all_below 75123 ks) low).0

pub low_others : (k : ℕ) (ks : List ℕ) → AreLow (k ∷ ks) → AreLow ks
low_others k ks low = (and_parts (nat_lt k 75123) (all_below 75123 ks) low).1

low_parts : (js ks : List ℕ) → AreLow (js ++ ks) → AreLow js × AreLow ks
low_parts js ks low =
    let split : (all_below 75123 js && all_below 75123 ks) ≡ true =
    sym (list_all-append (λ k. nat_lt k 75123) js ks) ∙ low in
    let first : AreLow js = (and_parts (all_below 75123 js) (all_below 75123 ks) split).0 in
    let others : AreLow ks = (and_parts (all_below 75123 js) (all_below 75123 ks) split).1 in
    (first, others)

pub below_more : (m n : ℕ) (ks : List ℕ) → m ≤ n → all_below m ks ≡ true → all_below n ks ≡ true
below_more m n [] more low = refl
below_more m n (k ∷ ks) more low =
    let first : nat_lt k m ≡ true = (and_parts (nat_lt k m) (all_below m ks) low).0 in
    let here : nat_lt k n ≡ true = lt-ltb k n (omega (arith, ltb-true k m first, more)) in
    rw here (below_more m n ks more (and_parts (nat_lt k m) (all_below m ks) low).1)

-- ---- values

-- a value that refers to such a place, or is a number in range, or neither
abbrev pub Fits : Value → Type 0
Fits v = AreLow (value_links v) × IsLiteral v

abbrev pub AllFit : List Value → Type 0
AllFit [] = ⊤
AllFit (v ∷ vs) = Fits v × AllFit vs

values_fit : (vs : List Value) → AreLow (values_links vs) → All IsLiteral vs → AllFit vs
values_fit [] low whole = tt
values_fit (v ∷ vs) low whole =
    let parts : AreLow (value_links v) × AreLow (values_links vs) =
    low_parts (value_links v) (values_links vs) low in
    let rest : All IsLiteral vs = All-tail IsLiteral v vs whole in
    ((parts.0, All-head IsLiteral v vs whole), values_fit vs parts.1 rest)

needs_fit : (ns : List (List ℕ × Value)) → AreLow (needs_links ns) → All IsLiteral (need_values ns)
    → AllFit (need_values ns)
needs_fit [] low whole = tt
needs_fit (n ∷ ns) low whole =
    let parts : AreLow (value_links n.1) × AreLow (needs_links ns) =
    low_parts (value_links n.1) (needs_links ns) low in
    let rest : All IsLiteral (need_values ns) = All-tail IsLiteral n.1 (need_values ns) whole in
    ((parts.0, All-head IsLiteral n.1 (need_values ns) whole), needs_fit ns parts.1 rest)

-- ---- makers

abbrev pub MakerFits : Maker → Type 0
MakerFits (made.Plain proto) = AreLow (proto_links proto)
MakerFits (made.Func c needs) = AllFit (need_values needs)
MakerFits (made.Bind target this args) = (target.0 < 75123) × AllFit (this ∷ args)
MakerFits m = ⊤

pub maker_fits : (m : Maker) → AreLow (maker_names m) → All IsLiteral (maker_values m) → MakerFits m
maker_fits (made.Plain proto) low whole = low
maker_fits made.List low whole = tt
maker_fits (made.Fault kind) low whole = tt
maker_fits (made.Func c needs) low whole = needs_fit needs low whole
maker_fits (made.Bind target this args) low whole =
    let links : List ℕ = value_links this ++ values_links args in
    (low_first target.0 links low, values_fit (this ∷ args) (low_others target.0 links low) whole)
maker_fits (made.Element x) low whole = tt
maker_fits (made.Text x) low whole = tt
maker_fits (made.Comment x) low whole = tt
maker_fits made.Event low whole = tt
