-- Built-in functions that are none of texts or numbers.
use Rattle.std.proofs.Common.{◌≡◌, refl, Bool, List}
use Rattle.js_values.specs.declared.built_in.BuiltIn.{BuiltIn}
use Rattle.js_values.specs.declared.built_in.BuiltIn.TheVariants as built_in
use Rattle.js_values.specs.declared.throw.Throw.TheVariants.{WrongArgument}
use Rattle.js_values.specs.declared.value.Value.{Value}
use Rattle.page_meaning.specs.Errors.{raise}
use Rattle.page_meaning.specs.Store.{Store}
use Rattle.page_meaning.specs.TextRows.{text_row}
use Rattle.js_core.specs.declared.memory.Failure.{Failure}
use Rattle.page_state.specs.Does.{Raises}

pub other_row : (construct : Bool) (which : BuiltIn) (this : Value) (vs : List Value) (s t : Store) (e : Failure Value)
    → (which ≡ built_in.IsNaN → ⊥)
    → (which ≡ built_in.IsFinite → ⊥)
    → (which ≡ built_in.ParseInt → ⊥)
    → (which ≡ built_in.String → ⊥)
    → (which ≡ built_in.StringFromCharCode → ⊥)
    → (which ≡ built_in.StringPrototypeToString → ⊥)
    → (which ≡ built_in.StringPrototypeValueOf → ⊥)
    → (which ≡ built_in.StringPrototypeCharAt → ⊥)
    → (which ≡ built_in.StringPrototypeCharCodeAt → ⊥)
    → (which ≡ built_in.StringPrototypeConcat → ⊥)
    → (which ≡ built_in.StringPrototypeIndexOf → ⊥)
    → (which ≡ built_in.StringPrototypeLastIndexOf → ⊥)
    → (which ≡ built_in.StringPrototypeSlice → ⊥)
    → (which ≡ built_in.StringPrototypeSplit → ⊥)
    → (which ≡ built_in.StringPrototypeSubstring → ⊥)
    → (which ≡ built_in.StringPrototypeToLowerCase → ⊥)
    → (which ≡ built_in.StringPrototypeToUpperCase → ⊥)
    → (which ≡ built_in.StringPrototypeTrim → ⊥)
    → (which ≡ built_in.Number → ⊥)
    → (which ≡ built_in.NumberPrototypeToString → ⊥)
    → (which ≡ built_in.NumberPrototypeValueOf → ⊥)
    → (which ≡ built_in.MathAbs → ⊥)
    → (which ≡ built_in.MathCeil → ⊥)
    → (which ≡ built_in.MathFloor → ⊥)
    → (which ≡ built_in.MathMax → ⊥)
    → (which ≡ built_in.MathMin → ⊥)
    → (which ≡ built_in.MathPow → ⊥)
    → (which ≡ built_in.MathRound → ⊥)
    → Raises (λ _. raise WrongArgument) s t e → Raises (λ calls. text_row calls construct which this vs) s t e
other_row construct built_in.IsNaN this vs s t e h0 h1 h2 h3 h4 h5 h6 h7 h8 h9 h10 h11 h12 h13 h14 h15 h16 h17 h18 h19 h20 h21 h22 h23 h24 h25 h26 h27 r = absurd (h0 refl)
other_row construct built_in.IsFinite this vs s t e h0 h1 h2 h3 h4 h5 h6 h7 h8 h9 h10 h11 h12 h13 h14 h15 h16 h17 h18 h19 h20 h21 h22 h23 h24 h25 h26 h27 r = absurd (h1 refl)
other_row construct built_in.ParseInt this vs s t e h0 h1 h2 h3 h4 h5 h6 h7 h8 h9 h10 h11 h12 h13 h14 h15 h16 h17 h18 h19 h20 h21 h22 h23 h24 h25 h26 h27 r = absurd (h2 refl)
other_row construct built_in.String this vs s t e h0 h1 h2 h3 h4 h5 h6 h7 h8 h9 h10 h11 h12 h13 h14 h15 h16 h17 h18 h19 h20 h21 h22 h23 h24 h25 h26 h27 r = absurd (h3 refl)
other_row construct built_in.StringFromCharCode this vs s t e h0 h1 h2 h3 h4 h5 h6 h7 h8 h9 h10 h11 h12 h13 h14 h15 h16 h17 h18 h19 h20 h21 h22 h23 h24 h25 h26 h27 r = absurd (h4 refl)
other_row construct built_in.StringPrototypeToString this vs s t e h0 h1 h2 h3 h4 h5 h6 h7 h8 h9 h10 h11 h12 h13 h14 h15 h16 h17 h18 h19 h20 h21 h22 h23 h24 h25 h26 h27 r = absurd (h5 refl)
other_row construct built_in.StringPrototypeValueOf this vs s t e h0 h1 h2 h3 h4 h5 h6 h7 h8 h9 h10 h11 h12 h13 h14 h15 h16 h17 h18 h19 h20 h21 h22 h23 h24 h25 h26 h27 r = absurd (h6 refl)
other_row construct built_in.StringPrototypeCharAt this vs s t e h0 h1 h2 h3 h4 h5 h6 h7 h8 h9 h10 h11 h12 h13 h14 h15 h16 h17 h18 h19 h20 h21 h22 h23 h24 h25 h26 h27 r = absurd (h7 refl)
other_row construct built_in.StringPrototypeCharCodeAt this vs s t e h0 h1 h2 h3 h4 h5 h6 h7 h8 h9 h10 h11 h12 h13 h14 h15 h16 h17 h18 h19 h20 h21 h22 h23 h24 h25 h26 h27 r = absurd (h8 refl)
other_row construct built_in.StringPrototypeConcat this vs s t e h0 h1 h2 h3 h4 h5 h6 h7 h8 h9 h10 h11 h12 h13 h14 h15 h16 h17 h18 h19 h20 h21 h22 h23 h24 h25 h26 h27 r = absurd (h9 refl)
other_row construct built_in.StringPrototypeIndexOf this vs s t e h0 h1 h2 h3 h4 h5 h6 h7 h8 h9 h10 h11 h12 h13 h14 h15 h16 h17 h18 h19 h20 h21 h22 h23 h24 h25 h26 h27 r = absurd (h10 refl)
other_row construct built_in.StringPrototypeLastIndexOf this vs s t e h0 h1 h2 h3 h4 h5 h6 h7 h8 h9 h10 h11 h12 h13 h14 h15 h16 h17 h18 h19 h20 h21 h22 h23 h24 h25 h26 h27 r = absurd (h11 refl)
other_row construct built_in.StringPrototypeSlice this vs s t e h0 h1 h2 h3 h4 h5 h6 h7 h8 h9 h10 h11 h12 h13 h14 h15 h16 h17 h18 h19 h20 h21 h22 h23 h24 h25 h26 h27 r = absurd (h12 refl)
other_row construct built_in.StringPrototypeSplit this vs s t e h0 h1 h2 h3 h4 h5 h6 h7 h8 h9 h10 h11 h12 h13 h14 h15 h16 h17 h18 h19 h20 h21 h22 h23 h24 h25 h26 h27 r = absurd (h13 refl)
other_row construct built_in.StringPrototypeSubstring this vs s t e h0 h1 h2 h3 h4 h5 h6 h7 h8 h9 h10 h11 h12 h13 h14 h15 h16 h17 h18 h19 h20 h21 h22 h23 h24 h25 h26 h27 r = absurd (h14 refl)
other_row construct built_in.StringPrototypeToLowerCase this vs s t e h0 h1 h2 h3 h4 h5 h6 h7 h8 h9 h10 h11 h12 h13 h14 h15 h16 h17 h18 h19 h20 h21 h22 h23 h24 h25 h26 h27 r = absurd (h15 refl)
other_row construct built_in.StringPrototypeToUpperCase this vs s t e h0 h1 h2 h3 h4 h5 h6 h7 h8 h9 h10 h11 h12 h13 h14 h15 h16 h17 h18 h19 h20 h21 h22 h23 h24 h25 h26 h27 r = absurd (h16 refl)
other_row construct built_in.StringPrototypeTrim this vs s t e h0 h1 h2 h3 h4 h5 h6 h7 h8 h9 h10 h11 h12 h13 h14 h15 h16 h17 h18 h19 h20 h21 h22 h23 h24 h25 h26 h27 r = absurd (h17 refl)
other_row construct built_in.Number this vs s t e h0 h1 h2 h3 h4 h5 h6 h7 h8 h9 h10 h11 h12 h13 h14 h15 h16 h17 h18 h19 h20 h21 h22 h23 h24 h25 h26 h27 r = absurd (h18 refl)
other_row construct built_in.NumberPrototypeToString this vs s t e h0 h1 h2 h3 h4 h5 h6 h7 h8 h9 h10 h11 h12 h13 h14 h15 h16 h17 h18 h19 h20 h21 h22 h23 h24 h25 h26 h27 r = absurd (h19 refl)
other_row construct built_in.NumberPrototypeValueOf this vs s t e h0 h1 h2 h3 h4 h5 h6 h7 h8 h9 h10 h11 h12 h13 h14 h15 h16 h17 h18 h19 h20 h21 h22 h23 h24 h25 h26 h27 r = absurd (h20 refl)
other_row construct built_in.MathAbs this vs s t e h0 h1 h2 h3 h4 h5 h6 h7 h8 h9 h10 h11 h12 h13 h14 h15 h16 h17 h18 h19 h20 h21 h22 h23 h24 h25 h26 h27 r = absurd (h21 refl)
other_row construct built_in.MathCeil this vs s t e h0 h1 h2 h3 h4 h5 h6 h7 h8 h9 h10 h11 h12 h13 h14 h15 h16 h17 h18 h19 h20 h21 h22 h23 h24 h25 h26 h27 r = absurd (h22 refl)
other_row construct built_in.MathFloor this vs s t e h0 h1 h2 h3 h4 h5 h6 h7 h8 h9 h10 h11 h12 h13 h14 h15 h16 h17 h18 h19 h20 h21 h22 h23 h24 h25 h26 h27 r = absurd (h23 refl)
other_row construct built_in.MathMax this vs s t e h0 h1 h2 h3 h4 h5 h6 h7 h8 h9 h10 h11 h12 h13 h14 h15 h16 h17 h18 h19 h20 h21 h22 h23 h24 h25 h26 h27 r = absurd (h24 refl)
other_row construct built_in.MathMin this vs s t e h0 h1 h2 h3 h4 h5 h6 h7 h8 h9 h10 h11 h12 h13 h14 h15 h16 h17 h18 h19 h20 h21 h22 h23 h24 h25 h26 h27 r = absurd (h25 refl)
other_row construct built_in.MathPow this vs s t e h0 h1 h2 h3 h4 h5 h6 h7 h8 h9 h10 h11 h12 h13 h14 h15 h16 h17 h18 h19 h20 h21 h22 h23 h24 h25 h26 h27 r = absurd (h26 refl)
other_row construct built_in.MathRound this vs s t e h0 h1 h2 h3 h4 h5 h6 h7 h8 h9 h10 h11 h12 h13 h14 h15 h16 h17 h18 h19 h20 h21 h22 h23 h24 h25 h26 h27 r = absurd (h27 refl)
other_row construct which this vs s t e h0 h1 h2 h3 h4 h5 h6 h7 h8 h9 h10 h11 h12 h13 h14 h15 h16 h17 h18 h19 h20 h21 h22 h23 h24 h25 h26 h27 r = r
