-- What is no row of nodes and events.
use Rattle.std.proofs.Common.{◌≡◌, refl, List}
use Rattle.js_values.specs.declared.built_in.BuiltIn.{BuiltIn}
use Rattle.js_values.specs.declared.built_in.BuiltIn.TheVariants as built_in
use Rattle.js_values.specs.declared.throw.Throw.TheVariants.{WrongArgument}
use Rattle.js_values.specs.declared.value.Value.{Value}
use Rattle.page_meaning.specs.Errors.{raise}
use Rattle.page_meaning.specs.NodeRows.{node_row}
use Rattle.page_meaning.specs.Store.{Store}
use Rattle.js_core.specs.declared.memory.Failure.{Failure}
use Rattle.page_state.specs.Does.{Raises}

pub unbuilt : (which : BuiltIn) (this : Value) (vs : List Value) (s t : Store) (e : Failure Value)
    → (which ≡ built_in.NodePrototypeInsertBefore → ⊥)
    → (which ≡ built_in.NodePrototypeReplaceChild → ⊥)
    → (which ≡ built_in.NodePrototypeRemoveChild → ⊥)
    → (which ≡ built_in.NodePrototypeAppendChild → ⊥)
    → (which ≡ built_in.NodePrototypeHasChildNodes → ⊥)
    → (which ≡ built_in.NodePrototypeGetAttribute → ⊥)
    → (which ≡ built_in.NodePrototypeSetAttribute → ⊥)
    → (which ≡ built_in.NodePrototypeRemoveAttribute → ⊥)
    → (which ≡ built_in.NodePrototypeHasAttribute → ⊥)
    → (which ≡ built_in.NodePrototypeAddEventListener → ⊥)
    → (which ≡ built_in.NodePrototypeRemoveEventListener → ⊥)
    → (which ≡ built_in.NodePrototypeGetElementById → ⊥)
    → (which ≡ built_in.NodePrototypeCreateElement → ⊥)
    → (which ≡ built_in.NodePrototypeCreateTextNode → ⊥)
    → (which ≡ built_in.NodePrototypeCreateComment → ⊥)
    → (which ≡ built_in.NodePrototypeCreateEvent → ⊥)
    → (which ≡ built_in.EventPrototypeInitEvent → ⊥)
    → (which ≡ built_in.EventPrototypeStopPropagation → ⊥)
    → (which ≡ built_in.EventPrototypePreventDefault → ⊥)
    → Raises (λ _. raise WrongArgument) s t e → Raises (λ calls. node_row calls which this vs) s t e
unbuilt built_in.NodePrototypeInsertBefore this vs s t e h0 h1 h2 h3 h4 h5 h6 h7 h8 h9 h10 h11 h12 h13 h14 h15 h16 h17 h18 r = absurd (h0 refl)
unbuilt built_in.NodePrototypeReplaceChild this vs s t e h0 h1 h2 h3 h4 h5 h6 h7 h8 h9 h10 h11 h12 h13 h14 h15 h16 h17 h18 r = absurd (h1 refl)
unbuilt built_in.NodePrototypeRemoveChild this vs s t e h0 h1 h2 h3 h4 h5 h6 h7 h8 h9 h10 h11 h12 h13 h14 h15 h16 h17 h18 r = absurd (h2 refl)
unbuilt built_in.NodePrototypeAppendChild this vs s t e h0 h1 h2 h3 h4 h5 h6 h7 h8 h9 h10 h11 h12 h13 h14 h15 h16 h17 h18 r = absurd (h3 refl)
unbuilt built_in.NodePrototypeHasChildNodes this vs s t e h0 h1 h2 h3 h4 h5 h6 h7 h8 h9 h10 h11 h12 h13 h14 h15 h16 h17 h18 r = absurd (h4 refl)
unbuilt built_in.NodePrototypeGetAttribute this vs s t e h0 h1 h2 h3 h4 h5 h6 h7 h8 h9 h10 h11 h12 h13 h14 h15 h16 h17 h18 r = absurd (h5 refl)
unbuilt built_in.NodePrototypeSetAttribute this vs s t e h0 h1 h2 h3 h4 h5 h6 h7 h8 h9 h10 h11 h12 h13 h14 h15 h16 h17 h18 r = absurd (h6 refl)
unbuilt built_in.NodePrototypeRemoveAttribute this vs s t e h0 h1 h2 h3 h4 h5 h6 h7 h8 h9 h10 h11 h12 h13 h14 h15 h16 h17 h18 r = absurd (h7 refl)
unbuilt built_in.NodePrototypeHasAttribute this vs s t e h0 h1 h2 h3 h4 h5 h6 h7 h8 h9 h10 h11 h12 h13 h14 h15 h16 h17 h18 r = absurd (h8 refl)
unbuilt built_in.NodePrototypeAddEventListener this vs s t e h0 h1 h2 h3 h4 h5 h6 h7 h8 h9 h10 h11 h12 h13 h14 h15 h16 h17 h18 r = absurd (h9 refl)
unbuilt built_in.NodePrototypeRemoveEventListener this vs s t e h0 h1 h2 h3 h4 h5 h6 h7 h8 h9 h10 h11 h12 h13 h14 h15 h16 h17 h18 r = absurd (h10 refl)
unbuilt built_in.NodePrototypeGetElementById this vs s t e h0 h1 h2 h3 h4 h5 h6 h7 h8 h9 h10 h11 h12 h13 h14 h15 h16 h17 h18 r = absurd (h11 refl)
unbuilt built_in.NodePrototypeCreateElement this vs s t e h0 h1 h2 h3 h4 h5 h6 h7 h8 h9 h10 h11 h12 h13 h14 h15 h16 h17 h18 r = absurd (h12 refl)
unbuilt built_in.NodePrototypeCreateTextNode this vs s t e h0 h1 h2 h3 h4 h5 h6 h7 h8 h9 h10 h11 h12 h13 h14 h15 h16 h17 h18 r = absurd (h13 refl)
unbuilt built_in.NodePrototypeCreateComment this vs s t e h0 h1 h2 h3 h4 h5 h6 h7 h8 h9 h10 h11 h12 h13 h14 h15 h16 h17 h18 r = absurd (h14 refl)
unbuilt built_in.NodePrototypeCreateEvent this vs s t e h0 h1 h2 h3 h4 h5 h6 h7 h8 h9 h10 h11 h12 h13 h14 h15 h16 h17 h18 r = absurd (h15 refl)
unbuilt built_in.EventPrototypeInitEvent this vs s t e h0 h1 h2 h3 h4 h5 h6 h7 h8 h9 h10 h11 h12 h13 h14 h15 h16 h17 h18 r = absurd (h16 refl)
unbuilt built_in.EventPrototypeStopPropagation this vs s t e h0 h1 h2 h3 h4 h5 h6 h7 h8 h9 h10 h11 h12 h13 h14 h15 h16 h17 h18 r = absurd (h17 refl)
unbuilt built_in.EventPrototypePreventDefault this vs s t e h0 h1 h2 h3 h4 h5 h6 h7 h8 h9 h10 h11 h12 h13 h14 h15 h16 h17 h18 r = absurd (h18 refl)
unbuilt which this vs s t e h0 h1 h2 h3 h4 h5 h6 h7 h8 h9 h10 h11 h12 h13 h14 h15 h16 h17 h18 r = r
