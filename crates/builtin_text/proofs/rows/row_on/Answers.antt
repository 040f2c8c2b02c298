use Rattle.js_values.specs.declared.built_in.BuiltIn.TheVariants as built_in
use Rattle.page_meaning.specs.TextRows.{text_row}
use Rattle.builtin_text.proofs.OtherRows.{other_row}
use Rattle.builtin_text.proofs.rows.row_on.Goals as goal

pub returns-in-IsNaN : goal.returns-in-IsNaN
returns-in-IsNaN c = rw c.in-IsNaN.is (rw c.requires.first at c.is_not_a_number.ensures)

pub returns-in-IsFinite : goal.returns-in-IsFinite
returns-in-IsFinite c = rw c.in-IsFinite.is (rw c.requires.first at c.is_finite.ensures)

pub returns-in-ParseInt : goal.returns-in-ParseInt
returns-in-ParseInt c = rw c.in-ParseInt.is (c.as_number.ensures (λ calls. text_row calls c.args.construct built_in.ParseInt c.args.this.now c.args.args.now) c.args.state.now c.parse_int.new.state (rw (c.requires.first, c.requires.second) at c.parse_int.ensures))

pub returns-in-StringPrototypeToString : goal.returns-in-StringPrototypeToString
returns-in-StringPrototypeToString c = rw c.in-StringPrototypeToString.is c.on_text.ensures

pub returns-in-StringPrototypeValueOf : goal.returns-in-StringPrototypeValueOf
returns-in-StringPrototypeValueOf c = rw c.in-StringPrototypeValueOf.is c.on_text-in-StringPrototypeValueOf.ensures

pub returns-in-StringPrototypeToLowerCase : goal.returns-in-StringPrototypeToLowerCase
returns-in-StringPrototypeToLowerCase c = rw c.in-StringPrototypeToLowerCase.is c.on_text-in-StringPrototypeToLowerCase.ensures

pub returns-in-StringPrototypeToUpperCase : goal.returns-in-StringPrototypeToUpperCase
returns-in-StringPrototypeToUpperCase c = rw c.in-StringPrototypeToUpperCase.is c.on_text-in-StringPrototypeToUpperCase.ensures

pub returns-in-StringPrototypeTrim : goal.returns-in-StringPrototypeTrim
returns-in-StringPrototypeTrim c = rw c.in-StringPrototypeTrim.is c.on_text-in-StringPrototypeTrim.ensures

pub returns-in-Number : goal.returns-in-Number
returns-in-Number c = rw c.in-Number.is (c.as_number-in-Number.ensures (λ calls. text_row calls c.args.construct built_in.Number c.args.this.now c.args.args.now) c.args.state.now c.number_from.new.state c.number_from.ensures)

pub returns-in-NumberPrototypeValueOf : goal.returns-in-NumberPrototypeValueOf
returns-in-NumberPrototypeValueOf c = rw c.in-NumberPrototypeValueOf.is c.number_itself.ensures

pub returns-in-MathAbs : goal.returns-in-MathAbs
returns-in-MathAbs c = rw c.in-MathAbs.is (c.as_number-in-MathAbs.ensures (λ calls. text_row calls c.args.construct built_in.MathAbs c.args.this.now c.args.args.now) c.args.state.now c.abs.new.state (rw c.requires.first at c.abs.ensures))

pub returns-in-MathCeil : goal.returns-in-MathCeil
returns-in-MathCeil c = rw c.in-MathCeil.is (c.as_number-in-MathCeil.ensures (λ calls. text_row calls c.args.construct built_in.MathCeil c.args.this.now c.args.args.now) c.args.state.now c.round.new.state (rw c.requires.first at c.round.ensures))

pub returns-in-MathFloor : goal.returns-in-MathFloor
returns-in-MathFloor c = rw c.in-MathFloor.is (c.as_number-in-MathFloor.ensures (λ calls. text_row calls c.args.construct built_in.MathFloor c.args.this.now c.args.args.now) c.args.state.now c.round-in-MathFloor.new.state (rw c.requires.first at c.round-in-MathFloor.ensures))

pub returns-in-MathMax : goal.returns-in-MathMax
returns-in-MathMax c = rw c.in-MathMax.is (c.as_number-in-MathMax.ensures (λ calls. text_row calls c.args.construct built_in.MathMax c.args.this.now c.args.args.now) c.args.state.now c.pick_of.new.state c.pick_of.ensures)

pub returns-in-MathMin : goal.returns-in-MathMin
returns-in-MathMin c = rw c.in-MathMin.is (c.as_number-in-MathMin.ensures (λ calls. text_row calls c.args.construct built_in.MathMin c.args.this.now c.args.args.now) c.args.state.now c.pick_of-in-MathMin.new.state c.pick_of-in-MathMin.ensures)

pub returns-in-MathPow : goal.returns-in-MathPow
returns-in-MathPow c = rw c.in-MathPow.is (c.as_number-in-MathPow.ensures (λ calls. text_row calls c.args.construct built_in.MathPow c.args.this.now c.args.args.now) c.args.state.now c.power.new.state (rw (c.requires.first, c.requires.second) at c.power.ensures))

pub returns-in-MathRound : goal.returns-in-MathRound
returns-in-MathRound c = rw c.in-MathRound.is (c.as_number-in-MathRound.ensures (λ calls. text_row calls c.args.construct built_in.MathRound c.args.this.now c.args.args.now) c.args.state.now c.round-in-MathRound.new.state (rw c.requires.first at c.round-in-MathRound.ensures))

pub returns-in_default : goal.returns-in_default
returns-in_default c = other_row c.args.construct c.args.which c.args.this.now c.args.args.now c.args.state.now c.raise.new.self c.raise.result c.in_default.not-IsNaN c.in_default.not-IsFinite c.in_default.not-ParseInt c.in_default.not-String c.in_default.not-StringFromCharCode c.in_default.not-StringPrototypeToString c.in_default.not-StringPrototypeValueOf c.in_default.not-StringPrototypeCharAt c.in_default.not-StringPrototypeCharCodeAt c.in_default.not-StringPrototypeConcat c.in_default.not-StringPrototypeIndexOf c.in_default.not-StringPrototypeLastIndexOf c.in_default.not-StringPrototypeSlice c.in_default.not-StringPrototypeSplit c.in_default.not-StringPrototypeSubstring c.in_default.not-StringPrototypeToLowerCase c.in_default.not-StringPrototypeToUpperCase c.in_default.not-StringPrototypeTrim c.in_default.not-Number c.in_default.not-NumberPrototypeToString c.in_default.not-NumberPrototypeValueOf c.in_default.not-MathAbs c.in_default.not-MathCeil c.in_default.not-MathFloor c.in_default.not-MathMax c.in_default.not-MathMin c.in_default.not-MathPow c.in_default.not-MathRound c.raise.ensures
