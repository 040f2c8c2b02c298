-- A property stays where another one is changed.
use Rattle.std.proofs.Common.{◌≡◌, refl, ◌∙◌, ℕ, ◌+◌, Bool, true, false, ◌&&◌, not, List, Option, Some, None, nat_lt, bytes_eq, if◌then◌else◌}
use Rattle.js_values.specs.declared.throw.Throw.{Throw}
use Rattle.js_values.specs.declared.throw.Throw.TheVariants.{CannotDefine, CannotSet}
use Rattle.object_heap.specs.Object.{is_list, Object}
use Rattle.object_heap.specs.declared.property.Change.{Change}
use Rattle.object_heap.specs.declared.property.Prop.{Prop}
use Rattle.object_heap.specs.Attempt.{Attempt}
use Rattle.object_heap.specs.Define.{array_length, define, define_indexed, define_ordinary, defined_over, deleted_over, grown_over, has_writable_length, is_closed_at, length_name, number, put_change, with_length_over, with_value}
use Rattle.object_heap.specs.Index.{index_of}
use Rattle.object_heap.specs.Laws.{OthersStay}
use Rattle.object_heap.specs.Property.{Props, created, may_update, own_property, updated}
use Rattle.object_heap.proofs.Lists.{apart, lookup_before, lookup_remove_other, lookup_set_other}

-- the property is as before
abbrev Stays : Object → List ℕ → Attempt Object → Type 0
Stays o other attempt = own_property attempt.after.props other ≡ own_property o.props other

stays_if : (o : Object) (other : List ℕ) (b : Bool) (x y : Attempt Object) → (b ≡ true → Stays o other x) → (b ≡ false → Stays o other y) → Stays o other (if b then x else y)
stays_if o other true x y h g = h refl
stays_if o other false x y h g = g refl

over_stays : (t : Throw) (o : Object) (name other : List ℕ) (change : Change) (own : Option Prop) → bytes_eq other name ≡ false → Stays o other (defined_over t o name change own)
over_stays t o name other change None far =
    stays_if o other o.extensible _ _ (λ b. lookup_before (bytes_eq other) o.props name (created change) far) (λ b. refl)
over_stays t o name other change (Some p) far =
    stays_if o other (may_update p change) _ _ (λ b. lookup_set_other (bytes_eq other) (bytes_eq name) o.props (updated p change) (apart other name far)) (λ b. refl)

ordinary_stays : (t : Throw) (o : Object) (name other : List ℕ) (change : Change) → bytes_eq other name ≡ false → Stays o other (define_ordinary t o name change)
ordinary_stays t o name other change = over_stays t o name other change (own_property o.props name)

length_stays : (props : Props) (n : ℕ) (other : List ℕ) (own : Option Prop) → bytes_eq other length_name ≡ false → own_property (with_length_over props n own) other ≡ own_property props other
length_stays props n other None far = refl
length_stays props n other (Some l) far = lookup_set_other (bytes_eq other) (bytes_eq length_name) props (with_value l (number n)) (apart other length_name far)

grown_stays : (o : Object) (other : List ℕ) (n : ℕ) (attempt : Attempt Object) (thrown : Option Throw) → bytes_eq other length_name ≡ false → Stays o other attempt → Stays o other (grown_over n attempt thrown)
grown_stays o other n attempt None far h = length_stays attempt.after.props n other (own_property attempt.after.props length_name) far ∙ h
grown_stays o other n attempt (Some t) far h = h

indexed_stays : (t : Throw) (o : Object) (name other : List ℕ) (change : Change) (index : Option ℕ) → bytes_eq other name ≡ false → bytes_eq other length_name ≡ false → Stays o other (define_indexed t o name change index)
indexed_stays t o name other change None far long = ordinary_stays t o name other change far
indexed_stays t o name other change (Some i) far long =
    stays_if o other (nat_lt i (array_length o)) _ _ (λ b. ordinary_stays t o name other change far)
    (λ b. stays_if o other (has_writable_length o) _ _
    (λ c. grown_stays o other (i + 1) (define_ordinary t o name change) (define_ordinary t o name change).thrown long (ordinary_stays t o name other change far)) (λ c. refl))

define_stays : (t : Throw) (o : Object) (name other : List ℕ) (change : Change) → bytes_eq other name ≡ false → bytes_eq other length_name ≡ false → bytes_eq name length_name ≡ false → Stays o other (define t o name change)
define_stays t o name other change far long short =
    stays_if o other (is_list o.class) _ _
    (λ b. stays_if o other (bytes_eq name length_name) _ _ (λ c. cc (c, short)) (λ c. indexed_stays t o name other change (index_of name) far long))
    (λ b. ordinary_stays t o name other change far)

deleted_stays : (o : Object) (name other : List ℕ) (own : Option Prop) → bytes_eq other name ≡ false → Stays o other (deleted_over o name own)
deleted_stays o name other None far = refl
deleted_stays o name other (Some p) far =
    stays_if o other p.configurable _ _ (λ b. lookup_remove_other (bytes_eq other) (bytes_eq name) o.props (apart other name far)) (λ b. refl)

pub others_stay : OthersStay
others_stay o name other far long short = (
  λ can v. stays_if o other (not (is_closed_at o name) && can) _ _
      (λ b. define_stays CannotSet o name other (put_change v (own_property o.props name)) far long short) (λ b. refl),
  λ change. stays_if o other (is_closed_at o name) _ _ (λ b. refl) (λ b. define_stays CannotDefine o name other change far long short),
  stays_if o other (is_closed_at o name) _ _ (λ b. refl) (λ b. deleted_stays o name other (own_property o.props name) far),
)
