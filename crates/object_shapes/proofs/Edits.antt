-- The properties that a thing is made with stay: each edit keeps them.
use Rattle.std.proofs.Common.{◌≡◌, ◌⊎◌, inl, inr, refl, sym, ap, subst, ◌∙◌, ℕ, Bool, true, false, List, [], ◌∷◌, ◌++◌, Some, bytes_eq}
use Rattle.std.specs.Prelude.{⊤}
use Rattle.js_values.specs.declared.value.Value.{Value}
use Rattle.object_heap.specs.Define.{elements_below, is_below, length_name, number}
use Rattle.object_heap.specs.Function.{prototype_name}
use Rattle.object_heap.specs.Index.{index_of}
use Rattle.object_heap.specs.Property.{Props, fixed, own_property, with_property, without_property}
use Rattle.object_heap.specs.declared.property.Prop.{Prop}
use Rattle.object_shapes.specs.Shapes.{HasFunctionProps, HasLength, made_property}
use Rattle.object_shapes.proofs.Lists.{AreSmall, small_added, small_filtered, small_found, small_removed, small_set}
use Rattle.object_shapes.proofs.Rules.{Fits, IsNumber, Rules}

-- names are not restricted
abbrev pub AnyName : List ℕ → Type 0
AnyName name = ⊤

-- a length that is fixed comes before the others, as of each function
pub record HasFixedLength (m : ℕ) (props : Props) : Type 0 where
  pub others : Props
  pub are : props ≡ (length_name, fixed (number m)) ∷ others

-- ---- the property in front

-- it has the name
record IsFront (x : List ℕ) (l : Prop) (others ps : Props) (name : List ℕ) (p q : Prop) : Type 0 where
  same : bytes_eq name x ≡ true
  is : p ≡ l
  set : with_property ps name q ≡ (x, q) ∷ others
  removed : without_property ps name ≡ others

-- another one has it
record IsLater (x : List ℕ) (l : Prop) (others ps : Props) (name : List ℕ) (p q : Prop) : Type 0 where
  there : own_property others name ≡ Some p
  set : with_property ps name q ≡ (x, l) ∷ with_property others name q
  removed : without_property ps name ≡ (x, l) ∷ without_property others name

front : (x : List ℕ) (l : Prop) (others ps : Props) (name : List ℕ) (p q : Prop) → ps ≡ (x, l) ∷ others → own_property ps name ≡ Some p
    → IsFront x l others ps name p q ⊎ IsLater x l others ps name p q
front x l others ps name p q are there = by_case (bytes_eq name x) refl (subst (λ (zs : Props). own_property zs name ≡ Some p) are there)
  where
    by_case : (b : Bool) → bytes_eq name x ≡ b → own_property ((x, l) ∷ others) name ≡ Some p
        → IsFront x l others ps name p q ⊎ IsLater x l others ps name p q
    by_case true g found = inl (record {
      same = g;
      is = cc (rw g at found);
      set = ap (λ (zs : Props). with_property zs name q) are ∙ rw g refl;
      removed = ap (λ (zs : Props). without_property zs name) are ∙ rw g refl;
    })
    by_case false g found = inr (record {
      there = rw g at found;
      set = ap (λ (zs : Props). with_property zs name q) are ∙ rw g refl;
      removed = ap (λ (zs : Props). without_property zs name) are ∙ rw g refl;
    })

-- what may be deleted is configurable
not_kept : {A : Type 0} (p l : Prop) → p ≡ l → p.configurable ≡ true → l.configurable ≡ false → A
not_kept p l is may fixed = absurd (cc (sym may ∙ ap (λ (x : Prop). x.configurable) is ∙ fixed))

-- one that is neither configurable nor enumerable stays so
made_of : (list : Bool) (name : List ℕ) (p q l : Prop) → Fits list name p q → p ≡ l → l.configurable ≡ false → l.enumerable ≡ false
    → q ≡ made_property q.value q.writable
made_of list name p q l fits is fixed hidden =
    let was : p.configurable ≡ false = ap (λ (x : Prop). x.configurable) is ∙ fixed in
    let configurable : q.configurable ≡ false = fits.configurable was in
    let enumerable : q.enumerable ≡ false = fits.enumerable was ∙ (ap (λ (x : Prop). x.enumerable) is ∙ hidden) in
    (λ j. record { value = q.value; writable = q.writable; enumerable = enumerable j; configurable = configurable j })

-- ---- arrays

length_set : (ps : Props) (name : List ℕ) (p q : Prop) → own_property ps name ≡ Some p → Fits true name p q → HasLength ps
    → HasLength (with_property ps name q)
length_set ps name p q there fits h = by_case (front length_name (made_property (number h.count) h.writable) h.others ps name p q h.are there)
  where
    l : Prop
    l = made_property (number h.count) h.writable

    by_case : IsFront length_name l h.others ps name p q ⊎ IsLater length_name l h.others ps name p q → HasLength (with_property ps name q)
    by_case (inl hit) =
        let whole = made_of true name p q l fits hit.is refl refl in
        let value : IsNumber q.value = fits.length refl hit.same (record { count = h.count; is = ap (λ (x : Prop). x.value) hit.is }) in
        record {
          count = value.count;
          writable = q.writable;
          others = h.others;
          are = hit.set ∙ ap (λ (x : Prop). (length_name, x) ∷ h.others) (whole ∙ ap (λ v. made_property v q.writable) value.is);
        }
    by_case (inr later) = record { count = h.count; writable = h.writable; others = with_property h.others name q; are = later.set }

length_removed : (ps : Props) (name : List ℕ) (p : Prop) → own_property ps name ≡ Some p → p.configurable ≡ true → HasLength ps
    → HasLength (without_property ps name)
length_removed ps name p there may h = by_case (front length_name (made_property (number h.count) h.writable) h.others ps name p p h.are there)
  where
    l : Prop
    l = made_property (number h.count) h.writable

    by_case : IsFront length_name l h.others ps name p p ⊎ IsLater length_name l h.others ps name p p → HasLength (without_property ps name)
    by_case (inl hit) = not_kept p l hit.is may refl
    by_case (inr later) = record { count = h.count; writable = h.writable; others = without_property h.others name; are = later.removed }

pub length_rules : (n : ℕ) → Rules n true AnyName HasLength
length_rules n = record {
  length = λ list. tt;
  adds = λ ps name p a none small h. record
      { count = h.count; writable = h.writable; others = h.others ++ (name, p) ∷ []; are = ap (λ (zs : Props). zs ++ (name, p) ∷ []) h.are };
  sets = λ ps name p q a there fits small h. length_set ps name p q there fits h;
  removes = λ ps name p a there may h. length_removed ps name p there may h;
  filters = λ end ps list h. record
      { count = h.count; writable = h.writable; others = elements_below end h.others; are = ap (elements_below end) h.are };
}

-- ---- functions

fixed_set : (m : ℕ) (ps : Props) (name : List ℕ) (p q : Prop) → own_property ps name ≡ Some p → Fits false name p q → HasFixedLength m ps
    → HasFixedLength m (with_property ps name q)
fixed_set m ps name p q there fits h = by_case (front length_name (fixed (number m)) h.others ps name p q h.are there)
  where
    by_case : IsFront length_name (fixed (number m)) h.others ps name p q ⊎ IsLater length_name (fixed (number m)) h.others ps name p q
        → HasFixedLength m (with_property ps name q)
    by_case (inl hit) =
        let same : q ≡ p = fits.locked refl (ap (λ (x : Prop). x.configurable) hit.is) (ap (λ (x : Prop). x.writable) hit.is) in
        record { others = h.others; are = hit.set ∙ ap (λ (x : Prop). (length_name, x) ∷ h.others) (same ∙ hit.is) }
    by_case (inr later) = record { others = with_property h.others name q; are = later.set }

fixed_removed : (m : ℕ) (ps : Props) (name : List ℕ) (p : Prop) → own_property ps name ≡ Some p → p.configurable ≡ true → HasFixedLength m ps
    → HasFixedLength m (without_property ps name)
fixed_removed m ps name p there may h = by_case (front length_name (fixed (number m)) h.others ps name p p h.are there)
  where
    by_case : IsFront length_name (fixed (number m)) h.others ps name p p ⊎ IsLater length_name (fixed (number m)) h.others ps name p p
        → HasFixedLength m (without_property ps name)
    by_case (inl hit) = not_kept p (fixed (number m)) hit.is may refl
    by_case (inr later) = record { others = without_property h.others name; are = later.removed }

pub fixed_rules : (n m : ℕ) → Rules n false AnyName (HasFixedLength m)
fixed_rules n m = record {
  length = λ list. tt;
  adds = λ ps name p a none small h. record { others = h.others ++ (name, p) ∷ []; are = ap (λ (zs : Props). zs ++ (name, p) ∷ []) h.are };
  sets = λ ps name p q a there fits small h. fixed_set m ps name p q there fits h;
  removes = λ ps name p a there may h. fixed_removed m ps name p there may h;
  filters = λ end ps list h. absurd (cc list);
}

-- the `prototype` behind the length
record HasPrototype (props : Props) : Type 0 where
  prototype : Value
  writable : Bool
  others : Props
  are : props ≡ (prototype_name, made_property prototype writable) ∷ others

prototype_set : (ps : Props) (name : List ℕ) (p q : Prop) → own_property ps name ≡ Some p → Fits false name p q → HasPrototype ps
    → HasPrototype (with_property ps name q)
prototype_set ps name p q there fits h = by_case (front prototype_name (made_property h.prototype h.writable) h.others ps name p q h.are there)
  where
    l : Prop
    l = made_property h.prototype h.writable

    by_case : IsFront prototype_name l h.others ps name p q ⊎ IsLater prototype_name l h.others ps name p q → HasPrototype (with_property ps name q)
    by_case (inl hit) =
        let whole = made_of false name p q l fits hit.is refl refl in
        record {
          prototype = q.value;
          writable = q.writable;
          others = h.others;
          are = hit.set ∙ ap
              (λ (x : Prop). (prototype_name, x) ∷ h.others) whole;
        }
    by_case (inr later) = record { prototype = h.prototype; writable = h.writable; others = with_property h.others name q; are = later.set }

prototype_removed : (ps : Props) (name : List ℕ) (p : Prop) → own_property ps name ≡ Some p → p.configurable ≡ true → HasPrototype ps
    → HasPrototype (without_property ps name)
prototype_removed ps name p there may h = by_case (front prototype_name (made_property h.prototype h.writable) h.others ps name p p h.are there)
  where
    l : Prop
    l = made_property h.prototype h.writable

    by_case : IsFront prototype_name l h.others ps name p p ⊎ IsLater prototype_name l h.others ps name p p
        → HasPrototype (without_property ps name)
    by_case (inl hit) = not_kept p l hit.is may refl
    by_case (inr later) = record { prototype = h.prototype; writable = h.writable; others = without_property h.others name; are = later.removed }

function_of : (m : ℕ) (ps others : Props) → ps ≡ (length_name, fixed (number m)) ∷ others → HasPrototype others → HasFunctionProps m ps
function_of m ps others are h =
    record {
      prototype = h.prototype;
      writable = h.writable;
      others = h.others;
      are = are ∙ ap
          (λ (zs : Props). (length_name, fixed (number m)) ∷ zs) h.are;
    }

module _ (m : ℕ) (ps : Props) (name : List ℕ) (p q : Prop) (there : own_property ps name ≡ Some p) (h : HasFunctionProps m ps) where
  function_set : Fits false name p q → HasFunctionProps m (with_property ps name q)
  function_set fits = by_case (front length_name (fixed (number m))
      ((prototype_name, made_property h.prototype h.writable) ∷ h.others) ps name p q h.are there)
    where
      rest : Props
      rest = (prototype_name, made_property h.prototype h.writable) ∷ h.others

      by_case : IsFront length_name (fixed (number m)) rest ps name p q ⊎ IsLater length_name (fixed (number m)) rest ps name p q
          → HasFunctionProps m (with_property ps name q)
      by_case (inl hit) =
          let same : q ≡ p = fits.locked refl (ap (λ (x : Prop). x.configurable) hit.is) (ap (λ (x : Prop). x.writable) hit.is) in
          record {
            prototype = h.prototype;
            writable = h.writable;
            others = h.others;
            are = hit.set ∙ ap (λ (x : Prop). (length_name, x) ∷ rest)
                (same ∙ hit.is);
          }
      by_case (inr later) = function_of m (with_property ps name q) (with_property rest name q) later.set
          (prototype_set rest name p q later.there fits (record { prototype = h.prototype; writable = h.writable; others = h.others; are = refl }))

  function_removed : p.configurable ≡ true → HasFunctionProps m (without_property ps name)
  function_removed may = by_case (front length_name (fixed (number m))
      ((prototype_name, made_property h.prototype h.writable) ∷ h.others) ps name p q h.are there)
    where
      rest : Props
      rest = (prototype_name, made_property h.prototype h.writable) ∷ h.others

      by_case : IsFront length_name (fixed (number m)) rest ps name p q ⊎ IsLater length_name (fixed (number m)) rest ps name p q
          → HasFunctionProps m (without_property ps name)
      by_case (inl hit) = not_kept p (fixed (number m)) hit.is may refl
      by_case (inr later) = function_of m (without_property ps name) (without_property rest name) later.removed
          (prototype_removed rest name p later.there may (record { prototype = h.prototype; writable = h.writable; others = h.others; are = refl }))

pub function_rules : (n m : ℕ) → Rules n false AnyName (HasFunctionProps m)
function_rules n m = record {
  length = λ list. tt;
  adds = λ ps name p a none small h. record {
    prototype = h.prototype;
    writable = h.writable;
    others = h.others ++ (name, p) ∷ [];
    are =
        ap (λ (zs : Props). zs ++ (name, p) ∷ []) h.are;
  };
  sets = λ ps name p q a there fits small h. function_set m ps name p q there h fits;
  removes = λ ps name p a there may h. function_removed m ps name p p there h may;
  filters = λ end ps list h. absurd (cc list);
}

-- ---- what properties refer to

pub small_rules : (n : ℕ) (list : Bool) → Rules n list AnyName (AreSmall n)
small_rules n list = record {
  length = λ array. tt;
  adds = λ ps name p a none small h. small_added n ps name p h small;
  sets = λ ps name p q a there fits small h. small_set n (bytes_eq name) ps q h (small (small_found n (bytes_eq name) ps p h there));
  removes = λ ps name p a there may h. small_removed n (bytes_eq name) ps h;
  filters = λ end ps array h. small_filtered n (λ e. is_below end (index_of e.0)) ps h;
}
