-- The names of properties stay when the properties are moved and sited, and distinct names are new one after another.
use Rattle.std.proofs.Common.{◌≡◌, refl, sym, ap, subst, ◌∙◌, ℕ, Bool, true, false, ◌&&◌, List, [], ◌∷◌, ◌++◌, None, bytes_eq}
use Rattle.std.proofs.lemmas.Slice.Eq.{bytes_eq-Decides}
use Rattle.std.specs.List.{AllByRecursion, IsDistinct, list_all}
use Rattle.std.specs.Map.{keys_of}
use Rattle.object_heap.specs.Define.{length_name}
use Rattle.object_heap.specs.Function.{prototype_name}
use Rattle.object_heap.specs.Property.{Props, own_property}
use Rattle.object_heap.specs.declared.property.Prop.{Prop}
use Rattle.js_values.specs.declared.ids.ObjId.{ObjId}
use Rattle.rebuild_plan.specs.Compact.{moved_prop, moved_props}
use Rattle.rebuild_plan.specs.Plan.{define, defines}
use Rattle.rebuild_plan.specs.declared.statement.Rebuild.{Rebuild}
use Rattle.rebuilding.specs.Sites.{sited_prop, sited_props}

-- the properties of a thing as they are in the page that is rebuilt
abbrev pub rebuilt_props : List ℕ → List ℕ → Props → Props
rebuilt_props sites things ps = sited_props sites (moved_props things ps)

pub rebuilt_both : (sites things : List ℕ) (ps qs : Props) → rebuilt_props sites things (ps ++ qs)
    ≡ rebuilt_props sites things ps ++ rebuilt_props sites things qs
rebuilt_both sites things [] qs = refl
rebuilt_both sites things (e ∷ es) qs = ap (λ l. (e.0, sited_prop sites (moved_prop things e.1)) ∷ l) (rebuilt_both sites things es qs)

-- ---- names

pub moved_keys : (things : List ℕ) (ps : Props) → keys_of (moved_props things ps) ≡ keys_of ps
moved_keys things [] = refl
moved_keys things (e ∷ es) = ap (λ l. e.0 ∷ l) (moved_keys things es)

pub sited_keys : (sites : List ℕ) (ps : Props) → keys_of (sited_props sites ps) ≡ keys_of ps
sited_keys sites [] = refl
sited_keys sites (e ∷ es) = ap (λ l. e.0 ∷ l) (sited_keys sites es)

pub rebuilt_keys : (sites things : List ℕ) (ps : Props) → keys_of (rebuilt_props sites things ps) ≡ keys_of ps
rebuilt_keys sites things ps = sited_keys sites (moved_props things ps) ∙ moved_keys things ps

pub both_keys : (ps qs : Props) → keys_of (ps ++ qs) ≡ keys_of ps ++ keys_of qs
both_keys [] qs = refl
both_keys (e ∷ es) qs = ap (λ l. e.0 ∷ l) (both_keys es qs)

-- a test of each name
pub moved_all : (f : List ℕ → Bool) (things : List ℕ) (ps : Props) → list_all (λ e. f e.0) (moved_props things ps) ≡ list_all (λ e. f e.0) ps
moved_all f things [] = refl
moved_all f things (e ∷ es) = ap (λ b. f e.0 && b) (moved_all f things es)

pub flipped : (x y : List ℕ) → bytes_eq x y ≡ false → bytes_eq y x ≡ false
flipped x y h = by_case (bytes_eq y x) refl
  where
    by_case : (b : Bool) → bytes_eq y x ≡ b → bytes_eq y x ≡ false
    by_case false p = p
    by_case true p =
        let same : bytes_eq x y ≡ true = (bytes_eq-Decides x y).1 (sym ((bytes_eq-Decides y x).0 p)) in
        cc (same, h)

-- what holds of each holds of one between
holds_of : (P : List ℕ → Type 0) (ks : List (List ℕ)) (x : List ℕ) (ls : List (List ℕ)) → AllByRecursion P (ks ++ x ∷ ls) → P x
holds_of P [] x ls h = h.0
holds_of P (k ∷ ks) x ls h = holds_of P ks x ls h.1

-- a name after the others is new
pub is_new : (q : Props) (x : List ℕ) (ks : List (List ℕ)) → IsDistinct bytes_eq (keys_of q ++ x ∷ ks) → own_property q x ≡ None
unfolding IsDistinct
is_new [] x ks h = refl
is_new (e ∷ es) x ks h = rw (flipped e.0 x (holds_of (λ y. bytes_eq e.0 y ≡ false) (keys_of es) x ks h.0)) (is_new es x ks h.1)

-- the name joins those before
pub one_more : (q : Props) (x : List ℕ) (p : Prop) (ks : List (List ℕ)) → keys_of (q ++ (x, p) ∷ []) ++ ks ≡ keys_of q ++ x ∷ ks
one_more [] x p ks = refl
one_more (e ∷ es) x p ks = ap (λ l. e.0 ∷ l) (one_more es x p ks)

pub distinct_next : (q : Props) (x : List ℕ) (p : Prop) (ks : List (List ℕ)) → IsDistinct bytes_eq (keys_of q ++ x ∷ ks)
    → IsDistinct bytes_eq (keys_of (q ++ (x, p) ∷ []) ++ ks)
distinct_next q x p ks h = subst (IsDistinct bytes_eq) (sym (one_more q x p ks)) h

pub distinct_first : (x : List ℕ) (ks : List (List ℕ)) → IsDistinct bytes_eq (x ∷ ks) → AllByRecursion (λ y. bytes_eq x y ≡ false) ks
unfolding IsDistinct
distinct_first x ks h = h.0

pub distinct_rest : (x : List ℕ) (ks : List (List ℕ)) → IsDistinct bytes_eq (x ∷ ks) → IsDistinct bytes_eq ks
unfolding IsDistinct
distinct_rest x ks h = h.1

-- the one that follows a list is not its first
pub apart_from_first : (x : List ℕ) (ks : List (List ℕ)) (y : List ℕ) (ls : List (List ℕ)) → IsDistinct bytes_eq (x ∷ (ks ++ y ∷ ls)) → bytes_eq x y
    ≡ false
apart_from_first x ks y ls h = holds_of (λ z. bytes_eq x z ≡ false) ks y ls (distinct_first x (ks ++ y ∷ ls) h)

-- ---- what is defined of properties none of which has the name of one that was made

pub skip_length : (b : Bool) (at : ObjId) (es : Props) → AllByRecursion (λ y. bytes_eq length_name y ≡ false) (keys_of es) → defines true b at es
    ≡ defines false b at es
skip_length b at [] h = refl
skip_length b at (e ∷ es) h = rw (flipped length_name e.0 h.0) (ap (λ (l : List Rebuild). define false b at e.0 e.1 ++ l) (skip_length b at es h.1))

pub skip_prototype : (at : ObjId) (es : Props) → AllByRecursion (λ y. bytes_eq prototype_name y ≡ false) (keys_of es) → defines false true at es
    ≡ defines false false at es
skip_prototype at [] h = refl
skip_prototype at (e ∷ es) h =
    rw (flipped prototype_name e.0 h.0) (ap (λ (l : List Rebuild). define false false at e.0 e.1 ++ l) (skip_prototype at es h.1))
