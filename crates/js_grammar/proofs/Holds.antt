-- What is read has a property.
use Rattle.std.proofs.Common.{◌≡◌, ℕ, zero, suc, ◌<◌, ◌≤◌, Bool, true, false, List, [], ◌∷◌, length, Option, Some, None, refl, subst, ap, arith}
use Rattle.std.specs.Prelude.{if◌then◌else◌, nat_le}
use Rattle.js_grammar.specs.declared.sign.Sign.{Sign}
use Rattle.js_grammar.specs.Symbols.{Symbol, sign, identifier, unused, number, text, Lexeme, sign_of, sign_at}
use Rattle.js_grammar.specs.Parser.{Parser, Outcome, and_then, tail, sees, expect, eat, taken, taken_by, within_limit, repeat}
use Rattle.js_grammar.proofs.Signs.{sign_is}
use Rattle.js_grammar.proofs.Steps.{true_le}

pub data Holds {A : Type 0} (P : A → List Lexeme → Type 0) : Outcome A → Type 0 where
  ok : {a : A} {z : List Lexeme} → P a z → Holds P (Some (a, z))
  err : Holds P None

pub then_holds : {A B : Type 0} {P : A → List Lexeme → Type 0} {Q : B → List Lexeme → Type 0} {r : Outcome A} (f : A → Parser B) → Holds P r → ((a : A) (y : List Lexeme) → P a y → Holds Q (f a y)) → Holds Q (and_then r f)
then_holds f (ok h) k = k _ _ h
then_holds f err k = err

pub same_some : {A : Type 0} (p q : A × List Lexeme) → ◌≡◌ {A = Outcome A} (Some p) (Some q) → p ≡ q
same_some p q e = cc

pub holds_of : {A : Type 0} (P : A → List Lexeme → Type 0) {r : Outcome A} (a : A) (z : List Lexeme) → Holds P r → r ≡ Some (a, z) → P a z
holds_of P a z (ok {a = b} {z = y} h) e = subst (λ q. P q.0 q.1) (same_some _ _ e) h
holds_of P a z err e = absurd (cc)

pub either_holds : {A : Type 0} {P : A → List Lexeme → Type 0} {r q : Outcome A} (b : Bool) → (b ≡ true → Holds P r) → (b ≡ false → Holds P q) → Holds P (if b then r else q)
either_holds true f g = f refl
either_holds false f g = g refl

pub held : {A : Type 0} {P Q : A → List Lexeme → Type 0} {r : Outcome A} → ((a : A) (z : List Lexeme) → P a z → Q a z) → Holds P r → Holds Q r
held f (ok h) = ok (f _ _ h)
held f err = err

-- ---- the next lexeme

signed_by : (s : Symbol) (l : Bool) (ts : List Lexeme) (m : Sign) → sign_of s ≡ Some m → (b : Bool) × ((s, l) ∷ ts ≡ (sign m, b) ∷ ts)
signed_by (sign n) l ts m e = let same : n ≡ m = cc in (l, ap (λ k. (sign k, l) ∷ ts) same)
signed_by (identifier w) l ts m e = absurd (cc)
signed_by (unused w) l ts m e = absurd (cc)
signed_by (number n) l ts m e = absurd (cc)
signed_by (text t) l ts m e = absurd (cc)

pub signed : (x : List Lexeme) (m : Sign) → sign_at x ≡ Some m → (l : Bool) × (x ≡ (sign m, l) ∷ tail x)
signed [] m e = absurd (cc)
signed (t ∷ ts) m e = signed_by t.0 t.1 ts m e

pub seen : (m : Sign) (x : List Lexeme) → sees m x ≡ true → (l : Bool) × (x ≡ (sign m, l) ∷ tail x)
unfolding sees
seen m x e = signed x m (sign_is m (sign_at x) e)

pub expect_holds : (m : Sign) (x : List Lexeme) → Holds (λ u y. (l : Bool) × (x ≡ (sign m, l) ∷ y)) (expect m x)
unfolding expect
expect_holds m x = either_holds (sees m x) (λ e. ok (seen m x e)) (λ e. err)

-- what follows a test for a sign
pub eat_holds : {B : Type 0} {P : B → List Lexeme → Type 0} (m : Sign) (x : List Lexeme) (f : Bool → Parser B) → ((l : Bool) → x ≡ (sign m, l) ∷ tail x → Holds P (f true (tail x))) → (sees m x ≡ false → Holds P (f false x)) → Holds P (and_then (eat m x) f)
unfolding eat
eat_holds {P} m x f is is_not = by (sees m x) refl
  where
    by : (b : Bool) → sees m x ≡ b → Holds P (and_then (if b then Some (true, tail x) else Some (false, x)) f)
    by true e = let c = seen m x e in is c.0 c.1
    by false e = is_not e

pub taken_holds : {A : Type 0} (f : Symbol → Option A) (x : List Lexeme) → Holds (λ a z. (s : Symbol) × (l : Bool) × (x ≡ (s, l) ∷ z) × (f s ≡ Some a)) (taken f x)
unfolding taken
taken_holds f [] = err
taken_holds {A} f (t ∷ ts) = by (f t.0) refl
  where
    by : (o : Option A) → f t.0 ≡ o → Holds (λ a z. (s : Symbol) × (l : Bool) × (t ∷ ts ≡ (s, l) ∷ z) × (f s ≡ Some a)) (taken_by o ts)
    by None e = err
    by (Some a) e = ok (t.0, t.1, refl, e)

pub limit_holds : {A : Type 0} (P : A → List Lexeme → Type 0) (limit height : ℕ) (a : A) (z : List Lexeme) → (height ≤ limit → P a z) → Holds P (within_limit limit height a z)
unfolding within_limit
limit_holds P limit height a z k = either_holds (nat_le height limit) (λ e. ok (k (true_le height limit e))) (λ e. err)

-- ---- a repetition

pub repeat_holds : {A : Type 0} (g : List Lexeme → Bool) (step : A → Parser A) (P : A → List Lexeme → Type 0) → ((a : A) (x : List Lexeme) → g x ≡ true → P a x → Holds (λ b y. P b y × (length y < length x)) (step a x)) → (n : ℕ) (a : A) (x : List Lexeme) → length x ≤ n → P a x → Holds (λ b y. P b y × (g [] ≡ false → g y ≡ false)) (repeat g step n a x)
repeat_holds g step P more zero a [] le h = ok (h, λ e. e)
repeat_holds g step P more zero a (t ∷ ts) le h = absurd (omega arith)
repeat_holds g step P more (suc n) a x le h =
    either_holds (g x)
    (λ e. then_holds _ (more a x e h) (λ b y k. let lt = k.1 in repeat_holds g step P more n b y (omega arith) k.0))
    (λ e. ok (h, λ n. e))

-- ---- the next sign, by a table

pub signed_by_table : {B : Type 0} (t : Option Sign → Option B) (x : List Lexeme) (b : B) → t None ≡ None → t (sign_at x) ≡ Some b → (s : Sign) × (l : Bool) × (x ≡ (sign s, l) ∷ tail x) × (t (Some s) ≡ Some b)
signed_by_table {B} t x b n e = by (sign_at x) refl e
  where
    by : (o : Option Sign) → sign_at x ≡ o → t o ≡ Some b → (s : Sign) × (l : Bool) × (x ≡ (sign s, l) ∷ tail x) × (t (Some s) ≡ Some b)
    by None i e = absurd (cc)
    by (Some s) i e = let c = signed x s i in (s, c.0, c.1, e)
