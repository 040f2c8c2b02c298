-- Where a page's text is cut, its units and its bytes are.
use Rattle.std.proofs.Common.{◌≡◌, ◌∙◌, ℕ, ◌+◌, ◌-◌, ◌/◌, ◌%◌, ◌<◌, ◌≤◌, ◌==◌, ◌&&◌, ◌⊎◌, inl, inr, Bool, true, false, cond, List, [], ◌∷◌, ◌++◌, length, refl, sym, ap, nat_lt, arith}
use Rattle.std.proofs.lemmas.Bool.Decides.{nat_tests}
use Rattle.std.proofs.lemmas.Grind.{flat_map-append}
use Rattle.std.proofs.lemmas.Str.{chars-append, chars-encodes, encodes-append, encodes-chars, scalars-chars}
use Rattle.std.specs.Char.Escape.{encode_utf16}
use Rattle.std.specs.List.{flat_map}
use Rattle.std.specs.Str.{IsUtf8, chars}
use Rattle.std.proofs.Math.Utf8.{encode, encodes, scalar, scalars}
use Rattle.std.proofs.lemmas.Bool.{and_parts}
use Rattle.std.proofs.Math.Bool.{and-false}
use Rattle.js_core.specs.Text.{Text, utf16_of}
use Rattle.page_reader.specs.Text.{begins_with_line_feed, bytes_before, is_half, less_unit, line_feed, size_of, unit_size, units_behind, with_line_feeds}
use Rattle.page_reader.proofs.Passing.{behind_none, bytes_none, not_zero}
use Rattle.page_reader.proofs.Sizes.{bytes_size}

pub same_unit : (u k : ℕ) → (u == k) ≡ true → u ≡ k
same_unit u k e = grind (arith, nat_tests)

-- Units

pub record CutUnits (us a b : Text) : Type 0 where
  pub front : Text
  pub rest : Text
  pub whole : us ≡ front ++ rest
  pub front_is : with_line_feeds front ≡ a
  pub rest_is : with_line_feeds rest ≡ b
  pub size : size_of front ≡ bytes_before us (length a)
  pub behind : units_behind us (length a) ≡ rest

half_front : (u : ℕ) (front rest : Text) (x : ℕ) (a : Text) → with_line_feeds front ≡ x ∷ a → is_half u (front ++ rest) ≡ true → is_half u front ≡ true
half_front u [] rest x a e h = absurd (cc)
half_front u (v ∷ front) rest x a e h = h

pub no_half : (u : ℕ) → is_half u [] ≡ false
no_half u = and-false (u == 13)

whole_front : (u : ℕ) (front rest : Text) → is_half u (front ++ rest) ≡ false → is_half u front ≡ false
whole_front u [] rest h = no_half u
whole_front u (v ∷ front) rest h = h

step_half : (u : ℕ) (us : Text) (n : ℕ) → 0 < n → is_half u us ≡ true → (bytes_before (u ∷ us) n ≡ unit_size u + bytes_before us n) × (units_behind (u ∷ us) n ≡ units_behind us n)
step_half u us n s h =
    let z = not_zero n s in
    let l : less_unit u us n ≡ n = ap (λ b. cond b n (n - 1)) h in
    (ap (λ b. cond b 0 (unit_size u + bytes_before us (less_unit u us n))) z ∙ ap (λ k. unit_size u + bytes_before us k) l, ap (λ b. cond b (u ∷ us) (units_behind us (less_unit u us n))) z ∙ ap (units_behind us) l)

pub step_whole : (u : ℕ) (us : Text) (n m : ℕ) → n ≡ m + 1 → is_half u us ≡ false → (bytes_before (u ∷ us) n ≡ unit_size u + bytes_before us m) × (units_behind (u ∷ us) n ≡ units_behind us m)
step_whole u us n m e h =
    let z = not_zero n (omega (arith, e)) in
    let l : less_unit u us n ≡ m = ap (λ b. cond b n (n - 1)) h ∙ omega (arith, e) in
    (ap (λ b. cond b 0 (unit_size u + bytes_before us (less_unit u us n))) z ∙ ap (λ k. unit_size u + bytes_before us k) l, ap (λ b. cond b (u ∷ us) (units_behind us (less_unit u us n))) z ∙ ap (units_behind us) l)

pub feeds_half : (u : ℕ) (us : Text) → is_half u us ≡ true → with_line_feeds (u ∷ us) ≡ with_line_feeds us
feeds_half u us h = ap (λ b. cond b (with_line_feeds us) (line_feed u ∷ with_line_feeds us)) h

pub feeds_whole : (u : ℕ) (us : Text) → is_half u us ≡ false → with_line_feeds (u ∷ us) ≡ line_feed u ∷ with_line_feeds us
feeds_whole u us h = ap (λ b. cond b (with_line_feeds us) (line_feed u ∷ with_line_feeds us)) h

pub cut_units : (us a b : Text) → with_line_feeds us ≡ a ++ b → CutUnits us a b
cut_units us [] b e = record { front = []; rest = us; whole = refl; front_is = refl; rest_is = e; size = sym (bytes_none us 0 refl); behind = behind_none us 0 refl }
cut_units [] (x ∷ a) b e = absurd (cc)
cut_units (u ∷ us) (x ∷ a) b e = by_half (is_half u us) refl (λ f. cut_units us (x ∷ a) b f) (λ f. cut_units us a b f)
  where
    by_half : (h : Bool) → is_half u us ≡ h → (with_line_feeds us ≡ (x ∷ a) ++ b → CutUnits us (x ∷ a) b) → (with_line_feeds us ≡ a ++ b → CutUnits us a b) → CutUnits (u ∷ us) (x ∷ a) b
    by_half true h half full =
        let c = half (sym (feeds_half u us h) ∙ e) in
        let k = half_front u c.front c.rest x a c.front_is (sym (ap (is_half u) c.whole) ∙ h) in
        let n = length (x ∷ a) in
        let s = step_half u us (length (x ∷ a)) (omega arith) h in
        record {
          front = u ∷ c.front;
          rest = c.rest;
          whole = ap (λ z. u ∷ z) c.whole;
          front_is = feeds_half u c.front k ∙ c.front_is;
          rest_is = c.rest_is;
          size = ap (λ z. unit_size u + z) c.size ∙ sym s.0;
          behind = s.1 ∙ c.behind;
        }
    by_half false h half full =
        let f : line_feed u ∷ with_line_feeds us ≡ x ∷ (a ++ b) = sym (feeds_whole u us h) ∙ e in
        let first : line_feed u ≡ x = cc in
        let others : with_line_feeds us ≡ a ++ b = cc in
        let c = full others in
        let k = whole_front u c.front c.rest (sym (ap (is_half u) c.whole) ∙ h) in
        let s = step_whole u us (length (x ∷ a)) (length a) (omega arith) h in
        record {
          front = u ∷ c.front;
          rest = c.rest;
          whole = ap (λ z. u ∷ z) c.whole;
          front_is = feeds_whole u c.front k ∙ ap (λ z. z ∷ with_line_feeds c.front) first ∙ ap (λ z. x ∷ z) c.front_is;
          rest_is = c.rest_is;
          size = ap (λ z. unit_size u + z) c.size ∙ sym s.0;
          behind = s.1 ∙ c.behind;
        }

-- a text that is read as one that begins with another unit than LF begins with it
pub first_unit : (us t : Text) (x : ℕ) → (x ≡ 10 → ⊥) → with_line_feeds us ≡ x ∷ t → (more : Text) × (us ≡ x ∷ more) × (with_line_feeds more ≡ t)
first_unit [] t x n e = absurd (cc)
first_unit (u ∷ us) t x n e = by_half (is_half u us) refl (u == 13) refl
  where
    is_thirteen : (u == 13) ≡ true → line_feed u ≡ 10
    is_thirteen f = ap (λ b. cond b 10 u) f

    is_other : (u == 13) ≡ false → line_feed u ≡ u
    is_other f = ap (λ b. cond b 10 u) f

    feeds_ten : (vs : Text) → begins_with_line_feed vs ≡ true → (r : Text) × (with_line_feeds vs ≡ 10 ∷ r)
    feeds_ten [] g = absurd (cc)
    feeds_ten (v ∷ vs) g =
        let is : v ≡ 10 = same_unit v 10 g in
        let no : is_half v vs ≡ false = ap (λ z. (z == 13) && begins_with_line_feed vs) is in
        (with_line_feeds vs, feeds_whole v vs no ∙ ap (λ z. line_feed z ∷ with_line_feeds vs) is)

    by_half : (h : Bool) → is_half u us ≡ h → (c : Bool) → (u == 13) ≡ c → (more : Text) × (u ∷ us ≡ x ∷ more) × (with_line_feeds more ≡ t)
    by_half true h c k =
        let r = feeds_ten us (and_parts (u == 13) (begins_with_line_feed us) h).1 in
        let z : 10 ∷ r.0 ≡ x ∷ t = sym r.1 ∙ sym (feeds_half u us h) ∙ e in
        let y : 10 ≡ x = cc in
        absurd (n (sym y))
    by_half false h true k =
        let z : 10 ∷ with_line_feeds us ≡ x ∷ t = sym (ap (λ w. w ∷ with_line_feeds us) (is_thirteen k)) ∙ sym (feeds_whole u us h) ∙ e in
        let y : 10 ≡ x = cc in
        absurd (n (sym y))
    by_half false h false k =
        let z : u ∷ with_line_feeds us ≡ x ∷ t = sym (ap (λ w. w ∷ with_line_feeds us) (is_other k)) ∙ sym (feeds_whole u us h) ∙ e in
        let y : u ≡ x = cc in
        let w : with_line_feeds us ≡ t = cc in
        (us, ap (λ v. v ∷ us) y, w)

-- Characters

-- no half of a surrogate pair
abbrev pub IsPlain : ℕ → Type 0
IsPlain x = (x < 55296) ⊎ (57344 ≤ x)

not_plain : (x : ℕ) → 55296 ≤ x → x < 57344 → IsPlain x → ⊥
not_plain x l h (inl a) = absurd (omega (arith, l, a))
not_plain x l h (inr a) = absurd (omega (arith, h, a))

one_unit : (c : ℕ) → nat_lt c 65536 ≡ true → encode_utf16 c ≡ c ∷ []
one_unit c e = rw e refl

two_units : (c : ℕ) → nat_lt c 65536 ≡ false → encode_utf16 c ≡ (55296 + (c - 65536) / 1024) ∷ (56320 + (c - 65536) % 1024) ∷ []
two_units c e = rw e refl

large : (c : ℕ) → nat_lt c 65536 ≡ false → 65536 ≤ c
large c e = grind (arith, nat_tests)

scalar_high : (c : ℕ) → scalar c ≡ true → c < 1114112
scalar_high c e = grind (arith, nat_tests)

-- the characters of units that begin with a plain one
pub first_char : (cs : List ℕ) (x : ℕ) (t : Text) → scalars cs ≡ true → IsPlain x → flat_map encode_utf16 cs ≡ x ∷ t → (more : List ℕ) × (cs ≡ x ∷ more) × (flat_map encode_utf16 more ≡ t)
first_char [] x t s p e = absurd (cc)
first_char (c ∷ cs) x t s p e = by_size (nat_lt c 65536) refl
  where
    by_size : (b : Bool) → nat_lt c 65536 ≡ b → (more : List ℕ) × (c ∷ cs ≡ x ∷ more) × (flat_map encode_utf16 more ≡ t)
    by_size true f =
        let z : c ∷ flat_map encode_utf16 cs ≡ x ∷ t = sym (ap (λ y. y ++ flat_map encode_utf16 cs) (one_unit c f)) ∙ e in
        let one : c ≡ x = cc in
        let two : flat_map encode_utf16 cs ≡ t = cc in
        (cs, ap (λ y. y ∷ cs) one, two)
    by_size false f =
        let z : (55296 + (c - 65536) / 1024) ∷ (56320 + (c - 65536) % 1024) ∷ flat_map encode_utf16 cs ≡ x ∷ t = sym (ap (λ y. y ++ flat_map encode_utf16 cs) (two_units c f)) ∙ e in
        let one : 55296 + (c - 65536) / 1024 ≡ x = cc in
        let high = scalar_high c (and_parts (scalar c) (scalars cs) s).0 in
        let low = large c f in
        absurd (not_plain x (omega (arith, one)) (omega (arith, one, high, low)) p)

pub record CutChars (cs : List ℕ) (a b : Text) : Type 0 where
  pub front : List ℕ
  pub rest : List ℕ
  pub whole : cs ≡ front ++ rest
  pub front_is : flat_map encode_utf16 front ≡ a
  pub rest_is : flat_map encode_utf16 rest ≡ b

pub cut_chars : (cs : List ℕ) (a b : Text) (x : ℕ) (t : Text) → b ≡ x ∷ t → IsPlain x → flat_map encode_utf16 cs ≡ a ++ b → CutChars cs a b
cut_chars cs [] b x t f p e = record { front = []; rest = cs; whole = refl; front_is = refl; rest_is = e }
cut_chars [] (u ∷ a) b x t f p e = absurd (cc)
cut_chars (c ∷ cs) (u ∷ []) b x t f p e = by_size (nat_lt c 65536) refl (λ g. cut_chars cs [] b x t f p g)
  where
    by_size : (h : Bool) → nat_lt c 65536 ≡ h → (flat_map encode_utf16 cs ≡ [] ++ b → CutChars cs [] b) → CutChars (c ∷ cs) (u ∷ []) b
    by_size true k step =
        let z : c ∷ flat_map encode_utf16 cs ≡ u ∷ b = sym (ap (λ y. y ++ flat_map encode_utf16 cs) (one_unit c k)) ∙ e in
        let one : c ≡ u = cc in
        let two : flat_map encode_utf16 cs ≡ b = cc in
        let w = step two in
        record { front = c ∷ w.front; rest = w.rest; whole = ap (λ y. c ∷ y) w.whole; front_is = ap (λ y. y ++ flat_map encode_utf16 w.front) (one_unit c k) ∙ ap (λ y. y ∷ flat_map encode_utf16 w.front) one ∙ ap (λ y. u ∷ y) w.front_is; rest_is = w.rest_is }
    by_size false k step =
        let z : (55296 + (c - 65536) / 1024) ∷ (56320 + (c - 65536) % 1024) ∷ flat_map encode_utf16 cs ≡ u ∷ x ∷ t = sym (ap (λ y. y ++ flat_map encode_utf16 cs) (two_units c k)) ∙ e ∙ ap (λ y. u ∷ y) f in
        let one : 56320 + (c - 65536) % 1024 ≡ x = cc in
        absurd (not_plain x (omega (arith, one)) (omega (arith, one)) p)
cut_chars (c ∷ cs) (u ∷ v ∷ a) b x t f p e = by_size (nat_lt c 65536) refl (λ g. cut_chars cs (v ∷ a) b x t f p g) (λ g. cut_chars cs a b x t f p g)
  where
    by_size : (h : Bool) → nat_lt c 65536 ≡ h → (flat_map encode_utf16 cs ≡ (v ∷ a) ++ b → CutChars cs (v ∷ a) b) → (flat_map encode_utf16 cs ≡ a ++ b → CutChars cs a b) → CutChars (c ∷ cs) (u ∷ v ∷ a) b
    by_size true k step pair =
        let z : c ∷ flat_map encode_utf16 cs ≡ u ∷ v ∷ (a ++ b) = sym (ap (λ y. y ++ flat_map encode_utf16 cs) (one_unit c k)) ∙ e in
        let one : c ≡ u = cc in
        let two : flat_map encode_utf16 cs ≡ v ∷ (a ++ b) = cc in
        let w = step two in
        record { front = c ∷ w.front; rest = w.rest; whole = ap (λ y. c ∷ y) w.whole; front_is = ap (λ y. y ++ flat_map encode_utf16 w.front) (one_unit c k) ∙ ap (λ y. y ∷ flat_map encode_utf16 w.front) one ∙ ap (λ y. u ∷ y) w.front_is; rest_is = w.rest_is }
    by_size false k step pair =
        let hi : ℕ = 55296 + (c - 65536) / 1024 in
        let lo : ℕ = 56320 + (c - 65536) % 1024 in
        let z : hi ∷ lo ∷ flat_map encode_utf16 cs ≡ u ∷ v ∷ (a ++ b) = sym (ap (λ y. y ++ flat_map encode_utf16 cs) (two_units c k)) ∙ e in
        let one : hi ≡ u = cc in
        let other : lo ≡ v = cc in
        let two : flat_map encode_utf16 cs ≡ a ++ b = cc in
        let w = pair two in
        record { front = c ∷ w.front; rest = w.rest; whole = ap (λ y. c ∷ y) w.whole; front_is = ap (λ y. y ++ flat_map encode_utf16 w.front) (two_units c k) ∙ ap (λ y. y ∷ lo ∷ flat_map encode_utf16 w.front) one ∙ ap (λ y. u ∷ y ∷ flat_map encode_utf16 w.front) other ∙ ap (λ y. u ∷ v ∷ y) w.front_is; rest_is = w.rest_is }

-- Bytes

scalars_parts : (a b : List ℕ) → scalars (a ++ b) ≡ true → (scalars a ≡ true) × (scalars b ≡ true)
scalars_parts [] b e = (refl, e)
scalars_parts (c ∷ a) b e = let p = and_parts (scalar c) (scalars (a ++ b)) e in let q = scalars_parts a b p.1 in (ap (λ x. x && scalars a) p.0 ∙ q.0, q.1)

pub units_of : (cs : List ℕ) → scalars cs ≡ true → utf16_of (encodes cs) ≡ flat_map encode_utf16 cs
units_of cs s = ap (flat_map encode_utf16) (chars-encodes cs s)

utf8_of : (cs : List ℕ) → scalars cs ≡ true → IsUtf8 (encodes cs)
utf8_of cs s = (cs, (s, refl))

pub record CutBytes (bs : List ℕ) (a b : Text) : Type 0 where
  pub front : List ℕ
  pub rest : List ℕ
  pub whole : bs ≡ front ++ rest
  pub front_utf8 : IsUtf8 front
  pub rest_utf8 : IsUtf8 rest
  pub front_is : utf16_of front ≡ a
  pub rest_is : utf16_of rest ≡ b
  pub size : length front ≡ size_of a

pub cut_bytes : (bs : List ℕ) (a b : Text) (x : ℕ) (t : Text) → IsUtf8 bs → b ≡ x ∷ t → IsPlain x → utf16_of bs ≡ a ++ b → CutBytes bs a b
cut_bytes bs a b x t u f p e =
    let c = cut_chars (chars bs) a b x t f p e in
    let s = scalars_parts c.front c.rest (sym (ap scalars c.whole) ∙ scalars-chars bs u) in
    let utf8 = utf8_of c.front s.0 in
    let front_is = units_of c.front s.0 ∙ c.front_is in
    record {
      front = encodes c.front;
      rest = encodes c.rest;
      whole = sym (encodes-chars bs u) ∙ ap encodes c.whole ∙ encodes-append c.front c.rest;
      front_utf8 = utf8;
      rest_utf8 = utf8_of c.rest s.1;
      front_is = front_is;
      rest_is = units_of c.rest s.1 ∙ c.rest_is;
      size = sym (bytes_size (encodes c.front) utf8) ∙ ap size_of front_is;
    }

pub record FirstBytes (bs : List ℕ) (x : ℕ) (t : Text) : Type 0 where
  pub rest : List ℕ
  pub whole : bs ≡ encode x ++ rest
  pub is_scalar : scalar x ≡ true
  pub utf8 : IsUtf8 rest
  pub rest_is : utf16_of rest ≡ t

pub first_bytes : (bs : List ℕ) (x : ℕ) (t : Text) → IsUtf8 bs → IsPlain x → utf16_of bs ≡ x ∷ t → FirstBytes bs x t
first_bytes bs x t u p e =
    let all = scalars-chars bs u in
    let c = first_char (chars bs) x t all p e in
    let s = and_parts (scalar x) (scalars c.0) (sym (ap scalars c.1) ∙ all) in
    record {
      rest = encodes c.0;
      whole = sym (encodes-chars bs u) ∙ ap encodes c.1;
      is_scalar = s.0;
      utf8 = utf8_of c.0 s.1;
      rest_is = units_of c.0 s.1 ∙ c.2;
    }

pub units_append : (a b : List ℕ) → IsUtf8 a → utf16_of (a ++ b) ≡ utf16_of a ++ utf16_of b
units_append a b u = ap (flat_map encode_utf16) (chars-append a b u) ∙ flat_map-append encode_utf16 (chars a) (chars b)
