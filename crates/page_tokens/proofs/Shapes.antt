-- What a text opens with, by its first units.
use Rattle.std.proofs.Common.{◌≡◌, ◌∙◌, ℕ, ◌≤◌, ◌==◌, Bool, true, false, cond, List, [], ◌∷◌, ◌++◌, take, drop, length, refl, sym, ap, subst, arith, codes}
use Rattle.std.proofs.lemmas.List.{length-take-le, take-append-drop}
use Rattle.std.proofs.Math.Seq.{drop-append_seam}
use Rattle.std.specs.Char.{to_ascii_lowercase}
use Rattle.std.proofs.lemmas.Bool.{and_parts}
use Rattle.page_tokens.specs.declared.opening.Opening.{Opening}
use Rattle.page_tokens.specs.declared.opening.Opening.TheVariants.{Characters, Comment, Doctype, EndTag, Nothing, StartTag}
use Rattle.page_tokens.specs.Characters.{is_front, is_front_in_any_case, is_letter}
use Rattle.page_tokens.specs.Tags.{declaration, markup, opening_of}
use Rattle.page_tokens.proofs.RawStay.{any_case_local, front_is, front_local}
use Rattle.page_tokens.proofs.Runs.{same_unit}

pub data Shape (us : List ℕ) : Opening → Type 0 where
  starts : (u : ℕ) (t : List ℕ) → us ≡ 60 ∷ u ∷ t → is_letter u ≡ true → Shape us StartTag
  ends : (t : List ℕ) → us ≡ 60 ∷ 47 ∷ t → Shape us EndTag
  comments : (t : List ℕ) → us ≡ 60 ∷ 33 ∷ t → is_front (codes "--") t ≡ true → Shape us Comment
  declares : (t : List ℕ) → us ≡ 60 ∷ 33 ∷ t → is_front (codes "--") t ≡ false → is_front_in_any_case (codes "doctype") t ≡ true → Shape us Doctype
  plain : (u : ℕ) (t : List ℕ) → us ≡ u ∷ t → (u == 60) ≡ false → Shape us Characters
  none : Shape us Nothing

opening_is : (u : ℕ) (t : List ℕ) → opening_of (u ∷ t) ≡ cond (u == 60) (markup t) Characters
unfolding opening_of
opening_is u t = refl

opening_none : opening_of [] ≡ Nothing
unfolding opening_of
opening_none = refl

pub shape_of : (us : List ℕ) → Shape us (opening_of us)
shape_of [] = rw opening_none none
shape_of (u ∷ t) = subst (Shape (u ∷ t)) (sym (opening_is u t)) (by_unit (u == 60) refl t)
  where
    declared : (v : ℕ) (t : List ℕ) → u ≡ 60 → v ≡ 33 → (d f : Bool) → is_front (codes "--") t ≡ d → is_front_in_any_case (codes "doctype") t ≡ f → Shape (u ∷ v ∷ t) (cond d Comment (cond f Doctype Nothing))
    declared v t e g true f h k = comments t (ap (λ x. x ∷ v ∷ t) e ∙ ap (λ x. 60 ∷ x ∷ t) g) h
    declared v t e g false true h k = declares t (ap (λ x. x ∷ v ∷ t) e ∙ ap (λ x. 60 ∷ x ∷ t) g) h k
    declared v t e g false false h k = none

    marked : (v : ℕ) (t : List ℕ) → u ≡ 60 → (a b c : Bool) → is_letter v ≡ a → (v == 47) ≡ b → (v == 33) ≡ c → Shape (u ∷ v ∷ t) (cond a StartTag (cond b EndTag (cond c (declaration t) Nothing)))
    marked v t e true b c f g h = starts v t (ap (λ x. x ∷ v ∷ t) e) f
    marked v t e false true c f g h = ends t (ap (λ x. x ∷ v ∷ t) e ∙ ap (λ x. 60 ∷ x ∷ t) (same_unit v 47 g))
    marked v t e false false true f g h = declared v t e (same_unit v 33 h) (is_front (codes "--") t) (is_front_in_any_case (codes "doctype") t) refl refl
    marked v t e false false false f g h = none

    by_second : (t : List ℕ) → u ≡ 60 → Shape (u ∷ t) (markup t)
    by_second [] e = none
    by_second (v ∷ t) e = marked v t e (is_letter v) (v == 47) (v == 33) refl refl refl

    by_unit : (b : Bool) → (u == 60) ≡ b → (t : List ℕ) → Shape (u ∷ t) (cond b (markup t) Characters)
    by_unit true e t = by_second t (same_unit u 60 e)
    by_unit false e t = plain u t refl e

-- Texts that open alike

pub opens_start : (u : ℕ) (t : List ℕ) → is_letter u ≡ true → opening_of (60 ∷ u ∷ t) ≡ StartTag
opens_start u t e = opening_is 60 (u ∷ t) ∙ ap (λ b. cond b StartTag (cond (u == 47) EndTag (cond (u == 33) (declaration t) Nothing))) e

pub opens_end : (t : List ℕ) → opening_of (60 ∷ 47 ∷ t) ≡ EndTag
opens_end t = opening_is 60 (47 ∷ t)

pub opens_comment : (t : List ℕ) → opening_of (60 ∷ 33 ∷ 45 ∷ 45 ∷ t) ≡ Comment
opens_comment t = opening_is 60 (33 ∷ 45 ∷ 45 ∷ t)

pub opens_doctype : (t : List ℕ) → is_front (codes "--") t ≡ false → is_front_in_any_case (codes "doctype") t ≡ true → opening_of (60 ∷ 33 ∷ t) ≡ Doctype
opens_doctype t e f =
    opening_is 60 (33 ∷ t) ∙ ap (λ b. cond b Comment (cond (is_front_in_any_case (codes "doctype") t) Doctype Nothing)) e ∙ ap (λ b. cond b Doctype Nothing) f

pub opens_characters : (u : ℕ) (t : List ℕ) → (u == 60) ≡ false → opening_of (u ∷ t) ≡ Characters
opens_characters u t e = opening_is u t ∙ ap (λ b. cond b (markup t) Characters) e

-- Texts that open with a class

pub record AtStart (us : List ℕ) : Type 0 where
  pub unit : ℕ
  pub tail : List ℕ
  pub is : us ≡ 60 ∷ unit ∷ tail
  pub letter : is_letter unit ≡ true

at_start : (us : List ℕ) (o : Opening) → Shape us o → o ≡ StartTag → AtStart us
at_start us o (starts u t e f) g = record { unit = u; tail = t; is = e; letter = f }
at_start us o (ends t e) g = absurd (cc)
at_start us o (comments t e f) g = absurd (cc)
at_start us o (declares t e f h) g = absurd (cc)
at_start us o (plain u t e f) g = absurd (cc)
at_start us o none g = absurd (cc)

pub start_shape : (us : List ℕ) → opening_of us ≡ StartTag → AtStart us
start_shape us e = at_start us (opening_of us) (shape_of us) e

at_end : (us : List ℕ) (o : Opening) → Shape us o → o ≡ EndTag → (t : List ℕ) × (us ≡ 60 ∷ 47 ∷ t)
at_end us o (starts u t e f) g = absurd (cc)
at_end us o (ends t e) g = (t, e)
at_end us o (comments t e f) g = absurd (cc)
at_end us o (declares t e f h) g = absurd (cc)
at_end us o (plain u t e f) g = absurd (cc)
at_end us o none g = absurd (cc)

pub end_shape : (us : List ℕ) → opening_of us ≡ EndTag → (t : List ℕ) × (us ≡ 60 ∷ 47 ∷ t)
end_shape us e = at_end us (opening_of us) (shape_of us) e

at_comment : (us : List ℕ) (o : Opening) → Shape us o → o ≡ Comment → (t : List ℕ) × (us ≡ 60 ∷ 33 ∷ 45 ∷ 45 ∷ t)
at_comment us o (starts u t e f) g = absurd (cc)
at_comment us o (ends t e) g = absurd (cc)
at_comment us o (comments t e f) g = let p = front_is (codes "--") t f in (p.0, e ∙ ap (λ x. 60 ∷ 33 ∷ x) p.1)
at_comment us o (declares t e f h) g = absurd (cc)
at_comment us o (plain u t e f) g = absurd (cc)
at_comment us o none g = absurd (cc)

pub comment_shape : (us : List ℕ) → opening_of us ≡ Comment → (t : List ℕ) × (us ≡ 60 ∷ 33 ∷ 45 ∷ 45 ∷ t)
comment_shape us e = at_comment us (opening_of us) (shape_of us) e

any_case_len : (cs us : List ℕ) → is_front_in_any_case cs us ≡ true → length cs ≤ length us
any_case_len [] us e = omega arith
any_case_len (c ∷ cs) [] e = absurd (cc)
any_case_len (c ∷ cs) (u ∷ us) e = let p = and_parts (to_ascii_lowercase u == c) (is_front_in_any_case cs us) e in let l = any_case_len cs us p.1 in omega (arith, l)

-- a doctype opens with nine units, whatever stands behind them
pub record AtDoctype (us : List ℕ) : Type 0 where
  pub word : List ℕ
  pub tail : List ℕ
  pub is : us ≡ 60 ∷ 33 ∷ (word ++ tail)
  pub behind : drop 9 us ≡ tail
  pub again : (more : List ℕ) → (opening_of (60 ∷ 33 ∷ (word ++ more)) ≡ Doctype) × (drop 9 (60 ∷ 33 ∷ (word ++ more)) ≡ more)

drop_word : (word more : List ℕ) → length word ≡ 7 → drop 9 (60 ∷ 33 ∷ (word ++ more)) ≡ more
drop_word word more e = ap (λ k. drop k (word ++ more)) (sym e) ∙ drop-append_seam word more

doctype_at : (us t : List ℕ) → us ≡ 60 ∷ 33 ∷ t → is_front (codes "--") t ≡ false → is_front_in_any_case (codes "doctype") t ≡ true → AtDoctype us
doctype_at us t e f g =
    let long : 7 ≤ length t = any_case_len (codes "doctype") t g in
    by_word (take 7 t) (drop 7 t) (sym (take-append-drop 7 t)) (length-take-le 7 t long)
  where
    by_word : (word tail : List ℕ) → t ≡ word ++ tail → length word ≡ 7 → AtDoctype us
    by_word word tail w l = record {
      word = word;
      tail = tail;
      is = e ∙ ap (λ x. 60 ∷ 33 ∷ x) w;
      behind = ap (drop 9) (e ∙ ap (λ x. 60 ∷ 33 ∷ x) w) ∙ drop_word word tail l;
      again = λ more. (opens_doctype (word ++ more) (front_local (codes "--") word more tail (omega (arith, l)) ∙ sym (ap (is_front (codes "--")) w) ∙ f) (any_case_local (codes "doctype") word more tail (omega (arith, l)) ∙ sym (ap (is_front_in_any_case (codes "doctype")) w) ∙ g), drop_word word more l);
    }

at_doctype : (us : List ℕ) (o : Opening) → Shape us o → o ≡ Doctype → AtDoctype us
at_doctype us o (starts u t e f) g = absurd (cc)
at_doctype us o (ends t e) g = absurd (cc)
at_doctype us o (comments t e f) g = absurd (cc)
at_doctype us o (declares t e f h) g = doctype_at us t e f h
at_doctype us o (plain u t e f) g = absurd (cc)
at_doctype us o none g = absurd (cc)

pub doctype_shape : (us : List ℕ) → opening_of us ≡ Doctype → AtDoctype us
doctype_shape us e = at_doctype us (opening_of us) (shape_of us) e

pub record AtCharacters (us : List ℕ) : Type 0 where
  pub unit : ℕ
  pub tail : List ℕ
  pub is : us ≡ unit ∷ tail
  pub other : (unit == 60) ≡ false

at_characters : (us : List ℕ) (o : Opening) → Shape us o → o ≡ Characters → AtCharacters us
at_characters us o (starts u t e f) g = absurd (cc)
at_characters us o (ends t e) g = absurd (cc)
at_characters us o (comments t e f) g = absurd (cc)
at_characters us o (declares t e f h) g = absurd (cc)
at_characters us o (plain u t e f) g = record { unit = u; tail = t; is = e; other = f }
at_characters us o none g = absurd (cc)

pub characters_shape : (us : List ℕ) → opening_of us ≡ Characters → AtCharacters us
characters_shape us e = at_characters us (opening_of us) (shape_of us) e
