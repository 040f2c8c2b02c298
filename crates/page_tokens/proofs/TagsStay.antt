-- The ends of tags, comments and doctypes where another text stands behind them.
use Rattle.std.proofs.Common.{◌≡◌, ◌∙◌, ℕ, ◌==◌, Bool, true, false, not, cond, List, [], ◌∷◌, ◌++◌, refl, sym, ap, Option, Some, None, append_assoc}
use Rattle.std.specs.List.{list_all}
use Rattle.dom_tree.specs.Name.{is_name_start}
use Rattle.page_tokens.specs.Attributes.{attribute_of, named}
use Rattle.page_tokens.specs.Characters.{begins_with, behind, is_other, is_space, run_of}
use Rattle.page_tokens.specs.Tags.{behind_close, behind_doctype, close, doctype_of, slash_close, tag_close, tag_end}
use Rattle.page_tokens.proofs.Pairs.{some_one, some_pair}
use Rattle.page_tokens.proofs.Runs.{IsSplit, all_but, run_again, run_split, same_unit}

-- How a start tag ends

data Closes (closed : Bool) (rest : List ℕ) : List ℕ → Type 0 where
  plain : closed ≡ false → Closes closed rest (62 ∷ rest)
  slash : closed ≡ true → Closes closed rest (47 ∷ 62 ∷ rest)

slashed : (closed : Bool) (rest t : List ℕ) → slash_close t ≡ Some (closed, rest) → Closes closed rest (47 ∷ t)
slashed closed rest [] e = absurd (cc)
slashed closed rest (v ∷ t) e = by_unit (v == 62) refl e
  where
    by_unit : (b : Bool) → (v == 62) ≡ b → cond {A = Option (Bool × List ℕ)} b (Some (true, t)) None ≡ Some (closed, rest) → Closes closed rest (47 ∷ v ∷ t)
    by_unit true x f =
        let p = some_pair true closed t rest f in
        let is = same_unit v 62 x in
        rw (is, p.1) (slash (sym p.0))
    by_unit false x f = absurd (cc)

closes : (closed : Bool) (rest t : List ℕ) → tag_close t ≡ Some (closed, rest) → Closes closed rest t
closes closed rest [] e = absurd (cc)
closes closed rest (u ∷ t) e = by_unit (u == 62) refl (u == 47) refl e
  where
    by_unit : (b : Bool) → (u == 62) ≡ b → (d : Bool) → (u == 47) ≡ d → cond {A = Option (Bool × List ℕ)} b (Some (false, t)) (cond d (slash_close t) None) ≡ Some (closed, rest) → Closes closed rest (u ∷ t)
    by_unit true x d y f =
        let p = some_pair false closed t rest f in
        let is = same_unit u 62 x in
        rw (is, p.1) (plain (sym p.0))
    by_unit false x true y f = let is = same_unit u 47 y in rw is (slashed closed rest t f)
    by_unit false x false y f = absurd (cc)

tag_end_is : (us : List ℕ) → tag_end us ≡ tag_close (behind is_space us)
unfolding tag_end
tag_end_is us = refl

-- the end of a start tag, before whatever follows it
pub record EndsTag (closed : Bool) (us rest : List ℕ) : Type 0 where
  pub front : List ℕ
  pub whole : us ≡ front ++ rest
  pub solid : list_all is_space front ≡ false
  pub ended : (g : List ℕ) × (front ≡ g ++ 62 ∷ [])
  pub again : (more : List ℕ) → tag_end (front ++ more) ≡ Some (closed, more)
  pub last : (more : List ℕ) → attribute_of (front ++ more) ≡ None

no_name : (b : Bool) (us more : List ℕ) → behind is_space us ≡ more → begins_with is_name_start more ≡ false → cond b (named (behind is_space us)) None ≡ None
no_name false us more e f = refl
no_name true us more e f = rw (e, f) refl

no_attribute : (us more : List ℕ) → behind is_space us ≡ more → begins_with is_name_start more ≡ false → attribute_of us ≡ None
unfolding attribute_of
no_attribute us more e f = no_name (begins_with is_space us) us more e f

pub ends_tag : (closed : Bool) (us rest : List ℕ) → tag_end us ≡ Some (closed, rest) → EndsTag closed us rest
ends_tag closed us rest e =
    by_close (run_of is_space us) (behind is_space us) (run_split is_space us) (closes closed rest (behind is_space us) (sym (tag_end_is us) ∙ e))
  where
    by_close : (run tail : List ℕ) → IsSplit is_space us run tail → Closes closed rest tail → EndsTag closed us rest
    by_close run tail s (plain f) =
        let stands : (more : List ℕ) → behind is_space ((run ++ 62 ∷ []) ++ more) ≡ 62 ∷ more = λ more. ap (behind is_space) (append_assoc run (62 ∷ []) more) ∙ (run_again is_space run (62 ∷ more) s.all refl).1 in
        record {
          front = run ++ 62 ∷ [];
          whole = s.whole ∙ sym (append_assoc run (62 ∷ []) rest);
          solid = all_but is_space run 62 [] refl;
          ended = (run, refl);
          again = λ more. tag_end_is ((run ++ 62 ∷ []) ++ more) ∙ ap tag_close (stands more) ∙ ap (λ x. Some (x, more)) (sym f);
          last = λ more. no_attribute ((run ++ 62 ∷ []) ++ more) (62 ∷ more) (stands more) refl;
        }
    by_close run tail s (slash f) =
        let stands : (more : List ℕ) → behind is_space ((run ++ 47 ∷ 62 ∷ []) ++ more) ≡ 47 ∷ 62 ∷ more = λ more. ap (behind is_space) (append_assoc run (47 ∷ 62 ∷ []) more) ∙ (run_again is_space run (47 ∷ 62 ∷ more) s.all refl).1 in
        record {
          front = run ++ 47 ∷ 62 ∷ [];
          whole = s.whole ∙ sym (append_assoc run (47 ∷ 62 ∷ []) rest);
          solid = all_but is_space run 47 (62 ∷ []) refl;
          ended = (run ++ 47 ∷ [], sym (append_assoc run (47 ∷ []) (62 ∷ [])));
          again = λ more. tag_end_is ((run ++ 47 ∷ 62 ∷ []) ++ more) ∙ ap tag_close (stands more) ∙ ap (λ x. Some (x, more)) (sym f);
          last = λ more. no_attribute ((run ++ 47 ∷ 62 ∷ []) ++ more) (47 ∷ 62 ∷ more) (stands more) refl;
        }

-- White space and `>`

pub record EndsClose (us rest : List ℕ) : Type 0 where
  pub front : List ℕ
  pub whole : us ≡ front ++ rest
  pub solid : list_all is_space front ≡ false
  pub again : (more : List ℕ) → behind_close (front ++ more) ≡ Some more

pub ends_close : (us rest : List ℕ) → behind_close us ≡ Some rest → EndsClose us rest
ends_close us rest e = by_tail (run_of is_space us) (behind is_space us) (run_split is_space us) e
  where
    by_unit : (run : List ℕ) (u : ℕ) (t : List ℕ) → IsSplit is_space us run (u ∷ t) → (b : Bool) → (u == 62) ≡ b → cond b (Some t) None ≡ Some rest → EndsClose us rest
    by_unit run u t s false x f = absurd (cc)
    by_unit run u t s true x f =
        let same = some_one t rest f in
        let is = same_unit u 62 x in
        record {
          front = run ++ 62 ∷ [];
          whole = s.whole ∙ ap (λ z. run ++ z ∷ t) is ∙ ap (λ z. run ++ 62 ∷ z) same ∙ sym (append_assoc run (62 ∷ []) rest);
          solid = all_but is_space run 62 [] refl;
          again = λ more. ap (λ z. close (behind is_space z)) (append_assoc run (62 ∷ []) more) ∙ ap close (run_again is_space run (62 ∷ more) s.all refl).1;
        }

    by_tail : (run tail : List ℕ) → IsSplit is_space us run tail → close tail ≡ Some rest → EndsClose us rest
    by_tail run [] s f = absurd (cc)
    by_tail run (u ∷ t) s f = by_unit run u t s (u == 62) refl f

-- `>` of a doctype

pub record EndsDoctype (us rest : List ℕ) : Type 0 where
  pub front : List ℕ
  pub whole : us ≡ front ++ rest
  pub again : (more : List ℕ) → doctype_of (front ++ more) ≡ Some more

is_end : (u : ℕ) → is_other 62 u ≡ false → u ≡ 62
is_end u e = by_case (u == 62) refl e
  where
    by_case : (b : Bool) → (u == 62) ≡ b → not b ≡ false → u ≡ 62
    by_case true x f = same_unit u 62 x
    by_case false x f = absurd (cc)

pub ends_doctype : (us rest : List ℕ) → doctype_of us ≡ Some rest → EndsDoctype us rest
ends_doctype us rest e = by_tail (run_of (is_other 62) us) (behind (is_other 62) us) (run_split (is_other 62) us) e
  where
    by_tail : (run tail : List ℕ) → IsSplit (is_other 62) us run tail → behind_doctype tail ≡ Some rest → EndsDoctype us rest
    by_tail run [] s f = absurd (cc)
    by_tail run (u ∷ t) s f =
        let same = some_one t rest f in
        let is = is_end u s.ends in
        record {
          front = run ++ 62 ∷ [];
          whole = s.whole ∙ ap (λ z. run ++ z ∷ t) is ∙ ap (λ z. run ++ 62 ∷ z) same ∙ sym (append_assoc run (62 ∷ []) rest);
          again = λ more. ap (λ z. behind_doctype (behind (is_other 62) z)) (append_assoc run (62 ∷ []) more) ∙ ap behind_doctype (run_again (is_other 62) run (62 ∷ more) s.all refl).1;
        }
