-- Attributes where another text stands behind their tag.
use Rattle.std.proofs.Common.{◌≡◌, ◌∙◌, ℕ, ◌==◌, ◌||◌, ◌&&◌, Bool, true, false, not, cond, List, [], ◌∷◌, ◌++◌, refl, sym, ap, Option, Some, None, append_assoc}
use Rattle.std.specs.List.{list_all}
use Rattle.dom_tree.specs.Name.{is_name_part, is_name_start}
use Rattle.page_tokens.specs.Attributes.{Attributes, Written, attribute_of, closed, named, valued, value_of, with_value}
use Rattle.page_tokens.specs.Attributes.Attributes.{none, more}
use Rattle.page_tokens.specs.Characters.{begins_with, behind, is_other, is_quote, is_space, is_value_part, run_of}
use Rattle.page_tokens.proofs.Pairs.{some_pair, some_triple}
use Rattle.page_tokens.proofs.Runs.{IsSplit, behind_other, begins_same, has_other, run_again, run_split, same_unit, some_but, unit_is}

-- Classes

pub quote_no_space : (q : ℕ) → is_quote q ≡ true → is_space q ≡ false
quote_no_space q e = by_case (q == 34) refl
  where
    by_case : (b : Bool) → (q == 34) ≡ b → is_space q ≡ false
    by_case true f = let is = same_unit q 34 f in rw is refl
    by_case false f = let is = same_unit q 39 (ap (λ b. b || (q == 39)) (sym f) ∙ e) in rw is refl

pub part_no_space : (u : ℕ) → is_value_part u ≡ true → is_space u ≡ false
part_no_space u e = by_case (is_space u) (is_quote u || (u == 60) || (u == 61) || (u == 62) || (u == 96)) (is_quote u) (u == 60) (u == 61) (u == 62) (u == 96) e
  where
    by_case : (a c : Bool) (q b d f g : Bool) → not (a || q || b || d || f || g) ≡ true → a ≡ false
    by_case true c q b d f g h = absurd (cc)
    by_case false c q b d f g h = refl

pub name_no_space : (u : ℕ) → is_name_start u ≡ true → is_space u ≡ false
name_no_space u e = by_case (u == 9) (u == 10) (u == 12) (u == 32) refl refl refl refl
  where
    by_case : (a b c d : Bool) → (u == 9) ≡ a → (u == 10) ≡ b → (u == 12) ≡ c → (u == 32) ≡ d → is_space u ≡ false
    by_case true b c d f g h k = absurd (let is = same_unit u 9 f in let n = ap is_name_start is in cc)
    by_case false true c d f g h k = absurd (let is = same_unit u 10 g in let n = ap is_name_start is in cc)
    by_case false false true d f g h k = absurd (let is = same_unit u 12 h in let n = ap is_name_start is in cc)
    by_case false false false true f g h k = absurd (let is = same_unit u 32 k in let n = ap is_name_start is in cc)
    by_case false false false false f g h k = rw (f, g, h, k) refl

-- Values

-- a value, before whatever follows it
record ValueAt (v raw rest : List ℕ) : Type 0 where
  first : ℕ
  front : List ℕ
  whole : v ≡ first ∷ (front ++ rest)
  no_space : is_space first ≡ false
  again : (other : List ℕ) → begins_with is_value_part other ≡ begins_with is_value_part rest → value_of (first ∷ (front ++ other)) ≡ Some (raw, other)

quoted_is : (q : ℕ) (us : List ℕ) → is_quote q ≡ true → value_of (q ∷ us) ≡ closed (run_of (is_other q) us) (behind (is_other q) us)
unfolding value_of
quoted_is q us e = rw e refl

plain_is : (u : ℕ) (us : List ℕ) → is_quote u ≡ false → is_value_part u ≡ true → value_of (u ∷ us) ≡ Some (run_of is_value_part (u ∷ us), behind is_value_part (u ∷ us))
unfolding value_of
plain_is u us e f =
    let some : Written = Some (run_of is_value_part (u ∷ us), behind is_value_part (u ∷ us)) in
    ap (λ b. cond b (closed (run_of (is_other u) us) (behind (is_other u) us)) (cond (is_value_part u) some None)) e ∙ ap (λ b. cond b some None) f

no_value : (u : ℕ) (us : List ℕ) → is_quote u ≡ false → is_value_part u ≡ false → value_of (u ∷ us) ≡ None
unfolding value_of
no_value u us e f =
    let some : Written = Some (run_of is_value_part (u ∷ us), behind is_value_part (u ∷ us)) in
    ap (λ b. cond b (closed (run_of (is_other u) us) (behind (is_other u) us)) (cond (is_value_part u) some None)) e ∙ ap (λ b. cond b some None) f

no_value_at_end : value_of [] ≡ None
unfolding value_of
no_value_at_end = refl

ends_quote : (q u : ℕ) → is_other q u ≡ false → u ≡ q
ends_quote q u e = by_case (u == q) refl e
  where
    by_case : (b : Bool) → (u == q) ≡ b → not b ≡ false → u ≡ q
    by_case true x f = same_unit u q x
    by_case false x f = absurd (cc)

quote_ends : (q : ℕ) → is_other q q ≡ false
quote_ends q = rw (unit_is q) refl

quoted_at : (q : ℕ) (us raw rest : List ℕ) → is_quote q ≡ true → value_of (q ∷ us) ≡ Some (raw, rest) → ValueAt (q ∷ us) raw rest
quoted_at q us raw rest e f = by_tail (run_of (is_other q) us) (behind (is_other q) us) (run_split (is_other q) us) (sym (quoted_is q us e) ∙ f)
  where
    by_tail : (run tail : List ℕ) → IsSplit (is_other q) us run tail → closed run tail ≡ Some (raw, rest) → ValueAt (q ∷ us) raw rest
    by_tail run [] s g = absurd (cc)
    by_tail run (u ∷ t) s g =
        let p = some_pair run raw t rest g in
        let is = ends_quote q u s.ends in
        record {
          first = q;
          front = run ++ q ∷ [];
          whole = ap (λ x. q ∷ x) (s.whole ∙ ap (λ z. run ++ z ∷ t) is ∙ ap (λ z. run ++ q ∷ z) p.1 ∙ sym (append_assoc run (q ∷ []) rest));
          no_space = quote_no_space q e;
          again = λ other h.
              let r = run_again (is_other q) run (q ∷ other) s.all (quote_ends q) in
              ap (λ z. value_of (q ∷ z)) (append_assoc run (q ∷ []) other) ∙ quoted_is q (run ++ q ∷ other) e ∙ ap (λ z. closed z (behind (is_other q) (run ++ q ∷ other))) r.0 ∙ ap (closed run) r.1 ∙ ap (λ z. Some (z, other)) p.0;
        }

plain_at : (u : ℕ) (us raw rest : List ℕ) → is_quote u ≡ false → is_value_part u ≡ true → value_of (u ∷ us) ≡ Some (raw, rest) → ValueAt (u ∷ us) raw rest
plain_at u us raw rest e f g = by_run (run_of is_value_part us) (behind is_value_part us) (run_split is_value_part us) (run_split is_value_part (u ∷ us)) (some_pair (run_of is_value_part (u ∷ us)) raw (behind is_value_part (u ∷ us)) rest (sym (plain_is u us e f) ∙ g))
  where
    all_is : (run : List ℕ) → list_all is_value_part run ≡ true → list_all is_value_part (u ∷ run) ≡ true
    all_is run h = rw f h

    by_run : (run tail : List ℕ) → IsSplit is_value_part us run tail → IsSplit is_value_part (u ∷ us) (run_of is_value_part (u ∷ us)) (behind is_value_part (u ∷ us)) → (run_of is_value_part (u ∷ us) ≡ raw) × (behind is_value_part (u ∷ us) ≡ rest) → ValueAt (u ∷ us) raw rest
    by_run run tail s all p =
        let same = run_again is_value_part (u ∷ run) tail (all_is run s.all) s.ends in
        let here : u ∷ us ≡ u ∷ (run ++ tail) = ap (λ x. u ∷ x) s.whole in
        let one : raw ≡ u ∷ run = sym p.0 ∙ ap (run_of is_value_part) here ∙ same.0 in
        let two : rest ≡ tail = sym p.1 ∙ ap (behind is_value_part) here ∙ same.1 in
        record {
          first = u;
          front = run;
          whole = here ∙ ap (λ x. u ∷ (run ++ x)) (sym two);
          no_space = part_no_space u f;
          again = λ other h.
              let r = run_again is_value_part (u ∷ run) other (all_is run s.all) (h ∙ ap (begins_with is_value_part) two ∙ s.ends) in
              plain_is u (run ++ other) e f ∙ ap (λ z. Some (z, behind is_value_part (u ∷ (run ++ other)))) (r.0 ∙ sym one) ∙ ap (λ z. Some (raw, z)) r.1;
        }

value_at : (v raw rest : List ℕ) → value_of v ≡ Some (raw, rest) → ValueAt v raw rest
value_at [] raw rest e = absurd (let n = no_value_at_end in cc)
value_at (u ∷ us) raw rest e = by_case (is_quote u) refl (is_value_part u) refl
  where
    by_case : (b : Bool) → is_quote u ≡ b → (d : Bool) → is_value_part u ≡ d → ValueAt (u ∷ us) raw rest
    by_case true x d y = quoted_at u us raw rest x e
    by_case false x true y = plain_at u us raw rest x y e
    by_case false x false y = absurd (let n = no_value u us x y in cc)

-- Attributes

-- an attribute, before whatever begins alike up to its first unit that is no white space
record AttributeAt (us name raw rest : List ℕ) : Type 0 where
  front : List ℕ
  whole : us ≡ front ++ rest
  again : (y old new : List ℕ) → rest ≡ y ++ old → list_all is_space y ≡ false → attribute_of (front ++ (y ++ new)) ≡ Some (name, raw, y ++ new)

name_is : (b : Bool) (us : List ℕ) → b ≡ true → begins_with is_name_start us ≡ true → cond b (named us) None ≡ valued (run_of is_name_part us) (behind is_name_part us) (behind is_space (behind is_name_part us))
name_is b us e f = rw (e, f) refl

attribute_is : (us : List ℕ) → begins_with is_space us ≡ true → begins_with is_name_start (behind is_space us) ≡ true → attribute_of us ≡ valued (run_of is_name_part (behind is_space us)) (behind is_name_part (behind is_space us)) (behind is_space (behind is_name_part (behind is_space us)))
unfolding attribute_of
attribute_is us e f = name_is (begins_with is_space us) (behind is_space us) e f

without_name : (b : Bool) (us : List ℕ) → begins_with is_name_start us ≡ false → cond b (named us) None ≡ None
without_name true us e = rw e refl
without_name false us e = refl

no_name_is : (us : List ℕ) → begins_with is_name_start (behind is_space us) ≡ false → attribute_of us ≡ None
unfolding attribute_of
no_name_is us e = without_name (begins_with is_space us) (behind is_space us) e

no_space_is : (us : List ℕ) → begins_with is_space us ≡ false → attribute_of us ≡ None
unfolding attribute_of
no_space_is us e = rw e refl

-- white space, a name and what stands behind it
record IsNamed (us s n tail : List ℕ) : Type 0 where
  whole : us ≡ s ++ (n ++ tail)
  begins : begins_with is_space s ≡ true
  spaces : list_all is_space s ≡ true
  starts : begins_with is_name_start n ≡ true
  parts : list_all is_name_part n ≡ true
  ends : begins_with is_name_part tail ≡ false

starts_name : (n tail : List ℕ) → begins_with is_name_start n ≡ true → (begins_with is_space (n ++ tail) ≡ false) × (begins_with is_name_start (n ++ tail) ≡ true)
starts_name [] tail e = absurd (cc)
starts_name (u ∷ n) tail e = (name_no_space u e, e)

starts_space : (s tail : List ℕ) → begins_with is_space s ≡ true → begins_with is_space (s ++ tail) ≡ true
starts_space [] tail e = absurd (cc)
starts_space (u ∷ s) tail e = e

named_is : (us s n tail : List ℕ) → IsNamed us s n tail → attribute_of us ≡ valued n tail (behind is_space tail)
named_is us s n tail i =
    let name = starts_name n tail i.starts in
    let spaces = run_again is_space s (n ++ tail) i.spaces name.0 in
    let at : behind is_space us ≡ n ++ tail = ap (behind is_space) i.whole ∙ spaces.1 in
    let names = run_again is_name_part n tail i.parts i.ends in
    let one : run_of is_name_part (behind is_space us) ≡ n = ap (run_of is_name_part) at ∙ names.0 in
    let two : behind is_name_part (behind is_space us) ≡ tail = ap (behind is_name_part) at ∙ names.1 in
    attribute_is us (ap (begins_with is_space) i.whole ∙ starts_space s (n ++ tail) i.begins) (ap (begins_with is_name_start) at ∙ name.1) ∙ rw (one, two) refl

pub run_starts : (class test : ℕ → Bool) (us : List ℕ) → ((u : ℕ) → test u ≡ true → class u ≡ true) → begins_with test us ≡ true → begins_with test (run_of class us) ≡ true
run_starts class test us sub e = by_run (run_of class us) (behind class us) (run_split class us)
  where
    absurd_tail : (tail : List ℕ) → begins_with test tail ≡ true → begins_with class tail ≡ false → ⊥
    absurd_tail [] f g = absurd (cc)
    absurd_tail (u ∷ t) f g = absurd (let h = sub u f in cc)

    by_run : (run tail : List ℕ) → IsSplit class us run tail → begins_with test run ≡ true
    by_run [] tail s = absurd (absurd_tail tail (sym (ap (begins_with test) s.whole) ∙ e) s.ends)
    by_run (u ∷ run) tail s = sym (ap (begins_with test) s.whole) ∙ e

start_is_part : (u : ℕ) → is_name_start u ≡ true → is_name_part u ≡ true
start_is_part u e = rw e refl

named_at : (us : List ℕ) → begins_with is_space us ≡ true → begins_with is_name_start (behind is_space us) ≡ true → IsNamed us (run_of is_space us) (run_of is_name_part (behind is_space us)) (behind is_name_part (behind is_space us))
named_at us e f =
    let s = run_split is_space us in
    let n = run_split is_name_part (behind is_space us) in
    record {
      whole = s.whole ∙ ap (λ x. run_of is_space us ++ x) n.whole;
      begins = run_starts is_space is_space us (λ u h. h) e;
      spaces = s.all;
      starts = run_starts is_name_part is_name_start (behind is_space us) start_is_part f;
      parts = n.all;
      ends = n.ends;
    }

-- the first unit of a text behind white space
same_first : (y old new : List ℕ) (v : ℕ) (vs : List ℕ) → list_all is_space y ≡ false → behind is_space (y ++ old) ≡ v ∷ vs → (t : List ℕ) × (behind is_space (y ++ new) ≡ v ∷ t)
same_first y old new v vs solid e =
    let o = has_other is_space y solid in
    let same : o.other ∷ (o.tail ++ old) ≡ v ∷ vs = sym (behind_other is_space y old o) ∙ e in
    let one : o.other ≡ v = cc in
    (o.tail ++ new, behind_other is_space y new o ∙ ap (λ x. x ∷ (o.tail ++ new)) one)

no_first : (y old : List ℕ) → list_all is_space y ≡ false → behind is_space (y ++ old) ≡ [] → ⊥
no_first y old solid e = let o = has_other is_space y solid in let b = behind_other is_space y old o in absurd (cc)

solid_append : (y rest : List ℕ) → list_all is_space y ≡ false → list_all is_space (y ++ rest) ≡ false
solid_append [] rest e = absurd (cc)
solid_append (u ∷ y) rest e = by_case (is_space u) e (solid_append y rest)
  where
    by_case : (b : Bool) → (b && list_all is_space y) ≡ false → (list_all is_space y ≡ false → list_all is_space (y ++ rest) ≡ false) → (b && list_all is_space (y ++ rest)) ≡ false
    by_case true f g = g f
    by_case false f g = refl

bare_is : (n t : List ℕ) (v : ℕ) (vs : List ℕ) → (v == 61) ≡ false → behind is_space t ≡ v ∷ vs → valued n t (behind is_space t) ≡ Some (n, [], t)
bare_is n t v vs e f = rw (f, e) refl

value_is : (n t s : List ℕ) (vs : List ℕ) → behind is_space t ≡ 61 ∷ vs → valued n t (behind is_space t) ≡ with_value n (value_of (behind is_space vs))
value_is n t s vs f = rw f refl

-- an attribute without a value
bare_at : (us s n tail name raw rest : List ℕ) (v : ℕ) (vs : List ℕ) → IsNamed us s n tail → (v == 61) ≡ false → behind is_space tail ≡ v ∷ vs → attribute_of us ≡ Some (name, raw, rest) → AttributeAt us name raw rest
bare_at us s n tail name raw rest v vs i x f e =
    let same : ◌≡◌ {A = Option (List ℕ × List ℕ × List ℕ)} (Some (n, [], tail)) (Some (name, raw, rest)) = sym (bare_is n tail v vs x f) ∙ sym (named_is us s n tail i) ∙ e in
    let p = some_triple n name [] raw tail rest same in
    record {
      front = s ++ n;
      whole = i.whole ∙ sym (append_assoc s n tail) ∙ ap (λ z. (s ++ n) ++ z) p.2;
      again = λ y old new w solid.
          let first = same_first y old new v vs solid (sym (ap (behind is_space) (p.2 ∙ w)) ∙ f) in
          let at : IsNamed ((s ++ n) ++ (y ++ new)) s n (y ++ new) = record {
            whole = append_assoc s n (y ++ new);
            begins = i.begins;
            spaces = i.spaces;
            starts = i.starts;
            parts = i.parts;
            ends = begins_same is_space is_name_part y new old solid ∙ sym (ap (begins_with is_name_part) (p.2 ∙ w)) ∙ i.ends;
          } in
          named_is ((s ++ n) ++ (y ++ new)) s n (y ++ new) at ∙ bare_is n (y ++ new) v first.0 x first.1 ∙ ap (λ z. Some (z, [], y ++ new)) p.0 ∙ ap (λ z. Some (name, z, y ++ new)) p.1;
    }

with_value_parts : (n : List ℕ) (o : Option (List ℕ × List ℕ)) (name raw rest : List ℕ) → with_value n o ≡ Some (name, raw, rest) → (n ≡ name) × (o ≡ Some (raw, rest))
with_value_parts n None name raw rest e = absurd (cc)
with_value_parts n (Some p) name raw rest e = let q = some_triple n name p.0 raw p.1 rest e in (q.0, ap (λ z. Some (z, p.1)) q.1 ∙ ap (λ z. Some (raw, z)) q.2)

ends_same : (s : List ℕ) (u : ℕ) (t t' : List ℕ) → begins_with is_name_part (s ++ u ∷ t) ≡ begins_with is_name_part (s ++ u ∷ t')
ends_same [] u t t' = refl
ends_same (v ∷ s) u t t' = refl

-- an attribute with a value
full_at : (us s n tail name raw rest vs : List ℕ) → IsNamed us s n tail → behind is_space tail ≡ 61 ∷ vs → attribute_of us ≡ Some (name, raw, rest) → AttributeAt us name raw rest
full_at us s n tail name raw rest vs i f e =
    let same : with_value n (value_of (behind is_space vs)) ≡ Some (name, raw, rest) = sym (value_is n tail [] vs f) ∙ sym (named_is us s n tail i) ∙ e in
    let p = with_value_parts n (value_of (behind is_space vs)) name raw rest same in
    let a = run_split is_space tail in
    let b = run_split is_space vs in
    by_value (run_of is_space tail) (run_of is_space vs) p.0 (a.whole ∙ ap (λ z. run_of is_space tail ++ z) f) a.all b.whole b.all (value_at (behind is_space vs) raw rest p.1)
  where
    by_value : (s1 s2 : List ℕ) → n ≡ name → tail ≡ s1 ++ 61 ∷ vs → list_all is_space s1 ≡ true → vs ≡ s2 ++ behind is_space vs → list_all is_space s2 ≡ true → ValueAt (behind is_space vs) raw rest → AttributeAt us name raw rest
    by_value s1 s2 same t a w b v =
        let open_ : List ℕ = s1 ++ 61 ∷ (s2 ++ v.first ∷ v.front) in
        let with_tail : (x : List ℕ) → open_ ++ x ≡ s1 ++ 61 ∷ (s2 ++ v.first ∷ (v.front ++ x)) = λ x. append_assoc s1 (61 ∷ (s2 ++ v.first ∷ v.front)) x ∙ ap (λ z. s1 ++ 61 ∷ z) (append_assoc s2 (v.first ∷ v.front) x) in
        let here : tail ≡ open_ ++ rest = t ∙ ap (λ z. s1 ++ 61 ∷ z) (w ∙ ap (λ z. s2 ++ z) v.whole) ∙ sym (with_tail rest) in
        record {
          front = s ++ (n ++ open_);
          whole = i.whole ∙ ap (λ z. s ++ (n ++ z)) here ∙ ap (λ z. s ++ z) (sym (append_assoc n open_ rest)) ∙ sym (append_assoc s (n ++ open_) rest);
          again = λ y old new k solid.
              let x : List ℕ = y ++ new in
              let at : IsNamed ((s ++ (n ++ open_)) ++ x) s n (open_ ++ x) = record {
                whole = append_assoc s (n ++ open_) x ∙ ap (λ z. s ++ z) (append_assoc n open_ x);
                begins = i.begins;
                spaces = i.spaces;
                starts = i.starts;
                parts = i.parts;
                ends = ap (begins_with is_name_part) (with_tail x) ∙ ends_same s1 61 (s2 ++ v.first ∷ (v.front ++ x)) vs ∙ sym (ap (begins_with is_name_part) t) ∙ i.ends;
              } in
              let r = run_again is_space s1 (61 ∷ (s2 ++ v.first ∷ (v.front ++ x))) a refl in
              let q = run_again is_space s2 (v.first ∷ (v.front ++ x)) b v.no_space in
              let value = v.again x (begins_same is_space is_value_part y new old solid ∙ sym (ap (begins_with is_value_part) k)) in
              named_is ((s ++ (n ++ open_)) ++ x) s n (open_ ++ x) at ∙ value_is n (open_ ++ x) [] (s2 ++ v.first ∷ (v.front ++ x)) (ap (behind is_space) (with_tail x) ∙ r.1) ∙ ap (λ z. with_value n (value_of z)) q.1 ∙ ap (with_value n) value ∙ ap (λ z. Some (z, raw, x)) same;
        }

attribute_at : (us name raw y old : List ℕ) → attribute_of us ≡ Some (name, raw, y ++ old) → list_all is_space y ≡ false → AttributeAt us name raw (y ++ old)
attribute_at us name raw y old e solid = by_space (begins_with is_space us) refl (begins_with is_name_start (behind is_space us)) refl
  where
    by_first : (tail : List ℕ) (us s n : List ℕ) → IsNamed us s n tail → attribute_of us ≡ Some (name, raw, y ++ old) → (t : List ℕ) → behind is_space tail ≡ t → AttributeAt us name raw (y ++ old)
    by_first tail us s n i e [] f =
        let same : ◌≡◌ {A = Option (List ℕ × List ℕ × List ℕ)} (Some (n, [], tail)) (Some (name, raw, y ++ old)) = sym (ap (valued n tail) f) ∙ sym (named_is us s n tail i) ∙ e in
        let p = some_triple n name [] raw tail (y ++ old) same in
        absurd (no_first y old solid (sym (ap (behind is_space) p.2) ∙ f))
    by_first tail us s n i e (v ∷ vs) f = by_unit (v == 61) refl
      where
        by_unit : (b : Bool) → (v == 61) ≡ b → AttributeAt us name raw (y ++ old)
        by_unit true x = let is = same_unit v 61 x in full_at us s n tail name raw (y ++ old) vs i (f ∙ ap (λ z. z ∷ vs) is) e
        by_unit false x = bare_at us s n tail name raw (y ++ old) v vs i x f e

    by_space : (b : Bool) → begins_with is_space us ≡ b → (d : Bool) → begins_with is_name_start (behind is_space us) ≡ d → AttributeAt us name raw (y ++ old)
    by_space false x d z = absurd (let n = no_space_is us x in cc)
    by_space true x false z = absurd (let n = no_name_is us z in cc)
    by_space true x true z = by_first (behind is_name_part (behind is_space us)) us (run_of is_space us) (run_of is_name_part (behind is_space us)) (named_at us x z) e (behind is_space (behind is_name_part (behind is_space us))) refl

-- Lists of attributes

-- attributes, before whatever stands behind the end of their tag, which is `e`
pub record AttributesAt (us e rest : List ℕ) (all : List (List ℕ × List ℕ)) : Type 0 where
  pub front : List ℕ
  pub whole : us ≡ front ++ rest
  pub solid : list_all is_space front ≡ false
  pub tail : (g : List ℕ) × (front ≡ g ++ e)
  pub again : (other : List ℕ) → Attributes (front ++ other) (e ++ other) all

pub attributes_at : (us end e rest : List ℕ) (all : List (List ℕ × List ℕ)) → Attributes us end all → end ≡ e ++ rest → list_all is_space e ≡ false → ((other : List ℕ) → attribute_of (e ++ other) ≡ None) → AttributesAt us e rest all
attributes_at us end e rest all (none t f) w solid last = record { front = e; whole = w; solid = solid; tail = ([], refl); again = λ other. none (e ++ other) (last other) }
attributes_at us end e rest all (more t b r n raw v os f d a) w solid last =
    let inner = attributes_at b r e rest os a w solid last in
    let at = attribute_at t n raw inner.front rest (f ∙ ap (λ z. Some (n, raw, z)) inner.whole) inner.solid in
    record {
      front = at.front ++ inner.front;
      whole = at.whole ∙ sym (append_assoc at.front inner.front rest);
      solid = some_but is_space at.front inner.front inner.solid;
      tail = (at.front ++ inner.tail.0, ap (λ z. at.front ++ z) inner.tail.1 ∙ sym (append_assoc at.front inner.tail.0 e));
      again = λ other. more ((at.front ++ inner.front) ++ other) (inner.front ++ other) (e ++ other) n raw v os (ap attribute_of (append_assoc at.front inner.front other) ∙ at.again inner.front rest other refl inner.solid) d (inner.again other);
    }
