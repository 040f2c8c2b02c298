-- What tables of uses keep of the uses that were noted.
use Rattle.std.proofs.Common.{◌≡◌, refl, sym, ap, ◌∙◌, ℕ, Bool, true, false, not, ◌||◌, ◌&&◌, filter, map, List, [], ◌∷◌, ◌++◌, Option, Some, append-nil, bytes_eq, is_some, if◌then◌else◌}
use Rattle.std.specs.List.{list_any}
use Rattle.std.specs.Map.{keys_of, lookup, set_value}
use Rattle.std.proofs.lemmas.Slice.Eq.{bytes_eq-Decides}
use Rattle.std.proofs.Math.Bool.{or-false, or_assoc}
use Rattle.indexmap.specs.IndexMap.{insert_entry}
use Rattle.indexmap.specs.IndexSet.{insert_all, insert_key}
use Rattle.scope_analysis.specs.declared.use_table.NameUses.{NameUses}
use Rattle.scope_analysis.specs.Uses.{Use, is_assigned, is_assigned_once, is_captured, leaving_clause, leaving_function, stmts_uses}
use Rattle.scope_analysis.specs.Identifiers.{is_reserved}
use Rattle.js_core.specs.Tree as tree
use Rattle.js_core.specs.Tree.{code}
use Rattle.scope_analysis.specs.Needs.{needed_variables}
use Rattle.scope_analysis.specs.Names.{bound_names, code_body, code_formals, is_among, maybe_name}
use Rattle.scope_analysis.specs.Scopes.{once_each}
use Rattle.scope_analysis.specs.UseTables.{Noted, and_more, joined, left_by, no_uses, noted, one_use, seen_from, table_of, uses_in, with_name}
use Rattle.scope_analysis.proofs.SameNames.{same_symmetric}

-- ---- truth values

or_swap : (a b c : Bool) → ((a || b) || c) ≡ ((a || c) || b)
or_swap true b c = refl
or_swap false true true = refl
or_swap false true false = refl
or_swap false false true = refl
or_swap false false false = refl

again_swap : (oa na ma og ng mg : Bool) → (((oa || na) && ma) || (((oa && na) || (og || ng)) || mg)) ≡ (((oa || ma) && na) || (((oa && ma) || (og || mg)) || ng))
again_swap true true true og ng mg = refl
again_swap true false true og ng mg = refl
again_swap true true false og ng mg = refl
again_swap true false false og ng mg = or_swap og ng mg
again_swap false true true og ng mg = refl
again_swap false true false og ng mg = or_swap og ng mg
again_swap false false true og ng mg = or_swap og ng mg
again_swap false false false og ng mg = or_swap og ng mg

again_assoc : (oa fa ma og fg mg : Bool) → (((oa || fa) && ma) || (((oa && fa) || (og || fg)) || mg)) ≡ ((oa && (fa || ma)) || (og || ((fa && ma) || (fg || mg))))
again_assoc true true true og fg mg = refl
again_assoc true true false og fg mg = refl
again_assoc true false true og fg mg = refl
again_assoc true false false og fg mg = or_assoc og fg mg
again_assoc false true true true fg mg = refl
again_assoc false true true false fg mg = refl
again_assoc false true false og fg mg = or_assoc og fg mg
again_assoc false false ma og fg mg = or_assoc og fg mg

more_swap : (o n m : NameUses) → and_more (and_more o n) m ≡ and_more (and_more o m) n
more_swap o n m = λ j. record { crosses = or_swap o.crosses n.crosses m.crosses j; assigns = or_swap o.assigns n.assigns m.assigns j; again = again_swap o.assigns n.assigns m.assigns o.again n.again m.again j }

more_assoc : (o f m : NameUses) → and_more (and_more o f) m ≡ and_more o (and_more f m)
more_assoc o f m = λ j. record { crosses = or_assoc o.crosses f.crosses m.crosses j; assigns = or_assoc o.assigns f.assigns m.assigns j; again = again_assoc o.assigns f.assigns m.assigns o.again f.again m.again j }

seen_more : (i : Bool) (a b : NameUses) → seen_from i (and_more a b) ≡ and_more (seen_from i a) (seen_from i b)
seen_more true a b = refl
seen_more false a b = refl

-- ---- names that are noted

same_of : (x y : List ℕ) → bytes_eq x y ≡ true → x ≡ y
same_of x y h = (bytes_eq-Decides x y).0 h

same_name : (x : List ℕ) → bytes_eq x x ≡ true
same_name x = (bytes_eq-Decides x x).1 refl

pub noted_append : (es : Noted) (us vs : List Use) → noted es (us ++ vs) ≡ noted (noted es us) vs
noted_append es [] vs = refl
noted_append es (u ∷ us) vs = noted_append (with_name es u.name (one_use u)) us vs

pub name_present : (es : Noted) (x : List ℕ) (o m : NameUses) → lookup (bytes_eq x) es ≡ Some o → with_name es x m ≡ set_value (bytes_eq x) es (and_more o m)
name_present [] x o m h = cc h
name_present (e ∷ es) x o m h = by_case (bytes_eq x e.0) refl (name_present es x o m)
  where
    by_case : (b : Bool) → bytes_eq x e.0 ≡ b → (lookup (bytes_eq x) es ≡ Some o → with_name es x m ≡ set_value (bytes_eq x) es (and_more o m)) → with_name (e ∷ es) x m ≡ set_value (bytes_eq x) (e ∷ es) (and_more o m)
    by_case true p more =
        let same : e.1 ≡ o = cc (rw p at h) in
        rw p (ap (λ (w : NameUses). (e.0, and_more w m) ∷ es) same)
    by_case false p more = rw p (ap (λ (r : Noted). e ∷ r) (more (rw p at h)))

pub name_absent : (es : Noted) (x : List ℕ) (m : NameUses) → is_some (lookup (bytes_eq x) es) ≡ false → with_name es x m ≡ insert_entry bytes_eq es x m
name_absent [] x m h = refl
name_absent (e ∷ es) x m h = by_case (bytes_eq x e.0) refl (name_absent es x m)
  where
    by_case : (b : Bool) → bytes_eq x e.0 ≡ b → (is_some (lookup (bytes_eq x) es) ≡ false → with_name es x m ≡ insert_entry bytes_eq es x m) → with_name (e ∷ es) x m ≡ insert_entry bytes_eq (e ∷ es) x m
    by_case true p more = cc (rw p at h)
    by_case false p more = rw p (ap (λ (r : Noted). e ∷ r) (more (rw p at h)))

-- the name is noted
abbrev has : List ℕ → Noted → Bool
has x [] = false
has x (e ∷ es) = bytes_eq x e.0 || has x es

has_same : (es : Noted) (x : List ℕ) (m : NameUses) → has x (with_name es x m) ≡ true
has_same [] x m = rw (same_name x) refl
has_same (e ∷ es) x m = by_case (bytes_eq x e.0) refl (has_same es x m)
  where
    by_case : (b : Bool) → bytes_eq x e.0 ≡ b → has x (with_name es x m) ≡ true → has x (with_name (e ∷ es) x m) ≡ true
    by_case true p more = rw p (rw p refl)
    by_case false p more = rw p (rw p more)

has_stays : (es : Noted) (x y : List ℕ) (n : NameUses) → has x es ≡ true → has x (with_name es y n) ≡ true
has_stays [] x y n h = cc h
has_stays (e ∷ es) x y n h = by_case (bytes_eq y e.0) refl (bytes_eq x e.0) refl (has_stays es x y n)
  where
    by_case : (c : Bool) → bytes_eq y e.0 ≡ c → (b : Bool) → bytes_eq x e.0 ≡ b → (has x es ≡ true → has x (with_name es y n) ≡ true) → has x (with_name (e ∷ es) y n) ≡ true
    by_case true q true p more = rw q (rw p refl)
    by_case true q false p more = rw q (rw p (rw p at h))
    by_case false q true p more = rw q (rw p refl)
    by_case false q false p more = rw q (rw p (more (rw p at h)))

noted_twice : (es : Noted) (x : List ℕ) (f m : NameUses) → with_name (with_name es x f) x m ≡ with_name es x (and_more f m)
noted_twice [] x f m = rw (same_name x) refl
noted_twice (e ∷ es) x f m = by_case (bytes_eq x e.0) refl (noted_twice es x f m)
  where
    by_case : (b : Bool) → bytes_eq x e.0 ≡ b → with_name (with_name es x f) x m ≡ with_name es x (and_more f m) → with_name (with_name (e ∷ es) x f) x m ≡ with_name (e ∷ es) x (and_more f m)
    by_case true p more = rw p (rw p (ap (λ (w : NameUses). (e.0, w) ∷ es) (more_assoc e.1 f m)))
    by_case false p more = rw p (rw p (ap (λ (r : Noted). e ∷ r) more))

-- other uses may come between
noted_swap : (es : Noted) (x y : List ℕ) (m n : NameUses) → has x es ≡ true → with_name (with_name es y n) x m ≡ with_name (with_name es x m) y n
noted_swap [] x y m n h = cc h
noted_swap (e ∷ es) x y m n h = by_case (bytes_eq x e.0) refl (bytes_eq y e.0) refl (noted_swap es x y m n)
  where
    by_case : (b : Bool) → bytes_eq x e.0 ≡ b → (c : Bool) → bytes_eq y e.0 ≡ c → (has x es ≡ true → with_name (with_name es y n) x m ≡ with_name (with_name es x m) y n) → with_name (with_name (e ∷ es) y n) x m ≡ with_name (with_name (e ∷ es) x m) y n
    by_case true p true q more = rw q (rw p (rw q (ap (λ (w : NameUses). (e.0, w) ∷ es) (more_swap e.1 n m))))
    by_case true p false q more = rw q (rw p (rw q refl))
    by_case false p true q more = rw q (rw p (rw q refl))
    by_case false p false q more = rw q (rw p (rw q (ap (λ (r : Noted). e ∷ r) (more (rw p at h)))))

joined_before : (t fs : Noted) (x : List ℕ) (m : NameUses) → has x t ≡ true → with_name (joined t fs) x m ≡ joined (with_name t x m) fs
joined_before t [] x m h = refl
joined_before t (f ∷ fs) x m h = joined_before (with_name t f.0 f.1) fs x m (has_stays t x f.0 f.1 h) ∙ ap (λ (s : Noted). joined s fs) (noted_swap t x f.0 m f.1 h)

joined_name : (es s : Noted) (x : List ℕ) (m : NameUses) → joined es (with_name s x m) ≡ with_name (joined es s) x m
joined_name es [] x m = refl
joined_name es (f ∷ fs) x m = by_case (bytes_eq x f.0) refl (joined_name (with_name es f.0 f.1) fs x m)
  where
    by_case : (b : Bool) → bytes_eq x f.0 ≡ b → joined (with_name es f.0 f.1) (with_name fs x m) ≡ with_name (joined (with_name es f.0 f.1) fs) x m → joined es (with_name (f ∷ fs) x m) ≡ with_name (joined es (f ∷ fs)) x m
    by_case true p more =
        let same : x ≡ f.0 = same_of x f.0 p in
        let there : has x (with_name es f.0 f.1) ≡ true = ap (λ z. has z (with_name es f.0 f.1)) same ∙ has_same es f.0 f.1 in
        let twice : with_name (with_name es f.0 f.1) x m ≡ with_name es f.0 (and_more f.1 m) = ap (λ z. with_name (with_name es f.0 f.1) z m) same ∙ noted_twice es f.0 f.1 m in
        rw p (sym (joined_before (with_name es f.0 f.1) fs x m there ∙ ap (λ (s : Noted). joined s fs) twice))
    by_case false p more = rw p more

-- ---- scopes

-- the uses that a scope leaves which declares the names that pass the test
abbrev leave : Bool → (List ℕ → Bool) → List Use → List Use
leave i declares [] = []
leave i declares (u ∷ us) = if declares u.name then leave i declares us else (record { name = u.name; assigns = u.assigns; crosses = i || u.crosses } ∷ leave i declares us)

left_other : (i : Bool) (declares : List ℕ → Bool) (t : Noted) (x : List ℕ) (m : NameUses) → declares x ≡ false → left_by i declares (with_name t x m) ≡ with_name (left_by i declares t) x (seen_from i m)
left_other i declares [] x m h = rw h refl
left_other i declares (e ∷ es) x m h = by_case (bytes_eq x e.0) refl (declares e.0) refl (left_other i declares es x m h)
  where
    by_case : (b : Bool) → bytes_eq x e.0 ≡ b → (d : Bool) → declares e.0 ≡ d → left_by i declares (with_name es x m) ≡ with_name (left_by i declares es) x (seen_from i m) → left_by i declares (with_name (e ∷ es) x m) ≡ with_name (left_by i declares (e ∷ es)) x (seen_from i m)
    by_case true p true q more = cc (sym h ∙ ap declares (same_of x e.0 p) ∙ q)
    by_case true p false q more = rw p (rw q (rw p (ap (λ (w : NameUses). (e.0, w) ∷ left_by i declares es) (seen_more i e.1 m))))
    by_case false p true q more = rw p (rw q more)
    by_case false p false q more = rw p (rw q (rw p (ap (λ (r : Noted). (e.0, seen_from i e.1) ∷ r) more)))

left_declared : (i : Bool) (declares : List ℕ → Bool) (t : Noted) (x : List ℕ) (m : NameUses) → declares x ≡ true → left_by i declares (with_name t x m) ≡ left_by i declares t
left_declared i declares [] x m h = rw h refl
left_declared i declares (e ∷ es) x m h = by_case (bytes_eq x e.0) refl (declares e.0) refl (left_declared i declares es x m h)
  where
    by_case : (b : Bool) → bytes_eq x e.0 ≡ b → (d : Bool) → declares e.0 ≡ d → left_by i declares (with_name es x m) ≡ left_by i declares es → left_by i declares (with_name (e ∷ es) x m) ≡ left_by i declares (e ∷ es)
    by_case true p true q more = rw p (rw q refl)
    by_case true p false q more = cc (sym h ∙ ap declares (same_of x e.0 p) ∙ q)
    by_case false p true q more = rw p (rw q more)
    by_case false p false q more = rw p (rw q (ap (λ (r : Noted). (e.0, seen_from i e.1) ∷ r) more))

left_noted : (i : Bool) (declares : List ℕ → Bool) (es t : Noted) (us : List Use) → joined es (left_by i declares (noted t us)) ≡ noted (joined es (left_by i declares t)) (leave i declares us)
left_noted i declares es t [] = refl
left_noted i declares es t (u ∷ us) = left_noted i declares es (with_name t u.name (one_use u)) us ∙ by_case (declares u.name) refl
  where
    by_case : (b : Bool) → declares u.name ≡ b → noted (joined es (left_by i declares (with_name t u.name (one_use u)))) (leave i declares us) ≡ noted (joined es (left_by i declares t)) (leave i declares (u ∷ us))
    by_case true p = rw p (ap (λ (s : Noted). noted (joined es s) (leave i declares us)) (left_declared i declares t u.name (one_use u) p))
    by_case false p =
        let other : joined es (left_by i declares (with_name t u.name (one_use u))) ≡ with_name (joined es (left_by i declares t)) u.name (seen_from i (one_use u)) =
        ap (joined es) (left_other i declares t u.name (one_use u) p) ∙ joined_name es (left_by i declares t) u.name (seen_from i (one_use u))
        in
        rw p (ap (λ (s : Noted). noted s (leave i declares us)) other)

leave_function : (bound : List (List ℕ)) (us : List Use) → leave true (λ x. is_among x bound) us ≡ leaving_function bound us
leave_function bound [] = refl
leave_function bound (u ∷ us) = by_case (is_among u.name bound) refl (leave_function bound us)
  where
    by_case : (b : Bool) → is_among u.name bound ≡ b → leave true (λ x. is_among x bound) us ≡ leaving_function bound us → leave true (λ x. is_among x bound) (u ∷ us) ≡ leaving_function bound (u ∷ us)
    by_case true p more = rw p more
    by_case false p more = rw p (ap (λ (r : List Use). record { name = u.name; assigns = u.assigns; crosses = true } ∷ r) more)

leave_clause : (x : List ℕ) (us : List Use) → leave false (λ y. is_among y (x ∷ [])) us ≡ leaving_clause x us
leave_clause x [] = refl
leave_clause x (u ∷ us) = by_case (bytes_eq u.name x) refl (leave_clause x us)
  where
    by_case : (b : Bool) → bytes_eq u.name x ≡ b → leave false (λ y. is_among y (x ∷ [])) us ≡ leaving_clause x us → leave false (λ y. is_among y (x ∷ [])) (u ∷ us) ≡ leaving_clause x (u ∷ us)
    by_case true p more = rw p more
    by_case false p more = rw p (ap (λ (r : List Use). u ∷ r) more)

-- what a function or a catch clause leaves to the scopes round it
pub left_by_function : (bound : List (List ℕ)) (es : Noted) (us : List Use) → joined es (left_by true (λ x. is_among x bound) (table_of us)) ≡ noted es (leaving_function bound us)
left_by_function bound es us = left_noted true (λ x. is_among x bound) es [] us ∙ ap (noted es) (leave_function bound us)

pub left_by_clause : (x : List ℕ) (es : Noted) (us : List Use) → joined es (left_by false (λ y. is_among y (x ∷ [])) (table_of us)) ≡ noted es (leaving_clause x us)
left_by_clause x es us = left_noted false (λ y. is_among y (x ∷ [])) es [] us ∙ ap (noted es) (leave_clause x us)

-- ---- what the uses of a name do

uses_more : (es : Noted) (x y : List ℕ) (m : NameUses) → uses_in (with_name es y m) x ≡ (if bytes_eq x y then and_more (uses_in es x) m else uses_in es x)
uses_more [] x y m = by_case (bytes_eq x y) refl
  where
    by_case : (b : Bool) → bytes_eq x y ≡ b → uses_in ((y, m) ∷ []) x ≡ (if bytes_eq x y then and_more no_uses m else no_uses)
    by_case true p = rw p refl
    by_case false p = rw p refl
uses_more (e ∷ es) x y m = by_case (bytes_eq y e.0) refl (bytes_eq x e.0) refl (uses_more es x y m)
  where
    by_case : (c : Bool) → bytes_eq y e.0 ≡ c → (b : Bool) → bytes_eq x e.0 ≡ b → uses_in (with_name es y m) x ≡ (if bytes_eq x y then and_more (uses_in es x) m else uses_in es x)
        → uses_in (with_name (e ∷ es) y m) x ≡ (if bytes_eq x y then and_more (uses_in (e ∷ es) x) m else uses_in (e ∷ es) x)
    by_case true q true p more =
        let met : bytes_eq x y ≡ true = ap (bytes_eq x) (same_of y e.0 q) ∙ p in
        rw q (rw met (rw p refl))
    by_case true q false p more =
        let far : bytes_eq x y ≡ false = ap (bytes_eq x) (same_of y e.0 q) ∙ p in
        rw q (rw far (rw p refl))
    by_case false q true p more =
        let far : bytes_eq x y ≡ false = same_symmetric x y ∙ ap (bytes_eq y) (same_of x e.0 p) ∙ q in
        rw q (rw far (rw p refl))
    by_case false q false p more = rw q (rw p more)

crosses_next : (h u b c r : Bool) → c ≡ b → ((if b then (h || u) else h) || r) ≡ (h || ((u && c) || r))
crosses_next h u b c r e = rw e (by h u b r)
  where
    by : (h u b r : Bool) → ((if b then (h || u) else h) || r) ≡ (h || ((u && b) || r))
    by true u true r = refl
    by true u false r = refl
    by false true true r = refl
    by false true false r = refl
    by false false true r = refl
    by false false false r = refl

crosses_if : (b : Bool) (s t : NameUses) → (if b then s else t).crosses ≡ (if b then s.crosses else t.crosses)
crosses_if true s t = refl
crosses_if false s t = refl

assigns_if : (b : Bool) (s t : NameUses) → (if b then s else t).assigns ≡ (if b then s.assigns else t.assigns)
assigns_if true s t = refl
assigns_if false s t = refl

again_if : (b : Bool) (s t : NameUses) → (if b then s else t).again ≡ (if b then s.again else t.again)
again_if true s t = refl
again_if false s t = refl

captured_more : (es : Noted) (us : List Use) (x : List ℕ) → (uses_in (noted es us) x).crosses ≡ ((uses_in es x).crosses || is_captured x us)
captured_more es [] x = sym (or-false (uses_in es x).crosses)
captured_more es (u ∷ us) x =
    captured_more (with_name es u.name (one_use u)) us x
    ∙ ap (λ (w : NameUses). w.crosses || is_captured x us) (uses_more es x u.name (one_use u))
    ∙ ap (λ (b : Bool). b || is_captured x us) (crosses_if (bytes_eq x u.name) (and_more (uses_in es x) (one_use u)) (uses_in es x))
    ∙ crosses_next (uses_in es x).crosses u.crosses (bytes_eq x u.name) (bytes_eq u.name x) (is_captured x us) (same_symmetric u.name x)

assigned_more : (es : Noted) (us : List Use) (x : List ℕ) → (uses_in (noted es us) x).assigns ≡ ((uses_in es x).assigns || is_assigned x us)
assigned_more es [] x = sym (or-false (uses_in es x).assigns)
assigned_more es (u ∷ us) x =
    assigned_more (with_name es u.name (one_use u)) us x
    ∙ ap (λ (w : NameUses). w.assigns || is_assigned x us) (uses_more es x u.name (one_use u))
    ∙ ap (λ (b : Bool). b || is_assigned x us) (assigns_if (bytes_eq x u.name) (and_more (uses_in es x) (one_use u)) (uses_in es x))
    ∙ crosses_next (uses_in es x).assigns u.assigns (bytes_eq x u.name) (bytes_eq u.name x) (is_assigned x us) (same_symmetric u.name x)

-- the name is assigned to more than once
abbrev twice : List ℕ → List Use → Bool
twice x [] = false
twice x (u ∷ us) = ((u.assigns && bytes_eq u.name x) && is_assigned x us) || twice x us

more_again : (a u r g t : Bool) → ((((a && u) || (g || false)) || ((a || u) && r)) || t) ≡ ((g || (a && (u || r))) || ((u && r) || t))
more_again true true true true true = refl
more_again true true true true false = refl
more_again true true true false true = refl
more_again true true true false false = refl
more_again true true false true true = refl
more_again true true false true false = refl
more_again true true false false true = refl
more_again true true false false false = refl
more_again true false true true true = refl
more_again true false true true false = refl
more_again true false true false true = refl
more_again true false true false false = refl
more_again true false false true true = refl
more_again true false false true false = refl
more_again true false false false true = refl
more_again true false false false false = refl
more_again false true true true true = refl
more_again false true true true false = refl
more_again false true true false true = refl
more_again false true true false false = refl
more_again false true false true true = refl
more_again false true false true false = refl
more_again false true false false true = refl
more_again false true false false false = refl
more_again false false true true true = refl
more_again false false true true false = refl
more_again false false true false true = refl
more_again false false true false false = refl
more_again false false false true true = refl
more_again false false false true false = refl
more_again false false false false true = refl
more_again false false false false false = refl

none_again : (g a : Bool) → g ≡ ((g || (a && false)) || false)
none_again true a = refl
none_again false true = refl
none_again false false = refl

again_next : (a u g b c r t : Bool) → c ≡ b → (((if b then ((a && u) || (g || false)) else g) || ((if b then (a || u) else a) && r)) || t) ≡ ((g || (a && ((u && c) || r))) || (((u && c) && r) || t))
again_next a u g b c r t e = rw e (by b a u)
  where
    by : (b a u : Bool) → (((if b then ((a && u) || (g || false)) else g) || ((if b then (a || u) else a) && r)) || t) ≡ ((g || (a && ((u && b) || r))) || (((u && b) && r) || t))
    by true a true = more_again a true r g t
    by true a false = more_again a false r g t
    by false a true = refl
    by false a false = refl

again_more : (es : Noted) (us : List Use) (x : List ℕ) → (uses_in (noted es us) x).again ≡ (((uses_in es x).again || ((uses_in es x).assigns && is_assigned x us)) || twice x us)
again_more es [] x = none_again (uses_in es x).again (uses_in es x).assigns
again_more es (u ∷ us) x =
    again_more (with_name es u.name (one_use u)) us x
    ∙ ap (λ (w : NameUses). (w.again || (w.assigns && is_assigned x us)) || twice x us) (uses_more es x u.name (one_use u))
    ∙ (λ j. (again_if b s t j || (assigns_if b s t j && is_assigned x us)) || twice x us)
    ∙ again_next (uses_in es x).assigns u.assigns (uses_in es x).again b (bytes_eq u.name x) (is_assigned x us) (twice x us) (same_symmetric u.name x)
  where
    b : Bool
    b = bytes_eq x u.name

    s : NameUses
    s = and_more (uses_in es x) (one_use u)

    t : NameUses
    t = uses_in es x

twice_assigns : (x : List ℕ) (us : List Use) → twice x us ≡ true → is_assigned x us ≡ true
twice_assigns x [] h = cc h
twice_assigns x (u ∷ us) h = by_case (u.assigns && bytes_eq u.name x) refl (twice_assigns x us)
  where
    by_case : (b : Bool) → (u.assigns && bytes_eq u.name x) ≡ b → (twice x us ≡ true → is_assigned x us ≡ true) → is_assigned x (u ∷ us) ≡ true
    by_case true p more = rw p refl
    by_case false p more = rw p (more (rw p at h))

not_more : (a t : Bool) → (t ≡ true → a ≡ true) → not a ≡ not (a || t)
not_more true t h = refl
not_more false true h = cc (h refl)
not_more false false h = refl

once_is : (x : List ℕ) (us : List Use) → is_assigned_once x us ≡ (is_assigned x us && not (twice x us))
once_is x [] = refl
once_is x (u ∷ us) = by_case (u.assigns && bytes_eq u.name x) refl (once_is x us)
  where
    by_case : (b : Bool) → (u.assigns && bytes_eq u.name x) ≡ b → is_assigned_once x us ≡ (is_assigned x us && not (twice x us)) → is_assigned_once x (u ∷ us) ≡ (is_assigned x (u ∷ us) && not (twice x (u ∷ us)))
    by_case true p more = rw p (not_more (is_assigned x us) (twice x us) (twice_assigns x us))
    by_case false p more = rw p more

pub captured_in : (es : Noted) (us : List Use) (x : List ℕ) → es ≡ table_of us → (uses_in es x).crosses ≡ is_captured x us
captured_in es us x e = ap (λ (t : Noted). (uses_in t x).crosses) e ∙ captured_more [] us x

pub assigned_in : (es : Noted) (us : List Use) (x : List ℕ) → es ≡ table_of us → (uses_in es x).assigns ≡ is_assigned x us
assigned_in es us x e = ap (λ (t : Noted). (uses_in t x).assigns) e ∙ assigned_more [] us x

pub assigned_once_in : (es : Noted) (us : List Use) (x : List ℕ) → es ≡ table_of us → ((uses_in es x).assigns && not (uses_in es x).again) ≡ is_assigned_once x us
assigned_once_in es us x e =
    (λ j. assigned_in es us x e j && not ((ap (λ (t : Noted). (uses_in t x).again) e ∙ again_more [] us x) j)) ∙ sym (once_is x us)

-- ---- the names that are used

any_name : (p : List ℕ → Bool) (es : Noted) (y : List ℕ) (m : NameUses) → list_any p (keys_of (with_name es y m)) ≡ (list_any p (keys_of es) || p y)
any_name p [] y m = or-false (p y)
any_name p (e ∷ es) y m = by_case (bytes_eq y e.0) refl (any_name p es y m)
  where
    kept : (a k : Bool) → (a || k) ≡ ((a || k) || a)
    kept true k = refl
    kept false k = sym (or-false k)

    by_case : (c : Bool) → bytes_eq y e.0 ≡ c → list_any p (keys_of (with_name es y m)) ≡ (list_any p (keys_of es) || p y) → list_any p (keys_of (with_name (e ∷ es) y m)) ≡ (list_any p (keys_of (e ∷ es)) || p y)
    by_case true q more = rw q (kept (p e.0) (list_any p (keys_of es)) ∙ ap (λ z. (p e.0 || list_any p (keys_of es)) || p z) (sym (same_of y e.0 q)))
    by_case false q more = rw q (ap (λ (r : Bool). p e.0 || r) more ∙ sym (or_assoc (p e.0) (list_any p (keys_of es)) (p y)))

any_noted : (p : List ℕ → Bool) (es : Noted) (us : List Use) → list_any p (keys_of (noted es us)) ≡ (list_any p (keys_of es) || list_any (λ u. p u.name) us)
any_noted p es [] = sym (or-false (list_any p (keys_of es)))
any_noted p es (u ∷ us) =
    any_noted p (with_name es u.name (one_use u)) us ∙ ap (λ (b : Bool). b || list_any (λ v. p v.name) us) (any_name p es u.name (one_use u))
    ∙ or_assoc (list_any p (keys_of es)) (p u.name) (list_any (λ v. p v.name) us)

pub any_reserved : (es : Noted) (us : List Use) → es ≡ table_of us → list_any is_reserved (keys_of es) ≡ list_any (λ u. is_reserved u.name) us
any_reserved es us e = ap (λ (t : Noted). list_any is_reserved (keys_of t)) e ∙ any_noted is_reserved [] us

keys_with : (es : Noted) (y : List ℕ) (m : NameUses) → keys_of (with_name es y m) ≡ insert_key bytes_eq (keys_of es) y
keys_with [] y m = refl
keys_with (e ∷ es) y m = by_case (bytes_eq y e.0) refl (is_among y (keys_of es)) refl (keys_with es y m)
  where
    by_case : (c : Bool) → bytes_eq y e.0 ≡ c → (d : Bool) → is_among y (keys_of es) ≡ d → keys_of (with_name es y m) ≡ insert_key bytes_eq (keys_of es) y → keys_of (with_name (e ∷ es) y m) ≡ insert_key bytes_eq (keys_of (e ∷ es)) y
    by_case true q d r more = rw q refl
    by_case false q true r more = rw q (rw r (ap (λ (ks : List (List ℕ)). e.0 ∷ ks) (more ∙ rw r refl)))
    by_case false q false r more = rw q (rw r (ap (λ (ks : List (List ℕ)). e.0 ∷ ks) (more ∙ rw r refl)))

keys_noted : (es : Noted) (us : List Use) → keys_of (noted es us) ≡ insert_all bytes_eq (keys_of es) (map (λ u. u.name) us)
keys_noted es [] = refl
keys_noted es (u ∷ us) = keys_noted (with_name es u.name (one_use u)) us ∙ ap (λ (ks : List (List ℕ)). insert_all bytes_eq ks (map (λ v. v.name) us)) (keys_with es u.name (one_use u))

filter_last : (p : List ℕ → Bool) (ks : List (List ℕ)) (x : List ℕ) → filter p (ks ++ x ∷ []) ≡ filter p ks ++ filter p (x ∷ [])
filter_last p [] x = refl
filter_last p (k ∷ ks) x = by_case (p k) refl (filter_last p ks x)
  where
    by_case : (b : Bool) → p k ≡ b → filter p (ks ++ x ∷ []) ≡ filter p ks ++ filter p (x ∷ []) → filter p ((k ∷ ks) ++ x ∷ []) ≡ filter p (k ∷ ks) ++ filter p (x ∷ [])
    by_case true h more = rw h (ap (λ (r : List (List ℕ)). k ∷ r) more)
    by_case false h more = rw h more

among_filtered : (p : List ℕ → Bool) (ks : List (List ℕ)) (x : List ℕ) → p x ≡ true → is_among x (filter p ks) ≡ is_among x ks
among_filtered p [] x h = refl
among_filtered p (k ∷ ks) x h = by_case (p k) refl (bytes_eq x k) refl (among_filtered p ks x h)
  where
    by_case : (b : Bool) → p k ≡ b → (c : Bool) → bytes_eq x k ≡ c → is_among x (filter p ks) ≡ is_among x ks → is_among x (filter p (k ∷ ks)) ≡ is_among x (k ∷ ks)
    by_case true q c r more = rw q (ap (λ (d : Bool). bytes_eq x k || d) more)
    by_case false q true r more = cc (sym h ∙ ap p (same_of x k r) ∙ q)
    by_case false q false r more = rw q (rw r more)

filter_inserted : (p : List ℕ → Bool) (ks : List (List ℕ)) (x : List ℕ) → filter p (insert_key bytes_eq ks x) ≡ insert_all bytes_eq (filter p ks) (filter p (x ∷ []))
filter_inserted p ks x = by_case (p x) refl (is_among x ks) refl
  where
    by_case : (b : Bool) → p x ≡ b → (d : Bool) → is_among x ks ≡ d → filter p (insert_key bytes_eq ks x) ≡ insert_all bytes_eq (filter p ks) (filter p (x ∷ []))
    by_case true h true r = rw r (rw h (rw (among_filtered p ks x h ∙ r) refl))
    by_case true h false r = rw r (filter_last p ks x ∙ rw h (rw (among_filtered p ks x h ∙ r) refl))
    by_case false h true r = rw r (rw h refl)
    by_case false h false r = rw r (filter_last p ks x ∙ rw h (append-nil (filter p ks)))

insert_more : (ks xs ys : List (List ℕ)) → insert_all bytes_eq ks (xs ++ ys) ≡ insert_all bytes_eq (insert_all bytes_eq ks xs) ys
insert_more ks [] ys = refl
insert_more ks (x ∷ xs) ys = insert_more (insert_key bytes_eq ks x) xs ys

filter_all : (p : List ℕ → Bool) (ks xs : List (List ℕ)) → filter p (insert_all bytes_eq ks xs) ≡ insert_all bytes_eq (filter p ks) (filter p xs)
filter_all p ks [] = refl
filter_all p ks (x ∷ xs) =
    filter_all p (insert_key bytes_eq ks x) xs ∙ ap (λ (zs : List (List ℕ)). insert_all bytes_eq zs (filter p xs)) (filter_inserted p ks x)
    ∙ by_case (p x) refl
  where
    by_case : (b : Bool) → p x ≡ b → insert_all bytes_eq (insert_all bytes_eq (filter p ks) (filter p (x ∷ []))) (filter p xs) ≡ insert_all bytes_eq (filter p ks) (filter p (x ∷ xs))
    by_case true h = rw h refl
    by_case false h = rw h refl

-- the names among them that begin with `$$`, each once
pub reserved_names : (us : List Use) → filter is_reserved (keys_of (table_of us)) ≡ once_each (filter is_reserved (map (λ u. u.name) us))
reserved_names us = ap (filter is_reserved) (keys_noted [] us) ∙ filter_all is_reserved [] (map (λ u. u.name) us)

-- the variables that a function needs, from what it leaves
pub needed_names : (own : Option (List ℕ)) (c : tree.Code) (left : Noted) (names : List (List ℕ)) → left ≡ table_of (leaving_function (maybe_name own ++ bound_names c) (stmts_uses (code_body c)))
    → names ≡ filter is_reserved (keys_of left) → names ≡ needed_variables (code own (code_formals c) (code_body c))
needed_names own (code x formals body) left names e is =
    is ∙ ap (λ (t : Noted). filter is_reserved (keys_of t)) e ∙ reserved_names (leaving_function (maybe_name own ++ bound_names (code x formals body)) (stmts_uses body))
