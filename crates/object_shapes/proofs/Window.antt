-- The global object keeps its built-in properties, whatever is done to the others.
use Rattle.std.proofs.Common.{◌≡◌, refl, sym, ap, ◌∙◌, ℕ, Bool, true, false, ◌&&◌, ◌||◌, is_some, is_none, List, [], ◌∷◌, ◌++◌, append_assoc, Option, Some, None, bytes_eq}
use Rattle.std.proofs.lemmas.Bool.{and_from, and_parts}
use Rattle.std.proofs.lemmas.Slice.Eq.{bytes_eq-Decides}
use Rattle.std.specs.List.{list_all}
use Rattle.std.specs.Map.{lookup, remove_entry, set_value}
use Rattle.global_names.specs.Names.{global_names, names_global}
use Rattle.object_heap.specs.Define.{is_closed_at}
use Rattle.object_heap.specs.Object.{is_window, Object}
use Rattle.object_heap.specs.Property.{Props, own_property, with_property, without_property}
use Rattle.object_heap.specs.declared.property.Prop.{Prop}
use Rattle.page_meaning.specs.Places.{window}
use Rattle.object_shapes.specs.Shapes.{IsWindow, built_in_at}
use Rattle.object_shapes.proofs.Rules.{Rules}

-- these come first, and no other has the name of one
pub record Leads (lead ps : Props) : Type 0 where
  pub others : Props
  pub are : ps ≡ lead ++ others
  pub own : list_all (λ e. is_none (own_property lead e.0)) others ≡ true

-- ---- lists

module _ (test : List ℕ → Bool) where
  found_later : (ps others : Props) → lookup test ps ≡ None → lookup test (ps ++ others) ≡ lookup test others
  found_later [] others h = refl
  found_later (e ∷ es) others h = by_case (test e.0) refl (found_later es others)
    where
      by_case : (b : Bool) → test e.0 ≡ b → (lookup test es ≡ None → lookup test (es ++ others) ≡ lookup test others)
          → lookup test ((e ∷ es) ++ others) ≡ lookup test others
      by_case true g more = cc (rw g at h)
      by_case false g more = rw g (more (rw g at h))

  found_early : (ps others : Props) (p : Prop) → lookup test ps ≡ Some p → lookup test (ps ++ others) ≡ Some p
  found_early [] others p h = cc h
  found_early (e ∷ es) others p h = by_case (test e.0) refl (found_early es others p)
    where
      by_case : (b : Bool) → test e.0 ≡ b → (lookup test es ≡ Some p → lookup test (es ++ others) ≡ Some p)
          → lookup test ((e ∷ es) ++ others) ≡ Some p
      by_case true g more = rw g (rw g at h)
      by_case false g more = rw g (more (rw g at h))

  set_later : (ps others : Props) (q : Prop) → lookup test ps ≡ None → set_value test (ps ++ others) q ≡ ps ++ set_value test others q
  set_later [] others q h = refl
  set_later (e ∷ es) others q h = by_case (test e.0) refl (set_later es others q)
    where
      by_case : (b : Bool) → test e.0 ≡ b → (lookup test es ≡ None → set_value test (es ++ others) q ≡ es ++ set_value test others q)
          → set_value test ((e ∷ es) ++ others) q ≡ (e ∷ es) ++ set_value test others q
      by_case true g more = cc (rw g at h)
      by_case false g more = rw g (ap (λ (zs : Props). e ∷ zs) (more (rw g at h)))

  removed_later : (ps others : Props) → lookup test ps ≡ None → remove_entry test (ps ++ others) ≡ ps ++ remove_entry test others
  removed_later [] others h = refl
  removed_later (e ∷ es) others h = by_case (test e.0) refl (removed_later es others)
    where
      by_case : (b : Bool) → test e.0 ≡ b → (lookup test es ≡ None → remove_entry test (es ++ others) ≡ es ++ remove_entry test others)
          → remove_entry test ((e ∷ es) ++ others) ≡ (e ∷ es) ++ remove_entry test others
      by_case true g more = cc (rw g at h)
      by_case false g more = rw g (ap (λ (zs : Props). e ∷ zs) (more (rw g at h)))

  -- a test of names
  module _ (f : List ℕ → Bool) where
    pub all_set : (ps : Props) (q : Prop) → list_all (λ e. f e.0) ps ≡ true → list_all (λ e. f e.0) (set_value test ps q) ≡ true
    all_set [] q h = refl
    all_set (e ∷ es) q h = by_case (test e.0) refl (all_set es q (and_parts (f e.0) (list_all (λ x. f x.0) es) h).1)
      where
        by_case : (b : Bool) → test e.0 ≡ b → list_all (λ x. f x.0) (set_value test es q) ≡ true
            → list_all (λ x. f x.0) (set_value test (e ∷ es) q) ≡ true
        by_case true g more = rw g h
        by_case false g more = rw g (and_from (f e.0) _ (and_parts (f e.0) (list_all (λ x. f x.0) es) h).0 more)

    pub all_removed : (ps : Props) → list_all (λ e. f e.0) ps ≡ true → list_all (λ e. f e.0) (remove_entry test ps) ≡ true
    all_removed [] h = refl
    all_removed (e ∷ es) h = by_case (test e.0) refl (all_removed es (and_parts (f e.0) (list_all (λ x. f x.0) es) h).1)
      where
        by_case : (b : Bool) → test e.0 ≡ b → list_all (λ x. f x.0) (remove_entry test es) ≡ true
            → list_all (λ x. f x.0) (remove_entry test (e ∷ es)) ≡ true
        by_case true g more = rw g (and_parts (f e.0) (list_all (λ x. f x.0) es) h).1
        by_case false g more = rw g (and_from (f e.0) _ (and_parts (f e.0) (list_all (λ x. f x.0) es) h).0 more)

pub all_added : (f : List ℕ → Bool) (ps : Props) (name : List ℕ) (p : Prop) → list_all (λ e. f e.0) ps ≡ true → f name ≡ true
    → list_all (λ e. f e.0) (ps ++ (name, p) ∷ []) ≡ true
all_added f [] name p h g = and_from (f name) true g refl
all_added f (e ∷ es) name p h g =
    let both = and_parts (f e.0) (list_all (λ x. f x.0) es) h in
    and_from (f e.0) (list_all (λ x. f x.0) (es ++ (name, p) ∷ [])) both.0 (all_added f es name p both.1 g)

-- a test that all names pass
name_passes : (f : List ℕ → Bool) (ps : Props) (name : List ℕ) (p : Prop) → list_all (λ e. f e.0) ps ≡ true → own_property ps name ≡ Some p
    → f name ≡ true
name_passes f [] name p h found = cc found
name_passes f (e ∷ es) name p h found = by_case (bytes_eq name e.0) refl
    (name_passes f es name p (and_parts (f e.0) (list_all (λ x. f x.0) es) h).1)
  where
    by_case : (b : Bool) → bytes_eq name e.0 ≡ b → (own_property es name ≡ Some p → f name ≡ true) → f name ≡ true
    by_case true g more = ap f ((bytes_eq-Decides name e.0).0 g) ∙ (and_parts (f e.0) (list_all (λ x. f x.0) es) h).0
    by_case false g more = more (rw g at found)

-- ---- edits of the others

closed_here : (a b c d : Bool) → b ≡ true → c ≡ true → d ≡ true → (a || (b && (c && d))) ≡ true
closed_here true b c d p q r = refl
closed_here false b c d p q r = and_from b (c && d) p (and_from c d q r)

module _ (lead : Props) where
  abbrev pub IsOther : List ℕ → Type 0
  IsOther name = own_property lead name ≡ None

  pub leads_rules : (n : ℕ) → Rules n false IsOther (Leads lead)
  leads_rules n = record {
    length = λ list. absurd (cc list);
    adds = λ ps name p a none small h. record {
      others = h.others ++ (name, p) ∷ [];
      are = ap (λ (zs : Props). zs ++ (name, p) ∷ []) h.are ∙ append_assoc lead h.others ((name, p) ∷ []);
      own = all_added (λ x. is_none (own_property lead x)) h.others name p h.own (ap is_none a);
    };
    sets = λ ps name p q a there fits small h. record {
      others = with_property h.others name q;
      are = ap (λ (zs : Props). with_property zs name q) h.are ∙ set_later (bytes_eq name) lead h.others q a;
      own = all_set (bytes_eq name) (λ x. is_none (own_property lead x)) h.others q h.own;
    };
    removes = λ ps name p a there may h. record {
      others = without_property h.others name;
      are = ap (λ (zs : Props). without_property zs name) h.are ∙ removed_later (bytes_eq name) lead h.others a;
      own = all_removed (bytes_eq name) (λ x. is_none (own_property lead x)) h.others h.own;
    };
    filters = λ end ps list h. absurd (cc list);
  }

  -- a place that is not closed has the name of another property, where these are the global ones
  pub open_is_other : (o : Object) (name : List ℕ) → list_all (λ e. names_global e.0) lead ≡ true → is_window o.class ≡ true → Leads lead o.props
      → is_closed_at o name ≡ false → IsOther name
  open_is_other o name globals is_global h free = by_case (own_property lead name) refl
    where
      by_case : (own : Option Prop) → own_property lead name ≡ own → own_property lead name ≡ None
      by_case None e = e
      by_case (Some p) e =
          let there : own_property o.props name ≡ Some p = ap (λ (zs : Props). own_property zs name) h.are ∙ found_early
          (bytes_eq name) lead h.others p e in
          absurd (cc (sym free ∙ closed_here (o.closed) (is_window o.class) (names_global name) (is_some (own_property o.props name)) is_global
          (name_passes names_global lead name p globals e) (ap is_some there)))

-- ---- the global object

all_global : list_all (λ e. names_global e.0) (built_in_at window.0).props ≡ true
unfolding global_names
all_global = refl

pub window_leads : (o : Object) → IsWindow o → Leads (built_in_at window.0).props o.props
window_leads o h = record { others = h.others; are = h.props; own = h.own }

pub window_open : (o : Object) (name : List ℕ) → IsWindow o → is_closed_at o name ≡ false → own_property (built_in_at window.0).props name ≡ None
window_open o name h free = open_is_other (built_in_at window.0).props o name all_global (ap is_window h.class) (window_leads o h) free
