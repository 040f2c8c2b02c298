-- What a page at rest refers to is known: the page begins with it, or reaches it. What is known by the same place in two pages corresponds.
use Rattle.std.proofs.Common.{◌≡◌, inl, inr, sym, ap, subst, ◌∙◌, ℕ, ◌+◌, ◌≤◌, true, List, length, arith}
use Rattle.heap_relations.specs.Naming.{In, pair}
use Rattle.heap_walker.proofs.Callers.{among_all, document_among, global_among, link_reached, root_reached, timers_among}
use Rattle.heap_walker.specs.Still.{Still}
use Rattle.heap_walker.specs.Things.{globals_of, is_in, links, roots, timers_links}
use Rattle.object_shapes.specs.Links.{props_links}
use Rattle.page_meaning.specs.Places.{document}
use Rattle.page_meaning.specs.Store.{Store}
use Rattle.rebuild_plan.specs.Compact.{place_of}
use Rattle.rebuild_plan.specs.Moved.{first_thing}
use Rattle.rebuilding.proofs.Callers.{AreKnown, AreYoung, IsKnown, number_at, paired, place_in, place_low}
use Rattle.rebuilding.specs.Rebuilt.{nth}
use Rattle.page_agreement.proofs.Pairs.{young}
use Rattle.page_agreement.specs.Agree.{AreReached, Corresponds, built_in, pairs, thing}

-- ---- what a page at rest refers to

module _ (s : Store) (ks : List ℕ) (still : Still s) (all : AreReached s ks) where
  pub thing_links : (k : ℕ) → is_in k ks ≡ true → AreKnown ks (links s k)
  thing_links k found j h = among_all s ks all.complete j (link_reached s still k (all.sound k found) j h)

  root_links : AreKnown ks (roots s)
  root_links j h = among_all s ks all.complete j (root_reached s still j h)

  pub document_links : AreKnown ks (links s document.0)
  document_links j h = root_links j (document_among s j h)

  pub global_links : AreKnown ks (props_links (globals_of s))
  global_links j h = root_links j (global_among s j h)

  pub timer_links : AreKnown ks (timers_links s.host.timers)
  timer_links j h = root_links j (timers_among s j h)

  pub all_young : AreYoung ks
  all_young n inside = young s ks all (nth ks n) (place_in ks n inside)

-- ---- the same place in two pages

module _ (ks js : List ℕ) (count : length js ≡ length ks) (old : AreYoung ks) (new : AreYoung js) where
  -- a thing has no place of what a page begins with
  place_past : (xs : List ℕ) (a : ℕ) → is_in a xs ≡ true → first_thing ≤ place_of xs a
  place_past xs a found = let n = number_at xs a found in omega (arith, n.1)

  pub same_place : (a b : ℕ) → IsKnown ks a → IsKnown js b → place_of ks a ≡ place_of js b → Corresponds (pairs ks js) a b
  same_place a b (inl low) (inl small) e = built_in (sym (place_low ks a old low) ∙ e ∙ place_low js b new small) low
  same_place a b (inl low) (inr found) e =
      let at = place_low ks a old low in
      absurd (omega (arith, low, at, e, place_past js b found))
  same_place a b (inr found) (inl small) e =
      let at = place_low js b new small in
      absurd (omega (arith, small, at, e, place_past ks a found))
  same_place a b (inr found) (inr other) e =
      let n = number_at ks a found in
      let k = number_at js b other in
      let equal : first_thing + n.0 ≡ first_thing + k.0 = sym n.1 ∙ e ∙ k.1 in
      let number : n.0 ≡ k.0 = omega (arith, equal) in
      let one : nth ks n.0 ≡ a = n.3 in
      let two : nth js n.0 ≡ b = ap (nth js) number ∙ k.3 in
      thing
      (subst (λ x. In (pair x b) (pairs ks js)) one (subst (λ y. In (pair (nth ks n.0) y) (pairs ks js)) two (paired ks js n.0 n.2 count)))
