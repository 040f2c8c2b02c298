-- Pieces that are put one after another.
use Rattle.std.proofs.Common.{◌≡◌, ℕ, zero, suc, List, [], ◌∷◌, ◌++◌, length, take, Option, Some, None, Result, Ok, Err, refl, sym, ap, ◌∙◌, subst, append-nil, append_assoc}
use Rattle.std.specs.Prelude.{OnOk, OnErr}
use Rattle.std.proofs.Common.{inl, inr}
use Rattle.page_io.specs.declared.sink.PutFault.{PutFault}
use Rattle.page_io.specs.declared.sink.PutFault.TheVariants.{Failed}
use Rattle.page_io.specs.Seen.{SinkSeen}
use Rattle.page_io.specs.Taken.{Takes, TakesFront}
use Rattle.std.specs.Fmt.{decimal}
use Rattle.std.specs.Prelude.{codes}
use Rattle.heap_walker.specs.declared.weight.Weight.{Weight}
use Rattle.outcomes.specs.declared.status.Status.TheVariants.{TooLarge}
use Rattle.outcomes.specs.Notes.{note_of, script_note, script_start, things_start, PutWhole, PutFront, PutCounts, Noted}

-- a front of a piece is a front of the piece and what follows
front_of_more : (n : ℕ) (p more : List ℕ) → (m : ℕ) × (take n p ≡ take m (p ++ more))
front_of_more zero p more = (0, refl)
front_of_more (suc n) [] more = (0, refl)
front_of_more (suc n) (u ∷ p) more = let h = front_of_more n p more in (suc h.0, ap (λ (w : List ℕ). u ∷ w) h.1)

pub front_before : (before now : Option (List ℕ)) (p more : List ℕ) → TakesFront before now p → TakesFront before now (p ++ more)
front_before None None p more h = tt
front_before (Some old) (Some new) p more h = let f = front_of_more h.0 p more in (f.0, h.1 ∙ ap (λ (w : List ℕ). old ++ w) f.1)
front_before None (Some new) p more h = absurd h
front_before (Some old) None p more h = absurd h

-- a front of what follows, behind a whole piece
behind_piece : (n : ℕ) (p more : List ℕ) → (m : ℕ) × (p ++ take n more ≡ take m (p ++ more))
behind_piece n [] more = (n, refl)
behind_piece n (u ∷ p) more = let h = behind_piece n p more in (suc h.0, ap (λ (w : List ℕ). u ∷ w) h.1)

pub front_after : (before mid now : Option (List ℕ)) (p more : List ℕ) → Takes before mid p → TakesFront mid now more
    → TakesFront before now (p ++ more)
front_after None None None p more h g = tt
front_after (Some old) (Some mid) (Some new) p more h g =
    let f = behind_piece g.0 p more in
    (f.0, g.1 ∙ ap (λ (w : List ℕ). w ++ take g.0 more) h ∙ append_assoc old p (take g.0 more) ∙ ap (λ (w : List ℕ). old ++ w) f.1)
front_after None (Some mid) now p more h g = absurd h
front_after (Some old) None now p more h g = absurd h
front_after None None (Some new) p more h g = absurd g
front_after (Some old) (Some mid) None p more h g = absurd g

pub takes_both : (before mid now : Option (List ℕ)) (p more : List ℕ) → Takes before mid p → Takes mid now more → Takes before now (p ++ more)
takes_both None None None p more h g = tt
takes_both (Some old) (Some mid) (Some new) p more h g = g ∙ ap (λ (w : List ℕ). w ++ more) h ∙ append_assoc old p more
takes_both None (Some mid) now p more h g = absurd h
takes_both (Some old) None now p more h g = absurd h
takes_both None None (Some new) p more h g = absurd g
takes_both (Some old) (Some mid) None p more h g = absurd g

take_all : (xs : List ℕ) → xs ≡ take (length xs) xs
take_all [] = refl
take_all (x ∷ xs) = ap (λ (w : List ℕ). x ∷ w) (take_all xs)

pub front_of_whole : (before now : Option (List ℕ)) (p : List ℕ) → Takes before now p → TakesFront before now p
front_of_whole None None p h = tt
front_of_whole (Some old) (Some new) p h = (length p, h ∙ ap (λ (w : List ℕ). old ++ w) (take_all p))
front_of_whole None (Some new) p h = absurd h
front_of_whole (Some old) None p h = absurd h

-- a note that was put as far as that went
pub noted : (r : Result (Unit {0}) PutFault) (note : List ℕ) (before now : SinkSeen) → PutWhole before now note r → PutFront before now note r
    → PutCounts before now r → Noted note before now
noted (Ok a) note before now ok err counts = record { front = front_of_whole before.taken now.taken note ok; whole = inr ok }
noted (Err Failed) note before now ok err counts = record { front = err; whole = inl (counts.rose refl) }

-- the second of two pieces was put
pub second_fault : (r : Result (Unit {0}) PutFault) (before mid now : Option (List ℕ)) (p more : List ℕ) → Takes before mid p
    → OnErr r (TakesFront mid now more) → OnErr r (TakesFront before now (p ++ more))
second_fault (Ok a) before mid now p more h g = tt
second_fault (Err e) before mid now p more h g = front_after before mid now p more h g

pub second_ok : (r : Result (Unit {0}) PutFault) (before mid now : Option (List ℕ)) (p more : List ℕ) → Takes before mid p
    → OnOk r (Takes mid now more) → OnOk r (Takes before now (p ++ more))
second_ok (Ok a) before mid now p more h g = takes_both before mid now p more h g
second_ok (Err e) before mid now p more h g = tt

-- two pieces that are a note
pub note_second_ok : (r : Result (Unit {0}) PutFault) (before mid now : Option (List ℕ)) (p more note : List ℕ) → p ++ more ≡ note
    → Takes before mid p → OnOk r (Takes mid now more) → OnOk r (Takes before now note)
note_second_ok r before mid now p more note e h g =
    subst (λ (text : List ℕ). OnOk r (Takes before now text)) e (second_ok r before mid now p more h g)

pub note_second_fault : (r : Result (Unit {0}) PutFault) (before mid now : Option (List ℕ)) (p more note : List ℕ) → p ++ more ≡ note
    → Takes before mid p → OnErr r (TakesFront mid now more) → OnErr r (TakesFront before now note)
note_second_fault r before mid now p more note e h g =
    subst (λ (text : List ℕ). OnErr r (TakesFront before now text)) e (second_fault r before mid now p more h g)

pub note_front : (before now : Option (List ℕ)) (p more note : List ℕ) → p ++ more ≡ note → TakesFront before now p → TakesFront before now note
note_front before now p more note e h = subst (λ (text : List ℕ). TakesFront before now text) e (front_before before now p more h)

-- the pieces of the note of a script that is refused
pub script_pieces : (k : ℕ) (cause : List ℕ) → script_start k ++ (cause ++ codes "\n") ≡ script_note k cause
script_pieces k cause = simp append_assoc

-- those for an early rule
pub early_pieces : (k n : ℕ) → script_start k ++ (codes "early error " ++ decimal n ++ codes "\n") ≡ script_note k (codes "early error " ++ decimal n)
early_pieces k n = script_pieces k (codes "early error " ++ decimal n)

-- those for a page that is too large
pub weight_pieces : (w : Weight) → things_start w.things ++ (decimal w.text ++ codes " text\n") ≡ note_of (TooLarge w)
weight_pieces w = simp append_assoc

-- nothing is put
none_taken : (taken : Option (List ℕ)) → Takes taken taken []
none_taken None = tt
none_taken (Some bytes) = sym (append-nil bytes)

pub nothing_noted : (s : SinkSeen) → Noted [] s s
nothing_noted s = record { front = front_of_whole s.taken s.taken [] (none_taken s.taken); whole = inr (none_taken s.taken) }
