use Rattle.std.proofs.Common.{◌∙◌, ◌++◌, ◌∷◌, [], ap, map}
use Rattle.indexmap.specs.IndexSet.{insert_key}
use Rattle.std.proofs.Common.{bytes_eq}
use Rattle.object_heap.specs.Define.{length_name}
use Rattle.page_meaning.specs.Loops.{listed_up, unit_names}
use Rattle.page_meaning.specs.Places.{string_prototype, string_prototype_place}
use Rattle.page_state.proofs.Visits.{units_seen}
use Rattle.page_state.proofs.state.State.listed_of_text.Goals as goal

pub returns : goal.returns
unfolding string_prototype_place
returns c =
    let units = unit_names 0 c.args.text.now in
    let named = c.in_ok-names.ensures ∙ ap (unit_names 0) c.as_slice.ensures.value in
    let first = c.in_ok-insert.ensures.keys ∙ ap (λ ks. insert_key bytes_eq ks c.in_ok-ascii_text.field-0) c.new-seen.ensures.empty ∙ ap (λ x. x ∷ []) c.in_ok-ascii_text.ensures in
    c.in_ok-push_up.ensures (length_name ∷ map (λ p. p.1) units)
    (units_seen c.as_slice-2.result.now units length_name c.insert.new.self.keys c.add_units.new.seen.keys first (c.as_slice-2.ensures.value ∙ named) c.in_ok-add_units.ensures)
    ∙ ap (λ ns. ns ++ listed_up c.args.self.now (length_name ∷ map (λ p. p.1) units) string_prototype) named
