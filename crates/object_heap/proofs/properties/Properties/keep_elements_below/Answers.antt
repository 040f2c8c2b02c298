use Rattle.std.proofs.Common.{◌≡◌, ◌∙◌, ap, rules}
use Rattle.indexmap.proofs.CallerLemmas.{filter-RetainsPairs}
use Rattle.object_heap.specs.Define.{elements_below, is_below}
use Rattle.object_heap.specs.Index.{index_of}
use Rattle.object_heap.proofs.properties.Properties.keep_elements_below.Goals as goal

pub returns : goal.returns
returns c =
    let kept : c.retain.new.self.entries ≡ elements_below c.args.end c.self.inside.table.entries =
    filter-RetainsPairs _ (λ e. is_below c.args.end (index_of e.0)) _ (λ k v b w g call. search rules) _ _ c.retain.ensures.filtered
    in
    kept ∙ ap (elements_below c.args.end) c.self.view_is
