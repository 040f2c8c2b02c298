-- How the logic stores a page.
use Rattle.std.specs.Prelude.{List, refl}
use Rattle.std.specs.Coded.{Coded, code_by, coded_list, coded×}
use Rattle.js_values.specs.declared.line.Line.{Line}
use Rattle.js_values.specs.contracts.line.Line as line
use Rattle.object_heap.specs.contracts.heap.Heap as heap
use Rattle.object_heap.specs.Heap.{Contents}
use Rattle.page_host.specs.contracts.host.PageHost as host
use Rattle.page_host.specs.Host.{Host}
use Rattle.page_meaning.specs.Store.{Store, store_of}

abbrev pub coded_store : Coded Store
coded_store =
    code_by (Contents × (List Line × Host)) (coded× heap.the_row.coded (coded× (coded_list line.the_row.coded) host.the_row.coded))
    (λ s. (s.heap, (s.lines, s.host))) (λ t. store_of t.0 t.1.0 t.1.1) (λ s. refl)
