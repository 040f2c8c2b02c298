-- What callers need of the order of a keeper's keys.
use Rattle.std.proofs.Common.{◌≡◌, true, refl}
use Rattle.std.specs.Ordering.{nat_cmp, eq_by_cmp, ordering_then}
use Rattle.std.specs.Cmp.{IsTotalOrder, Equal-is}
use Rattle.std.specs.Cmp.Lexicographic.{slice_cmp}
use Rattle.std.specs.declared.cmp.Ordering.{Ordering}
use Rattle.std.specs.declared.cmp.Ordering.TheVariants.{Less, Equal, Greater}
use Rattle.std.specs.FinMap.{IsAntisymmetric, nat_cmp-IsAntisymmetric, slice_cmp-IsAntisymmetric}
use Rattle.std.proofs.lemmas.Cmp.{then_total, on_total, nat_cmp_total, nat_list_cmp_total}
use Rattle.page_io.specs.Table.{Key, key_cmp}

-- the order is total
pub key_total : IsTotalOrder key_cmp
key_total = then_total (on_total (λ (k : Key). k.0) nat_list_cmp_total) (on_total (λ (k : Key). k.1) nat_cmp_total)

both_equal : (r s : Ordering) → ordering_then r s ≡ Equal → (r ≡ Equal) × (s ≡ Equal)
both_equal Less s e = cc
both_equal Equal s e = (refl, e)
both_equal Greater s e = cc

-- keys that tie are the same
pub key_exact : IsAntisymmetric key_cmp
key_exact x y e =
    let both = both_equal (slice_cmp nat_cmp x.0 y.0) (nat_cmp x.1 y.1) e in
    let name : x.0 ≡ y.0 = slice_cmp-IsAntisymmetric nat_cmp-IsAntisymmetric x.0 y.0 both.0 in
    let version : x.1 ≡ y.1 = nat_cmp-IsAntisymmetric x.1 y.1 both.1 in
    λ i. (name i, version i)

pub tied : (x y : Key) → eq_by_cmp key_cmp x y ≡ true → x ≡ y
tied x y e = key_exact x y ((Equal-is (key_cmp x y)).0 e)
