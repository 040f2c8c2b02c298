-- Texts that are joined, which may be too long.
use Rattle.std.proofs.Common.{◌≡◌, ◌<◌, ◌≤◌, length, nat_le, true, false, Option, Some, None, Ok, Err, refl, ap, ◌∙◌, arith}
use Rattle.std.proofs.lemmas.Bool.Decides.{nat_tests}
use Rattle.std.specs.Option.{MatchOption}
use Rattle.js_core.specs.Text.{Text}
use Rattle.js_values.specs.declared.throw.Throw.TheVariants.{TextTooLong}
use Rattle.js_values.specs.declared.value.Value.TheVariants as value
use Rattle.page_host.specs.HostNames.{text_limit, text_or_long}

is_limit : text_limit ≡ 1048576
unfolding text_limit
is_limit = refl

short_text : (x : Text) → length x ≤ 1048576 → Ok (value.Text x) ≡ text_or_long x
short_text x h = let e : nat_le (length x) 1048576 ≡ true = grind (arith, nat_tests) in rw (is_limit, e)

long_text : (x : Text) → 1048576 < length x → Err TextTooLong ≡ text_or_long x
long_text x h = let e : nat_le (length x) 1048576 ≡ false = grind (arith, nat_tests) in rw (is_limit, e)

-- what a joined text tells
pub when_short : (o : Option Text) (x u : Text) → MatchOption o (1048576 < length x) (λ v. (v ≡ x) × (length x ≤ 1048576)) → o ≡ Some u → Ok (value.Text u) ≡ text_or_long x
when_short None x u h e = absurd (cc e)
when_short (Some v) x u h e = let same : u ≡ v = cc e in ap (λ t. Ok (value.Text t)) (same ∙ h.0) ∙ short_text x h.1

pub when_long : (o : Option Text) (x : Text) → MatchOption o (1048576 < length x) (λ v. (v ≡ x) × (length x ≤ 1048576)) → o ≡ None → Err TextTooLong ≡ text_or_long x
when_long None x h e = long_text x h
when_long (Some v) x h e = absurd (cc e)
