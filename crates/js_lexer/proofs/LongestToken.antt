-- No longer front of a text is a token than the one that stands there.
use Rattle.std.proofs.Common.{◌≡◌, ◌∙◌, ℕ, ◌+◌, ◌*◌, ◌≤◌, Bool, true, false, cond, not, ◌&&◌, ◌||◌, ◌==◌, List, [], ◌∷◌, ◌++◌, length, drop, Option, Some, None, refl, sym, ap, subst, length-append, arith}
use Rattle.std.specs.List.{list_all}
use Rattle.std.proofs.lemmas.Bool.{and_parts}
use Rattle.js_core.specs.declared.token.TokenKind.{TokenKind}
use Rattle.js_core.specs.Characters.{is_line_end}
use Rattle.js_lexer.specs.Characters.{is_identifier_part, is_decimal_digit, is_hex_digit, begins_with}
use Rattle.js_core.specs.Spelling.{punct_text}
use Rattle.js_lexer.specs.Reading.{is_literal_part}
use Rattle.js_lexer.specs.Strings.{Character, unit_escaped_by, hex_pair, pair_escape, with_pair, quad_escape, escape_of, character_of, Closes}
use Rattle.js_lexer.specs.Strings.Closes.{here, later}
use Rattle.js_lexer.specs.Tokens.{TokenAt}
use Rattle.js_lexer.specs.Tokens.TokenAt.{word, number, string, punctuator}
use Rattle.js_lexer.proofs.Firsts.{class_of}
use Rattle.js_lexer.proofs.Literals.{append_none, closes_once}
use Rattle.js_lexer.proofs.OneToken.{word_class, word_of, number_class, number_of, literal_parts, number_run, string_class, string_of, punct_class, punct_of, nothing_at_end}
use Rattle.js_lexer.proofs.Pairs.{some_pair}

-- Characters of a string, where more text follows

character_is_some : (quote : ℕ) (text behind : List ℕ) (unit : Option ℕ) → character_of quote text ≡ Some (unit, behind) → 1 ≤ length text
unfolding character_of
character_is_some quote [] behind unit e = absurd (cc)
character_is_some quote (u ∷ us) behind unit e = omega arith

some_left : (quote : ℕ) (text rest value : List ℕ) → Closes quote text rest value → 1 ≤ length text
some_left quote text rest value (here r) = omega arith
some_left quote text rest value (later t b r unit v e more) = character_is_some quote t b unit e

module _ (tail : List ℕ) where
  -- what is read of a text that goes on is read of it with the tail too
  record Extends (short long : Character) : Type 0 where
    extends : (unit : Option ℕ) (behind : List ℕ) → short ≡ Some (unit, behind) → 1 ≤ length behind → long ≡ Some (unit, behind ++ tail)

  none_extends : (long : Character) → Extends None long
  none_extends long = record { extends = λ unit behind e l. absurd (cc) }

  some_extends : (unit : Option ℕ) (us : List ℕ) → Extends (Some (unit, us)) (Some (unit, us ++ tail))
  some_extends unit us = record { extends = λ u behind e l. same u behind e }
    where
      same : (u : Option ℕ) (behind : List ℕ) → ◌≡◌ {A = Character} (Some (unit, us)) (Some (u, behind)) → ◌≡◌ {A = Character} (Some (unit, us ++ tail)) (Some (u, behind ++ tail))
      same u behind e =
          let both = some_pair unit u us behind e in
          let first : Option ℕ → Character = λ x. Some (x, us ++ tail) in
          let second : List ℕ → Character = λ x. Some (u, x ++ tail) in
          ap first both.0 ∙ ap second both.1

  end_extends : (unit : Option ℕ) (long : Character) → Extends (Some (unit, [])) long
  end_extends unit long = record { extends = λ u behind e l. absurd (ends u behind e l) }
    where
      ends : (u : Option ℕ) (behind : List ℕ) → ◌≡◌ {A = Character} (Some (unit, [])) (Some (u, behind)) → 1 ≤ length behind → ⊥
      ends u behind e l = let both = some_pair unit u [] behind e in let n : length behind ≡ 0 = ap length (sym both.1) in absurd (omega arith)

  cond_extends : (test : Bool) (a b a' b' : Character) → Extends a a' → Extends b b' → Extends (cond test a b) (cond test a' b')
  cond_extends true a b a' b' x y = x
  cond_extends false a b a' b' x y = y

  line_extends : (us : List ℕ) → Extends (Some (None, cond (begins_with (λ v. v == 10) us) (drop 1 us) us)) (Some (None, cond (begins_with (λ v. v == 10) (us ++ tail)) (drop 1 (us ++ tail)) (us ++ tail)))
  line_extends [] = end_extends None _
  line_extends (v ∷ vs) = by_case (v == 10)
    where
      by_case : (b : Bool) → Extends (Some (None, cond b vs (v ∷ vs))) (Some (None, cond b (vs ++ tail) (v ∷ vs ++ tail)))
      by_case true = some_extends None vs
      by_case false = some_extends None (v ∷ vs)

  zero_extends : (zero : Bool) (us : List ℕ) → Extends (cond (zero && not (begins_with is_decimal_digit us)) (Some (Some 0, us)) None) (cond (zero && not (begins_with is_decimal_digit (us ++ tail))) (Some (Some 0, us ++ tail)) None)
  zero_extends true [] = end_extends (Some 0) _
  zero_extends false [] = none_extends _
  zero_extends zero (v ∷ vs) = cond_extends (zero && not (is_decimal_digit v)) _ _ _ _ (some_extends (Some 0) (v ∷ vs)) (none_extends None)

  pair_extends : (us : List ℕ) → Extends (pair_escape (hex_pair us)) (pair_escape (hex_pair (us ++ tail)))
  pair_extends [] = none_extends _
  pair_extends (a ∷ []) = none_extends _
  pair_extends (a ∷ b ∷ us) = by_case (is_hex_digit a && is_hex_digit b) _
    where
      by_case : (t : Bool) (n : ℕ) → Extends (pair_escape (cond t (Some (n, us)) None)) (pair_escape (cond t (Some (n, us ++ tail)) None))
      by_case true n = some_extends (Some n) us
      by_case false n = none_extends None

  low_extends : (high : ℕ) (us : List ℕ) → Extends (with_pair high (hex_pair us)) (with_pair high (hex_pair (us ++ tail)))
  low_extends high [] = none_extends _
  low_extends high (a ∷ []) = none_extends _
  low_extends high (a ∷ b ∷ us) = by_case (is_hex_digit a && is_hex_digit b) _
    where
      by_case : (t : Bool) (n : ℕ) → Extends (with_pair high (cond t (Some (n, us)) None)) (with_pair high (cond t (Some (n, us ++ tail)) None))
      by_case true n = some_extends (Some (256 * high + n)) us
      by_case false n = none_extends None

  quad_extends : (us : List ℕ) → Extends (quad_escape (hex_pair us)) (quad_escape (hex_pair (us ++ tail)))
  quad_extends [] = none_extends _
  quad_extends (a ∷ []) = none_extends _
  quad_extends (a ∷ b ∷ us) = by_case (is_hex_digit a && is_hex_digit b) _
    where
      by_case : (t : Bool) (n : ℕ) → Extends (quad_escape (cond t (Some (n, us)) None)) (quad_escape (cond t (Some (n, us ++ tail)) None))
      by_case true n = low_extends n us
      by_case false n = none_extends None

  escape_extends : (us : List ℕ) → Extends (escape_of us) (escape_of (us ++ tail))
  unfolding escape_of
  escape_extends [] = none_extends _
  escape_extends (u ∷ us) =
      cond_extends (u == 13) _ _ _ _ (line_extends us)
      (cond_extends (is_line_end u) _ _ _ _ (some_extends None us)
      (cond_extends (u == 120) _ _ _ _ (pair_extends us)
      (cond_extends (u == 117) _ _ _ _ (quad_extends us)
      (cond_extends (is_decimal_digit u) _ _ _ _ (zero_extends (u == 48) us) (some_extends (Some (unit_escaped_by u)) us)))))

  character_extends : (quote : ℕ) (us : List ℕ) → Extends (character_of quote us) (character_of quote (us ++ tail))
  unfolding character_of
  character_extends quote [] = none_extends _
  character_extends quote (u ∷ us) =
      cond_extends ((u == quote) || is_line_end u) _ _ _ _ (none_extends None)
      (cond_extends (u == 92) _ _ _ _ (escape_extends us) (some_extends (Some u) us))

  closes_extends : (quote : ℕ) (us rest value : List ℕ) → Closes quote us rest value → Closes quote (us ++ tail) (rest ++ tail) value
  closes_extends quote us rest value (here r) = here (r ++ tail)
  closes_extends quote us rest value (later t b r unit v e more) =
      later (t ++ tail) (b ++ tail) (r ++ tail) unit v ((character_extends quote t).extends unit b e (some_left quote b r v more)) (closes_extends quote b r v more)

-- Runs

front_within_run : (class : ℕ → Bool) (cs more units rest : List ℕ) → cs ++ more ≡ units ++ rest → list_all class cs ≡ true → begins_with class rest ≡ false → length cs ≤ length units
front_within_run class [] more units rest e a x = omega arith
front_within_run class (c ∷ cs) more [] rest e a x =
    let yes : class c ≡ true = (and_parts (class c) (list_all class cs) a).0 in
    let no_more : begins_with class (c ∷ cs ++ more) ≡ false = ap (begins_with class) e ∙ x in
    absurd (cc)
front_within_run class (c ∷ cs) more (u ∷ us) rest e a x =
    let tails : cs ++ more ≡ us ++ rest = cc in
    let less = front_within_run class cs more us rest tails (and_parts (class c) (list_all class cs) a).1 x in
    omega arith

lengths : (text units rest : List ℕ) → text ≡ units ++ rest → length text ≡ length units + length rest
lengths text units rest e = ap length e ∙ length-append units rest

all_of_whole : (class : ℕ → Bool) (text units : List ℕ) → text ≡ units ++ [] → list_all class units ≡ true → list_all class text ≡ true
all_of_whole class text units e a = subst (λ us. list_all class us ≡ true) (sym (e ∙ append_none units)) a

class_of_front : (text units tail : List ℕ) (other : TokenKind) → text ≡ units ++ tail → TokenAt units [] other → class_of units ≡ class_of text
unfolding class_of
class_of_front text [] tail other e at = absurd (nothing_at_end [] [] other (omega arith) at)
class_of_front text (u ∷ us) tail other e at = rw e refl

pub longest : (text rest units tail : List ℕ) (what other : TokenKind) → TokenAt text rest what → text ≡ units ++ tail → TokenAt units [] other → length units + length rest ≤ length text
longest text rest units tail what other (word t us r w) e at =
    let o = word_of units [] other (class_of_front t units tail other e at ∙ word_class t us r w) at in
    let less = front_within_run is_identifier_part units tail us r (sym e ∙ w.joined) (all_of_whole is_identifier_part units o.units o.at.joined o.at.goes_on) w.ends in
    omega (arith, lengths t us r w.joined)
longest text rest units tail what other (number t r value n) e at =
    let o = number_of units [] other (class_of_front t units tail other e at ∙ number_class t r value n) at in
    let run = number_run t r value n in
    let less = front_within_run is_literal_part units tail n.units r (sym e ∙ n.joined) (all_of_whole is_literal_part units o.at.units o.at.joined (literal_parts o.at.units o.value o.at.writes)) run.ends in
    omega (arith, lengths t n.units r n.joined)
longest text rest units tail what other (string quote behind r value q h) e at = by_units units e at
  where
    by_units : (units : List ℕ) → quote ∷ behind ≡ units ++ tail → TokenAt units [] other → length units + length r ≤ length (quote ∷ behind)
    by_units [] e at = absurd (nothing_at_end [] [] other (omega arith) at)
    by_units (u ∷ us) e at =
        let o = string_of (u ∷ us) [] other u us refl (class_of_front (quote ∷ behind) (u ∷ us) tail other e at ∙ string_class quote behind q) at in
        let head : quote ≡ u = cc in
        let tails : behind ≡ us ++ tail = cc in
        let more : Closes u (us ++ tail) ([] ++ tail) o.value = closes_extends tail u us [] o.value o.closes in
        let both : Closes u (us ++ tail) r value = subst (λ x. Closes x (us ++ tail) r value) head (subst (λ x. Closes quote x r value) tails h) in
        let same = closes_once u (us ++ tail) r value ([] ++ tail) o.value both more in
        let long : length r ≡ length tail = ap length same.0 in
        omega (arith, ap length tails, length-append us tail)
longest text rest units tail what other (punctuator t r punct s) e at =
    let o = punct_of units [] other (class_of_front t units tail other e at ∙ punct_class t r punct s) at in
    let whole : units ≡ punct_text o.punct = o.at.spelled ∙ append_none (punct_text o.punct) in
    let less = s.longest o.punct tail (e ∙ ap (λ us. us ++ tail) whole) in
    omega (arith, lengths t (punct_text punct) r s.spelled, ap length whole)
