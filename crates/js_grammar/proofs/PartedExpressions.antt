-- An expression is derived from its symbols also where line ends are put between them.
use Rattle.std.proofs.Common.{◌≡◌, ℕ, Bool, true, false, List, ◌∷◌, Option, Some, None, refl, subst, ap}
use Rattle.std.specs.Prelude.{not, ◌||◌, ◌&&◌}
use Rattle.js_core.specs.Tree as tree
use Rattle.js_core.specs.declared.token.Punct.{Punct}
use Rattle.js_core.specs.declared.token.Punct.TheVariants as p
use Rattle.js_core.specs.declared.keyword.Keyword.TheVariants as kw
use Rattle.js_grammar.specs.declared.sign.Sign.{Sign}
use Rattle.js_grammar.specs.declared.sign.Sign.TheVariants.{Mark, Word}
use Rattle.js_grammar.specs.LineEnds.{is_opening, is_closing, begins_operand, operand_follows, may_part, first_of, others_of, parted}
use Rattle.js_grammar.specs.Operators.{Level, sequence, assignment, binary, construction, member, Infix, infix_of, step_of}
use Rattle.js_grammar.specs.Symbols.{Symbol, Lexeme, sign, identifier, unused, number, text, member_name}
use Rattle.js_grammar.specs.Phrases.{Phrase, Name, name, Separated, only, further, Listed, nothing, something, Many, none, more, Divided, by_comma, by_close}
use Rattle.js_grammar.specs.Expressions.{Element, absent, present, Field, field, Arguments, Procedure, procedure, Primary, this_value, null_value, true_value, false_value, named, numeral, string, array, object, grouped, anonymous, function, Member, is_primary, dotted, indexed, called, constructed, LeftHandSide, is_member, is_call, constructed_plainly, Postfix, is_left, stepped, Unary, is_postfix, operated, Binary, is_unary, tighter, combines, Assignment, is_binary, chosen, assigned, Sequence, sequenced, AtLevel}

-- The item is read so behind this symbol with these line ends put. It ends with another symbol, behind which others are put.
pub record Parts {A : Type 0} (Item : Phrase A) (ls : List Bool) (b : Symbol) (x z : List Lexeme) (a : A) : Type 0 where
  pub last : Symbol
  pub left : List Bool
  pub item : Item (parted ls b x) (parted left last z) a

abbrev pub Parted : {A : Type 0} → Phrase A → Type 0
Parted {A} Item = (ls : List Bool) (b : Symbol) (x z : List Lexeme) (a : A) → Item x z a → Parts Item ls b x z a

-- the same, of what ends neither with `{` nor with `;` or `:`
pub record Ends {A : Type 0} (Item : Phrase A) (ls : List Bool) (b : Symbol) (x z : List Lexeme) (a : A) : Type 0 where
  pub last : Symbol
  pub left : List Bool
  pub item : Item (parted ls b x) (parted left last z) a
  pub closed : is_opening last ≡ false

abbrev pub Closed : {A : Type 0} → Phrase A → Type 0
Closed {A} Item = (ls : List Bool) (b : Symbol) (x z : List Lexeme) (a : A) → Item x z a → Ends Item ls b x z a

-- the same, where this holds of what comes behind it
abbrev pub ClosedBefore : {A : Type 0} → (List Lexeme → Type 0) → Phrase A → Type 0
ClosedBefore {A} Rest Item = (ls : List Bool) (b : Symbol) (x z : List Lexeme) (a : A) → Rest z → Item x z a → Ends Item ls b x z a

-- what may end with a postfix sign has no operand behind it in the same line

abbrev pub NoOperand : List Lexeme → Type 0
NoOperand z = operand_follows z ≡ false

abbrev pub Rests : Level → List Lexeme → Type 0
Rests construction z = Unit {0}
Rests member z = Unit {0}
Rests l z = NoOperand z

-- ---- lists

pub many_parted : {A : Type 0} (Item : Phrase A) → Parted Item → Parted (Many Item)
many_parted Item item ls b x z found none = record { last = b; left = ls; item = none }
many_parted Item item ls b x z found (more {y = y} {found = fs} {a = a} h k) =
    let r = many_parted Item item ls b x y fs h in
    let s = item r.left r.last y z a k in
    record { last = s.last; left = s.left; item = more r.item s.item }

pub separated_parted : {A I : Type 0} (Item : I → Phrase A) → ((i : I) → ClosedBefore NoOperand (Item i)) → (i : I) → ClosedBefore NoOperand (Separated Item i)
separated_parted Item item i ls b x z found n (only {a = a} h) = let r = item i ls b x z a n h in record { last = r.last; left = r.left; item = only r.item; closed = r.closed }
separated_parted Item item i ls b x z found n (further {i = k} {l = l} {y = y} {found = fs} {a = a} h h') =
    let r = separated_parted Item item k ls b x ((sign (Mark p.Comma), l) ∷ y) fs refl h in
    let s = item i (others_of r.left) (sign (Mark p.Comma)) y z a n h' in
    record { last = s.last; left = s.left; item = further r.item s.item; closed = s.closed }

listed_parted : {A I : Type 0} (Item : I → Phrase A) → ((i : I) → ClosedBefore NoOperand (Item i)) → Closed (Listed Item)
listed_parted Item item ls b x z found nothing = record { last = sign (Mark p.RightParenthesis); left = others_of ls; item = nothing; closed = refl }
listed_parted Item item ls b x z found (something {i = i} {l = l} h) =
    let r = separated_parted Item item i ls b x ((sign (Mark p.RightParenthesis), l) ∷ z) found refl h in
    record { last = sign (Mark p.RightParenthesis); left = others_of r.left; item = something r.item; closed = refl }

name_parted : ClosedBefore NoOperand Name
name_parted ls b x z w n name = record { last = identifier w; left = others_of ls; item = name; closed = refl }

-- a comma behind an element, or the closing sign
record Divides (close : Punct) (ls : List Bool) (b : Symbol) (x z : List Lexeme) : Type 0 where
  last : Symbol
  left : List Bool
  item : Divided close (parted ls b x) (parted left last z)

divided_parted : {close : Punct} (ls : List Bool) (b : Symbol) (x z : List Lexeme) → Divided close x z → Divides close ls b x z
divided_parted ls b x z by_comma = record { last = sign (Mark p.Comma); left = others_of ls; item = by_comma }
divided_parted ls b x z by_close = record { last = b; left = ls; item = by_close }

divided_rests : {close : Punct} {x z : List Lexeme} → begins_operand (sign (Mark close)) ≡ false → Divided close x z → NoOperand x
divided_rests e by_comma = refl
divided_rests e (by_close {l = l}) = ap (λ (b : Bool). b && not l) e

-- ---- symbols

member_closed : (s : Symbol) (w : List ℕ) → member_name s ≡ Some w → is_opening s ≡ false
member_closed (sign (Mark _)) w e = absurd (cc)
member_closed (sign (Word _)) w e = refl
member_closed (identifier _) w e = refl
member_closed (unused _) w e = refl
member_closed (number _) w e = refl
member_closed (text _) w e = refl

step_closed : (s : Sign) (up : Bool) → step_of (Some s) ≡ Some up → is_opening (sign s) ≡ false
step_closed (Mark p.PlusPlus) up e = refl
step_closed (Mark p.MinusMinus) up e = refl
step_closed (Mark _) up e = absurd (cc)
step_closed (Word _) up e = absurd (cc)

none_is_put : (c l : Bool) → (false || ((c && not (c && true)) && l)) ≡ false
none_is_put true l = refl
none_is_put false l = refl

-- no line end is put before `++` or `--` behind what ends so, where no operand comes behind the sign
step_stays : (a : Symbol) (s : Sign) (up l : Bool) (z : List Lexeme) → is_opening a ≡ false → NoOperand z → step_of (Some s) ≡ Some up → (false || (may_part a (sign s) z && l)) ≡ false
step_stays a (Mark p.PlusPlus) up l z c n e = rw (c, n) (none_is_put (is_closing a) l)
step_stays a (Mark p.MinusMinus) up l z c n e = rw (c, n) (none_is_put (is_closing a) l)
step_stays a (Mark _) up l z c n e = absurd (cc)
step_stays a (Word _) up l z c n e = absurd (cc)

infix_rests : (inn : Bool) (s : Sign) (f : Infix) → infix_of inn (Some s) ≡ Some f → begins_operand (sign s) ≡ false
infix_rests inn (Mark p.LeftParenthesis) f e = absurd (cc)
infix_rests inn (Mark p.LeftBracket) f e = absurd (cc)
infix_rests inn (Mark _) f e = refl
infix_rests inn (Word kw.In) f e = refl
infix_rests inn (Word kw.InstanceOf) f e = refl
infix_rests inn (Word _) f e = absurd (cc)

-- ---- phrases

-- what is known of the expressions and bodies that stand inside another
pub record PartedInside (E : Bool → Level → Bool → Phrase tree.Expr) (B : Phrase (List tree.Stmt)) : Type 0 where
  pub expressions : (inn : Bool) (l : Level) (g : Bool) → ClosedBefore (Rests l) (E inn l g)
  pub bodies : Parted B

module _ (E : Bool → Level → Bool → Phrase tree.Expr) (B : Phrase (List tree.Stmt)) (inner : PartedInside E B) where
  element_parted : Parted (Element E B)
  element_parted ls b x z a absent = record { last = sign (Mark p.Comma); left = others_of ls; item = absent }
  element_parted ls b x z o (present {g = g} {y = y} {a = a} h k) =
      let r = inner.expressions true assignment g ls b x y a (divided_rests refl k) h in
      let d = divided_parted r.left r.last y z k in
      record { last = d.last; left = d.left; item = present r.item d.item }

  field_parted : Parted (Field E B)
  field_parted ls b x z f (field {g = g} {s = s} {x = x'} {y = y} {a = a} e h k) =
      let r = inner.expressions true assignment g (others_of (others_of ls)) (sign (Mark p.Colon)) x' y a (divided_rests refl k) h in
      let d = divided_parted r.left r.last y z k in
      record { last = d.last; left = d.left; item = field e r.item d.item }

  arguments_parted : Closed (Arguments E B)
  arguments_parted = listed_parted (λ g. E true assignment g) (inner.expressions true assignment)

  pub procedure_parted : (own : Option (List ℕ)) → Closed (Procedure E B own)
  procedure_parted own ls b x z c (procedure {k = k} {j = j} {x = x'} {y = y} {formals = formals} {body = found} h i) =
      let r = listed_parted {I = Unit {0}} (λ u. Name) (λ u. name_parted) (others_of ls) (sign (Mark p.LeftParenthesis)) x' ((sign (Mark p.LeftBrace), k) ∷ y) formals h in
      let s = inner.bodies (others_of r.left) (sign (Mark p.LeftBrace)) y ((sign (Mark p.RightBrace), j) ∷ z) found i in
      record { last = sign (Mark p.RightBrace); left = others_of s.left; item = procedure r.item s.item; closed = refl }

  primary_parted : Closed (Primary E B)
  primary_parted ls b x z a this_value = record { last = sign (Word kw.This); left = others_of ls; item = this_value; closed = refl }
  primary_parted ls b x z a null_value = record { last = sign (Word kw.Null); left = others_of ls; item = null_value; closed = refl }
  primary_parted ls b x z a true_value = record { last = sign (Word kw.True); left = others_of ls; item = true_value; closed = refl }
  primary_parted ls b x z a false_value = record { last = sign (Word kw.False); left = others_of ls; item = false_value; closed = refl }
  primary_parted ls b x z a (named {w = w}) = record { last = identifier w; left = others_of ls; item = named; closed = refl }
  primary_parted ls b x z a (numeral {n = n}) = record { last = number n; left = others_of ls; item = numeral; closed = refl }
  primary_parted ls b x z a (string {t = t}) = record { last = text t; left = others_of ls; item = string; closed = refl }
  primary_parted ls b x z a (array {k = k} {x = x'} {found = found} h) =
      let r = many_parted (Element E B) element_parted (others_of ls) (sign (Mark p.LeftBracket)) x' ((sign (Mark p.RightBracket), k) ∷ z) found h in
      record { last = sign (Mark p.RightBracket); left = others_of r.left; item = array r.item; closed = refl }
  primary_parted ls b x z a (object {k = k} {x = x'} {found = found} h) =
      let r = many_parted (Field E B) field_parted (others_of ls) (sign (Mark p.LeftBrace)) x' ((sign (Mark p.RightBrace), k) ∷ z) found h in
      record { last = sign (Mark p.RightBrace); left = others_of r.left; item = object r.item; closed = refl }
  primary_parted ls b x z a (grouped {g = g} {k = k} {x = x'} h) =
      let r = inner.expressions true sequence g (others_of ls) (sign (Mark p.LeftParenthesis)) x' ((sign (Mark p.RightParenthesis), k) ∷ z) a refl h in
      record { last = sign (Mark p.RightParenthesis); left = others_of r.left; item = grouped r.item; closed = refl }
  primary_parted ls b x z a (anonymous {x = x'} {c = c} h) =
      let r = procedure_parted None (others_of ls) (sign (Word kw.Function)) x' z c h in
      record { last = r.last; left = r.left; item = anonymous r.item; closed = r.closed }
  primary_parted ls b x z a (function {w = w} {x = x'} {c = c} h) =
      let r = procedure_parted (Some w) (others_of (others_of ls)) (identifier w) x' z c h in
      record { last = r.last; left = r.left; item = function r.item; closed = r.closed }

  member_parted : (c : Bool) → Closed (Member E B c)
  member_parted c ls b x z a (is_primary h) = let r = primary_parted ls b x z a h in record { last = r.last; left = r.left; item = is_primary r.item; closed = r.closed }
  member_parted c ls b x z a (dotted {l = l} {k = k} {s = s} {w = w} {a = o} h e) =
      let r = member_parted c ls b x ((sign (Mark p.Dot), l) ∷ (s, k) ∷ z) o h in
      record { last = s; left = others_of (others_of r.left); item = dotted r.item e; closed = member_closed s w e }
  member_parted c ls b x z a (indexed {g = g} {l = l} {k = k} {y = y} {a = o} {b = i} h h') =
      let r = member_parted c ls b x ((sign (Mark p.LeftBracket), l) ∷ y) o h in
      let s = inner.expressions true sequence g (others_of r.left) (sign (Mark p.LeftBracket)) y ((sign (Mark p.RightBracket), k) ∷ z) i refl h' in
      record { last = sign (Mark p.RightBracket); left = others_of s.left; item = indexed r.item s.item; closed = refl }
  member_parted c ls b x z a (called {c = c'} {l = l} {y = y} {a = o} {found = found} h h') =
      let r = member_parted c' ls b x ((sign (Mark p.LeftParenthesis), l) ∷ y) o h in
      let s = arguments_parted (others_of r.left) (sign (Mark p.LeftParenthesis)) y z found h' in
      record { last = s.last; left = s.left; item = called r.item s.item; closed = s.closed }
  member_parted c ls b x z a (constructed {g = g} {k = k} {x = x'} {y = y} {a = o} {found = found} h h') =
      let r = inner.expressions true member g (others_of ls) (sign (Word kw.New)) x' ((sign (Mark p.LeftParenthesis), k) ∷ y) o tt h in
      let s = arguments_parted (others_of r.left) (sign (Mark p.LeftParenthesis)) y z found h' in
      record { last = s.last; left = s.left; item = constructed r.item s.item; closed = s.closed }

  pub left_parted : (calls : Bool) → Closed (LeftHandSide E B calls)
  left_parted calls ls b x z a (is_member h) = let r = member_parted false ls b x z a h in record { last = r.last; left = r.left; item = is_member r.item; closed = r.closed }
  left_parted calls ls b x z a (is_call h) = let r = member_parted true ls b x z a h in record { last = r.last; left = r.left; item = is_call r.item; closed = r.closed }
  left_parted calls ls b x z a (constructed_plainly {g = g} {x = x'} {a = o} h) =
      let r = inner.expressions true construction g (others_of ls) (sign (Word kw.New)) x' z o tt h in
      record { last = r.last; left = r.left; item = constructed_plainly r.item; closed = r.closed }

  postfix_parted : (grows : Bool) → ClosedBefore NoOperand (Postfix E B grows)
  postfix_parted grows ls b x z a n (is_left h) = let r = left_parted true ls b x z a h in record { last = r.last; left = r.left; item = is_left r.item; closed = r.closed }
  postfix_parted grows ls b x z a n (stepped {s = s} {up = up} {a = o} h e) =
      let r = left_parted true ls b x ((sign s, false) ∷ z) o h in
      let stays = step_stays r.last s up (first_of r.left) z r.closed n e in
      record {
        last = sign s;
        left = others_of r.left;
        item = stepped (subst (λ l. LeftHandSide E B true (parted ls b x) ((sign s, l) ∷ parted (others_of r.left) (sign s) z) o) stays r.item) e;
        closed = step_closed s up e;
      }

  unary_parted : (grows : Bool) → ClosedBefore NoOperand (Unary E B grows)
  unary_parted grows ls b x z a n (is_postfix h) = let r = postfix_parted grows ls b x z a n h in record { last = r.last; left = r.left; item = is_postfix r.item; closed = r.closed }
  unary_parted grows ls b x z a n (operated {s = s} {x = x'} {a = o} e h) =
      let r = inner.expressions true (binary 11) grows (others_of ls) (sign s) x' z o n h in
      record { last = r.last; left = r.left; item = operated e r.item; closed = r.closed }

  binary_parted : (inn : Bool) (k : ℕ) (grows : Bool) → ClosedBefore NoOperand (Binary E B inn k grows)
  binary_parted inn k grows ls b x z a n (is_unary h) = let r = unary_parted grows ls b x z a n h in record { last = r.last; left = r.left; item = is_unary r.item; closed = r.closed }
  binary_parted inn k grows ls b x z a n (tighter h) = let r = binary_parted inn _ grows ls b x z a n h in record { last = r.last; left = r.left; item = tighter r.item; closed = r.closed }
  binary_parted inn k grows ls b x z a n (combines {g = g} {l = l} {s = s} {f = f} {y = y} {a = o} {b = i} e h h') =
      let r = binary_parted inn _ g ls b x ((sign s, l) ∷ y) o (ap (λ (t : Bool). t && not l) (infix_rests inn s f e)) h in
      let t = inner.expressions inn _ grows (others_of r.left) (sign s) y z i n h' in
      record { last = t.last; left = t.left; item = combines e r.item t.item; closed = t.closed }

  pub assignment_parted : (inn grows : Bool) → ClosedBefore NoOperand (Assignment E B inn grows)
  assignment_parted inn grows ls b x z a n (is_binary h) = let r = binary_parted inn 1 grows ls b x z a n h in record { last = r.last; left = r.left; item = is_binary r.item; closed = r.closed }
  assignment_parted inn grows ls b x z a n (chosen {g = g} {h = g'} {l = l} {k = k} {y = y} {v = v} {a = o} {b = i} {c = c} h h' h'') =
      let r = binary_parted inn 1 g ls b x ((sign (Mark p.QuestionMark), l) ∷ y) o refl h in
      let s = inner.expressions true assignment g' (others_of r.left) (sign (Mark p.QuestionMark)) y ((sign (Mark p.Colon), k) ∷ v) i refl h' in
      let t = inner.expressions inn assignment grows (others_of s.left) (sign (Mark p.Colon)) v z c n h'' in
      record { last = t.last; left = t.left; item = chosen r.item s.item t.item; closed = t.closed }
  assignment_parted inn grows ls b x z a n (assigned {l = l} {s = s} {y = y} {a = o} {b = i} h e k) =
      let r = left_parted true ls b x ((sign s, l) ∷ y) o h in
      let t = inner.expressions inn assignment grows (others_of r.left) (sign s) y z i n k in
      record { last = t.last; left = t.left; item = assigned r.item e t.item; closed = t.closed }

  pub sequence_parted : (inn grows : Bool) → ClosedBefore NoOperand (Sequence E B inn grows)
  sequence_parted inn grows ls b x z a n (sequenced {found = found} h) =
      let r = separated_parted (Assignment E B inn) (assignment_parted inn) grows ls b x z found n h in
      record { last = r.last; left = r.left; item = sequenced r.item; closed = r.closed }

  pub level_parted : (inn : Bool) (l : Level) (grows : Bool) → ClosedBefore (Rests l) (AtLevel E B inn l grows)
  level_parted inn sequence grows = sequence_parted inn grows
  level_parted inn assignment grows = assignment_parted inn grows
  level_parted inn (binary n) grows = binary_parted inn n grows
  level_parted inn construction grows = λ ls b x z a n h. left_parted false ls b x z a h
  level_parted inn member grows = λ ls b x z a n h. member_parted false ls b x z a h
