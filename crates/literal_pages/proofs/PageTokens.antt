-- The tokens of a page's text: their texts, names and attributes are of 16-bit units and no longer than a page, as it is.
use Rattle.std.proofs.Common.{ℕ, ◌+◌, ◌==◌, Bool, true, false, cond, List, [], ◌∷◌, ◌++◌, drop, Option, Some, None, sym, subst}
use Rattle.std.specs.List.{prefix_len}
use Rattle.dom_tree.specs.Attributes.{Pairs}
use Rattle.dom_tree.specs.Name.{is_name_part, is_name_start}
use Rattle.page_tokens.specs.declared.token.PageToken.{PageToken}
use Rattle.page_tokens.specs.declared.token.PageToken.TheVariants as token
use Rattle.page_tokens.specs.declared.token.RawText.{RawText}
use Rattle.page_tokens.specs.declared.token.Tag.{Tag}
use Rattle.page_tokens.specs.Attributes.{Attribute, Attributes, Written, attribute_of, closed, named, value_of, valued, with_value}
use Rattle.page_tokens.specs.Attributes.Attributes.{none, more}
use Rattle.page_tokens.specs.Characters.{before, behind, begins_with, is_other, is_quote, is_space, is_value_part, place_of, run_of}
use Rattle.page_tokens.specs.Tags.{behind_comment, closes_comment, comment_of}
use Rattle.page_tokens.specs.Tokens as tokens
use Rattle.page_tokens.specs.Tokens.{StartTagAt, TokenAt, TokensOf}
use Rattle.page_tokens.proofs.Callers.{raw_moves_at, stays}
use Rattle.literal_pages.proofs.Parts.{IsPart, dropped_part, empty_part, folded_part, left_part, right_part, taken_part}
use Rattle.literal_pages.proofs.References.{decoded_part}

-- ---- runs

run_part : (class : ℕ → Bool) (us : List ℕ) → IsPart us → IsPart (run_of class us)
run_part class us f = taken_part (prefix_len class us) us f

behind_part : (class : ℕ → Bool) (us : List ℕ) → IsPart us → IsPart (behind class us)
behind_part class us f = dropped_part (prefix_len class us) us f

tail_part : (u : ℕ) (us : List ℕ) → IsPart (u ∷ us) → IsPart us
tail_part u us f = dropped_part 1 (u ∷ us) f

-- ---- attributes

-- names and values
abbrev pub PairsParts : Pairs → Type 0
PairsParts [] = Unit {0}
PairsParts (a ∷ as') = (IsPart a.0 × IsPart a.1) × PairsParts as'

abbrev WrittenParts : Written → Type 0
WrittenParts None = Unit {0}
WrittenParts (Some (raw, us)) = IsPart raw × IsPart us

abbrev AttributeParts : Attribute → Type 0
AttributeParts None = Unit {0}
AttributeParts (Some (name, raw, us)) = IsPart name × IsPart raw × IsPart us

either_written : (b : Bool) (p q : Written) → WrittenParts p → WrittenParts q → WrittenParts (cond b p q)
either_written true p q f g = f
either_written false p q f g = g

either_attribute : (b : Bool) (p q : Attribute) → AttributeParts p → AttributeParts q → AttributeParts (cond b p q)
either_attribute true p q f g = f
either_attribute false p q f g = g

closed_part : (raw us : List ℕ) → IsPart raw → IsPart us → WrittenParts (closed raw us)
closed_part raw [] f g = tt
closed_part raw (u ∷ us) f g = (f, tail_part u us g)

value_part : (us : List ℕ) → IsPart us → WrittenParts (value_of us)
unfolding value_of
value_part [] f = tt
value_part (u ∷ us) f =
    let others = tail_part u us f in
    either_written (is_quote u) (closed (run_of (is_other u) us) (behind (is_other u) us)) _
    (closed_part (run_of (is_other u) us) (behind (is_other u) us) (run_part (is_other u) us others) (behind_part (is_other u) us others))
    (either_written (is_value_part u) (Some (run_of is_value_part (u ∷ us), behind is_value_part (u ∷ us))) None
    (run_part is_value_part (u ∷ us) f, behind_part is_value_part (u ∷ us) f) tt)

with_value_part : (name : List ℕ) (w : Written) → IsPart name → WrittenParts w → AttributeParts (with_value name w)
with_value_part name None f g = tt
with_value_part name (Some (raw, us)) f g = (f, g.0, g.1)

valued_part : (name us vs : List ℕ) → IsPart name → IsPart us → IsPart vs → AttributeParts (valued name us vs)
valued_part name us [] f g h = (f, empty_part, g)
valued_part name us (v ∷ vs) f g h =
    either_attribute (v == 61) (with_value name (value_of (behind is_space vs))) (Some (name, [], us))
    (with_value_part name (value_of (behind is_space vs)) f (value_part (behind is_space vs) (behind_part is_space vs (tail_part v vs h))))
    (f, empty_part, g)

named_part : (us : List ℕ) → IsPart us → AttributeParts (named us)
named_part us f =
    let left = behind_part is_name_part us f in
    either_attribute (begins_with is_name_start us) (valued (run_of is_name_part us) (behind is_name_part us) (behind is_space (behind is_name_part us))) None
    (valued_part (run_of is_name_part us) (behind is_name_part us) (behind is_space (behind is_name_part us)) (run_part is_name_part us f) left
    (behind_part is_space (behind is_name_part us) left)) tt

attribute_part : (us : List ℕ) → IsPart us → AttributeParts (attribute_of us)
unfolding attribute_of
attribute_part us f =
    either_attribute (begins_with is_space us) (named (behind is_space us)) None (named_part (behind is_space us) (behind_part is_space us f)) tt

attributes_part : {us rest : List ℕ} {as' : Pairs} → Attributes us rest as' → IsPart us → PairsParts as'
attributes_part (none us e) f = tt
attributes_part (more us left rest name raw value others e d later) f =
    let here : AttributeParts (Some (name, raw, left)) = subst AttributeParts e (attribute_part us f) in
    ((folded_part name here.0, decoded_part d here.1), attributes_part later here.2)

-- ---- tokens

abbrev pub TagParts : Tag → Type 0
TagParts tag = IsPart tag.name × PairsParts tag.attributes

abbrev pub TokenParts : PageToken → Type 0
TokenParts (token.Space v) = IsPart v
TokenParts (token.Text v) = IsPart v
TokenParts (token.Comment v) = IsPart v
TokenParts (token.StartTag tag) = TagParts tag
TokenParts (token.Raw tag raw) = TagParts tag × IsPart raw.text
TokenParts t = Unit {0}

tag_part : (us rest : List ℕ) (tag : Tag) → StartTagAt us rest tag → IsPart us → TagParts tag
tag_part us rest tag at f =
    let inner = dropped_part 1 us f in (
      subst IsPart (sym at.named) (folded_part (run_of is_name_part (drop 1 us)) (run_part is_name_part (drop 1 us) inner)),
      attributes_part at.attributes (behind_part is_name_part (drop 1 us) inner),
    )

abbrev CommentParts : Option (List ℕ × List ℕ) → Type 0
CommentParts None = Unit {0}
CommentParts (Some (inner, rest)) = IsPart inner

comment_part : (us : List ℕ) → IsPart us → CommentParts (comment_of us)
comment_part us f = by (before closes_comment us) _ (taken_part (place_of closes_comment us) us f)
  where
    by : (inner vs : List ℕ) → IsPart inner → CommentParts (behind_comment inner vs)
    by inner [] g = tt
    by inner (v ∷ vs) g = g

raw_part : (size : ℕ) (us rest : List ℕ) (tag : Tag) (raw : RawText) → TokenAt size us rest (token.Raw tag raw) → IsPart us → IsPart raw.text
raw_part size us rest tag raw at f =
    let m = raw_moves_at size us rest tag raw at in
    let tail : List ℕ = (60 ∷ m.mark) ++ rest in
    left_part raw.text tail (right_part (m.opens ++ 62 ∷ []) (raw.text ++ tail) (subst IsPart m.whole f))

token_part : {size : ℕ} {us rest : List ℕ} {t : PageToken} → TokenAt size us rest t → IsPart us → TokenParts t
token_part (tokens.space us o s) f = run_part (is_other 60) us f
token_part (tokens.text us value o s d) f = decoded_part d (run_part (is_other 60) us f)
token_part (tokens.doctype us rest o d) f = tt
token_part (tokens.comment us inner rest o d) f = subst CommentParts d (comment_part (drop 4 us) (dropped_part 4 us f))
token_part (tokens.end_tag us name rest o d) f = tt
token_part (tokens.start_tag us rest tag at plain) f = tag_part us rest tag at f
token_part {size} (tokens.raw us content inner rest tag at raw is) f =
    (tag_part us content tag at f, raw_part size us rest tag (tokens.placed size content inner) (tokens.raw us content inner rest tag at raw is) f)

abbrev pub TokensParts : List PageToken → Type 0
TokensParts [] = Unit {0}
TokensParts (t ∷ ts) = TokenParts t × TokensParts ts

pub tokens_part : {size : ℕ} {us : List ℕ} {ts : List PageToken} → TokensOf size us ts → IsPart us → TokensParts ts
tokens_part tokens.none f = tt
tokens_part {size} (tokens.more us rest t ts at later) f =
    let s = stays size us rest t at in
    (token_part at f, tokens_part later (right_part s.front rest (subst IsPart s.is_front f)))
