-- Expressions that begin with groups, one directly inside another.
use Rattle.std.proofs.Common.{◌≡◌, ℕ, zero, suc, ◌-◌, ◌<◌, ◌≤◌, Bool, true, false, ◌⊎◌, inl, inr, List, Some, None, refl, ap, ◌∙◌, arith}
use Rattle.std.specs.Prelude.{nat_lt}
use Rattle.std.proofs.lemmas.Bool.{and_parts, and_cases, and_right, ltb-true, ltb-false}
use Rattle.js_core.specs.Tree as tree
use Rattle.js_core.specs.declared.token.Punct.TheVariants as p
use Rattle.js_grammar.specs.ExpressionReader as reader
use Rattle.js_grammar.specs.declared.operators.Level.{Level}
use Rattle.js_grammar.specs.declared.operators.Level.TheVariants.{Sequence as sequence, Assignment as assignment, Binary as binary, Construction as construction, Member as member}
use Rattle.js_grammar.specs.Parser.{Outcome, and_then, sees, tail}
use Rattle.js_grammar.specs.StatementReader as statements
use Rattle.js_grammar.specs.ScriptReader.{Inside, inside, opens_group}
use Rattle.js_grammar.specs.ScriptReader as what
use Rattle.js_grammar.specs.Symbols.{Lexeme}
use Rattle.js_grammar.specs.declared.sign.Sign.TheVariants.{Mark}
use Rattle.expression_parser.specs.declared.nesting.Nesting.{Nesting}
use Rattle.expression_parser.specs.Groups.{closing}
use Rattle.expression_parser.specs.Inside.{limit, expression_in, body_in, statement_in}
use Rattle.expression_parser.specs.Nestings.{inside_of, in_groups}
use Rattle.script_parser.specs.Groups.{finished, has_room, may_open}

-- ---- one deeper

pub some_room : (depth : Nesting) → has_room depth ≡ true → (0 < depth.room) × (0 < depth.all)
some_room depth e =
    let both = and_parts (nat_lt 0 depth.room) (nat_lt 0 depth.all) e in
    (ltb-true 0 depth.room both.0, ltb-true 0 depth.all both.1)

nothing : (room all : ℕ) (part : Inside) (i : List Lexeme) → has_room (record { room = room; all = all }) ≡ false → inside limit room all part i ≡ None
unfolding inside
nothing room zero part i e = refl
nothing zero (suc all) part i e = refl
nothing (suc room) (suc all) part i e = absurd (spent (and_cases (nat_lt 0 (suc room)) (nat_lt 0 (suc all)) e))
  where
    spent : (nat_lt 0 (suc room) ≡ false) ⊎ (nat_lt 0 (suc all) ≡ false) → ⊥
    spent (inl e) = let le = ltb-false 0 (suc room) e in omega arith
    spent (inr e) = let le = ltb-false 0 (suc all) e in omega arith

pub no_expression : (depth : Nesting) (inn : Bool) (level : Level) (i : List Lexeme) → has_room depth ≡ false → expression_in depth inn level i ≡ None
unfolding expression_in
no_expression depth inn level i e = nothing depth.room depth.all (what.expression inn level) i e

pub no_body : (depth : Nesting) (i : List Lexeme) → has_room depth ≡ false → body_in depth i ≡ None
unfolding body_in
no_body depth i e = nothing depth.room depth.all what.body i e

pub no_statement : (depth : Nesting) (i : List Lexeme) → has_room depth ≡ false → statement_in depth i ≡ None
unfolding statement_in
no_statement depth i e = nothing depth.room depth.all what.statement i e

pub deeper : {X : Type 0} (f : ℕ → ℕ → X) (depth : Nesting) → 0 < depth.room → 0 < depth.all → f depth.room depth.all ≡ f (suc (depth.room - 1)) (suc (depth.all - 1))
deeper f depth some more =
    let e : depth.room ≡ suc (depth.room - 1) = omega arith in
    let k : depth.all ≡ suc (depth.all - 1) = omega arith in
    ap (λ n. f n depth.all) e ∙ ap (λ n. f (suc (depth.room - 1)) n) k

pub deeper_body : (depth : Nesting) (i : List Lexeme) → has_room depth ≡ true → body_in depth i ≡ statements.elements limit (expression_in (inside_of depth)) (body_in (inside_of depth)) (statement_in (inside_of depth)) i
unfolding expression_in body_in statement_in inside
deeper_body depth i e = let some = some_room depth e in deeper (λ room all. inside limit room all what.body i) depth some.0 some.1

pub deeper_statement : (depth : Nesting) (i : List Lexeme) → has_room depth ≡ true → statement_in depth i ≡ statements.any_statement limit (expression_in (inside_of depth)) (body_in (inside_of depth)) (statement_in (inside_of depth)) i
unfolding expression_in body_in statement_in inside
deeper_statement depth i e = let some = some_room depth e in deeper (λ room all. inside limit room all what.statement i) depth some.0 some.1

no_group : (level : Level) (inn : Bool) (i : List Lexeme) → may_open level inn ≡ false → opens_group level inn i ≡ false
no_group sequence true i e = absurd (cc)
no_group sequence false i e = refl
no_group assignment inn i e = refl
no_group (binary n) inn i e = refl
no_group construction inn i e = refl
no_group member inn i e = refl

pub is_sequence : (level : Level) (inn : Bool) → may_open level inn ≡ true → (level ≡ sequence) × (inn ≡ true)
is_sequence sequence inn e = (refl, e)
is_sequence assignment inn e = absurd (cc)
is_sequence (binary n) inn e = absurd (cc)
is_sequence construction inn e = absurd (cc)
is_sequence member inn e = absurd (cc)

-- an expression that begins with no group that a loop opens
pub plain_expression : (depth : Nesting) (inn : Bool) (level : Level) (i : List Lexeme) → 0 < depth.room → 0 < depth.all → opens_group level inn i ≡ false → expression_in depth inn level i ≡ reader.at_level limit (expression_in (inside_of depth)) (body_in (inside_of depth)) inn level i
unfolding expression_in body_in inside
plain_expression depth inn level i some more e = deeper (λ room all. inside limit room all (what.expression inn level) i) depth some more ∙ rw e refl

pub other_expression : (depth : Nesting) (inn : Bool) (level : Level) (i : List Lexeme) → has_room depth ≡ true → may_open level inn ≡ false → expression_in depth inn level i ≡ reader.at_level limit (expression_in (inside_of depth)) (body_in (inside_of depth)) inn level i
other_expression depth inn level i h e = let some = some_room depth h in plain_expression depth inn level i some.0 some.1 (no_group level inn i e)

-- ---- groups

abbrev nesting : ℕ → ℕ → Nesting
nesting room all = record { room = room; all = all }

opens : (room all : ℕ) (i : List Lexeme) → sees (Mark p.LeftParenthesis) i ≡ true → expression_in (nesting (suc room) (suc all)) true sequence i ≡ and_then (expression_in (nesting (suc room) all) true sequence (tail i)) (closing (nesting room all))
unfolding expression_in body_in inside closing
opens room all i e = rw e refl

opens_at : (depth : Nesting) (n : ℕ) (i : List Lexeme) → 0 < depth.room → n < depth.all → sees (Mark p.LeftParenthesis) i ≡ true → expression_in (in_groups depth n) true sequence i ≡ and_then (expression_in (in_groups depth (suc n)) true sequence (tail i)) (closing (inside_of (in_groups depth n)))
opens_at depth n i some more s =
    let room : depth.room ≡ suc (depth.room - 1) = omega arith in
    let all : depth.all - n ≡ suc (depth.all - suc n) = omega arith in
    let within : depth.all - suc n ≡ (depth.all - n) - 1 = omega arith in
    ap (λ r. expression_in (nesting r (depth.all - n)) true sequence i) room
    ∙ ap (λ a. expression_in (nesting (suc (depth.room - 1)) a) true sequence i) all
    ∙ opens (depth.room - 1) (depth.all - suc n) i s
    ∙ ap (λ r. and_then (expression_in (nesting r (depth.all - suc n)) true sequence (tail i)) (closing (nesting (depth.room - 1) (depth.all - suc n)))) (let back : suc (depth.room - 1) ≡ depth.room = omega arith in back)
    ∙ ap (λ a. and_then (expression_in (nesting depth.room (depth.all - suc n)) true sequence (tail i)) (closing (nesting (depth.room - 1) a))) within

-- one more group is opened
pub opened_more : (depth : Nesting) (n m : ℕ) (i : List Lexeme) → m ≡ suc n → 0 < depth.room → n < depth.all → sees (Mark p.LeftParenthesis) i ≡ true → finished depth n (expression_in (in_groups depth n) true sequence i) ≡ finished depth m (expression_in (in_groups depth m) true sequence (tail i))
opened_more depth n m i h some more s =
    ap (finished depth n) (opens_at depth n i some more s)
    ∙ ap (λ k. finished depth k (expression_in (in_groups depth k) true sequence (tail i))) (let back : suc n ≡ m = omega arith in back)

-- the innermost of the groups that are open is closed
pub closed_more : (depth : Nesting) (n m : ℕ) (a : tree.Expr) (i : List Lexeme) (o : Outcome tree.Expr) → n ≡ suc m → closing (inside_of (in_groups depth m)) a i ≡ o → finished depth n (Some (a, i)) ≡ finished depth m o
closed_more depth n m a i o e r = ap (λ j. finished depth j (Some (a, i))) e ∙ ap (finished depth m) r

-- where the inside of a group is refused, all is
pub none_finished : (depth : Nesting) (n : ℕ) → finished depth n None ≡ None
none_finished depth zero = refl
none_finished depth (suc n) = none_finished depth n

-- where the inside of the innermost group is refused, all is
pub none_inside : (depth : Nesting) (n : ℕ) (o w : Outcome tree.Expr) → w ≡ finished depth n o → o ≡ None → w ≡ None
none_inside depth n o w e k = e ∙ ap (finished depth n) k ∙ none_finished depth n

-- where as many groups are open as parts may nest, none may stand inside
pub none_deeper : (depth : Nesting) (n : ℕ) (i : List Lexeme) (w : Outcome tree.Expr) → w ≡ finished depth n (expression_in (in_groups depth n) true sequence i) → n ≡ depth.all → w ≡ None
none_deeper depth n i w e k =
    let spent : depth.all - n ≡ 0 = omega arith in
    none_inside depth n (expression_in (in_groups depth n) true sequence i) w e
    (ap (λ a. expression_in (nesting depth.room a) true sequence i) spent ∙ no_expression (nesting depth.room 0) true sequence i (and_right (nat_lt 0 depth.room) (nat_lt 0 0) refl))

-- where what stands behind the inside of a group is refused, all is
pub none_behind : (depth : Nesting) (n m : ℕ) (a : tree.Expr) (i : List Lexeme) (w : Outcome tree.Expr) → w ≡ finished depth n (Some (a, i)) → n ≡ suc m → closing (inside_of (in_groups depth m)) a i ≡ None → w ≡ None
none_behind depth n m a i w e s r = e ∙ closed_more depth n m a i None s r ∙ none_finished depth m
