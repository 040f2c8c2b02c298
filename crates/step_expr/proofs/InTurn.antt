-- Literals and comma expressions, whose parts run in turn.
use Rattle.std.proofs.Common.{◌≡◌, refl, sym, ap, ◌∙◌, subst, ℕ, zero, suc, ◌+◌, ◌≤◌, ◌<◌, List, [], ◌∷◌, Option, Some, None, Result, Ok, Err, IfOk, true, false, is_some, length, arith, le_refl, inl, inr}
use Rattle.std.specs.Prelude.{◌⊎◌, slice_get}
use Rattle.std.specs.Fmt.{decimal}
use Rattle.code_table.specs.Kind.{field_names, kind_of}
use Rattle.code_table.specs.Node.{Node, and_child, exprs_parts, fields_parts, holes_parts, part_count, parts_in, pick}
use Rattle.code_table.specs.declared.kind.Kind.{Kind}
use Rattle.code_table.specs.declared.kind.Kind.TheVariants as kind
use Rattle.js_core.specs.Tree as tree
use Rattle.js_core.specs.Tree.{no_exprs, then_expr, no_expr, one_expr, no_holes, then_hole, no_fields, then_field}
use Rattle.js_values.specs.declared.ids.ObjId.{ObjId}
use Rattle.js_values.specs.declared.value.Value.{Value}
use Rattle.js_values.specs.declared.value.Value.TheVariants.{Object}
use Rattle.object_heap.specs.Define.{length_name, number}
use Rattle.page_meaning.specs.declared.signal.Signal.TheVariants.{Value as Val}
use Rattle.page_meaning.specs.Act.{Act, ActOf, Calls, also, bind, give, nothing, on_value, then_on}
use Rattle.page_meaning.specs.Calls.{calls_at}
use Rattle.page_meaning.specs.Expressions.{eval_each, eval_fields, eval_holes}
use Rattle.page_meaning.specs.Names.{Here}
use Rattle.page_meaning.specs.Properties.{define_member, put_in}
use Rattle.page_meaning.specs.Store.{Store}
use Rattle.page_frames.specs.declared.meter.Meter.{Meter}
use Rattle.page_frames.specs.declared.meter.Next.{Next}
use Rattle.page_frames.specs.declared.meter.Next.TheVariants.{Give}
use Rattle.page_frames.specs.Parts.{drop_exprs, drop_fields, drop_holes, mean_node, part}
use Rattle.page_frames.specs.Rest.{rest_value}
use Rattle.page_frames.specs.RestExpressions.{each_from}
use Rattle.page_frames.specs.RestLiterals.{elements_from, fields_from, name_at, object_in}
use Rattle.page_frames.specs.Start.{start_of}
use Rattle.page_frames.specs.Step.{Goes, Leads, Moves, Opens}
use Rattle.page_frames.specs.Weight.{cost, weigh, weigh_value}
use Rattle.page_frames.specs.Where.{Where, here_of, spot_node}
use Rattle.page_frames.proofs.Callers.{begin_weigh, no_heavier, there_part, weigh_less}
use Rattle.page_state.specs.Does.{Does}
use Rattle.step_parts.specs.Families.{family_of}
use Rattle.step_parts.specs.declared.family.Family.TheVariants.{Sequence}
use Rattle.step_parts.proofs.Callers.{IsSequence, elements, fields, commas, sequence_shape}
use Rattle.step_expr.specs.Holding.{Skips, holder}
use Rattle.step_expr.proofs.Opening.{opens_as}

-- ---- how they begin

-- no other kind is of the family
pub no_sequence : (q : Kind) → family_of q ≡ Sequence → (q ≡ kind.List → ⊥) → ((xs : List (List ℕ)) → q ≡ kind.Literal xs → ⊥) → (q ≡ kind.Comma → ⊥) → ⊥
no_sequence kind.List h a b c = a refl
no_sequence (kind.Literal xs) h a b c = b xs refl
no_sequence kind.Comma h a b c = c refl
no_sequence q h a b c = cc h

is_there : (at : Option Node) → family_of (kind_of at) ≡ Sequence → is_some at ≡ true
is_there None h = cc h
is_there (Some n) h = refl

pays_all : (at : Option Node) → family_of (kind_of at) ≡ Sequence → weigh at 0 ≤ cost at
pays_all at h = omega (arith, begin_weigh at (is_there at h))

-- where more may be weighed
weighs_more : {E : Type 0} (act : Act) (a b : ℕ) (w w' : Store) (m m' : Meter) (r : Result Next E) → a ≤ b → IfOk r (λ n. Leads act a w m n w' m') → IfOk r (λ n. Leads act b w m n w' m')
weighs_more act a b w w' m m' (Err x) e h = h
weighs_more act a b w w' m m' (Ok n) e h = record { follows = h.follows; levels = h.levels; lighter = no_heavier a b m n m' e h.lighter }

pub opens_in_turn : {E : Type 0} (f : Where) (q : Kind) (w w' : Store) (m m' : Meter) (r : Result Next E) → kind_of (spot_node f) ≡ q → family_of q ≡ Sequence
    → IfOk r (λ n. Leads (start_of (calls_at m.depth) (here_of f) (spot_node f) q) (weigh (spot_node f) 0) w m n w' m') → IfOk r (λ n. Opens f w m n w' m')
opens_in_turn f q w w' m m' r e i h =
    opens_as f q w w' m m' r e
    (weighs_more (start_of (calls_at m.depth) (here_of f) (spot_node f) q) (weigh (spot_node f) 0) (cost (spot_node f)) w w' m m' r (pays_all (spot_node f) (ap family_of e ∙ i)) h)

-- the object is made first
pub made_first : {E : Type 0} (m : Meter) (make : ActOf ObjId) (next : ObjId → Act) (weight : ℕ) (at : ObjId) (w w1 w2 : Store) (m' : Meter) (r : Result Next E)
    → Does (λ _. make) w at w1 → IfOk r (λ n. Leads (next at) weight w1 m n w2 m') → IfOk r (λ n. Leads (bind make next) weight w m n w2 m')
made_first m make next weight at w w1 w2 m' (Err x) d h = h
made_first m make next weight at w w1 w2 m' (Ok n) d h = record {
  follows = ap (λ o. then_on o next) (d.is (calls_at m.depth) m.steps) ∙ h.follows;
  levels = h.levels;
  lighter = h.lighter;
}

-- a part that is there runs, and then the expression goes on
runs_part : {E : Type 0} (f : Where) (q : Kind) (k : ℕ) (got : List Value) (act : Act) (w : Store) (m : Meter) (r : Result Next E) → kind_of (spot_node f) ≡ q → true ≡ is_some (and_child (spot_node f) k)
    → act ≡ also (part (calls_at m.depth) (here_of f) (spot_node f) k) (rest_value (calls_at m.depth) (here_of f) (spot_node f) q k got) → weigh_value (spot_node f) q k got ≡ weigh (spot_node f) (suc k)
    → IfOk r (λ n. Goes f (kind_of (spot_node f)) k got k w m n) → IfOk r (λ n. Leads act (weigh (spot_node f) k) w m n w m)
runs_part f q k got act w m (Err x) e t i g h = h
runs_part f q k got act w m (Ok n) e t i g h =
    let a : Goes f q k got k w m n = subst (λ (q : Kind). Goes f q k got k w m n) e h in record {
      follows = ap (λ (o : Act). o.run w m.steps) i ∙ a.follows;
      levels = a.levels;
      lighter = no_heavier _ _ m n m (pays (spot_node f) k _ (sym t) g) a.lighter;
    }
  where
    pays : (at : Option Node) (k a : ℕ) → is_some (and_child at k) ≡ true → a ≡ weigh at (suc k) → suc a + suc (cost (and_child at k)) ≤ weigh at k
    pays at k a t g = omega (arith, g, there_part at k t)

-- it ends with this value
ends_with : (act : Act) (weight : ℕ) (v : Value) (w : Store) (m : Meter) → act ≡ give v → Leads act weight w m (Give (Val v)) w m
ends_with act weight v w m e = record { follows = ap (λ (o : Act). o.run w m.steps) e; levels = refl; lighter = le_refl m.steps }

-- ---- comma expressions

each_there : (calls : Calls) (here : Here) (es : tree.Exprs) (k : ℕ) (v : Value) → true ≡ is_some (pick (parts_in (exprs_parts es)) k)
    → eval_each calls here (drop_exprs es k) v ≡ also (mean_node calls here (pick (parts_in (exprs_parts es)) k)) (λ u. eval_each calls here (drop_exprs es (suc k)) u)
each_there calls here no_exprs k v h = cc h
each_there calls here (then_expr e es) zero v h = refl
each_there calls here (then_expr e es) (suc k) v h = each_there calls here es k v h

each_ended : (calls : Calls) (here : Here) (es : tree.Exprs) (k : ℕ) (v : Value) → false ≡ is_some (pick (parts_in (exprs_parts es)) k) → eval_each calls here (drop_exprs es k) v ≡ give v
each_ended calls here no_exprs zero v h = refl
each_ended calls here no_exprs (suc k) v h = each_ended calls here no_exprs k v h
each_ended calls here (then_expr e es) zero v h = cc h
each_ended calls here (then_expr e es) (suc k) v h = each_ended calls here es k v h

comma_there : (calls : Calls) (here : Here) (at : Option Node) (s : IsSequence at) (k : ℕ) (v : Value) → kind_of at ≡ kind.Comma → true ≡ is_some (and_child at k)
    → each_from calls here at k v ≡ also (part calls here at k) (rest_value calls here at kind.Comma k [])
comma_there calls here at (commas es) k v e h = each_there calls here es k v h
comma_there calls here at (elements hs) k v e h = cc e
comma_there calls here at (fields fs) k v e h = cc e

comma_ended : (calls : Calls) (here : Here) (at : Option Node) (s : IsSequence at) (k : ℕ) (v : Value) → kind_of at ≡ kind.Comma → false ≡ is_some (and_child at k) → each_from calls here at k v ≡ give v
comma_ended calls here at (commas es) k v e h = each_ended calls here es k v h
comma_ended calls here at (elements hs) k v e h = cc e
comma_ended calls here at (fields fs) k v e h = cc e

pub comma_runs : {E : Type 0} (f : Where) (k : ℕ) (got : List Value) (v : Value) (w : Store) (m : Meter) (r : Result Next E) → kind_of (spot_node f) ≡ kind.Comma → true ≡ is_some (and_child (spot_node f) k) → got ≡ []
    → IfOk r (λ n. Goes f (kind_of (spot_node f)) k got k w m n) → IfOk r (λ n. Leads (each_from (calls_at m.depth) (here_of f) (spot_node f) k v) (weigh (spot_node f) k) w m n w m)
comma_runs f k got v w m r e t g h =
    runs_part f kind.Comma k [] (each_from (calls_at m.depth) (here_of f) (spot_node f) k v) w m r e t
    (comma_there (calls_at m.depth) (here_of f) (spot_node f) (sequence_shape (spot_node f) (ap family_of e)) k v e t) refl
    (subst (λ (x : List Value). IfOk r (λ n. Goes f (kind_of (spot_node f)) k x k w m n)) g h)

pub comma_ends : (f : Where) (k : ℕ) (v : Value) (w : Store) (m : Meter) → kind_of (spot_node f) ≡ kind.Comma → false ≡ is_some (and_child (spot_node f) k)
    → Leads (each_from (calls_at m.depth) (here_of f) (spot_node f) k v) (weigh (spot_node f) k) w m (Give (Val v)) w m
comma_ends f k v w m e t =
    ends_with _ _ v w m (comma_ended (calls_at m.depth) (here_of f) (spot_node f) (sequence_shape (spot_node f) (ap family_of e)) k v e t)

-- ---- object literals

field_there : (calls : Calls) (here : Here) (o : ObjId) (fs : tree.Fields) (k : ℕ) → true ≡ is_some (pick (parts_in (fields_parts fs)) k)
    → eval_fields calls here (drop_fields fs k) o
    ≡ also (mean_node calls here (pick (parts_in (fields_parts fs)) k)) (λ v. also (define_member o (name_at (field_names fs) k) v) (λ _. eval_fields calls here (drop_fields fs (suc k)) o))
field_there calls here o no_fields k h = cc h
field_there calls here o (then_field x e fs) zero h = refl
field_there calls here o (then_field x e fs) (suc k) h = field_there calls here o fs k h

field_ended : (calls : Calls) (here : Here) (o : ObjId) (fs : tree.Fields) (k : ℕ) → false ≡ is_some (pick (parts_in (fields_parts fs)) k) → eval_fields calls here (drop_fields fs k) o ≡ give (Object o)
field_ended calls here o no_fields zero h = refl
field_ended calls here o no_fields (suc k) h = field_ended calls here o no_fields k h
field_ended calls here o (then_field x e fs) zero h = cc h
field_ended calls here o (then_field x e fs) (suc k) h = field_ended calls here o fs k h

literal_there : (calls : Calls) (here : Here) (at : Option Node) (s : IsSequence at) (xs : List (List ℕ)) (k : ℕ) (a : Value) (more : List Value) → kind_of at ≡ kind.Literal xs → true ≡ is_some (and_child at k)
    → fields_from calls here at (object_in a) k ≡ also (part calls here at k) (rest_value calls here at (kind.Literal xs) k (a ∷ more))
literal_there calls here at (fields fs) xs k a more e h =
    let i : field_names fs ≡ xs = cc e in
    subst (λ (xs : List (List ℕ)). fields_from calls here at (object_in a) k ≡ also (part calls here at k) (rest_value calls here at (kind.Literal xs) k (a ∷ more))) i
    (field_there calls here (object_in a) fs k h)
literal_there calls here at (elements hs) xs k a more e h = cc e
literal_there calls here at (commas es) xs k a more e h = cc e

literal_ended : (calls : Calls) (here : Here) (at : Option Node) (s : IsSequence at) (xs : List (List ℕ)) (k : ℕ) (o : ObjId) → kind_of at ≡ kind.Literal xs → false ≡ is_some (and_child at k)
    → fields_from calls here at o k ≡ give (Object o)
literal_ended calls here at (fields fs) xs k o e h = field_ended calls here o fs k h
literal_ended calls here at (elements hs) xs k o e h = cc e
literal_ended calls here at (commas es) xs k o e h = cc e

pub literal_runs : {E : Type 0} (f : Where) (xs : List (List ℕ)) (k : ℕ) (got : List Value) (o : ObjId) (w : Store) (m : Meter) (r : Result Next E) → kind_of (spot_node f) ≡ kind.Literal xs
    → true ≡ is_some (and_child (spot_node f) k) → holder got ≡ Some o → IfOk r (λ n. Goes f (kind_of (spot_node f)) k got k w m n)
    → IfOk r (λ n. Leads (fields_from (calls_at m.depth) (here_of f) (spot_node f) o k) (weigh (spot_node f) k) w m n w m)
literal_runs f xs k [] o w m r e t g h = cc g
literal_runs f xs k (a ∷ more) o w m r e t g h =
    let i : object_in a ≡ o = cc g in
    subst (λ (o : ObjId). IfOk r (λ n. Leads (fields_from (calls_at m.depth) (here_of f) (spot_node f) o k) (weigh (spot_node f) k) w m n w m)) i
    (runs_part f (kind.Literal xs) k (a ∷ more) (fields_from (calls_at m.depth) (here_of f) (spot_node f) (object_in a) k) w m r e t
    (literal_there (calls_at m.depth) (here_of f) (spot_node f) (sequence_shape (spot_node f) (ap family_of e)) xs k a more e t) refl h)

pub literal_ends : (f : Where) (xs : List (List ℕ)) (k : ℕ) (o : ObjId) (w : Store) (m : Meter) → kind_of (spot_node f) ≡ kind.Literal xs → false ≡ is_some (and_child (spot_node f) k)
    → Leads (fields_from (calls_at m.depth) (here_of f) (spot_node f) o k) (weigh (spot_node f) k) w m (Give (Val (Object o))) w m
literal_ends f xs k o w m e t =
    ends_with _ _ (Object o) w m (literal_ended (calls_at m.depth) (here_of f) (spot_node f) (sequence_shape (spot_node f) (ap family_of e)) xs k o e t)

-- a field takes its value
pub literal_goes : {E : Type 0} (f : Where) (xs : List (List ℕ)) (turn : ℕ) (got : List Value) (o : ObjId) (v : Value) (w w' : Store) (m : Meter) (r : Result Next E) → Some o ≡ holder got
    → IfOk r (λ n. Leads (also (define_member o (name_at xs turn) v) (λ _. fields_from (calls_at m.depth) (here_of f) (spot_node f) o (suc turn))) (weigh (spot_node f) (suc turn)) w m n w' m)
    → IfOk r (λ n. Moves f (kind.Literal xs) turn got v w m n w')
literal_goes f xs turn [] o v w w' m r e h = cc e
literal_goes f xs turn (a ∷ more) o v w w' m r e h =
    let i : o ≡ object_in a = cc e in
    subst (λ (o : ObjId). IfOk r (λ n. Leads (also (define_member o (name_at xs turn) v) (λ _. fields_from (calls_at m.depth) (here_of f) (spot_node f) o (suc turn))) (weigh (spot_node f) (suc turn)) w m n w' m)) i h

pub literal_idle : (f : Where) (xs : List (List ℕ)) (turn : ℕ) (got : List Value) (v : Value) (w : Store) (m : Meter) → None ≡ holder got → Moves f (kind.Literal xs) turn got v w m (Give nothing) w
literal_idle f xs turn [] v w m e = record { follows = refl; levels = refl; lighter = le_refl m.steps }
literal_idle f xs turn (a ∷ more) v w m e = cc e

-- ---- array literals

element_there : (calls : Calls) (here : Here) (a : ObjId) (hs : tree.Holes) (k i : ℕ) → true ≡ is_some (pick (parts_in (holes_parts hs)) k)
    → eval_holes calls here (drop_holes hs k) a i
    ≡ also (mean_node calls here (pick (parts_in (holes_parts hs)) k)) (λ v. also (define_member a (decimal i) v) (λ _. eval_holes calls here (drop_holes hs (suc k)) a (suc i)))
element_there calls here a no_holes k i h = cc h
element_there calls here a (then_hole no_expr hs) zero i h = cc h
element_there calls here a (then_hole (one_expr e) hs) zero i h = refl
element_there calls here a (then_hole no_expr hs) (suc k) i h = element_there calls here a hs k i h
element_there calls here a (then_hole (one_expr e) hs) (suc k) i h = element_there calls here a hs k i h

element_absent : (calls : Calls) (here : Here) (a : ObjId) (hs : tree.Holes) (k i : ℕ) → false ≡ is_some (pick (parts_in (holes_parts hs)) k) → k < length (parts_in (holes_parts hs))
    → eval_holes calls here (drop_holes hs k) a i ≡ eval_holes calls here (drop_holes hs (suc k)) a (suc i)
element_absent calls here a no_holes k i h l = absurd (omega (arith, l))
element_absent calls here a (then_hole no_expr hs) zero i h l = refl
element_absent calls here a (then_hole (one_expr e) hs) zero i h l = cc h
element_absent calls here a (then_hole no_expr hs) (suc k) i h l = element_absent calls here a hs k i h (omega (arith, l))
element_absent calls here a (then_hole (one_expr e) hs) (suc k) i h l = element_absent calls here a hs k i h (omega (arith, l))

elements_ended : (calls : Calls) (here : Here) (a : ObjId) (hs : tree.Holes) (k i : ℕ) → length (parts_in (holes_parts hs)) ≤ k
    → eval_holes calls here (drop_holes hs k) a i ≡ also (put_in a length_name (number i)) (λ _. give (Object a))
elements_ended calls here a no_holes zero i l = refl
elements_ended calls here a no_holes (suc k) i l = elements_ended calls here a no_holes k i (omega arith)
elements_ended calls here a (then_hole no_expr hs) zero i l = absurd (omega (arith, l))
elements_ended calls here a (then_hole (one_expr e) hs) zero i l = absurd (omega (arith, l))
elements_ended calls here a (then_hole no_expr hs) (suc k) i l = elements_ended calls here a hs k i (omega (arith, l))
elements_ended calls here a (then_hole (one_expr e) hs) (suc k) i l = elements_ended calls here a hs k i (omega (arith, l))

list_there : (calls : Calls) (here : Here) (at : Option Node) (s : IsSequence at) (k : ℕ) (a : Value) (more : List Value) → kind_of at ≡ kind.List → true ≡ is_some (and_child at k)
    → elements_from calls here at (object_in a) k ≡ also (part calls here at k) (rest_value calls here at kind.List k (a ∷ more))
list_there calls here at (elements hs) k a more e h = element_there calls here (object_in a) hs k k h
list_there calls here at (fields fs) k a more e h = cc e
list_there calls here at (commas es) k a more e h = cc e

list_absent : (calls : Calls) (here : Here) (at : Option Node) (s : IsSequence at) (k : ℕ) (a : ObjId) → kind_of at ≡ kind.List → false ≡ is_some (and_child at k) → k < part_count at
    → elements_from calls here at a k ≡ elements_from calls here at a (suc k)
list_absent calls here at (elements hs) k a e h l = element_absent calls here a hs k k h l
list_absent calls here at (fields fs) k a e h l = cc
list_absent calls here at (commas es) k a e h l = cc

list_ended : (calls : Calls) (here : Here) (at : Option Node) (s : IsSequence at) (k : ℕ) (a : ObjId) → kind_of at ≡ kind.List → part_count at ≤ k
    → elements_from calls here at a k ≡ also (put_in a length_name (number k)) (λ _. give (Object a))
list_ended calls here at (elements hs) k a e l = elements_ended calls here a hs k k l
list_ended calls here at (fields fs) k a e l = cc e
list_ended calls here at (commas es) k a e l = cc e

-- no element, and one more that is absent
pub skips_none : (at : Option Node) (k : ℕ) → Skips at k k
skips_none at k = record { same = λ calls here a. refl; lighter = omega arith }

pub skips_one : (at : Option Node) (j k : ℕ) → kind_of at ≡ kind.List → Skips at j k → false ≡ is_some (and_child at k) → k < part_count at → Skips at j (suc k)
skips_one at j k e s h l = record {
  same = λ calls here a. s.same calls here a ∙ list_absent calls here at (sequence_shape at (ap family_of e)) k a e h l;
  lighter = omega (arith, s.lighter, weigh_less at k);
}

skips_on : {E : Type 0} (f : Where) (j k : ℕ) (a : ObjId) (w w' : Store) (m : Meter) (r : Result Next E) → Skips (spot_node f) j k
    → IfOk r (λ n. Leads (elements_from (calls_at m.depth) (here_of f) (spot_node f) a k) (weigh (spot_node f) k) w m n w' m)
    → IfOk r (λ n. Leads (elements_from (calls_at m.depth) (here_of f) (spot_node f) a j) (weigh (spot_node f) j) w m n w' m)
skips_on f j k a w w' m (Err x) s h = h
skips_on f j k a w w' m (Ok n) s h = record {
  follows = ap (λ (o : Act). o.run w m.steps) (s.same (calls_at m.depth) (here_of f) a) ∙ h.follows;
  levels = h.levels;
  lighter = no_heavier _ _ m n m s.lighter h.lighter;
}

-- the next element that is there runs
pub list_runs : {E : Type 0} (f : Where) (j k : ℕ) (got : List Value) (o : ObjId) (w : Store) (m : Meter) (r : Result Next E) → kind_of (spot_node f) ≡ kind.List → Skips (spot_node f) j k
    → true ≡ is_some (and_child (spot_node f) k) → holder got ≡ Some o → IfOk r (λ n. Goes f (kind_of (spot_node f)) k got k w m n)
    → IfOk r (λ n. Leads (elements_from (calls_at m.depth) (here_of f) (spot_node f) o j) (weigh (spot_node f) j) w m n w m)
list_runs f j k [] o w m r e s t g h = cc g
list_runs f j k (a ∷ more) o w m r e s t g h =
    let i : object_in a ≡ o = cc g in
    subst (λ (o : ObjId). IfOk r (λ n. Leads (elements_from (calls_at m.depth) (here_of f) (spot_node f) o j) (weigh (spot_node f) j) w m n w m)) i
    (skips_on f j k (object_in a) w w m r s
    (runs_part f kind.List k (a ∷ more) (elements_from (calls_at m.depth) (here_of f) (spot_node f) (object_in a) k) w m r e t
    (list_there (calls_at m.depth) (here_of f) (spot_node f) (sequence_shape (spot_node f) (ap family_of e)) k a more e t) refl h))

-- none is left, and the array gets its length
pub list_ends : {E : Type 0} (f : Where) (j k : ℕ) (o : ObjId) (w w' : Store) (m : Meter) (r : Result Next E) → kind_of (spot_node f) ≡ kind.List → Skips (spot_node f) j k
    → false ≡ is_some (and_child (spot_node f) k) → (is_some (and_child (spot_node f) k) ≡ true) ⊎ (part_count (spot_node f) ≤ k)
    → IfOk r (λ n. Leads (also (put_in o length_name (number k)) (λ _. give (Object o))) (weigh (spot_node f) k) w m n w' m)
    → IfOk r (λ n. Leads (elements_from (calls_at m.depth) (here_of f) (spot_node f) o j) (weigh (spot_node f) j) w m n w' m)
list_ends f j k o w w' m r e s t (inl b) h = cc (t, b)
list_ends f j k o w w' m r e s t (inr l) h =
    skips_on f j k o w w' m r s
    (subst (λ (x : Act). IfOk r (λ n. Leads x (weigh (spot_node f) k) w m n w' m)) (sym (list_ended (calls_at m.depth) (here_of f) (spot_node f) (sequence_shape (spot_node f) (ap family_of e)) k o e l)) h)

-- an element takes its value
pub list_goes : {E : Type 0} (f : Where) (turn : ℕ) (got : List Value) (o : ObjId) (v : Value) (w w' : Store) (m : Meter) (r : Result Next E) → Some o ≡ holder got
    → IfOk r (λ n. Leads (also (define_member o (decimal turn) v) (λ _. elements_from (calls_at m.depth) (here_of f) (spot_node f) o (suc turn))) (weigh (spot_node f) (suc turn)) w m n w' m)
    → IfOk r (λ n. Moves f kind.List turn got v w m n w')
list_goes f turn [] o v w w' m r e h = cc e
list_goes f turn (a ∷ more) o v w w' m r e h =
    let i : o ≡ object_in a = cc e in
    subst (λ (o : ObjId). IfOk r (λ n. Leads (also (define_member o (decimal turn) v) (λ _. elements_from (calls_at m.depth) (here_of f) (spot_node f) o (suc turn))) (weigh (spot_node f) (suc turn)) w m n w' m)) i h

pub list_idle : (f : Where) (turn : ℕ) (got : List Value) (v : Value) (w : Store) (m : Meter) → None ≡ holder got → Moves f kind.List turn got v w m (Give nothing) w
list_idle f turn [] v w m e = record { follows = refl; levels = refl; lighter = le_refl m.steps }
list_idle f turn (a ∷ more) v w m e = cc e

-- ---- what is held, and names

pub none_held : (got : List Value) → None ≡ slice_get got 0 → None ≡ holder got
none_held [] e = refl
none_held (a ∷ more) e = cc e

pub one_held : (got : List Value) (v : Value) (o : ObjId) → Some v ≡ slice_get got 0 → o ≡ object_in v → Some o ≡ holder got
one_held [] v o e i = cc e
one_held (a ∷ more) v o e i = let j : v ≡ a = cc e in ap (λ x. Some x) (i ∙ ap object_in j)

name_found : (xs : List (List ℕ)) (k : ℕ) (x : List ℕ) → Some x ≡ slice_get xs k → x ≡ name_at xs k
name_found [] k x e = cc e
name_found (y ∷ ys) zero x e = cc e
name_found (y ∷ ys) (suc k) x e = name_found ys k x e

pub named : {E : Type 0} (r : Result (List ℕ) E) (xs : List (List ℕ)) (k : ℕ) (x : List ℕ) → Some x ≡ slice_get xs k → IfOk r (λ y. y ≡ x) → IfOk r (λ y. y ≡ name_at xs k)
named (Err e) xs k x i h = h
named (Ok y) xs k x i h = h ∙ name_found xs k x i

name_missing : (xs : List (List ℕ)) (k : ℕ) → None ≡ slice_get xs k → [] ≡ name_at xs k
name_missing [] k e = refl
name_missing (y ∷ ys) zero e = cc e
name_missing (y ∷ ys) (suc k) e = name_missing ys k e

pub unnamed : {E : Type 0} (r : Result (List ℕ) E) (xs : List (List ℕ)) (k : ℕ) → None ≡ slice_get xs k → IfOk r (λ y. y ≡ []) → IfOk r (λ y. y ≡ name_at xs k)
unnamed (Err e) xs k i h = h
unnamed (Ok y) xs k i h = h ∙ name_missing xs k i
