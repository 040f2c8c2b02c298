-- How a literal that got a value goes on.
use Rattle.std.proofs.Common.{◌≡◌, subst, ℕ, ℤ, pos, suc, List, Option, Some, Result, Ok, IfOk}
use Rattle.std.specs.Fmt.{decimal}
use Rattle.std.specs.Result.{IsErr, IsErrAnd}
use Rattle.code_table.specs.declared.kind.Kind.TheVariants as kind
use Rattle.js_values.specs.declared.ids.ObjId.{ObjId}
use Rattle.js_values.specs.declared.value.Value.{Value}
use Rattle.js_values.specs.declared.value.Value.TheVariants.{Num, Object}
use Rattle.object_heap.specs.Define.{length_name, number}
use Rattle.page_meaning.specs.declared.signal.Signal.TheVariants.{Value as Val}
use Rattle.page_meaning.specs.Act.{also, give}
use Rattle.page_meaning.specs.Calls.{calls_at}
use Rattle.page_meaning.specs.Properties.{define_member, put_in}
use Rattle.page_meaning.specs.Store.{Store}
use Rattle.page_frames.specs.declared.meter.Meter.{Meter}
use Rattle.page_frames.specs.declared.meter.Next.{Next}
use Rattle.page_frames.specs.RestLiterals.{elements_from, fields_from, name_at}
use Rattle.page_frames.specs.Step.{Leads, Moves}
use Rattle.page_frames.specs.Weight.{weigh}
use Rattle.page_frames.specs.Where.{Where, here_of, spot_node}
use Rattle.js_core.specs.declared.memory.Failure.{Failure}
use Rattle.page_state.specs.Does.{Does, Gives, Raises, itself}
use Rattle.page_state.proofs.Callers.{also_gives, failed, given}
use Rattle.step_parts.proofs.Callers.{also_leads}
use Rattle.step_expr.specs.Holding.{holder}
use Rattle.step_expr.proofs.InTurn.{list_goes, literal_goes}

-- an element is defined, and the next ones follow
pub list_filled : {E : Type 0} (f : Where) (turn k : ℕ) (got : List Value) (o : ObjId) (v u : Value) (w w1 w2 : Store) (m : Meter) (r : Result Next E) → Some o ≡ holder got → k ≡ suc turn
    → Does (λ _. define_member o (decimal turn) v) w (Val u) w1
    → IfOk r (λ n. Leads (elements_from (calls_at m.depth) (here_of f) (spot_node f) o k) (weigh (spot_node f) k) w1 m n w2 m) → IfOk r (λ n. Moves f kind.List turn got v w m n w2)
list_filled f turn k got o v u w w1 w2 m r e i d h =
    list_goes f turn got o v w w2 m r e
    (also_leads (λ _. define_member o (decimal turn) v) (λ _. elements_from (calls_at m.depth) (here_of f) (spot_node f) o (suc turn)) u (weigh (spot_node f) (suc turn)) w w1 w2 m m r d
    (subst (λ (k : ℕ). IfOk r (λ n. Leads (elements_from (calls_at m.depth) (here_of f) (spot_node f) o k) (weigh (spot_node f) k) w1 m n w2 m)) i h))

-- a field is defined, and the next ones follow
pub literal_filled : {E : Type 0} (f : Where) (xs : List (List ℕ)) (x : List ℕ) (turn k : ℕ) (got : List Value) (o : ObjId) (v u : Value) (w w1 : Store) (m : Meter) (r : Result Next E) → Some o ≡ holder got
    → x ≡ name_at xs turn → k ≡ suc turn → Does (λ _. define_member o x v) w (Val u) w1
    → IfOk r (λ n. Leads (fields_from (calls_at m.depth) (here_of f) (spot_node f) o k) (weigh (spot_node f) k) w1 m n w1 m) → IfOk r (λ n. Moves f (kind.Literal xs) turn got v w m n w1)
literal_filled f xs x turn k got o v u w w1 m r e g i d h =
    literal_goes f xs turn got o v w w1 m r e
    (also_leads (λ _. define_member o (name_at xs turn) v) (λ _. fields_from (calls_at m.depth) (here_of f) (spot_node f) o (suc turn)) u (weigh (spot_node f) (suc turn)) w w1 w1 m m r
    (subst (λ (x : List ℕ). Does (λ _. define_member o x v) w (Val u) w1) g d)
    (subst (λ (k : ℕ). IfOk r (λ n. Leads (fields_from (calls_at m.depth) (here_of f) (spot_node f) o k) (weigh (spot_node f) k) w1 m n w1 m)) i h))

-- an array's length is put
pub length_fails : (a : ObjId) (k : ℕ) (x : List ℕ) (n : Option ℤ) (s t : Store) (e : Failure Value) (r : Result Value (Failure Value)) → x ≡ length_name → n ≡ Some (pos k) → Raises (λ _. put_in a x (Num n)) s t e
    → IsErr r × IsErrAnd r (λ d. d ≡ e) → Gives itself (λ _. also (put_in a length_name (number k)) (λ _. give (Object a))) s t r
length_fails a k x n s t e r g i d h =
    failed (λ _. put_in a length_name (number k)) (λ _ _. give (Object a)) itself s t e r
    (subst (λ (x : List ℕ). Raises (λ _. put_in a x (number k)) s t e) g (subst (λ (n : Option ℤ). Raises (λ _. put_in a x (Num n)) s t e) i d)) h

pub length_put : (a : ObjId) (k : ℕ) (x : List ℕ) (n : Option ℤ) (s t : Store) (u : Value) → x ≡ length_name → n ≡ Some (pos k) → Does (λ _. put_in a x (Num n)) s (Val u) t
    → Gives itself (λ _. also (put_in a length_name (number k)) (λ _. give (Object a))) s t (Ok (Object a))
length_put a k x n s t u g i d =
    also_gives (λ _. put_in a length_name (number k)) (λ _ _. give (Object a)) itself u s t t (Ok (Object a))
    (subst (λ (x : List ℕ). Does (λ _. put_in a x (number k)) s (Val u) t) g (subst (λ (n : Option ℤ). Does (λ _. put_in a x (Num n)) s (Val u) t) i d)) (given (Object a) t)

pub same_names : (xs ys : List (List ℕ)) → kind.Literal xs ≡ kind.Literal ys → xs ≡ ys
same_names xs ys e = cc e
