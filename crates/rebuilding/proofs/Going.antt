-- While statements change one object of a page, all else stays.
use Rattle.std.proofs.Common.{◌≡◌, refl, sym, ap, subst, ◌∙◌, ℕ, ◌+◌, Bool, true, false, ◌&&◌, nat_eq, List, [], ◌∷◌, length, bytes_eq, arith}
use Rattle.std.proofs.lemmas.List.Elements.{All-head, All-tail}
use Rattle.std.specs.List.{All}
use Rattle.std.proofs.lemmas.Bool.{and_parts}
use Rattle.js_values.specs.declared.ids.ObjId.{ObjId}
use Rattle.js_values.specs.declared.value.Value.{Value}
use Rattle.js_values.specs.declared.value.Value.TheVariants.{Text}
use Rattle.object_heap.specs.Attempt.{Attempt, done}
use Rattle.object_heap.specs.Chain.{object_at}
use Rattle.object_heap.specs.Define.{define_own, length_name, number, prevented}
use Rattle.object_heap.specs.Function.{prototype_name}
use Rattle.object_heap.specs.Heap.{Contents}
use Rattle.object_heap.specs.Object.{Object, is_list}
use Rattle.object_heap.specs.declared.property.Prop.{Prop}
use Rattle.page_meaning.specs.Places.{window}
use Rattle.page_writer.specs.Literals.{HaveLiterals, IsLiteral, values_of}
use Rattle.rebuild_plan.specs.Stands.{standing}
use Rattle.rebuild_plan.specs.declared.statement.Rebuild.{Rebuild}
use Rattle.rebuild_plan.specs.declared.statement.Rebuild.TheVariants.{Define, DefineLength, DefinePrototype, Prevent}
use Rattle.rebuilding.specs.Rebuilt.{Succeeds}
use Rattle.rebuilding.specs.Running.{HasChanged, Stays, short_change, whole_change}
use Rattle.page_host.specs.Host.{Host}
use Rattle.page_meaning.specs.HostNames.{is_kept}
use Rattle.rebuilding.specs.Scene.{IsHosting, IsRunning, Scene}
use Rattle.rebuilding.specs.Sites.{site}
use Rattle.rebuilding.proofs.WindowStays.{is_built}
use Rattle.object_shapes.specs.Links.{value_links, all_below}
use Rattle.rebuild_plan.specs.Moved.{first_thing}

-- ---- what statements may name and write

pub record Allowed (n : ℕ) (rs : List Rebuild) : Type 0 where
  pub stands : standing n rs ≡ true
  pub in_range : HaveLiterals rs

-- a statement that makes nothing
pub stands_split : (n : ℕ) (b : Bool) (rs : List Rebuild) → b && standing (0 + n) rs ≡ true → (b ≡ true) × (standing n rs ≡ true)
stands_split n b rs h =
    let parts = and_parts b (standing (0 + n) rs) h in
    let same : 0 + n ≡ n = omega arith in
    (parts.0, subst (λ m. standing m rs ≡ true) same parts.1)

pub range_first : (r : Rebuild) (rs : List Rebuild) → HaveLiterals (r ∷ rs) → All IsLiteral (values_of r)
range_first r rs h = All-head (λ q. All IsLiteral (values_of q)) r rs h

pub range_rest : (r : Rebuild) (rs : List Rebuild) → HaveLiterals (r ∷ rs) → HaveLiterals rs
range_rest r rs h = All-tail (λ q. All IsLiteral (values_of q)) r rs h

-- ---- what stays

pub stays_same : (h : Contents) (but : List ℕ) → Stays h h but
stays_same h but = record {
  more = omega arith;
  objects = λ k there other. refl;
  more_environments = omega arith;
  environments = λ k there. refl;
}

pub stays_on : (f g h : Contents) (but : List ℕ) → Stays f g but → Stays g h but → Stays f h but
stays_on f g h but a b = record {
  more = omega (arith, a.more, b.more);
  objects = λ k there other. b.objects k (omega (arith, there, a.more)) other ∙ a.objects k there other;
  more_environments = omega (arith, a.more_environments, b.more_environments);
  environments = λ k there. b.environments k (omega (arith, there, a.more_environments)) ∙ a.environments k there;
}

-- since the page was g, the object at the place became o, and all else stayed, the host too
pub record Going (c : Scene) (g h : Contents) (w : Host) (sites : List ℕ) (k : ℕ) (o : Object) : Type 0 where
  pub running : IsRunning c h sites
  pub hosting : IsHosting h w
  pub stays : Stays g h (k ∷ [])
  pub object : object_at h.objects k ≡ o

pub going_begins : (c : Scene) (h : Contents) (w : Host) (sites : List ℕ) (k : ℕ) (o : Object) → IsRunning c h sites → IsHosting h w
    → object_at h.objects k ≡ o → Going c h h w sites k o
going_begins c h w sites k o running hosting is = record { running = running; hosting = hosting; stays = stays_same h (k ∷ []); object = is }

pub changed_next : (c : Scene) (g h i : Contents) (w j : Host) (sites after : List ℕ) (k : ℕ) (o p next : Object) → Going c g h w sites k o
    → IsRunning c i after → IsHosting i j → HasChanged h w i j sites after k p → p ≡ next → Going c g i w sites k next
changed_next c g h i w j sites after k o p next going running hosting ran is = record {
  running = subst (IsRunning c i) ran.same running;
  hosting = subst (IsHosting i) ran.host hosting;
  stays = stays_on g h i (k ∷ []) going.stays ran.stays;
  object = ran.object ∙ is;
}

-- ---- one statement

module _ (c : Scene) (End : Contents → Host → List ℕ → Type 0) (sites : List ℕ) (g : Contents) (w : Host) where
  pub define_next : (h : Contents) (at : ObjId) (x : List ℕ) (p : Prop) (rs : List Rebuild) (o next : Object) → Going c g h w sites (site sites at.0) o
      → Allowed (length sites) (Define at x p ∷ rs) → (is_list o.class && bytes_eq x length_name) ≡ false
      → is_kept w.nodes o.class x ≡ false → (nat_eq at.0 window.0 && is_built x) ≡ false → define_own o x (whole_change sites p) ≡ done next
      → ((i : Contents) → Going c g i w sites (site sites at.0) next → Allowed (length sites) rs → Succeeds c End i w sites rs)
      → Succeeds c End h w sites (Define at x p ∷ rs)
  unfolding is_built
  define_next h at x p rs o next going allowed other free own does later = (
    record {
      stands = (stands_split (length sites) (all_below (first_thing + length sites) (at.0 ∷ value_links p.value)) rs allowed.stands).0;
      in_range = All-head IsLiteral p.value [] (All-tail IsLiteral (Text x) (p.value ∷ []) (range_first (Define at x p) rs allowed.in_range));
      other = ap (λ (q : Object). is_list q.class && bytes_eq x length_name) going.object ∙ other;
      free = ap (λ (q : Object). is_kept w.nodes q.class x) going.object ∙ free;
      own = own;
      defined = ap (λ (q : Object). (define_own q x (whole_change sites p)).thrown) going.object ∙ ap (λ (a : Attempt Object). a.thrown) does;
    },
    λ i j after running hosting ran. subst (λ l. Succeeds c End i j l rs) (sym ran.same) (subst (λ v. Succeeds c End i v sites rs) (sym ran.host) (later i
        (changed_next c g h i w j sites after (site sites at.0) o _ next going running hosting ran
        (ap (λ (q : Object). (define_own q x (whole_change sites p)).after) going.object ∙ ap (λ (a : Attempt Object). a.after) does))
        (record { stands = (stands_split (length sites) _ rs allowed.stands).1; in_range = range_rest (Define at x p) rs allowed.in_range }))),
  )

  pub prototype_next : (h : Contents) (at : ObjId) (v : Value) (writable : Bool) (rs : List Rebuild) (o next : Object)
      → Going c g h w sites (site sites at.0) o
      → Allowed (length sites) (DefinePrototype at v writable ∷ rs) → is_list o.class ≡ false → is_kept w.nodes o.class prototype_name ≡ false → nat_eq at.0 window.0 ≡ false
      → define_own o prototype_name (short_change sites v writable) ≡ done next
      → ((i : Contents) → Going c g i w sites (site sites at.0) next → Allowed (length sites) rs → Succeeds c End i w sites rs)
      → Succeeds c End h w sites (DefinePrototype at v writable ∷ rs)
  unfolding is_built
  prototype_next h at v writable rs o next going allowed ordinary free off does later = (
    record {
      stands = (stands_split (length sites) (all_below (first_thing + length sites) (at.0 ∷ value_links v)) rs allowed.stands).0;
      in_range = All-head IsLiteral v [] (range_first (DefinePrototype at v writable) rs allowed.in_range);
      other = ap (λ (q : Object). is_list q.class && bytes_eq prototype_name length_name) going.object
          ∙ ap (λ b. b && bytes_eq prototype_name length_name) ordinary;
      free = ap (λ (q : Object). is_kept w.nodes q.class prototype_name) going.object ∙ free;
      own = ap (λ b. b && is_built prototype_name) off;
      defined = ap (λ (q : Object). (define_own q prototype_name (short_change sites v writable)).thrown) going.object
          ∙ ap (λ (a : Attempt Object). a.thrown) does;
    },
    λ i j after running hosting ran. subst (λ l. Succeeds c End i j l rs) (sym ran.same) (subst (λ v. Succeeds c End i v sites rs) (sym ran.host) (later i
        (changed_next c g h i w j sites after (site sites at.0) o _ next going running hosting ran
        (ap (λ (q : Object). (define_own q prototype_name (short_change sites v writable)).after) going.object
        ∙ ap (λ (a : Attempt Object). a.after) does))
        (record {
          stands = (stands_split (length sites) _ rs allowed.stands).1;
          in_range = range_rest (DefinePrototype at v writable) rs allowed.in_range;
        }))),
  )

  pub length_next : (h : Contents) (at : ObjId) (n : ℕ) (writable : Bool) (rs : List Rebuild) (o next : Object)
      → Going c g h w sites (site sites at.0) o
      → Allowed (length sites) (DefineLength at (number n) writable ∷ rs) → is_kept w.nodes o.class length_name ≡ false
      → define_own o length_name (short_change sites (number n) writable) ≡ done next
      → ((i : Contents) → Going c g i w sites (site sites at.0) next → Allowed (length sites) rs → Succeeds c End i w sites rs)
      → Succeeds c End h w sites (DefineLength at (number n) writable ∷ rs)
  length_next h at n writable rs o next going allowed free does later = (
    record {
      stands = (stands_split (length sites) (all_below (first_thing + length sites) (at.0 ∷ [])) rs allowed.stands).0;
      count = n;
      is = refl;
      in_range = All-head IsLiteral (number n) [] (range_first (DefineLength at (number n) writable) rs allowed.in_range);
      free = ap (λ (q : Object). is_kept w.nodes q.class length_name) going.object ∙ free;
      defined = ap (λ (q : Object). (define_own q length_name (short_change sites (number n) writable)).thrown) going.object
          ∙ ap (λ (a : Attempt Object). a.thrown) does;
    },
    λ i j after running hosting ran. subst (λ l. Succeeds c End i j l rs) (sym ran.same) (subst (λ v. Succeeds c End i v sites rs) (sym ran.host) (later i
        (changed_next c g h i w j sites after (site sites at.0) o _ next going running hosting ran
        (ap (λ (q : Object). (define_own q length_name (short_change sites (number n) writable)).after) going.object
        ∙ ap (λ (a : Attempt Object). a.after) does))
        (record {
          stands = (stands_split (length sites) _ rs allowed.stands).1;
          in_range = range_rest (DefineLength at (number n) writable) rs allowed.in_range;
        }))),
  )

  pub prevent_next : (h : Contents) (at : ObjId) (rs : List Rebuild) (o next : Object) → Going c g h w sites (site sites at.0) o
      → Allowed (length sites) (Prevent at ∷ rs) → prevented o ≡ done next
      → ((i : Contents) → Going c g i w sites (site sites at.0) next → Allowed (length sites) rs → Succeeds c End i w sites rs)
      → Succeeds c End h w sites (Prevent at ∷ rs)
  prevent_next h at rs o next going allowed does later = (
    record {
      stands = (stands_split (length sites) (all_below (first_thing + length sites) (at.0 ∷ [])) rs allowed.stands).0;
      done = ap (λ (q : Object). (prevented q).thrown) going.object ∙ ap (λ (a : Attempt Object). a.thrown) does;
    },
    λ i j after running hosting ran. subst (λ l. Succeeds c End i j l rs) (sym ran.same) (subst (λ v. Succeeds c End i v sites rs) (sym ran.host) (later i
        (changed_next c g h i w j sites after (site sites at.0) o _ next going running hosting ran
        (ap (λ (q : Object). (prevented q).after) going.object ∙ ap (λ (a : Attempt Object). a.after) does))
        (record { stands = (stands_split (length sites) _ rs allowed.stands).1; in_range = range_rest (Prevent at) rs allowed.in_range }))),
  )
