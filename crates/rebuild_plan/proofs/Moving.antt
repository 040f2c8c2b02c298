-- What is read of moved properties is moved.
use Rattle.std.proofs.Common.{◌≡◌, refl, ℕ, Bool, true, false, List, [], ◌∷◌, Option, bytes_eq}
use Rattle.std.specs.Option.{option_map}
use Rattle.dom_tree.specs.Node.{node_at}
use Rattle.dom_tree.specs.declared.content.Kind.{Kind}
use Rattle.dom_tree.specs.declared.content.Kind.TheVariants as kind
use Rattle.js_values.specs.declared.ids.ObjId.{ObjId}
use Rattle.object_heap.specs.Object.{is_list}
use Rattle.object_heap.specs.Property.{Props, own_property}
use Rattle.object_heap.specs.declared.object.Class.{Class}
use Rattle.object_heap.specs.declared.object.Class.TheVariants as class
use Rattle.object_heap.specs.declared.property.Prop.{Prop}
use Rattle.page_meaning.specs.Store.{Store}
use Rattle.rebuild_plan.specs.Compact.{maker_as, moved_prop, moved_props}
use Rattle.rebuild_plan.specs.Nodes.{node_maker}
use Rattle.rebuild_plan.specs.Plan.{define_length}
use Rattle.rebuild_plan.specs.declared.statement.Maker.TheVariants.{List as Array}

pub own_moved : (things : List ℕ) (props : Props) (x : List ℕ) → own_property (moved_props things props) x ≡ option_map (moved_prop things) (own_property props x)
own_moved things [] x = refl
own_moved things (e ∷ es) x = by_case (bytes_eq x e.0) refl (own_moved things es x)
  where
    by_case : (b : Bool) → bytes_eq x e.0 ≡ b → own_property (moved_props things es) x ≡ option_map (moved_prop things) (own_property es x)
        → own_property (moved_props things (e ∷ es)) x ≡ option_map (moved_prop things) (own_property (e ∷ es) x)
    by_case true h more = rw h refl
    by_case false h more = rw h more

-- only arrays have a length that comes last
pub list_length : (s : Store) (things : List ℕ) (proto : Option ObjId) (c : Class) (at : ObjId) (p : Option Prop) → is_list c ≡ true → define_length (maker_as s things proto c) at p ≡ define_length Array at p
list_length s things proto class.List at p h = refl
list_length s things proto class.Plain at p h = cc h
list_length s things proto (class.Page c env) at p h = cc h
list_length s things proto (class.Native which) at p h = cc h
list_length s things proto (class.Bound target this args) at p h = cc h
list_length s things proto class.Fault at p h = cc h
list_length s things proto class.Math at p h = cc h
list_length s things proto class.Window at p h = cc h
list_length s things proto (class.Node n) at p h = cc h
list_length s things proto (class.Event parts) at p h = cc h

no_node_length : (things : List ℕ) (proto : Option ObjId) (k : Kind) (at : ObjId) (p : Option Prop) → define_length (node_maker things proto k) at p ≡ []
no_node_length things proto kind.Document at p = refl
no_node_length things proto (kind.Element name) at p = refl
no_node_length things proto (kind.Text text) at p = refl
no_node_length things proto (kind.Comment text) at p = refl

pub no_length : (s : Store) (things : List ℕ) (proto : Option ObjId) (c : Class) (at : ObjId) (p : Option Prop) → is_list c ≡ false → define_length (maker_as s things proto c) at p ≡ []
no_length s things proto class.List at p h = cc h
no_length s things proto class.Plain at p h = refl
no_length s things proto (class.Page c env) at p h = refl
no_length s things proto (class.Native which) at p h = refl
no_length s things proto (class.Bound target this args) at p h = refl
no_length s things proto class.Fault at p h = refl
no_length s things proto class.Math at p h = refl
no_length s things proto class.Window at p h = refl
no_length s things proto (class.Node n) at p h = no_node_length things proto (node_at s.host.nodes n.0).content.kind at p
no_length s things proto (class.Event parts) at p h = refl
