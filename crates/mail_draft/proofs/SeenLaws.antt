-- What was read stays what a tree has.
use Rattle.std.proofs.Common.{◌≡◌, ℕ, Bool, true, false, cond, List, [], Option, None, Some, refl, sym, ◌∙◌, ap, subst}
use Rattle.std.specs.declared.cmp.Ordering.{Ordering}
use Rattle.std.specs.declared.cmp.Ordering.TheVariants.{Less, Equal, Greater}
use Rattle.std.specs.Ordering.{is_eq, nat_cmp}
use Rattle.std.specs.BTreeMap.{is_at}
use Rattle.std.specs.Option.{unwrap_or}
use Rattle.std.specs.FinMap as map
use Rattle.mail_objects.specs.Forms.{Ctx}
use Rattle.mail_objects.specs.declared.object.Object.{Object}
use Rattle.mail_tree.specs.Changing.{newest, nothing, now_at}
use Rattle.mail_tree.specs.declared.places.FolderPlace.{FolderPlace}
use Rattle.mail_tree.specs.Flags.{AreFlags, FlagList}
use Rattle.mail_tree.specs.Tree.{Shown, Tree, object_at}
use Rattle.node_port.specs.Nodes.{Nodes}
use Rattle.mail_draft.specs.Seen.{AreThere, IsThere, Sees, seen_at}
use Rattle.mail_draft.specs.Showing.{Showing}

-- where nothing has changed, the tree's own objects stand
pub now_of : (T : Tree) (q : ℕ) → now_at T nothing q ≡ object_at T q
now_of T q = ap (λ o. newest o (object_at T q)) (map.get-empty nat_cmp q)

same_some : (c d : Ctx) → Some c ≡ Some d → c ≡ d
same_some c d e = ap (λ (o : Option Ctx). unwrap_or o c) e

equal_is : (r : Ordering) → is_eq r ≡ true → r ≡ Equal
equal_is Less e = cc
equal_is Equal e = refl
equal_is Greater e = cc

-- what was read is put beside what was read before
pub there_put : (objects : ℕ → Option Object) (k : ℕ) (c : Ctx) (old new : List (ℕ × Ctx)) → Sees k c old new → IsThere (objects k) c → AreThere objects old → AreThere objects new
there_put objects k c old new sees this all = λ q d is. pick q d (is_at (nat_cmp k) q) refl (sym (sees q) ∙ is)
  where
    pick : (q : ℕ) (d : Ctx) (b : Bool) → is_at (nat_cmp k) q ≡ b → cond b (Some c) (seen_at q old) ≡ Some d → IsThere (objects q) d
    pick q d true e is = subst (λ x. IsThere (objects q) x) (same_some c d is) (subst (λ x. IsThere (objects x) c) (map.nat_cmp-IsAntisymmetric k q (equal_is (nat_cmp k q) e)) this)
    pick q d false e is = all q d is

none_is : {A P : Type 0} (x : A) → None ≡ Some x → P
none_is x e = cc

nothing_known : (objects : ℕ → Option Object) → AreFlags objects []
nothing_known objects = λ q note is. none_is note is

nothing_seen : (objects : ℕ → Option Object) → AreThere objects []
nothing_seen objects = λ q c is. none_is c is

-- at first a desk shows what the nodes show, as far as places are known
pub showing_first : {holds : Nodes → Type 0} {last : List ℕ} {folders : List FolderPlace} {notes : FlagList} {seen : List (ℕ × Ctx)} (T : Tree)
    → Shown holds last T → T.places ≡ folders → notes ≡ [] → seen ≡ [] → Showing holds last folders notes seen T
showing_first T shown places no_notes unseen = record {
  shown = shown;
  places = places;
  flags = rw no_notes (nothing_known (object_at T));
  there = rw unseen (nothing_seen (object_at T));
}
