-- Nodes show at most one tree.
use Rattle.std.proofs.Common.{◌≡◌, inl, inr, ◌∙◌, ℕ, zero, suc, ◌%◌, List, Option, None, Some, IsSome, is_some, arith, refl, sym, subst, ap}
use Rattle.std.proofs.lemmas.Bool.{false≢true}
use Rattle.std.proofs.lemmas.Option.{same_Some}
use Rattle.std.specs.Cmp.{nat_cmp_total}
use Rattle.std.specs.FinMap as map
use Rattle.mapi_values.specs.Messages.{Mes}
use Rattle.mail_objects.specs.Forms.{Ctx, Tbl}
use Rattle.mail_objects.specs.Objects.{ShowsObject}
use Rattle.mail_objects.specs.declared.object.Object.{Object}
use Rattle.mail_objects.specs.declared.object.Object.TheVariants.{Context, Table, Message, Bare}
use Rattle.node_port.specs.Nodes.{Nodes, node_at}
use Rattle.node_port.specs.declared.node.NodeRec.{NodeRec}
use Rattle.pst_base.specs.declared.ids.Nid.{Nid}
use Rattle.mail_tree.specs.declared.places.FolderPlace.{FolderPlace}
use Rattle.mail_tree.specs.declared.places.Sort.{Sort}
use Rattle.mail_tree.specs.declared.places.Sort.TheVariants.{Plain, Foreign}
use Rattle.mail_tree.specs.Found.{StandsBelow}
use Rattle.mail_tree.specs.Places.{find_place, place_id}
use Rattle.mail_tree.specs.Standing.{HasTree, names_sort}
use Rattle.mail_tree.specs.Tree.{StandsAt, Tree, object_at}
use Rattle.mail_tree.specs.Whole.{kind_of_sort}
use Rattle.mail_tree.proofs.Nearly.{message_id}
use Rattle.mail_tree.proofs.OneList.{one_list}
use Rattle.tree_look.specs.Shows.{IsOwned, Shows}
use Rattle.tree_look.proofs.Owned.{IsAt, one_bare_at, one_context_at, one_mail_at, one_table_at}
use Rattle.tree_look.proofs.Made.{bare_id, context_apart, context_low, table_id}

-- a row names a folder that stands somewhere
named : (N : Nodes) (f : ℕ) (s : Sort) → f % 32 ≡ kind_of_sort s → IsSome (node_at N f) → names_sort N f ≡ Some s
named N f Plain kind is = rw kind refl
named N f Foreign kind is = rw (kind, is) refl

module _ (N : Nodes) (P Q : List FolderPlace) (h : HasTree N P) (k : HasTree N Q) where
  -- from the root down each folder stands where it stands
  stands : (n f : ℕ) (p : FolderPlace) → StandsBelow P n f → find_place f P ≡ Some p → find_place f Q ≡ Some p
  stands zero f p is_root e = subst (λ x. find_place x Q ≡ Some p) (sym is_root) (k.root ∙ sym h.root ∙ subst (λ x. find_place x P ≡ Some p) is_root e)
  stands (suc n) f p below e =
      let above = h.parents f p e below.0 in
      let same : (below.1).0 ≡ p = same_Some (below.1).0 p (sym (below.1).1 ∙ e) in
      let from = subst (λ (q : FolderPlace). StandsBelow P n q.parent.bits) same (below.1).2 in
      let parent = stands n p.parent.bits above.0 from above.1 in
      let c = h.contexts f p e in
      let name = named N f p.sort (h.kinds f p e) (subst IsSome (sym (c.1).1) refl) in
      (k.listed p.parent.bits above.0 f parent above.2 above.3 p.sort name).1 ∙ sym (h.listed p.parent.bits above.0 f above.1 above.2 above.3 p.sort name).1 ∙ e

-- the places are those that rows lead to
pub one_places : (N : Nodes) (P Q : List FolderPlace) → HasTree N P → HasTree N Q → P ≡ Q
one_places N P Q h k =
    one_list place_id 0 0 P Q h.ascend k.ascend (λ f p e. let below = h.reached f p e in stands N P Q h k below.0 f p below.2 e) (λ f p e. let below = k.reached f p e in stands N Q P k h below.0 f p below.2 e)

-- what may stand at an id is of one form, and so one object
pub one_object : (N : Nodes) (q : ℕ) (a b : Object) → IsAt N q a → IsAt N q b → a ≡ b
one_object N q (Context a) (Context b) s t = ap (λ (x : Ctx). Context x) (one_context_at N q a b s.0 t.0)
one_object N q (Context a) (Table b) s t = let low = context_low q a s.1 in let high = table_id q b t.1 in absurd (omega arith)
one_object N q (Context a) (Message b) s t = absurd (context_apart q a s.1 (inl (message_id q b t.1).0))
one_object N q (Context a) (Bare b) s t = absurd (context_apart q a s.1 (inr (bare_id q b t.1)))
one_object N q (Table a) (Context b) s t = let low = context_low q b t.1 in let high = table_id q a s.1 in absurd (omega arith)
one_object N q (Table a) (Table b) s t = ap (λ (x : Tbl). Table x) (one_table_at N q a b s.0 t.0)
one_object N q (Table a) (Message b) s t = let high = table_id q a s.1 in let four = (message_id q b t.1).0 in absurd (omega arith)
one_object N q (Table a) (Bare b) s t = let high = table_id q a s.1 in let six = bare_id q b t.1 in absurd (omega arith)
one_object N q (Message a) (Context b) s t = absurd (context_apart q b t.1 (inl (message_id q a s.1).0))
one_object N q (Message a) (Table b) s t = let high = table_id q b t.1 in let four = (message_id q a s.1).0 in absurd (omega arith)
one_object N q (Message a) (Message b) s t = ap (λ (x : Mes). Message x) (one_mail_at N q a b s.0 t.0)
one_object N q (Message a) (Bare b) s t = let four = (message_id q a s.1).0 in let six = bare_id q b t.1 in absurd (omega arith)
one_object N q (Bare a) (Context b) s t = absurd (context_apart q b t.1 (inr (bare_id q a s.1)))
one_object N q (Bare a) (Table b) s t = let high = table_id q b t.1 in let six = bare_id q a s.1 in absurd (omega arith)
one_object N q (Bare a) (Message b) s t = let four = (message_id q b t.1).0 in let six = bare_id q a s.1 in absurd (omega arith)
one_object N q (Bare a) (Bare b) s t = ap (λ (x : Nid). Bare x) (one_bare_at N q a b s.0 t.0)

pub is_at : (N : Nodes) (T : Tree) → Shows N T → (q : ℕ) (o : Object) → object_at T q ≡ Some o → IsAt N q o
is_at N T s q o e = (there (object_at T q) e (s.at q), s.typed q o e)
  where
    there : (x : Option Object) → x ≡ Some o → StandsAt q (node_at N q) x (node_at T.others q) → (node : NodeRec) × (node_at N q ≡ Some node) × ShowsObject q node o
    there x e at = (subst (λ y. StandsAt q (node_at N q) y (node_at T.others q)) e at).1

module _ (N : Nodes) (T U : Tree) (s : Shows N T) (t : Shows N U) where
  places : T.places ≡ U.places
  places = one_places N T.places U.places s.tree t.tree

  forth : (q : ℕ) → IsSome (object_at T q) → IsSome (object_at U q)
  forth q is = (t.owned q).1 (subst (λ ps. IsOwned N ps q) places ((s.owned q).0 is))

  back : (q : ℕ) → IsSome (object_at U q) → IsSome (object_at T q)
  back q is = (s.owned q).1 (subst (λ ps. IsOwned N ps q) (sym places) ((t.owned q).0 is))

  object_same : (q : ℕ) → object_at T q ≡ object_at U q
  object_same q = go (object_at T q) (object_at U q) refl refl
    where
      go : (a b : Option Object) → object_at T q ≡ a → object_at U q ≡ b → a ≡ b
      go None None e e' = refl
      go (Some x) None e e' = absurd (false≢true (sym (ap is_some e') ∙ forth q (subst IsSome (sym e) refl)))
      go None (Some y) e e' = absurd (false≢true (sym (ap is_some e) ∙ back q (subst IsSome (sym e') refl)))
      go (Some x) (Some y) e e' = ap Some (one_object N q x y (is_at N T s q x e) (is_at N U t q y e'))

  other_same : (q : ℕ) → node_at T.others q ≡ node_at U.others q
  other_same q = go (object_at T q) (object_at U q) (object_same q) (s.at q) (t.at q)
    where
      go : (a b : Option Object) → a ≡ b → StandsAt q (node_at N q) a (node_at T.others q) → StandsAt q (node_at N q) b (node_at U.others q) → node_at T.others q ≡ node_at U.others q
      go None None e x y = sym x ∙ y
      go (Some a) (Some b) e x y = x.0 ∙ sym y.0
      go (Some a) None e x y = absurd (false≢true (sym (ap is_some e)))
      go None (Some b) e x y = absurd (false≢true (ap is_some e))

-- nodes show one tree with these counters at most
pub one_tree : (N : Nodes) (T U : Tree) → Shows N T → Shows N U → T.last ≡ U.last → T ≡ U
one_tree N T U s t counters =
    let ps = places N T U s t in
    let os = map.same_map nat_cmp_total map.nat_cmp-IsAntisymmetric T.objects U.objects (object_same N T U s t) in
    let ns = map.same_map nat_cmp_total map.nat_cmp-IsAntisymmetric T.others U.others (other_same N T U s t) in
    λ i. record { places = ps i; objects = os i; others = ns i; last = counters i }
