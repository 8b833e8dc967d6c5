-- What is put as it stands leaves all as it was.
use Rattle.std.proofs.Common.{◌≡◌, ◌∙◌, ◌⊎◌, ℕ, true, cond, Option, None, Some, IsSome, is_some, ap, refl, subst, sym, inl, inr}
use Rattle.std.specs.Cmp.{nat_cmp_total}
use Rattle.std.specs.FinMap as map
use Rattle.std.proofs.lemmas.Bool.{cases_eq, eq-eqb}
use Rattle.node_port.specs.Nodes.{node_at}
use Rattle.node_port.specs.declared.node.NodeRec.{NodeRec}
use Rattle.mail_objects.specs.Forms.{Ctx, Tbl}
use Rattle.mail_objects.specs.declared.object.Object.{Object}
use Rattle.mail_objects.specs.declared.object.Object.TheVariants.{Context, Table}
use Rattle.mail_tree.specs.Changing.{Changed, ◌>>=◌, as_message, associated, hierarchy, now_at, with_object}
use Rattle.mail_tree.specs.Folders.{Outcome}
use Rattle.mail_tree.specs.Found.{IsFoundBeside, named_sort}
use Rattle.mail_tree.specs.Ids.{is_taken}
use Rattle.mail_tree.specs.Settling.{context_as_is, table_as_is}
use Rattle.mail_tree.specs.Step.{after}
use Rattle.mail_tree.specs.Tree.{Tree, object_at}
use Rattle.mail_tree.specs.Whole.{AreWhole, Fine}
use Rattle.mail_tree.proofs.AfterTree.{after_now, same_now, tied}
use Rattle.mail_tree.proofs.FineLaws.{after_context, fine_then, fine_weaker}
use Rattle.mail_tree.proofs.StoodLaws.{AreStood, IsNew, stood_put, values_stood}
use Rattle.mail_laws.specs.Laws.{AreCountedBut, AreShown}
use Rattle.mail_laws.proofs.FoundSteps.{get_other}
use Rattle.mail_searches.specs.Searches.{criteria_node, results}
use Rattle.search_lists.specs.Keeps.{KeepsOrder, with_changes}
use Rattle.search_lists.proofs.AfterOrder.{other_after}
use Rattle.search_mending.specs.Mending.{listed_as_is, search_as_is}

-- Further changes put again what stands there: all stands as it stood, and what is put can be compared with the tree where it could.
pub record IsAsIs (T : Tree) (D D' : Changed) : Type 0 where
  pub now : now_at T D' ≡ now_at T D
  pub puts : (q : ℕ) → (map.get D'.objects q ≡ map.get D.objects q) ⊎ (IsSome (map.get D'.objects q) × IsSome (now_at T D' q))
  pub stood : AreStood T (IsNew None) D → AreStood T (IsNew None) D'

-- no further changes do so
pub as_is_stay : (T : Tree) (D : Changed) → IsAsIs T D D
as_is_stay T D = record { now = refl; puts = λ q. inl refl; stood = λ all. all }

-- so do changes one after the other
as_is_then : (T : Tree) (D D1 D2 : Changed) → IsAsIs T D D1 → IsAsIs T D1 D2 → IsAsIs T D D2
as_is_then T D D1 D2 a b = record {
  now = b.now ∙ a.now;
  puts = λ q. elim (b.puts q) [
    | inr put ↦ inr put
    | inl same ↦ elim (a.puts q) [
      | inl same' ↦ inl (same ∙ same')
      | inr put ↦ inr (subst IsSome (sym same) put.0, ap (λ at. is_some (at q)) b.now ∙ put.1)
    ]
  ];
  stood = λ all. b.stood (a.stood all);
}

got_here : (D : Changed) (q : ℕ) (o : Option Object) → map.get (map.insert D.objects q o) q ≡ Some o
got_here D q o = rw (map.get-insert nat_cmp_total D.objects q o q, tied true q q (eq-eqb q q refl)) refl

-- an object is put again
put_as_is : (T : Tree) (D : Changed) (q : ℕ) (o : Object) → now_at T D q ≡ Some o → (AreStood T (IsNew None) D → AreStood T (IsNew None) (with_object q (Some o) D)) → IsAsIs T D (with_object q (Some o) D)
put_as_is T D q o at stood = record {
  now = same_now T D q o at;
  puts = λ k. elim (cases_eq k q) [
    | inl e ↦ inr (
      subst (λ z. IsSome (map.get (map.insert D.objects q (Some o)) z)) (sym e) (ap is_some (got_here D q (Some o))),
      ap (λ there. is_some (there k)) (same_now T D q o at) ∙ ap (λ z. is_some (now_at T D z)) e ∙ ap is_some at,
    )
    | inr n ↦ inl (get_other D q k (Some o) n)
  ];
  stood = stood;
}

pub context_stays : (T : Tree) (D : Changed) (q : ℕ) (c : Ctx) → now_at T D q ≡ Some (Context c) → Fine (context_as_is T q D) (IsAsIs T D)
unfolding context_as_is
context_stays T D q c at = after_context (IsAsIs T D) T D q c _ at (put_as_is T D q (Context c) at (λ all. values_stood T (IsNew None) q c c D all at))

pub table_stays : (T : Tree) (D : Changed) (q : ℕ) (t : Tbl) → now_at T D q ≡ Some (Table t) → Fine (table_as_is T q D) (IsAsIs T D)
unfolding table_as_is
table_stays T D q t at = rw at (put_as_is T D q (Table t) at (λ all. stood_put T (IsNew None) q (Some (Table t)) D tt all))

-- the nodes of a search stand there
pub record HasNodes (T : Tree) (D : Changed) (f : ℕ) : Type 0 where
  pub values : (c : Ctx) × (now_at T D f ≡ Some (Context c)) × ((u : Tbl) × (now_at T D (hierarchy c.parent) ≡ Some (Table u)))
  pub criteria : (c : Ctx) × (now_at T D (criteria_node f) ≡ Some (Context c))
  pub list : (t : Tbl) × (now_at T D (results f) ≡ Some (Table t))

module _ (T : Tree) (f : ℕ) (D : Changed) (has : HasNodes T D f) where
  -- they are there still, and the next changes go on
  goes_on : (D1 : Changed) (q : ℕ) (o : Object) → IsAsIs T D D1 → now_at T D q ≡ Some o → now_at T D1 q ≡ Some o
  goes_on D1 q o still at = ap (λ there. there q) still.now ∙ at

  listed_stays : (D1 : Changed) → IsAsIs T D D1 → Fine (listed_as_is T f D1) (IsAsIs T D)
  unfolding listed_as_is
  listed_stays D1 still =
      let c = has.values in
      after_context (IsAsIs T D) T D1 f c.0 _ (goes_on D1 f (Context c.0) still c.1) (fine_weaker (IsAsIs T D1) (IsAsIs T D) (table_as_is T (hierarchy c.0.parent) D1)
      (table_stays T D1 (hierarchy c.0.parent) c.2.0 (goes_on D1 (hierarchy c.0.parent) (Table c.2.0) still c.2.1)) (λ D2 next. as_is_then T D D1 D2 still next))

  -- so all may be put as they are
  pub search_stays : Fine (search_as_is T f D) (IsAsIs T D)
  unfolding search_as_is
  search_stays =
      let As : Changed → Type 0 = IsAsIs T D in
      let q = criteria_node f in
      fine_then As As (context_as_is T f D >>= context_as_is T q >>= table_as_is T (results f)) (listed_as_is T f)
      (fine_then As As (context_as_is T f D >>= context_as_is T q) (table_as_is T (results f))
      (fine_then As As (context_as_is T f D) (context_as_is T q) (context_stays T D f has.values.0 has.values.1)
      (λ D1 still. fine_weaker (IsAsIs T D1) As (context_as_is T q D1) (context_stays T D1 q has.criteria.0 (goes_on D1 q (Context has.criteria.0) still has.criteria.1)) (λ D2 next. as_is_then T D D1 D2 still next)))
      (λ D1 still. fine_weaker (IsAsIs T D1) As (table_as_is T (results f) D1) (table_stays T D1 (results f) has.list.0 (goes_on D1 (results f) (Table has.list.0) still has.list.1)) (λ D2 next. as_is_then T D D1 D2 still next)))
      (λ D1 still. listed_stays D1 still)

-- ---- the tree after it

module _ (T : Tree) (o : Outcome) (D D' : Changed) (still : IsAsIs T D D') where
  abbrev Old : Tree
  Old = after T (with_changes o D)

  abbrev New : Tree
  New = after T (with_changes o D')

  -- the objects are the same
  objects_same : object_at New ≡ object_at Old
  objects_same = sym (after_now T (with_changes o D')) ∙ still.now ∙ after_now T (with_changes o D)

  -- where no other node stood none stands
  none_comes : (q : ℕ) → node_at Old.others q ≡ None → node_at New.others q ≡ None
  none_comes q none = other_after T (with_changes o D') q ∙ elim (still.puts q) [
    | inl same ↦ ap (λ (x : Option (Option Object)). cond {A = Option NodeRec} (is_some x) None (node_at T.others q)) same ∙ sym (other_after T (with_changes o D) q) ∙ none
    | inr put ↦ rw put.0 refl
  ]

  -- an id is taken just where it was
  taken_same : (q : ℕ) → is_taken New q ≡ is_taken Old q
  taken_same q =
      let stands : is_some (object_at New q) ≡ is_some (object_at Old q) = ap (λ at. is_some (at q)) objects_same in
      elim (still.puts q) [
        | inl same ↦
            let other : node_at New.others q ≡ node_at Old.others q =
            other_after T (with_changes o D') q ∙ ap (λ (x : Option (Option Object)). cond {A = Option NodeRec} (is_some x) None (node_at T.others q)) same ∙ sym (other_after T (with_changes o D) q) in
            rw (stands, other) refl
        | inr put ↦
            let here : is_some (object_at New q) ≡ true = ap (λ at. is_some (at q)) (sym (after_now T (with_changes o D'))) ∙ put.1 in
            let there : is_some (object_at Old q) ≡ true = sym stands ∙ here in
            rw (here, there) refl
      ]

  -- so a row names what it named
  named_same : (r : ℕ) → named_sort New r ≡ named_sort Old r
  named_same r = rw (taken_same r) refl

  -- an opening finds the tree
  found_same : (beside : ℕ → Type 0) → IsFoundBeside beside Old → IsFoundBeside beside New
  found_same beside found = record {
    listed = λ g p t r sort e plain there row named. found.listed g p t r sort e plain (ap (λ at. at (hierarchy g)) (sym objects_same) ∙ there) row (sym (named_same r) ∙ named);
    reached = found.reached;
    owned = λ q x there. found.owned q x (ap (λ at. at q) (sym objects_same) ∙ there);
  }

  -- what was kept in order is so still
  pub order_same : KeepsOrder T o D → KeepsOrder T o D'
  order_same keeps = record {
    whole = λ before. let w = keeps.whole before in record {
      objects = subst (AreWhole o.places) (sym objects_same) w.objects;
      no_stray = λ f p e plain. none_comes (associated f) (w.no_stray f p e plain);
    };
    found = λ own before. found_same _ (keeps.found own before);
    mirrors = λ before s. subst (AreShown o.places) (sym objects_same) (keeps.mirrors before s);
    counts = λ before k. subst (AreCountedBut (λ x. ⊥) o.places) (sym objects_same) (keeps.counts before k);
    criteria = λ q seven. ap (λ at. at q) still.now ∙ keeps.criteria q seven;
    messages = λ q. ap (λ at. as_message (at q)) still.now ∙ keeps.messages q;
    tables = λ q t sixteen there. let u = keeps.tables q t sixteen there in (u.0, ap (λ at. at q) still.now ∙ u.1);
  }
